use Rattle.byte_formats.specs.Forms.{Anything}
use Rattle.cert_time.specs.Periods.{period}
use Rattle.cert_fields.specs.Times.{validity_at}
use Rattle.cert_fields.specs.Grammar.{IsValidity}
use Rattle.cert_fields.proofs.FieldForms.{validity_form}
use Rattle.cert_fields.proofs.Offsets.{read_within}
use Rattle.cert_fields.proofs.checks.check_validity.Goals as goal

pub returns-clause-within : goal.returns-clause-within
returns-clause-within c =
    read_within (λ v. v.0) IsValidity Anything validity_at validity_form c.args.input.now
    c.args.place (λ i. (c.type_inv.input i).fits) c.requires
    c.at-reader.result (
      c.in_ok-unix_times.field-0-0.now,
      period c.in_ok-unix_times.unix_times,
    ) c.read_validity.new.reader c.place.result
    c.at-reader.ensures c.in_ok-unix_times.ensures c.place.ensures
