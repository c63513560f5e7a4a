use Rattle.std.proofs.Common.{◌≡◌, ◌∙◌, ◌++◌, List, Some, sym, ap, refl}
use Rattle.std.proofs.lemmas.Option.{same_Some}
use Rattle.byte_formats.specs.Types.{Text}
use Rattle.mtc_io.specs.Memory.{SinkState}
use Rattle.disk_core.specs.Memory.{bytes_of}
use Rattle.journal_core.specs.Format.{records_of}
use Rattle.cosigner_core.specs.ExportReading.{export_in}
use Rattle.cosigner_core.specs.Exports.{export_text}
use Rattle.journal_core.specs.Ends.{durable_of}
use Rattle.cosigner_core.specs.Words.{cosigner_disk, cosigner_end}
use Rattle.drill_parties.specs.CosignerViews.{cosigner_shown, records_shown}
use Rattle.drill_parties.proofs.Exported.{only_read_on, reads_again}
use Rattle.drill_parties.proofs.cosigner_party.CosignerParty.export.Goals as goal

pub invariant_of-self : goal.invariant_of-self
invariant_of-self g c =
    let e = c.export.ensures in
    let old = cosigner_disk c.args.self.now.cosigner in
    let new = cosigner_disk c.export.new.self in
    let bytes : bytes_of new ≡ bytes_of old =
    same_Some (bytes_of new) (bytes_of old) e.only_reads.contents in
    record {
      sound = e.same.broken ∙ c.args.self.now.sound;
      is_durable = e.same.list ∙ c.args.self.now.is_durable
          ∙ ap (λ (b : Text). Some (records_of b)) (sym bytes);
      stands = only_read_on g.H.TreeHash.hash (cosigner_shown c.args.self.now) _ old new bytes
          e.only_reads.crash e.same.state c.args.self.now.stands;
    }

pub returns-clause-same : goal.returns-clause-same
returns-clause-same g c =
    let e = c.export.ensures in
    record {
      state = e.same.state;
      records = ap records_of (same_Some (bytes_of (cosigner_disk c.export.new.self))
          (bytes_of (cosigner_disk c.args.self.now.cosigner)) e.only_reads.contents);
      stops = refl;
    }

pub returns-clause-read : goal.returns-clause-read
returns-clause-read g c = λ steps said.
    let self = c.args.self.now in
    let list : List Text =
    durable_of (cosigner_end self.cosigner) (bytes_of (cosigner_disk self.cosigner)) in
    let written : c.in_ok-text.text ≡ export_text (cosigner_shown self) list =
    c.in_ok-text.ensures ∙ c.taken.ensures ∙ c.in-Ok.ensures.written
    ∙ ap (λ (x : SinkState). x.taken ++ export_text (cosigner_shown self) list) c.new-out.ensures in
    ap (export_in g.H.TreeHash.hash) (written
    ∙ ap (export_text (cosigner_shown self)) (same_Some list (records_shown self) self.is_durable))
    ∙ reads_again g.H.TreeHash.hash (cosigner_shown self) (cosigner_disk self.cosigner) self.stands
    steps said
