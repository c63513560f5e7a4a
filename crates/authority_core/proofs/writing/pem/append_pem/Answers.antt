use Rattle.std.proofs.Common.{◌≡◌, subst, ◌∙◌}
use Rattle.std.specs.Prelude.{OnOk}
use Rattle.byte_formats.specs.Types.{Text}
use Rattle.authority_core.proofs.Lines.{pem_is}
use Rattle.authority_core.proofs.writing.pem.append_pem.Goals as goal

pub returns : goal.returns
returns c =
    subst (λ (t : Text). OnOk c.append-2.result (c.append-2.new.self ≡ t))
    (pem_is c.args.out.now c.append.new.self c.append_lines.new.out c.as_bytes.result.now
    c.args.der.now c.in_ok-append.ensures.ok c.in_ok-append_lines.ensures
    (c.as_bytes.ensures.value ∙ c.in_ok-text.ensures)) c.append-2.ensures.ok
