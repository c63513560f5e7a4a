use Rattle.std.proofs.Common.{refl}
use Rattle.cert_fields.specs.Extensions.{alt_name_octets}
use Rattle.cert_fields.specs.Views.{extension_fields}
use Rattle.cert_fields.proofs.Walks.{seeks_more, seeks_found, seeks_end}
use Rattle.cert_fields.proofs.extensions.alt_name.Goals as goal

pub loop-extension-init : goal.loop-extension-init
loop-extension-init c = refl

pub returns-then-is_subject_alt_name : goal.returns-then-is_subject_alt_name
returns-then-is_subject_alt_name c =
    seeks_found alt_name_octets _ c.loop-extension.reader (extension_fields c.in-Ok.extension)
    c.next_extension.new.reader _
    c.in-Ok.ensures.exact
    (λ xs. rw (← c.if-is_subject_alt_name.ensures) refl) c.loop-extension.invariant

pub loop-extension-preserved : goal.loop-extension-preserved
loop-extension-preserved c =
    seeks_more alt_name_octets _ c.loop-extension.reader (extension_fields c.in-Ok.extension)
    c.next_extension.new.reader
    c.in-Ok.ensures.exact
    (λ xs. rw (← c.if-is_subject_alt_name.ensures) refl) c.loop-extension.invariant

pub returns : goal.returns
returns c = seeks_end alt_name_octets _ c.loop-extension.reader _ c.in_default.ensures.exact
    c.loop-extension.invariant
