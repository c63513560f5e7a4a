use Rattle.std.proofs.Common.{refl}
use Rattle.std.specs.List.{list_any}
use Rattle.cert_fields.specs.Extensions.{is_unknown_critical}
use Rattle.cert_fields.specs.Views.{extension_fields}
use Rattle.cert_fields.proofs.Walks.{seeks_more, seeks_found, seeks_end}
use Rattle.cert_fields.proofs.extensions.any_unknown_critical.Goals as goal

pub loop-extension-init : goal.loop-extension-init
loop-extension-init c = refl

pub returns-then-is_unknown_critical : goal.returns-then-is_unknown_critical
returns-then-is_unknown_critical c =
    seeks_found (list_any is_unknown_critical) _ c.loop-extension.reader
    (extension_fields c.in-Ok.extension) c.next_extension.new.reader _
    c.in-Ok.ensures.exact
    (λ xs. rw (← c.if-is_unknown_critical.ensures) refl) c.loop-extension.invariant

pub loop-extension-preserved : goal.loop-extension-preserved
loop-extension-preserved c =
    seeks_more (list_any is_unknown_critical) _ c.loop-extension.reader
    (extension_fields c.in-Ok.extension) c.next_extension.new.reader
    c.in-Ok.ensures.exact
    (λ xs. rw (← c.if-is_unknown_critical.ensures) refl) c.loop-extension.invariant

pub returns : goal.returns
returns c = seeks_end (list_any is_unknown_critical) _ c.loop-extension.reader _
    c.in_default.ensures.exact c.loop-extension.invariant
