use Rattle.std.proofs.Common.{List, ap, ◌++◌, ◌∙◌}
use Rattle.std.proofs.lemmas.List.{append-nil}
use Rattle.byte_formats.specs.Types.{Text}
use Rattle.issuance_log.specs.Records.{tiles_record}
use Rattle.mirror_core.specs.Records.{all_mirrored, mirror_batch_record}
use Rattle.mirror_core.proofs.Encoded.{batch_again, tiles_no_batch}
use Rattle.mirror_core.proofs.Keeping.{all_more, items_are, no_items}
use Rattle.mirror_core.proofs.Rules.{shown_so}
use Rattle.mirror_core.proofs.Sound.{sound_of}
use Rattle.mirror_core.proofs.laws.law_records_determine_the_items.Goals as goal

pub returns-clause-whole : goal.returns-clause-whole
returns-clause-whole c = shown_so

pub returns-clause-sound : goal.returns-clause-sound
returns-clause-sound c = sound_of

pub returns-clause-batched : goal.returns-clause-batched
returns-clause-batched c = λ list items can.
    all_more list (mirror_batch_record items)
    ∙ ap (λ (l : List (Text × Text)). all_mirrored list ++ l)
    (items_are (mirror_batch_record items) items (batch_again items can))

pub returns-clause-tiled : goal.returns-clause-tiled
returns-clause-tiled c = λ list size.
    all_more list (tiles_record size)
    ∙ ap (λ (l : List (Text × Text)). all_mirrored list ++ l)
    (no_items (tiles_record size) (tiles_no_batch size))
    ∙ append-nil (all_mirrored list)
