-- A mirror keeps its items whatever records follow its own.
use Rattle.std.proofs.Common.{◌≡◌, List, [], ◌∷◌, ◌++◌, length, Ok, ap, sym, ◌∙◌, append_assoc}
use Rattle.byte_formats.specs.Types.{HashFunction, Text}
use Rattle.file_events.specs.Executions.{IsPrefix}
use Rattle.journal_core.proofs.Folds.{state_more}
use Rattle.mirror_core.specs.Folds.{MirrorState, mirror_fold, mirror_of}
use Rattle.mirror_core.specs.Records.{all_mirrored, mirrored_by}
use Rattle.mirror_core.proofs.After.{following_more}
use Rattle.mirror_core.proofs.Keeping.{HasMore}
use Rattle.party_history.specs.Laws.{KeepsMirroredItems}

-- the items of the records that follow stand after its own
more_after : (h : HashFunction) (list more : List Text) (s t : MirrorState)
    → mirror_of h list ≡ Ok s → mirror_of h (list ++ more) ≡ Ok t
    → HasMore s t (all_mirrored more)
more_after h list more s t is whole =
    following_more h (length list) s t more
    (sym (state_more (mirror_fold h) list more s is) ∙ whole)

pub mirror_kept : (h : HashFunction) (list more : List Text) (s t : MirrorState)
    → mirror_of h list ≡ Ok s → mirror_of h (list ++ more) ≡ Ok t → KeepsMirroredItems s t
mirror_kept h list more s t is whole =
    let has = more_after h list more s t is whole in
    record { log = has.log; items = (all_mirrored more, sym has.items) }

-- the items that are added stand right after those before them
pub mirror_added : (h : HashFunction) (list : List Text) (body : Text) (more : List Text)
    (s t : MirrorState) → mirror_of h list ≡ Ok s
    → mirror_of h ((list ++ body ∷ []) ++ more) ≡ Ok t
    → IsPrefix (s.items ++ mirrored_by body) t.items
mirror_added h list body more s t is whole =
    let joined = ap (λ (l : List Text). mirror_of h l) (append_assoc list (body ∷ []) more) in
    let has = more_after h list (body ∷ more) s t is (sym joined ∙ whole) in (
      all_mirrored more,
      append_assoc s.items (mirrored_by body) (all_mirrored more) ∙ sym has.items,
    )
