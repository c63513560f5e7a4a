use Rattle.std.proofs.Common.{◌≡◌}
use Rattle.mirror_core.specs.Counted.{mirror_keeps}
use Rattle.mirror_core.specs.Folds.{mirror_with, view_in_mirror}
use Rattle.mirror_core.specs.Rules.{IsSoundMirror}
use Rattle.mirror_core.specs.Words.{mirror_records, mirror_view}
use Rattle.mirror_core.proofs.Keeping.{shown_view}
use Rattle.mirror_core.proofs.Rereading.{shown_of}
use Rattle.mirror_core.proofs.Sound.{sound_of}
use Rattle.mirror_core.proofs.mirror.Mirror.law_sound.Goals as goal

pub returns-clause-view : goal.returns-clause-view
returns-clause-view g c =
    let mirror = c.args.self.now in
    shown_of (mirror_view mirror) (λ s. view_in_mirror s ≡ mirror_view mirror)
    (mirror_records mirror) (mirror_keeps mirror)
    (λ list is. shown_view (mirror_view mirror) list is.all)

pub returns-clause-items : goal.returns-clause-items
returns-clause-items g c =
    let mirror = c.args.self.now in
    shown_of (mirror_view mirror) (IsSoundMirror g.H.TreeHash.hash) (mirror_records mirror)
    (mirror_keeps mirror) (λ list is. sound_of g.H.TreeHash.hash list
    (mirror_with (mirror_view mirror) list) is.made)
