-- What a disk reads is one of its crash states.
use Rattle.std.proofs.Common.{◌≡◌, Option, Some, None, refl}
use Rattle.std.specs.Option.{IfSome}
use Rattle.byte_formats.specs.Types.{Text}

pub contents_read : (contents : Option Text) (P : Text → Type 0)
    → ((b : Text) → contents ≡ Some b → P b) → IfSome contents P
contents_read (Some b) P reads = reads b refl
contents_read None P reads = tt
