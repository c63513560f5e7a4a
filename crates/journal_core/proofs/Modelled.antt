-- Facts of the bytes of a disk, if the model knows them.
use Rattle.std.proofs.Common.{◌≡◌, List, ℕ, Option, Some, None, IfSome, option_map, refl, sym}
use Rattle.std.proofs.Common.{subst, ◌∙◌}
use Rattle.journal_core.specs.Format.{records_of}

pub if_modelled : {X : Type 0} (P : X → Type 0) (contents : Option X)
    → ((x : X) → contents ≡ Some x → P x)
    → IfSome contents P
if_modelled P None is = tt
if_modelled P (Some x) is = is x refl

pub at_contents : {X : Type 0} (P : X → Type 0) (contents : Option X) (x : X) → contents ≡ Some x
    → IfSome contents P → P x
at_contents {X} P contents x is fact = subst (λ (o : Option X). IfSome o P) is fact

-- if the model knows the bytes of a disk after a write, it knew them before, and they are the old
-- ones overwritten
pub contents_before : (old new : Option (List ℕ)) (write : List ℕ → List ℕ) (now : List ℕ)
    → new ≡ option_map write old → new ≡ Some now
    → (was : List ℕ) × (old ≡ Some was) × (now ≡ write was)
contents_before None new write now is contents = let wrong : None ≡ Some now =
    sym is ∙ contents in cc
contents_before (Some was) new write now is contents =
    (was, refl, (let same : Some (write was) ≡ Some now = sym is ∙ contents in cc))

-- a fact of the records, if the model knows the bytes of the disk
pub of_records : (P : List (List ℕ) → Type 0) (contents : Option (List ℕ))
    → ((b : List ℕ) → contents ≡ Some b → P (records_of b))
    → IfSome (option_map records_of contents) P
of_records P None is = tt
of_records P (Some b) is = is b refl

pub if_some : {X : Type 0} (P Q : X → Type 0) (contents : Option X) → ((x : X) → P x → Q x)
    → IfSome contents P → IfSome contents Q
if_some P Q None is fact = tt
if_some P Q (Some x) is fact = is x fact
