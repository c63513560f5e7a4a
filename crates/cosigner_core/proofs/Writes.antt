-- Pieces that are appended one after the other.
use Rattle.std.proofs.Common.{◌≡◌, List, [], ◌++◌, ap, ◌∙◌}
use Rattle.std.proofs.lemmas.List.{append_assoc}
use Rattle.byte_formats.specs.Types.{Hash, Text}
use Rattle.tls_wire.specs.Encoding.{hashes}

-- the last of them is the encoding of hashes
pub four_pieces : (o first second third last a b c : Text) (items proof : List Hash)
    → o ≡ [] → first ≡ o ++ a → second ≡ first ++ b → third ≡ second ++ c
    → last ≡ third ++ hashes items → items ≡ proof
    → last ≡ a ++ (b ++ (c ++ hashes proof))
four_pieces o first second third last a b c items proof o_is first_is second_is third_is
    last_is items_is =
    last_is
    ∙ ap (λ x. third ++ hashes x) items_is
    ∙ ap (λ t. t ++ hashes proof) third_is
    ∙ append_assoc second c (hashes proof)
    ∙ ap (λ s. s ++ (c ++ hashes proof)) second_is
    ∙ append_assoc first b (c ++ hashes proof)
    ∙ ap (λ f. f ++ (b ++ (c ++ hashes proof))) (first_is ∙ ap (λ n. n ++ a) o_is)

pub five_pieces : (o first second third fourth last a b c d : Text) (items proof : List Hash)
    → o ≡ [] → first ≡ o ++ a → second ≡ first ++ b → third ≡ second ++ c → fourth ≡ third ++ d
    → last ≡ fourth ++ hashes items → items ≡ proof
    → last ≡ a ++ (b ++ (c ++ (d ++ hashes proof)))
five_pieces o first second third fourth last a b c d items proof o_is first_is second_is third_is
    fourth_is last_is items_is =
    last_is
    ∙ ap (λ x. fourth ++ hashes x) items_is
    ∙ ap (λ t. t ++ hashes proof) fourth_is
    ∙ append_assoc third d (hashes proof)
    ∙ ap (λ t. t ++ (d ++ hashes proof)) third_is
    ∙ append_assoc second c (d ++ hashes proof)
    ∙ ap (λ s. s ++ (c ++ (d ++ hashes proof))) second_is
    ∙ append_assoc first b (c ++ (d ++ hashes proof))
    ∙ ap (λ f. f ++ (b ++ (c ++ (d ++ hashes proof)))) (first_is ∙ ap (λ n. n ++ a) o_is)
