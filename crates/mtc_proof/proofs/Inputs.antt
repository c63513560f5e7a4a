-- What a cosigner signs has one meaning.
use Rattle.std.proofs.Common.{◌≡◌, ℕ, ◌^◌, ◌<◌, ◌++◌, length, ap, ◌∙◌}
use Rattle.std.specs.Int.{w8, w64}
use Rattle.std.proofs.lemmas.List.{append_cancel_left}
use Rattle.byte_formats.specs.Types.{Hash, Text}
use Rattle.byte_formats.proofs.FormLaws.{one_form}
use Rattle.tls_wire.specs.Encoding.{number, vector}
use Rattle.tls_wire.proofs.Numbers.{wide8, word_form}
use Rattle.tls_wire.proofs.Vectors.{vector_form}
use Rattle.mtc_proof.specs.Inputs.{InputParts, IsInput, input_label, input_text}

abbrev input_of : Text → Text → ℕ → ℕ → Hash → InputParts
input_of cosigner log start end hash = record {
  cosigner = cosigner;
  log = log;
  start = start;
  end = end;
  hash = hash;
}

same_parts : (c d g h : Text) (s t e f : ℕ) (x y : Hash) → c ≡ d → g ≡ h → s ≡ t → e ≡ f → x ≡ y
    → input_of c g s e x ≡ input_of d h t f y
same_parts c d g h s t e f x y cosigners logs starts ends hashes =
    ap (λ z. input_of z g s e x) cosigners
    ∙ ap (λ z. input_of d z s e x) logs
    ∙ ap (λ z. input_of d h z e x) starts
    ∙ ap (λ z. input_of d h t z x) ends
    ∙ ap (λ z. input_of d h t f z) hashes

same_id : (c d x y : Text) → length c < 2 ^ 8 → length d < 2 ^ 8
    → vector w8 c ++ x ≡ vector w8 d ++ y → (c ≡ d) × (x ≡ y)
same_id = one_form (vector_form w8 (2 ^ 8) wide8)

same_word : (m n : ℕ) (x y : Text) → m < 2 ^ 64 → n < 2 ^ 64
    → number w64 m ++ x ≡ number w64 n ++ y → (m ≡ n) × (x ≡ y)
same_word = one_form word_form

pub one_input : (p q : InputParts) → IsInput p → IsInput q → input_text p ≡ input_text q → p ≡ q
unfolding input_text
one_input p q x y same =
    let fields = append_cancel_left input_label _ _ same in
    let cosigner = same_id p.cosigner q.cosigner _ _ x.cosigner y.cosigner fields in
    let log = same_id p.log q.log _ _ x.log y.log cosigner.1 in
    let start = same_word p.start q.start _ _ x.start y.start log.1 in
    let end = same_word p.end q.end _ _ x.end y.end start.1 in
    same_parts p.cosigner q.cosigner p.log q.log p.start q.start p.end q.end p.hash q.hash
    cosigner.0 log.0 start.0 end.0 end.1
