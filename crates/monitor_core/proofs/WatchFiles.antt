-- A watch file is the lines of its domains.
use Rattle.std.proofs.Common.{◌≡◌, ℕ, zero, suc, ◌+◌, ◌≤◌, ◌||◌, Bool, true, false, List, [], ◌∷◌}
use Rattle.std.proofs.Common.{◌++◌, length, codes, Result, Ok, Err, refl, sym, ap, ◌∙◌, subst}
use Rattle.std.proofs.Common.{append_assoc, arith}
use Rattle.std.specs.Prelude.{◌==◌, not, if◌then◌else◌}
use Rattle.std.specs.List.{AllByRecursion, flat_map, join_with_byte, list_all, list_any}
use Rattle.std.specs.Str.{bytes_eq}
use Rattle.std.proofs.lemmas.Bool.{and_parts, eqb-true, ne_eqb}
use Rattle.std.proofs.lemmas.List.{length-append, nil_from_length}
use Rattle.std.proofs.lemmas.Slice.Eq.{bytes_eq-Decides}
use Rattle.byte_formats.specs.Readings.{◌>>=◌}
use Rattle.byte_formats.specs.Types.{Text}
use Rattle.byte_formats.proofs.Steps.{bind_ok, ok_is, pass_ok, some_or_ok}
use Rattle.cert_names.specs.Hosts.{are_labels, is_host_name, is_label, is_label_at, is_label_byte}
use Rattle.cert_names.proofs.Labels.{cut}
use Rattle.tls_wire.specs.Lines.{Lacks, first_line}
use Rattle.tls_wire.proofs.Cuts.{cut_again, cut_parts}
use Rattle.monitor_core.proofs.Domains.{opened}
use Rattle.monitor_core.proofs.Letters.{lacks_append, lacks_cons, lacks_failing, lacks_none}
use Rattle.monitor_core.specs.Reading.{domain_line, domain_lines, is_domain, line_with}
use Rattle.monitor_core.specs.Reading.{most_domains, watch_in}
use Rattle.monitor_core.specs.TextLaws.{AreWatched, IsDomain, WatchesAreReadAsWritten, domain_text}
use Rattle.monitor_core.specs.declared.error.TextError.{TextError}
use Rattle.monitor_core.specs.declared.error.TextError.TheVariants.{BadLine}

-- ---- a domain has no newline

label_lacks : (label : Text) → is_label label ≡ true → Lacks 0x0A label
unfolding is_label
label_lacks label is =
    lacks_failing is_label_byte 0x0A label refl (and_parts _ (list_all is_label_byte label) is).1

either_lacks : (b : Bool) (label : Text) → is_label label ≡ b
    → (b || bytes_eq label (codes "*")) ≡ true → Lacks 0x0A label
either_lacks true label same is = label_lacks label same
either_lacks false label same is =
    subst (Lacks 0x0A) (sym ((bytes_eq-Decides label (codes "*")).0 is))
    (lacks_cons 0x0A 0x2A [] (λ e. absurd (omega (arith, e))) (lacks_none 0x0A))

label_at_lacks : (first : Bool) (label : Text) → is_label_at first label ≡ true → Lacks 0x0A label
label_at_lacks true label is = either_lacks (is_label label) label refl is
label_at_lacks false label is = label_lacks label is

labels_lack : (first : Bool) (labels : List Text) → are_labels first labels ≡ true
    → Lacks 0x0A (join_with_byte 46 labels)
labels_lack first [] are = lacks_none 0x0A
labels_lack first (label ∷ []) are =
    label_at_lacks first label (and_parts (is_label_at first label) true are).0
labels_lack first (label ∷ next ∷ labels) are =
    let parts = and_parts (is_label_at first label) (are_labels false (next ∷ labels)) are in
    lacks_append 0x0A label (46 ∷ join_with_byte 46 (next ∷ labels))
    (label_at_lacks first label parts.0)
    (lacks_cons 0x0A 46 (join_with_byte 46 (next ∷ labels)) (λ e. absurd (omega (arith, e)))
    (labels_lack false (next ∷ labels) parts.1))

domain_lacks : (domain : Text) → is_domain domain ≡ true → Lacks 0x0A domain
domain_lacks domain is =
    let host = (and_parts (is_host_name domain) (not (list_any (λ b. b == 0x2A) domain)) is).0 in
    let parts = cut domain host in
    subst (Lacks 0x0A) (sym parts.joined) (labels_lack true parts.labels parts.each)

-- ---- lines of domains are read as them

domain_again : (n : ℕ) (domain more : Text) → is_domain domain ≡ true
    → domain_line n (domain ++ (0x0A ∷ more)) ≡ Ok (domain, more)
domain_again n domain more is =
    rw (cut_again 0x0A domain more (domain_lacks domain is), is) refl

domains_again : (domains : List Text) (left n : ℕ) → length domains ≤ left
    → AllByRecursion IsDomain domains
    → domain_lines left n (flat_map domain_text domains) ≡ Ok domains
unfolding domain_lines
domains_again [] zero n few are = refl
domains_again [] (suc left) n few are = refl
domains_again (domain ∷ domains) zero n few are = absurd (omega arith)
domains_again (domain ∷ domains) (suc left) n few are =
    let rest : Text = flat_map domain_text domains in
    let text : Text = domain ++ (0x0A ∷ rest) in
    let long = length-append domain (0x0A ∷ rest) in
    let some : (length text == 0) ≡ false = ne_eqb (length text) 0 (λ e. absurd (omega arith)) in
    let line = domain_again n domain rest are.0 in
    ap (domain_lines (suc left) n) (append_assoc domain (0x0A ∷ []) rest)
    ∙ opened left n text some
    ∙ ap (λ (r : Result (Text × Text) TextError). r >>= λ cut.
    domain_lines left (n + 1) cut.1 >>= λ more. Ok (cut.0 ∷ more)) line
    ∙ ap (λ (r : Result (List Text) TextError). r >>= λ more. Ok (domain ∷ more))
    (domains_again domains left (n + 1) (omega arith) are.1)

-- ---- what is read is lines of domains

record IsLine (text : Text) (cut : Text × Text) : Type 0 where
  domain : is_domain cut.0 ≡ true
  written : text ≡ cut.0 ++ (0x0A ∷ cut.1)

line_read : (n : ℕ) (text : Text) (cut : Text × Text) → domain_line n text ≡ Ok cut
    → IsLine text cut
line_read n text cut e =
    let s = bind_ok (line_with n text) (λ (c : Text × Text). if is_domain c.0 then Ok c
    else Err (BadLine n)) cut e in
    let t = pass_ok (is_domain s.0.0) (Ok s.0) (BadLine n) cut s.2 in
    subst (IsLine text) (ok_is TextError s.0 cut t.1) (record {
      domain = t.0;
      written = cut_parts 0x0A text s.0 (some_or_ok (BadLine n) (first_line text) s.0 s.1);
    })

record AreLines (left : ℕ) (text : Text) (domains : List Text) : Type 0 where
  few : length domains ≤ left
  each : AllByRecursion IsDomain domains
  written : text ≡ flat_map domain_text domains

no_lines : (left : ℕ) (text : Text) (domains : List Text) → (length text == 0) ≡ true
    → [] ≡ domains → AreLines left text domains
no_lines left text domains none same = subst (AreLines left text) same (record {
  few = omega arith;
  each = tt;
  written = nil_from_length text (eqb-true (length text) 0 none);
})

-- by how what follows the first line is read
one_read : (left n : ℕ) (text : Text) (domains : List Text)
    → ((rest : Text) (more : List Text) → domain_lines left (n + 1) rest ≡ Ok more
    → AreLines left rest more)
    → (b : Bool) → (length text == 0) ≡ b → domain_lines (suc left) n text ≡ Ok domains
    → AreLines (suc left) text domains
unfolding domain_lines
one_read left n text domains others true none e =
    let read : domain_lines (suc left) n text ≡ Ok [] = rw none refl in
    no_lines (suc left) text domains none (ok_is TextError [] domains (sym read ∙ e))
one_read left n text domains others false some e =
    let s = bind_ok (domain_line n text) (λ (cut : Text × Text).
    domain_lines left (n + 1) cut.1 >>= λ more. Ok (cut.0 ∷ more)) domains
    (sym (opened left n text some) ∙ e) in
    let cut : Text × Text = s.0 in
    let u = bind_ok (domain_lines left (n + 1) cut.1) (λ (more : List Text). Ok (cut.0 ∷ more))
    domains s.2 in
    let line = line_read n text cut s.1 in
    let lines = others cut.1 u.0 u.1 in
    subst (AreLines (suc left) text) (ok_is TextError (cut.0 ∷ u.0) domains u.2) (record {
      few = let few = lines.few in omega arith;
      each = (line.domain, lines.each);
      written = line.written
          ∙ ap (λ t. cut.0 ++ (0x0A ∷ t)) lines.written
          ∙ sym (append_assoc cut.0 (0x0A ∷ []) (flat_map domain_text u.0));
    })

domains_read : (left n : ℕ) (text : Text) (domains : List Text)
    → domain_lines left n text ≡ Ok domains → AreLines left text domains
unfolding domain_lines
domains_read zero n text domains e =
    let s = pass_ok (length text == 0) (Ok []) (BadLine n) domains e in
    no_lines 0 text domains s.0 (ok_is TextError [] domains s.1)
domains_read (suc left) n text domains e =
    one_read left n text domains (λ rest more read. domains_read left (n + 1) rest more read)
    (length text == 0) refl e

pub WatchesAreReadAsWritten_always : WatchesAreReadAsWritten
unfolding watch_in
WatchesAreReadAsWritten_always = record {
  read = λ text domains e.
      let lines = domains_read most_domains 0 text domains e in
      (record { few = lines.few; each = lines.each }, lines.written);
  again = λ domains are. domains_again domains most_domains 0 are.few are.each;
}
