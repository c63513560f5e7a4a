-- The plans of `member`, `show`, `verify`, `trust-landmarks`, `keygen` and `drill`, which open no
-- journal.
use Rattle.std.specs.Prelude.{ℕ, pos, Bool, true, false, List, [], ◌∷◌, ◌++◌, length, codes}
use Rattle.std.specs.Prelude.{None, Result, Ok, Err}
use Rattle.std.specs.Fmt.{decimal}
use Rattle.byte_formats.specs.Types.{HashFunction, Text}
use Rattle.cert_fields.specs.Certificate.{parts_of}
use Rattle.entry_list.specs.Reading.{items_in}
use Rattle.landmarks.specs.Texts.{list_of}
use Rattle.policy_core.specs.Files.{store_of}
use Rattle.policy_core.specs.Judgement.{judgement}
use Rattle.policy_core.specs.declared.answer.Accepted.{Accepted}
use Rattle.policy_core.specs.declared.refusal.Refusal.{Refusal}
use Rattle.policy_core.specs.declared.refusal.Refusal.TheVariants.{Grammar, ProofGrammar}
use Rattle.tree_core.specs.declared.error.EvalError.{EvalError}
use Rattle.mtc_command.specs.declared.answer.Said.TheVariants.{Done}
use Rattle.mtc_cosigner.specs.KeygenOutcome.{lms_type, ots_type, public_line}
use Rattle.mtc_drill.specs.Summary.{is_summary}
use Rattle.der_core.specs.Reasons.{cert_fault_text}
use Rattle.entry_list.specs.Reasons.{items_fault_text}
use Rattle.landmarks.specs.Reasons.{list_fault_text}
use Rattle.mtc_proof.specs.Reasons.{proof_fault_text}
use Rattle.policy_core.specs.Reasons.{refusal_text, store_fault_text}
use Rattle.tls_wire.specs.Reasons.{hashes_fault_text}
use Rattle.tree_core.specs.Reasons.{shape_text}
use Rattle.mtc_relying.specs.TrustOutcome.{trust_text}
use Rattle.mtc_relying.specs.Member.{member_file, member_judgement}
use Rattle.mtc_relying.specs.ShowOutcome.{show_text}
use Rattle.command_plans.specs.Kinds.{Kinds}
use Rattle.command_plans.specs.Plans.{Input, Judged, Plan, Read, Step, in_form, misreads}
use Rattle.command_plans.specs.Plans.{only_prints, prints, prints_formed}
use Rattle.mtc_plans.specs.Steps.{list_file, in_secret, prints_against, small_file}

-- ---- member FILE

-- What is answered to a judgement on the entry of this index.
abbrev pub member_judged : ℕ → Result Bool EvalError → Judged
member_judged index (Ok true) = prints Done (codes "member " ++ (decimal index ++ codes "\n"))
member_judged index (Ok false) = prints_against (codes "HashDiffers")
member_judged index (Err why) = prints_against (shape_text why)

-- The file is cut into its parts and judged.
abbrev pub member_plan : {k : Kinds} → HashFunction → Text → Plan k
member_plan h file = record {
  inputs = small_file file ∷ [];
  journals = [];
  steps = λ (f, none). in_form f hashes_fault_text (member_file f.text)
      (λ m. only_prints (member_judged m.index (member_judgement h m)));
}

-- ---- show CERT

abbrev pub show_plan : {k : Kinds} → Text → Plan k
show_plan cert = record {
  inputs = small_file cert ∷ [];
  journals = [];
  steps = λ (c, none). in_form c cert_fault_text (parts_of c.text)
      (λ p. only_prints (prints Done (show_text p)));
}

-- ---- verify CERT STORE NOW

-- What comes of a judgement. Bytes that are no certificate or no proof are faults of the file.
abbrev pub verdict_step : {k : Kinds} {inputs : List Input} → Read inputs
    → Result Accepted Refusal → Step {k = k} inputs []
verdict_step cert (Ok accepted) =
    only_prints (prints Done (codes "accepted " ++ (decimal accepted.index ++ codes "\n")))
verdict_step cert (Err (Grammar why)) = misreads cert (cert_fault_text why)
verdict_step cert (Err (ProofGrammar why)) = misreads cert (proof_fault_text why)
verdict_step cert (Err why) = only_prints (prints_against (refusal_text why))

-- The store is read, and the certificate is judged by it.
abbrev pub verify_plan : {k : Kinds} → HashFunction → Text → Text → ℕ → Plan k
verify_plan h cert store unix_time = record {
  inputs = small_file cert ∷ (small_file store ∷ []);
  journals = [];
  steps = λ (c, (s, none)). in_form s store_fault_text (store_of s.text)
      (λ trusted. verdict_step c (judgement h c.text trusted (pos unix_time)));
}

-- ---- trust-landmarks LIST MAXACTIVE ENTRIES

-- The entries are read, and then the list, of landmarks at no larger size than their number.
abbrev pub trust_plan : {k : Kinds} → HashFunction → Text → ℕ → Text → Plan k
trust_plan h list most entries = record {
  inputs = small_file list ∷ (list_file entries ∷ []);
  journals = [];
  steps = λ (l, (e, none)). in_form e items_fault_text (items_in h e.text)
      (λ items. in_form l list_fault_text (list_of l.text most (length items.entries))
      (λ marks. only_prints (prints Done (trust_text h items.entries marks))));
}

-- ---- keygen HEIGHT WIDTH SECRET

abbrev pub keygen_plan : {k : Kinds} → ℕ → ℕ → Text → Plan k
keygen_plan height width file = record {
  inputs = small_file file ∷ [];
  journals = [];
  steps = λ (s, none). in_secret s
      (only_prints (prints Done (public_line (lms_type height) None (ots_type width) s.text)));
}

-- ---- drill NUMBER

abbrev pub drill_plan : {k : Kinds} → ℕ → Plan k
drill_plan number = record {
  inputs = [];
  journals = [];
  steps = λ none. only_prints (prints_formed Done (is_summary number));
}
