-- What the commands without a journal have to answer is what comes of their plans.
use Rattle.std.proofs.Common.{◌≡◌, ℕ, pos, Bool, true, false, nat_lt, List, [], ◌∷◌, ◌++◌, length}
use Rattle.std.proofs.Common.{None, Result, Ok, Err, codes, refl}
use Rattle.std.specs.Fmt.{decimal}
use Rattle.byte_formats.specs.Types.{HashFunction}
use Rattle.cert_fields.specs.Certificate.{parts_of}
use Rattle.entry_list.specs.Reading.{items_in}
use Rattle.landmarks.specs.Texts.{list_of}
use Rattle.policy_core.specs.Files.{store_of}
use Rattle.policy_core.specs.Judgement.{judgement}
use Rattle.policy_core.specs.declared.answer.Accepted.{Accepted}
use Rattle.policy_core.specs.declared.refusal.Refusal.{Refusal}
use Rattle.policy_core.specs.declared.refusal.Refusal.TheVariants.{Grammar, ProofGrammar}
use Rattle.tree_core.specs.declared.error.EvalError.{EvalError}
use Rattle.mtc_command.specs.Steps.{Files, Outcome, stops_at}
use Rattle.mtc_command.specs.declared.answer.Stopped.TheVariants.{BadForm}
use Rattle.mtc_cosigner.specs.KeygenOutcome.{keygen_outcome, keygen_says, with_secret}
use Rattle.mtc_drill.specs.Summary.{drill_outcome}
use Rattle.der_core.specs.Reasons.{cert_fault_text}
use Rattle.entry_list.specs.Reasons.{items_fault_text}
use Rattle.landmarks.specs.Reasons.{list_fault_text}
use Rattle.policy_core.specs.Reasons.{store_fault_text}
use Rattle.tls_wire.specs.Reasons.{hashes_fault_text}
use Rattle.mtc_relying.specs.TrustOutcome.{trust_outcome, trust_says, trust_text}
use Rattle.mtc_relying.specs.Member.{member_file, member_judgement}
use Rattle.mtc_relying.specs.MemberOutcome.{judgement_says, member_outcome, member_says}
use Rattle.mtc_relying.specs.ShowOutcome.{show_outcome, show_says, show_text}
use Rattle.mtc_relying.specs.VerifyOutcome.{verdict_says, verify_outcome, verify_says}
use Rattle.command_plans.specs.Kinds.{Kinds}
use Rattle.command_plans.specs.Outcomes.{outcome_of, step_outcome}
use Rattle.command_plans.specs.Plans.{Input, Journal, Read, Step, misreads}
use Rattle.command_plans.proofs.Forms.{bytes_same, form_same, test_same}
use Rattle.mtc_plans.specs.ReadPlans.{drill_plan, keygen_plan, member_judged}
use Rattle.mtc_plans.specs.ReadPlans.{member_plan, show_plan, trust_plan}
use Rattle.mtc_plans.specs.ReadPlans.{verdict_step, verify_plan}
use Rattle.mtc_plans.specs.Steps.{in_secret, list_file, small_file}
use Rattle.mtc_plans.proofs.Texts.{first_read, second_read, reported_alone}
use Rattle.mtc_cosigner.specs.KeygenOutcome.{lms_type, ots_type, public_line}
use Rattle.mtc_command.specs.declared.answer.Said.TheVariants.{Done}
use Rattle.command_plans.specs.Plans.{in_form, only_prints, prints}

judged_same : (index : ℕ) (r : Result Bool EvalError)
    → judgement_says index r ≡ reported_alone (member_judged index r)
judged_same index (Ok true) = refl
judged_same index (Ok false) = refl
judged_same index (Err why) = refl

-- a secret is tested
pub secret_same : (k : Kinds) (files : Files) (inputs : List Input) (journals : List (Journal k))
    (secret : Read inputs) (one : Outcome) (next : Step inputs journals)
    → one ≡ step_outcome journals next files
    → with_secret secret.file.name secret.text one
    ≡ step_outcome journals (in_secret secret next) files
secret_same k files inputs journals secret one next same =
    test_same journals files (nat_lt (length secret.text) 48)
    (stops_at BadForm secret.file.name (codes "Short " ++ decimal 0)) _
    (misreads secret (codes "Short " ++ decimal 0)) _ refl
    (test_same journals files (nat_lt 48 (length secret.text))
    (stops_at BadForm secret.file.name (codes "Trailing")) one
    (misreads secret (codes "Trailing")) next refl same)

module _ (k : Kinds) (h : HashFunction) (files : Files) (inputs : List Input) where
  member_same : (m : Read inputs) → member_says h m.file.name m.text
      ≡ step_outcome {k = k} [] (in_form m hashes_fault_text (member_file m.text)
      (λ p. only_prints (member_judged p.index (member_judgement h p)))) files
  member_same m = form_same [] files m hashes_fault_text (member_file m.text) _ _
      (λ p. judged_same p.index (member_judgement h p))

  show_same : (c : Read inputs) → show_says c.file.name c.text
      ≡ step_outcome {k = k} [] (in_form c cert_fault_text (parts_of c.text)
      (λ p. only_prints (prints Done (show_text p)))) files
  show_same c = form_same [] files c cert_fault_text (parts_of c.text) _ _ (λ p. refl)

  pub verdict_same : (c : Read inputs) (r : Result Accepted Refusal)
      → verdict_says c.file.name r ≡ step_outcome {k = k} [] (verdict_step c r) files
  verdict_same c (Ok accepted) = refl
  verdict_same c (Err (Grammar why)) = refl
  verdict_same c (Err (ProofGrammar why)) = refl
  verdict_same c (Err why) = refl

  verify_same : (unix_time : ℕ) (c s : Read inputs)
      → verify_says h c.file.name s.file.name unix_time c.text s.text
      ≡ step_outcome {k = k} [] (in_form s store_fault_text (store_of s.text)
      (λ trusted. verdict_step c (judgement h c.text trusted (pos unix_time)))) files
  verify_same unix_time c s = form_same [] files s store_fault_text (store_of s.text) _ _
      (λ trusted. verdict_same c (judgement h c.text trusted (pos unix_time)))

  trust_same : (most : ℕ) (l e : Read inputs)
      → trust_says h l.file.name most e.file.name l.text e.text
      ≡ step_outcome {k = k} [] (in_form e items_fault_text (items_in h e.text)
      (λ items. in_form l list_fault_text (list_of l.text most (length items.entries))
      (λ marks. only_prints (prints Done (trust_text h items.entries marks))))) files
  trust_same most l e = form_same [] files e items_fault_text (items_in h e.text) _ _
      (λ items. form_same [] files l list_fault_text (list_of l.text most (length items.entries))
      _ _ (λ list. refl))

  keygen_same : (height width : ℕ) (s : Read inputs)
      → keygen_says height width s.file.name s.text
      ≡ step_outcome {k = k} [] (in_secret s
      (only_prints (prints Done (public_line (lms_type height) None (ots_type width) s.text))))
      files
  keygen_same height width s = secret_same k files inputs [] s _ _ refl

module _ (k : Kinds) (h : HashFunction) where
  pub member_plans : (file : List ℕ) (files : Files)
      → member_outcome h file files ≡ outcome_of (member_plan {k = k} h file) files
  member_plans file files =
      let one = small_file file in
      bytes_same 16777216 file (files file) _ _
      (λ b. member_same k h files (one ∷ []) (first_read one [] b))

  pub show_plans : (cert : List ℕ) (files : Files)
      → show_outcome cert files ≡ outcome_of (show_plan {k = k} cert) files
  show_plans cert files =
      let one = small_file cert in
      bytes_same 16777216 cert (files cert) _ _
      (λ b. show_same k h files (one ∷ []) (first_read one [] b))

  pub verify_plans : (cert store : List ℕ) (unix_time : ℕ) (files : Files)
      → verify_outcome h cert store unix_time files
      ≡ outcome_of (verify_plan {k = k} h cert store unix_time) files
  verify_plans cert store unix_time files =
      let one = small_file cert in
      let two = small_file store in
      bytes_same 16777216 cert (files cert) _ _
      (λ b. bytes_same 16777216 store (files store) _ _
      (λ t. verify_same k h files (one ∷ (two ∷ [])) unix_time (first_read one (two ∷ []) b)
      (second_read one two [] t)))

  pub trust_plans : (list : List ℕ) (most : ℕ) (entries : List ℕ) (files : Files)
      → trust_outcome h list most entries files
      ≡ outcome_of (trust_plan {k = k} h list most entries) files
  trust_plans list most entries files =
      let one = small_file list in
      let two = list_file entries in
      bytes_same 16777216 list (files list) _ _
      (λ b. bytes_same 8589934592 entries (files entries) _ _
      (λ t. trust_same k h files (one ∷ (two ∷ [])) most (first_read one (two ∷ []) b)
      (second_read one two [] t)))

  pub keygen_plans : (height width : ℕ) (file : List ℕ) (files : Files)
      → keygen_outcome height width file files
      ≡ outcome_of (keygen_plan {k = k} height width file) files
  keygen_plans height width file files =
      let one = small_file file in
      bytes_same 16777216 file (files file) _ _
      (λ b. keygen_same k h files (one ∷ []) height width (first_read one [] b))

  pub drill_plans : (number : ℕ) (files : Files)
      → drill_outcome number ≡ outcome_of (drill_plan {k = k} number) files
  drill_plans number files = refl
