-- What an audit finds.
use Rattle.std.proofs.Common.{◌≡◌, ◌≢◌, ℕ, ◌-◌, ◌<◌, ◌≤◌, Bool, true, false, List, [], ◌∷◌, ◌++◌}
use Rattle.std.proofs.Common.{length, get_or, drop, Some, None, Ok, Err, refl, sym, ap}
use Rattle.std.proofs.Common.{subst, ◌∙◌, arith, ltb-true, ltb-false, eqb-true, true≢false}
use Rattle.std.proofs.lemmas.Bool.{leb-true, and_parts, not-false}
use Rattle.std.specs.Prelude.{Result, Option, bytes_eq, nat_lt, nat_le, not, ◌&&◌, ◌||◌, ◌==◌}
use Rattle.std.specs.Prelude.{IfSome, if◌then◌else◌, ok_or}
use Rattle.std.specs.List.{Contains, position}
use Rattle.std.proofs.lemmas.List.{get_or_default, length-drop, take_all}
use Rattle.std.proofs.lemmas.List.Quantifiers.{position-Some}
use Rattle.std.proofs.Math.Seq.{take-length}
use Rattle.std.proofs.lemmas.List.Elements.{Contains-append_left, Contains-append_right}
use Rattle.std.proofs.lemmas.Slice.Eq.{bytes_eq-Decides}
use Rattle.byte_formats.specs.Types.{Hash, HashFunction, Text}
use Rattle.byte_formats.specs.Readings.{◌>>=◌, lifted}
use Rattle.byte_formats.proofs.Steps.{bind_ok, guard_ok, lifted_ok, ok_is}
use Rattle.cert_fields.specs.Certificate.{Parts}
use Rattle.cert_fields.specs.Grammar.{IsCertificate}
use Rattle.tree_core.specs.Evaluation.{evaluation, eval_of}
use Rattle.tree_core.specs.declared.error.EvalError.{EvalError}
use Rattle.tree_core.specs.declared.error.EvalError.TheVariants.{BadSubtree, Outside, WrongLength}
use Rattle.tree_core.specs.Path.{part_of}
use Rattle.tree_core.specs.Subtree.{is_subtree}
use Rattle.tree_core.specs.Tree.{leaf_hash, tree_hash}
use Rattle.tree_proofs.proofs.Parts.{part_of-zero}
use Rattle.tree_proofs.specs.declared.checkpoint.Checkpoint.{Checkpoint}
use Rattle.log_entry.specs.EntryOf.{entry_of}
use Rattle.log_entry.specs.Forms.{algorithm_for}
use Rattle.log_entry.specs.Matching.{algorithm_agrees, holds, matches}
use Rattle.log_entry.specs.declared.entry.Form.{Form}
use Rattle.log_entry.specs.Reading.{entry_in}
use Rattle.log_entry.proofs.Matches.{certificate_entry}
use Rattle.entry_list.specs.Items.{ItemLists, has_key, is_key_of}
use Rattle.cert_fields.specs.Keys.{is_public_key}
use Rattle.mtc_proof.specs.Proofs.{ProofParts}
use Rattle.mtc_proof.specs.Reading.{proof_in}
use Rattle.cosigner_core.specs.declared.lists.Export.{Export}
use Rattle.cosigner_core.specs.declared.step.Step.{Step}
use Rattle.cosigner_core.specs.declared.step.Step.TheVariants.{Advance, Child, Sign}
use Rattle.policy_core.specs.Judgement.{admitted, decided, entry_by, form_by, judged}
use Rattle.policy_core.specs.declared.answer.Accepted.{Accepted}
use Rattle.policy_core.specs.declared.answer.By.{By}
use Rattle.policy_core.specs.declared.answer.By.TheVariants.{Cosigners, Landmark}
use Rattle.policy_core.specs.declared.refusal.Refusal.{Refusal}
use Rattle.policy_core.specs.declared.refusal.Refusal.TheVariants.{ProofGrammar, ProofShape}
use Rattle.policy_core.specs.declared.store.Store.{Store}
use Rattle.policy_core.proofs.Judgements.{decided_only}
use Rattle.collide.specs.Extraction.{Extracts}
use Rattle.collide.specs.Inputs.{eval_inputs_of, inputs_of}
use Rattle.collide.specs.declared.finding.Finding.{Finding}
use Rattle.collide.specs.declared.finding.Finding.TheVariants.{Pair as Found, Same}
use Rattle.collide.proofs.Compared.{collision_widened}
use Rattle.cosigner_steps.specs.Steps.{AreSteps, HasPrefix, IsOfList, IsSign, IsWithin}
use Rattle.cosigner_steps.specs.Steps.{prefix_inputs, held_by_first, held_by, proof_inputs}
use Rattle.world_core.specs.Audit.{AuditCase, HasInterval, Decides, WasJudged, firsts_of}
use Rattle.world_core.specs.Audit.{foreign_in, prefix_inputs_of, has_own, hash_there, is_lacking}
use Rattle.world_core.specs.Audit.{is_sign_of, listed_entry, listed_key, of_checkpoint}
use Rattle.world_core.specs.Audit.{of_interval, proof_inputs_of}
use Rattle.world_core.specs.Audit.{IsAudit, IsForeign, DecidesRecorded, foreign_of, is_recorded}
use Rattle.world_core.specs.Audit.{is_recorded_by, is_supported, seconds_of, wanted_hash}
use Rattle.world_core.specs.declared.wanted.WantedHash.{WantedHash}
use Rattle.world_core.specs.declared.answer.Audit.{Audit}
use Rattle.world_core.specs.declared.answer.Audit.TheVariants.{Foreign, Pair, Stands, Unrecorded}
use Rattle.cosigner_steps.proofs.Holding.{sign_long}

-- ---- what was judged

pub eval_inside : (h : HashFunction) (leaf : Hash) (index start end : ℕ) (path : List Hash)
    (value : Hash) → evaluation h leaf index start end path ≡ Ok value
    → (start ≤ index) × (index < end)
unfolding evaluation
eval_inside h leaf index start end path value e =
    let rest : Result Hash EvalError = ok_or (eval_of h (index - start) (end - start) leaf path)
    WrongLength in
    let inner : Result Hash EvalError =
    if not (nat_le start index && nat_lt index end) then Err Outside else rest in
    let one = guard_ok (not (is_subtree start end)) BadSubtree inner value e in
    let two = guard_ok (not (nat_le start index && nat_lt index end)) Outside rest value one.1 in
    let test = not-false (nat_le start index && nat_lt index end) two.0 in
    let both = and_parts (nat_le start index) (nat_lt index end) test in
    (leb-true start index both.0, ltb-true index end both.1)

pub judged_path : (h : HashFunction) (store : Store) (c : Parts) (p : ProofParts) (a : Accepted)
    → WasJudged h store c p a
    → evaluation h (leaf_hash h (entry_by h store c)) a.index a.start a.end p.path ≡ Ok a.hash
unfolding judged
judged_path h store c p a w =
    let leaf = leaf_hash h (entry_by h store c) in
    let eval : ProofParts → Result Hash EvalError =
    λ q. evaluation h leaf c.serial q.start q.end q.path in
    let with_proof : ProofParts → Result Accepted Refusal =
    λ q. lifted ProofShape (eval q) >>= λ (hash : Hash). decided store c.serial q hash in
    let t = bind_ok (admitted store w.unix_time c) (λ (done
    : Unit {0}). lifted ProofGrammar (proof_in c.proof) >>= with_proof) a w.accepted in
    let u = bind_ok (lifted ProofGrammar (proof_in c.proof)) with_proof a t.2 in
    let q : ProofParts = u.0 in
    let read : proof_in c.proof ≡ Ok q = lifted_ok ProofGrammar (proof_in c.proof) q u.1 in
    let same : q ≡ p = ok_is _ q p (sym read ∙ w.proof) in
    let v = bind_ok (lifted ProofShape (eval q)) (λ (hash : Hash). decided store c.serial q hash) a
    u.2 in
    let known = (decided_only store c.serial q v.0 a v.2).known in
    let value : eval q ≡ Ok v.0 = lifted_ok ProofShape (eval q) v.0 v.1 in
    subst (λ (x : Accepted). evaluation h leaf x.index x.start x.end p.path ≡ Ok x.hash)
    (sym known) (subst (λ (r : ProofParts). evaluation h leaf c.serial q.start q.end r.path
    ≡ Ok v.0) same value)

-- ---- what is wanted

-- entries that are not there are left out
pub there_short : (h : HashFunction) (es : List Text) (w : WantedHash) → length es < w.end
    → tree_hash h (drop w.start es) ≡ hash_there h es w
there_short h es w short =
    ap (tree_hash h) (sym (take_all (w.end - w.start) (drop w.start es)
    (omega (arith, length-drop w.start es))))

or_false : (a b : Bool) → a || b ≡ false → (a ≡ false) × (b ≡ false)
or_false true b e = absurd cc
or_false false b e = (refl, e)

not_chosen : {A : Type 0} (b : Bool) (x : A) (y : Option A) → (if b then Some x else None) ≡ None
    → b ≡ false
not_chosen true x y e = absurd cc
not_chosen false x y e = refl

record IsThere (h : HashFunction) (entries : List Text) (w : WantedHash) : Type 0 where
  within : w.end ≤ length entries
  root : hash_there h entries w ≡ w.hash

not_foreign : (h : HashFunction) (entries : List Text) (w : WantedHash)
    → foreign_in h entries (Some w) ≡ None → IsThere h entries w
not_foreign h entries w e =
    let none = not_chosen (is_lacking h entries w) (w.hash, hash_there h entries w) None e in
    let two = or_false (nat_lt (length entries) w.end) (not (bytes_eq (hash_there h entries w)
    w.hash)) none in
    record {
      within = ltb-false (length entries) w.end two.0;
      root =
          (bytes_eq-Decides (hash_there h entries w) w.hash).0
          (not-false (bytes_eq (hash_there h entries w) w.hash) two.1);
    }

pub interval_there : (h : HashFunction) (items : ItemLists) (a : Accepted)
    → foreign_in h items.entries (Some (of_interval a)) ≡ None → HasInterval h items a
interval_there h items a e =
    let there = not_foreign h items.entries (of_interval a) e in
    record { within = there.within; root = there.root }

pub prefix_there : (h : HashFunction) (entries : List Text) (c : Checkpoint)
    → foreign_in h entries (Some (of_checkpoint c)) ≡ None → HasPrefix h entries c
prefix_there h entries c e =
    let there = not_foreign h entries (of_checkpoint c) e in
    record {
      within = there.within;
      root = ap (tree_hash h) (sym (part_of-zero entries c.size)) ∙ there.root;
    }

-- ---- the Sign

pub record IsSignOf (h : HashFunction) (entries : List Text) (a : Accepted) (step : Step)
    : Type 0 where
  pub sign : IsSign step
  pub within : (count : ℕ) → IsWithin count step → a.end ≤ count
  pub root : IsOfList h entries step → tree_hash h (part_of entries a.start a.end) ≡ a.hash

pub sign_of : (h : HashFunction) (entries : List Text) (a : Accepted) (step : Step)
    → is_sign_of a step ≡ true → IsSignOf h entries a step
sign_of h entries a (Advance size root proof) e = absurd cc
sign_of h entries a (Child child low) e = absurd cc
sign_of h entries a (Sign index start end hash proof) e =
    let one = and_parts (start == a.start) _ e in
    let two = and_parts (end == a.end) _ one.1 in
    let from : start ≡ a.start = eqb-true start a.start one.0 in
    let to : end ≡ a.end = eqb-true end a.end two.0 in
    let same : hash ≡ a.hash = (bytes_eq-Decides hash a.hash).0 two.1 in
    record {
      sign = tt;
      within = λ count w. let below = w.1 in omega arith;
      root = λ own.
          ap (λ (s : ℕ). tree_hash h (part_of entries s a.end)) (sym from)
          ∙ (ap (λ (e : ℕ). tree_hash h (part_of entries start e)) (sym to) ∙ (own ∙ same));
    }

-- ---- two keys

decides_false : (x y : Text) → (x ≡ y → ⊥) → bytes_eq x y ≡ false
decides_false x y apart = go (bytes_eq x y) refl
  where
    go : (b : Bool) → bytes_eq x y ≡ b → bytes_eq x y ≡ false
    go true e = absurd (apart ((bytes_eq-Decides x y).0 e))
    go false e = e

and_right : (a b : Bool) → b ≡ false → a && b ≡ false
and_right true b e = e
and_right false b e = refl

and_left : (a b : Bool) → a ≡ false → a && b ≡ false
and_left true b e = absurd cc
and_left false b e = refl

-- two keys of one entry have one hash
one_hash : (h : HashFunction) (form : Form) (entry key : Text) (c : Parts)
    → ((bytes : Text) → length (h bytes) ≡ 32) → IsCertificate c → entry ≡ entry_of h form c
    → is_key_of h entry key ≡ true → h key ≡ h c.spki
unfolding is_key_of matches
one_hash h form entry key c sized fits is own =
    let read = ap entry_in is ∙ certificate_entry h form c sized fits in
    let has : has_key (entry_in entry) ≡ true = ap has_key read in
    let matched : matches h entry key ≡ true =
    ap (λ (b : Bool). if b then matches h entry key else length key == 0) (sym has) ∙ own in
    let two = and_parts (holds h key (entry_in entry)) (is_public_key key) matched in
    let held = ap (holds h key) (sym read) ∙ two.0 in
    let both = and_parts (algorithm_agrees (algorithm_for form c.spki) key)
    (bytes_eq (h c.spki) (h key)) held in
    sym ((bytes_eq-Decides (h c.spki) (h key)).0 both.1)

last_in : (xs ys : List Text) (x : Text) → Contains (xs ++ (ys ++ x ∷ [])) x
last_in xs ys x =
    Contains-append_right xs (ys ++ x ∷ []) x
    (Contains-append_right ys (x ∷ []) x (0, omega arith, refl))

pub keys_decide : (h : HashFunction) (x : AuditCase) (entry key one other : Text)
    → ((bytes : Text) → length (h bytes) ≡ 32) → IsCertificate x.cert
    → entry ≡ listed_entry x.items x.accepted.index → key ≡ listed_key x.items x.accepted.index
    → is_key_of h entry key ≡ true
    → listed_entry x.items x.accepted.index ≡ entry_by h x.store x.cert
    → bytes_eq key x.cert.spki ≡ false → one ≡ key → other ≡ x.cert.spki
    → Decides h x (Pair one other)
keys_decide h x entry key one other sized fits at is own same differ first second =
    let hash = one_hash h (form_by x.store x.cert.serial) entry key x.cert sized fits (at ∙ same)
    own in
    let apart : key ≢ x.cert.spki = λ e.
    true≢false (sym ((bytes_eq-Decides key x.cert.spki).1 e) ∙ differ) in
    let unlike : bytes_eq (listed_key x.items x.accepted.index) x.cert.spki ≡ false =
    ap (λ (k : Text). bytes_eq k x.cert.spki) (sym is) ∙ differ in (
      and_right (bytes_eq (listed_entry x.items x.accepted.index) (entry_by h x.store x.cert)) _
          unlike,
      record {
        differ = λ e. apart (sym first ∙ (e ∙ second));
        one_hash = ap h first ∙ (hash ∙ ap h (sym second));
        first = subst (Contains (firsts_of h x)) (sym (first ∙ is))
            (last_in (inputs_of h (part_of x.items.entries x.accepted.start x.accepted.end))
            (prefix_inputs_of h x.items.entries x.kept) (listed_key x.items x.accepted.index));
        second = subst (Contains (seconds_of h x)) (sym second)
            (last_in (eval_inputs_of h (x.accepted.index - x.accepted.start)
            (x.accepted.end - x.accepted.start) (entry_by h x.store x.cert) x.proof.path)
            (proof_inputs_of h x.kept) x.cert.spki);
      },
    )

-- ---- two strings of the tree of the interval and of the path

pub list_decides : (h : HashFunction) (x : AuditCase) (entries : List Text) (entry one other : Text)
    (f : Finding) → entries ≡ x.items.entries → entry ≡ entry_by h x.store x.cert
    → f ≡ Found one other
    → Extracts h (get_or entries x.accepted.index [] ≡ entry)
    (inputs_of h (part_of entries x.accepted.start x.accepted.end))
    (eval_inputs_of h (x.accepted.index - x.accepted.start) (x.accepted.end - x.accepted.start)
    entry x.proof.path) f
    → Decides h x (Pair one other)
list_decides h x entries entry one other f is made found e =
    let a = x.accepted in
    let At : List Text → Text → Type 0 = λ es en.
    Extracts h (get_or es a.index [] ≡ en) (inputs_of h (part_of es a.start a.end))
    (eval_inputs_of h (a.index - a.start) (a.end - a.start) en x.proof.path) (Found one other) in
    let here : At x.items.entries (entry_by h x.store x.cert) =
    subst (At x.items.entries) made (subst (λ (es : List Text). At es entry) is
    (subst (λ (g : Finding). Extracts h (get_or entries a.index [] ≡ entry)
    (inputs_of h (part_of entries a.start a.end))
    (eval_inputs_of h (a.index - a.start) (a.end - a.start) entry x.proof.path) g) found e)) in (
      and_left _ (bytes_eq (listed_key x.items a.index) x.cert.spki)
          (decides_false (listed_entry x.items a.index) (entry_by h x.store x.cert) here.0),
      collision_widened h (inputs_of h (part_of x.items.entries a.start a.end))
          (eval_inputs_of h (a.index - a.start) (a.end - a.start) (entry_by h x.store x.cert)
          x.proof.path)
          (firsts_of h x) (seconds_of h x) one other
          (Contains-append_left _ _ one) (Contains-append_left _ _ other) here.1,
    )

-- ---- two strings of a prefix and of the proofs

pub sign_decides : (h : HashFunction) (x : AuditCase) (e : Export) (entries : List Text)
    (given : List Step) (one other : Text) (f : Finding) (same : Type 0) → x.kept ≡ Some e
    → entries ≡ x.items.entries → given ≡ e.steps → f ≡ Found one other
    → has_own h x.store x.items x.accepted x.cert ≡ false
    → Extracts h same (prefix_inputs h entries given) (proof_inputs h given) f
    → Decides h x (Pair one other)
sign_decides h x e entries given one other f same kept is reported found own shown =
    let At : List Text → List Step → Finding → Type 0 = λ es ss g.
    Extracts h same (prefix_inputs h es ss) (proof_inputs h ss) g in
    let here : At x.items.entries e.steps (Found one other) =
    subst (λ (es : List Text). At es e.steps (Found one other)) is
    (subst (λ (ss : List Step). At entries ss (Found one other)) reported
    (subst (λ (g : Finding). At entries given g) found shown)) in
    let a = x.accepted in
    let prefixes : prefix_inputs_of h x.items.entries x.kept
    ≡ prefix_inputs h x.items.entries e.steps =
    ap (prefix_inputs_of h x.items.entries) kept in
    let proofs : proof_inputs_of h x.kept ≡ proof_inputs h e.steps =
    ap (proof_inputs_of h) kept in (
      own,
      collision_widened h (prefix_inputs h x.items.entries e.steps) (proof_inputs h e.steps)
          (firsts_of h x) (seconds_of h x) one other
          (λ (c : Contains (prefix_inputs h x.items.entries e.steps) one).
          Contains-append_right (inputs_of h (part_of x.items.entries a.start a.end)) _ one
          (Contains-append_left (prefix_inputs_of h x.items.entries x.kept)
          (listed_key x.items a.index ∷ []) one
          (subst (λ (xs : List Text). Contains xs one) (sym prefixes) c)))
          (λ (c : Contains (proof_inputs h e.steps) other).
          Contains-append_right (eval_inputs_of h (a.index - a.start) (a.end - a.start)
          (entry_by h x.store x.cert) x.proof.path) _ other
          (Contains-append_left (proof_inputs_of h x.kept) (x.cert.spki ∷ []) other
          (subst (λ (xs : List Text). Contains xs other) (sym proofs) c))) here.1,
    )

-- ---- the list and the Sign

all_held : (h : HashFunction) (entries : List Text) (steps : List Step)
    → HasPrefix h entries (held_by h steps)
    → HasPrefix h entries (held_by_first h steps (length steps))
all_held h entries steps prefix =
    subst (λ (xs : List Step). HasPrefix h entries (held_by h xs)) (sym (take-length steps)) prefix

found_there : (steps : List Step) (place : ℕ) (d : Step) → place < length steps
    → get_or steps place d ≡ get_or steps place (get_or steps place d)
found_there steps place d below = get_or_default steps place d (get_or steps place d) below

pub sign_inside : (h : HashFunction) (entries : List Text) (steps : List Step) (place : ℕ)
    (a : Accepted) → AreSteps h steps → place < length steps
    → ((step : Step) → is_sign_of a (get_or steps place step) ≡ true)
    → HasPrefix h entries (held_by h steps) → a.end ≤ length entries
sign_inside h entries steps place a are below sign prefix =
    let d : Step = Advance 0 [] [] in
    let s : Step = get_or steps place d in
    let within = sign_long h entries steps place s are below (found_there steps place d below)
    (all_held h entries steps prefix) in
    (sign_of h entries a s (sign d)).within (length entries) within

pub own_inside : (h : HashFunction) (entries : List Text) (steps : List Step) (place : ℕ)
    (a : Accepted) (leaf : Hash) (path : List Hash)
    → evaluation h leaf a.index a.start a.end path ≡ Ok a.hash
    → AreSteps h steps → place < length steps
    → ((step : Step) → is_sign_of a (get_or steps place step) ≡ true)
    → HasPrefix h entries (held_by h steps) → a.index < length entries
own_inside h entries steps place a leaf path value are below sign prefix =
    let inside = (eval_inside h leaf a.index a.start a.end path a.hash value).1 in
    let within = sign_inside h entries steps place a are below sign prefix in
    omega arith

pub same_interval : (h : HashFunction) (items : ItemLists) (a : Accepted) (steps given : List Step)
    (place : ℕ) (step : Step) (entries firsts seconds : List Text) (f : Finding)
    → AreSteps h steps → place < length steps
    → ((s : Step) → is_sign_of a (get_or steps place s) ≡ true)
    → HasPrefix h items.entries (held_by h steps) → given ≡ steps
    → step ≡ get_or given place step → entries ≡ items.entries → f ≡ Same
    → Extracts h (IsOfList h entries step) firsts seconds f → HasInterval h items a
same_interval h items a steps given place step entries firsts seconds f are below sign prefix
    reported
    at
    is found shown =
    let own : IsOfList h entries step =
    subst (λ (g : Finding). Extracts h (IsOfList h entries step) firsts seconds g) found shown in
    let here : IsOfList h items.entries step =
    subst (λ (es : List Text). IsOfList h es step) is own in
    let there : step ≡ get_or steps place step =
    subst (λ (ss : List Step). step ≡ get_or ss place step) reported at in
    let of = sign_of h items.entries a step (subst (λ (s : Step). is_sign_of a s ≡ true) (sym there)
    (sign step)) in
    record {
      within = sign_inside h items.entries steps place a are below sign prefix;
      root = of.root here;
    }

pub sign_at : (a : Accepted) (steps : List Step) (place : ℕ)
    → position (is_sign_of a) steps ≡ Some place
    → (step : Step) → is_sign_of a (get_or steps place step) ≡ true
sign_at a steps place e step = (position-Some (is_sign_of a) steps place step e).1

-- ---- the answers

pub recorded_decides : (h : HashFunction) (set : ℕ) (e : Export) (x : AuditCase) (answer : Audit)
    → is_recorded x.store x.accepted set e ≡ true → Decides h x answer
    → DecidesRecorded h set e x answer
recorded_decides h set e x (Foreign wanted found) so decides = absurd decides
recorded_decides h set e x Unrecorded so decides = absurd decides
recorded_decides h set e x (Stands index) so decides = (so, decides)
recorded_decides h set e x (Pair one other) so decides = (so, decides)

pub foreign_audit : (h : HashFunction) (x : AuditCase) (answer : Audit)
    → IsForeign (foreign_of h x) answer → IsAudit h x answer
foreign_audit h x (Foreign wanted found) is = is
foreign_audit h x Unrecorded is = absurd is
foreign_audit h x (Stands index) is = absurd is
foreign_audit h x (Pair one other) is = absurd is

pub decided_audit : (h : HashFunction) (x : AuditCase) (answer : Audit)
    → foreign_of h x ≡ None → is_supported x ≡ true → Decides h x answer → IsAudit h x answer
decided_audit h x (Foreign wanted found) none so decides = absurd decides
decided_audit h x Unrecorded none so decides = absurd decides
decided_audit h x (Stands index) none so decides =
    record { list = none; supported = so; decides = decides }
decided_audit h x (Pair one other) none so decides =
    record { list = none; supported = so; decides = decides }

pub recorded_audit : (h : HashFunction) (set : ℕ) (e : Export) (x : AuditCase) (answer : Audit)
    → foreign_of h x ≡ None → is_supported x ≡ is_recorded x.store x.accepted set e
    → DecidesRecorded h set e x answer → IsAudit h x answer
recorded_audit h set e x (Foreign wanted found) none is decides = absurd decides
recorded_audit h set e x Unrecorded none is decides =
    record { list = none; lacks = is ∙ decides }
recorded_audit h set e x (Stands index) none is decides =
    record { list = none; supported = is ∙ decides.0; decides = decides.1 }
recorded_audit h set e x (Pair one other) none is decides =
    record { list = none; supported = is ∙ decides.0; decides = decides.1 }

pub wanted_order : (h : HashFunction) (a : Accepted) (kept : Option Export) (by : By)
    → a.start ≤ a.end → IfSome (wanted_hash h a kept by) (λ w. w.start ≤ w.end)
wanted_order h a kept Landmark order = order
wanted_order h a None (Cosigners set) order = tt
wanted_order h a (Some e) (Cosigners set) order = omega arith

pub interval_order : (h : HashFunction) (leaf : Hash) (a : Accepted) (path : List Hash)
    → evaluation h leaf a.index a.start a.end path ≡ Ok a.hash → a.start ≤ a.end
interval_order h leaf a path value =
    let inside = eval_inside h leaf a.index a.start a.end path a.hash value in
    let low = inside.0 in
    let high = inside.1 in
    omega arith

pub none_foreign : (h : HashFunction) (given entries : List Text) (w v : Option WantedHash)
    → given ≡ entries → w ≡ v → foreign_in h given w ≡ None → foreign_in h entries v ≡ None
none_foreign h given entries w v is same none =
    subst (λ (o : Option WantedHash). foreign_in h entries o ≡ None) same
    (subst (λ (es : List Text). foreign_in h es w ≡ None) is none)

pub landmark_supported : (x : AuditCase) → x.accepted.by ≡ Landmark → is_supported x ≡ true
landmark_supported x is = ap (λ (b : By). is_recorded_by x.store x.accepted b x.kept) is

pub cosigned_audit : (h : HashFunction) (set : ℕ) (e : Export) (x : AuditCase) (o : Option Export)
    (answer : Audit) → o ≡ Some e → x.kept ≡ Some e → x.accepted.by ≡ Cosigners set
    → foreign_of h x ≡ None → DecidesRecorded h set e x answer
    → IsAudit h x answer
cosigned_audit h set e x o answer reported kept by none decides =
    recorded_audit h set e x answer none
    (ap (λ (b : By). is_recorded_by x.store x.accepted b x.kept) by
    ∙ ap (λ (k : Option Export). is_recorded_by x.store x.accepted (Cosigners set) k) kept) decides

pub unkept_audit : (h : HashFunction) (set : ℕ) (x : AuditCase) → x.kept ≡ None
    → x.accepted.by ≡ Cosigners set → foreign_of h x ≡ None → IsAudit h x Unrecorded
unkept_audit h set x kept by none = record {
  list = none;
  lacks =
      ap (λ (b : By). is_recorded_by x.store x.accepted b x.kept) by
      ∙ ap (λ (k : Option Export). is_recorded_by x.store x.accepted (Cosigners set) k) kept;
}
