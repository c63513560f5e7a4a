-- A command that worked on any number of devices has done what the outcome wants.
use Rattle.std.proofs.Common.{◌≡◌, ◌≢◌, ◌≤◌, inl, inr, ℕ, Bool, true, false, not, List, [], ◌∷◌}
use Rattle.std.proofs.Common.{◌++◌, Option, None, Some, IsSome, subst, sym, ◌∙◌, ap, arith}
use Rattle.std.specs.Option.{IsSomeAnd}
use Rattle.mtc_io.specs.Counts.{Rose}
use Rattle.disk_core.specs.declared.disk.Disk.{Ghosts}
use Rattle.disk_core.specs.Same.{SameDevice}
use Rattle.mtc_room.specs.Places.{place_of}
use Rattle.mtc_room.specs.Room.{Stays}
use Rattle.mtc_room.specs.declared.room.Room.{Ghosts as Rooms}
use Rattle.mtc_command.specs.Answers.{Ending, replied, room_failed, no_memory}
use Rattle.mtc_command.specs.Endings.{FailedOnly, IsNamed, LeftBy}
use Rattle.mtc_command.specs.Made.{IsOnOld, Journaled, Leaves}
use Rattle.mtc_command.specs.Served.{IsOther, IsUnmade, OfEach, done_with, first_journaled}
use Rattle.mtc_command.specs.Steps.{held_in}
use Rattle.mtc_command.specs.Works.{HasClosed, HasOpenedBeside}
use Rattle.mtc_command.proofs.Beside.{held_as, rose_on}
use Rattle.mtc_command.proofs.Made.{left_opened}
use Rattle.mtc_command.proofs.Served.{other_last, reply_so, rose_since}
use Rattle.mtc_command.proofs.Works.{rose_with}
use Rattle.command_plans.specs.Devices.{AllDiffer, AreHeld, AreThere, Device, DevicesServe}
use Rattle.command_plans.specs.Devices.{EachDevice, FailsAmong, IfJournal, IsElsewhere}
use Rattle.command_plans.specs.Devices.{LeavesDevices, OpensAround, OpensEach, SomeDevice}
use Rattle.command_plans.specs.Devices.{device_besides, device_journals, named_if, rest_if}

-- ---- lists of devices

if_both : (journal : Bool) (P Q T : Type 0) → (P → Q → T) → IfJournal journal P
    → IfJournal journal Q → IfJournal journal T
if_both true P Q T so one other = so one other
if_both false P Q T so one other = tt

if_so : (journal : Bool) (P Q : Type 0) → (P → Q) → IfJournal journal P → IfJournal journal Q
if_so true P Q so is = so is
if_so false P Q so is = tt

each_named : (P : List ℕ → Journaled → Type 0) (journal : Bool) (name : List ℕ)
    (names : List (List ℕ)) (dids : List Journaled)
    → IfJournal journal (P name (first_journaled dids))
    → OfEach P (done_with names (rest_if journal dids))
    → OfEach P (done_with (named_if journal name names) dids)
each_named P true name names dids first rest = (first, rest)
each_named P false name names dids first rest = rest

module _ (leads_to : List ℕ → List ℕ) where
  other_named : (journal : Bool) (name other : List ℕ) (besides journals : List (List ℕ))
      → IsOther leads_to (named_if (not journal) name besides) other
      → IsOther leads_to (named_if journal name journals) other
      → (place_of leads_to other ≢ place_of leads_to name)
      × (IsOther leads_to besides other × IsOther leads_to journals other)
  other_named true name other besides journals first second = (second.0, (first, second.1))
  other_named false name other besides journals first second = (first.0, (first.1, second))

  other_devices : {D : Type 0} (devices : List (Device D)) (other : List ℕ)
      → IsOther leads_to (device_besides devices) other
      → IsOther leads_to (device_journals devices) other
      → EachDevice (IsElsewhere leads_to other) devices
  other_devices [] other first second = tt
  other_devices (device ∷ rest) other first second =
      let apart = other_named device.journal device.name other (device_besides rest)
      (device_journals rest) first second in
      (apart.0, other_devices rest other apart.1.0 apart.1.1)

  other_first : (xs ys : List (List ℕ)) (name : List ℕ) → IsOther leads_to (xs ++ ys) name
      → IsOther leads_to xs name
  other_first [] ys name other = tt
  other_first (x ∷ xs) ys name other = (other.0, other_first xs ys name other.1)

-- ---- small facts

pub there_not : (file : Option (List ℕ)) → IsSome file → file ≡ None → ⊥
there_not file there none = let wrong = subst IsSome none there in cc

-- ---- from the devices to the file system

module _ {R S D : Type 0} (rooms : Rooms R S D) (g : Ghosts D) where
  -- a file of another name
  pub through : (names : List (List ℕ)) (devices : List (Device D)) (old new : R)
      → OpensAround rooms g names devices old new → (name : List ℕ)
      → IsOther rooms.leads_to names name
      → EachDevice (IsElsewhere rooms.leads_to name) devices
      → Stays (rooms.file old) (rooms.file new) (rooms.device old) (rooms.device new) name
  through names [] old new closes name other differ = closes.others name other
  through names (device ∷ rest) old new opens name other differ =
      let inner = through names rest opens.0 opens.1 opens.3 name other differ.1 in
      let first = opens.2.others name differ.0 in
      let last = opens.4.others name differ.0 in
      record {
        bytes = last.bytes ∙ inner.bytes ∙ first.bytes;
        disk = last.disk ∙ inner.disk ∙ first.disk;
      }

  pub modelled : (names : List (List ℕ)) (devices : List (Device D)) (old new : R)
      → OpensAround rooms g names devices old new → rooms.is_modelled old → rooms.is_modelled new
  modelled names [] old new closes t = closes.is_modelled t
  modelled names (device ∷ rest) old new opens t =
      opens.4.is_modelled (modelled names rest opens.0 opens.1 opens.3 (opens.2.is_modelled t))

  pub all_closed : (names : List (List ℕ)) (devices : List (Device D)) (old new : R)
      → OpensAround rooms g names devices old new → rooms.opened new ≡ rooms.opened old
  all_closed names [] old new closes = closes.opened
  all_closed names (device ∷ rest) old new opens =
      let inner = all_closed names rest opens.0 opens.1 opens.3 in
      omega (arith, inner, opens.2.opened, opens.4.opened)

  pub later : (names : List (List ℕ)) (devices : List (Device D)) (old new : R)
      → OpensAround rooms g names devices old new → rooms.faults old ≤ rooms.faults new
  later names [] old new closes = closes.later
  later names (device ∷ rest) old new opens =
      let inner = later names rest opens.0 opens.1 opens.3 in
      omega (arith, inner, opens.2.fine, opens.4.count)

  -- the file system failed if one of the devices did
  abbrev pub Counts : R → R → Device D → Type 0
  Counts old new device = Rose (g.faults device.before) (g.faults device.after)
      → Rose (rooms.faults old) (rooms.faults new)

  first_counts : (device : Device D) (rest : List (Device D)) (old new : R)
      → OpensEach rooms g (device ∷ rest) old new → Counts old new device
  first_counts device rest old new opens rose =
      let so = later [] rest opens.0 opens.1 opens.3 in
      rose_since (rooms.faults old) (rooms.faults opens.1) (rooms.faults new)
      (omega (arith, so, opens.2.fine))
      (subst (Rose (rooms.faults opens.1)) (sym opens.4.count)
      (rose_with (rooms.faults opens.1) (g.faults device.after)
      (subst (λ n. Rose n (g.faults device.after)) opens.2.begins rose)))

  each_counted : (one : Device D) (rest : List (Device D)) (old mid kept new : R)
      → HasOpenedBeside rooms g one.name old mid one.before
      → HasClosed rooms g one.name kept new one.after → EachDevice (Counts mid kept) rest
      → EachDevice (Counts old new) rest
  each_counted one [] old mid kept new opened closed each = tt
  each_counted one (device ∷ rest) old mid kept new opened closed each = (
    λ rose. rose_on (rooms.faults old) (rooms.faults kept) (rooms.faults new)
        (subst (λ n. Rose n (rooms.faults kept)) opened.fine (each.0 rose))
        (omega (arith, closed.count)),
    each_counted one rest old mid kept new opened closed each.1,
  )

  each_counts : (devices : List (Device D)) (old new : R) → OpensEach rooms g devices old new
      → EachDevice (Counts old new) devices
  each_counts [] old new opens = tt
  each_counts (device ∷ rest) old new opens = (
    first_counts device rest old new opens,
    each_counted device rest old opens.0 opens.1 new opens.2 opens.4
        (each_counts rest opens.0 opens.1 opens.3),
  )

  -- what is so of one device beside the file system before all and after all
  pub record IsDeviceOf (old new : R) (device : Device D) : Type 0 where
    pub held : rooms.is_modelled old
        → g.contents device.before ≡ Some (held_in (rooms.file old device.name))
    pub was : rooms.is_modelled old → IsSome (rooms.file old device.name)
        → IsSomeAnd (rooms.device old device.name) (λ x. SameDevice g x device.before)
    pub put : rooms.is_modelled old
        → IsSomeAnd (rooms.device new device.name) (λ x. SameDevice g device.after x)

  first_device : (device : Device D) (rest : List (Device D)) (old new : R)
      → EachDevice (IsElsewhere rooms.leads_to device.name) rest
      → OpensEach rooms g (device ∷ rest) old new → IsDeviceOf old new device
  first_device device rest old new differ opens =
      let mid = opens.0 in
      let kept = opens.1 in
      let opened = opens.2 in
      let closed = opens.4 in
      let inner = through [] rest mid kept opens.3 device.name tt differ in
      record {
        held = λ t. held_as (rooms.file old device.name) (rooms.file mid device.name)
            (g.contents device.before) (opened.bytes t) (λ there. (opened.kept t there).bytes)
            (opened.made t);
        was = λ t there. subst
            (λ (o : Option D). IsSomeAnd o (λ x. SameDevice g x device.before))
            (opened.kept t there).disk (opened.device t);
        put = λ t. closed.device (modelled [] rest mid kept opens.3 (opened.is_modelled t))
            (subst IsSome (sym inner.bytes) (opened.bytes t).there);
      }

  moved : (one device : Device D) (old mid kept new : R)
      → IsElsewhere rooms.leads_to one.name device
      → HasOpenedBeside rooms g one.name old mid one.before
      → HasClosed rooms g one.name kept new one.after → IsDeviceOf mid kept device
      → IsDeviceOf old new device
  moved one device old mid kept new differ opened closed is =
      let first = opened.others device.name (λ same. differ (sym same)) in
      let last = closed.others device.name (λ same. differ (sym same)) in
      record {
        held = λ t. is.held (opened.is_modelled t)
            ∙ ap (λ (file : Option (List ℕ)). Some (held_in file)) first.bytes;
        was = λ t there. subst
            (λ (o : Option D). IsSomeAnd o (λ x. SameDevice g x device.before)) first.disk
            (is.was (opened.is_modelled t) (subst IsSome (sym first.bytes) there));
        put = λ t. subst (λ (o : Option D). IsSomeAnd o (λ x. SameDevice g device.after x))
            (sym last.disk) (is.put (opened.is_modelled t));
      }

  each_moved : (one : Device D) (rest : List (Device D)) (old mid kept new : R)
      → EachDevice (IsElsewhere rooms.leads_to one.name) rest
      → HasOpenedBeside rooms g one.name old mid one.before
      → HasClosed rooms g one.name kept new one.after → EachDevice (IsDeviceOf mid kept) rest
      → EachDevice (IsDeviceOf old new) rest
  each_moved one [] old mid kept new differ opened closed each = tt
  each_moved one (device ∷ rest) old mid kept new differ opened closed each = (
    moved one device old mid kept new differ.0 opened closed each.0,
    each_moved one rest old mid kept new differ.1 opened closed each.1,
  )

  pub each_device : (devices : List (Device D)) (old new : R) → AllDiffer rooms.leads_to devices
      → OpensEach rooms g devices old new → EachDevice (IsDeviceOf old new) devices
  each_device [] old new differ opens = tt
  each_device (device ∷ rest) old new differ opens = (
    first_device device rest old new differ.0 opens,
    each_moved device rest old opens.0 opens.1 new differ.0 opens.2 opens.4
        (each_device rest opens.0 opens.1 differ.1 opens.3),
  )

  -- ---- what the command has done

  all_held : (devices : List (Device D)) (old new : R) → EachDevice (IsDeviceOf old new) devices
      → rooms.is_modelled old → AreHeld g (rooms.file old) devices
  all_held [] old new each t = tt
  all_held (device ∷ rest) old new each t = (each.0.held t, all_held rest old new each.1 t)

  failed_some : (devices : List (Device D)) (old new : R) (files : List (List ℕ))
      (file : List ℕ) → EachDevice (Counts old new) devices
      → EachDevice (λ device. IsNamed files device.name) devices
      → SomeDevice (λ device. (file ≡ device.name)
      × Rose (g.faults device.before) (g.faults device.after)) devices
      → Rose (rooms.faults old) (rooms.faults new) × IsNamed files file
  failed_some [] old new files file each named some = absurd some
  failed_some (device ∷ rest) old new files file each named some = elim some [
    | inl here ↦ (each.0 here.1, subst (IsNamed files) (sym here.0) named.0)
    | inr there ↦ failed_some rest old new files file each.1 named.1 there
  ]

  failed_among : (devices : List (Device D)) (old new : R) (files : List (List ℕ))
      (ending : Ending) → EachDevice (Counts old new) devices
      → EachDevice (λ device. IsNamed files device.name) devices → FailsAmong g devices ending
      → FailedOnly (Rose (rooms.faults old) (rooms.faults new)) files ending
  failed_among devices old new files (replied reply) each named fails = tt
  failed_among devices old new files (room_failed file) each named fails =
      failed_some devices old new files file each named fails
  failed_among devices old new files no_memory each named fails = tt

  unmade_each : (devices : List (Device D)) (old new : R) (dids : List Journaled)
      → AreThere rooms g old devices
      → OfEach (λ name did. IsUnmade rooms old new name)
      (done_with (device_journals devices) dids)
  unmade_each [] old new dids there = tt
  unmade_each (device ∷ rest) old new dids there =
      each_named (λ name did. IsUnmade rooms old new name) device.journal device.name
      (device_journals rest) dids
      (if_so device.journal (IsSome (rooms.file old device.name))
      (IsUnmade rooms old new device.name)
      (λ is none. absurd (there_not (rooms.file old device.name) is none)) there.0)
      (unmade_each rest old new (rest_if device.journal dids) there.1)

  no_file_each : (devices : List (Device D)) (old new : R) (dids : List Journaled)
      → AreThere rooms g old devices
      → OfEach (λ name did. IsOnOld did → IsUnmade rooms old new name)
      (done_with (device_journals devices) dids)
  no_file_each [] old new dids there = tt
  no_file_each (device ∷ rest) old new dids there =
      each_named (λ name did. IsOnOld did → IsUnmade rooms old new name) device.journal device.name
      (device_journals rest) dids
      (if_so device.journal (IsSome (rooms.file old device.name))
      (IsOnOld (first_journaled dids) → IsUnmade rooms old new device.name)
      (λ is on none. absurd (there_not (rooms.file old device.name) is none)) there.0)
      (no_file_each rest old new (rest_if device.journal dids) there.1)

  left_each : (devices : List (Device D)) (old new : R) (ending : Ending)
      (dids : List Journaled) → rooms.is_modelled old → EachDevice (IsDeviceOf old new) devices
      → AreThere rooms g old devices → LeavesDevices g ending devices dids
      → OfEach (λ name did. Leaves g (LeftBy ending did) (rooms.device old name)
      (rooms.device new name)) (done_with (device_journals devices) dids)
  left_each [] old new ending dids t each there left = tt
  left_each (device ∷ rest) old new ending dids t each there left =
      each_named (λ name did. Leaves g (LeftBy ending did) (rooms.device old name)
      (rooms.device new name)) device.journal device.name (device_journals rest) dids
      (if_both device.journal (IsSome (rooms.file old device.name))
      (Leaves g (LeftBy ending (first_journaled dids)) (Some device.before) (Some device.after))
      (Leaves g (LeftBy ending (first_journaled dids)) (rooms.device old device.name)
      (rooms.device new device.name))
      (λ is leaves. left_opened g ending (first_journaled dids) _ _ device.before device.after
      (each.0.was t is) (each.0.put t) leaves) there.0 left.0)
      (left_each rest old new ending (rest_if device.journal dids) t each.1 there.1 left.1)

  pub devices_serve : DevicesServe rooms g
  devices_serve files outcome devices old new ending modelled_so named opens worked =
      let each : rooms.is_modelled old → EachDevice (IsDeviceOf old new) devices
      = λ t. each_device devices old new (modelled_so t).0 opens in
      let held : rooms.is_modelled old → AreHeld g (rooms.file old) devices
      = λ t. all_held devices old new (each t) t in
      let journals = device_journals devices in
      let besides = device_besides devices in
      record {
        back = record {
          opened = all_closed [] devices old new opens;
          later = later [] devices old new opens;
          is_modelled = modelled [] devices old new opens;
          others = λ name other. through [] devices old new opens name tt
              (other_devices rooms.leads_to devices name
              (other_first rooms.leads_to besides journals name other)
              (other_last rooms.leads_to besides journals name other));
        };
        ends = record {
          reply = reply_so ending _ _ (λ reply is t. is (rooms.file old) (held t)) worked.reply;
          words = λ bad. absurd bad;
          not_words = worked.plain;
          fault = failed_among devices old new files ending (each_counts devices old new opens)
              named worked.fault;
          early = reply_so ending _ _ (λ reply is t. is (rooms.file old) (held t)) worked.early;
        };
        made = λ t.
            let dids = (outcome (rooms.file old)).journals in
            let there = (modelled_so t).1 in
            record {
              no_file = no_file_each devices old new dids there;
              unmade = λ memory. unmade_each devices old new dids there;
              left = left_each devices old new ending dids t (each t) there
                  (worked.left (rooms.file old) (held t));
            };
      }
