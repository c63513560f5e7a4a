-- Devices that were only read and closed, maybe more than one of one place.
use Rattle.std.proofs.Common.{◌≡◌, ◌≢◌, ◌⊎◌, inl, inr, Bool, true, false, List, [], ◌∷◌, Option}
use Rattle.std.proofs.Common.{None, Some, IsSome, subst, sym, ◌∙◌, ap, refl, arith}
use Rattle.std.proofs.Common.{true≢false}
use Rattle.std.specs.Option.{IsSomeAnd}
use Rattle.byte_formats.specs.Types.{Text}
use Rattle.disk_core.specs.Same.{SameDevice}
use Rattle.disk_core.specs.Times.{OnlyReads}
use Rattle.disk_core.specs.declared.disk.Disk.{Ghosts}
use Rattle.mtc_room.proofs.Places.{one_place_is, one_place_of}
use Rattle.mtc_room.specs.Places.{is_one_place, place_of}
use Rattle.mtc_room.specs.Room.{ModelsFile}
use Rattle.mtc_room.specs.declared.room.Room.{Ghosts as Rooms}
use Rattle.mtc_command.proofs.Beside.{no_device}
use Rattle.mtc_command.proofs.Made.{OnlyNow, kept_of, left_opened, still}
use Rattle.mtc_command.proofs.Valid.{contents_opened}
use Rattle.mtc_command.specs.Answers.{no_memory}
use Rattle.mtc_command.specs.Made.{HasKept, Journaled, Leaves, device_contents}
use Rattle.mtc_command.specs.Served.{IsOther}
use Rattle.command_plans.specs.Devices.{Device, EachDevice, OpensAround}
use Rattle.command_plans.proofs.Devices.{modelled}

-- ---- places

module _ (leads_to : Text → Text) where
  -- two names are of one place, or not
  pub place_or : (one other : Text)
      → (place_of leads_to one ≡ place_of leads_to other)
      ⊎ (place_of leads_to one ≢ place_of leads_to other)
  place_or one other = go (is_one_place leads_to one other) refl
    where
      go : (b : Bool) → is_one_place leads_to one other ≡ b
          → (place_of leads_to one ≡ place_of leads_to other)
          ⊎ (place_of leads_to one ≢ place_of leads_to other)
      go true is = inl (one_place_is leads_to one other is)
      go false is = inr (λ same. true≢false (sym (one_place_of leads_to one other same) ∙ is))

  other_at : (names : List Text) (one other : Text)
      → place_of leads_to one ≡ place_of leads_to other
      → IsOther leads_to names one → IsOther leads_to names other
  other_at [] one other same is = tt
  other_at (name ∷ names) one other same is = (
    λ differ. is.0 (same ∙ differ),
    other_at names one other same is.1,
  )

-- ---- the file system

module _ {R S D : Type 0} (rooms : Rooms R S D) (g : Ghosts D) where
  -- If the model knows the files, each has a device with its bytes, and names of one place have one
  -- device.
  pub record ModelsPlaces : Type 0 where
    pub file : (m : R) (name : Text) → rooms.is_modelled m
        → ModelsFile g.contents (rooms.file m name) (rooms.device m name)
    pub device : (m : R) (one other : Text) → rooms.is_modelled m
        → place_of rooms.leads_to one ≡ place_of rooms.leads_to other
        → rooms.device m one ≡ rooms.device m other

  file_there : (P : D → Type 0) (file : Option Text) (x : Option D)
      → ModelsFile g.contents file x → IsSomeAnd x P → IsSome file
  file_there P file None is some = absurd some
  file_there P file (Some d) is some = is.1

  file_by : (file file' : Option Text) (x : Option D) → ModelsFile g.contents file x
      → ModelsFile g.contents file' x → file ≡ file'
  file_by file file' None is is' = is ∙ sym is'
  file_by file file' (Some d) is is' = sym is.0 ∙ is'.0

  -- a file that was made empty holds nothing
  made_kept : (did : Journaled) (x z : Option D) (d e : D) → x ≡ None → OnlyReads g d e
      → ((c : Text) → g.may_leave d c → c ≡ []) → g.clock_at d ≡ 0
      → IsSomeAnd z (λ b. SameDevice g e b) → Leaves g (HasKept did) x z
  made_kept did x None d e none only_reads only time put = absurd put
  made_kept did x (Some b) d e none only_reads only time put =
      subst (λ (o : Option D). Leaves g (HasKept did) o (Some b)) (sym none) (record {
        later = omega arith;
        crash_states = record {
          now_is = λ c left. only c (only_reads.crash c ((put.leaves c).0 left));
          since_is = λ c since. only c (only_reads.times.each c
              (subst (λ n. g.left_since e n c) (sym time) ((put.left 0 c).0 since)));
        };
      })

  module _ (places : ModelsPlaces) where
    -- names of one place have one file
    pub one_file : (m : R) (one other : Text) → rooms.is_modelled m
        → place_of rooms.leads_to one ≡ place_of rooms.leads_to other
        → rooms.file m one ≡ rooms.file m other
    one_file m one other t same = file_by (rooms.file m one) (rooms.file m other)
        (rooms.device m other)
        (subst (ModelsFile g.contents (rooms.file m one)) (places.device m one other t same)
        (places.file m one t))
        (places.file m other t)

    -- a file that is there stays there
    pub stays_there : (names : List Text) (devices : List (Device D)) (old new : R)
        → OpensAround rooms g names devices old new → rooms.is_modelled old → (name : Text)
        → IsOther rooms.leads_to names name → IsSome (rooms.file old name)
        → IsSome (rooms.file new name)
    stays_there names [] old new closes t name other there =
        subst IsSome (sym (closes.others name other).bytes) there
    stays_there names (device ∷ rest) old new opens t name other there =
        elim (place_or rooms.leads_to name device.name) [
          | inl same ↦
              let t_kept = modelled rooms g names rest opens.0 opens.1 opens.3
              (opens.2.is_modelled t) in
              let t_new = opens.4.is_modelled t_kept in
              let kept = stays_there names rest opens.0 opens.1 opens.3 (opens.2.is_modelled t)
              device.name (other_at rooms.leads_to names name device.name same other)
              (opens.2.bytes t).there in
              subst IsSome (sym (one_file new name device.name t_new same))
              (file_there _ (rooms.file new device.name) (rooms.device new device.name)
              (places.file new device.name t_new) (opens.4.device t_kept kept))
          | inr differ ↦
              subst IsSome (sym (opens.4.others name differ).bytes)
              (stays_there names rest opens.0 opens.1 opens.3 (opens.2.is_modelled t) name other
              (subst IsSome (sym (opens.2.others name differ).bytes) there))
        ]

    -- the device that was closed last at its place is that of its file
    pub put_last : (names : List Text) (device : Device D) (rest : List (Device D)) (old new : R)
        → OpensAround rooms g names (device ∷ rest) old new → rooms.is_modelled old
        → IsOther rooms.leads_to names device.name
        → IsSomeAnd (rooms.device new device.name) (λ x. SameDevice g device.after x)
    put_last names device rest old new opens t other =
        let inner = opens.2.is_modelled t in
        opens.4.device (modelled rooms g names rest opens.0 opens.1 opens.3 inner)
        (stays_there names rest opens.0 opens.1 opens.3 inner device.name other
        (opens.2.bytes t).there)

    read_first : (names : List Text) (device : Device D) (rest : List (Device D)) (old new : R)
        → OpensAround rooms g names (device ∷ rest) old new → rooms.is_modelled old
        → IsOther rooms.leads_to names device.name → OnlyReads g device.before device.after
        → (did : Journaled) (file : Option Text) → rooms.file old device.name ≡ file
        → Leaves g (HasKept did) (rooms.device old device.name) (rooms.device new device.name)
    read_first names device rest old new opens t other only did None is =
        made_kept did (rooms.device old device.name) (rooms.device new device.name) device.before
        device.after
        (no_device rooms g (rooms.file old device.name) (rooms.device old device.name)
        (places.file old device.name t) is)
        only (opens.2.only t is) (opens.2.time t is)
        (put_last names device rest old new opens t other)
    read_first names device rest old new opens t other only did (Some bytes) is =
        left_opened g no_memory did _ _ device.before device.after
        (subst (λ (o : Option D). IsSomeAnd o (λ x. SameDevice g x device.before))
        (opens.2.kept t (subst IsSome (sym is) refl)).disk (opens.2.device t))
        (put_last names device rest old new opens t other)
        (kept_of g device.before device.after did only)

    -- nothing new is left of any file
    pub left_read : OnlyNow g → (names : List Text) (devices : List (Device D)) (old new : R)
        → OpensAround rooms g names devices old new
        → EachDevice (λ device. OnlyReads g device.before device.after) devices
        → rooms.is_modelled old → (name : Text) (did : Journaled)
        → IsOther rooms.leads_to names name
        → Leaves g (HasKept did) (rooms.device old name) (rooms.device new name)
    left_read only_now names [] old new closes only t name did other =
        still g (rooms.device old name) (rooms.device new name) did only_now
        (closes.others name other).disk
    left_read only_now names (device ∷ rest) old new opens only t name did other =
        elim (place_or rooms.leads_to name device.name) [
          | inl same ↦
              let t_new = opens.4.is_modelled
              (modelled rooms g names rest opens.0 opens.1 opens.3 (opens.2.is_modelled t)) in
              subst (λ (o : Option D). Leaves g (HasKept did) o (rooms.device new name))
              (sym (places.device old name device.name t same))
              (subst (λ (o : Option D). Leaves g (HasKept did) (rooms.device old device.name) o)
              (sym (places.device new name device.name t_new same))
              (read_first names device rest old new opens t
              (other_at rooms.leads_to names name device.name same other) only.0 did
              (rooms.file old device.name) refl))
          | inr differ ↦
              subst (λ (o : Option D). Leaves g (HasKept did) o (rooms.device new name))
              (opens.2.others name differ).disk
              (subst (λ (o : Option D). Leaves g (HasKept did) (rooms.device opens.0 name) o)
              (sym (opens.4.others name differ).disk)
              (left_read only_now names rest opens.0 opens.1 opens.3 only.1
              (opens.2.is_modelled t) name did other))
        ]

    same_first : (names : List Text) (device : Device D) (rest : List (Device D)) (old new : R)
        → OpensAround rooms g names (device ∷ rest) old new → rooms.is_modelled old
        → IsOther rooms.leads_to names device.name → OnlyReads g device.before device.after
        → IsSome (rooms.file old device.name)
        → device_contents g (rooms.device new device.name)
        ≡ device_contents g (rooms.device old device.name)
    same_first names device rest old new opens t other only there =
        contents_opened g _ _ device.before device.after
        (subst (λ (o : Option D). IsSomeAnd o (λ x. SameDevice g x device.before))
        (opens.2.kept t there).disk (opens.2.device t))
        (put_last names device rest old new opens t other) only.contents

    -- a file that was there reads as before
    pub same_read : (names : List Text) (devices : List (Device D)) (old new : R)
        → OpensAround rooms g names devices old new
        → EachDevice (λ device. OnlyReads g device.before device.after) devices
        → rooms.is_modelled old → (name : Text) → IsOther rooms.leads_to names name
        → IsSome (rooms.file old name)
        → device_contents g (rooms.device new name) ≡ device_contents g (rooms.device old name)
    same_read names [] old new closes only t name other there =
        ap (device_contents g) (closes.others name other).disk
    same_read names (device ∷ rest) old new opens only t name other there =
        elim (place_or rooms.leads_to name device.name) [
          | inl same ↦
              let t_new = opens.4.is_modelled
              (modelled rooms g names rest opens.0 opens.1 opens.3 (opens.2.is_modelled t)) in
              ap (device_contents g) (places.device new name device.name t_new same)
              ∙ same_first names device rest old new opens t
              (other_at rooms.leads_to names name device.name same other) only.0
              (subst IsSome (one_file old name device.name t same) there)
              ∙ ap (device_contents g) (sym (places.device old name device.name t same))
          | inr differ ↦
              ap (device_contents g) (opens.4.others name differ).disk
              ∙ same_read names rest opens.0 opens.1 opens.3 only.1 (opens.2.is_modelled t) name
              other (subst IsSome (sym (opens.2.others name differ).bytes) there)
              ∙ ap (device_contents g) (opens.2.others name differ).disk
        ]
