-- What proofs give of a list by what they give of a part of it, so that each hash of an opening is
-- computed once.
use Rattle.std.specs.Prelude.{◌≡◌, ℕ, ◌-◌, ◌==◌, Bool, false, nat_le, if◌then◌else◌, List}
use Rattle.std.specs.Prelude.{reverse, Option, None, option_map}
use Rattle.byte_formats.specs.Types.{Hash, HashFunction}
use Rattle.tree_proofs.specs.declared.outcome.Opened.{Opened}
use Rattle.tree_proofs.specs.Open.{both_right_of, open_of, root_left_of, root_right_of}
use Rattle.collide.specs.declared.finding.Finding.{Finding}
use Rattle.quarrel_core.specs.Contrasting.{contrast_from_root}
use Rattle.quarrel_core.specs.Joining.{joined_right, joined_from_root, joined_left}
use Rattle.quarrel_core.specs.Joining.{joined_turned}
use Rattle.quarrel_core.specs.Joining.{joined_with}
use Rattle.quarrel_core.specs.declared.joined.Joined.{Joined}
use Rattle.quarrel_core.specs.declared.joining.Proofs.{Proofs}
use Rattle.quarrel_core.specs.declared.opened_parts.BothOpened.{BothOpened}

-- What the proof of [start, end) gives of a list that is split at k: by its hash z beside the part
-- that the interval ends in, and by what its other hashes give of that part.
abbrev pub opened_above : HashFunction → ℕ → ℕ → ℕ → Hash → Option Opened → Option Opened
opened_above h k start end z below =
    if nat_le end k then option_map (root_left_of h z) below
    else (if nat_le k start then option_map (root_right_of h z) below
    else (if start == 0 then option_map (both_right_of h z) below
    else None))

-- What two proofs give together.
abbrev pub joined_proofs : HashFunction → Proofs → Joined
joined_proofs h p = joined_from_root h p.part.start p.part.end p.old p.new p.part.known p.node.now
    p.prefix.now (reverse p.first.now) (reverse p.second.now)

-- This is it, and this is what each of them gives.
pub record IsJoining (h : HashFunction) (p : Proofs) (found : Joined) (given : BothOpened)
    : Type 0 where
  pub joined : joined_turned found ≡ joined_proofs h p
  pub first : given.first
      ≡ open_of h p.part.start p.part.end p.old p.part.known p.node.now p.first.now
  pub second : given.second ≡ open_of h 0 p.old p.new p.still p.prefix.now p.second.now

-- What both give of their lists, which are split at k, by what they give of the parts that their
-- intervals end in.
abbrev pub proofs_above : HashFunction → ℕ → Proofs → Hash → Hash → BothOpened → BothOpened
proofs_above h k p y z given = record {
  first = opened_above h k p.part.start p.part.end y given.first;
  second = opened_above h k 0 p.old z given.second;
}

-- What is made of what they give of a part of their lists: where the old entries lie left of the
-- split at k, where the subtree lies left of it and old entries after it, and where the subtree has
-- entries after it.
abbrev pub IsJoinedBefore : HashFunction → ℕ → ℕ → Hash → Joined × BothOpened
    → Joined × BothOpened → Type 0
IsJoinedBefore h k old z below both =
    (joined_turned both.0 ≡ joined_with z (joined_turned below.0))
    × ((both.1.first ≡ below.1.first)
    × (both.1.second ≡ opened_above h k 0 old z below.1.second))

abbrev pub IsJoinedBeside : HashFunction → ℕ → Proofs → Hash → List Hash → Hash → List Hash
    → Joined × BothOpened → Type 0
IsJoinedBeside h k p y less z rest both =
    let part = open_of h p.part.start p.part.end k p.part.known p.node.now less in
    let beside = open_of h 0 (p.old - k) (p.new - k) false p.prefix.now rest in
    (joined_turned both.0 ≡ joined_left y z (reverse less) part beside)
    × (both.1 ≡ proofs_above h k p y z (record { first = part; second = beside }))

abbrev pub IsJoinedAfter : HashFunction → ℕ → Proofs → Hash → Hash → Joined × BothOpened
    → Joined × BothOpened → Type 0
IsJoinedAfter h k p y z below both =
    (joined_turned both.0
    ≡ joined_right y z (joined_turned below.0) below.1.first below.1.second)
    × (both.1 ≡ proofs_above h k p y z below.1)

-- What is found in two proofs of an interval in n entries, and what each of them gives.
pub record IsContrast (h : HashFunction) (start end n : ℕ) (known : Bool) (node other : Hash)
    (firsts seconds : List Hash) (found : Finding) (given : BothOpened) : Type 0 where
  pub finding : found
      ≡ contrast_from_root h start end n known node other (reverse firsts) (reverse seconds)
  pub first : given.first ≡ open_of h start end n known node firsts
  pub second : given.second ≡ open_of h start end n known other seconds
