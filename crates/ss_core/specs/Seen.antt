-- What a put sees of its pairs, each by its CID alone.
use Rattle.std.specs.Prelude.{◌≡◌, Bool, true, false, List, Option, None, Some, slice_get, is_some, if◌then◌else◌, ℕ}
use Rattle.ss_cid.specs.{Cid.identity_of, declared.codec.HashCode.HashCode}
use Rattle.ss_model.specs.State.{CidSet}
use Rattle.ss_core.specs.declared.fresh.Seen.{Seen}
use Rattle.std.specs.FinSet as finite_set

-- the record of the put writes the block
abbrev pub is_absent : Seen → Bool
is_absent Seen.Absent = true
is_absent Seen.Hot = false
is_absent Seen.Identity = false

-- what a look-up tells, by the length of the block that is kept
abbrev pub by_len : Option ℕ → Seen
by_len None = Seen.Absent
by_len (Some len) = Seen.Hot

-- the same by the CIDs that are hot
abbrev pub held_in : CidSet → List ℕ → Seen
held_in hot c = if finite_set.contains hot c then Seen.Hot else Seen.Absent

-- and what is seen once the hash code of the CID is read
abbrev pub with_hash_code : HashCode → Seen → Seen
with_hash_code HashCode.Identity seen = Seen.Identity
with_hash_code _ seen = seen

-- the same by the CID
abbrev pub seen_in : CidSet → List ℕ → Seen
seen_in hot c = if is_some (identity_of c) then Seen.Identity else held_in hot c

-- this was seen of each pair
abbrev pub AreSeen : (List ℕ → Seen) → List (List ℕ × List ℕ) → List Seen → Type 0
AreSeen of pairs seen = (k : ℕ) (p : List ℕ × List ℕ) → slice_get pairs k ≡ Some p → slice_get seen k ≡ Some (of p.0)
