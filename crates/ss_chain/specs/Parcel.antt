-- Blocks in memory, as a parcel has them.
use Rattle.std.specs.{Prelude.{◌≡◌, ℕ, ◌+◌, ◌-◌, ◌^◌, min, not, List, [], Contains, Option, Some, unwrap_or, ⊤}, List.filter}
use Rattle.std.proofs.Common.{ap}
use Rattle.std.specs.FinMap as map
use Rattle.ss_cid.specs.Maps.{Kept}
use Rattle.ss_chain.specs.{Fetch.is_identity, declared.fetched.Fetched.Fetched}

pub record MemoryBlocks : Type 0 where
  pub blocks : List (List ℕ × List ℕ)
  -- the number of the next fetch, up to the end of its type
  pub fetches : ℕ
  -- the numbers of the fetches that fail
  pub failing : List ℕ
  pub faults : ℕ

-- the first block of a CID gives its bytes, and one under an identity CID nothing
unfoldable pub kept_of : List (List ℕ × List ℕ) → Kept
kept_of blocks = map.from_entries (filter (λ b. not (is_identity b.0)) blocks)

-- blocks of which no fetch was made
abbrev pub fresh : List (List ℕ × List ℕ) → MemoryBlocks
fresh blocks = record { blocks = blocks; fetches = 0; failing = []; faults = 0 }

-- after a fetch that answered so
abbrev pub after_fetch : MemoryBlocks → Fetched → MemoryBlocks
after_fetch m Fetched.Fault = record m { fetches = min (m.fetches + 1) (2 ^ 64 - 1); faults = min (m.faults + 1) (2 ^ 64 - 1) }
after_fetch m _ = record m { fetches = min (m.fetches + 1) (2 ^ 64 - 1) }

-- the next fetch is one of those that fail
abbrev pub IsListed : MemoryBlocks → Type 0
IsListed m = Contains m.failing m.fetches

-- a listed fetch of a block fails, and no other does
abbrev pub FailsWhere : Type 0 → Fetched → Type 0
FailsWhere listed Fetched.Fault = listed
FailsWhere listed Fetched.NotFound = ⊤
FailsWhere listed _ = listed → ⊥

-- equal maps have the same keys
pub same_keys : (a b : Kept) (cid : List ℕ) → Some a ≡ Some b → map.contains_key a cid ≡ map.contains_key b cid
same_keys a b cid same = ap (λ (kept : Option Kept). map.contains_key (unwrap_or kept map.empty) cid) same
