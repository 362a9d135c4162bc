-- Where the blocks of CIDs are found.
use Rattle.std.specs.Prelude.{◌≡◌, ℕ, List, Option, Some, is_some, option_map, slice_get, if◌then◌else◌}
use Rattle.ss_cid.specs.Cid.{identity_of}
use Rattle.ss_gatelog.specs.GateLog.{Log}
use Rattle.ss_hot.specs.Store.{Hot, LiesIn}
use Rattle.ss_core.specs.declared.found.Found.{Found}
use Rattle.std.specs.FinMap as finite_map

-- in an identity CID itself, else where the store holds the block
abbrev pub found_in : Hot → List ℕ → Option Found
found_in hot c = if is_some (identity_of c) then Some Found.InCid else option_map Found.At (finite_map.get hot.places c)

-- a block in a log ends before the log does
abbrev pub LiesWithin : Log → Found → Type 0
LiesWithin log Found.InCid = Unit {0}
LiesWithin log (Found.At place) = LiesIn log place

-- the block of this CID is found there
pub record IsFound (hot : Hot) (c : List ℕ) (found : Found) : Type 0 where
  pub at : found_in hot c ≡ Some found
  pub within : LiesWithin hot.log found

-- the blocks of these CIDs are found there, in order
abbrev pub AreFound : Hot → List (List ℕ) → List Found → Type 0
AreFound hot cids found = (k : ℕ) (c : List ℕ) → slice_get cids k ≡ Some c → (f : Found) × (slice_get found k ≡ Some f) × IsFound hot c f
