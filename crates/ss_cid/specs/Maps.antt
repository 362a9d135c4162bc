-- Finite maps from CIDs, and finite sets of them. A CID is its list of bytes, and CIDs stand in the order of these lists.
use Rattle.std.specs.{Prelude.{ℕ, List}, Ordering.nat_cmp, Cmp.Lexicographic.slice_cmp}
use Rattle.std.specs.FinMap as map
use Rattle.std.specs.FinSet as set

abbrev pub CidMap : Type 0 → Type 0
CidMap X = map.FinMap (slice_cmp nat_cmp) X

-- which blocks are kept, with their bytes
abbrev pub Kept : Type 0
Kept = CidMap (List ℕ)

abbrev pub CidSet : Type 0
CidSet = set.FinSet (slice_cmp nat_cmp)
