-- Which CIDs have a block in an ordered map.
use Rattle.std.specs.{Prelude.{ℕ, Bool, List, is_some}, Ordering.nat_cmp, Cmp.Lexicographic.slice_cmp, BTreeMap.{BTreeMap, get}}

abbrev pub has_block : BTreeMap (List ℕ) (List ℕ) → List ℕ → Bool
has_block blocks cid = is_some (get (slice_cmp nat_cmp) blocks cid)
