-- Tipsets: 1 to 64 distinct headers of one height with the same parents. The order of refusals is this project's own.
use Rattle.std.specs.{Prelude.{◌≡◌, ◌≢◌, ℕ, ◌<◌, ◌≤◌, ◌==◌, not, nat_eq, nat_lt, if◌then◌else◌, Bool, List, map, length, take, slice_get, Option, Some, None, Result, Ok, Err, option_and_then}, List.list_any, Cmp.Lexicographic.pointwise, Option.option_or}
use Rattle.ss_chain.specs.{Header.HeaderFields, HeaderReading.header_of, Steps.{first_of, passes}, declared.tipset_fault.TipsetFault.TipsetFault}

-- the blocks are a tipset of this height
pub record IsTipset (blocks : List (List ℕ × List ℕ)) (height : ℕ) : Type 0 where
  pub some : 0 < length blocks
  pub few : length blocks ≤ 64
  pub distinct : (i j : ℕ) (a b : List ℕ × List ℕ) → j < i → slice_get blocks i ≡ Some a → slice_get blocks j ≡ Some b → a.0 ≢ b.0
  pub parents : List (List ℕ)
  pub headers : (i : ℕ) (b : List ℕ × List ℕ) → slice_get blocks i ≡ Some b →
      (h : HeaderFields) × (header_of b.0 b.1 ≡ Some h) × (h.height ≡ height) × (h.parents ≡ parents)

-- ---- the height, or the first fault

-- whether two CIDs are equal, and two lists of them
abbrev pub same_cid : List ℕ → List ℕ → Bool
same_cid = pointwise nat_eq

abbrev pub same_cids : List (List ℕ) → List (List ℕ) → Bool
same_cids = pointwise same_cid

-- what is wrong with the number of blocks
abbrev pub count_fault : ℕ → Option TipsetFault
count_fault n = if n == 0 then Some TipsetFault.Empty else if nat_lt 64 n then Some (TipsetFault.TooMany n) else None

-- whether the CID at place i stands earlier too
unfoldable pub stands_earlier : List (List ℕ) → ℕ → Bool
stands_earlier cids i = passes (λ cid. list_any (same_cid cid) (take i cids)) (slice_get cids i)

abbrev pub repeat_at : List (List ℕ) → ℕ → Option TipsetFault
repeat_at cids i = if stands_earlier cids i then Some (TipsetFault.Repeated i) else None

-- what is wrong with these CIDs, whatever their blocks are
unfoldable pub cids_fault : List (List ℕ) → Option TipsetFault
cids_fault cids = option_or (count_fault (length cids)) (first_of (repeat_at cids) (length cids))

-- what is wrong with a block at place i, beside the first header
abbrev pub fault_beside : HeaderFields → ℕ → Option HeaderFields → Option TipsetFault
fault_beside first i None = Some (TipsetFault.NotHeader i)
fault_beside first i (Some header) =
    if not (header.height == first.height) then Some (TipsetFault.HeightDiffers i)
    else if not (same_cids header.parents first.parents) then Some (TipsetFault.ParentsDiffer i)
    else None

-- the header at place i
abbrev pub header_at : List (List ℕ × List ℕ) → ℕ → Option HeaderFields
header_at blocks i = option_and_then (λ b. header_of b.0 b.1) (slice_get blocks i)

-- the value, unless there is a fault
abbrev pub unless : {A : Type 0} → Option TipsetFault → Result A TipsetFault → Result A TipsetFault
unless (Some fault) r = Err fault
unless None r = r

-- the height of blocks of which this is the first header, if it is one
abbrev pub height_beside : List (List ℕ × List ℕ) → Option HeaderFields → Result ℕ TipsetFault
height_beside blocks None = Err (TipsetFault.NotHeader 0)
height_beside blocks (Some first) = unless (first_of (λ i. fault_beside first i (header_at blocks i)) (length blocks)) (Ok first.height)

-- the height of blocks whose CIDs have no fault, or the first fault
unfoldable pub common_height : List (List ℕ × List ℕ) → Result ℕ TipsetFault
common_height blocks = height_beside blocks (header_at blocks 0)

-- the height of the tipset that the blocks are, or the first fault: a height exactly where `IsTipset` holds of it
unfoldable pub tipset_of : List (List ℕ × List ℕ) → Result ℕ TipsetFault
tipset_of blocks = unless (cids_fault (map (λ b. b.0) blocks)) (common_height blocks)

-- the fault of a test
abbrev pub fault_in : {A : Type 0} → Result A TipsetFault → Option TipsetFault
fault_in (Ok x) = None
fault_in (Err fault) = Some fault
