-- How a parcel's blocks lie in one buffer.
use Rattle.std.specs.{Prelude.{ℕ, ◌<◌, ◌≤◌, ◌^◌, Bool, ◌&&◌, nat_eq, List, map, length, All}, List.slice_range, Cmp.Lexicographic.pointwise}
use Rattle.ss_cid.specs.{Cid.IsCid, declared.parcel.{Entry.Entry, Parcel.TheInside.Inside}}

-- a block's CID and its bytes
abbrev pub pair_of : List ℕ → Entry → List ℕ × List ℕ
pair_of buffer entry = (entry.cid, slice_range buffer entry.start entry.end)

abbrev pub pairs_of : Inside → List (List ℕ × List ℕ)
pairs_of p = map (pair_of p.buffer.items) p.entries.items

-- an entry's bytes lie in the buffer, and its CID is one
pub record IsEntry (buffer : List ℕ) (entry : Entry) : Type 0 where
  pub cid : IsCid entry.cid
  pub ordered : entry.start ≤ entry.end
  pub within : entry.end ≤ length buffer

-- whether two pairs have the same CID and the same bytes
abbrev pub pair_eq : List ℕ × List ℕ → List ℕ × List ℕ → Bool
pair_eq p q = pointwise nat_eq p.0 q.0 && pointwise nat_eq p.1 q.1

pub record IsParcel (p : Inside) : Type 0 where
  pub entries : All (IsEntry p.buffer.items) p.entries.items
  pub few : length p.entries.items < 2 ^ 32
