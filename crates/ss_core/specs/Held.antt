-- What a store holds, over any disk: how many bytes are kept under a CID, and what a call needs of a log.
use Rattle.std.specs.{Prelude.{ℕ, ◌+◌, max, List, length, Option, option_map, sum_by}, Option.unwrap_or}
use Rattle.ss_device.specs.declared.disk.Disk.{Ghosts}
use Rattle.ss_store.specs.{Places.CidMap, declared.place.Place.Place}
use Rattle.ss_model.specs.{State.CidSet, Head.head_need, Lawful.{new_pairs, pairs_need}, declared.call.Call.Call}
use Rattle.ss_core.specs.declared.split_core.SplitCore.{SplitCore}
use Rattle.std.specs.FinMap as finite_map
use Rattle.std.specs.FinSet as finite_set

-- the CIDs at which a place is held
abbrev pub cids_of : CidMap Place → CidSet
cids_of places = finite_set.from_list (finite_map.keys places)

-- how many bytes are kept under a CID, if it is kept
abbrev pub held_len : {D : Type 0} {disk : Ghosts D} → SplitCore D disk → List ℕ → Option ℕ
held_len core c = option_map (λ place. place.len) (finite_map.get core.hot.places c)

-- how many CIDs are kept
abbrev pub held_count : {D : Type 0} {disk : Ghosts D} → SplitCore D disk → ℕ
held_count core = finite_map.len core.hot.places

-- the bytes that one pair takes of a put, and those of a put
abbrev pub held_bytes : {D : Type 0} {disk : Ghosts D} → SplitCore D disk → List ℕ × List ℕ → ℕ
held_bytes core p = length p.0 + 4 + max (length p.1) (unwrap_or (held_len core p.0) 0)

abbrev pub held_put_bytes : {D : Type 0} {disk : Ghosts D} → SplitCore D disk → List (List ℕ × List ℕ) → ℕ
held_put_bytes core pairs = 3 + sum_by (held_bytes core) pairs

-- the pairs that are new to a store
abbrev pub pairs_new_to : {D : Type 0} {disk : Ghosts D} → SplitCore D disk → List (List ℕ × List ℕ) → List (List ℕ × List ℕ)
pairs_new_to core pairs = new_pairs (cids_of core.hot.places) pairs

-- the bytes that the record of a call needs of its log
abbrev pub need_of : {D : Type 0} {disk : Ghosts D} → SplitCore D disk → Call → ℕ
need_of core (Call.Put v pairs) = pairs_need (pairs_new_to core pairs)
need_of core (Call.SetHead cids) = head_need cids
need_of core Call.OpenView = 0
need_of core (Call.CloseView v) = 0
need_of core (Call.Get v c) = 0
need_of core (Call.Has v c) = 0
need_of core (Call.Size v c) = 0
need_of core Call.Info = 0
