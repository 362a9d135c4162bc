-- Which answer to a call is lawful at a state, and the state after it.
--
-- Each call has a list of answers, and the lawful one is the first whose condition holds. Three answers depend on more than
-- the state: out of memory, a full log, whose room no state has, and a fault of the disk. Each may stand in its place in
-- the list, and a later one too. Only an answer that is named with an effect changes the state.
use Rattle.std.specs.{Prelude.{◌≡◌, ◌≢◌, ℕ, ◌+◌, ◌-◌, ◌^◌, ◌<◌, ◌≤◌, nat_le, min, max, Bool, true, false, ◌||◌, List, [], ◌∷◌, length, Option, None, Some, if◌then◌else◌, is_some, option_map, IsOk, Err, slice_get, sum_by, map as list_map}, Option.unwrap_or, Ordering.nat_cmp, Cmp.Lexicographic.slice_cmp, BTreeMap.{BTreeMap, get}}
use Rattle.ss_cid.specs.Cid.{codec_of, identity_of}
use Rattle.ss_cbor.specs.{Fault.scanned, declared.fault.CborFault.CborFault}
use Rattle.ss_chain.specs.{Fetch.fetched, Steps.passes}
use Rattle.ss_hash.specs.Digest.{IsValid, IsUnknownHash}
use Rattle.ss_model.specs.{Head.{unread_refusal, head_refusal, IsHead, head_need}, State.{Kept, CidSet, State}, declared.{TheConstants.{VIEWS, PUT_BLOCKS, PUT_BYTES, BLOCK_BYTES}, call.{Call.Call, Answer.Answer, ViewReply.ViewReply, PutReply.PutReply, GetReply.GetReply, CloseReply.CloseReply, HasReply.HasReply, SizeReply.SizeReply, HeadReply.HeadReply, Info.Info, Entry.Entry}}}
use Rattle.ss_records.specs.declared.record.Mode.{Mode}
use Rattle.std.specs.FinMap as map
use Rattle.std.specs.FinSet as set

-- the view of this number is open
abbrev pub is_open : State → ℕ → Bool
is_open s v = set.contains s.views v

-- the CID stands for a block: it is an identity CID, or kept
abbrev pub is_known : Kept → List ℕ → Bool
is_known kept c = is_some (fetched kept c)

-- The block joins the kept ones, unless its CID stands for a block already: that one stays. So an identity CID is never kept.
unfoldable pub with_block : Kept → List ℕ × List ℕ → Kept
with_block kept p = if is_known kept p.0 then kept else map.insert kept p.0 p.1

-- the blocks of a parcel join, in order
abbrev pub with_blocks : Kept → List (List ℕ × List ℕ) → Kept
with_blocks kept [] = kept
with_blocks kept (p ∷ pairs) = with_blocks (with_block kept p) pairs

-- a block is hot, unless its CID is an identity CID
unfoldable pub with_hot_cid : CidSet → List ℕ → CidSet
with_hot_cid hot c = if is_some (identity_of c) then hot else set.insert hot c

-- the blocks of a parcel are hot
abbrev pub with_hot : CidSet → List (List ℕ × List ℕ) → CidSet
with_hot hot [] = hot
with_hot hot (p ∷ pairs) = with_hot (with_hot_cid hot p.0) pairs

-- how many CIDs are kept once the blocks of the parcel are
abbrev pub rows_after : State → List (List ℕ × List ℕ) → ℕ
rows_after s pairs = map.len (with_blocks s.kept pairs)

-- the record of a put leaves this CID out: it is an identity CID, or one of these
unfoldable pub is_left_out : CidSet → List ℕ → Bool
is_left_out hot c = is_some (identity_of c) || set.contains hot c

-- the pairs of a parcel of which the record of its put has the CIDs, in order, each where its CID first stands
abbrev pub new_pairs : CidSet → List (List ℕ × List ℕ) → List (List ℕ × List ℕ)
new_pairs hot [] = []
new_pairs hot (p ∷ pairs) = if is_left_out hot p.0 then new_pairs hot pairs else p ∷ new_pairs (set.insert hot p.0) pairs

-- the pair as a record has it: with the bytes that are kept under its CID, if there are any, and else with its own
abbrev pub written_pair : Kept → List ℕ × List ℕ → List ℕ × List ℕ
written_pair kept p = (p.0, unwrap_or (map.get kept p.0) p.1)

-- the pairs that the record of a put has: of a CID that is kept and not hot the bytes that are kept
abbrev pub written_pairs : Kept → CidSet → List (List ℕ × List ℕ) → List (List ℕ × List ℕ)
written_pairs kept hot pairs = list_map (written_pair kept) (new_pairs hot pairs)

-- the bytes that one pair takes of a record: its CID, a length of four bytes, and its block
abbrev pub written_bytes : List ℕ × List ℕ → ℕ
written_bytes p = length p.0 + 4 + length p.1

-- the bytes of the body of a record of these pairs: its kind, a count of two bytes, and the pairs
abbrev pub body_bytes : List (List ℕ × List ℕ) → ℕ
body_bytes pairs = 3 + sum_by written_bytes pairs

-- the bytes that this record takes of a log: its gate, a length of four bytes, and its body
abbrev pub pairs_need : List (List ℕ × List ℕ) → ℕ
pairs_need pairs = 5 + body_bytes pairs

-- how many bytes are kept under a CID
abbrev pub length_of : Option (List ℕ) → ℕ
length_of None = 0
length_of (Some block) = length block

-- the bytes that one pair takes of a put: its CID, a length of four bytes, and its block or the one that is kept, the longer
abbrev pub pair_bytes : Kept → List ℕ × List ℕ → ℕ
pair_bytes kept p = length p.0 + 4 + max (length p.1) (length_of (map.get kept p.0))

-- the bytes of a put
abbrev pub put_bytes : Kept → List (List ℕ × List ℕ) → ℕ
put_bytes kept pairs = 3 + sum_by (pair_bytes kept) pairs

-- a CID and its block are no longer together than a block may be
abbrev pub IsSmall : List ℕ × List ℕ → Type 0
IsSmall p = length p.0 + length p.1 ≤ BLOCK_BYTES

-- the codec dag-cbor
abbrev pub IsDagCbor : List ℕ → Type 0
IsDagCbor c = codec_of c ≡ 0x71

-- the pair may be stored: small, valid, and under dag-cbor one item
pub record IsSound (p : List ℕ × List ℕ) : Type 0 where
  pub small : IsSmall p
  pub valid : IsValid p.0 p.1
  pub item : IsDagCbor p.0 → IsOk (scanned p.1)

-- all pairs may be stored
abbrev pub AreSound : List (List ℕ × List ℕ) → Type 0
AreSound pairs = (k : ℕ) (q : List ℕ × List ℕ) → k < length pairs → slice_get pairs k ≡ Some q → IsSound q

-- the pair at this place is refused so
abbrev pub IsPairFault : ℕ → List ℕ × List ℕ → PutReply → Type 0
IsPairFault at p (PutReply.TooLarge i) = (i ≡ at) × (BLOCK_BYTES < length p.0 + length p.1)
IsPairFault at p (PutReply.UnknownHash i) = (i ≡ at) × IsSmall p × ((code : ℕ) × IsUnknownHash p.0 code)
IsPairFault at p (PutReply.Mismatch i) = (i ≡ at) × IsSmall p × ((code : ℕ) → ¬ IsUnknownHash p.0 code) × ¬ IsValid p.0 p.1
IsPairFault at p (PutReply.Malformed i kind place) = (i ≡ at) × IsSmall p × IsValid p.0 p.1 × IsDagCbor p.0 × ((fault : CborFault) × (scanned p.1 ≡ Err fault) × (kind ≡ fault.kind) × (place ≡ min fault.at (2 ^ 32 - 1)))
IsPairFault at p _ = ⊥

-- the first pair that may not be stored is refused so
pub record IsFirstFault (pairs : List (List ℕ × List ℕ)) (refusal : PutReply) : Type 0 where
  pub at : ℕ
  pub pair : List ℕ × List ℕ
  pub stands : slice_get pairs at ≡ Some pair
  pub fault : IsPairFault at pair refusal
  pub before : (k : ℕ) (q : List ℕ × List ℕ) → k < at → slice_get pairs k ≡ Some q → IsSound q

-- the view is open, and the parcel neither has too many blocks nor is too big
pub record IsFitting (s : State) (v : ℕ) (pairs : List (List ℕ × List ℕ)) : Type 0 where
  pub view : is_open s v ≡ true
  pub few : length pairs ≤ PUT_BLOCKS
  pub bytes : put_bytes s.kept pairs ≤ PUT_BYTES

-- state and parcel refuse the put so
abbrev pub IsPutRefusal : State → ℕ → List (List ℕ × List ℕ) → PutReply → Type 0
IsPutRefusal s v pairs PutReply.BadView = is_open s v ≡ false
IsPutRefusal s v pairs (PutReply.TooMany n) = (is_open s v ≡ true) × (PUT_BLOCKS < length pairs) × (n ≡ length pairs)
IsPutRefusal s v pairs (PutReply.TooBig n) = (is_open s v ≡ true) × (length pairs ≤ PUT_BLOCKS) × (PUT_BYTES < put_bytes s.kept pairs) × (n ≡ min (put_bytes s.kept pairs) (2 ^ 64 - 1))
IsPutRefusal s v pairs refusal = IsFitting s v pairs × IsFirstFault pairs refusal

-- state and parcel let the put pass
pub record IsPassed (s : State) (v : ℕ) (pairs : List (List ℕ × List ℕ)) : Type 0 where
  pub fitting : IsFitting s v pairs
  pub sound : AreSound pairs

-- the put passes, and no more CIDs are kept after it than the settings allow
pub record IsAdmitted (s : State) (v : ℕ) (pairs : List (List ℕ × List ℕ)) : Type 0 where
  pub passed : IsPassed s v pairs
  pub rows : rows_after s pairs ≤ s.config.rows

abbrev pub LawfulPut : State → ℕ → List (List ℕ × List ℕ) → PutReply → Type 0
LawfulPut s v pairs PutReply.NoMemory = IsPassed s v pairs
LawfulPut s v pairs (PutReply.TableFull rows) = IsPassed s v pairs × (rows ≡ rows_after s pairs) × (s.config.rows < rows)
LawfulPut s v pairs (PutReply.LogFull file need room) = IsAdmitted s v pairs × (file ≡ 0) × (written_pairs s.kept s.hot pairs ≢ []) × (need ≡ pairs_need (written_pairs s.kept s.hot pairs)) × (room < need)
LawfulPut s v pairs PutReply.DiskFault = IsAdmitted s v pairs
LawfulPut s v pairs (PutReply.Stored new) = IsAdmitted s v pairs × (map.len s.kept + new ≡ rows_after s pairs)
LawfulPut s v pairs refusal = IsPutRefusal s v pairs refusal

abbrev pub LawfulGet : State → ℕ → List ℕ → GetReply → Type 0
LawfulGet s v c GetReply.BadView = is_open s v ≡ false
LawfulGet s v c GetReply.NotFound = (is_open s v ≡ true) × (fetched s.kept c ≡ None)
LawfulGet s v c GetReply.NoMemory = (is_open s v ≡ true) × (is_known s.kept c ≡ true)
LawfulGet s v c GetReply.DiskFault = (is_open s v ≡ true) × (is_known s.kept c ≡ true) × (identity_of c ≡ None)
LawfulGet s v c (GetReply.Found block) = (is_open s v ≡ true) × (fetched s.kept c ≡ Some block)

-- a fault of the disk may stop a head where no fault of the CIDs does: its blocks are read, or its record is written
abbrev pub LawfulHead : State → List (List ℕ) → HeadReply → Type 0
LawfulHead s cids HeadReply.NoMemory = unread_refusal s.kept cids ≡ None
LawfulHead s cids HeadReply.DiskFault = unread_refusal s.kept cids ≡ None
LawfulHead s cids (HeadReply.LogFull file need room) = ((height : ℕ) × IsHead s.kept cids height) × (file ≡ 0) × (need ≡ head_need cids) × (room < need)
LawfulHead s cids (HeadReply.Set height) = IsHead s.kept cids height
LawfulHead s cids refusal = head_refusal s.kept cids ≡ Some refusal

-- a head is set, and its height is at least the threshold above the base
abbrev pub is_due : State → Bool
is_due s = passes (λ h. nat_le (s.base + s.config.threshold) h.0) s.head

-- what the store tells of itself; no compaction runs
abbrev pub info_of : State → Info
info_of s = record { config = s.config; height = option_map (λ h. h.0) s.head; base = s.base; ended = s.ended; hot = set.len s.hot; kept = map.len s.kept; views = set.len s.views; running = false; due = is_due s }

-- The answer is lawful for this call at this state. A view opens under the least number below the limit that is no open view's, if there is one.
abbrev pub Lawful : State → Call → Answer → Type 0
Lawful s Call.OpenView (Answer.View (ViewReply.Opened n)) = (n < VIEWS) × (is_open s n ≡ false) × ((k : ℕ) → k < n → is_open s k ≡ true)
Lawful s Call.OpenView (Answer.View ViewReply.TooManyViews) = (k : ℕ) → k < VIEWS → is_open s k ≡ true
Lawful s (Call.Put v pairs) (Answer.Put r) = LawfulPut s v pairs r
Lawful s (Call.Get v c) (Answer.Get r) = LawfulGet s v c r
Lawful s (Call.CloseView v) (Answer.Close CloseReply.BadView) = is_open s v ≡ false
Lawful s (Call.CloseView v) (Answer.Close CloseReply.Closed) = is_open s v ≡ true
Lawful s (Call.Has v c) (Answer.Has HasReply.BadView) = is_open s v ≡ false
Lawful s (Call.Has v c) (Answer.Has HasReply.No) = (is_open s v ≡ true) × (is_known s.kept c ≡ false)
Lawful s (Call.Has v c) (Answer.Has HasReply.Yes) = (is_open s v ≡ true) × (is_known s.kept c ≡ true)
Lawful s (Call.Size v c) (Answer.Size SizeReply.BadView) = is_open s v ≡ false
Lawful s (Call.Size v c) (Answer.Size SizeReply.NotFound) = (is_open s v ≡ true) × (fetched s.kept c ≡ None)
Lawful s (Call.Size v c) (Answer.Size (SizeReply.Size n)) = (is_open s v ≡ true) × (option_map length (fetched s.kept c) ≡ Some n)
Lawful s (Call.SetHead cids) (Answer.Head r) = LawfulHead s cids r
Lawful s Call.Info (Answer.Info i) = i ≡ info_of s
Lawful s _ _ = ⊥

abbrev pub after_put : State → List (List ℕ × List ℕ) → PutReply → State
after_put s pairs (PutReply.Stored new) = record s { kept = with_blocks s.kept pairs; hot = with_hot s.hot pairs }
after_put s pairs _ = s

abbrev pub after_head : State → List (List ℕ) → HeadReply → State
after_head s cids (HeadReply.Set height) = record s { head = Some (height, cids) }
after_head s cids _ = s

-- the state after the answer
abbrev pub After : State → Call → Answer → State
After s Call.OpenView (Answer.View (ViewReply.Opened n)) = record s { views = set.insert s.views n }
After s (Call.Put v pairs) (Answer.Put r) = after_put s pairs r
After s (Call.CloseView v) (Answer.Close CloseReply.Closed) = record s { views = set.remove s.views v }
After s (Call.SetHead cids) (Answer.Head r) = after_head s cids r
After s _ _ = s

-- What kept a call from its end that its view, its CIDs and its blocks do not decide: nothing did; memory; a fault of the disk; the room
-- of a log, with its file, the need and the room; or the rows of the table, with their number.
pub data Obstacle : Type 0 where
  no_obstacle : Obstacle
  of_memory : Obstacle
  of_disk : Obstacle
  of_log : ℕ → ℕ → ℕ → Obstacle
  of_table : ℕ → Obstacle

abbrev pub put_obstacle : PutReply → Obstacle
put_obstacle PutReply.BadView = no_obstacle
put_obstacle (PutReply.TooMany n) = no_obstacle
put_obstacle (PutReply.TooBig n) = no_obstacle
put_obstacle (PutReply.TooLarge i) = no_obstacle
put_obstacle (PutReply.UnknownHash i) = no_obstacle
put_obstacle (PutReply.Mismatch i) = no_obstacle
put_obstacle (PutReply.Malformed i kind at) = no_obstacle
put_obstacle PutReply.NoMemory = of_memory
put_obstacle (PutReply.TableFull rows) = of_table rows
put_obstacle (PutReply.LogFull file need room) = of_log file need room
put_obstacle PutReply.DiskFault = of_disk
put_obstacle (PutReply.Stored new) = no_obstacle

abbrev pub get_obstacle : GetReply → Obstacle
get_obstacle GetReply.BadView = no_obstacle
get_obstacle GetReply.NotFound = no_obstacle
get_obstacle GetReply.NoMemory = of_memory
get_obstacle GetReply.DiskFault = of_disk
get_obstacle (GetReply.Found block) = no_obstacle

abbrev pub head_obstacle : HeadReply → Obstacle
head_obstacle HeadReply.Empty = no_obstacle
head_obstacle (HeadReply.TooMany n) = no_obstacle
head_obstacle (HeadReply.Repeated i) = no_obstacle
head_obstacle (HeadReply.Absent i) = no_obstacle
head_obstacle HeadReply.NoMemory = of_memory
head_obstacle HeadReply.DiskFault = of_disk
head_obstacle (HeadReply.NotHeader i) = no_obstacle
head_obstacle (HeadReply.HeightDiffers i) = no_obstacle
head_obstacle (HeadReply.ParentsDiffer i) = no_obstacle
head_obstacle (HeadReply.LogFull file need room) = of_log file need room
head_obstacle (HeadReply.Set height) = no_obstacle

abbrev pub obstacle_of : Answer → Obstacle
obstacle_of (Answer.View r) = no_obstacle
obstacle_of (Answer.Close r) = no_obstacle
obstacle_of (Answer.Put r) = put_obstacle r
obstacle_of (Answer.Get r) = get_obstacle r
obstacle_of (Answer.Has r) = no_obstacle
obstacle_of (Answer.Size r) = no_obstacle
obstacle_of (Answer.Head r) = head_obstacle r
obstacle_of (Answer.Info i) = no_obstacle

-- it is memory
abbrev pub is_memory : Obstacle → Bool
is_memory no_obstacle = false
is_memory of_memory = true
is_memory of_disk = false
is_memory (of_log file need room) = false
is_memory (of_table rows) = false

abbrev pub is_fault : Obstacle → Bool
is_fault no_obstacle = false
is_fault of_memory = false
is_fault of_disk = true
is_fault (of_log file need room) = false
is_fault (of_table rows) = false

abbrev pub is_full_log : Obstacle → Bool
is_full_log no_obstacle = false
is_full_log of_memory = false
is_full_log of_disk = false
is_full_log (of_log file need room) = true
is_full_log (of_table rows) = false

abbrev pub is_full_table : Obstacle → Bool
is_full_table no_obstacle = false
is_full_table of_memory = false
is_full_table of_disk = false
is_full_table (of_log file need room) = false
is_full_table (of_table rows) = true

-- the answer is out of memory
abbrev pub is_no_memory : Answer → Bool
is_no_memory a = is_memory (obstacle_of a)

-- the answer is a fault of the disk
abbrev pub is_disk_fault : Answer → Bool
is_disk_fault a = is_fault (obstacle_of a)

-- the answer is that too many CIDs would be kept
abbrev pub is_table_full : Answer → Bool
is_table_full a = is_full_table (obstacle_of a)

-- the answer is that a log has no room
abbrev pub is_log_full : Answer → Bool
is_log_full a = is_full_log (obstacle_of a)

-- the block of the pair at an index, if one is given
abbrev pub block_at : List (List ℕ × List ℕ) → Option ℕ → Option (List ℕ)
block_at pairs None = None
block_at pairs (Some i) = option_map (λ p. p.1) (slice_get pairs i)

-- where the blocks of a parcel are, the index of the first pair of each CID that is no identity CID: each kept block is that of its pair
pub record ArePlaces (pairs : List (List ℕ × List ℕ)) (kept : Kept) (places : BTreeMap (List ℕ) ℕ) : Type 0 where
  pub blocks : (cid : List ℕ) → map.get kept cid ≡ block_at pairs (get (slice_cmp nat_cmp) places cid)
  pub within : (cid : List ℕ) (i : ℕ) → get (slice_cmp nat_cmp) places cid ≡ Some i → i < length pairs

-- the state after all entries
abbrev pub AfterAll : State → List Entry → State
AfterAll s [] = s
AfterAll s (e ∷ h) = AfterAll (After s e.call e.answer) h

abbrev pub Legal : State → List Entry → Type 0
Legal s [] = Unit {0}
Legal s (e ∷ h) = Lawful s e.call e.answer × Legal (After s e.call e.answer) h

-- What holds of a state of every store: a new store has such a state, and each legal entry and closing keep it, after any number of runs.
pub record IsProper (s : State) : Type 0 where
  pub stored : (c block : List ℕ) → map.get s.kept c ≡ Some block → identity_of c ≡ None
  pub valid : (c block : List ℕ) → map.get s.kept c ≡ Some block → IsValid c block
  pub hot : (c : List ℕ) → set.contains s.hot c ≡ true → map.contains_key s.kept c ≡ true
  pub all_hot : s.config.mode ≡ Mode.Discard → (c : List ℕ) → map.contains_key s.kept c ≡ true → set.contains s.hot c ≡ true
  pub rows : map.len s.kept ≤ s.config.rows
  pub head : (height : ℕ) (cids : List (List ℕ)) → s.head ≡ Some (height, cids) → IsHead s.kept cids height
  pub views : (v : ℕ) → set.contains s.views v ≡ true → v < 1024
