-- What comes of a put, in steps: whether its parcel passes, why it is refused, which blocks are new, and what settling the log does;
-- and of reading blocks: how many bytes a get answers, what the blocks of a head are, and how a fault is answered.
use Rattle.std.specs.{Prelude.{◌≡◌, ℕ, ◌+◌, ◌-◌, ◌^◌, ◌<◌, ◌≤◌, min, false, List, [], map, length, Option, None, Some, Result, Ok, Err, option_map, slice_get, IsTrue}, Option.option_or}
use Rattle.ss_device.specs.{declared.disk.Disk.Ghosts, Calls.{LeavesFiles, TouchesFiles, Goes}, Disk.Same}
use Rattle.ss_model.specs.{State.{State, Kept}, Lawful.{AreSound, IsFirstFault, body_bytes, pairs_need, IsDagCbor, IsPairFault}, declared.{TheConstants.{PUT_BLOCKS, PUT_BYTES}, call.{Call.Call, Answer.Answer, PutReply.PutReply, HeadReply.HeadReply, GetReply.GetReply}}, Head.{blocks_of, head_refusal}}
use Rattle.ss_core.specs.{declared.{split_core.SplitCore.SplitCore, blocks.BlockFault.BlockFault, fresh.{Fresh.Fresh, Seen.Seen}}, Calls.{Steps, Makes, settings_of}, Seen.{AreSeen, seen_in}, StandsFor.{Doubt, no_doubt, StandsFor, HasEitherState}, LogFiles.{hot_file, log_files}}
use Rattle.ss_cbor.specs.{Fault.scanned, declared.fault.CborFault.CborFault}
use Rattle.ss_store.specs.{declared.{place.Place.Place, fault.StoreFault.StoreFault}}
use Rattle.ss_hot.specs.Store.{Hot, AreNotHot, Settles as SettlesHot, room_of}
use Rattle.ss_chain.specs.{Header.HeaderFields, Tipset.tipset_of}
use Rattle.ss_cid.specs.Cid.{identity_of}
use Rattle.std.specs.FinMap as finite_map
use Rattle.std.specs.FinSet as finite_set
pub use Rattle.ss_core.specs.Held.{cids_of, held_len, held_count, held_bytes, held_put_bytes, pairs_new_to}

-- the parcel has no more blocks and bytes than a put may have, and each may be stored
pub record IsReady (pairs : List (List ℕ × List ℕ)) : Type 0 where
  pub few : length pairs ≤ PUT_BLOCKS
  pub short : body_bytes pairs ≤ PUT_BYTES
  pub sound : AreSound pairs

-- ---- why a put is refused, over any disk

-- before memory is asked for: by the open views, the parcel and what is held
abbrev pub IsRefused : {D : Type 0} {disk : Ghosts D} → SplitCore D disk → ℕ → List (List ℕ × List ℕ) → PutReply → Type 0
IsRefused core v pairs PutReply.BadView = finite_set.contains core.views v ≡ false
IsRefused core v pairs (PutReply.TooMany n) = PUT_BLOCKS < length pairs
IsRefused core v pairs (PutReply.TooBig n) = PUT_BYTES < held_put_bytes core pairs
IsRefused core v pairs refusal = IsFirstFault pairs refusal

-- Such a refusal has its cause, and leaves the store as it was. So do a full table and a full log, whose numbers are exact.
abbrev pub IsDueTo : {D : Type 0} {disk : Ghosts D} → SplitCore D disk → SplitCore D disk → ℕ → List (List ℕ × List ℕ) → PutReply → Type 0
IsDueTo old new v pairs PutReply.BadView = (new ≡ old) × IsRefused old v pairs PutReply.BadView
IsDueTo old new v pairs (PutReply.TooMany n) = (new ≡ old) × IsRefused old v pairs (PutReply.TooMany n)
IsDueTo old new v pairs (PutReply.TooBig n) = (new ≡ old) × IsRefused old v pairs (PutReply.TooBig n)
IsDueTo old new v pairs (PutReply.TooLarge i) = (new ≡ old) × IsRefused old v pairs (PutReply.TooLarge i)
IsDueTo old new v pairs (PutReply.UnknownHash i) = (new ≡ old) × IsRefused old v pairs (PutReply.UnknownHash i)
IsDueTo old new v pairs (PutReply.Mismatch i) = (new ≡ old) × IsRefused old v pairs (PutReply.Mismatch i)
IsDueTo old new v pairs (PutReply.Malformed i kind at) = (new ≡ old) × IsRefused old v pairs (PutReply.Malformed i kind at)
IsDueTo old new v pairs PutReply.NoMemory = Unit {0}
IsDueTo old new v pairs (PutReply.TableFull rows) = (new ≡ old) × (rows ≡ held_count old + length (pairs_new_to old pairs)) × ((settings_of old).rows < rows)
IsDueTo old new v pairs (PutReply.LogFull file need room) = (new ≡ old) × (file ≡ hot_file) × (need ≡ pairs_need (pairs_new_to old pairs)) × (room ≡ room_of old.hot) × (room < need)
IsDueTo old new v pairs PutReply.DiskFault = Unit {0}
IsDueTo old new v pairs (PutReply.Stored n) = Unit {0}

-- What a put does: its step, what it does over any disk, and why it is refused. The views stay.
pub record Puts {D : Type 0} {disk : Ghosts D} (old new : SplitCore D disk) (v : ℕ) (pairs : List (List ℕ × List ℕ)) (result : PutReply) : Type 0 where
  pub told : IsTrue disk.told → (s : State) (doubt : Doubt) → StandsFor old s doubt → Steps old new s doubt (Call.Put v pairs) (Answer.Put result)
  pub made : Makes old new (Call.Put v pairs) (Answer.Put result)
  pub due : IsDueTo old new v pairs result
  pub views : new.views ≡ old.views

-- what is in doubt once a log was settled, or could not be
abbrev pub doubt_after : {E : Type 0} → Result (Unit {0}) E → Doubt → Doubt
doubt_after (Ok _) doubt = no_doubt
doubt_after (Err _) doubt = doubt

-- Over any disk: the hot log was settled. The views stay, and the files other than those of the logs.
pub record Settles {D : Type 0} {disk : Ghosts D} (old new : SplitCore D disk) (result : Result (Unit {0}) StoreFault) : Type 0 where
  pub hot : SettlesHot disk old.disk new.disk old.hot new.hot result
  pub views : new.views ≡ old.views
  pub touches : TouchesFiles disk log_files old.disk new.disk

-- Where the disk exposes its files, a store whose log was settled, or could not be, stands for the state that it stood for.
pub record StillStands {D E : Type 0} {disk : Ghosts D} (old new : SplitCore D disk) (s : State) (doubt : Doubt) (result : Result (Unit {0}) E) : Type 0 where
  pub after : StandsFor new s (doubt_after result doubt)
  pub stops : LeavesFiles disk log_files (HasEitherState s doubt) old.disk new.disk

-- the refusal of a put by a fault of its pair at this place
abbrev pub refusal_of : BlockFault → ℕ → PutReply
refusal_of BlockFault.TooLarge i = PutReply.TooLarge i
refusal_of BlockFault.UnknownHash i = PutReply.UnknownHash i
refusal_of BlockFault.Mismatch i = PutReply.Mismatch i
refusal_of (BlockFault.Malformed kind at) i = PutReply.Malformed i kind at

-- the block is no item, and this is where
abbrev pub IsMalformed : List ℕ × List ℕ → BlockFault → Type 0
IsMalformed p (BlockFault.Malformed kind at) = IsDagCbor p.0 × ((found : CborFault) × (scanned p.1 ≡ Err found) × (kind ≡ found.kind) × (at ≡ min found.at (2 ^ 32 - 1)))
IsMalformed p _ = ⊥

-- the block has this fault
abbrev pub IsFaultOf : List ℕ × List ℕ → BlockFault → Type 0
IsFaultOf p fault = (i : ℕ) → IsPairFault i p (refusal_of fault i)

-- A look at each pair told what is seen of it, and where none is hot, the bytes of a record of these pairs.
pub record IsLooked (hot : Hot) (pairs : List (List ℕ × List ℕ)) (bytes : ℕ) (seen : List Seen) : Type 0 where
  pub own : AreNotHot hot pairs → bytes ≡ min (body_bytes pairs) (2 ^ 64 - 1)
  pub each : AreSeen (seen_in (cids_of hot.places)) pairs seen

-- the pairs at these places are these
abbrev pub ArePairsAt : List (List ℕ × List ℕ) → List ℕ → List (List ℕ × List ℕ) → Type 0
ArePairsAt pairs places chosen = map (slice_get pairs) places ≡ map Some chosen

-- the new blocks of a parcel: none, all of them, or these
abbrev pub IsFresh : List (List ℕ × List ℕ) → List (List ℕ × List ℕ) → Fresh → Type 0
IsFresh pairs new Fresh.Nothing = new ≡ []
IsFresh pairs new Fresh.All = (new ≡ pairs) × (1 ≤ length pairs)
IsFresh pairs new (Fresh.Part blocks) = (new ≡ blocks) × (1 ≤ length blocks)

-- ---- reading blocks

-- how many bytes the block of a CID has: of an identity CID those of its digest, of another as many as its place tells
abbrev pub len_of : {D : Type 0} {disk : Ghosts D} → SplitCore D disk → List ℕ → Option ℕ
len_of core c = option_or (option_map length (identity_of c)) (held_len core c)

-- the block of this CID, which is not an identity CID, lies at this place
abbrev pub LiesAt : Hot → List ℕ → Place → Type 0
LiesAt hot c p = (identity_of c ≡ None) × (finite_map.get hot.places c ≡ Some p)

-- a block that was found has so many bytes
abbrev pub HasLen : Option ℕ → GetReply → Type 0
HasLen len (GetReply.Found block) = len ≡ Some (length block)
HasLen len _ = Unit {0}

-- of a store no more than the disk changed, and of the disk no file
pub record OnlyReads {D : Type 0} {disk : Ghosts D} (old new : SplitCore D disk) : Type 0 where
  pub goes : Goes disk Same old.disk new.disk
  pub hot : new.hot ≡ old.hot
  pub views : new.views ≡ old.views

-- an answer that is decided before a block is read
abbrev pub IsUnread : HeadReply → Type 0
IsUnread HeadReply.Empty = Unit {0}
IsUnread (HeadReply.TooMany n) = Unit {0}
IsUnread (HeadReply.Repeated i) = Unit {0}
IsUnread (HeadReply.Absent i) = Unit {0}
IsUnread _ = ⊥

-- an answer that reading the blocks may give
abbrev pub IsJudgement : HeadReply → Type 0
IsJudgement HeadReply.NoMemory = Unit {0}
IsJudgement HeadReply.DiskFault = Unit {0}
IsJudgement (HeadReply.NotHeader i) = Unit {0}
IsJudgement (HeadReply.HeightDiffers i) = Unit {0}
IsJudgement (HeadReply.ParentsDiffer i) = Unit {0}
IsJudgement _ = ⊥

-- the height of the tipset, or what is refused; out of memory and a fault of the disk say nothing of it
abbrev pub IsJudged : Kept → List (List ℕ) → Result ℕ HeadReply → Type 0
IsJudged kept cids (Ok height) = tipset_of (blocks_of kept cids) ≡ Ok height
IsJudged kept cids (Err HeadReply.NoMemory) = Unit {0}
IsJudged kept cids (Err HeadReply.DiskFault) = Unit {0}
IsJudged kept cids (Err refusal) = head_refusal kept cids ≡ Some refusal

-- the height and the parents are those of a header that was read
abbrev pub IsFirst : ℕ → List (List ℕ) → Option HeaderFields → Type 0
IsFirst height parents (Some h) = (height ≡ h.height) × (parents ≡ h.parents)
IsFirst height parents None = ⊥

-- how the fault of a store is answered: out of memory, or a fault of the disk
abbrev pub put_fault : StoreFault → PutReply
put_fault StoreFault.NoMemory = PutReply.NoMemory
put_fault _ = PutReply.DiskFault

abbrev pub head_fault : StoreFault → HeadReply
head_fault StoreFault.NoMemory = HeadReply.NoMemory
head_fault _ = HeadReply.DiskFault
