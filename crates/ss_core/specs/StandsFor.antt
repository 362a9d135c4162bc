-- Which state the files have, and which one a store stands for.
use Rattle.std.specs.Prelude.{◌≡◌, ◌⊎◌, ◌==◌, ℕ, ◌≤◌, Bool, false, List, [], ◌∷◌, ◌++◌, length, Some, is_some, if◌then◌else◌}
use Rattle.std.specs.FinMap as finite_map
use Rattle.std.specs.FinSet as finite_set
use Rattle.ss_device.specs.{declared.disk.Disk.Ghosts, Disk.{Files, Evolves}}
use Rattle.ss_gatelog.specs.Log.{spelled}
use Rattle.ss_records.specs.declared.record.{Config.Config as Settings, Mode.Mode, Record.Record}
use Rattle.ss_store.specs.{Append.bodies, Places.without_cids}
use Rattle.ss_hot.specs.{Half.{AreInPlace, IsHalf, settings_of, hot_blocks, head_of, base_of}, Store.Keeps}
use Rattle.ss_model.specs.{State.{State, Kept, CidSet, closed}, Lawful.after_put, declared.call.PutReply.PutReply}
use Rattle.ss_core.specs.{declared.split_core.SplitCore.SplitCore, LogFiles.hot_file}

-- The records of a store with these settings leave this state, but for its views: all kept blocks are hot, and there is a row for each.
pub record IsLeftBy (settings : Settings) (records : List Record) (s : State) : Type 0 where
  pub config : s.config ≡ settings
  pub kept : s.kept ≡ hot_blocks records
  pub hot : (c : List ℕ) → finite_set.contains s.hot c ≡ is_some (finite_map.get s.kept c)
  pub head : s.head ≡ head_of records
  pub base : (s.base, s.ended) ≡ base_of records
  pub rows : finite_map.len s.kept ≤ s.config.rows

-- The files have this state, in which no view is open.
pub record HasState (files : Files) (s : State) : Type 0 where
  pub settings : Settings
  pub records : List Record
  pub half : IsHalf (files hot_file) settings records
  pub state : IsLeftBy settings records s
  pub closed : s.views ≡ finite_set.empty

-- where the records of the hot log end that leave this state
abbrev pub hot_end : {files : Files} {s : State} → HasState files s → ℕ
hot_end has = length (spelled (bodies has.records))

-- states of the same settings, blocks, hot CIDs, head, base, count of ended compactions, and views
pub record AreAlike (s t : State) : Type 0 where
  pub config : s.config ≡ t.config
  pub kept : s.kept ≡ t.kept
  pub hot : (c : List ℕ) → finite_set.contains s.hot c ≡ finite_set.contains t.hot c
  pub head : s.head ≡ t.head
  pub base : s.base ≡ t.base
  pub ended : s.ended ≡ t.ended
  pub views : s.views ≡ t.views

-- records that a half of these settings may have
abbrev pub AreOfHalf : Settings → List Record → Type 0
AreOfHalf settings records = AreInPlace 0 records × (settings_of records ≡ Some settings)

-- What a fault of the disk left open, at most of one log, which the number of its file names: nothing; whether this record stands
-- after the others; or whether the log was restarted.
pub data Doubt : Type 0 where
  no_doubt : Doubt
  appended : ℕ → Record → Doubt
  restarted : ℕ → Doubt

-- the log of this file is in doubt
abbrev pub is_doubted : ℕ → Doubt → Bool
is_doubted file no_doubt = false
is_doubted file (appended log r) = log == file
is_doubted file (restarted log) = log == file

-- the records of the log of this file as they are where what is in doubt happened
abbrev pub with_doubt : ℕ → List Record → Doubt → List Record
with_doubt file records no_doubt = records
with_doubt file records (appended log r) = if log == file then records ++ r ∷ [] else records
with_doubt file records (restarted log) = if log == file then [] else records

-- CIDs are hot no more
abbrev pub hot_without : CidSet → List (List ℕ) → CidSet
hot_without hot [] = hot
hot_without hot (c ∷ cids) = hot_without (finite_set.remove hot c) cids

-- and kept no more, but in a store that archives
abbrev pub kept_without : Mode → Kept → List (List ℕ) → Kept
kept_without Mode.Discard kept cids = without_cids kept cids
kept_without Mode.Universal kept cids = kept

-- the state that a record would make if it stood after the others
abbrev pub state_after : State → Record → State
state_after s (Record.Put pairs) = after_put s pairs (PutReply.Stored 0)
state_after s (Record.Head height cids) = record s { head = Some (height, cids) }
state_after s (Record.Config c) = s
state_after s (Record.Generation n) = s
state_after s (Record.Dropped cids) = record s { kept = kept_without s.config.mode s.kept cids; hot = hot_without s.hot cids }
state_after s (Record.Base base ended) = record s { base = base; ended = ended }
state_after s (Record.Start edge cids) = s
state_after s (Record.Cold cids) = s
state_after s (Record.Sealed total) = s
state_after s (Record.Copied up_to) = s
state_after s (Record.Purged up_to) = s

-- the state where what is in doubt happened; the restart of a log makes no other
abbrev pub state_with : State → Doubt → State
state_with s no_doubt = s
state_with s (appended log r) = state_after s r
state_with s (restarted log) = s

-- A store stands for this state: each image now has its records, or, where a log is in doubt, those that it has if that happened.
pub record StandsFor {D : Type 0} {disk : Ghosts D} (core : SplitCore D disk) (s : State) (doubt : Doubt) : Type 0 where
  pub records : List Record
  pub keeps : Keeps disk core.disk core.hot records (with_doubt hot_file records doubt)
  pub state : IsLeftBy core.hot.settings records s
  pub views : s.views ≡ core.views
  pub doubt_is : core.hot.log.unsure ≡ is_doubted hot_file doubt
  pub of_half : AreOfHalf core.hot.settings (with_doubt hot_file records doubt)
  pub doubted : IsLeftBy core.hot.settings (with_doubt hot_file records doubt) (state_with s doubt)

-- the files have this state with its views closed
abbrev pub HasClosed : State → Files → Type 0
HasClosed s files = HasState files (closed s)

-- what an image may have: the state with its views closed, or the one that what is in doubt would make
abbrev pub HasEitherState : State → Doubt → Files → Type 0
HasEitherState s doubt files = HasClosed s files ⊎ HasClosed (state_with s doubt) files

-- Each image since is one that a crash could leave before, or has the state that the files had.
abbrev pub KeepsState : {D : Type 0} → Ghosts D → D → D → Type 0
KeepsState disk old new =
    Evolves (disk.moment old) (disk.image old) (disk.moment new) (disk.image new) (λ was left. (left ≡ was) ⊎ ((s : State) × HasState (disk.files old) s × HasState left s))
