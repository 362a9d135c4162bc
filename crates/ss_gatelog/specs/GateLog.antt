-- What a gate log stands for over a disk, in what a read gives and in each image that a crash may leave.
use Rattle.std.specs.Prelude.{◌≡◌, ◌⊎◌, ◌<◌, ℕ, Bool, false, MatchBool, List, length, take, drop, ◌-◌, Result, Err, IsOk, OnOk, OnErr}
use Rattle.ss_device.specs.{declared.disk.Disk.Ghosts, Disk.Files, Calls.{Touches, Leaves}}
pub use Rattle.ss_device.specs.Faults.{Counts, CountsFault}
use Rattle.ss_gatelog.specs.Log.{spelled, AreBodies, Spells, InDoubt, HasList, IsShort}

-- a log: its file, how many of its bytes it may use, the offset of its first closed gate, and whether that gate is in doubt
pub record Log : Type 0 where
  pub file : ℕ
  pub limit : ℕ
  pub end : ℕ
  pub unsure : Bool

-- each image now has exactly these records, and the log's end is after the last
pub record IsSure {D : Type 0} (disk : Ghosts D) (now : D) (log : Log) (records : List (List ℕ)) : Type 0 where
  pub each : (left : Files) → disk.image now (disk.moment now) left → Spells records (left log.file)
  pub end : log.end ≡ length (spelled records)
  pub bodies : AreBodies records

-- each image now has the first list or the second, by one gate
pub record IsDoubted {D : Type 0} (disk : Ghosts D) (now : D) (log : Log) (front more : List (List ℕ)) : Type 0 where
  pub each : (left : Files) → disk.image now (disk.moment now) left → InDoubt front more (left log.file)
  pub end : log.end ≡ length (spelled front)
  pub bodies : AreBodies front
  pub more_bodies : AreBodies more
  pub more_within : length (spelled more) < log.limit

-- what a log stands for, sure or not: `more` is the other list where it is unsure
abbrev pub Stands : {D : Type 0} → Ghosts D → D → Log → List (List ℕ) → List (List ℕ) → Type 0
Stands disk now log front more = MatchBool log.unsure (IsDoubted disk now log front more) (IsSure disk now log front)

-- one of two lists
abbrev pub HasEither : ℕ → List (List ℕ) → List (List ℕ) → List ℕ → Type 0
HasEither limit front more file = HasList limit file front ⊎ HasList limit file more

-- ---- what settling does: closing the gate of a log in doubt

-- Over any disk: a sure log stays as it is. One in doubt is sure after `Ok`, and as it was after `disk_fault`, the only error.
pub record Settled {D E : Type 0} (disk : Ghosts D) (was now : D) (old new : Log) (disk_fault : E) (result : Result (Unit {0}) E) : Type 0 where
  pub sure : old.unsure ≡ false → IsOk result × (new ≡ old) × (now ≡ was)
  pub ok : OnOk result (new ≡ record old { unsure = false })
  pub err : OnErr result (new ≡ old)
  pub errors : (e : E) → result ≡ Err e → e ≡ disk_fault
  pub counts : CountsFault disk_fault (disk.faults was) (disk.faults now) result
  pub touches : Touches disk old.file was now

-- Where the disk exposes its files, of a log that stood for the first list, perhaps in doubt with the second: it has the first
-- after `Ok`, stands for what it did after an error, and each image since has one of the two.
pub record KeepsSettled {D E : Type 0} (disk : Ghosts D) (was now : D) (old new : Log) (front more : List (List ℕ)) (result : Result (Unit {0}) E) : Type 0 where
  pub settled : OnOk result (IsSure disk now new front)
  pub unsettled : OnErr result (Stands disk now new front more)
  pub stops : Leaves disk old.file (HasEither old.limit front more) was now

-- What opening does to an image of its file: nothing, or, where no more than a byte was read, it leaves one that has no more.
abbrev pub Opens : List ℕ → List ℕ → List ℕ → Type 0
Opens read was now = (now ≡ was) ⊎ (IsShort read × IsShort now)

-- what stands between the four bytes and the last of a frame
abbrev pub body_of : List ℕ → List ℕ
body_of frame = take (length frame - 5) (drop 4 frame)
