-- What a disk in memory went through, by its record of calls: what a read gives after them, and what a crash may leave.
-- Each file goes its own way, so what a crash leaves of one file says nothing of another.
use Rattle.std.specs.{Prelude.{◌≡◌, ℕ, zero, suc, ◌+◌, ◌≤◌, Bool, true, false, ◌&&◌, ◌==◌, nat_le, IsTrue, List, [], ◌∷◌, ◌++◌, length, take, drop, reverse, filter, slice_index, not, ◌||◌, if◌then◌else◌, MatchBool, Vec}, declared.alloc.Global.Global}
use Rattle.ss_device.specs.Disk.{Files, Torn}
use Rattle.ss_disk.specs.declared.memory.call.DeviceCall.{DeviceCall}

-- the contents by number, where the list has those of files 0, 1, ..; each file past them is empty
abbrev pub contents : List (Vec ℕ Global) → Files
contents [] file = []
contents (v ∷ vs) zero = v.items
contents (v ∷ vs) (suc file) = contents vs file

-- the call wrote or synced this file
abbrev pub concerns : ℕ → DeviceCall → Bool
concerns file DeviceCall.Asked = false
concerns file (DeviceCall.Wrote f at left missing) = f == file
concerns file (DeviceCall.Synced f) = f == file

-- the calls on one file, the newest first
abbrev pub story : ℕ → List DeviceCall → List DeviceCall
story file calls = reverse (filter (concerns file) calls)

-- what a read gives after these calls on a file
abbrev pub read_after : List ℕ → List DeviceCall → List ℕ
read_after first [] = first
read_after first (DeviceCall.Asked ∷ earlier) = read_after first earlier
read_after first (DeviceCall.Wrote file at left missing ∷ earlier) = take at (read_after first earlier) ++ (left.items ++ drop (at + length left.items) (read_after first earlier))
read_after first (DeviceCall.Synced file ∷ earlier) = read_after first earlier

-- what a crash after them may leave of it
abbrev pub MayLeave : List ℕ → List DeviceCall → List ℕ → Type 0
MayLeave first [] bytes = bytes ≡ first
MayLeave first (DeviceCall.Asked ∷ earlier) bytes = MayLeave first earlier bytes
MayLeave first (DeviceCall.Wrote file at left missing ∷ earlier) bytes = (was : List ℕ) × MayLeave first earlier was × Torn at (length left.items + missing) was bytes
MayLeave first (DeviceCall.Synced file ∷ earlier) bytes = bytes ≡ read_after first earlier

-- what a crash after these calls may leave of all files
abbrev pub Image : List (Vec ℕ Global) → List DeviceCall → Files → Type 0
Image first calls left = (file : ℕ) → MayLeave (contents first file) (story file calls) (left file)

-- each write of the record named a place within the file as it was
abbrev pub fits : List ℕ → List DeviceCall → Bool
fits first [] = true
fits first (DeviceCall.Asked ∷ earlier) = fits first earlier
fits first (DeviceCall.Wrote file at left missing ∷ earlier) = nat_le at (length (read_after first earlier)) && fits first earlier
fits first (DeviceCall.Synced file ∷ earlier) = fits first earlier

-- There are six files, and each call names one of them. Their contents now are those that the calls made of the first ones, and no known length passes them.
pub record Replays (first current : List (Vec ℕ Global)) (known : List ℕ) (calls : List DeviceCall) : Type 0 where
  pub first_six : length first ≡ 6
  pub current_six : length current ≡ 6
  pub known_six : length known ≡ 6
  pub named : (file : ℕ) → 6 ≤ file → story file calls ≡ []
  pub replayed : (file : ℕ) → contents current file ≡ read_after (contents first file) (story file calls)
  pub fitting : (file : ℕ) → IsTrue (fits (contents first file) (story file calls))
  pub within : (file : ℕ) → slice_index known file ≤ length (contents current file)

-- the call synced this file
abbrev pub syncs : ℕ → DeviceCall → Bool
syncs file DeviceCall.Asked = false
syncs file (DeviceCall.Wrote f at left missing) = false
syncs file (DeviceCall.Synced f) = f == file

-- no call of these synced the file
abbrev pub unsynced : ℕ → List DeviceCall → Bool
unsynced file [] = true
unsynced file (call ∷ calls) = not (syncs file call) && unsynced file calls

-- where the call wrote to this file, it named a place within these bytes
abbrev pub placed : ℕ → DeviceCall → List ℕ → Bool
placed file DeviceCall.Asked bytes = true
placed file (DeviceCall.Wrote f at left missing) bytes = not (f == file) || nat_le at (length bytes)
placed file (DeviceCall.Synced f) bytes = true

-- what a read of this file gives after a call
abbrev pub replayed : ℕ → DeviceCall → List ℕ → List ℕ
replayed file DeviceCall.Asked bytes = bytes
replayed file (DeviceCall.Wrote f at left missing) bytes = if f == file then take at bytes ++ (left.items ++ drop (at + length left.items) bytes) else bytes
replayed file (DeviceCall.Synced f) bytes = bytes

-- what a crash may leave of this file after a call that did not sync it, where these bytes are what one before it leaves
abbrev pub Tears : ℕ → DeviceCall → List ℕ → List ℕ → Type 0
Tears file DeviceCall.Asked old new = new ≡ old
Tears file (DeviceCall.Wrote f at left missing) old new = MatchBool (f == file) (Torn at (length left.items + missing) old new) (new ≡ old)
Tears file (DeviceCall.Synced f) old new = new ≡ old
