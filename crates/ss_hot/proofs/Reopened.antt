-- A store that is kept is found again by the next opening.
use Rattle.std.proofs.Common.{◌≡◌, inr, ℕ, false, List, length, arith}
use Rattle.ss_device.specs.declared.disk.Disk.{Ghosts}
use Rattle.ss_device.specs.Disk.{Files}
use Rattle.ss_gatelog.specs.Log.{spelled, AreBodies, Spells}
use Rattle.ss_records.specs.declared.record.Record.{Record}
use Rattle.ss_store.specs.Append.{bodies}
use Rattle.ss_hot.specs.Half.{IsHalf}
use Rattle.ss_hot.specs.Store.{Hot, Tells, IsPlaced, Keeps}
use Rattle.ss_hot.proofs.Settings.{settings_stand}
use Rattle.ss_hot.proofs.Writes.{sure_of}

-- a file that spells the records of a store is the half that has them
half_again : (file : List ℕ) (store : Hot) (records : List Record) → Tells store records → IsPlaced store → store.log.end ≡ length (spelled (bodies records)) → AreBodies (bodies records) → Spells (bodies records) file → IsHalf file store.settings records
half_again file store records tells placed end short spells = record {
  committed = settings_stand file records store.settings tells.in_place tells.settings short spells;
  list = inr (record { spells = spells; bodies = short; within = omega (arith, end, placed.1) });
  in_place = tells.in_place;
}

-- so each image of a disk with a sure store is
pub kept_half : {D : Type 0} (disk : Ghosts D) (now : D) (store : Hot) (records others : List Record) → Keeps disk now store records others → store.log.unsure ≡ false → (left : Files) → disk.image now (disk.moment now) left → IsHalf (left store.log.file) store.settings records
kept_half disk now store records others keeps sure left image =
    let is = sure_of disk now store.log (bodies records) (bodies others) sure keeps.stands in
    half_again (left store.log.file) store records keeps.tells keeps.placed is.end is.bodies (is.each left image)
