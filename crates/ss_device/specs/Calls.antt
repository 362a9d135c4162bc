-- What calls on any disk did, in the words of its ghost members: for the contracts of what stands on a disk.
use Rattle.std.specs.Prelude.{◌≡◌, ◌≢◌, ◌≤◌, ℕ, List, [], ◌∷◌, IsTrue}
use Rattle.ss_device.specs.{declared.disk.Disk.Ghosts, Disk.{Files, Changes, Evolves}}

-- Calls took a disk from one state to another. Where it exposes its files, they and each image went by this step. No known
-- length fell, nor the count of faults, and what the disk borrows stayed.
pub record Goes {D : Type 0} (disk : Ghosts D) (step : Files → Files → Type 0) (old new : D) : Type 0 where
  pub files : IsTrue disk.told → step (disk.files old) (disk.files new)
  pub images : IsTrue disk.told → Evolves (disk.moment old) (disk.image old) (disk.moment new) (disk.image new) step
  pub known : (file : ℕ) → disk.known old file ≤ disk.known new file
  pub faults : disk.faults old ≤ disk.faults new
  pub place : disk.place new ≡ disk.place old

-- no file but this one changed
abbrev pub Touches : {D : Type 0} → Ghosts D → ℕ → D → D → Type 0
Touches disk file old new = Goes disk (Changes file (λ _ _. Unit {0})) old new

-- each image of this file since the old state has P, and other files stay as an image of the old state has them
abbrev pub Leaves : {D : Type 0} → Ghosts D → ℕ → (List ℕ → Type 0) → D → D → Type 0
Leaves disk file P old new = Evolves (disk.moment old) (disk.image old) (disk.moment new) (disk.image new) (Changes file (λ _ bytes. P bytes))

-- ---- calls that may change several files

-- a file is none of these
abbrev pub IsNoneOf : ℕ → List ℕ → Type 0
IsNoneOf g [] = Unit {0}
IsNoneOf g (file ∷ files) = (g ≢ file) × IsNoneOf g files

-- each file is as it was, but perhaps these
abbrev pub DifferIn : List ℕ → Files → Files → Type 0
DifferIn files old new = (g : ℕ) → IsNoneOf g files → new g ≡ old g

-- no file but these changed
abbrev pub TouchesFiles : {D : Type 0} → Ghosts D → List ℕ → D → D → Type 0
TouchesFiles disk files old new = Goes disk (DifferIn files) old new

-- Each image since the old state has P, which may speak of all files, and differs from an image of the old state in these files alone.
abbrev pub LeavesFiles : {D : Type 0} → Ghosts D → List ℕ → (Files → Type 0) → D → D → Type 0
LeavesFiles disk files P old new = Evolves (disk.moment old) (disk.image old) (disk.moment new) (disk.image new) (λ was left. DifferIn files was left × P left)
