-- The disk of this project: files under one clock, what a read gives, and what a crash may leave. docs/MODEL.md has its rules in words.
use Rattle.std.specs.Prelude.{◌≡◌, ◌≢◌, ◌+◌, ◌-◌, ◌^◌, ◌<◌, ◌≤◌, ℕ, max, min, List, ◌++◌, length, take, drop, Result, OnOk, OnErr}

-- the content of each file, by the file's number
abbrev pub Files : Type 0
Files = ℕ → List ℕ

-- the new content is the old one with these bytes from this place on
abbrev pub Holds : ℕ → List ℕ → List ℕ → List ℕ → Type 0
Holds at bytes old new = new ≡ take at old ++ (bytes ++ drop (at + length bytes) old)

-- the new content has any bytes in the n places from `at` on, elsewhere the old ones; where these pass the old end its length is any between
pub record Torn (at n : ℕ) (old new : List ℕ) : Type 0 where
  pub before : take at new ≡ take at old
  pub after : drop (at + n) new ≡ drop (at + n) old
  pub no_shorter : length old ≤ length new
  pub no_longer : length new ≤ max (length old) (at + n)

-- nothing changes
abbrev pub Same : Files → Files → Type 0
Same old new = new ≡ old

-- one file goes by this step, and the others stay
pub record Changes (file : ℕ) (step : List ℕ → List ℕ → Type 0) (old new : Files) : Type 0 where
  pub here : step (old file) (new file)
  pub elsewhere : (g : ℕ) → g ≢ file → new g ≡ old g

-- A crash at some moment from t on until now might have left this, where `image m` is what one at the moment m might have.
pub record Since (t now : ℕ) (image : ℕ → Files → Type 0) (files : Files) : Type 0 where
  pub at : ℕ
  pub from : t ≤ at
  pub until : at ≤ now
  pub left : image at files

-- Time goes on from one moment, with what a crash then or before might have left, to another. What might have been left
-- stays, and each image since the first moment comes by the step from one that a crash at that moment might have left.
pub record Evolves (before : ℕ) (was : ℕ → Files → Type 0) (now : ℕ) (is : ℕ → Files → Type 0) (step : Files → Files → Type 0) : Type 0 where
  pub later : before ≤ now
  pub keeps : (t : ℕ) (files : Files) → t ≤ before → was t files → is t files
  pub no_others : (t : ℕ) (files : Files) → t < before → is t files → was t files
  pub since : (files : Files) → Since before now is files → (old : Files) × was before old × step old files

-- one file's known length rises to n, or stays where it is greater
pub record Raises (file n : ℕ) (old new : ℕ → ℕ) : Type 0 where
  pub here : new file ≡ max (old file) n
  pub elsewhere : (g : ℕ) → g ≢ file → new g ≡ old g

-- the count of faults is greater than before, or stands at the last value of its type
abbrev pub Rose : ℕ → ℕ → Type 0
Rose before now = min (before + 1) (2 ^ 64 - 1) ≤ now

-- a call failed only where the count of faults rose, and succeeded only where it did not
pub record HasCause {T E : Type 0} (before now : ℕ) (result : Result T E) : Type 0 where
  pub later : before ≤ now
  pub failed : OnErr result (Rose before now)
  pub kept : OnOk result (now ≡ before)
