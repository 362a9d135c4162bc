-- What calls on the logs leave of the files.
use Rattle.std.proofs.Common.{◌≡◌, ℕ, List, ◌∙◌, subst}
use Rattle.ss_device.specs.declared.disk.Disk.{Ghosts}
use Rattle.ss_device.specs.Disk.{Files}
use Rattle.ss_device.specs.Calls.{Touches, Leaves, TouchesFiles, LeavesFiles}
use Rattle.ss_device.proofs.Goes.{touches_one, touches_both, leaves_one, leaves_both}
use Rattle.ss_core.specs.LogFiles.{hot_file, log_files}

module _ {D : Type 0} (disk : Ghosts D) where
  -- a call on the hot log
  pub touches_hot : (file : ℕ) (old new : D) → file ≡ hot_file → Touches disk file old new → TouchesFiles disk log_files old new
  touches_hot file old new is touches = touches_one disk file log_files old new (λ g other same. other.0 (same ∙ is)) touches

  pub leaves_hot : (file : ℕ) (P : List ℕ → Type 0) (Q : Files → Type 0) (old new : D) → file ≡ hot_file → ((left : Files) → P (left hot_file) → Q left) → Leaves disk file P old new → LeavesFiles disk log_files Q old new
  leaves_hot file P Q old new is has leaves = leaves_one disk file log_files P Q old new (λ g other same. other.0 (same ∙ is)) (λ was left image others here. has left (subst (λ f. P (left f)) is here)) leaves

  -- one call after another
  pub touches_then : (old mid new : D) → TouchesFiles disk log_files old mid → TouchesFiles disk log_files mid new → TouchesFiles disk log_files old new
  touches_then old mid new = touches_both disk log_files log_files log_files old mid new (λ g other. other) (λ g other. other)

  pub leaves_then : (P : Files → Type 0) (old mid new : D) → LeavesFiles disk log_files P old mid → LeavesFiles disk log_files P mid new → LeavesFiles disk log_files P old new
  leaves_then P old mid new = leaves_both disk log_files log_files log_files P old mid new (λ g other. other) (λ g other. other)
