-- What a write does to a disk in memory, whether it joined the record or found no memory.
use Rattle.std.proofs.Common.{◌≡◌, ◌⊎◌, inl, inr, ⊎_elim, ℕ, ◌≤◌, List, ◌++◌, ◌∷◌, [], length, take, Vec, sym, ◌∙◌, ap, subst, arith}
use Rattle.std.specs.Prelude.{slice_index}
use Rattle.std.specs.declared.alloc.Global.{Global}
use Rattle.ss_disk.specs.declared.memory.MemoryDisk.{MemoryDisk}
use Rattle.ss_disk.specs.declared.memory.call.DeviceCall.{DeviceCall}
use Rattle.ss_disk.specs.declared.memory.call.DeviceCall.TheVariants.{Asked, Wrote}
use Rattle.ss_device.specs.Disk.{Files, Holds, Torn, Changes, Evolves}
use Rattle.ss_disk.specs.Memory.{contents, Image}
use Rattle.ss_disk.specs.MemoryDisk.{files_of, moment_of, image_of, Stays, Puts, Writes, KeepsImages}
use Rattle.std.proofs.lemmas.List.{take_all}
use Rattle.ss_device.proofs.Moments.{stays}
use Rattle.ss_disk.proofs.Stories.{changes_torn, changes_torn_same, evolves_wrote, IsPending, image_pending}

-- the same, where only known lengths or the count of faults changed since
pub writes_along : (file at len : ℕ) (old mid new : MemoryDisk) → Writes file at len old mid → new.first ≡ mid.first → new.current ≡ mid.current → new.calls.items ≡ mid.calls.items → Writes file at len old new
writes_along file at len old mid new writes first current calls = record {
  first = first ∙ writes.first;
  cases = ⊎_elim
      (λ (s : Stays old mid). inl record { calls = calls ∙ s.calls; files = λ g. ap (λ (l : List (Vec ℕ Global)). contents l g) current ∙ s.files g })
      (λ (p : Puts file at len old mid). inr record {
        left = p.left;
        missing = p.missing;
        length_is = p.length_is;
        calls = calls ∙ p.calls;
        files = subst (λ (l : List (Vec ℕ Global)). Changes file (Holds at p.left.items) (files_of old) (contents l)) (sym current) p.files;
      })
      writes.cases;
}

pub writes_torn : (file at len : ℕ) (old new : MemoryDisk) → at ≤ slice_index old.known file → Writes file at len old new → Changes file (Torn at len) (files_of old) (files_of new)
writes_torn file at len old new place writes = ⊎_elim
    (λ (s : Stays old new). record {
      here = subst (Torn at len (files_of old file)) (sym (s.files file)) (changes_torn_same file at len (files_of old)).here;
      elsewhere = λ g other. s.files g;
    })
    (λ (p : Puts file at len old new). changes_torn file at len p.left.items (files_of old) (files_of new) (omega (arith, old.replays.within file)) (omega (arith, p.length_is)) p.files)
    writes.cases

pub writes_evolves : (file at len : ℕ) (old new : MemoryDisk) → Writes file at len old new → Evolves (moment_of old) (image_of old) (moment_of new) (image_of new) (Changes file (Torn at len))
writes_evolves file at len old new writes =
    subst (λ (f : List (Vec ℕ Global)). Evolves (moment_of old) (image_of old) (moment_of new) (λ t. Image f (take t new.calls.items)) (Changes file (Torn at len))) (sym writes.first) (⊎_elim
    (λ (s : Stays old new). subst (λ (l : List DeviceCall). Evolves (moment_of old) (image_of old) (length l) (λ t. Image old.first (take t l)) (Changes file (Torn at len))) (sym s.calls) (stays (moment_of old) (image_of old) (Changes file (Torn at len)) (changes_torn_same file at len)))
    (λ (p : Puts file at len old new). subst (λ (l : List DeviceCall). Evolves (moment_of old) (image_of old) (length l) (λ t. Image old.first (take t l)) (Changes file (Torn at len))) (sym p.calls) (subst (λ (n : ℕ). Evolves (moment_of old) (image_of old) (length (old.calls.items ++ Wrote file at p.left p.missing ∷ [])) (λ t. Image old.first (take t (old.calls.items ++ Wrote file at p.left p.missing ∷ []))) (Changes file (Torn at n))) p.length_is (evolves_wrote old.first old.current old.known old.calls.items old.replays file at p.left p.missing)))
    writes.cases)

-- the images of a disk are those after all of its calls
all_calls : (first : List (Vec ℕ Global)) (calls : List DeviceCall) (left : Files) → Image first (take (length calls) calls) left → Image first calls left
all_calls first calls left = subst (λ (l : List DeviceCall). Image first l left) (take_all (length calls) calls (omega arith))

of_all_calls : (first : List (Vec ℕ Global)) (calls : List DeviceCall) (left : Files) → Image first calls left → Image first (take (length calls) calls) left
of_all_calls first calls left = subst (λ (l : List DeviceCall). Image first l left) (sym (take_all (length calls) calls (omega arith)))

-- where no call joined the record, or one that syncs nothing, no image is dropped
pub keeps_pending : (call : DeviceCall) (old new : MemoryDisk) → IsPending call → new.first ≡ old.first → (new.calls.items ≡ old.calls.items) ⊎ (new.calls.items ≡ old.calls.items ++ call ∷ []) → KeepsImages old new
keeps_pending call old new pending first cases left image =
    let whole : Image old.first old.calls.items left = all_calls old.first old.calls.items left image in
    of_all_calls new.first new.calls.items left (subst (λ (f : List (Vec ℕ Global)). Image f new.calls.items left) (sym first) (⊎_elim
    (λ (same : new.calls.items ≡ old.calls.items). subst (λ (l : List DeviceCall). Image old.first l left) (sym same) whole)
    (λ (more : new.calls.items ≡ old.calls.items ++ call ∷ []). subst (λ (l : List DeviceCall). Image old.first l left) (sym more) (image_pending old.first old.calls.items call pending left whole))
    cases))

pub writes_keep : (file at len : ℕ) (old new : MemoryDisk) → Writes file at len old new → KeepsImages old new
writes_keep file at len old new writes = ⊎_elim
    (λ (s : Stays old new). keeps_pending Asked old new tt writes.first (inl s.calls))
    (λ (p : Puts file at len old new). keeps_pending (Wrote file at p.left p.missing) old new tt writes.first (inr p.calls))
    writes.cases
