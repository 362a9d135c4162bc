-- How runs of calls compose.
use Rattle.std.proofs.Common.{◌≡◌, ◌≤◌, ℕ, List, IsTrue, inl, inr, refl, sym, ◌∙◌, ap, subst, arith}
use Rattle.std.specs.Prelude.{Result, Ok, Err, IfOk, OnOk, OnErr}
use Rattle.std.proofs.lemmas.Bool.{cases_eq}
use Rattle.ss_device.specs.declared.disk.Disk.{Ghosts}
use Rattle.ss_device.specs.Disk.{Files, Same, Changes, Evolves, Raises}
use Rattle.ss_device.specs.Calls.{Goes, Touches, Leaves, IsNoneOf, DifferIn, TouchesFiles, LeavesFiles}
use Rattle.ss_device.proofs.Moments as moments

-- a known length that rises does not fall
pub raises_up : (file n : ℕ) (old new : ℕ → ℕ) → Raises file n old new → (g : ℕ) → old g ≤ new g
raises_up file n old new raises g = elim (cases_eq g file) [
  | inl here ↦ subst (λ (h : ℕ). old h ≤ new h) (sym here) (omega (arith, raises.here))
  | inr other ↦ omega (arith, raises.elsewhere g other)
]

-- nor does one after a `size` or a `write`, whatever its result
pub size_up : {E : Type 0} (result : Result ℕ E) (file : ℕ) (old new : ℕ → ℕ) → IfOk result (λ n. (old file ≤ n) × Raises file n old new) → OnErr result (new ≡ old) → (g : ℕ) → old g ≤ new g
size_up (Ok n) file old new ok err g = raises_up file n old new ok.1 g
size_up (Err e) file old new ok err g = omega (arith, ap (λ (k : ℕ → ℕ). k g) err)

pub write_up : {T E : Type 0} (result : Result T E) (file n : ℕ) (old new : ℕ → ℕ) → OnOk result (Raises file n old new) → OnErr result (new ≡ old) → (g : ℕ) → old g ≤ new g
write_up (Ok x) file n old new ok err g = raises_up file n old new ok g
write_up (Err e) file n old new ok err g = omega (arith, ap (λ (k : ℕ → ℕ). k g) err)

module _ {D : Type 0} (disk : Ghosts D) where
  -- no call was made
  pub stays : (now : D) (step : Files → Files → Type 0) → ((files : Files) → step files files) → Goes disk step now now
  stays now step still = record {
    files = λ told. still (disk.files now);
    images = λ told. moments.stays (disk.moment now) (disk.image now) step still;
    known = λ file. omega arith;
    faults = omega arith;
    place = refl;
  }

  -- a second part follows a first
  pub goes_on : (old mid new : D) (one two step : Files → Files → Type 0) → Goes disk one old mid → Goes disk two mid new
      → ((a b : Files) → one a b → step a b) → ((a b c : Files) → one a b → two b c → step a c) → Goes disk step old new
  goes_on old mid new one two step first second alone both = record {
    files = λ told. both (disk.files old) (disk.files mid) (disk.files new) (first.files told) (second.files told);
    images = λ told. moments.goes_on (disk.moment old) (disk.moment mid) (disk.moment new) (disk.image old) (disk.image mid) (disk.image new) one two step (first.images told) (second.images told) (λ a b left. alone a b) (λ a b c left goes left' goes'. both a b c goes goes');
    known = λ file. omega (arith, first.known file, second.known file);
    faults = omega (arith, first.faults, second.faults);
    place = second.place ∙ first.place;
  }

  -- a call that changes nothing follows
  pub then_same : (old mid new : D) (step : Files → Files → Type 0) → Goes disk step old mid → Goes disk Same mid new → Goes disk step old new
  then_same old mid new step first second = goes_on old mid new step Same step first second (λ a b goes. goes) (λ a b c goes same. subst (step a) (sym same) goes)

  -- what a call says that changes nothing
  pub asked : (old new : D) → disk.known new ≡ disk.known old → (IsTrue disk.told → Same (disk.files old) (disk.files new))
      → (IsTrue disk.told → Evolves (disk.moment old) (disk.image old) (disk.moment new) (disk.image new) Same) → disk.faults old ≤ disk.faults new → disk.place new ≡ disk.place old → Goes disk Same old new
  asked old new known files images faults place = record {
    files = files;
    images = images;
    known = λ file. omega (arith, ap (λ (k : ℕ → ℕ). k file) known);
    faults = faults;
    place = place;
  }

  -- each step is of a wider kind
  pub widens : (old new : D) (one step : Files → Files → Type 0) → Goes disk one old new → ((a b : Files) → one a b → step a b) → Goes disk step old new
  widens old new one step goes wider = record {
    files = λ told. wider (disk.files old) (disk.files new) (goes.files told);
    images = λ told. moments.widens (disk.moment old) (disk.moment new) (disk.image old) (disk.image new) one step (goes.images told) (λ a b left. wider a b);
    known = goes.known;
    faults = goes.faults;
    place = goes.place;
  }

  -- one file alone changed, in two parts
  pub touches_on : (file : ℕ) (old mid new : D) → Touches disk file old mid → Touches disk file mid new → Touches disk file old new
  touches_on file old mid new first second = goes_on old mid new (Changes file (λ _ _. Unit {0})) (Changes file (λ _ _. Unit {0})) (Changes file (λ _ _. Unit {0})) first second (λ a b goes. goes) (λ a b c goes goes'. record { here = tt; elsewhere = λ g other. goes'.elsewhere g other ∙ goes.elsewhere g other })

  pub touches : (file : ℕ) (step : List ℕ → List ℕ → Type 0) (old new : D) → Goes disk (Changes file step) old new → Touches disk file old new
  touches file step old new goes = widens old new (Changes file step) (Changes file (λ _ _. Unit {0})) goes (λ a b changes. record { here = tt; elsewhere = changes.elsewhere })

  pub touches_none : (file : ℕ) (now : D) → Touches disk file now now
  touches_none file now = stays now (Changes file (λ _ _. Unit {0})) (λ files. record { here = tt; elsewhere = λ g other. refl })

  -- what is left of a file has P all the time
  pub leaves_none : (file : ℕ) (P : List ℕ → Type 0) (now : D) → ((left : Files) → disk.image now (disk.moment now) left → P (left file)) → Leaves disk file P now now
  leaves_none file P now has =
      moments.widens (disk.moment now) (disk.moment now) (disk.image now) (disk.image now) Same (Changes file (λ _ bytes. P bytes)) (moments.stays (disk.moment now) (disk.image now) Same (λ files. refl)) (λ a b left same. record { here = subst (λ (f : Files). P (f file)) (sym same) (has a left); elsewhere = λ g other. ap (λ (f : Files). f g) same })

  pub leaves : (file : ℕ) (step : List ℕ → List ℕ → Type 0) (P : List ℕ → Type 0) (old new : D) → Evolves (disk.moment old) (disk.image old) (disk.moment new) (disk.image new) (Changes file step)
      → ((was : Files) (now : List ℕ) → disk.image old (disk.moment old) was → step (was file) now → P now) → Leaves disk file P old new
  leaves file step P old new evolves has =
      moments.widens (disk.moment old) (disk.moment new) (disk.image old) (disk.image new) (Changes file step) (Changes file (λ _ bytes. P bytes)) evolves (λ a b left changes. record { here = has a (b file) left changes.here; elsewhere = changes.elsewhere })

  pub leaves_on : (file : ℕ) (P : List ℕ → Type 0) (old mid new : D) → Leaves disk file P old mid → Leaves disk file P mid new → Leaves disk file P old new
  leaves_on file P old mid new first second =
      moments.goes_on (disk.moment old) (disk.moment mid) (disk.moment new) (disk.image old) (disk.image mid) (disk.image new) (Changes file (λ _ bytes. P bytes)) (Changes file (λ _ bytes. P bytes)) (Changes file (λ _ bytes. P bytes)) first second (λ a b left goes. goes) (λ a b c left goes left' goes'. record { here = goes'.here; elsewhere = λ g other. goes'.elsewhere g other ∙ goes.elsewhere g other })

  -- ---- calls that may change several files

  -- a call that changes one of these files
  pub touches_one : (file : ℕ) (files : List ℕ) (old new : D) → ((g : ℕ) → IsNoneOf g files → g ≡ file → ⊥) → Touches disk file old new → TouchesFiles disk files old new
  touches_one file files old new among touches = widens old new (Changes file (λ _ _. Unit {0})) (DifferIn files) touches (λ a b changes g other. changes.elsewhere g (among g other))

  pub touches_no_file : (files : List ℕ) (now : D) → TouchesFiles disk files now now
  touches_no_file files now = stays now (DifferIn files) (λ a g other. refl)

  -- calls that change no file
  pub same_files : (files : List ℕ) (old new : D) → Goes disk Same old new → TouchesFiles disk files old new
  same_files files old new same = widens old new Same (DifferIn files) same (λ a b is g other. ap (λ (f : Files). f g) is)

  -- Two calls, perhaps on different files, changed no file but these.
  pub touches_both : (one two files : List ℕ) (old mid new : D) → ((g : ℕ) → IsNoneOf g files → IsNoneOf g one) → ((g : ℕ) → IsNoneOf g files → IsNoneOf g two)
      → TouchesFiles disk one old mid → TouchesFiles disk two mid new → TouchesFiles disk files old new
  touches_both one two files old mid new in_one in_two first second =
      goes_on old mid new (DifferIn one) (DifferIn two) (DifferIn files) first second (λ a b goes g other. goes g (in_one g other)) (λ a b c goes goes' g other. goes' g (in_two g other) ∙ goes g (in_one g other))

  -- what a call leaves that changes one of these files, by what that file has and the others had
  pub leaves_one : (file : ℕ) (files : List ℕ) (P : List ℕ → Type 0) (Q : Files → Type 0) (old new : D) → ((g : ℕ) → IsNoneOf g files → g ≡ file → ⊥)
      → ((was left : Files) → disk.image old (disk.moment old) was → ((g : ℕ) → (g ≡ file → ⊥) → left g ≡ was g) → P (left file) → Q left) → Leaves disk file P old new → LeavesFiles disk files Q old new
  leaves_one file files P Q old new among has leaves =
      moments.widens (disk.moment old) (disk.moment new) (disk.image old) (disk.image new) (Changes file (λ _ bytes. P bytes)) (λ was left. DifferIn files was left × Q left) leaves
      (λ a b left changes. (λ g other. changes.elsewhere g (among g other), has a b left changes.elsewhere changes.here))

  -- what no call leaves
  pub leaves_no_file : (files : List ℕ) (P : Files → Type 0) (now : D) → ((left : Files) → disk.image now (disk.moment now) left → P left) → LeavesFiles disk files P now now
  leaves_no_file files P now has =
      moments.widens (disk.moment now) (disk.moment now) (disk.image now) (disk.image now) Same (λ was left. DifferIn files was left × P left) (moments.stays (disk.moment now) (disk.image now) Same (λ f. refl))
      (λ a b left same. (λ g other. ap (λ (f : Files). f g) same, subst P (sym same) (has a left)))

  pub leaves_wider : (files : List ℕ) (P Q : Files → Type 0) (old new : D) → ((left : Files) → P left → Q left) → LeavesFiles disk files P old new → LeavesFiles disk files Q old new
  leaves_wider files P Q old new wider leaves =
      moments.widens (disk.moment old) (disk.moment new) (disk.image old) (disk.image new) (λ was left. DifferIn files was left × P left) (λ was left. DifferIn files was left × Q left) leaves (λ a b left both. (both.0, wider b both.1))

  -- Two calls, perhaps on different files, of which each leaves what has P.
  pub leaves_both : (one two files : List ℕ) (P : Files → Type 0) (old mid new : D) → ((g : ℕ) → IsNoneOf g files → IsNoneOf g one) → ((g : ℕ) → IsNoneOf g files → IsNoneOf g two)
      → LeavesFiles disk one P old mid → LeavesFiles disk two P mid new → LeavesFiles disk files P old new
  leaves_both one two files P old mid new in_one in_two first second =
      moments.goes_on (disk.moment old) (disk.moment mid) (disk.moment new) (disk.image old) (disk.image mid) (disk.image new) (λ was left. DifferIn one was left × P left) (λ was left. DifferIn two was left × P left) (λ was left. DifferIn files was left × P left)
      first second (λ a b left goes. (λ g other. goes.0 g (in_one g other), goes.1)) (λ a b c left goes left' goes'. (λ g other. goes'.0 g (in_two g other) ∙ goes.0 g (in_one g other), goes'.1))

  -- what each image has, it has after calls that change no file
  pub leaves_same : (files : List ℕ) (P : Files → Type 0) (old mid new : D) → IsTrue disk.told → LeavesFiles disk files P old mid → Goes disk Same mid new → LeavesFiles disk files P old new
  leaves_same files P old mid new told leaves goes =
      moments.goes_on (disk.moment old) (disk.moment mid) (disk.moment new) (disk.image old) (disk.image mid) (disk.image new) (λ was left. DifferIn files was left × P left) Same (λ was left. DifferIn files was left × P left)
      leaves (goes.images told) (λ a b left both. both) (λ a b c left both left' is. subst (λ (f : Files). DifferIn files a f × P f) (sym is) both)
