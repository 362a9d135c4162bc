-- The loops that go through a record of calls.
use Rattle.std.proofs.Common.{◌≡◌, inl, inr, ℕ, zero, suc, ◌+◌, ◌<◌, ◌≤◌, Bool, true, false, cond, List, [], ◌∷◌, ◌++◌, length, take, drop, get_or, Vec, refl, sym, ◌∙◌, ap, subst, arith, ◌==◌}
use Rattle.std.specs.Prelude.{IsTrue, filter, reverse, nat_le, not, ◌&&◌}
use Rattle.std.proofs.lemmas.Bool.{cases_lt, false≢true}
use Rattle.std.proofs.lemmas.Bool.Decides.{when_true, when_false}
use Rattle.std.proofs.lemmas.List.{take_more, take_all, drop_all, drop-append-le, reverse-append, length-take-le, take-append-drop}
use Rattle.std.proofs.lemmas.List.Elements.{filter-append}
use Rattle.std.specs.declared.alloc.Global.{Global}
use Rattle.ss_disk.specs.declared.memory.call.DeviceCall.{DeviceCall}
use Rattle.ss_disk.specs.declared.memory.call.DeviceCall.TheVariants.{Asked, Wrote, Synced}
use Rattle.ss_device.specs.Disk.{Torn}
use Rattle.ss_disk.specs.Memory.{contents, concerns, story, read_after, MayLeave, fits, syncs, unsynced, placed, replayed, Tears}
use Rattle.ss_disk.specs.MemoryLaws.{reading_left}
use Rattle.ss_disk.proofs.Stories.{story_push}

pub story-append : (file : ℕ) (a b : List DeviceCall) → story file (a ++ b) ≡ story file b ++ story file a
story-append file a b = ap reverse (filter-append (concerns file) a b) ∙ reverse-append (filter (concerns file) a) (filter (concerns file) b)

both : (a b : Bool) → IsTrue (a && b) → IsTrue a × IsTrue b
both a b holds = grind arith

fits_earlier : (first : List ℕ) (later earlier : List DeviceCall) → IsTrue (fits first (later ++ earlier)) → IsTrue (fits first earlier)
fits_earlier first [] earlier fit = fit
fits_earlier first (Asked ∷ later) earlier fit = fits_earlier first later earlier fit
fits_earlier first (Wrote file at left missing ∷ later) earlier fit = fits_earlier first later earlier (both _ _ fit).1
fits_earlier first (Synced file ∷ later) earlier fit = fits_earlier first later earlier fit

fits_taken : (first : List ℕ) (file : ℕ) (calls : List DeviceCall) (n : ℕ) → IsTrue (fits first (story file calls)) → IsTrue (fits first (story file (take n calls)))
fits_taken first file calls n fit =
    let parts : story file calls ≡ story file (drop n calls) ++ story file (take n calls) = ap (story file) (sym (take-append-drop n calls)) ∙ story-append file (take n calls) (drop n calls) in
    fits_earlier first (story file (drop n calls)) (story file (take n calls)) (subst (λ (s : List DeviceCall). IsTrue (fits first s)) parts fit)

pub fits_front : (first : List ℕ) (file : ℕ) (calls : List DeviceCall) (n : ℕ) (same : List ℕ) (front : List DeviceCall) → same ≡ first → front ≡ take n calls → IsTrue (fits first (story file calls)) → IsTrue (fits same (story file front))
fits_front first file calls n same front first_is front_is fit =
    subst (λ (f : List ℕ). IsTrue (fits f (story file front))) (sym first_is) (subst (λ (l : List DeviceCall). IsTrue (fits first (story file l))) (sym front_is) (fits_taken first file calls n fit))

replayed_on : (first : List ℕ) (file : ℕ) (earlier : List DeviceCall) (call : DeviceCall) → concerns file call ≡ true → read_after first (call ∷ earlier) ≡ replayed file call (read_after first earlier)
replayed_on first file earlier Asked hit = refl
replayed_on first file earlier (Wrote f at left missing) hit = sym (ap (λ (b : Bool). cond b (take at (read_after first earlier) ++ (left.items ++ drop (at + length left.items) (read_after first earlier))) (read_after first earlier)) hit)
replayed_on first file earlier (Synced f) hit = refl

replayed_off : (file : ℕ) (call : DeviceCall) (bytes : List ℕ) → concerns file call ≡ false → bytes ≡ replayed file call bytes
replayed_off file Asked bytes miss = refl
replayed_off file (Wrote f at left missing) bytes miss = sym (ap (λ (b : Bool). cond b (take at bytes ++ (left.items ++ drop (at + length left.items) bytes)) bytes) miss)
replayed_off file (Synced f) bytes miss = refl

placed_on : (first : List ℕ) (file : ℕ) (earlier : List DeviceCall) (call : DeviceCall) → IsTrue (fits first (call ∷ earlier)) → IsTrue (placed file call (read_after first earlier))
placed_on first file earlier Asked fit = refl
placed_on first file earlier (Wrote f at left missing) fit =
    let inside : nat_le at (length (read_after first earlier)) ≡ true = (both _ _ fit).0 in grind (arith, inside)
placed_on first file earlier (Synced f) fit = refl

placed_off : (file : ℕ) (call : DeviceCall) (bytes : List ℕ) → concerns file call ≡ false → IsTrue (placed file call bytes)
placed_off file Asked bytes miss = refl
placed_off file (Wrote f at left missing) bytes miss = let other : (f == file) ≡ false = miss in grind (arith, other)
placed_off file (Synced f) bytes miss = refl

-- one call more of those that a read is replayed from
module _ (first : List ℕ) (file : ℕ) (calls : List DeviceCall) (k : ℕ) (call : DeviceCall) (inside : k < length calls) (is : call ≡ get_or calls k call) where
  abbrev before : List DeviceCall
  before = take k calls

  taken : take (k + 1) calls ≡ before ++ call ∷ []
  taken = take_more calls k call inside ∙ ap (λ (c : DeviceCall). before ++ c ∷ []) (sym is)

  pub read_more : read_after first (story file (take (k + 1) calls)) ≡ replayed file call (read_after first (story file before))
  read_more = ap (λ (l : List DeviceCall). read_after first (story file l)) taken ∙ elim (story_push file before call) [
    | inl on ↦ ap (read_after first) on.1 ∙ replayed_on first file (story file before) call on.0
    | inr off ↦ ap (read_after first) off.1 ∙ replayed_off file call (read_after first (story file before)) off.0
  ]

  pub placed_more : IsTrue (fits first (story file calls)) → IsTrue (placed file call (read_after first (story file before)))
  placed_more fit =
      let next = subst (λ (l : List DeviceCall). IsTrue (fits first (story file l))) taken (fits_taken first file calls (k + 1) fit) in
      elim (story_push file before call) [
        | inl on ↦ placed_on first file (story file before) call (subst (λ (s : List DeviceCall). IsTrue (fits first s)) on.1 next)
        | inr off ↦ placed_off file call (read_after first (story file before)) off.0
      ]

pub reads_all : (first : List ℕ) (file : ℕ) (calls : List DeviceCall) (k : ℕ) (bytes : List ℕ) → length calls ≤ k → bytes ≡ read_after first (story file (take k calls)) → bytes ≡ read_after first (story file calls)
reads_all first file calls k bytes end read = read ∙ ap (λ (l : List DeviceCall). read_after first (story file l)) (take_all k calls end)

-- no call from a place on synced the file
unsynced_push : (file : ℕ) (calls : List DeviceCall) (call : DeviceCall) → IsTrue (unsynced file calls) → syncs file call ≡ false → IsTrue (unsynced file (calls ++ call ∷ []))
unsynced_push file [] call none miss = grind (arith, miss)
unsynced_push file (c ∷ calls) call none miss =
    let parts = both (not (syncs file c)) (unsynced file calls) none in
    let rest = unsynced_push file calls call parts.1 miss in
    grind (arith, parts.0, rest)

pub unsynced_more : (file : ℕ) (calls : List DeviceCall) (settled k : ℕ) (call : DeviceCall) → k < length calls → call ≡ get_or calls k call → settled ≤ k → IsTrue (unsynced file (drop settled (take k calls))) → syncs file call ≡ false → IsTrue (unsynced file (drop settled (take (k + 1) calls)))
unsynced_more file calls settled k call inside is before none miss =
    let taken : take (k + 1) calls ≡ take k calls ++ call ∷ [] = take_more calls k call inside ∙ ap (λ (c : DeviceCall). take k calls ++ c ∷ []) (sym is) in
    let size = length-take-le k calls (omega arith) in
    let parts : drop settled (take (k + 1) calls) ≡ drop settled (take k calls) ++ call ∷ [] = ap (λ (l : List DeviceCall). drop settled l) taken ∙ drop-append-le settled (take k calls) (call ∷ []) (omega (arith, size)) in
    subst (λ (l : List DeviceCall). IsTrue (unsynced file l)) (sym parts) (unsynced_push file (drop settled (take k calls)) call none miss)

pub unsynced_none : (file : ℕ) (calls : List DeviceCall) (k : ℕ) → k < length calls → IsTrue (unsynced file (drop (k + 1) (take (k + 1) calls)))
unsynced_none file calls k inside =
    let size = length-take-le (k + 1) calls (omega arith) in
    subst (λ (l : List DeviceCall). IsTrue (unsynced file l)) (sym (drop_all (k + 1) (take (k + 1) calls) (omega (arith, size)))) refl

pub unsynced_all : (file : ℕ) (calls : List DeviceCall) (settled k : ℕ) → length calls ≤ k → IsTrue (unsynced file (drop settled (take k calls))) → IsTrue (unsynced file (drop settled calls))
unsynced_all file calls settled k end none = subst (λ (l : List DeviceCall). IsTrue (unsynced file (drop settled l))) (take_all k calls end) none

unsynced_at : (file : ℕ) (calls : List DeviceCall) (k : ℕ) (call : DeviceCall) → IsTrue (unsynced file calls) → k < length calls → syncs file (get_or calls k call) ≡ false
unsynced_at file [] k call none inside = absurd (omega arith)
unsynced_at file (c ∷ calls) zero call none inside = let first = (both (not (syncs file c)) (unsynced file calls) none).0 in grind (arith, first)
unsynced_at file (c ∷ calls) (suc k) call none inside = unsynced_at file calls k call (both (not (syncs file c)) (unsynced file calls) none).1 (omega arith)

left_on : (first : List ℕ) (file : ℕ) (earlier : List DeviceCall) (call : DeviceCall) (old new : List ℕ) → concerns file call ≡ true → syncs file call ≡ false → MayLeave first earlier old → Tears file call old new → MayLeave first (call ∷ earlier) new
left_on first file earlier Asked old new hit miss left tears = subst (MayLeave first earlier) (sym tears) left
left_on first file earlier (Wrote f at l missing) old new hit miss left tears = (old, left, when_true (Torn at (length l.items + missing) old new) (new ≡ old) hit tears)
left_on first file earlier (Synced f) old new hit miss left tears = absurd (false≢true (sym miss ∙ hit))

left_off : (first : List ℕ) (file : ℕ) (earlier : List DeviceCall) (call : DeviceCall) (old new : List ℕ) → concerns file call ≡ false → MayLeave first earlier old → Tears file call old new → MayLeave first earlier new
left_off first file earlier Asked old new miss left tears = subst (MayLeave first earlier) (sym tears) left
left_off first file earlier (Wrote f at l missing) old new miss left tears = subst (MayLeave first earlier) (sym (when_false (Torn at (length l.items + missing) old new) (new ≡ old) miss tears)) left
left_off first file earlier (Synced f) old new miss left tears = subst (MayLeave first earlier) (sym tears) left

-- one call more of those that a crash takes in part
pub left_more : (first : List ℕ) (earlier : List DeviceCall) (file : ℕ) (calls : List DeviceCall) (k : ℕ) (call : DeviceCall) (old new : List ℕ) → IsTrue (unsynced file calls) → k < length calls → call ≡ get_or calls k call
    → MayLeave first (story file (take k calls) ++ earlier) old → Tears file call old new → MayLeave first (story file (take (k + 1) calls) ++ earlier) new
left_more first earlier file calls k call old new none inside is left tears =
    let miss : syncs file call ≡ false = ap (syncs file) is ∙ unsynced_at file calls k call none inside in
    let taken : take (k + 1) calls ≡ take k calls ++ call ∷ [] = take_more calls k call inside ∙ ap (λ (c : DeviceCall). take k calls ++ c ∷ []) (sym is) in
    subst (λ (l : List DeviceCall). MayLeave first (story file l ++ earlier) new) (sym taken) (elim (story_push file (take k calls) call) [
      | inl on ↦ subst (λ (s : List DeviceCall). MayLeave first (s ++ earlier) new) (sym on.1) (left_on first file (story file (take k calls) ++ earlier) call old new on.0 miss left tears)
      | inr off ↦ subst (λ (s : List DeviceCall). MayLeave first (s ++ earlier) new) (sym off.1) (left_off first file (story file (take k calls) ++ earlier) call old new off.0 left tears)
    ])

pub left_all : (first : List ℕ) (earlier : List DeviceCall) (file : ℕ) (calls : List DeviceCall) (k : ℕ) (bytes : List ℕ) → length calls ≤ k → MayLeave first (story file (take k calls) ++ earlier) bytes → MayLeave first (story file calls ++ earlier) bytes
left_all first earlier file calls k bytes end left = subst (λ (l : List DeviceCall). MayLeave first (story file l ++ earlier) bytes) (take_all k calls end) left

-- the calls up to the last sync are replayed, and those after it torn
pub image_left : (first : List ℕ) (file : ℕ) (calls front back : List DeviceCall) (settled : ℕ) (was bytes : List ℕ) → front ≡ take settled calls → back ≡ drop settled calls → IsTrue (fits first (story file front)) → was ≡ read_after first (story file front)
    → ((start : List ℕ) (earlier : List DeviceCall) → MayLeave start earlier was → MayLeave start (story file back ++ earlier) bytes) → MayLeave first (story file calls) bytes
image_left first file calls front back settled was bytes front_is back_is fit read torn =
    let whole : story file back ++ story file front ≡ story file calls = sym (story-append file front back) ∙ ap (story file) (ap (λ (l : List DeviceCall). l ++ back) front_is ∙ ap (λ (l : List DeviceCall). take settled calls ++ l) back_is ∙ take-append-drop settled calls) in
    let start = subst (MayLeave first (story file front)) (sym read) (reading_left first (story file front) fit) in
    subst (λ (s : List DeviceCall). MayLeave first s bytes) whole (torn first (story file front) start)

-- what holds of files 0 to 5 holds of each file below 6
pub each_of_six : (P : ℕ → Type 0) → P 0 → P 1 → P 2 → P 3 → P 4 → P 5 → (file : ℕ) → file < 6 → P file
each_of_six P p0 p1 p2 p3 p4 p5 zero lt = p0
each_of_six P p0 p1 p2 p3 p4 p5 (suc zero) lt = p1
each_of_six P p0 p1 p2 p3 p4 p5 (suc (suc zero)) lt = p2
each_of_six P p0 p1 p2 p3 p4 p5 (suc (suc (suc zero))) lt = p3
each_of_six P p0 p1 p2 p3 p4 p5 (suc (suc (suc (suc zero)))) lt = p4
each_of_six P p0 p1 p2 p3 p4 p5 (suc (suc (suc (suc (suc zero))))) lt = p5
each_of_six P p0 p1 p2 p3 p4 p5 (suc (suc (suc (suc (suc (suc n)))))) lt = absurd (omega arith)

-- a list of six files has no others
pub contents_past : (files : List (Vec ℕ Global)) (file : ℕ) → length files ≤ file → contents files file ≡ []
contents_past [] file past = refl
contents_past (v ∷ files) zero past = absurd (omega arith)
contents_past (v ∷ files) (suc file) past = contents_past files file (omega arith)

-- what was picked for files 0 to 5 is an image of all
pub image_of_six : (first files : List (Vec ℕ Global)) (calls front : List DeviceCall) (n : ℕ) → length first ≡ 6 → length files ≡ 6 → ((file : ℕ) → 6 ≤ file → story file calls ≡ []) → front ≡ take n calls
    → ((file : ℕ) → file < 6 → MayLeave (contents first file) (story file front) (contents files file)) → (file : ℕ) → MayLeave (contents first file) (story file (take n calls)) (contents files file)
image_of_six first files calls front n first_six files_six named front_is left file = elim (cases_lt file 6) [
  | inl within ↦ subst (λ (l : List DeviceCall). MayLeave (contents first file) (story file l) (contents files file)) front_is (left file within)
  | inr past ↦
      let parts : story file calls ≡ story file (drop n calls) ++ story file (take n calls) = ap (story file) (sym (take-append-drop n calls)) ∙ story-append file (take n calls) (drop n calls) in
      let none : story file (take n calls) ≡ [] = nothing (story file (drop n calls)) (story file (take n calls)) (sym parts ∙ named file past) in
      subst (λ (s : List DeviceCall). MayLeave (contents first file) s (contents files file)) (sym none) (contents_past files file (omega (arith, files_six)) ∙ sym (contents_past first file (omega (arith, first_six))))
]
  where
    nothing : (xs ys : List DeviceCall) → xs ++ ys ≡ [] → ys ≡ []
    nothing [] ys is = is
    nothing (x ∷ xs) ys is = absurd (let no : x ∷ (xs ++ ys) ≡ [] = is in (cc))

pub copies_of_six : (copies files : List (Vec ℕ Global)) → length copies ≡ 6 → length files ≡ 6 → ((file : ℕ) → file < 6 → contents copies file ≡ contents files file) → (file : ℕ) → contents copies file ≡ contents files file
copies_of_six copies files copies_six files_six same file = elim (cases_lt file 6) [
  | inl within ↦ same file within
  | inr past ↦ contents_past copies file (omega (arith, copies_six)) ∙ sym (contents_past files file (omega (arith, files_six)))
]
