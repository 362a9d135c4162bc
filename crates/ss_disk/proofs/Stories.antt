-- What one more call does to the story of each file.
use Rattle.std.proofs.Common.{◌≡◌, ◌≢◌, ◌⊎◌, inl, inr, ℕ, zero, suc, ◌+◌, ◌<◌, ◌≤◌, Bool, true, false, cond, List, [], ◌∷◌, ◌++◌, length, take, drop, set, get_or, Vec, ◌==◌, refl, sym, ◌∙◌, ap, subst, arith, length-append}
use Rattle.std.specs.Prelude.{Result, Ok, Err, OnErr, is_ok, IsTrue, filter, reverse, nat_le, slice_index, ◌&&◌}
use Rattle.std.specs.declared.alloc.Global.{Global}
use Rattle.std.proofs.lemmas.Bool.{cases_eq, cases_lt}
use Rattle.std.proofs.lemmas.Bool.Decides.{nat_tests}
use Rattle.std.proofs.lemmas.List.{take_all, take-append-le, reverse-append, get_or-set_same, get_or-set_other, length-set}
use Rattle.std.proofs.lemmas.List.Elements.{filter-append}
use Rattle.ss_disk.specs.declared.memory.call.DeviceCall.{DeviceCall}
use Rattle.ss_disk.specs.declared.memory.call.DeviceCall.TheVariants.{Asked, Wrote, Synced}
use Rattle.ss_device.specs.Disk.{Files, Holds, Torn, Same, Changes, Evolves}
use Rattle.ss_disk.specs.Memory.{contents, concerns, story, read_after, MayLeave, Image, fits, Replays}
use Rattle.ss_disk.specs.MemoryLaws.{torn_from_holds, reading_left}
use Rattle.ss_device.proofs.Moments.{stays}

-- the call joins the story, or it does not concern the file
pub story_push : (file : ℕ) (calls : List DeviceCall) (call : DeviceCall) → ((concerns file call ≡ true) × (story file (calls ++ call ∷ []) ≡ call ∷ story file calls)) ⊎ ((concerns file call ≡ false) × (story file (calls ++ call ∷ []) ≡ story file calls))
story_push file calls call =
    let parts : story file (calls ++ call ∷ []) ≡ reverse (cond (concerns file call) (call ∷ []) []) ++ story file calls =
    ap reverse (filter-append (concerns file) calls (call ∷ [])) ∙ reverse-append (filter (concerns file) calls) (cond (concerns file call) (call ∷ []) []) in
    at (concerns file call) refl parts
  where
    at : (b : Bool) → concerns file call ≡ b → story file (calls ++ call ∷ []) ≡ reverse (cond b (call ∷ []) []) ++ story file calls → ((concerns file call ≡ true) × (story file (calls ++ call ∷ []) ≡ call ∷ story file calls)) ⊎ ((concerns file call ≡ false) × (story file (calls ++ call ∷ []) ≡ story file calls))
    at true is parts = inl (is, parts)
    at false is parts = inr (is, parts)

-- a test of a number against itself
same_number : (n : ℕ) → (n == n) ≡ true
same_number n = grind (arith, nat_tests)

-- A call that concerns no file, or that synced one of the six, changes no content.
abbrev pub IsQuiet : DeviceCall → Type 0
IsQuiet Asked = Unit {0}
IsQuiet (Wrote file at left missing) = ⊥
IsQuiet (Synced file) = file < 6

unnamed_quiet : (file : ℕ) (call : DeviceCall) → IsQuiet call → 6 ≤ file → concerns file call ≡ true → ⊥
unnamed_quiet file Asked quiet past hit = absurd (let no : false ≡ true = hit in (cc))
unnamed_quiet file (Wrote f at left missing) quiet past hit = absurd quiet
unnamed_quiet file (Synced f) quiet past hit = grind (arith, nat_tests)

read_quiet : (first : List ℕ) (earlier : List DeviceCall) (call : DeviceCall) → IsQuiet call → read_after first (call ∷ earlier) ≡ read_after first earlier
read_quiet first earlier Asked quiet = refl
read_quiet first earlier (Wrote file at left missing) quiet = absurd quiet
read_quiet first earlier (Synced file) quiet = refl

fits_quiet : (first : List ℕ) (earlier : List DeviceCall) (call : DeviceCall) → IsQuiet call → fits first (call ∷ earlier) ≡ fits first earlier
fits_quiet first earlier Asked quiet = refl
fits_quiet first earlier (Wrote file at left missing) quiet = absurd quiet
fits_quiet first earlier (Synced file) quiet = refl

left_quiet : (first : List ℕ) (earlier : List DeviceCall) (call : DeviceCall) (bytes : List ℕ) → IsQuiet call → IsTrue (fits first earlier) → MayLeave first (call ∷ earlier) bytes → MayLeave first earlier bytes
left_quiet first earlier Asked bytes quiet fit left = left
left_quiet first earlier (Wrote file at l missing) bytes quiet fit left = absurd quiet
left_quiet first earlier (Synced file) bytes quiet fit left = subst (MayLeave first earlier) (sym left) (reading_left first earlier fit)

module _ (first current : List (Vec ℕ Global)) (known : List ℕ) (calls : List DeviceCall) (replays : Replays first current known calls) where
  pub replays_quiet : (call : DeviceCall) → IsQuiet call → Replays first current known (calls ++ call ∷ [])
  replays_quiet call quiet = record {
    first_six = replays.first_six;
    current_six = replays.current_six;
    known_six = replays.known_six;
    named = λ file past. elim (story_push file calls call) [
      | inl on ↦ absurd (unnamed_quiet file call quiet past on.0)
      | inr off ↦ off.1 ∙ replays.named file past
    ];
    replayed = λ file. elim (story_push file calls call) [
      | inl on ↦ replays.replayed file ∙ sym (ap (read_after (contents first file)) on.1 ∙ read_quiet (contents first file) (story file calls) call quiet)
      | inr off ↦ replays.replayed file ∙ sym (ap (read_after (contents first file)) off.1)
    ];
    fitting = λ file. elim (story_push file calls call) [
      | inl on ↦ ap (fits (contents first file)) on.1 ∙ fits_quiet (contents first file) (story file calls) call quiet ∙ replays.fitting file
      | inr off ↦ ap (fits (contents first file)) off.1 ∙ replays.fitting file
    ];
    within = replays.within;
  }

  image_quiet : (call : DeviceCall) → IsQuiet call → (left : Files) → Image first (calls ++ call ∷ []) left → Image first calls left
  image_quiet call quiet left image file = elim (story_push file calls call) [
    | inl on ↦ left_quiet (contents first file) (story file calls) call (left file) quiet (replays.fitting file) (subst (λ (s : List DeviceCall). MayLeave (contents first file) s (left file)) on.1 (image file))
    | inr off ↦ subst (λ (s : List DeviceCall). MayLeave (contents first file) s (left file)) off.1 (image file)
  ]

  -- what a crash might have left goes on by a step over one more call
  evolves_push : (call : DeviceCall) (step : Files → Files → Type 0) → ((files : Files) → step files files)
      → ((left : Files) → Image first (calls ++ call ∷ []) left → (was : Files) × Image first calls was × step was left)
      → Evolves (length calls) (λ t. Image first (take t calls)) (length (calls ++ call ∷ [])) (λ t. Image first (take t (calls ++ call ∷ []))) step
  evolves_push call step still comes =
      let longer : length (calls ++ call ∷ []) ≡ length calls + 1 = length-append calls (call ∷ []) in
      let all : take (length calls) calls ≡ calls = take_all (length calls) calls (omega arith) in
      let same : (t : ℕ) → t ≤ length calls → take t (calls ++ call ∷ []) ≡ take t calls = λ t le. take-append-le t calls (call ∷ []) le in
      record {
        later = omega (arith, longer);
        keeps = λ t files le left. subst (λ (l : List DeviceCall). Image first l files) (sym (same t le)) left;
        no_others = λ t files lt left. subst (λ (l : List DeviceCall). Image first l files) (same t (omega arith)) left;
        since = λ files s. elim (cases_lt (length calls) s.at) [
          | inl after ↦
              let whole : take s.at (calls ++ call ∷ []) ≡ calls ++ call ∷ [] = take_all s.at (calls ++ call ∷ []) (omega (arith, longer)) in
              let from = comes files (subst (λ (l : List DeviceCall). Image first l files) whole s.left) in
              (from.0, subst (λ (l : List DeviceCall). Image first l from.0) (sym all) from.1, from.2)
          | inr before ↦
              let here : take s.at (calls ++ call ∷ []) ≡ take (length calls) calls = same s.at before ∙ ap (λ (t : ℕ). take t calls) (omega (arith, s.from)) in
              (files, subst (λ (l : List DeviceCall). Image first l files) here s.left, still files)
        ];
      }

  pub evolves_quiet : (call : DeviceCall) → IsQuiet call → Evolves (length calls) (λ t. Image first (take t calls)) (length (calls ++ call ∷ [])) (λ t. Image first (take t (calls ++ call ∷ []))) Same
  evolves_quiet call quiet = evolves_push call Same (λ files. refl) (λ left image. (left, image_quiet call quiet left image, refl))

-- a push that may have found no memory
pub replays_asked : (first current : List (Vec ℕ Global)) (known : List ℕ) (calls : List DeviceCall) (call : DeviceCall) (noted : Bool) (new : List DeviceCall) → Replays first current known calls → IsQuiet call → new ≡ cond noted (calls ++ call ∷ []) calls → Replays first current known new
replays_asked first current known calls call noted new replays quiet pushed =
    subst (Replays first current known) (sym pushed) (elim noted as (λ b. Replays first current known (cond b (calls ++ call ∷ []) calls)) [ true ↦ replays_quiet first current known calls replays call quiet | false ↦ replays ])

-- What a crash might have left goes on where a call joined the record that changes nothing, or none did. The second
-- disk's first contents are those of the first.
pub evolves_asked : (first current : List (Vec ℕ Global)) (known : List ℕ) (calls : List DeviceCall) (call : DeviceCall) (first' : List (Vec ℕ Global)) (new : List DeviceCall) → Replays first current known calls → IsQuiet call → first' ≡ first → (new ≡ calls) ⊎ (new ≡ calls ++ call ∷ [])
    → Evolves (length calls) (λ t. Image first (take t calls)) (length new) (λ t. Image first' (take t new)) Same
evolves_asked first current known calls call first' new replays quiet same cases =
    subst (λ (f : List (Vec ℕ Global)). Evolves (length calls) (λ t. Image first (take t calls)) (length new) (λ t. Image f (take t new)) Same) (sym same) (at cases)
  where
    at : (new ≡ calls) ⊎ (new ≡ calls ++ call ∷ []) → Evolves (length calls) (λ t. Image first (take t calls)) (length new) (λ t. Image first (take t new)) Same
    at (inl none) = subst (λ (l : List DeviceCall). Evolves (length calls) (λ t. Image first (take t calls)) (length l) (λ t. Image first (take t l)) Same) (sym none) (stays (length calls) (λ t. Image first (take t calls)) Same (λ files. refl))
    at (inr one) = subst (λ (l : List DeviceCall). Evolves (length calls) (λ t. Image first (take t calls)) (length l) (λ t. Image first (take t l)) Same) (sym one) (evolves_quiet first current known calls replays call quiet)

-- a push for which there was room
pub has_room : {T E : Type 0} (r : Result T E) {A : Type 0} (new one other : A) (len room : ℕ) → new ≡ cond (is_ok r) one other → OnErr r (room ≤ len) → len + 1 ≤ room → new ≡ one
has_room (Ok x) new one other len room pushed full has = pushed
has_room (Err e) new one other len room pushed full has = absurd (omega arith)

-- a push that may have found no memory leaves one of two lists
pub one_of : {A : Type 0} (noted : Bool) (new one other : A) → new ≡ cond noted one other → (new ≡ other) ⊎ (new ≡ one)
one_of true new one other pushed = inr pushed
one_of false new one other pushed = inl pushed

torn_same : (at n : ℕ) (bytes : List ℕ) → Torn at n bytes bytes
torn_same at n bytes = record { before = refl; after = refl; no_shorter = omega arith; no_longer = omega arith }

pub changes_torn_same : (file at n : ℕ) (files : Files) → Changes file (Torn at n) files files
changes_torn_same file at n files = record { here = torn_same at n (files file); elsewhere = λ g other. refl }

pub changes_torn : (file at n : ℕ) (bytes : List ℕ) (old new : Files) → at ≤ length (old file) → length bytes ≤ n → Changes file (Holds at bytes) old new → Changes file (Torn at n) old new
changes_torn file at n bytes old new place short changes = record {
  here = torn_from_holds at n bytes (old file) (new file) place short changes.here;
  elsewhere = changes.elsewhere;
}

module _ (first current : List (Vec ℕ Global)) (known : List ℕ) (calls : List DeviceCall) (replays : Replays first current known calls) (file at : ℕ) (left : Vec ℕ Global) (missing : ℕ) where
  abbrev call : DeviceCall
  call = Wrote file at left missing

  abbrev len : ℕ
  len = length left.items + missing

  -- a file other than the one that is written has no more of a story
  elsewhere : (g : ℕ) → g ≢ file → story g (calls ++ call ∷ []) ≡ story g calls
  elsewhere g other = elim (story_push g calls call) [
    | inl on ↦ absurd (other (let hit : (file == g) ≡ true = on.0 in grind (arith, nat_tests)))
    | inr off ↦ off.1
  ]

  here : story file (calls ++ call ∷ []) ≡ call ∷ story file calls
  here = elim (story_push file calls call) [
    | inl on ↦ on.1
    | inr off ↦ absurd (let miss : (file == file) ≡ false = off.0 in grind (arith, nat_tests))
  ]

  image_wrote : (files : Files) → Image first (calls ++ call ∷ []) files → (was : Files) × Image first calls was × Changes file (Torn at len) was files
  image_wrote files image =
      let torn = subst (λ (s : List DeviceCall). MayLeave (contents first file) s (files file)) here (image file) in
      let was : Files = λ g. cond (file == g) torn.0 (files g) in (
        was,
        (λ g. elim (cases_eq g file) [
          | inl same ↦
              let hit : (file == g) ≡ true = grind (arith, nat_tests) in
              subst (λ (b : Bool). MayLeave (contents first g) (story g calls) (cond b torn.0 (files g))) (sym hit) (subst (λ (h : ℕ). MayLeave (contents first h) (story h calls) torn.0) (sym same) torn.1)
          | inr other ↦
              let miss : (file == g) ≡ false = grind (arith, nat_tests) in
              subst (λ (b : Bool). MayLeave (contents first g) (story g calls) (cond b torn.0 (files g))) (sym miss) (subst (λ (s : List DeviceCall). MayLeave (contents first g) s (files g)) (elsewhere g other) (image g))
        ]),
        record {
          here = subst (λ (b : Bool). Torn at len (cond b torn.0 (files file)) (files file)) (sym (same_number file)) torn.2;
          elsewhere = λ g other. let miss : (file == g) ≡ false = grind (arith, nat_tests) in sym (ap (λ (b : Bool). cond b torn.0 (files g)) miss);
        },
      )

  pub evolves_wrote : Evolves (length calls) (λ t. Image first (take t calls)) (length (calls ++ call ∷ [])) (λ t. Image first (take t (calls ++ call ∷ []))) (Changes file (Torn at len))
  evolves_wrote = evolves_push first current known calls replays call (Changes file (Torn at len)) (changes_torn_same file at len) image_wrote

  pub replays_wrote : (after : List (Vec ℕ Global)) → file < 6 → length after ≡ 6 → at ≤ slice_index known file → Changes file (Holds at left.items) (contents current) (contents after) → Replays first after known (calls ++ call ∷ [])
  replays_wrote after one_of_six six place changes =
      let torn = changes_torn file at len left.items (contents current) (contents after) (omega (arith, replays.within file)) (omega arith) changes in
      record {
        first_six = replays.first_six;
        current_six = six;
        known_six = replays.known_six;
        named = λ g past. elsewhere g (λ same. omega (arith, same)) ∙ replays.named g past;
        replayed = λ g. elim (cases_eq g file) [
          | inl same ↦ subst (λ (h : ℕ). contents after h ≡ read_after (contents first h) (story h (calls ++ call ∷ []))) (sym same) replayed_here
          | inr other ↦ changes.elsewhere g other ∙ replays.replayed g ∙ ap (read_after (contents first g)) (sym (elsewhere g other))
        ];
        fitting = λ g. elim (cases_eq g file) [
          | inl same ↦ subst (λ (h : ℕ). IsTrue (fits (contents first h) (story h (calls ++ call ∷ [])))) (sym same) (ap (fits (contents first file)) here ∙ fitting_here)
          | inr other ↦ ap (fits (contents first g)) (elsewhere g other) ∙ replays.fitting g
        ];
        within = λ g. elim (cases_eq g file) [
          | inl same ↦ subst (λ (h : ℕ). slice_index known h ≤ length (contents after h)) (sym same) (omega (arith, torn.here.no_shorter, replays.within file))
          | inr other ↦ subst (λ (l : List ℕ). slice_index known g ≤ length l) (sym (changes.elsewhere g other)) (replays.within g)
        ];
      }
    where
      replayed_here : contents after file ≡ read_after (contents first file) (story file (calls ++ call ∷ []))
      replayed_here = changes.here ∙ ap (λ (l : List ℕ). take at l ++ (left.items ++ drop (at + length left.items) l)) (replays.replayed file) ∙ ap (read_after (contents first file)) (sym here)

      placed : at ≤ length (read_after (contents first file) (story file calls))
      placed = subst (λ (l : List ℕ). at ≤ length l) (replays.replayed file) (omega (arith, replays.within file))

      fitting_here : IsTrue (nat_le at (length (read_after (contents first file) (story file calls))) && fits (contents first file) (story file calls))
      fitting_here =
          let fit = replays.fitting file in
          let inside : nat_le at (length (read_after (contents first file) (story file calls))) ≡ true = grind (arith, nat_tests, placed) in
          grind (arith, inside, fit)

-- one element is another
pub contents-set_same : (files : List (Vec ℕ Global)) (file : ℕ) (v : Vec ℕ Global) → file < length files → contents (set files file v) file ≡ v.items
contents-set_same [] file v within = absurd (omega arith)
contents-set_same (w ∷ files) zero v within = refl
contents-set_same (w ∷ files) (suc file) v within = contents-set_same files file v (omega arith)

pub contents-set_other : (files : List (Vec ℕ Global)) (file g : ℕ) (v : Vec ℕ Global) → g ≢ file → contents (set files file v) g ≡ contents files g
contents-set_other [] file g v other = refl
contents-set_other (w ∷ files) zero zero v other = absurd (other refl)
contents-set_other (w ∷ files) zero (suc g) v other = refl
contents-set_other (w ∷ files) (suc file) zero v other = refl
contents-set_other (w ∷ files) (suc file) (suc g) v other = contents-set_other files file g v (λ same. other (ap suc same))

pub contents-get_or : (files : List (Vec ℕ Global)) (file : ℕ) (d : Vec ℕ Global) → file < length files → contents files file ≡ (get_or files file d).items
contents-get_or [] file d within = absurd (omega arith)
contents-get_or (w ∷ files) zero d within = refl
contents-get_or (w ∷ files) (suc file) d within = contents-get_or files file d (omega arith)

-- one element went by a step, or kept its bytes
pub changes_one : (files : List (Vec ℕ Global)) (file : ℕ) (d new : Vec ℕ Global) (step : List ℕ → List ℕ → Type 0) → file < length files → step (get_or files file d).items new.items → Changes file step (contents files) (contents (set files file new))
changes_one files file d new step within goes = record {
  here = subst (λ (was : List ℕ). step was (contents (set files file new) file)) (sym (contents-get_or files file d within)) (subst (step (get_or files file d).items) (sym (contents-set_same files file new within)) goes);
  elsewhere = λ g other. contents-set_other files file g new other;
}

pub same_one : (files : List (Vec ℕ Global)) (file : ℕ) (d new : Vec ℕ Global) → file < length files → new.items ≡ (get_or files file d).items → (g : ℕ) → contents (set files file new) g ≡ contents files g
same_one files file d new within same g = elim (cases_eq g file) [
  | inl here ↦ subst (λ (h : ℕ). contents (set files file new) h ≡ contents files h) (sym here) (contents-set_same files file new within ∙ same ∙ sym (contents-get_or files file d within))
  | inr other ↦ contents-set_other files file g new other
]

-- other lists that hold the same
pub replays_same : (first current : List (Vec ℕ Global)) (known : List ℕ) (calls : List DeviceCall) (after : List (Vec ℕ Global)) (new : List DeviceCall) → Replays first current known calls → length after ≡ 6 → ((file : ℕ) → contents after file ≡ contents current file) → new ≡ calls → Replays first after known new
replays_same first current known calls after new replays six same calls_same = subst (Replays first after known) (sym calls_same) record {
  first_six = replays.first_six;
  current_six = six;
  known_six = replays.known_six;
  named = replays.named;
  replayed = λ file. same file ∙ replays.replayed file;
  fitting = replays.fitting;
  within = λ file. subst (λ (l : List ℕ). slice_index known file ≤ length l) (sym (same file)) (replays.within file);
}

-- the known length of one file becomes another one that the file has
pub replays_known : (first current : List (Vec ℕ Global)) (known : List ℕ) (calls : List DeviceCall) (file n : ℕ) → file < 6 → n ≤ length (contents current file) → Replays first current known calls → Replays first current (set known file n) calls
replays_known first current known calls file n six has replays = record {
  first_six = replays.first_six;
  current_six = replays.current_six;
  known_six = length-set known file n ∙ replays.known_six;
  named = replays.named;
  replayed = replays.replayed;
  fitting = replays.fitting;
  within = λ g. elim (cases_eq g file) [
    | inl same ↦ subst (λ (h : ℕ). slice_index (set known file n) h ≤ length (contents current h)) (sym same) (subst (λ (k : ℕ). k ≤ length (contents current file)) (sym (get_or-set_same known file n 0 (omega (arith, replays.known_six)))) has)
    | inr other ↦ subst (λ (k : ℕ). k ≤ length (contents current g)) (sym (get_or-set_other known file g n 0 other)) (replays.within g)
  ];
}

-- a call that syncs nothing
abbrev pub IsPending : DeviceCall → Type 0
IsPending Asked = Unit {0}
IsPending (Wrote file at left missing) = Unit {0}
IsPending (Synced file) = ⊥

left_pending : (first : List ℕ) (earlier : List DeviceCall) (call : DeviceCall) (bytes : List ℕ) → IsPending call → MayLeave first earlier bytes → MayLeave first (call ∷ earlier) bytes
left_pending first earlier Asked bytes pending left = left
left_pending first earlier (Wrote file at l missing) bytes pending left = (bytes, left, torn_same at (length l.items + missing) bytes)
left_pending first earlier (Synced file) bytes pending left = absurd pending

-- what a crash might leave it may leave after a call that syncs nothing
pub image_pending : (first : List (Vec ℕ Global)) (calls : List DeviceCall) (call : DeviceCall) → IsPending call → (left : Files) → Image first calls left → Image first (calls ++ call ∷ []) left
image_pending first calls call pending left image file = elim (story_push file calls call) [
  | inl on ↦ subst (λ (s : List DeviceCall). MayLeave (contents first file) s (left file)) (sym on.1) (left_pending (contents first file) (story file calls) call (left file) pending (image file))
  | inr off ↦ subst (λ (s : List DeviceCall). MayLeave (contents first file) s (left file)) (sym off.1) (image file)
]
