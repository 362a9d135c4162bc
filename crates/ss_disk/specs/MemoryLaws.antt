-- What a disk in memory gives to a read is one of the images that a crash may leave.
use Rattle.std.specs.{Prelude.{◌≡◌, ℕ, ◌+◌, ◌-◌, ◌≤◌, List, [], ◌∷◌, ◌++◌, length, take, drop, IsTrue, ◌&&◌, Bool, refl, nat_le, Vec}, declared.alloc.Global.Global}
use Rattle.std.proofs.Common.{◌∙◌, ap, sym, arith, length-append, length-drop}
use Rattle.std.proofs.Math.Seq.{drop-append-add}
use Rattle.std.proofs.lemmas.List.{take_at, length-take-le, drop-drop, take_all}
use Rattle.std.proofs.lemmas.Bool.Decides.{nat_tests}
use Rattle.ss_device.specs.Disk.{Torn, Holds}
use Rattle.ss_disk.specs.{declared.memory.call.DeviceCall.DeviceCall, Memory.{contents, story, read_after, MayLeave, Image, fits, Replays}}

-- no more bytes than n, put at a place within the file, are what a write of n bytes may leave
pub torn_from_holds : (at n : ℕ) (bytes old new : List ℕ) → at ≤ length old → length bytes ≤ n → Holds at bytes old new → Torn at n old new
torn_from_holds at n bytes old new place short holds =
    let front : length (take at old) ≡ at = length-take-le at old place in
    let back = drop (at + length bytes) old in
    let long : length new ≡ at + (length bytes + (length old - (at + length bytes))) =
    ap length holds ∙ length-append (take at old) (bytes ++ back) ∙ omega (arith, front, length-append bytes back, length-drop (at + length bytes) old) in
    let rest : drop n (bytes ++ back) ≡ drop (n - length bytes) back =
    ap (λ (k : ℕ). drop k (bytes ++ back)) (omega arith) ∙ drop-append-add bytes back (n - length bytes) in
    let past : drop (at + n) (take at old ++ (bytes ++ back)) ≡ drop n (bytes ++ back) =
    ap (λ (k : ℕ). drop (k + n) (take at old ++ (bytes ++ back))) (sym front) ∙ drop-append-add (take at old) (bytes ++ back) n in
    record {
      before = ap (λ (l : List ℕ). take at l) holds ∙ take_at (take at old) (bytes ++ back) at front;
      after = ap (λ (l : List ℕ). drop (at + n) l) holds ∙ past ∙ rest ∙ drop-drop (n - length bytes) (at + length bytes) old ∙ ap (λ (k : ℕ). drop k old) (omega arith);
      no_shorter = omega (arith, long);
      no_longer = omega (arith, long);
    }

both_tests : (a b : Bool) → IsTrue (a && b) → IsTrue a × IsTrue b
both_tests a b both = grind arith

within : (a b : ℕ) → IsTrue (nat_le a b) → a ≤ b
within a b test = grind (arith, nat_tests)

pub reading_left : (first : List ℕ) (calls : List DeviceCall) → IsTrue (fits first calls) → MayLeave first calls (read_after first calls)
reading_left first [] fit = refl
reading_left first (DeviceCall.Asked ∷ earlier) fit = reading_left first earlier fit
reading_left first (DeviceCall.Wrote file at left missing ∷ earlier) fit =
    let parts = both_tests _ _ fit in
    let was = read_after first earlier in
    (was, reading_left first earlier parts.1, torn_from_holds at (length left.items + missing) left.items was _ (within at (length was) parts.0) (omega arith) refl)
reading_left first (DeviceCall.Synced file ∷ earlier) fit = refl

pub reading_is_image : (first now : List (Vec ℕ Global)) (known : List ℕ) (calls : List DeviceCall) → Replays first now known calls → Image first (take (length calls) calls) (contents now)
reading_is_image first now known calls replays file =
    rw (take_all (length calls) calls (omega arith), replays.replayed file) (reading_left (contents first file) (story file calls) (replays.fitting file))
