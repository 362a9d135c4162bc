-- A legal history that has a row for each block and room for each record, and no fault of the disk, has no refusal of these kinds.
use Rattle.std.proofs.Common.{◌≡◌, ℕ, zero, suc, min, ◌^◌, ◌+◌, ◌-◌, ◌<◌, ◌≤◌, false, ◌||◌, List, [], ◌∷◌, Result, Ok, Err, refl, sym, ap, ◌∙◌, arith}
use Rattle.std.specs.List.{list_any}
use Rattle.ss_model.specs.State.{State}
use Rattle.ss_model.specs.Lawful.{Lawful, After}
use Rattle.ss_model.specs.Lawful.{Legal}
use Rattle.ss_model.specs.declared.call.Call.{Call}
use Rattle.ss_model.specs.declared.call.Call.TheVariants as call
use Rattle.ss_model.specs.declared.call.Answer.{Answer}
use Rattle.ss_model.specs.declared.call.Answer.TheVariants as answer
use Rattle.ss_model.specs.declared.call.PutReply.TheVariants as put
use Rattle.ss_model.specs.declared.call.GetReply.TheVariants as get
use Rattle.ss_model.specs.declared.call.HeadReply.TheVariants as head
use Rattle.ss_model.specs.declared.call.Entry.{Entry}
use Rattle.ss_core.specs.Calls.{OfFullLog}
use Rattle.ss_history.specs.Story.{HasRows, HavePlace, faults_in, is_refused}

more_than_none : (n : ℕ) → 1 + n ≡ 0 → ⊥
more_than_none n e = omega (arith, e)

no_room : (need room : ℕ) → need ≤ room → room < need → ⊥
no_room need room fits less = omega (arith, fits, less)

no_row : (after rows most : ℕ) → after ≤ most → rows ≡ after → most < rows → ⊥
no_row after rows most fits is more = omega (arith, fits, is, more)

one : (s : State) (client line : ℕ) (k : Call) (a : Answer) → Lawful s k a → OfFullLog (λ file need room. need ≤ room) a → HasRows s k
    → faults_in (record { client = client; line = line; call = k; answer = a } ∷ []) ≡ 0 → is_refused (record { client = client; line = line; call = k; answer = a }) ≡ false
one s client line call.OpenView (answer.View r) lawful room place none = refl
one s client line call.OpenView (answer.Close r) lawful room place none = absurd lawful
one s client line call.OpenView (answer.Put r) lawful room place none = absurd lawful
one s client line call.OpenView (answer.Get r) lawful room place none = absurd lawful
one s client line call.OpenView (answer.Has r) lawful room place none = absurd lawful
one s client line call.OpenView (answer.Size r) lawful room place none = absurd lawful
one s client line call.OpenView (answer.Head r) lawful room place none = absurd lawful
one s client line call.OpenView (answer.Info r) lawful room place none = absurd lawful
one s client line (call.CloseView v) (answer.View r) lawful room place none = absurd lawful
one s client line (call.CloseView v) (answer.Close r) lawful room place none = refl
one s client line (call.CloseView v) (answer.Put r) lawful room place none = absurd lawful
one s client line (call.CloseView v) (answer.Get r) lawful room place none = absurd lawful
one s client line (call.CloseView v) (answer.Has r) lawful room place none = absurd lawful
one s client line (call.CloseView v) (answer.Size r) lawful room place none = absurd lawful
one s client line (call.CloseView v) (answer.Head r) lawful room place none = absurd lawful
one s client line (call.CloseView v) (answer.Info r) lawful room place none = absurd lawful
one s client line (call.Put v pairs) (answer.View r) lawful room place none = absurd lawful
one s client line (call.Put v pairs) (answer.Close r) lawful room place none = absurd lawful
one s client line (call.Put v pairs) (answer.Put put.BadView) lawful room place none = refl
one s client line (call.Put v pairs) (answer.Put (put.TooMany n)) lawful room place none = refl
one s client line (call.Put v pairs) (answer.Put (put.TooBig n)) lawful room place none = refl
one s client line (call.Put v pairs) (answer.Put (put.TooLarge i)) lawful room place none = refl
one s client line (call.Put v pairs) (answer.Put (put.UnknownHash i)) lawful room place none = refl
one s client line (call.Put v pairs) (answer.Put (put.Mismatch i)) lawful room place none = refl
one s client line (call.Put v pairs) (answer.Put (put.Malformed i kind at)) lawful room place none = refl
one s client line (call.Put v pairs) (answer.Put put.NoMemory) lawful room place none = refl
one s client line (call.Put v pairs) (answer.Put (put.TableFull rows)) lawful room place none = absurd (no_row _ rows _ (place lawful.0) lawful.1 lawful.2)
one s client line (call.Put v pairs) (answer.Put (put.LogFull file need free)) lawful room place none = absurd (no_room need free room lawful.4)
one s client line (call.Put v pairs) (answer.Put put.DiskFault) lawful room place none = absurd (more_than_none 0 none)
one s client line (call.Put v pairs) (answer.Put (put.Stored new)) lawful room place none = refl
one s client line (call.Put v pairs) (answer.Get r) lawful room place none = absurd lawful
one s client line (call.Put v pairs) (answer.Has r) lawful room place none = absurd lawful
one s client line (call.Put v pairs) (answer.Size r) lawful room place none = absurd lawful
one s client line (call.Put v pairs) (answer.Head r) lawful room place none = absurd lawful
one s client line (call.Put v pairs) (answer.Info r) lawful room place none = absurd lawful
one s client line (call.Get v c) (answer.View r) lawful room place none = absurd lawful
one s client line (call.Get v c) (answer.Close r) lawful room place none = absurd lawful
one s client line (call.Get v c) (answer.Put r) lawful room place none = absurd lawful
one s client line (call.Get v c) (answer.Get get.BadView) lawful room place none = refl
one s client line (call.Get v c) (answer.Get get.NotFound) lawful room place none = refl
one s client line (call.Get v c) (answer.Get get.NoMemory) lawful room place none = refl
one s client line (call.Get v c) (answer.Get get.DiskFault) lawful room place none = absurd (more_than_none 0 none)
one s client line (call.Get v c) (answer.Get (get.Found block)) lawful room place none = refl
one s client line (call.Get v c) (answer.Has r) lawful room place none = absurd lawful
one s client line (call.Get v c) (answer.Size r) lawful room place none = absurd lawful
one s client line (call.Get v c) (answer.Head r) lawful room place none = absurd lawful
one s client line (call.Get v c) (answer.Info r) lawful room place none = absurd lawful
one s client line (call.Has v c) (answer.View r) lawful room place none = absurd lawful
one s client line (call.Has v c) (answer.Close r) lawful room place none = absurd lawful
one s client line (call.Has v c) (answer.Put r) lawful room place none = absurd lawful
one s client line (call.Has v c) (answer.Get r) lawful room place none = absurd lawful
one s client line (call.Has v c) (answer.Has r) lawful room place none = refl
one s client line (call.Has v c) (answer.Size r) lawful room place none = absurd lawful
one s client line (call.Has v c) (answer.Head r) lawful room place none = absurd lawful
one s client line (call.Has v c) (answer.Info r) lawful room place none = absurd lawful
one s client line (call.Size v c) (answer.View r) lawful room place none = absurd lawful
one s client line (call.Size v c) (answer.Close r) lawful room place none = absurd lawful
one s client line (call.Size v c) (answer.Put r) lawful room place none = absurd lawful
one s client line (call.Size v c) (answer.Get r) lawful room place none = absurd lawful
one s client line (call.Size v c) (answer.Has r) lawful room place none = absurd lawful
one s client line (call.Size v c) (answer.Size r) lawful room place none = refl
one s client line (call.Size v c) (answer.Head r) lawful room place none = absurd lawful
one s client line (call.Size v c) (answer.Info r) lawful room place none = absurd lawful
one s client line (call.SetHead cids) (answer.View r) lawful room place none = absurd lawful
one s client line (call.SetHead cids) (answer.Close r) lawful room place none = absurd lawful
one s client line (call.SetHead cids) (answer.Put r) lawful room place none = absurd lawful
one s client line (call.SetHead cids) (answer.Get r) lawful room place none = absurd lawful
one s client line (call.SetHead cids) (answer.Has r) lawful room place none = absurd lawful
one s client line (call.SetHead cids) (answer.Size r) lawful room place none = absurd lawful
one s client line (call.SetHead cids) (answer.Head head.Empty) lawful room place none = refl
one s client line (call.SetHead cids) (answer.Head (head.TooMany n)) lawful room place none = refl
one s client line (call.SetHead cids) (answer.Head (head.Repeated i)) lawful room place none = refl
one s client line (call.SetHead cids) (answer.Head (head.Absent i)) lawful room place none = refl
one s client line (call.SetHead cids) (answer.Head head.NoMemory) lawful room place none = refl
one s client line (call.SetHead cids) (answer.Head (head.NotHeader i)) lawful room place none = refl
one s client line (call.SetHead cids) (answer.Head (head.HeightDiffers i)) lawful room place none = refl
one s client line (call.SetHead cids) (answer.Head (head.ParentsDiffer i)) lawful room place none = refl
one s client line (call.SetHead cids) (answer.Head (head.LogFull file need free)) lawful room place none = absurd (no_room need free room lawful.3)
one s client line (call.SetHead cids) (answer.Head head.DiskFault) lawful room place none = absurd (more_than_none 0 none)
one s client line (call.SetHead cids) (answer.Head (head.Set height)) lawful room place none = refl
one s client line (call.SetHead cids) (answer.Info r) lawful room place none = absurd lawful
one s client line call.Info (answer.View r) lawful room place none = absurd lawful
one s client line call.Info (answer.Close r) lawful room place none = absurd lawful
one s client line call.Info (answer.Put r) lawful room place none = absurd lawful
one s client line call.Info (answer.Get r) lawful room place none = absurd lawful
one s client line call.Info (answer.Has r) lawful room place none = absurd lawful
one s client line call.Info (answer.Size r) lawful room place none = absurd lawful
one s client line call.Info (answer.Head r) lawful room place none = absurd lawful
one s client line call.Info (answer.Info r) lawful room place none = refl

parts : (m n : ℕ) → m + n ≡ 0 → (m + 0 ≡ 0) × (n ≡ 0)
parts m n e = (omega (arith, e), omega (arith, e))

pub fulfilled : (s : State) (h : List Entry) → Legal s h → HavePlace s h → faults_in h ≡ 0 → list_any is_refused h ≡ false
fulfilled s [] legal place none = refl
fulfilled s (e ∷ h) legal place none =
    let split = parts _ (faults_in h) none in
    ap (λ b. b || list_any is_refused h) (one s e.client e.line e.call e.answer legal.0 place.0 place.1 split.0)
    ∙ fulfilled (After s e.call e.answer) h legal.1 place.2 split.1

pub no_faults : (before now n : ℕ) → min (before + n) (2 ^ 64 - 1) ≤ now → ¬ (min (before + 1) (2 ^ 64 - 1) ≤ now) → n ≡ 0
no_faults before now n few none = by n refl few
  where
    by : (m : ℕ) → m ≡ n → min (before + m) (2 ^ 64 - 1) ≤ now → n ≡ 0
    by zero is few = sym is
    by (suc m) is few = absurd (none (omega (arith, few)))

-- what cannot be both
pub err_or_ok : {X E : Type 0} (r : Result X E) (e : E) (x : X) → r ≡ Err e → r ≡ Ok x → ⊥
err_or_ok (Ok y) e x bad good = cc
err_or_ok (Err y) e x bad good = cc

pub oks : {X E : Type 0} (x y : X) → ◌≡◌ {A = Result X E} (Ok x) (Ok y) → x ≡ y
oks x y e = cc
