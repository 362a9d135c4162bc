-- The five ways in which an entry may change a state.
use Rattle.std.proofs.Common.{ℕ, List, Some}
use Rattle.std.specs.Prelude.{◌<◌}
use Rattle.std.specs.FinSet as set
use Rattle.ss_model.specs.State.{State}
use Rattle.ss_model.specs.Head.{IsHead}
use Rattle.ss_model.specs.Lawful.{with_blocks, with_hot, IsAdmitted, Lawful, After}
use Rattle.ss_model.specs.declared.call.Call.{Call}
use Rattle.ss_model.specs.declared.call.Call.TheVariants as call
use Rattle.ss_model.specs.declared.call.Answer.{Answer}
use Rattle.ss_model.specs.declared.call.Answer.TheVariants as answer
use Rattle.ss_model.specs.declared.call.ViewReply.TheVariants as view
use Rattle.ss_model.specs.declared.call.CloseReply.TheVariants as close
use Rattle.ss_model.specs.declared.call.PutReply.TheVariants as put
use Rattle.ss_model.specs.declared.call.HeadReply.TheVariants as head

-- P holds of the state, and of what each way makes of it, where the answer is lawful
pub record HoldsOfEach (s : State) (k : Call) (a : Answer) (P : State → Type 0) : Type 0 where
  pub same : P s
  pub opened : (n : ℕ) → (Lawful s k a → n < 1024) → P (record s { views = set.insert s.views n })
  pub closed : (v : ℕ) → P (record s { views = set.remove s.views v })
  pub stored : (v : ℕ) (pairs : List (List ℕ × List ℕ)) → (Lawful s k a → IsAdmitted s v pairs) → P (record s { kept = with_blocks s.kept pairs; hot = with_hot s.hot pairs })
  pub headed : (cids : List (List ℕ)) (height : ℕ) → (Lawful s k a → IsHead s.kept cids height) → P (record s { head = Some (height, cids) })

pub after_each : (s : State) (k : Call) (a : Answer) (P : State → Type 0) → HoldsOfEach s k a P → P (After s k a)
after_each s call.OpenView (answer.View (view.Opened n)) P each = each.opened n (λ lawful. lawful.0)
after_each s call.OpenView (answer.View view.TooManyViews) P each = each.same
after_each s call.OpenView (answer.Close r) P each = each.same
after_each s call.OpenView (answer.Put r) P each = each.same
after_each s call.OpenView (answer.Get r) P each = each.same
after_each s call.OpenView (answer.Has r) P each = each.same
after_each s call.OpenView (answer.Size r) P each = each.same
after_each s call.OpenView (answer.Head r) P each = each.same
after_each s call.OpenView (answer.Info r) P each = each.same
after_each s (call.CloseView v) (answer.View r) P each = each.same
after_each s (call.CloseView v) (answer.Close close.Closed) P each = each.closed v
after_each s (call.CloseView v) (answer.Close close.BadView) P each = each.same
after_each s (call.CloseView v) (answer.Put r) P each = each.same
after_each s (call.CloseView v) (answer.Get r) P each = each.same
after_each s (call.CloseView v) (answer.Has r) P each = each.same
after_each s (call.CloseView v) (answer.Size r) P each = each.same
after_each s (call.CloseView v) (answer.Head r) P each = each.same
after_each s (call.CloseView v) (answer.Info r) P each = each.same
after_each s (call.Put v pairs) (answer.View r) P each = each.same
after_each s (call.Put v pairs) (answer.Close r) P each = each.same
after_each s (call.Put v pairs) (answer.Put put.BadView) P each = each.same
after_each s (call.Put v pairs) (answer.Put (put.TooMany n)) P each = each.same
after_each s (call.Put v pairs) (answer.Put (put.TooBig n)) P each = each.same
after_each s (call.Put v pairs) (answer.Put (put.TooLarge i)) P each = each.same
after_each s (call.Put v pairs) (answer.Put (put.UnknownHash i)) P each = each.same
after_each s (call.Put v pairs) (answer.Put (put.Mismatch i)) P each = each.same
after_each s (call.Put v pairs) (answer.Put (put.Malformed i kind at)) P each = each.same
after_each s (call.Put v pairs) (answer.Put put.NoMemory) P each = each.same
after_each s (call.Put v pairs) (answer.Put (put.TableFull rows)) P each = each.same
after_each s (call.Put v pairs) (answer.Put (put.LogFull file need room)) P each = each.same
after_each s (call.Put v pairs) (answer.Put put.DiskFault) P each = each.same
after_each s (call.Put v pairs) (answer.Put (put.Stored new)) P each = each.stored v pairs (λ lawful. lawful.0)
after_each s (call.Put v pairs) (answer.Get r) P each = each.same
after_each s (call.Put v pairs) (answer.Has r) P each = each.same
after_each s (call.Put v pairs) (answer.Size r) P each = each.same
after_each s (call.Put v pairs) (answer.Head r) P each = each.same
after_each s (call.Put v pairs) (answer.Info r) P each = each.same
after_each s (call.Get v c) (answer.View r) P each = each.same
after_each s (call.Get v c) (answer.Close r) P each = each.same
after_each s (call.Get v c) (answer.Put r) P each = each.same
after_each s (call.Get v c) (answer.Get r) P each = each.same
after_each s (call.Get v c) (answer.Has r) P each = each.same
after_each s (call.Get v c) (answer.Size r) P each = each.same
after_each s (call.Get v c) (answer.Head r) P each = each.same
after_each s (call.Get v c) (answer.Info r) P each = each.same
after_each s (call.Has v c) (answer.View r) P each = each.same
after_each s (call.Has v c) (answer.Close r) P each = each.same
after_each s (call.Has v c) (answer.Put r) P each = each.same
after_each s (call.Has v c) (answer.Get r) P each = each.same
after_each s (call.Has v c) (answer.Has r) P each = each.same
after_each s (call.Has v c) (answer.Size r) P each = each.same
after_each s (call.Has v c) (answer.Head r) P each = each.same
after_each s (call.Has v c) (answer.Info r) P each = each.same
after_each s (call.Size v c) (answer.View r) P each = each.same
after_each s (call.Size v c) (answer.Close r) P each = each.same
after_each s (call.Size v c) (answer.Put r) P each = each.same
after_each s (call.Size v c) (answer.Get r) P each = each.same
after_each s (call.Size v c) (answer.Has r) P each = each.same
after_each s (call.Size v c) (answer.Size r) P each = each.same
after_each s (call.Size v c) (answer.Head r) P each = each.same
after_each s (call.Size v c) (answer.Info r) P each = each.same
after_each s (call.SetHead cids) (answer.View r) P each = each.same
after_each s (call.SetHead cids) (answer.Close r) P each = each.same
after_each s (call.SetHead cids) (answer.Put r) P each = each.same
after_each s (call.SetHead cids) (answer.Get r) P each = each.same
after_each s (call.SetHead cids) (answer.Has r) P each = each.same
after_each s (call.SetHead cids) (answer.Size r) P each = each.same
after_each s (call.SetHead cids) (answer.Head head.Empty) P each = each.same
after_each s (call.SetHead cids) (answer.Head (head.TooMany n)) P each = each.same
after_each s (call.SetHead cids) (answer.Head (head.Repeated i)) P each = each.same
after_each s (call.SetHead cids) (answer.Head (head.Absent i)) P each = each.same
after_each s (call.SetHead cids) (answer.Head head.NoMemory) P each = each.same
after_each s (call.SetHead cids) (answer.Head (head.NotHeader i)) P each = each.same
after_each s (call.SetHead cids) (answer.Head (head.HeightDiffers i)) P each = each.same
after_each s (call.SetHead cids) (answer.Head (head.ParentsDiffer i)) P each = each.same
after_each s (call.SetHead cids) (answer.Head (head.LogFull file need room)) P each = each.same
after_each s (call.SetHead cids) (answer.Head head.DiskFault) P each = each.same
after_each s (call.SetHead cids) (answer.Head (head.Set height)) P each = each.headed cids height (λ lawful. lawful)
after_each s (call.SetHead cids) (answer.Info r) P each = each.same
after_each s call.Info (answer.View r) P each = each.same
after_each s call.Info (answer.Close r) P each = each.same
after_each s call.Info (answer.Put r) P each = each.same
after_each s call.Info (answer.Get r) P each = each.same
after_each s call.Info (answer.Has r) P each = each.same
after_each s call.Info (answer.Size r) P each = each.same
after_each s call.Info (answer.Head r) P each = each.same
after_each s call.Info (answer.Info r) P each = each.same
