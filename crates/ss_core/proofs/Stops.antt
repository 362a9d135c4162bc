-- How a fault that stops a put or a head is answered.
use Rattle.std.proofs.Common.{◌≡◌, ◌⊎◌, inl, inr, ⊎_elim, ℕ, List, refl, sym, subst}
use Rattle.ss_device.specs.declared.disk.Disk.{Ghosts}
use Rattle.ss_store.specs.declared.fault.StoreFault.{StoreFault}
use Rattle.ss_store.specs.declared.fault.StoreFault.TheVariants as fault
use Rattle.ss_model.specs.State.{State}
use Rattle.ss_model.specs.declared.call.Call.TheVariants as call
use Rattle.ss_model.specs.declared.call.Answer.TheVariants as answer
use Rattle.ss_model.specs.declared.call.PutReply.{PutReply}
use Rattle.ss_model.specs.declared.call.PutReply.TheVariants as put
use Rattle.ss_model.specs.declared.call.HeadReply.{HeadReply}
use Rattle.ss_model.specs.declared.call.HeadReply.TheVariants as head
use Rattle.ss_core.specs.declared.split_core.SplitCore.{SplitCore}
use Rattle.ss_core.specs.Calls.{Steps, Makes}
use Rattle.ss_core.specs.Replies.{Puts}
use Rattle.ss_hot.specs.Store.{IsStop}
use Rattle.ss_core.specs.Replies.{put_fault, head_fault}
use Rattle.ss_core.specs.StandsFor.{Doubt}

-- a fault is one where the log is not full and the file not damaged
pub is_stop : (f : StoreFault) → ((file need room : ℕ) → f ≡ fault.LogFull file need room → ⊥) → ((file at : ℕ) → f ≡ fault.Damaged file at → ⊥) → IsStop f
is_stop fault.NoMemory full damaged = inl refl
is_stop fault.DiskFault full damaged = inr refl
is_stop (fault.LogFull file need room) full damaged = absurd (full file need room refl)
is_stop (fault.Damaged file at) full damaged = absurd (damaged file at refl)

-- what a call does with both answers it does with the one that is given
module _ {D : Type 0} {disk : Ghosts D} {old new : SplitCore D disk} where
  module _ {s : State} {doubt : Doubt} where
    pub head_steps : {cids : List (List ℕ)} {r : HeadReply} (f : StoreFault) → r ≡ head_fault f → IsStop f → (f ≡ fault.NoMemory → Steps old new s doubt (call.SetHead cids) (answer.Head head.NoMemory)) → (f ≡ fault.DiskFault → Steps old new s doubt (call.SetHead cids) (answer.Head head.DiskFault)) → Steps old new s doubt (call.SetHead cids) (answer.Head r)
    head_steps {cids = cids} fault.NoMemory is stop memory failed = subst (λ (r : HeadReply). Steps old new s doubt (call.SetHead cids) (answer.Head r)) (sym is) (memory refl)
    head_steps {cids = cids} fault.DiskFault is stop memory failed = subst (λ (r : HeadReply). Steps old new s doubt (call.SetHead cids) (answer.Head r)) (sym is) (failed refl)
    head_steps (fault.LogFull file need room) is stop memory failed = absurd (⊎_elim (λ other. cc (other)) (λ other. cc (other)) stop)
    head_steps (fault.Damaged file at) is stop memory failed = absurd (⊎_elim (λ other. cc (other)) (λ other. cc (other)) stop)

  pub puts_fault : {v : ℕ} {pairs : List (List ℕ × List ℕ)} {r : PutReply} (f : StoreFault) → r ≡ put_fault f → IsStop f → (f ≡ fault.NoMemory → Puts old new v pairs put.NoMemory) → (f ≡ fault.DiskFault → Puts old new v pairs put.DiskFault) → Puts old new v pairs r
  puts_fault {v = v} {pairs = pairs} fault.NoMemory is stop memory failed = subst (λ (r : PutReply). Puts old new v pairs r) (sym is) (memory refl)
  puts_fault {v = v} {pairs = pairs} fault.DiskFault is stop memory failed = subst (λ (r : PutReply). Puts old new v pairs r) (sym is) (failed refl)
  puts_fault (fault.LogFull file need room) is stop memory failed = absurd (⊎_elim (λ other. cc (other)) (λ other. cc (other)) stop)
  puts_fault (fault.Damaged file at) is stop memory failed = absurd (⊎_elim (λ other. cc (other)) (λ other. cc (other)) stop)

  pub head_makes : {cids : List (List ℕ)} {r : HeadReply} (f : StoreFault) → r ≡ head_fault f → IsStop f → (f ≡ fault.NoMemory → Makes old new (call.SetHead cids) (answer.Head head.NoMemory)) → (f ≡ fault.DiskFault → Makes old new (call.SetHead cids) (answer.Head head.DiskFault)) → Makes old new (call.SetHead cids) (answer.Head r)
  head_makes {cids = cids} fault.NoMemory is stop memory failed = subst (λ (r : HeadReply). Makes old new (call.SetHead cids) (answer.Head r)) (sym is) (memory refl)
  head_makes {cids = cids} fault.DiskFault is stop memory failed = subst (λ (r : HeadReply). Makes old new (call.SetHead cids) (answer.Head r)) (sym is) (failed refl)
  head_makes (fault.LogFull file need room) is stop memory failed = absurd (⊎_elim (λ other. cc (other)) (λ other. cc (other)) stop)
  head_makes (fault.Damaged file at) is stop memory failed = absurd (⊎_elim (λ other. cc (other)) (λ other. cc (other)) stop)

-- what a fault other than the disk's leaves
pub unless_disk : (f : StoreFault) (P : Type 0) → f ≡ fault.NoMemory → (f ≡ fault.DiskFault) ⊎ P → P
unless_disk f P wanting (inl failed) = absurd (let differ : ⊥ = cc (wanting, failed) in differ)
unless_disk f P wanting (inr same) = same
