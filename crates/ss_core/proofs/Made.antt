-- What a call does over any disk, where it may have called it.
use Rattle.std.proofs.Common.{◌≡◌, ◌⊎◌, ◌<◌, ◌≤◌, ◌+◌, inl, inr, ℕ, true, false, List, Option, None, Some, refl, sym, ap, subst, ◌∙◌, arith}
use Rattle.std.specs.Prelude.{is_some, if◌then◌else◌, Result, Ok, Err, MatchResult}
use Rattle.ss_device.specs.declared.disk.Disk.{Ghosts}
use Rattle.ss_device.specs.Disk.{Same, Rose}
use Rattle.ss_device.specs.Calls.{Goes, TouchesFiles}
use Rattle.ss_device.proofs.Goes.{stays, touches_no_file}
use Rattle.ss_cid.specs.Cid.{identity_of}
use Rattle.ss_hot.specs.Store.{room_of}
use Rattle.ss_model.specs.Lawful.{Obstacle, no_obstacle, of_memory, of_disk, of_log, of_table, is_disk_fault}
use Rattle.ss_model.specs.declared.call.Call.{Call}
use Rattle.ss_model.specs.declared.call.Answer.{Answer}
use Rattle.ss_model.specs.declared.call.Call.TheVariants as call
use Rattle.ss_model.specs.declared.call.Answer.TheVariants as answer
use Rattle.ss_model.specs.declared.call.PutReply.TheVariants as put
use Rattle.ss_model.specs.declared.call.GetReply.{GetReply}
use Rattle.ss_model.specs.declared.call.GetReply.TheVariants as get
use Rattle.ss_core.specs.declared.split_core.SplitCore.{SplitCore}
use Rattle.ss_core.specs.Held.{need_of}
use Rattle.ss_core.specs.Calls.{Makes, OfLog, OfFullLog, IsUnwritten}
use Rattle.ss_core.specs.Calls.{Use, untouched, get_use, use_of}
use Rattle.ss_core.specs.LogFiles.{hot_file, log_files}

pub never : {X : Type 0} → false ≡ true → X
never wrong = absurd (let differ : ⊥ = cc (wrong) in differ)

-- where no fault is answered none was counted
pub counted_kept : {T E : Type 0} (x : T) (e : E) (P : Type 0) → ◌≡◌ {A = Result T E} (Ok x) (Err e) ⊎ P → P
counted_kept x e P (inl wrong) = absurd (let differ : ⊥ = cc (wrong) in differ)
counted_kept x e P (inr kept) = kept

-- a count that rose later rose since
pub rose_on : (was mid now : ℕ) → mid ≡ was → Rose mid now → Rose was now
rose_on was mid now same rose = omega (arith, same, rose)

-- what did nothing does over any disk, where its answer is no fault of the disk and does not tell that the log was settled
pub idle_makes : {D : Type 0} (disk : Ghosts D) (core : SplitCore D disk) (call : Call) (answer : Answer) → is_disk_fault answer ≡ false → OfFullLog (λ file need room. (file ≡ hot_file) × (need ≡ need_of core call) × (room ≡ room_of core.hot) × (room < need)) answer → IsUnwritten disk core.hot.log.unsure answer core.disk core.disk → (use_of call answer).settles ≡ false → Makes core core call answer
idle_makes disk core call answer no_fault full same unsettled = record {
  fault = λ wrong. never (sym no_fault ∙ wrong);
  no_fault = inr refl;
  full = full;
  grows = omega arith;
  memory = λ _. same;
  still = λ _. refl;
  settled = λ wrong. never (sym unsettled ∙ wrong);
  settings = refl;
  touches = touches_no_file disk log_files core.disk;
}

module _ {D : Type 0} (disk : Ghosts D) (old new : SplitCore D disk) (settings : new.hot.settings ≡ old.hot.settings) (touches : TouchesFiles disk log_files old.disk new.disk) (grows : new.hot.log.end ≤ old.hot.log.end + room_of old.hot) where
  pub put_stored : (v n : ℕ) (pairs : List (List ℕ × List ℕ)) → disk.faults new.disk ≡ disk.faults old.disk → new.hot.log.unsure ≡ false → Makes old new (call.Put v pairs) (answer.Put (put.Stored n))
  put_stored v n pairs kept sure = record { fault = λ wrong. never wrong; no_fault = inr kept; full = tt; grows = grows; memory = λ wrong. never wrong; still = λ not. never (sym not); settled = λ _. sure; settings = settings; touches = touches }

  pub put_failed : (v : ℕ) (pairs : List (List ℕ × List ℕ)) → Rose (disk.faults old.disk) (disk.faults new.disk) → Makes old new (call.Put v pairs) (answer.Put put.DiskFault)
  put_failed v pairs rose = record { fault = λ _. rose; no_fault = inl refl; full = tt; grows = grows; memory = λ wrong. never wrong; still = λ not. never (sym not); settled = λ wrong. never wrong; settings = settings; touches = touches }

  pub put_wanting : (v : ℕ) (pairs : List (List ℕ × List ℕ)) → new.disk ≡ old.disk → Makes old new (call.Put v pairs) (answer.Put put.NoMemory)
  put_wanting v pairs same = record { fault = λ wrong. never wrong; no_fault = inr (ap disk.faults same); full = tt; grows = grows; memory = λ _. same; still = λ _. same; settled = λ wrong. never wrong; settings = settings; touches = touches }

  module _ (v : ℕ) (c : List ℕ) (none : None ≡ identity_of c) where
    -- a block that is not its CID's own is looked up
    looked : (r : GetReply) → get_use r ≡ (if is_some (identity_of c) then untouched else get_use r)
    looked r = ap (λ i. if is_some i then untouched else get_use r) none

    pub get_found : (block : List ℕ) → disk.faults new.disk ≡ disk.faults old.disk → new.hot.log.unsure ≡ false → Makes old new (call.Get v c) (answer.Get (get.Found block))
    get_found block kept sure = record {
      fault = λ wrong. never wrong;
      no_fault = inr kept;
      full = tt;
      grows = grows;
      memory = λ wrong. never wrong;
      still = λ not. never (sym (ap (λ (u : Use). u.reaches) (looked (get.Found block)) ∙ not));
      settled = λ _. sure;
      settings = settings;
      touches = touches;
    }

    pub get_failed : Rose (disk.faults old.disk) (disk.faults new.disk) → Makes old new (call.Get v c) (answer.Get get.DiskFault)
    get_failed rose = record {
      fault = λ _. rose;
      no_fault = inl refl;
      full = tt;
      grows = grows;
      memory = λ wrong. never wrong;
      still = λ not. never (sym (ap (λ (u : Use). u.reaches) (looked get.DiskFault) ∙ not));
      settled = λ wrong. never (ap (λ (u : Use). u.settles) (looked get.DiskFault) ∙ wrong);
      settings = settings;
      touches = touches;
    }

-- a disk that was not called
pub same_disk : {D : Type 0} (disk : Ghosts D) (old new : D) → new ≡ old → Goes disk Same old new
same_disk disk old new same = subst (λ now. Goes disk Same old now) (sym same) (stays disk old Same (λ files. refl))

-- over any disk an identity CID's block, or want of memory for it, does nothing
pub digest_makes : {D E : Type 0} (disk : Ghosts D) (core : SplitCore D disk) (v : ℕ) (c digest : List ℕ) (r : GetReply) (copy : Result (List ℕ) E) → Some digest ≡ identity_of c → MatchResult copy (λ b. r ≡ get.Found b) (λ _. r ≡ get.NoMemory) → Makes core core (call.Get v c) (answer.Get r)
digest_makes {E = E} disk core v c digest r copy id is = on copy is
  where
    quiet : (r : GetReply) → (id : Option (List ℕ)) → Some digest ≡ id → (if is_some id then untouched else get_use r) ≡ untouched
    quiet r (Some d) e = refl
    quiet r None e = absurd (let differ : ⊥ = cc (e) in differ)

    on : (copy : Result (List ℕ) E) → MatchResult copy (λ b. r ≡ get.Found b) (λ _. r ≡ get.NoMemory) → Makes core core (call.Get v c) (answer.Get r)
    on (Ok b) is = subst (λ r. Makes core core (call.Get v c) (answer.Get r)) (sym is) (idle_makes disk core (call.Get v c) (answer.Get (get.Found b)) refl tt refl (ap (λ (u : Use). u.settles) (quiet (get.Found b) (identity_of c) id)))
    on (Err e) is = subst (λ r. Makes core core (call.Get v c) (answer.Get r)) (sym is) (idle_makes disk core (call.Get v c) (answer.Get get.NoMemory) refl tt refl (ap (λ (u : Use). u.settles) (quiet get.NoMemory (identity_of c) id)))

-- what holds of a full log's numbers, by what else does
pub of_log_wider : {P Q : ℕ → ℕ → ℕ → Type 0} (o : Obstacle) → ((file need room : ℕ) → P file need room → Q file need room) → OfLog P o → OfLog Q o
of_log_wider no_obstacle wider holds = tt
of_log_wider of_memory wider holds = tt
of_log_wider of_disk wider holds = tt
of_log_wider (of_log file need room) wider holds = wider file need room holds
of_log_wider (of_table rows) wider holds = tt
