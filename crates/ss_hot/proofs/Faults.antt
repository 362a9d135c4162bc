-- What an answer says of its parts.
use Rattle.std.proofs.Common.{◌≡◌, inl, inr, ⊎_elim, ℕ, refl, ◌∙◌, ap, subst, arith}
use Rattle.std.specs.Prelude.{Result, Ok, Err, Option, Some, IfSome}
use Rattle.ss_device.specs.declared.disk.Disk.{Ghosts}
use Rattle.ss_device.specs.Disk.{Same, Rose}
use Rattle.ss_device.specs.Calls.{Goes}
use Rattle.ss_device.proofs.Goes.{stays, then_same}
use Rattle.ss_gatelog.specs.GateLog.{CountsFault}
use Rattle.ss_gatelog.specs.declared.fault.RecordsFault.{RecordsFault}
use Rattle.ss_gatelog.specs.declared.fault.RecordsFault.TheVariants as reading
use Rattle.ss_store.specs.declared.fault.StoreFault.{StoreFault}
use Rattle.ss_store.specs.declared.fault.StoreFault.TheVariants.{NoMemory, DiskFault, Damaged, LogFull}
use Rattle.ss_store.specs.Append.{of_records}
use Rattle.ss_hot.specs.Store.{Reads, IsStop, IsOpeningFault}

-- one damage
pub one_damaged : (T : Type 0) (file at file' at' : ℕ) → ◌≡◌ {A = Result T StoreFault} (Err (Damaged file at)) (Err (Damaged file' at')) → (file ≡ file') × (at ≡ at')
one_damaged T file at file' at' is = (cc, cc)

-- of an option that is known
pub if_some : (X : Type 0) (Q : X → Type 0) (o : Option X) (x : X) → o ≡ Some x → IfSome o Q → Q x
if_some X Q o x is said = subst (λ (y : Option X). IfSome y Q) is said

-- of a success: no fault was counted
pub not_risen : {T E : Type 0} (fault : E) (before now : ℕ) (x : T) → CountsFault {T = T} fault before now (Ok x) → now ≡ before
not_risen fault before now x counts = ⊎_elim (λ is. absurd (let differ : ⊥ = cc (is) in differ)) (λ same. same) counts.kept

-- ---- calls that only read

-- no file changed, and no fault was counted
pub record IsQuiet {D : Type 0} (disk : Ghosts D) (was now : D) : Type 0 where
  pub goes : Goes disk Same was now
  pub faults : disk.faults now ≡ disk.faults was

module _ {D : Type 0} (disk : Ghosts D) where
  pub quiet_none : (was : D) → IsQuiet disk was was
  quiet_none was = record { goes = stays disk was Same (λ files. refl); faults = refl }

  pub quiet : {T : Type 0} (was now : D) (faults : StoreFault → Type 0) (x : T) → Reads {T = T} disk was now faults (Ok x) → IsQuiet disk was now
  quiet was now faults x reads = record { goes = reads.goes; faults = not_risen DiskFault (disk.faults was) (disk.faults now) x reads.counts }

  pub quiet_on : {T : Type 0} (was mid now : D) (faults : StoreFault → Type 0) (x : T) → IsQuiet disk was mid → Reads {T = T} disk mid now faults (Ok x) → IsQuiet disk was now
  quiet_on was mid now faults x first reads = record {
    goes = then_same disk was mid now Same first.goes reads.goes;
    faults = not_risen DiskFault (disk.faults mid) (disk.faults now) x reads.counts ∙ first.faults;
  }

  -- a reader's call
  pub quiet_next : {T : Type 0} (was mid now : D) (x : T) → IsQuiet disk was mid → Goes disk Same mid now → CountsFault {T = T} reading.DiskFault (disk.faults mid) (disk.faults now) (Ok x) → IsQuiet disk was now
  quiet_next was mid now x first goes counts = record {
    goes = then_same disk was mid now Same first.goes goes;
    faults = not_risen reading.DiskFault (disk.faults mid) (disk.faults now) x counts ∙ first.faults;
  }

  -- an answer of its own
  pub reads_ok : {T : Type 0} (was now : D) (faults : StoreFault → Type 0) (y : T) → IsQuiet disk was now → Reads {T = T} disk was now faults (Ok y)
  reads_ok was now faults y first = record {
    errors = λ e is. absurd (let differ : ⊥ = cc (is) in differ);
    goes = first.goes;
    counts = record { later = omega (arith, first.faults); rose = λ is. absurd (let differ : ⊥ = cc (is) in differ); kept = inr first.faults };
  }

  pub reads_memory : {T : Type 0} (was now : D) (y : Result T StoreFault) → y ≡ Err NoMemory → IsQuiet disk was now → Reads disk was now IsOpeningFault y
  reads_memory was now y is first = record {
    errors = λ e same file need room full. cc (is, same, full);
    goes = first.goes;
    counts = record { later = omega (arith, first.faults); rose = λ same. absurd (let differ : ⊥ = cc (is, same) in differ); kept = inr first.faults };
  }

  pub reads_damage : {T : Type 0} (was now : D) (faults : StoreFault → Type 0) (file at : ℕ) → faults (Damaged file at) → IsQuiet disk was now → Reads {T = T} disk was now faults (Err (Damaged file at))
  reads_damage was now faults file at may first = record {
    errors = λ e is. let same : Damaged file at ≡ e = cc (is) in subst faults same may;
    goes = first.goes;
    counts = record { later = omega (arith, first.faults); rose = λ is. absurd (let differ : ⊥ = cc (is) in differ); kept = inr first.faults };
  }

  -- the fault of the last call
  pub reads_err : {S T : Type 0} (was mid now : D) (faults more : StoreFault → Type 0) (x : Result S StoreFault) (y : Result T StoreFault) (e : StoreFault) → x ≡ Err e → y ≡ Err e → (faults e → more e) → IsQuiet disk was mid → Reads disk mid now faults x → Reads disk was now more y
  reads_err {S = S} {T = T} was mid now faults more x y e is is' wider first reads = record {
    errors = λ f same. let equal : e ≡ f = cc (is', same) in subst more equal (wider (reads.errors e is));
    goes = then_same disk was mid now Same first.goes reads.goes;
    counts = record {
      later = omega (arith, first.faults, reads.counts.later);
      rose = λ same.
          let equal : x ≡ Err DiskFault = cc (is, is', same) in
          subst (λ (n : ℕ). Rose n (disk.faults now)) first.faults (reads.counts.rose equal);
      kept = ⊎_elim (λ same. inl (let equal : y ≡ Err DiskFault = cc (is, is', same) in equal)) (λ same. inr (same ∙ first.faults)) reads.counts.kept;
    };
  }

  -- the fault of a reader
  pub reads_fault : {S T : Type 0} (was mid now : D) (file : ℕ) (f : RecordsFault) → IsQuiet disk was mid → Goes disk Same mid now → CountsFault {T = S} reading.DiskFault (disk.faults mid) (disk.faults now) (Err f) → Reads {T = T} disk was now IsOpeningFault (Err (of_records file f))
  reads_fault {S = S} {T = T} was mid now file f first goes counts = record {
    errors = λ e same file' need room full. never f file' need room (let equal : of_records file f ≡ LogFull file' need room = cc (same, full) in equal);
    goes = then_same disk was mid now Same first.goes goes;
    counts = record {
      later = omega (arith, first.faults, counts.later);
      rose = λ same. subst (λ (n : ℕ). Rose n (disk.faults now)) first.faults (counts.rose (ap Err (faulty f (let equal : of_records file f ≡ DiskFault = cc (same) in equal))));
      kept = ⊎_elim (λ same. inl (let equal : f ≡ reading.DiskFault = cc (same) in ap (λ (x : RecordsFault). Err (of_records file x)) equal)) (λ same. inr (same ∙ first.faults)) counts.kept;
    };
  }
    where
      never : (f : RecordsFault) (file' need room : ℕ) → of_records file f ≡ LogFull file' need room → ⊥
      never reading.NoMemory file' need room is = cc (is)
      never reading.DiskFault file' need room is = cc (is)
      never (reading.Damaged at) file' need room is = cc (is)

      faulty : (f : RecordsFault) → of_records file f ≡ DiskFault → f ≡ reading.DiskFault
      faulty reading.NoMemory is = absurd (let differ : ⊥ = cc (is) in differ)
      faulty reading.DiskFault is = refl
      faulty (reading.Damaged at) is = absurd (let differ : ⊥ = cc (is) in differ)

-- a fault where no damage is looked for is one where nothing is to be written
pub opening_fault : (e : StoreFault) → IsStop e → IsOpeningFault e
opening_fault e (inl is) file need room full = cc (is, full)
opening_fault e (inr is) file need room full = cc (is, full)
