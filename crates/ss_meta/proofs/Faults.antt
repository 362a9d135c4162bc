-- What an answer says of its parts.
use Rattle.std.proofs.Common.{◌≡◌, inl, inr, ⊎_elim, ℕ, List, IsTrue, refl, ◌∙◌, ap, subst, arith}
use Rattle.std.specs.Prelude.{Result, Ok, Err}
use Rattle.ss_device.specs.declared.disk.Disk.{Ghosts}
use Rattle.ss_device.specs.Disk.{Files, Same, Changes, Rose, HasCause}
use Rattle.ss_device.specs.Calls.{Goes}
use Rattle.ss_device.proofs.Goes.{stays, then_same, goes_on}
use Rattle.ss_gatelog.specs.GateLog.{CountsFault, Opens}
use Rattle.ss_gatelog.proofs.Logs.{opens_reading}
use Rattle.ss_gatelog.specs.declared.fault.RecordsFault.{RecordsFault}
use Rattle.ss_gatelog.specs.declared.fault.RecordsFault.TheVariants as reading
use Rattle.ss_store.specs.declared.fault.StoreFault.{StoreFault}
use Rattle.ss_store.specs.declared.fault.StoreFault.TheVariants.{NoMemory, DiskFault, Damaged, LogFull}
use Rattle.ss_store.specs.Append.{of_records}
use Rattle.ss_meta.specs.Meta.{Reads, MakesEmpty, IsOpeningFault}

-- one damage
pub one_damaged : (T : Type 0) (file at file' at' : ℕ) → ◌≡◌ {A = Result T StoreFault} (Err (Damaged file at)) (Err (Damaged file' at')) → (file ≡ file') × (at ≡ at')
one_damaged T file at file' at' is = (cc, cc)

-- of a success: no fault was counted
pub not_risen : {T E : Type 0} (fault : E) (before now : ℕ) (x : T) → CountsFault {T = T} fault before now (Ok x) → now ≡ before
not_risen fault before now x counts = ⊎_elim (λ is. absurd (let differ : ⊥ = cc (is) in differ)) (λ same. same) counts.kept

-- ---- calls that only read

-- no file changed, and no fault was counted
pub record IsQuiet {D : Type 0} (disk : Ghosts D) (was now : D) : Type 0 where
  pub goes : Goes disk Same was now
  pub faults : disk.faults now ≡ disk.faults was

module _ {D : Type 0} (disk : Ghosts D) where
  pub quiet_none : (was : D) → IsQuiet disk was was
  quiet_none was = record { goes = stays disk was Same (λ files. refl); faults = refl }

  -- a reader's call
  pub quiet_next : {T : Type 0} (was mid now : D) (x : T) → IsQuiet disk was mid → Goes disk Same mid now → CountsFault {T = T} reading.DiskFault (disk.faults mid) (disk.faults now) (Ok x) → IsQuiet disk was now
  quiet_next was mid now x first goes counts = record {
    goes = then_same disk was mid now Same first.goes goes;
    faults = not_risen reading.DiskFault (disk.faults mid) (disk.faults now) x counts ∙ first.faults;
  }

  -- answers of its own
  pub reads_ok : {T : Type 0} (was now : D) (faults : StoreFault → Type 0) (y : T) → IsQuiet disk was now → Reads {T = T} disk Same was now faults (Ok y)
  reads_ok was now faults y first = record {
    errors = λ e is. absurd (let differ : ⊥ = cc (is) in differ);
    goes = first.goes;
    counts = record { later = omega (arith, first.faults); rose = λ is. absurd (let differ : ⊥ = cc (is) in differ); kept = inr first.faults };
  }

  pub reads_memory : {T : Type 0} (was now : D) (y : Result T StoreFault) → y ≡ Err NoMemory → IsQuiet disk was now → Reads disk Same was now IsOpeningFault y
  reads_memory was now y is first = record {
    errors = λ e same file need room full. cc (is, same, full);
    goes = first.goes;
    counts = record { later = omega (arith, first.faults); rose = λ same. absurd (let differ : ⊥ = cc (is, same) in differ); kept = inr first.faults };
  }

  pub reads_damage : {T : Type 0} (was now : D) (file at : ℕ) → IsQuiet disk was now → Reads {T = T} disk Same was now IsOpeningFault (Err (Damaged file at))
  reads_damage was now file at first = record {
    errors = λ e is file' need room full. cc (is, full);
    goes = first.goes;
    counts = record { later = omega (arith, first.faults); rose = λ is. absurd (let differ : ⊥ = cc (is) in differ); kept = inr first.faults };
  }

  -- the fault of a reader
  pub reads_fault : {S T : Type 0} (was mid now : D) (file : ℕ) (f : RecordsFault) → IsQuiet disk was mid → Goes disk Same mid now → CountsFault {T = S} reading.DiskFault (disk.faults mid) (disk.faults now) (Err f) → Reads {T = T} disk Same was now IsOpeningFault (Err (of_records file f))
  reads_fault {S = S} {T = T} was mid now file f first goes counts = record {
    errors = λ e same file' need room full. never f file' need room (let equal : of_records file f ≡ LogFull file' need room = cc (same, full) in equal);
    goes = then_same disk was mid now Same first.goes goes;
    counts = record {
      later = omega (arith, first.faults, counts.later);
      rose = λ same. subst (λ (n : ℕ). Rose n (disk.faults now)) first.faults (counts.rose (ap Err (faulty f (let equal : of_records file f ≡ DiskFault = cc (same) in equal))));
      kept = ⊎_elim (λ same. inl (let equal : f ≡ reading.DiskFault = cc (same) in ap (λ (x : RecordsFault). Err (of_records file x)) equal)) (λ same. inr (same ∙ first.faults)) counts.kept;
    };
  }
    where
      never : (f : RecordsFault) (file' need room : ℕ) → of_records file f ≡ LogFull file' need room → ⊥
      never reading.NoMemory file' need room is = cc (is)
      never reading.DiskFault file' need room is = cc (is)
      never (reading.Damaged at) file' need room is = cc (is)

      faulty : (f : RecordsFault) → of_records file f ≡ DiskFault → f ≡ reading.DiskFault
      faulty reading.NoMemory is = absurd (let differ : ⊥ = cc (is) in differ)
      faulty reading.DiskFault is = refl
      faulty (reading.Damaged at) is = absurd (let differ : ⊥ = cc (is) in differ)

  -- ---- a call that follows such calls

  -- a fault of it, by this step
  pub reads_err : {S T : Type 0} (step : Files → Files → Type 0) (was mid now : D) (faults more : StoreFault → Type 0) (x : Result S StoreFault) (y : Result T StoreFault) (e : StoreFault) → x ≡ Err e → y ≡ Err e → (faults e → more e) → Goes disk step was now → IsQuiet disk was mid → Reads disk Same mid now faults x → Reads disk step was now more y
  reads_err {S = S} {T = T} step was mid now faults more x y e is is' wider goes first reads = record {
    errors = λ f same. let equal : e ≡ f = cc (is', same) in subst more equal (wider (reads.errors e is));
    goes = goes;
    counts = record {
      later = goes.faults;
      rose = λ same.
          let equal : x ≡ Err DiskFault = cc (is, is', same) in
          subst (λ (n : ℕ). Rose n (disk.faults now)) first.faults (reads.counts.rose equal);
      kept = ⊎_elim (λ same. inl (let equal : y ≡ Err DiskFault = cc (is, is', same) in equal)) (λ same. inr (same ∙ first.faults)) reads.counts.kept;
    };
  }

  -- one that answers the disk's fault alone
  pub cause_ok : {S E T : Type 0} (step : Files → Files → Type 0) (was mid now : D) (faults : StoreFault → Type 0) (x : S) (y : T) → Goes disk step was now → IsQuiet disk was mid → HasCause {T = S} {E = E} (disk.faults mid) (disk.faults now) (Ok x) → Reads {T = T} disk step was now faults (Ok y)
  cause_ok step was mid now faults x y goes first cause = record {
    errors = λ e is. absurd (let differ : ⊥ = cc (is) in differ);
    goes = goes;
    counts = record { later = goes.faults; rose = λ is. absurd (let differ : ⊥ = cc (is) in differ); kept = inr (cause.kept ∙ first.faults) };
  }

  pub cause_err : {S E T : Type 0} (step : Files → Files → Type 0) (was mid now : D) (e : E) (y : Result T StoreFault) → y ≡ Err DiskFault → Goes disk step was now → IsQuiet disk was mid → HasCause {T = S} {E = E} (disk.faults mid) (disk.faults now) (Err e) → Reads disk step was now IsOpeningFault y
  cause_err {S = S} {E = E} {T = T} step was mid now e y is goes first cause = record {
    errors = λ f same file need room full. cc (is, same, full);
    goes = goes;
    counts = record { later = goes.faults; rose = λ same. subst (λ (n : ℕ). Rose n (disk.faults now)) first.faults cause.failed; kept = inl is };
  }

  -- ---- an opening

  pub quiet_open : {S E : Type 0} (was now : D) (x : S) → Goes disk Same was now → HasCause {T = S} {E = E} (disk.faults was) (disk.faults now) (Ok x) → IsQuiet disk was now
  quiet_open was now x goes cause = record { goes = goes; faults = cause.kept }

  pub quiet_reads : {T : Type 0} (was mid now : D) (faults : StoreFault → Type 0) (x : T) → IsQuiet disk was mid → Reads {T = T} disk Same mid now faults (Ok x) → IsQuiet disk was now
  quiet_reads was mid now faults x first reads = record {
    goes = then_same disk was mid now Same first.goes reads.goes;
    faults = not_risen DiskFault (disk.faults mid) (disk.faults now) x reads.counts ∙ first.faults;
  }

  -- no file changed, or one that is short was made empty
  pub makes_none : (was now : D) (file : ℕ) → Goes disk Same was now → Goes disk (MakesEmpty disk was file) was now
  makes_none was now file goes = opens_reading disk file (disk.files was file) was now goes

  -- after calls that change nothing
  pub makes_later : (was mid now : D) (file number : ℕ) → number ≡ file → Goes disk Same was mid → Goes disk (Changes number (Opens (disk.files mid number))) mid now → Goes disk (MakesEmpty disk was file) was now
  makes_later was mid now file number is first second = record {
    files = λ told. (both told).files told;
    images = λ told. (both told).images told;
    known = λ g. omega (arith, first.known g, second.known g);
    faults = omega (arith, first.faults, second.faults);
    place = second.place ∙ first.place;
  }
    where
      here : IsTrue disk.told → Goes disk (MakesEmpty disk was file) mid now
      here told = subst (λ (r : List ℕ). Goes disk (Changes file (Opens r)) mid now) (ap (λ (f : Files). f file) (first.files told)) (subst (λ (n : ℕ). Goes disk (Changes n (Opens (disk.files mid n))) mid now) is second)

      both : IsTrue disk.told → Goes disk (MakesEmpty disk was file) was now
      both told = goes_on disk was mid now Same (MakesEmpty disk was file) (MakesEmpty disk was file) first (here told)
          (λ a b same. record { here = inl (ap (λ (f : Files). f file) same); elsewhere = λ g other. ap (λ (f : Files). f g) same })
          (λ a b c same changes. subst (λ (f : Files). MakesEmpty disk was file f c) same changes)
