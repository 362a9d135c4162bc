use Rattle.std.proofs.Common.{◌≡◌, ◌+◌, ◌∷◌, [], ℕ, false, length, ap, refl, ◌∙◌, sym, arith}
use Rattle.std.proofs.lemmas.Result.{err_from_is_err_and}
use Rattle.std.specs.Prelude.{Result, Err}
use Rattle.ss_device.proofs.Goes.{touches}
use Rattle.ss_gatelog.specs.GateLog.{Log}
use Rattle.ss_gatelog.proofs.Logs.{stands_sure}
use Rattle.ss_records.specs.declared.record.Record.TheVariants as record_kind
use Rattle.ss_records.specs.Record.{spelling}
use Rattle.ss_store.specs.declared.fault.StoreFault.{StoreFault}
use Rattle.ss_store.specs.declared.fault.StoreFault.TheVariants as fault
use Rattle.ss_hot.proofs.Grown.{length-frame}
use Rattle.ss_hot.proofs.Sizes.{length-Generation, length-Config}
use Rattle.ss_hot.proofs.Writes.{keeps_new, within_empty, touches_log}
use Rattle.ss_hot.proofs.store.first.FirstRecords.write.Goals as goal

-- a refusal of an append that is not for want of room, for damage or out of memory
which : (e : StoreFault) (result : Result (Unit {0}) StoreFault) → result ≡ Err e → ((file need room : ℕ) → result ≡ Err (fault.LogFull file need room) → ⊥) → ((file at : ℕ) → result ≡ Err (fault.Damaged file at) → ⊥) → (result ≡ Err fault.NoMemory → ⊥) → e ≡ fault.DiskFault
which fault.NoMemory result is full damaged memory = absurd (memory is)
which fault.DiskFault result is full damaged memory = refl
which (fault.LogFull file need room) result is full damaged memory = absurd (full file need room is)
which (fault.Damaged file at) result is full damaged memory = absurd (damaged file at is)

pub returns-in-Err-clause-touches : goal.returns-in-Err-clause-touches
returns-in-Err-clause-touches g c = touches g.D.Disk 0 _ _ _ c.create.ensures.goes

pub append_record-requires-clause-body : goal.append_record-requires-clause-body
append_record-requires-clause-body g c =
    omega (arith, ap (length {A = ℕ}) (c.deref_mut.ensures.value ∙ c.self.invariant.1), length-frame (spelling (record_kind.Generation 1)), length-Generation 1)

pub returns-in_err-append_record-clause-touches : goal.returns-in_err-append_record-clause-touches
returns-in_err-append_record-clause-touches g c = touches_log g.D.Disk 0 _ _ _ c.in-Ok.log (ap (λ (l : Log). l.file) c.in-Ok.ensures.ok) (touches g.D.Disk 0 _ _ _ c.create.ensures.goes) c.append_record.ensures.appended.touches

pub returns-in_err-append_record-clause-errors : goal.returns-in_err-append_record-clause-errors
returns-in_err-append_record-clause-errors g c e is =
    let fault = err_from_is_err_and c.from_residual.result c.from_residual.ensures.1 in
    let was : c.append_record.result ≡ Err e = cc (fault.1, fault.2, is, c.in_err-append_record.was) in
    which e c.append_record.result was
    (λ file need room answer. let full = c.append_record.ensures.appended.full file need room answer in
    omega (arith, full.1, full.2, full.3, ap (λ (l : Log). l.limit) c.in-Ok.ensures.ok, ap (λ (l : Log). l.end) c.in-Ok.ensures.ok, c.self.invariant.0.limit.0, ap (length {A = ℕ}) (c.deref_mut.ensures.value ∙ c.self.invariant.1), length-frame (spelling (record_kind.Generation 1)), length-Generation 1))
    c.append_record.ensures.appended.not_damaged c.append_record.ensures.memory

pub append_record-requires-2-clause-body : goal.append_record-requires-2-clause-body
append_record-requires-2-clause-body g c =
    omega (arith, ap (length {A = ℕ}) (c.deref_mut-2.ensures.value ∙ c.self.invariant.2), length-frame (spelling (record_kind.Config c.self.inside.config)), length-Config c.self.inside.config)

pub returns-in_err-append_record-2-clause-touches : goal.returns-in_err-append_record-2-clause-touches
returns-in_err-append_record-2-clause-touches g c = touches_log g.D.Disk 0 _ _ _ c.append_record.new.log (ap (λ (l : Log). l.file) c.in_ok-append_record.ensures.appended.ok ∙ ap (λ (l : Log). l.file) c.in-Ok.ensures.ok)
    (touches_log g.D.Disk 0 _ _ _ c.in-Ok.log (ap (λ (l : Log). l.file) c.in-Ok.ensures.ok) (touches g.D.Disk 0 _ _ _ c.create.ensures.goes) c.append_record.ensures.appended.touches) c.append_record-2.ensures.appended.touches

pub returns-in_err-append_record-2-clause-errors : goal.returns-in_err-append_record-2-clause-errors
returns-in_err-append_record-2-clause-errors g c e is =
    let fault = err_from_is_err_and c.from_residual-in_err-append_record-2.result c.from_residual-in_err-append_record-2.ensures.1 in
    let was : c.append_record-2.result ≡ Err e = cc (fault.1, fault.2, is, c.in_err-append_record-2.was) in
    let log : c.append_record.new.log ≡ record c.in-Ok.log { end = c.in-Ok.log.end + length c.deref_mut.result.now; unsure = false } = c.in_ok-append_record.ensures.appended.ok in
    which e c.append_record-2.result was
    (λ file need room answer. let full = c.append_record-2.ensures.appended.full file need room answer in
    omega (arith, full.1, full.2, full.3, ap (λ (l : Log). l.limit) log, ap (λ (l : Log). l.end) log, ap (λ (l : Log). l.limit) c.in-Ok.ensures.ok, ap (λ (l : Log). l.end) c.in-Ok.ensures.ok, c.self.invariant.0.limit.0, ap (length {A = ℕ}) (c.deref_mut.ensures.value ∙ c.self.invariant.1), length-frame (spelling (record_kind.Generation 1)), length-Generation 1, ap (length {A = ℕ}) (c.deref_mut-2.ensures.value ∙ c.self.invariant.2), length-frame (spelling (record_kind.Config c.self.inside.config)), length-Config c.self.inside.config))
    c.append_record-2.ensures.appended.not_damaged c.append_record-2.ensures.memory

pub invariant_of-result : goal.invariant_of-result
invariant_of-result g c = rw c.new.ensures (within_empty c.self.inside.config c.append_record-2.new.log
    (ap (λ (l : Log). l.limit) c.in_ok-append_record-2.ensures.appended.ok ∙ ap (λ (l : Log). l.limit) c.in_ok-append_record.ensures.appended.ok ∙ ap (λ (l : Log). l.limit) c.in-Ok.ensures.ok))

pub returns-clause-new : goal.returns-clause-new
returns-clause-new g c =
    let one = c.in-Ok.ensures.ok in
    let two = c.in_ok-append_record.ensures.appended.ok in
    let three = c.in_ok-append_record-2.ensures.appended.ok in
    let limit : c.append_record-2.new.log.limit ≡ c.self.inside.config.limit = ap (λ (l : Log). l.limit) three ∙ ap (λ (l : Log). l.limit) two ∙ ap (λ (l : Log). l.limit) one in
    let unsure : c.append_record-2.new.log.unsure ≡ false = ap (λ (l : Log). l.unsure) three in
    record {
      keeps = λ told. rw (sym c.self.view_is) (rw c.new.ensures (keeps_new g.D.Disk _ c.self.inside.config c.append_record-2.new.log c.self.invariant.0 limit unsure
          (c.in_ok-append_record-2.ensures.told (record_kind.Config c.self.inside.config) (record_kind.Generation 1 ∷ []) [] (c.deref_mut-2.ensures.value ∙ c.self.invariant.2) told
          (stands_sure g.D.Disk _ _ _ _ (ap (λ (l : Log). l.unsure) two) (c.in_ok-append_record.ensures.told (record_kind.Generation 1) [] [] (c.deref_mut.ensures.value ∙ c.self.invariant.1) told
          (stands_sure g.D.Disk _ _ _ _ (ap (λ (l : Log). l.unsure) one) (c.in-Ok.ensures.sure told))).appended)).appended));
      settings = c.self.view_is;
      places = c.new.ensures;
      settled = record { sure = unsure; log = (ap (λ (l : Log). l.file) three ∙ ap (λ (l : Log). l.file) two ∙ ap (λ (l : Log). l.file) one, limit); known = c.in_ok-append_record-2.ensures.appended.known };
    }

pub returns-clause-touches : goal.returns-clause-touches
returns-clause-touches g c = touches_log g.D.Disk 0 _ _ _ c.append_record.new.log (ap (λ (l : Log). l.file) c.in_ok-append_record.ensures.appended.ok ∙ ap (λ (l : Log). l.file) c.in-Ok.ensures.ok)
    (touches_log g.D.Disk 0 _ _ _ c.in-Ok.log (ap (λ (l : Log). l.file) c.in-Ok.ensures.ok) (touches g.D.Disk 0 _ _ _ c.create.ensures.goes) c.append_record.ensures.appended.touches) c.append_record-2.ensures.appended.touches
