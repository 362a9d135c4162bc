use Rattle.std.proofs.Common.{◌≡◌, ◌≤◌, inl, inr, ◌-◌, ℕ, List, length, take, drop, false, true, length-drop, sym, ap, subst, arith}
use Rattle.std.proofs.lemmas.Result.{err_from_is_err_and}
use Rattle.std.proofs.lemmas.List.{length-take-le}
use Rattle.ss_device.specs.Disk.{Files}
use Rattle.ss_device.proofs.Goes.{then_same}
use Rattle.ss_gatelog.specs.Log.{IsDamaged}
use Rattle.ss_gatelog.specs.Gate.{IsPiece, Reader, HasLent}
use Rattle.ss_gatelog.proofs.Readers.{lent_on, lent_still, lent_more, lent_none, lends_fault}
use Rattle.ss_gatelog.proofs.records.Records.next.Goals as goal

pub returns-then-self-le1-clause-lends : goal.returns-then-self-le1-clause-lends
returns-then-self-le1-clause-lends g c records told was =
    let r = c.self.inside in
    let lent = subst (λ (reader : Reader). HasLent g.D.Disk c.args.disk.now reader records) (sym c.self.view_is) was in
    let none : r.at ≡ 0 = omega (arith, c.if-self-le1.true, c.self.invariant) in
    lent_still g.D.Disk c.args.disk.now _ records lent c.skip.new.self true (subst (IsPiece _ r.at) (sym c.skip.ensures) lent.ahead)
    (λ ended. inl (omega (arith, lent.size, c.if-self-le1.true), lent_none g.D.Disk c.args.disk.now _ records lent none))

pub returns-in_err-cover-clause-lends : goal.returns-in_err-cover-clause-lends
returns-in_err-cover-clause-lends g c records told was =
    let r = c.self.inside in
    let lent = subst (λ (reader : Reader). HasLent g.D.Disk c.args.disk.now reader records) (sym c.self.view_is) was in
    let piece = c.cover.ensures.piece told (subst (IsPiece _ r.at) (sym c.skip.ensures) lent.ahead) in
    let fault = err_from_is_err_and c.from_residual.result c.from_residual.ensures.1 in
    lends_fault g.D.Disk _ c.args.self.now _ records c.from_residual.result c.from_residual.ensures.0 (λ e is. c.cover.ensures.errors e (cc (fault.1, fault.2, is, c.in_err-cover.was)))
    (lent_on g.D.Disk _ _ _ records told c.cover.ensures.goes (lent_still g.D.Disk c.args.disk.now _ records lent c.cover.new.self false piece (λ ended. absurd (let differ : ⊥ = cc in differ))))

pub returns-in_err-cover-in-Record-clause-lends : goal.returns-in_err-cover-in-Record-clause-lends
returns-in_err-cover-in-Record-clause-lends g c records told was =
    let r = c.self.inside in
    let lent = subst (λ (reader : Reader). HasLent g.D.Disk c.args.disk.now reader records) (sym c.self.view_is) was in
    let first : IsPiece (g.D.Disk.files c.args.disk.now r.file) r.at c.cover.new.self = c.cover.ensures.piece told (subst (IsPiece _ r.at) (sym c.skip.ensures) lent.ahead) in
    let files : g.D.Disk.files c.cover.new.disk r.file ≡ g.D.Disk.files c.args.disk.now r.file = ap (λ (f : Files). f r.file) (c.cover.ensures.goes.files told) in
    let piece : IsPiece (g.D.Disk.files c.args.disk.now r.file) r.at c.cover-in-Record.new.self = subst (λ (f : List ℕ). IsPiece f r.at c.cover-in-Record.new.self) files (c.cover-in-Record.ensures.piece told (subst (λ (f : List ℕ). IsPiece f r.at c.cover.new.self) (sym files) first)) in
    let goes = then_same g.D.Disk _ _ _ _ c.cover.ensures.goes c.cover-in-Record.ensures.goes in
    let fault = err_from_is_err_and c.from_residual-in_err-cover-in-Record.result c.from_residual-in_err-cover-in-Record.ensures.1 in
    lends_fault g.D.Disk _ c.args.self.now _ records c.from_residual-in_err-cover-in-Record.result c.from_residual-in_err-cover-in-Record.ensures.0 (λ e is. c.cover-in-Record.ensures.errors e (cc (fault.1, fault.2, is, c.in_err-cover-in-Record.was)))
    (lent_on g.D.Disk _ _ _ records told goes (lent_still g.D.Disk c.args.disk.now _ records lent c.cover-in-Record.new.self false piece (λ ended. absurd (let differ : ⊥ = cc in differ))))

pub returns-in_err-cover-in-Record-clause-goes : goal.returns-in_err-cover-in-Record-clause-goes
returns-in_err-cover-in-Record-clause-goes g c = then_same g.D.Disk _ _ _ _ c.cover.ensures.goes c.cover-in-Record.ensures.goes

pub returns-in-Closed-clause-lends : goal.returns-in-Closed-clause-lends
returns-in-Closed-clause-lends g c records told was =
    let r = c.self.inside in
    let lent = subst (λ (reader : Reader). HasLent g.D.Disk c.args.disk.now reader records) (sym c.self.view_is) was in
    let file = g.D.Disk.files c.args.disk.now r.file in
    let piece : IsPiece file r.at c.cover.new.self = c.cover.ensures.piece told (subst (IsPiece _ r.at) (sym c.skip.ensures) lent.ahead) in
    let gate = c.in-Closed.ensures.stands file records lent.size c.if-self-le1.false (subst (IsPiece file r.at) (sym c.bytes.ensures) piece) lent.leads in
    lent_on g.D.Disk _ _ _ records told c.cover.ensures.goes (lent_still g.D.Disk c.args.disk.now _ records lent c.cover.new.self true piece (λ ended. inr gate))

pub returns-in-Unfit-clause-lends : goal.returns-in-Unfit-clause-lends
returns-in-Unfit-clause-lends g c records told was =
    let r = c.self.inside in
    let lent = subst (λ (reader : Reader). HasLent g.D.Disk c.args.disk.now reader records) (sym c.self.view_is) was in
    let file = g.D.Disk.files c.args.disk.now r.file in
    let piece : IsPiece file r.at c.cover.new.self = c.cover.ensures.piece told (subst (IsPiece _ r.at) (sym c.skip.ensures) lent.ahead) in
    let gate = c.in-Unfit.ensures.stands file records lent.size c.if-self-le1.false (subst (IsPiece file r.at) (sym c.bytes.ensures) piece) lent.leads in
    let files : file ≡ g.D.Disk.files c.cover.new.disk r.file = sym (ap (λ (f : Files). f r.file) (c.cover.ensures.goes.files told)) in (
      lent_on g.D.Disk _ _ _ records told c.cover.ensures.goes (lent_still g.D.Disk c.args.disk.now _ records lent c.cover.new.self false piece (λ ended. absurd (let differ : ⊥ = cc in differ))),
      subst (λ (reader : Reader). IsDamaged reader.limit (g.D.Disk.files c.cover.new.disk reader.file) r.at) c.self.view_is (subst (λ (f : List ℕ). IsDamaged r.limit f r.at) files gate),
    )

pub returns-in_ok-cover-in-Record-clause-lends : goal.returns-in_ok-cover-in-Record-clause-lends
returns-in_ok-cover-in-Record-clause-lends g c records told was =
    let r = c.self.inside in
    let lent = subst (λ (reader : Reader). HasLent g.D.Disk c.args.disk.now reader records) (sym c.self.view_is) was in
    let file = g.D.Disk.files c.args.disk.now r.file in
    let first : IsPiece file r.at c.cover.new.self = c.cover.ensures.piece told (subst (IsPiece _ r.at) (sym c.skip.ensures) lent.ahead) in
    let files : g.D.Disk.files c.cover.new.disk r.file ≡ file = ap (λ (f : Files). f r.file) (c.cover.ensures.goes.files told) in
    let piece : IsPiece file r.at c.cover-in-Record.new.self = subst (λ (f : List ℕ). IsPiece f r.at c.cover-in-Record.new.self) files (c.cover-in-Record.ensures.piece told (subst (λ (f : List ℕ). IsPiece f r.at c.cover.new.self) (sym files) first)) in
    let gate = c.in-Record.ensures.stands file records lent.size c.if-self-le1.false (subst (IsPiece file r.at) (sym c.bytes.ensures) first) lent.leads in
    let goes = then_same g.D.Disk _ _ _ _ c.cover.ensures.goes c.cover-in-Record.ensures.goes in
    lent_on g.D.Disk c.args.disk.now c.cover-in-Record.new.disk _ _ told goes (lent_more g.D.Disk c.args.disk.now _ records lent c.cover-in-Record.new.self c.in-Record.next piece c.in-Record.ensures.within.0 c.in_ok-cover-in-Record.ensures.covers gate)

pub returns-in_ok-cover-in-Record-clause-reaches :
    goal.returns-in_ok-cover-in-Record-clause-reaches
returns-in_ok-cover-in-Record-clause-reaches g c =
    let r = c.self.inside in
    let at : r.at ≡ c.args.self.now.at = ap (λ (reader : Reader). reader.at) c.self.view_is in
    let within = c.in-Record.ensures.within in
    let window = c.cover-in-Record.new.self in
    let size : length (drop 5 (take (c.in-Record.next - r.at) window)) ≡ c.in-Record.next - r.at - 5 = omega (arith, length-drop 5 (take (c.in-Record.next - r.at) window), length-take-le (c.in-Record.next - r.at) window c.in_ok-cover-in-Record.ensures.covers) in
    (at, omega (arith, at, size, within.0), omega (arith, size, within.1), within.2, within.3)

pub returns-in_ok-cover-in-Record-clause-goes : goal.returns-in_ok-cover-in-Record-clause-goes
returns-in_ok-cover-in-Record-clause-goes g c = then_same g.D.Disk _ _ _ _ c.cover.ensures.goes c.cover-in-Record.ensures.goes

pub returns-in_ok-cover-in-Record-clause-little : goal.returns-in_ok-cover-in-Record-clause-little
returns-in_ok-cover-in-Record-clause-little g c =
    let r = c.self.inside in
    let window = c.cover-in-Record.new.self in
    let held : length r.window ≤ 16842757 = c.self.invariant.5 in
    let skipped : length c.skip.new.self ≤ 16842757 = omega (arith, held, ap (length {A = ℕ}) c.skip.ensures, length-drop r.lent r.window) in
    let covered : length c.cover.new.self ≤ 16842757 = omega (arith, skipped, c.cover.ensures.few, c.min-header.ensures) in
    let few : length window ≤ 16842757 = omega (arith, covered, c.cover-in-Record.ensures.few, c.in-Record.ensures.within.1) in
    let body : length (drop 5 (take (c.in-Record.next - r.at) window)) ≡ c.in-Record.next - r.at - 5 = omega (arith, length-drop 5 (take (c.in-Record.next - r.at) window), length-take-le (c.in-Record.next - r.at) window c.in_ok-cover-in-Record.ensures.covers) in
    let ahead : length (drop (c.in-Record.next - r.at) window) ≡ length window - (c.in-Record.next - r.at) = length-drop (c.in-Record.next - r.at) window in
    omega (arith, few, body, ahead, c.in_ok-cover-in-Record.ensures.covers)
