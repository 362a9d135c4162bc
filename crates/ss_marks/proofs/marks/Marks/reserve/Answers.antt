use Rattle.std.proofs.Common.{◌≡◌, length, refl, sym, ap, subst, arith}
use Rattle.ss_marks.specs.declared.index.Index.{Index}
use Rattle.ss_marks.specs.Index.{Indexes}
use Rattle.ss_marks.proofs.Fresh.{grown_sound}
use Rattle.ss_marks.proofs.marks.Marks.reserve.Goals as goal

pub invariant_of-self : goal.invariant_of-self
invariant_of-self c =
    let m = c.self.inside in
    let sound = c.self.invariant in
    let heads : length c.grow.new.index.heads.items ≡ length m.index.heads.items = ap (λ (x : Index). length x.heads.items) c.in_err-grow.ensures.err in
    let below : length c.grow.new.index.below.items ≡ length m.index.below.items = ap (λ (x : Index). length x.below.items) c.in_err-grow.ensures.err in
    grown_sound m _ sound c.grow.ensures.rows c.grow.ensures.kept refl refl refl refl refl
    (subst (λ x. Indexes m.rows.items x) (sym c.in_err-grow.ensures.err) sound.index)
    (omega (arith, sound.rows)) (omega (arith, sound.links, c.grow.ensures.links, c.next_slots-slots.ensures.enough)) (omega (arith, sound.below))
    (omega (arith, sound.room, c.grow.ensures.capacity)) (omega (arith, sound.limit))

pub invariant_of-self-2 : goal.invariant_of-self-2
invariant_of-self-2 c =
    let m = c.self.inside in
    let sound = c.self.invariant in
    let slots = c.in_ok-grow.ensures.slots in
    let room = c.in_ok-grow.ensures.room in
    grown_sound m _ sound c.grow.ensures.rows c.grow.ensures.kept refl refl refl refl refl c.in_ok-grow.ensures.index
    (omega (arith, sound.rows)) (omega arith) (omega arith) (omega arith) (omega (arith, c.next_slots-slots.ensures.within))
