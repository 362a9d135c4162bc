-- Calls over blocks, one after another.
use Rattle.std.proofs.Common.{◌≡◌, Result, Ok, Err, refl, ◌∙◌, subst, ap, inl, inr, arith}
use Rattle.ss_chain.specs.declared.blocks.Blocks.{Ghosts}
use Rattle.ss_device.specs.{Disk.Rose}
use Rattle.ss_node.specs.Blocks.{held_by, Visits}
use Rattle.ss_node.specs.declared.fault.NodeFault.{NodeFault}

-- no call failed: all that is known of the blocks is as it was
pub record Stays {B : Type 0} (blocks : Ghosts B) (old new : B) : Type 0 where
  pub holds : blocks.holds new ≡ blocks.holds old
  pub told : blocks.told new ≡ blocks.told old
  pub place : blocks.place new ≡ blocks.place old
  pub faults : blocks.faults new ≡ blocks.faults old

pub stays-start : {B : Type 0} (blocks : Ghosts B) (b : B) → Stays blocks b b
stays-start blocks b = record { holds = refl; told = refl; place = refl; faults = refl }

pub stays-held : {B : Type 0} (blocks : Ghosts B) (old new : B) → Stays blocks old new → held_by blocks new ≡ held_by blocks old
stays-held blocks old new s = rw (s.holds, s.told) refl

no_fault : {B T : Type 0} (blocks : Ghosts B) (old new : B) (x : T) → Visits blocks old new (Ok x) → blocks.faults new ≡ blocks.faults old
no_fault blocks old new x v = elim v.cause.kept [ inl e ↦ absurd (cc) | inr same ↦ same ]

-- ---- where a call succeeds

pub stays-ok : {B T : Type 0} (blocks : Ghosts B) (first old new : B) (x : T) → Stays blocks first old → Visits blocks old new (Ok x) → Stays blocks first new
stays-ok blocks first old new x s v = record {
  holds = v.holds ∙ s.holds;
  told = v.told ∙ s.told;
  place = v.place ∙ s.place;
  faults = no_fault blocks old new x v ∙ s.faults;
}

pub visits-stay : {B T : Type 0} (blocks : Ghosts B) (old new : B) (answer : Result T NodeFault) → Stays blocks old new → (answer ≡ Err NodeFault.Fault → ⊥) → Visits blocks old new answer
visits-stay blocks old new answer s sound = record {
  holds = s.holds;
  told = s.told;
  place = s.place;
  cause = record { later = omega (arith, s.faults); rose = λ e. absurd (sound e); kept = inr s.faults };
}

-- ---- where one fails

Err-same : {T : Type 0} (a b : NodeFault) → ◌≡◌ {A = Result T NodeFault} (Err a) (Err b) → a ≡ b
Err-same a b h = cc

pub visits-err : {B T U : Type 0} (blocks : Ghosts B) (first old new : B) (fault : NodeFault) → Stays blocks first old → Visits {T = T} blocks old new (Err fault) → Visits {T = U} blocks first new (Err fault)
visits-err {B} {T} {U} blocks first old new fault s v = record {
  holds = v.holds ∙ s.holds;
  told = v.told ∙ s.told;
  place = v.place ∙ s.place;
  cause = record {
    later = omega (arith, s.faults, v.cause.later);
    rose = λ e. subst (λ n. Rose n (blocks.faults new)) s.faults (v.cause.rose (ap Err (Err-same {T = U} fault NodeFault.Fault e)));
    kept = elim v.cause.kept [ inl e ↦ inl (ap Err (Err-same {T = T} fault NodeFault.Fault e)) | inr same ↦ inr (same ∙ s.faults) ];
  };
}
