-- How much of a CAR was read, one section further, and to its end.
use Rattle.std.proofs.Common.{◌≡◌, ℕ, ◌+◌, ◌^◌, ◌≤◌, List, [], ◌∷◌, ◌++◌, length, Option, None, Some, refl, sym, ap, ◌∙◌, subst, append_assoc, arith, length-append}
use Rattle.std.specs.Option.{ForSome}
use Rattle.std.specs.Io.KnownBytes.{Consumes, IsAtEnd}
use Rattle.std.proofs.lemmas.List.{append-nil}
use Rattle.ss_car.specs.Bodies.{TakesStart, TakesSection, NextFault}
use Rattle.ss_car.specs.Car as car
use Rattle.ss_car.specs.Car.{framed, IsSection, Section, AreSections, IsCar}
use Rattle.ss_car.specs.declared.fault.CarFault.{CarFault}
use Rattle.ss_car.specs.declared.fault.CarRefusal.{CarRefusal}
use Rattle.ss_import.specs.Import.{BeginsWith, IsWhole}
use Rattle.ss_import.specs.Steps.{HasTaken}

-- sections go on where they ended
joined : (at : ℕ) (bytes : List ℕ) (sections : List Section) (ended : Option CarRefusal) → AreSections at bytes sections ended → ended ≡ None
    → (rest : List ℕ) (more : List Section) (ending : Option CarRefusal) → AreSections (at + length bytes) rest more ending → AreSections at (bytes ++ rest) (sections ++ more) ending
joined at _ _ _ car.AreSections.end none rest more ending h = subst (λ n. AreSections n rest more ending) (omega arith) h
joined at _ _ _ (car.AreSections.refused some is) none rest more ending h = absurd (let no : ⊥ = cc (none) in no)
joined at bytes _ _ (car.AreSections.more front behind cid block e is later) none rest more ending h =
    let place : at + length bytes ≡ at + length front + length behind = omega (arith, ap length e, length-append front behind) in
    car.AreSections.more front (behind ++ rest) cid block (ap (λ l. l ++ rest) e ∙ append_assoc front behind rest) is
    (joined (at + length front) behind _ _ later none rest more ending (subst (λ n. AreSections n rest more ending) place h))

-- a CAR goes on where it ended
longer : (front : List ℕ) (roots : List (List ℕ)) (sections : List Section) → IsCar front roots sections None → (rest : List ℕ) (more : List Section) (ending : Option CarRefusal) → AreSections (length front) rest more ending → IsCar (front ++ rest) roots (sections ++ more) ending
longer front roots sections is rest more ending h = record {
  start = is.start;
  rest = is.rest ++ rest;
  spelled = ap (λ l. l ++ rest) is.spelled ∙ append_assoc is.start is.rest rest;
  is_start = is.is_start;
  are_sections = joined (length is.start) is.rest sections None is.are_sections refl rest more ending (subst (λ n. AreSections n rest more ending) (ap length is.spelled ∙ length-append is.start is.rest) h);
}

-- the header alone
pub taken_start : (old new : Option (List ℕ)) (roots : List (List ℕ)) (taken : ℕ) → TakesStart old new roots taken → HasTaken old new roots [] taken
taken_start None new roots taken is = λ bytes none. absurd (let wrong : ⊥ = cc (none) in wrong)
taken_start (Some bytes) None roots taken is = absurd is.consumed
taken_start (Some bytes) (Some left) roots taken is = λ all same.
    let eq : bytes ≡ all = cc (same) in
    let car : IsCar is.bytes roots [] None = record { start = is.bytes; rest = []; spelled = sym (append-nil is.bytes); is_start = is.is; are_sections = car.AreSections.end } in
    (record { front = is.bytes; rest = left; spelled = sym eq ∙ is.consumed; is_car = car; end_is = is.count }, refl)

one_section : (at : ℕ) (cid block : List ℕ) → IsSection (framed (cid ++ block)) cid block → AreSections at (framed (cid ++ block)) (record { offset = at; cid = cid; block = block } ∷ []) None
one_section at cid block is = car.AreSections.more (framed (cid ++ block)) [] cid block (sym (append-nil (framed (cid ++ block)))) is car.AreSections.end

-- one section more
pub taken_more : (old mid new : Option (List ℕ)) (roots : List (List ℕ)) (sections : List Section) (taken now : ℕ) (cid block : List ℕ) → HasTaken old mid roots sections taken → TakesSection mid new cid block → now ≡ taken + length (framed (cid ++ block))
    → HasTaken old new roots (sections ++ record { offset = taken; cid = cid; block = block } ∷ []) now
taken_more old mid new roots sections taken now cid block was is count = λ all same.
    let begun = (was all same).0 in by all begun new (subst (λ m. Consumes m new (framed (cid ++ block))) (was all same).1 is.consumed)
  where
    by : (all : List ℕ) (begun : BeginsWith all roots sections taken) (new : Option (List ℕ)) → Consumes (Some begun.rest) new (framed (cid ++ block))
        → (later : BeginsWith all roots (sections ++ record { offset = taken; cid = cid; block = block } ∷ []) now) × (new ≡ Some later.rest)
    by all begun None gone = absurd gone
    by all begun (Some left) consumed = (
      record {
        front = begun.front ++ framed (cid ++ block);
        rest = left;
        spelled = begun.spelled ∙ ap (λ l. begun.front ++ l) consumed ∙ sym (append_assoc begun.front (framed (cid ++ block)) left);
        is_car = subst (λ n. IsCar (begun.front ++ framed (cid ++ block)) roots (sections ++ record { offset = n; cid = cid; block = block } ∷ []) None) (sym begun.end_is)
            (longer begun.front roots sections begun.is_car (framed (cid ++ block)) _ None (one_section (length begun.front) cid block is.is));
        end_is = count ∙ ap (λ n. n + length (framed (cid ++ block))) begun.end_is ∙ sym (length-append begun.front (framed (cid ++ block)));
      },
      refl,
    )

-- the input ended behind it
pub whole : (old new : Option (List ℕ)) (roots : List (List ℕ)) (sections : List Section) (taken : ℕ) → HasTaken old new roots sections taken → IsAtEnd new → taken ≤ 2 ^ 40 → IsWhole old roots sections
whole old new roots sections taken was ended short = λ all same.
    let begun = (was all same).0 in
    let none : begun.rest ≡ [] = subst IsAtEnd (was all same).1 ended in
    let all_is : all ≡ begun.front = begun.spelled ∙ ap (λ l. begun.front ++ l) none ∙ append-nil begun.front in
    (omega (arith, ap length all_is, begun.end_is, short), subst (λ b. IsCar b roots sections None) (sym all_is) begun.is_car)

-- the CAR is at fault behind it
pub refused : (old new : Option (List ℕ)) (roots : List (List ℕ)) (sections : List Section) (taken : ℕ) (fault : CarFault) → HasTaken old new roots sections taken → ForSome new (λ bytes. NextFault bytes fault)
    → ForSome old (λ bytes. IsCar bytes roots sections (Some (record { fault = fault; offset = taken })))
refused old new roots sections taken fault was is = λ all same.
    let begun = (was all same).0 in
    let left = begun.rest in
    let next = is left (was all same).1 in
    let ending : Option CarRefusal = Some (record { fault = fault; offset = taken }) in
    let here : AreSections (length begun.front) left [] ending = subst (λ n. AreSections n left [] ending) begun.end_is (car.AreSections.refused next.0 next.1) in
    subst (λ b. IsCar b roots sections ending) (sym begun.spelled)
    (subst (λ l. IsCar (begun.front ++ left) roots l ending) (append-nil sections) (longer begun.front roots sections begun.is_car left [] ending here))
