-- What follows some items, one part after another.
use Rattle.std.proofs.Common.{◌≡◌, ℕ, zero, suc, ◌+◌, ◌-◌, ◌^◌, ◌<◌, ◌≤◌, List, ◌++◌, length, Result, Ok, Err, refl, sym, ap, ◌∙◌, arith}
use Rattle.ss_cid.specs.Steps.{◌>>=◌}
use Rattle.ss_cbor.specs.Item.{Part, items_in, links_of}
use Rattle.ss_cbor.specs.Reading.{part_at}
use Rattle.ss_cbor.specs.Fault.{walk, items_at, rest_at}
use Rattle.ss_cbor.specs.declared.fault.CborFault.{CborFault}
use Rattle.ss_cbor.proofs.Numbers.{IsBytes}
use Rattle.ss_cbor.proofs.Parts.{part_takes}
use Rattle.ss_cbor.proofs.Walk.{walk_enough, part_shorter}

items_step : (due end : ℕ) (bytes : List ℕ) (x : Part × List ℕ) → suc due < 2 ^ 63 → IsBytes bytes → part_at due end bytes ≡ Ok x →
    items_at (suc due) end bytes ≡ (items_at (items_in x.0 + due) end x.1 >>= λ others. Ok (links_of x.0 ++ others.0, others.1))
unfolding items_at walk
items_step due end bytes x room fits h =
    let first = part_takes due end bytes x (omega arith) fits h in
    let less = part_shorter due end bytes x first in
    let one = walk_enough (length bytes) (suc (length bytes)) (suc due) end bytes room fits (omega arith) (omega arith) in
    let others = walk_enough (length bytes) (length x.1) (items_in x.0 + due) end x.1 (omega (arith, first.fits)) first.takes.fits (omega arith) (omega arith) in
    one ∙ rw (h, others) refl

items_fault : (due end : ℕ) (bytes : List ℕ) (fault : CborFault) → suc due < 2 ^ 63 → IsBytes bytes → part_at due end bytes ≡ Err fault →
    items_at (suc due) end bytes ≡ Err fault
unfolding items_at walk
items_fault due end bytes fault room fits h =
    walk_enough (length bytes) (suc (length bytes)) (suc due) end bytes room fits (omega arith) (omega arith) ∙ rw h refl

pub rest_none : (end : ℕ) (bytes : List ℕ) → rest_at zero end bytes ≡ Ok bytes
unfolding rest_at items_at walk
rest_none end bytes = refl

abbrev prepend : List (List ℕ) → List (List ℕ) × List ℕ → Result (List (List ℕ) × List ℕ) CborFault
prepend links x = Ok (links ++ x.0, x.1)

abbrev behind : List (List ℕ) × List ℕ → Result (List ℕ) CborFault
behind x = Ok x.1

regroup : (r : Result (List (List ℕ) × List ℕ) CborFault) (links : List (List ℕ)) → ((r >>= prepend links) >>= behind) ≡ (r >>= behind)
regroup (Ok x) links = refl
regroup (Err e) links = refl

pub rest_step : (due end : ℕ) (bytes : List ℕ) (x : Part × List ℕ) → suc due < 2 ^ 63 → IsBytes bytes → part_at due end bytes ≡ Ok x →
    rest_at (suc due) end bytes ≡ rest_at (items_in x.0 + due) end x.1
unfolding rest_at
rest_step due end bytes x room fits h = rw (items_step due end bytes x room fits h) (regroup (items_at (items_in x.0 + due) end x.1) (links_of x.0))

pub rest_fault : (due end : ℕ) (bytes : List ℕ) (fault : CborFault) → suc due < 2 ^ 63 → IsBytes bytes → part_at due end bytes ≡ Err fault →
    rest_at (suc due) end bytes ≡ Err fault
unfolding rest_at
rest_fault due end bytes fault room fits h = rw (items_fault due end bytes fault room fits h) refl

-- what is still due stands in what is left as the one item does in the whole
pub record StillDue (bytes rest : List ℕ) (end due : ℕ) : Type 0 where
  pub room : due < 2 ^ 63
  pub within : length rest ≤ length bytes
  pub fits : IsBytes rest
  pub same : rest_at due end rest ≡ rest_at 1 end bytes

pub StillDue-after : (bytes rest after : List ℕ) (end due next : ℕ) (part : Part) → StillDue bytes rest end due → 0 < due →
    part_at (due - 1) end rest ≡ Ok (part, after) → next ≡ due - 1 + items_in part → StillDue bytes after end next
StillDue-after bytes rest after end due next part still some h is =
    let first = part_takes (due - 1) end rest (part, after) (omega (arith, still.room)) still.fits h in
    let less = part_shorter (due - 1) end rest (part, after) first in
    let was : due ≡ suc (due - 1) = omega arith in
    let now : items_in part + (due - 1) ≡ next = omega arith in
    record {
      room = omega (arith, first.fits);
      within = omega (arith, still.within, less);
      fits = first.takes.fits;
      same = ap (λ (n : ℕ). rest_at n end after) (sym now) ∙ sym (rest_step (due - 1) end rest (part, after) (omega (arith, still.room)) still.fits h)
          ∙ ap (λ (n : ℕ). rest_at n end rest) (sym was) ∙ still.same;
    }

pub StillDue-fault : (bytes rest : List ℕ) (end due : ℕ) (fault : CborFault) → StillDue bytes rest end due → 0 < due →
    part_at (due - 1) end rest ≡ Err fault → rest_at 1 end bytes ≡ Err fault
StillDue-fault bytes rest end due fault still some h =
    let was : suc (due - 1) ≡ due = omega arith in
    sym still.same ∙ ap (λ (n : ℕ). rest_at n end rest) (sym was) ∙ rest_fault (due - 1) end rest fault (omega (arith, still.room)) still.fits h

pub StillDue-none : (bytes rest : List ℕ) (end due : ℕ) → StillDue bytes rest end due → due ≤ 0 → rest_at 1 end bytes ≡ Ok rest
StillDue-none bytes rest end due still le =
    let none : due ≡ zero = omega arith in
    sym still.same ∙ ap (λ (n : ℕ). rest_at n end rest) none ∙ rest_none end rest

pub StillDue-start : (bytes : List ℕ) (end : ℕ) → IsBytes bytes → StillDue bytes bytes end 1
StillDue-start bytes end fits = record { room = omega arith; within = omega arith; fits = fits; same = refl }
