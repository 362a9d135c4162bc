-- How a walk goes over a record.
use Rattle.std.proofs.Common.{◌≡◌, ℕ, ◌+◌, ◌≤◌, List, [], ◌∷◌, ◌++◌, length, sym, ◌∙◌, ap, subst, arith, length-append}
use Rattle.std.specs.Prelude.{Option, Some, None}
use Rattle.std.specs.FinMap as finite_map
use Rattle.ss_records.specs.declared.record.Record.{Record}
use Rattle.ss_records.specs.declared.record.Record.TheVariants.{Config, Generation, Put, Dropped, Head, Base, Start, Cold, Sealed, Copied, Purged}
use Rattle.ss_records.specs.Record.{spelling, Fits}
use Rattle.ss_gatelog.specs.Log.{spelled}
use Rattle.ss_store.specs.declared.place.Place.{Place}
use Rattle.ss_store.specs.Places.{CidMap, LiesBefore}
use Rattle.ss_store.specs.Append.{bodies}
use Rattle.ss_store.proofs.Pairs.{Each-with, Each-without}
use Rattle.ss_store.proofs.Placing.{placed_all, placed-before, length-Put}
use Rattle.ss_hot.specs.declared.store.walk.Walk.{Walk}
use Rattle.ss_hot.specs.Half.{IsInPlace, places_after, hot_places, head_from, base_from}
use Rattle.ss_hot.specs.Opening.{AreBefore, Gathers, IsRead}
use Rattle.ss_hot.proofs.Grown.{head_from-push, base_from-push, places_from-push, AreInPlace-push}

-- ---- each block lies before the next gate

pub before_none : (file end : ℕ) → AreBefore file finite_map.empty end
before_none file end c p is = absurd (let none : None ≡ Some p = sym (finite_map.get-empty _ c) ∙ is in let differ : ⊥ = cc in differ)

before_later : (file : ℕ) (places : CidMap Place) (end later : ℕ) → end ≤ later → AreBefore file places end → AreBefore file places later
before_later file places end later more before c p is = let was = before c p is in (was.0, omega (arith, was.1, more), was.2)

before_after : (file : ℕ) (places : CidMap Place) (at : ℕ) (r : Record) → Fits r → AreBefore file places at → AreBefore file (places_after file places at r) (at + 5 + length (spelling r))
before_after file places at (Put blocks) fits before =
    let end = at + 5 + length (spelling (Put blocks)) in
    Each-with (LiesBefore file end) places (placed_all file (at + 5) blocks) (before_later file places at end (omega arith) before) (placed-before file (at + 5) 3 end blocks (omega (arith, length-Put blocks)) fits.1)
before_after file places at (Dropped cids) fits before =
    let end = at + 5 + length (spelling (Dropped cids)) in
    Each-without (LiesBefore file end) places cids (before_later file places at end (omega arith) before)
before_after file places at (Config c) fits before = before_later file places at _ (omega arith) before
before_after file places at (Generation n) fits before = before_later file places at _ (omega arith) before
before_after file places at (Head height cids) fits before = before_later file places at _ (omega arith) before
before_after file places at (Base base ended) fits before = before_later file places at _ (omega arith) before
before_after file places at (Start edge cids) fits before = before_later file places at _ (omega arith) before
before_after file places at (Cold cids) fits before = before_later file places at _ (omega arith) before
before_after file places at (Sealed total) fits before = before_later file places at _ (omega arith) before
before_after file places at (Copied up_to) fits before = before_later file places at _ (omega arith) before
before_after file places at (Purged up_to) fits before = before_later file places at _ (omega arith) before

pub before_read : (file at next : ℕ) (old new : Walk) (body : List ℕ) → IsRead file at old body new → next ≡ at + 5 + length body → AreBefore file old.index at → AreBefore file new.index next
before_read file at next old new body read is before =
    let r = read.is in
    let place : at + 5 + length (spelling r) ≡ next = omega (arith, is, ap (length {A = ℕ}) read.spells) in
    subst (λ (m : CidMap Place). AreBefore file m next) (sym read.enters.places) (subst (AreBefore file (places_after file old.index at r)) place (before_after file old.index at r read.in_place.fits before))

-- ---- the walk holds what the records tell

pub gathers_on : (file at : ℕ) (old new : Walk) (records : List Record) (body : List ℕ) → Gathers file old records → at ≡ length (spelled (bodies records)) → (read : IsRead file at old body new) → new.count ≡ old.count + 1 → Gathers file new (records ++ read.is ∷ [])
gathers_on file at old new records body was place read count =
    let r = read.is in
    record {
      in_place = AreInPlace-push 0 records r was.in_place (subst (λ (n : ℕ). IsInPlace n r) (let here : old.count ≡ 0 + length records = omega (arith, was.count) in here) read.in_place);
      count = omega (arith, count, was.count, length-append records (r ∷ []));
      places =
          read.enters.places
          ∙ ap (λ (m : CidMap Place). places_after file m at r) was.places
          ∙ ap (λ (n : ℕ). places_after file (hot_places file records) n r) (let here : at ≡ 0 + length (spelled (bodies records)) = omega (arith, place) in here)
          ∙ sym (places_from-push file finite_map.empty 0 records r);
      head = read.enters.head ∙ ap (λ (h : Option (ℕ × List (List ℕ))). head_from h (r ∷ [])) was.head ∙ sym (head_from-push None records r);
      base = read.enters.base ∙ ap (λ (b : ℕ × ℕ). base_from b (r ∷ [])) was.base ∙ sym (base_from-push (0, 0) records r);
    }
