-- What a walk reads of a body.
use Rattle.std.proofs.Common.{◌≡◌, ℕ, zero, suc, ◌+◌, ◌<◌, ◌≤◌, ◌^◌, Bool, true, false, List, length, map, refl, ◌∙◌, ap, subst, arith}
use Rattle.std.specs.Prelude.{Result, Ok, MatchBool, not}
use Rattle.ss_records.specs.declared.fault.RecordFault.{RecordFault}
use Rattle.ss_records.specs.declared.places.BlockPlace.{BlockPlace}
use Rattle.ss_records.specs.declared.record.Record.{Record}
use Rattle.ss_records.specs.declared.record.Record.TheVariants.{Put}
use Rattle.ss_records.specs.Record.{spelling, Fits, IsValue}
use Rattle.ss_records.specs.Fields.{read_record}
use Rattle.ss_records.specs.Places.{IsPut, ArePlaces, places_of}
use Rattle.ss_records.proofs.Parts.{IsBytes}
use Rattle.ss_records.proofs.Records.{read_takes, read_again}
use Rattle.ss_hot.specs.declared.store.walk.Walk.{Walk}
use Rattle.ss_hot.specs.Half.{MayStand}
use Rattle.ss_store.specs.Places.{has_fault, with_places}
use Rattle.ss_hot.specs.Opening.{Enters, IsRead, IsMisfit}
use Rattle.ss_hot.proofs.Readings.{one_result}
use Rattle.ss_store.proofs.Puts.{is_put, read_of, none_of, put_lies, with_placed}

-- a body of a Put's kind reads as none but a Put
record ReadsPut (body : List ℕ) (r : Record) : Type 0 where
  blocks : List (List ℕ × List ℕ)
  is : r ≡ Put blocks
  spells : body ≡ spelling (Put blocks)
  value : IsValue (Put blocks)
  fits : Fits (Put blocks)

reads_put : (body : List ℕ) (r : Record) → IsBytes body → IsPut body → read_record body ≡ Ok r → ReadsPut body r
reads_put body r small put read =
    let takes = read_takes body r small read in
    let found = is_put r (subst IsPut takes.0 put) in
    record {
      blocks = found.0;
      is = found.1;
      spells = takes.0 ∙ ap spelling found.1;
      value = subst IsValue found.1 takes.1;
      fits = subst Fits found.1 takes.2;
    }

-- a Put stands after the settings
early : (n : ℕ) (blocks : List (List ℕ × List ℕ)) → n < 2 → MayStand n (Put blocks) → ⊥
early zero blocks few stands = stands
early (suc zero) blocks few stands = stands
early (suc (suc n)) blocks few stands = omega arith

late : (n : ℕ) (blocks : List (List ℕ × List ℕ)) → 2 ≤ n → MayStand n (Put blocks)
late zero blocks some = absurd (omega arith)
late (suc zero) blocks some = absurd (omega arith)
late (suc (suc n)) blocks some = tt

pub too_early : (n : ℕ) (body : List ℕ) → IsBytes body → IsPut body → n < 2 → IsMisfit n body
too_early n body small put few r read stands =
    let found = reads_put body r small put read in
    early n found.blocks few (subst (MayStand n) found.is stands)

-- the blocks were entered by the places that were read
module _ (file at : ℕ) (old new : Walk) (body : List ℕ) (items : List (Result BlockPlace RecordFault)) (small : IsBytes body) (put : IsPut body) (are : ArePlaces (read_record body) items) (behind : 2 ≤ old.count) (within : at + 5 + length body < 2 ^ 64)
    (config : new.config ≡ old.config) (head : new.head ≡ old.head) (base : new.base ≡ old.base) where
  entered : has_fault items ≡ false → new.index ≡ with_places file (at + 5) old.index items → IsRead file at old body new
  entered none places =
      let read = read_of (read_record body) items are none in
      let found = reads_put body read.0 small put read.1 in
      let blocks = found.blocks in
      let all : items ≡ map Ok (places_of (Put blocks)) = read.2 ∙ ap (λ (r : Record). map Ok (places_of r)) found.is in
      record {
        is = Put blocks;
        spells = found.spells;
        in_place = record { fits = found.fits; value = found.value; may_stand = late old.count blocks behind };
        enters = record {
          config = config;
          places =
              places
              ∙ ap (λ (l : List (Result BlockPlace RecordFault)). with_places file (at + 5) old.index l) all
              ∙ with_placed file (at + 5) (length (spelling (Put blocks))) old.index (places_of (Put blocks)) (omega (arith, within, ap (length {A = ℕ}) found.spells)) (put_lies blocks);
          head = head;
          base = base;
        };
      }

  pub put_read : (whole : Bool) → whole ≡ not (has_fault items) → (whole ≡ true → new.index ≡ with_places file (at + 5) old.index items) → MatchBool whole (IsRead file at old body new) (IsMisfit old.count body)
  put_read whole is places = at_fault (has_fault items) refl whole is places
    where
      at_fault : (b : Bool) → has_fault items ≡ b → (whole : Bool) → whole ≡ not (has_fault items) → (whole ≡ true → new.index ≡ with_places file (at + 5) old.index items) → MatchBool whole (IsRead file at old body new) (IsMisfit old.count body)
      at_fault false none true is places = entered none (places refl)
      at_fault false none false is places = absurd (let differ : false ≡ true = is ∙ ap not none in cc)
      at_fault true some true is places = absurd (let differ : true ≡ false = is ∙ ap not some in cc)
      at_fault true some false is places = λ r read stands. none_of (read_record body) items r are some read

-- a record other than a Put was entered or not
pub entered_or_not : (b : Bool) (file at : ℕ) (old new : Walk) (body : List ℕ) (r : Record) → body ≡ spelling r → IsValue r → Fits r → MatchBool b (MayStand old.count r × Enters file at old r new) ((MayStand old.count r → ⊥) × (new ≡ old)) → MatchBool b (IsRead file at old body new) (IsMisfit old.count body)
entered_or_not true file at old new body r spells value fits entered = record { is = r; spells = spells; in_place = record { fits = fits; value = value; may_stand = entered.0 }; enters = entered.1 }
entered_or_not false file at old new body r spells value fits entered = λ q read stands. entered.0 (subst (MayStand old.count) (one_result q r (read_record body) read (ap read_record spells ∙ read_again r value fits)) stands)
