-- What each device call does to the bytes of a log's file.
use Rattle.std.proofs.Common.{◌≡◌, ◌≢◌, ◌⊎◌, inl, inr, ℕ, ◌+◌, ◌-◌, ◌<◌, ◌≤◌, List, [], ◌∷◌, ◌++◌, length, take, drop, get_or, refl, sym, ◌∙◌, ap, subst, arith, append_assoc, length-append, take-append-drop}
use Rattle.std.specs.Prelude.{slice_range}
use Rattle.std.proofs.lemmas.Bool.{cases_eq}
use Rattle.std.proofs.lemmas.List.{take_at, drop_at, drop_more, append-nil}
use Rattle.ss_device.specs.Disk.{Holds, Torn}
use Rattle.ss_gatelog.specs.Log.{open_gate, longest_body, length_bytes, spelled, AreBodies, Spells, IsShort, InDoubt, HasList}
use Rattle.ss_gatelog.proofs.Bytes.{length-length_bytes}

-- a row of records behind another
pub spelled-append : (a b : List (List ℕ)) → spelled (a ++ b) ≡ spelled a ++ spelled b
spelled-append [] b = refl
spelled-append (body ∷ a) b =
    ap (λ (l : List ℕ). open_gate ∷ (length_bytes (length body) ++ (body ++ l))) (spelled-append a b)
    ∙ ap (λ (l : List ℕ). open_gate ∷ (length_bytes (length body) ++ l)) (sym (append_assoc body (spelled a) (spelled b)))
    ∙ ap (λ (l : List ℕ). open_gate ∷ l) (sym (append_assoc (length_bytes (length body)) (body ++ spelled a) (spelled b)))

-- one record more, and what stands behind it
pub spelled-push : (records : List (List ℕ)) (body rest : List ℕ) → spelled (records ++ body ∷ []) ++ rest ≡ spelled records ++ open_gate ∷ (length_bytes (length body) ++ (body ++ rest))
spelled-push records body rest =
    let one : spelled (body ∷ []) ++ rest ≡ open_gate ∷ (length_bytes (length body) ++ (body ++ rest)) =
    ap (λ (l : List ℕ). open_gate ∷ l) (append_assoc (length_bytes (length body)) (body ++ []) rest ∙ ap (λ (l : List ℕ). length_bytes (length body) ++ (l ++ rest)) (append-nil body)) in
    ap (λ (l : List ℕ). l ++ rest) (spelled-append records (body ∷ [])) ∙ append_assoc (spelled records) (spelled (body ∷ [])) rest ∙ ap (λ (l : List ℕ). spelled records ++ l) one

pub length-spelled-push : (records : List (List ℕ)) (body : List ℕ) → length (spelled (records ++ body ∷ [])) ≡ length (spelled records) + 5 + length body
length-spelled-push records body =
    let parts = ap (length {A = ℕ}) (sym (append-nil (spelled (records ++ body ∷ []))) ∙ spelled-push records body []) in
    omega (arith, parts, length-append (spelled records) (open_gate ∷ (length_bytes (length body) ++ (body ++ []))), length-append (length_bytes (length body)) (body ++ []), length-length_bytes (length body), ap (length {A = ℕ}) (append-nil body))

pub bodies_push : (records : List (List ℕ)) (body : List ℕ) → AreBodies records → length body ≤ longest_body → AreBodies (records ++ body ∷ [])
bodies_push [] body are short = (short, tt)
bodies_push (b ∷ records) body are short = (are.0, bodies_push records body are.1 short)

module _ (front rest : List ℕ) (gate at : ℕ) (place : at ≡ length front) where
  abbrev whole : List ℕ
  whole = front ++ gate ∷ rest

  size : length whole ≡ at + 1 + length rest
  size = omega (arith, place, length-append front (gate ∷ rest))

  before : take at whole ≡ front
  before = take_at front (gate ∷ rest) at (sym place)

  after : drop (at + 1) whole ≡ rest
  after =
      ap (λ (l : List ℕ). drop (at + 1) l) (sym (append_assoc front (gate ∷ []) rest))
      ∙ drop_at (front ++ gate ∷ []) rest (at + 1) (omega (arith, place, length-append front (gate ∷ [])))

  -- a crash in a write of one gate leaves any byte there
  pub torn_gate : (new : List ℕ) → Torn at 1 whole new → new ≡ front ++ get_or new at 0 ∷ rest
  torn_gate new torn =
      let tail : drop at new ≡ get_or new at 0 ∷ rest = drop_more new at 0 (omega (arith, torn.no_shorter, size)) ∙ ap (λ (l : List ℕ). get_or new at 0 ∷ l) (torn.after ∙ after) in
      sym (take-append-drop at new) ∙ ap (λ (l : List ℕ). l ++ drop at new) (torn.before ∙ before) ∙ ap (λ (l : List ℕ). front ++ l) tail

  pub written_gate : (byte : ℕ) (new : List ℕ) → Holds at (byte ∷ []) whole new → new ≡ front ++ byte ∷ rest
  written_gate byte new holds = holds ∙ ap (λ (l : List ℕ). l ++ ((byte ∷ []) ++ drop (at + 1) whole)) before ∙ ap (λ (l : List ℕ). front ++ byte ∷ l) after

  -- a crash in a write behind the gate leaves what stands up to it
  pub torn_behind : (n : ℕ) (new : List ℕ) → Torn (at + 1) n whole new → new ≡ front ++ gate ∷ drop (at + 1) new
  torn_behind n new torn =
      let upto : take (at + 1) whole ≡ front ++ gate ∷ [] =
      ap (λ (l : List ℕ). take (at + 1) l) (sym (append_assoc front (gate ∷ []) rest)) ∙ take_at (front ++ gate ∷ []) rest (at + 1) (omega (arith, place, length-append front (gate ∷ []))) in
      sym (take-append-drop (at + 1) new) ∙ ap (λ (l : List ℕ). l ++ drop (at + 1) new) (torn.before ∙ upto) ∙ append_assoc front (gate ∷ []) (drop (at + 1) new)

  pub written_behind : (bytes : List ℕ) (new : List ℕ) → Holds (at + 1) bytes whole new → new ≡ front ++ gate ∷ (bytes ++ drop (at + 1 + length bytes) whole)
  written_behind bytes new holds =
      let upto : take (at + 1) whole ≡ front ++ gate ∷ [] =
      ap (λ (l : List ℕ). take (at + 1) l) (sym (append_assoc front (gate ∷ []) rest)) ∙ take_at (front ++ gate ∷ []) rest (at + 1) (omega (arith, place, length-append front (gate ∷ []))) in
      holds ∙ ap (λ (l : List ℕ). l ++ (bytes ++ drop (at + 1 + length bytes) whole)) upto ∙ append_assoc front (gate ∷ []) (bytes ++ drop (at + 1 + length bytes) whole)

-- with a record behind the closed gate
pub record Staged (records : List (List ℕ)) (body file : List ℕ) : Type 0 where
  pub gate : ℕ
  pub rest : List ℕ
  pub is : file ≡ spelled records ++ gate ∷ (length_bytes (length body) ++ (body ++ 0 ∷ rest))

closed_gate : 0 ≢ open_gate
closed_gate same = omega (arith, same)

module _ (records : List (List ℕ)) (at : ℕ) (place : at ≡ length (spelled records)) where
  pub spells_behind : (n : ℕ) (old new : List ℕ) → Spells records old → Torn (at + 1) n old new → Spells records new
  spells_behind n old new spells torn = record {
    gate = spells.gate;
    rest = drop (at + 1) new;
    is = torn_behind (spelled records) spells.rest spells.gate at place n new (subst (λ (f : List ℕ). Torn (at + 1) n f new) spells.is torn);
    closed = spells.closed;
  }

  pub staged : (body old new : List ℕ) → Spells records old → Holds (at + 1) (length_bytes (length body) ++ (body ++ 0 ∷ [])) old new → Staged records body new
  staged body old new spells holds =
      let bytes = length_bytes (length body) ++ (body ++ 0 ∷ []) in
      let behind = drop (at + 1 + length bytes) (spelled records ++ spells.gate ∷ spells.rest) in
      record {
        gate = spells.gate;
        rest = behind;
        is =
            written_behind (spelled records) spells.rest spells.gate at place bytes new (subst (λ (f : List ℕ). Holds (at + 1) bytes f new) spells.is holds)
            ∙ ap (λ (l : List ℕ). spelled records ++ spells.gate ∷ l) (append_assoc (length_bytes (length body)) (body ++ 0 ∷ []) behind ∙ ap (λ (l : List ℕ). length_bytes (length body) ++ l) (append_assoc body (0 ∷ []) behind));
      }

  opens : (body rest : List ℕ) → Spells (records ++ body ∷ []) (spelled records ++ open_gate ∷ (length_bytes (length body) ++ (body ++ 0 ∷ rest)))
  opens body rest = record { gate = 0; rest = rest; is = sym (spelled-push records body (0 ∷ rest)); closed = closed_gate }

  pub staged_doubt : (body old new : List ℕ) → Staged records body old → Torn at 1 old new → InDoubt records (records ++ body ∷ []) new
  staged_doubt body old new s torn = record {
    gate = get_or new at 0;
    rest = length_bytes (length body) ++ (body ++ 0 ∷ s.rest);
    is = torn_gate (spelled records) (length_bytes (length body) ++ (body ++ 0 ∷ s.rest)) s.gate at place new (subst (λ (f : List ℕ). Torn at 1 f new) s.is torn);
    opened = opens body s.rest;
  }

  pub staged_opened : (body old new : List ℕ) → Staged records body old → Holds at (open_gate ∷ []) old new → Spells (records ++ body ∷ []) new
  staged_opened body old new s holds =
      subst (Spells (records ++ body ∷ [])) (sym (written_gate (spelled records) (length_bytes (length body) ++ (body ++ 0 ∷ s.rest)) s.gate at place open_gate new (subst (λ (f : List ℕ). Holds at (open_gate ∷ []) f new) s.is holds))) (opens body s.rest)

  pub doubt_again : (more : List (List ℕ)) (old new : List ℕ) → InDoubt records more old → Torn at 1 old new → InDoubt records more new
  doubt_again more old new doubt torn = record {
    gate = get_or new at 0;
    rest = doubt.rest;
    is = torn_gate (spelled records) doubt.rest doubt.gate at place new (subst (λ (f : List ℕ). Torn at 1 f new) doubt.is torn);
    opened = doubt.opened;
  }

  pub doubt_closed : (more : List (List ℕ)) (old new : List ℕ) → InDoubt records more old → Holds at (0 ∷ []) old new → Spells records new
  doubt_closed more old new doubt holds = record {
    gate = 0;
    rest = doubt.rest;
    is = written_gate (spelled records) doubt.rest doubt.gate at place 0 new (subst (λ (f : List ℕ). Holds at (0 ∷ []) f new) doubt.is holds);
    closed = closed_gate;
  }

-- with its gate closed the file has the first list, and with it open the second
pub doubt_either : (front more : List (List ℕ)) (file : List ℕ) → InDoubt front more file → Spells front file ⊎ Spells more file
doubt_either front more file doubt = elim (cases_eq doubt.gate open_gate) [
  | inl is_open ↦ inr (subst (Spells more) (sym (doubt.is ∙ ap (λ (b : ℕ). spelled front ++ b ∷ doubt.rest) is_open)) doubt.opened)
  | inr shut ↦ inl (record { gate = doubt.gate; rest = doubt.rest; is = doubt.is; closed = shut })
]

-- closing the first gate of a list that is not empty
pub restart_doubt : (records : List (List ℕ)) (old new : List ℕ) → length (spelled records) ≢ 0 → Spells records old → Torn 0 1 old new → InDoubt [] records new
restart_doubt [] old new some spells torn = absurd (some refl)
restart_doubt (body ∷ bodies) old new some spells torn =
    let rest = length_bytes (length body) ++ (body ++ spelled bodies) ++ spells.gate ∷ spells.rest in
    let is : old ≡ open_gate ∷ rest = spells.is in
    record {
      gate = get_or new 0 0;
      rest = rest;
      is = torn_gate [] rest open_gate 0 refl new (subst (λ (f : List ℕ). Torn 0 1 f new) is torn);
      opened = subst (Spells (body ∷ bodies)) is spells;
    }

-- a closed gate that is written at the first place
pub emptied : (old new : List ℕ) → Holds 0 (0 ∷ []) old new → Spells [] new
emptied old new holds = record { gate = 0; rest = drop (0 + 1) old; is = holds; closed = closed_gate }

-- a write of one byte to a file of no more than that leaves no more
pub short_stays : (old new : List ℕ) → IsShort old → Torn 0 1 old new → IsShort new
short_stays old new short torn = omega (arith, torn.no_longer)

pub has_list : (limit : ℕ) (records : List (List ℕ)) (file : List ℕ) → AreBodies records → length (spelled records) < limit → Spells records file → HasList limit file records
has_list limit records file bodies within spells = inr (record { spells = spells; bodies = bodies; within = within })

-- one record of a row
spelled-at : (front rest : List (List ℕ)) (body : List ℕ) → spelled (front ++ body ∷ rest) ≡ spelled front ++ open_gate ∷ (length_bytes (length body) ++ (body ++ spelled rest))
spelled-at front rest body = spelled-append front (body ∷ rest)

pub length-spelled-at : (front rest : List (List ℕ)) (body : List ℕ) → length (spelled (front ++ body ∷ rest)) ≡ length (spelled front) + 5 + length body + length (spelled rest)
length-spelled-at front rest body =
    omega (arith, ap (length {A = ℕ}) (spelled-at front rest body), length-append (spelled front) (open_gate ∷ (length_bytes (length body) ++ (body ++ spelled rest))), length-append (length_bytes (length body)) (body ++ spelled rest), length-length_bytes (length body), length-append body (spelled rest))

-- the four bytes behind its gate
pub length_at : (front rest : List (List ℕ)) (body behind bytes : List ℕ) (at : ℕ) → bytes ≡ spelled (front ++ body ∷ rest) ++ behind → at ≡ length (spelled front) → slice_range bytes (at + 1) (at + 1 + 4) ≡ length_bytes (length body)
length_at front rest body behind bytes at is place =
    let gate = spelled front ++ open_gate ∷ [] in
    let tail = (body ++ spelled rest) ++ behind in
    let whole : bytes ≡ gate ++ (length_bytes (length body) ++ tail) =
    is
    ∙ ap (λ (l : List ℕ). l ++ behind) (spelled-at front rest body)
    ∙ append_assoc (spelled front) (open_gate ∷ (length_bytes (length body) ++ (body ++ spelled rest))) behind
    ∙ ap (λ (l : List ℕ). spelled front ++ open_gate ∷ l) (append_assoc (length_bytes (length body)) (body ++ spelled rest) behind)
    ∙ sym (append_assoc (spelled front) (open_gate ∷ []) (length_bytes (length body) ++ tail)) in
    let four : at + 1 + 4 - (at + 1) ≡ 4 = omega arith in
    ap (λ (n : ℕ). take n (drop (at + 1) bytes)) four
    ∙ ap (λ (l : List ℕ). take 4 (drop (at + 1) l)) whole
    ∙ ap (λ (l : List ℕ). take 4 l) (drop_at gate (length_bytes (length body) ++ tail) (at + 1) (omega (arith, place, length-append (spelled front) (open_gate ∷ []))))
    ∙ take_at (length_bytes (length body)) tail 4 (length-length_bytes (length body))
