-- The two laws of records: what is read is a spelling, and what is spelled is read.
use Rattle.std.proofs.Common.{◌≡◌, ℕ, suc, Bool, true, false, cond, List, [], ◌∷◌, length, Result, Ok, Err, refl, ap, arith}
use Rattle.std.specs.Prelude.{◌==◌}
use Rattle.std.proofs.lemmas.Bool.{eqb-true}
use Rattle.ss_records.specs.declared.record.Record.{Record}
use Rattle.ss_records.specs.declared.record.Record.TheVariants.{Config, Generation, Put, Dropped, Head, Base, Start, Cold, Sealed, Copied, Purged}
use Rattle.ss_records.specs.Record.{spelling, Fits, IsValue}
use Rattle.ss_records.specs.Fields.{record_of, read_record, placed, Answers}
use Rattle.std.specs.Prelude.{IfOk}
use Rattle.ss_records.specs.declared.fault.RecordFault.{RecordFault}
use Rattle.ss_records.proofs.Parts.{IsBytes}
use Rattle.ss_records.proofs.Spelled.{IsSpelled, config_takes, config_again, number_takes, number_again, base_takes, base_again, stored_takes, stored_again, put_takes, put_again, head_takes, head_again, start_takes, start_again}

-- what follows from a choice by the kind
by_kind : (kind k : ℕ) (mine other : Result Record ℕ) (r : Record) → cond (kind == k) mine other ≡ Ok r → (Q : Type 0)
    → (kind ≡ k → mine ≡ Ok r → Q) → (other ≡ Ok r → Q) → Q
by_kind kind k mine other r h Q here there = chosen (kind == k) refl h where
  chosen : (b : Bool) → (kind == k) ≡ b → cond b mine other ≡ Ok r → Q
  chosen true e h = here (eqb-true kind k e) h
  chosen false e h = there h

IsBytes-rest : (b : ℕ) (bytes : List ℕ) → IsBytes (b ∷ bytes) → IsBytes bytes
IsBytes-rest b bytes h i = h (suc i)

-- what is read is a spelling
pub record_takes : (body : List ℕ) (r : Record) → IsBytes body → record_of body ≡ Ok r → (body ≡ spelling r) × IsValue r × Fits r
unfolding record_of spelling
record_takes [] r small h = absurd cc
record_takes (kind ∷ fields) r small h =
    let rest : IsBytes fields = IsBytes-rest kind fields small in
    let same : (k : ℕ) → kind ≡ k → IsSpelled k fields r → IsSpelled kind fields r = λ k e is. rw e is in
    by_kind kind 0x01 _ _ r h _ (λ e h. same 0x01 e (config_takes fields r rest h)) (λ h.
    by_kind kind 0x02 _ _ r h _ (λ e h. same 0x02 e (number_takes 0x02 1 Generation fields r rest h (λ n low fits. (refl, fits, low)))) (λ h.
    by_kind kind 0x03 _ _ r h _ (λ e h. same 0x03 e (put_takes fields r rest h)) (λ h.
    by_kind kind 0x04 _ _ r h _ (λ e h. same 0x04 e (stored_takes 0x04 Dropped fields r rest h (λ cids are count stored. (refl, are, (count, stored))))) (λ h.
    by_kind kind 0x05 _ _ r h _ (λ e h. same 0x05 e (head_takes fields r rest h)) (λ h.
    by_kind kind 0x06 _ _ r h _ (λ e h. same 0x06 e (base_takes fields r rest h)) (λ h.
    by_kind kind 0x11 _ _ r h _ (λ e h. same 0x11 e (start_takes fields r rest h)) (λ h.
    by_kind kind 0x12 _ _ r h _ (λ e h. same 0x12 e (stored_takes 0x12 Cold fields r rest h (λ cids are count stored. (refl, are, (count, stored))))) (λ h.
    by_kind kind 0x13 _ _ r h _ (λ e h. same 0x13 e (number_takes 0x13 0 Sealed fields r rest h (λ n low fits. (refl, fits, tt)))) (λ h.
    by_kind kind 0x14 _ _ r h _ (λ e h. same 0x14 e (number_takes 0x14 0 Copied fields r rest h (λ n low fits. (refl, fits, tt)))) (λ h.
    by_kind kind 0x15 _ _ r h _ (λ e h. same 0x15 e (number_takes 0x15 0 Purged fields r rest h (λ n low fits. (refl, fits, tt)))) (λ h.
    absurd cc)))))))))))

-- what is spelled is read
pub record_again : (r : Record) → IsValue r → Fits r → record_of (spelling r) ≡ Ok r
unfolding record_of spelling
record_again (Config c) is fits = config_again c fits
record_again (Generation n) is fits = number_again 1 n Generation fits is
record_again (Put blocks) is fits = put_again blocks is fits.0 fits.1
record_again (Dropped cids) is fits = stored_again Dropped cids is fits.0 fits.1
record_again (Head height cids) is fits = head_again height cids is fits.0 fits.1
record_again (Base base ended) is fits = base_again base ended fits is
record_again (Start edge cids) is fits = start_again edge cids is.0 is.1 fits
record_again (Cold cids) is fits = stored_again Cold cids is fits.0 fits.1
record_again (Sealed total) is fits = number_again 0 total Sealed (omega arith) is
record_again (Copied up_to) is fits = number_again 0 up_to Copied (omega arith) is
record_again (Purged up_to) is fits = number_again 0 up_to Purged (omega arith) is

-- the same for the reading that says the place of a fault
pub read_takes : (body : List ℕ) (r : Record) → IsBytes body → read_record body ≡ Ok r → (body ≡ spelling r) × IsValue r × Fits r
unfolding read_record
read_takes body r small h = record_takes body r small (unplaced (record_of body) h) where
  unplaced : (read : Result Record ℕ) → placed (length body) read ≡ Ok r → read ≡ Ok r
  unplaced (Ok x) h = h
  unplaced (Err left) h = absurd cc

pub read_again : (r : Record) → IsValue r → Fits r → read_record (spelling r) ≡ Ok r
unfolding read_record
read_again r is fits = ap (placed (length (spelling r))) (record_again r is fits)

pub is_found : (body : List ℕ) (result : Result Record RecordFault) → IsBytes body → Answers result (read_record body)
    → IfOk result (λ r. (body ≡ spelling r) × IsValue r × Fits r)
is_found body (Ok r) small h = read_takes body r small h
is_found body (Err e) small h = tt
