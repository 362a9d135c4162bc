-- CIDs as fields of a body.
use Rattle.std.proofs.Common.{◌≡◌, ◌≤◌, ◌<◌, ℕ, false, cond, List, ◌++◌, length, take, drop, Result, Ok, Err, refl, sym, ap, ◌∙◌, arith}
use Rattle.std.specs.Prelude.{◌==◌}
use Rattle.std.proofs.lemmas.Bool.{eqb-false, ne_eqb}
use Rattle.std.proofs.lemmas.List.{length-take-le, take-append-drop, take_at, drop_at}
use Rattle.std.proofs.lemmas.List.Elements.{All-take, All-from_get_or}
use Rattle.ss_cid.specs.Cid.{IsCid, cid_len, hash_of}
use Rattle.ss_cid.specs.Cid as cid
use Rattle.ss_cid.specs.declared.fault.CidFault.{CidFault}
use Rattle.ss_cid.specs.declared.fault.CidFault.TheVariants.{Short, LongVarint, NotV1, TooLong, BadText}
use Rattle.ss_cid.specs.Steps.{◌>>=◌}
use Rattle.ss_cid.proofs.Chains.{bind-Ok, guard-Ok, Ok-both}
use Rattle.ss_cid.proofs.Grammar.{head-from_cid_len, cid_len-take, cid_len-append}
use Rattle.ss_records.specs.Record.{IsStored}
use Rattle.ss_records.specs.Fields.{cid_at, cid_taken, stored_cid_at}
use Rattle.ss_records.proofs.Parts.{IsBytes, IsBytes-drop, Takes, IsField}

-- a fault of a step that cannot fail behind another is the other's
bind-Err : {A B E : Type 0} (r : Result A E) (f : A → B) (e : E) → (r >>= λ x. Ok (f x)) ≡ Err e → r ≡ Err e
bind-Err (Ok x) f e h = absurd cc
bind-Err (Err d) f e h = cc

-- a CID is no longer than the bytes that begin with it
cid_len-le : (bytes : List ℕ) (n : ℕ) → cid_len bytes ≡ Ok n → n ≤ length bytes
cid_len-le bytes n h = let head = head-from_cid_len bytes n h in omega (arith, head.1.within, head.2)

-- a CID that was parsed is the field
pub cid_at-Ok : (bytes c : List ℕ) (n : ℕ) → cid.cid_at bytes ≡ Ok (c, n) → (cid_at bytes ≡ Ok (c, drop (length c) bytes)) × (length c ≤ length bytes)
unfolding cid_at cid.cid_at
cid_at-Ok bytes c n h =
    let len = bind-Ok (cid_len bytes) (λ k. Ok (take k bytes, k)) (c, n) h in
    let fits : len.0 ≤ length bytes = cid_len-le bytes len.0 len.1 in
    let front : take len.0 bytes ≡ c = (Ok-both len.2).0 in
    let size : length c ≡ len.0 = ap length (sym front) ∙ length-take-le len.0 bytes fits in
    (rw (len.1, front, size) refl, omega arith)

-- a fault of the CID is the field's
pub cid_at-Err : (bytes : List ℕ) (e : CidFault) → cid.cid_at bytes ≡ Err e → cid_at bytes ≡ cid_taken bytes (Err e)
unfolding cid_at cid.cid_at
cid_at-Err bytes e h = ap (cid_taken bytes) (bind-Err (cid_len bytes) (λ k. (take k bytes, k)) e h)

-- a CID's text is the CID
abbrev pub itself : List ℕ → List ℕ
itself c = c

cid_takes : (bytes c rest : List ℕ) → IsBytes bytes → cid_at bytes ≡ Ok (c, rest) → Takes bytes c rest × IsCid c
unfolding cid_at
cid_takes bytes c rest small h = taken (cid_len bytes) refl h where
  taken : (len : Result ℕ CidFault) → cid_len bytes ≡ len → cid_taken bytes len ≡ Ok (c, rest) → Takes bytes c rest × IsCid c
  taken (Ok n) e h =
      let both = Ok-both h in
      let is : IsCid (take n bytes) = record {
        whole = cid_len-take bytes n e;
        bytes = All-take (λ b. b < 256) n bytes (All-from_get_or (λ b. b < 256) bytes 0 (λ i _. small i));
      } in
      (record { parts = rw (← both.0, ← both.1) (sym (take-append-drop n bytes)); rest_bytes = rw (← both.1) (IsBytes-drop n bytes small) }, rw (← both.0) is)
  taken (Err (Short at)) e h = absurd cc
  taken (Err (LongVarint at)) e h = absurd cc
  taken (Err (NotV1 version)) e h = absurd cc
  taken (Err (TooLong len)) e h = absurd cc
  taken (Err (BadText at)) e h = absurd cc

cid_again : (c rest : List ℕ) → IsCid c → cid_at (c ++ rest) ≡ Ok (c, rest)
unfolding cid_at
cid_again c rest is =
    rw (cid_len-append c rest is.whole, take_at c rest (length c) refl, drop_at c rest (length c) refl) refl

-- a CID is a field
pub cid_field : IsField itself IsCid cid_at
cid_field = record { takes = cid_takes; again = cid_again }

-- a CID of a block that is stored
abbrev pub IsStoredCid : List ℕ → Type 0
IsStoredCid c = IsCid c × IsStored c

stored_takes : (bytes c rest : List ℕ) → IsBytes bytes → stored_cid_at bytes ≡ Ok (c, rest) → Takes bytes c rest × IsStoredCid c
unfolding stored_cid_at
stored_takes bytes c rest small h =
    let cid = bind-Ok (cid_at bytes) (λ x. cond (hash_of x.0 == 0) (Err (length bytes)) (Ok x)) (c, rest) h in
    let tested = guard-Ok (hash_of cid.0.0 == 0) (length bytes) (Ok cid.0) (c, rest) cid.2 in
    let same : cid.0.0 ≡ c = (Ok-both tested.1).0 in
    let taken = cid_takes bytes c rest small (cid.1 ∙ tested.1) in
    (taken.0, (taken.1, eqb-false (hash_of c) 0 (sym (ap (λ x. hash_of x == 0) same) ∙ tested.0)))

stored_again : (c rest : List ℕ) → IsStoredCid c → stored_cid_at (c ++ rest) ≡ Ok (c, rest)
unfolding stored_cid_at
stored_again c rest is =
    let other : (hash_of c == 0) ≡ false = ne_eqb (hash_of c) 0 is.1 in
    rw (cid_again c rest is.0, other) refl

-- and so is one that is not an identity CID
pub stored_cid_field : IsField itself IsStoredCid stored_cid_at
stored_cid_field = record { takes = stored_takes; again = stored_again }
