-- What is read is spelled so.
use Rattle.std.proofs.Common.{◌≡◌, ℕ, ◌+◌, ◌-◌, ◌<◌, ◌≤◌, ◌^◌, List, ◌++◌, length, take, drop, get_or, All, Ok, refl, ap, ap₂, sym, subst, inl, inr, ◌∙◌, arith}
use Rattle.std.proofs.lemmas.Bool.{cases_lt}
use Rattle.std.proofs.lemmas.List.{take-append-drop, take_at, drop_at, drop-drop, length-take-le, length-drop, append_assoc, get_or_past}
use Rattle.std.proofs.lemmas.List.Elements.{All-take, All-get_or}
use Rattle.std.proofs.Math.Nat.{pow-le-pow_right}
use Rattle.ss_cid.specs.Varint.{varint, varint_at}
use Rattle.ss_cid.specs.Cid.{cid_bytes, cid_len, IsCid, codec_of, hash_of, digest_of, cid_at}
use Rattle.ss_cid.proofs.Varints.{Stands-from_varint_at, groups_value_front-lt}
use Rattle.ss_cid.proofs.Groups.{Stands-varint}
use Rattle.ss_cid.proofs.Chains.{bind-Ok, Ok-both}
use Rattle.ss_cid.proofs.Grammar.{cid_len-take, cid_head-from_Parts, head-from_cid_len, cid_len-append, cid_head-cid_bytes, head_of}

-- ---- varints

pub varint_at-fits : (bytes : List ℕ) (at n end : ℕ) → varint_at bytes at ≡ Ok (n, end) → n < 2 ^ 63
varint_at-fits bytes at n end h =
    let s = Stands-from_varint_at bytes at n end h in
    let small = groups_value_front-lt bytes at (s.last + 1) (omega (arith, s.there)) in
    let few : s.last + 1 ≤ 9 = omega (arith, s.few) in
    let nine : 128 ^ (s.last + 1) ≤ 128 ^ 9 = pow-le-pow_right {n = 128} (omega arith) few in
    omega (arith, s.number_is)

bytes-get_or : (bytes : List ℕ) → All (λ b. b < 256) bytes → (j : ℕ) → get_or bytes j 0 < 256
bytes-get_or bytes small j = elim (cases_lt j (length bytes)) [
  | inl less ↦ All-get_or (λ b. b < 256) bytes j 0 less small
  | inr past ↦ rw (get_or_past bytes j 0 past) (omega arith)
]

-- what is read is the varint of its number, and stands before what follows
pub varint_at-spelled : (bytes : List ℕ) (at n end : ℕ) → All (λ b. b < 256) bytes → varint_at bytes at ≡ Ok (n, end)
    → drop at bytes ≡ varint n ++ drop end bytes
varint_at-spelled bytes at n end small h =
    let s = Stands-from_varint_at bytes at n end h in
    let spelled = Stands-varint bytes at n end (bytes-get_or bytes small) s in
    let behind : at + (end - at) ≡ end = omega (arith, s.end_is) in
    sym (take-append-drop (end - at) (drop at bytes))
    ∙ ap₂ (λ front rest. front ++ rest) spelled (drop-drop (end - at) at bytes ∙ ap (λ m. drop m bytes) behind)

-- ---- CIDs

-- a CID is spelled by its parts
pub IsCid-spelled : (c : List ℕ) → IsCid c → (codec_of c < 2 ^ 63) × (hash_of c < 2 ^ 63) × (c ≡ cid_bytes (codec_of c) (hash_of c) (digest_of c))
unfolding codec_of hash_of digest_of cid_bytes
IsCid-spelled c is =
    let found = head-from_cid_len c (length c) is.whole in
    let head = found.0 in
    let p = found.1 in
    let read = cid_head-from_Parts c head p in
    let version = varint_at-spelled c 0 1 p.codec_at is.bytes p.version in
    let codec = varint_at-spelled c p.codec_at head.codec p.hash_at is.bytes p.codec in
    let hash = varint_at-spelled c p.hash_at head.hash p.len_at is.bytes p.hash in
    let digest = varint_at-spelled c p.len_at p.len head.digest_at is.bytes p.digest in
    let len : p.len ≡ length (drop head.digest_at c) = omega (arith, length-drop head.digest_at c, p.end_is, found.2) in
    rw read (
      varint_at-fits c p.codec_at head.codec p.hash_at p.codec,
      varint_at-fits c p.hash_at head.hash p.len_at p.hash,
      version ∙ ap (λ rest. varint 1 ++ rest) (codec ∙ ap (λ rest. varint head.codec ++ rest) (hash ∙ ap (λ rest. varint head.hash ++ rest) (digest ∙ ap (λ n. varint n ++ drop head.digest_at c) len))),
    )

-- and its parts are those that it is spelled by
pub parts-cid_bytes : (codec hash : ℕ) (digest : List ℕ) → codec < 2 ^ 63 → hash < 2 ^ 63 → length (cid_bytes codec hash digest) ≤ 72
    → (codec_of (cid_bytes codec hash digest) ≡ codec) × (hash_of (cid_bytes codec hash digest) ≡ hash) × (digest_of (cid_bytes codec hash digest) ≡ digest)
unfolding codec_of hash_of digest_of head_of cid_bytes
parts-cid_bytes codec hash digest codec_fits hash_fits short =
    let read = cid_head-cid_bytes codec hash digest codec_fits hash_fits short in
    rw read (refl, refl, behind) where
      behind : drop (length (varint 1 ++ (varint codec ++ (varint hash ++ varint (length digest))))) (cid_bytes codec hash digest) ≡ digest
      behind =
          ap (drop (length (varint 1 ++ (varint codec ++ (varint hash ++ varint (length digest)))))) (simp append_assoc refl)
          ∙ drop_at (varint 1 ++ (varint codec ++ (varint hash ++ varint (length digest)))) digest _ refl

-- a CID is read again, whatever follows it
pub cid_at-append : (c rest : List ℕ) → IsCid c → cid_at (c ++ rest) ≡ Ok (c, length c)
unfolding cid_at
cid_at-append c rest is = rw (cid_len-append c rest is.whole) (ap (λ front. Ok (front, length c)) (take_at c rest (length c) refl))

-- what is read is a CID in front of what is left
pub cid_at-spelled : (bytes c : List ℕ) (n : ℕ) → All (λ b. b < 256) bytes → cid_at bytes ≡ Ok (c, n) → IsCid c × (n ≡ length c) × (bytes ≡ c ++ drop n bytes)
unfolding cid_at
cid_at-spelled bytes c n small h =
    let len = bind-Ok (cid_len bytes) _ (c, n) h in
    let both = Ok-both len.2 in
    let read : cid_len bytes ≡ Ok n = len.1 ∙ ap Ok both.1 in
    let front : take n bytes ≡ c = ap (λ m. take m bytes) (sym both.1) ∙ both.0 in
    let found = head-from_cid_len bytes n read in
    let is : IsCid (take n bytes) = record { whole = cid_len-take bytes n read; bytes = All-take (λ b. b < 256) n bytes small } in
    let long : length (take n bytes) ≡ n = length-take-le n bytes (omega (arith, found.1.within, found.2)) in
    (subst IsCid front is, sym long ∙ ap length front, sym (take-append-drop n bytes) ∙ ap (λ xs. xs ++ drop n bytes) front)
