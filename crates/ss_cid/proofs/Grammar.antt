-- CIDs read and written.
use Rattle.std.proofs.Common.{◌≡◌, ℕ, ◌+◌, ◌<◌, ◌≤◌, ◌^◌, false, eqb, ltb, List, [], ◌++◌, length, take, get_or, All, Ok, refl, ap, ap₂, sym, ◌∙◌, arith}
use Rattle.ss_cid.specs.Varint.{varint, varint_at}
use Rattle.ss_cid.specs.Cid.{cid_bytes, version_end, digest_end, cid_head, cid_len, hash_of, part_of, IsCid}
use Rattle.ss_cid.specs.declared.fault.CidFault.TheVariants.{Short, NotV1, TooLong}
use Rattle.ss_cid.specs.declared.head.Head.{Head}
use Rattle.ss_cid.proofs.Chains.{bind-Ok, guard-Ok, chosen-Ok, Ok-same}
use Rattle.std.proofs.lemmas.List.Elements.{All-append, All-take, All-from_get_or}
use Rattle.ss_cid.proofs.Groups.{varint-Stands, varint-bytes}
use Rattle.ss_cid.proofs.Varints.{Stands-from_varint_at, Stands-varint_at, Stands-front}
use Rattle.std.proofs.lemmas.Bool.{eqb-true, ltb-false, le-ltb}
use Rattle.std.proofs.lemmas.List.{take-take, take-append-le, length-take, length-take-le, length-append, append_assoc}

-- what stands where in the CID that some bytes begin with
pub record Parts (bytes : List ℕ) (head : Head) : Type 0 where
  pub codec_at : ℕ
  pub hash_at : ℕ
  pub len_at : ℕ
  pub len : ℕ
  pub version : varint_at bytes 0 ≡ Ok (1, codec_at)
  pub codec : varint_at bytes codec_at ≡ Ok (head.codec, hash_at)
  pub hash : varint_at bytes hash_at ≡ Ok (head.hash, len_at)
  pub digest : varint_at bytes len_at ≡ Ok (len, head.digest_at)
  pub end_is : head.digest_at + len ≡ head.end
  pub short : head.end ≤ 72
  pub within : head.end ≤ length bytes

version_end-Ok : (bytes : List ℕ) (start : ℕ) → version_end bytes ≡ Ok start → varint_at bytes 0 ≡ Ok (1, start)
unfolding version_end
version_end-Ok bytes start h =
    let version = bind-Ok (varint_at bytes 0) _ start h in
    let one = chosen-Ok (eqb version.0.0 1) (NotV1 version.0.0) (Ok version.0.1) start version.2 in
    let number : version.0.0 ≡ 1 = eqb-true _ _ one.0 in
    version.1 ∙ ap₂ (λ m n. Ok (m, n)) number (Ok-same one.1)

digest_end-Ok : (bytes : List ℕ) (len at end : ℕ) → digest_end bytes len at ≡ Ok end → (at + len ≡ end) × (end ≤ 72) × (end ≤ length bytes)
unfolding digest_end
digest_end-Ok bytes len at end h =
    let short = guard-Ok (ltb 72 (at + len)) (TooLong len) _ end h in
    let within = guard-Ok (ltb (length bytes) (at + len)) (Short (length bytes)) _ end short.1 in
    let is : at + len ≡ end = Ok-same within.1 in
    (is, omega (arith, ltb-false _ _ short.0), omega (arith, ltb-false _ _ within.0))

pub Parts-from_cid_head : (bytes : List ℕ) (head : Head) → cid_head bytes ≡ Ok head → Parts bytes head
unfolding cid_head
Parts-from_cid_head bytes head h =
    let start = bind-Ok (version_end bytes) _ head h in
    let codec = bind-Ok (varint_at bytes start.0) _ head start.2 in
    let hash = bind-Ok (varint_at bytes codec.0.1) _ head codec.2 in
    let len = bind-Ok (varint_at bytes hash.0.1) _ head hash.2 in
    let end = bind-Ok (digest_end bytes len.0.0 len.0.1) _ head len.2 in
    parts start.0 codec.0 hash.0 len.0 end.0 start.1 codec.1 hash.1 len.1 end.1 (Ok-same end.2) where
      parts : (start : ℕ) (codec hash len : ℕ × ℕ) (end : ℕ) → version_end bytes ≡ Ok start → varint_at bytes start ≡ Ok codec → varint_at bytes codec.1 ≡ Ok hash
          → varint_at bytes hash.1 ≡ Ok len → digest_end bytes len.0 len.1 ≡ Ok end
          → ◌≡◌ {A = Head} (record { codec = codec.0; hash = hash.0; digest_at = len.1; end = end }) head → Parts bytes head
      parts start codec hash len end v c m l e same =
          let codec_is : codec.0 ≡ head.codec = ap (λ h. h.codec) same in
          let hash_is : hash.0 ≡ head.hash = ap (λ h. h.hash) same in
          let at_is : len.1 ≡ head.digest_at = ap (λ h. h.digest_at) same in
          let end_is : end ≡ head.end = ap (λ h. h.end) same in
          let fits = digest_end-Ok bytes len.0 len.1 end e in
          record {
            codec_at = start;
            hash_at = codec.1;
            len_at = hash.1;
            len = len.0;
            version = version_end-Ok bytes start v;
            codec = c ∙ ap (λ m. Ok (m, codec.1)) codec_is;
            hash = m ∙ ap (λ m. Ok (m, hash.1)) hash_is;
            digest = l ∙ ap (λ m. Ok (len.0, m)) at_is;
            end_is = omega (arith, fits.0);
            short = omega (arith, fits.1);
            within = omega (arith, fits.2);
          }

pub cid_head-from_Parts : (bytes : List ℕ) (head : Head) → Parts bytes head → cid_head bytes ≡ Ok head
unfolding cid_head version_end digest_end
cid_head-from_Parts bytes head p =
    let short : ltb 72 (head.digest_at + p.len) ≡ false = le-ltb _ _ (omega (arith, p.end_is, p.short)) in
    let within : ltb (length bytes) (head.digest_at + p.len) ≡ false = le-ltb _ _ (omega (arith, p.end_is, p.within)) in
    rw (p.version, p.codec, p.hash, p.digest, short, within, p.end_is) refl

-- only the bytes of the CID itself count
pub Parts-front : (bytes other : List ℕ) (head : Head) → Parts bytes head → take head.end bytes ≡ take head.end other → Parts other head
Parts-front bytes other head p same =
    let version = Stands-from_varint_at bytes 0 1 p.codec_at p.version in
    let codec = Stands-from_varint_at bytes p.codec_at head.codec p.hash_at p.codec in
    let hash = Stands-from_varint_at bytes p.hash_at head.hash p.len_at p.hash in
    let digest = Stands-from_varint_at bytes p.len_at p.len head.digest_at p.digest in
    let fronts : (n : ℕ) → n ≤ head.end → take n bytes ≡ take n other
    = λ n less. sym (take-take n head.end bytes less) ∙ ap (take n) same ∙ take-take n head.end other less in
    let long : length (take head.end bytes) ≡ head.end = length-take-le head.end bytes p.within in
    let lengths : length (take head.end bytes) ≡ length (take head.end other) = ap length same in
    record {
      codec_at = p.codec_at;
      hash_at = p.hash_at;
      len_at = p.len_at;
      len = p.len;
      version = Stands-varint_at _ _ _ _ (Stands-front bytes other 0 1 p.codec_at version (fronts p.codec_at (omega (arith, codec.end_is, hash.end_is, digest.end_is, p.end_is))));
      codec = Stands-varint_at _ _ _ _ (Stands-front bytes other p.codec_at head.codec p.hash_at codec (fronts p.hash_at (omega (arith, hash.end_is, digest.end_is, p.end_is))));
      hash = Stands-varint_at _ _ _ _ (Stands-front bytes other p.hash_at head.hash p.len_at hash (fronts p.len_at (omega (arith, digest.end_is, p.end_is))));
      digest = Stands-varint_at _ _ _ _ (Stands-front bytes other p.len_at p.len head.digest_at digest (fronts head.digest_at (omega (arith, p.end_is))));
      end_is = p.end_is;
      short = p.short;
      within = omega (arith, length-take head.end other);
    }

-- four varints have four bytes
pub Parts-bounds : (bytes : List ℕ) (head : Head) → Parts bytes head → (4 ≤ head.digest_at) × (head.digest_at ≤ head.end)
Parts-bounds bytes head p =
    let version = Stands-from_varint_at bytes 0 1 p.codec_at p.version in
    let codec = Stands-from_varint_at bytes p.codec_at head.codec p.hash_at p.codec in
    let hash = Stands-from_varint_at bytes p.hash_at head.hash p.len_at p.hash in
    let digest = Stands-from_varint_at bytes p.len_at p.len head.digest_at p.digest in
    (omega (arith, version.end_is, codec.end_is, hash.end_is, digest.end_is), omega (arith, p.end_is))

-- ---- the length of a CID

pub head-from_cid_len : (bytes : List ℕ) (n : ℕ) → cid_len bytes ≡ Ok n → (head : Head) × Parts bytes head × (head.end ≡ n)
unfolding cid_len
head-from_cid_len bytes n h =
    let head = bind-Ok (cid_head bytes) _ n h in
    (head.0, Parts-from_cid_head bytes head.0 head.1, Ok-same head.2)

pub cid_len-from_Parts : (bytes : List ℕ) (head : Head) → Parts bytes head → cid_len bytes ≡ Ok head.end
unfolding cid_len
cid_len-from_Parts bytes head p = rw (cid_head-from_Parts bytes head p) refl

-- the CID that some bytes begin with is one
pub cid_len-take : (bytes : List ℕ) (n : ℕ) → cid_len bytes ≡ Ok n → cid_len (take n bytes) ≡ Ok (length (take n bytes))
cid_len-take bytes n h =
    let found = head-from_cid_len bytes n h in
    let head = found.0 in
    let same : take head.end bytes ≡ take head.end (take n bytes) = sym (take-take head.end n bytes (omega (arith, found.2))) in
    let len : length (take n bytes) ≡ n = length-take-le n bytes (omega (arith, found.1.within, found.2)) in
    cid_len-from_Parts (take n bytes) head (Parts-front bytes (take n bytes) head found.1 same) ∙ ap Ok (found.2 ∙ sym len)

-- a CID is read, whatever follows it
pub cid_len-append : (c rest : List ℕ) → cid_len c ≡ Ok (length c) → cid_len (c ++ rest) ≡ Ok (length c)
cid_len-append c rest h =
    let found = head-from_cid_len c (length c) h in
    let head = found.0 in
    let same : take head.end c ≡ take head.end (c ++ rest) = sym (take-append-le head.end c rest (omega (arith, found.2))) in
    cid_len-from_Parts (c ++ rest) head (Parts-front c (c ++ rest) head found.1 same) ∙ ap Ok found.2

pub IsCid-length : (c : List ℕ) → IsCid c → (4 ≤ length c) × (length c ≤ 72)
IsCid-length c is =
    let found = head-from_cid_len c (length c) is.whole in
    let bounds = Parts-bounds c found.0 found.1 in
    (omega (arith, bounds.0, bounds.1, found.2), omega (arith, found.1.short, found.2))

-- a CID has a head
pub IsCid-head : (c : List ℕ) → IsCid c → (head : Head) × (cid_head c ≡ Ok head) × (head.end ≡ length c) × (head.digest_at ≤ length c)
IsCid-head c is =
    let found = head-from_cid_len c (length c) is.whole in
    let bounds = Parts-bounds c found.0 found.1 in
    (found.0, cid_head-from_Parts c found.0 found.1, found.2, omega (arith, bounds.1, found.2))

-- the front that is a CID
pub IsCid-take : (bytes : List ℕ) (head : Head) → ((j : ℕ) → get_or bytes j 0 < 256) → cid_head bytes ≡ Ok head → IsCid (take head.end bytes)
IsCid-take bytes head small h =
    let len = cid_len-from_Parts bytes head (Parts-from_cid_head bytes head h) in
    record {
      whole = cid_len-take bytes head.end len;
      bytes = All-take (λ b. b < 256) head.end bytes (All-from_get_or (λ b. b < 256) bytes 0 (λ i _. small i));
    }

-- and its hash function
pub hash_of-take : (bytes : List ℕ) (head : Head) → cid_head bytes ≡ Ok head → hash_of (take head.end bytes) ≡ head.hash
unfolding hash_of
hash_of-take bytes head h =
    let same : take head.end bytes ≡ take head.end (take head.end bytes) = sym (take-take head.end head.end bytes (omega arith)) in
    ap (part_of (λ head. head.hash)) (cid_head-from_Parts (take head.end bytes) head (Parts-front bytes (take head.end bytes) head (Parts-from_cid_head bytes head h) same))

-- ---- a CID that is written

-- a varint is read where it was written
reads_varint : (bytes front rest : List ℕ) (n at end : ℕ) → n < 2 ^ 63 → bytes ≡ front ++ (varint n ++ rest) → at ≡ length front
    → end ≡ length front + length (varint n) → varint_at bytes at ≡ Ok (n, end)
reads_varint bytes front rest n at end small is at_is end_is =
    rw (is, at_is, end_is) (Stands-varint_at _ _ _ _ (varint-Stands front rest n small))

-- the head of a written CID
unfoldable pub head_of : ℕ → ℕ → List ℕ → Head
head_of codec hash digest = record {
  codec = codec;
  hash = hash;
  digest_at = length (varint 1 ++ (varint codec ++ (varint hash ++ varint (length digest))));
  end = length (cid_bytes codec hash digest);
}

module _ (codec hash : ℕ) (digest : List ℕ) (codec_fits : codec < 2 ^ 63) (hash_fits : hash < 2 ^ 63) (short : length (cid_bytes codec hash digest) ≤ 72) where
  len_fits : length digest < 2 ^ 63
  unfolding cid_bytes
  len_fits = omega (arith, simp length-append at short)

  -- the parts of a written CID stand where they were written
  pub Parts-cid_bytes : Parts (cid_bytes codec hash digest) (head_of codec hash digest)
  unfolding cid_bytes head_of
  Parts-cid_bytes =
      let bytes = cid_bytes codec hash digest in
      let one = varint 1 in
      let two = varint codec in
      let three = varint hash in
      let four = varint (length digest) in
      record {
        codec_at = length one;
        hash_at = length (one ++ two);
        len_at = length (one ++ (two ++ three));
        len = length digest;
        version = reads_varint bytes [] (two ++ (three ++ (four ++ digest))) 1 0 (length one) (omega arith) refl refl (omega arith);
        codec = reads_varint bytes one (three ++ (four ++ digest)) codec (length one) (length (one ++ two)) codec_fits refl refl (simp length-append refl);
        hash = reads_varint bytes (one ++ two) (four ++ digest) hash (length (one ++ two)) (length (one ++ (two ++ three))) hash_fits (simp append_assoc refl) refl (simp length-append (omega arith));
        digest = reads_varint bytes (one ++ (two ++ three)) digest (length digest) (length (one ++ (two ++ three))) (length (one ++ (two ++ (three ++ four)))) len_fits (simp append_assoc refl) refl (simp length-append (omega arith));
        end_is = simp length-append (omega arith);
        short = short;
        within = omega arith;
      }

  pub cid_head-cid_bytes : cid_head (cid_bytes codec hash digest) ≡ Ok (head_of codec hash digest)
  cid_head-cid_bytes = cid_head-from_Parts (cid_bytes codec hash digest) (head_of codec hash digest) Parts-cid_bytes

  pub IsCid-cid_bytes : All (λ b. b < 256) digest → IsCid (cid_bytes codec hash digest)
  unfolding cid_bytes head_of
  IsCid-cid_bytes small =
      let P : ℕ → Type 0 = λ b. b < 256 in
      record {
        whole = cid_len-from_Parts (cid_bytes codec hash digest) (head_of codec hash digest) Parts-cid_bytes;
        bytes = All-append P _ _ (varint-bytes 1 (omega arith)) (All-append P _ _ (varint-bytes codec codec_fits)
            (All-append P _ _ (varint-bytes hash hash_fits) (All-append P _ _ (varint-bytes (length digest) len_fits) small)));
      }
