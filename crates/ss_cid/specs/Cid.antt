-- CIDs of version 1, by the multiformats specifications of CID and multihash: varint 1, varint codec,
-- varint hash code, varint digest length, digest. That a CID has at most 72 bytes is this project's own.
use Rattle.std.specs.Prelude.{◌≡◌, ℕ, ◌+◌, ◌<◌, ◌==◌, nat_lt, if◌then◌else◌, List, ◌++◌, length, take, drop, All, Option, Some, None, Result, Ok, Err}
use Rattle.ss_cid.specs.{declared.fault.CidFault.CidFault, declared.head.Head.Head, Varint.{varint, varint_at}, Steps.{◌>>=◌}, declared.codec.Codec.Codec, declared.codec.HashCode.HashCode}

-- the bytes of the CID with this codec, hash code and digest
unfoldable pub cid_bytes : ℕ → ℕ → List ℕ → List ℕ
cid_bytes codec hash digest =
    varint 1 ++ (varint codec ++ (varint hash ++ (varint (length digest) ++ digest)))

-- the offset after the version, which has to be 1
unfoldable pub version_end : List ℕ → Result ℕ CidFault
version_end bytes = do
  version ← varint_at bytes 0
  if version.0 == 1 then Ok version.1 else Err (CidFault.NotV1 version.0)

-- the offset after a digest of so many bytes that begins at an offset, within 72 bytes and within the input
unfoldable pub digest_end : List ℕ → ℕ → ℕ → Result ℕ CidFault
digest_end bytes len at =
    if nat_lt 72 (at + len) then Err (CidFault.TooLong len)
    else if nat_lt (length bytes) (at + len) then Err (CidFault.Short (length bytes))
    else Ok (at + len)

-- the CID that some bytes begin with, by its parts, or the first fault from the left
unfoldable pub cid_head : List ℕ → Result Head CidFault
cid_head bytes = do
  start ← version_end bytes
  codec ← varint_at bytes start
  hash ← varint_at bytes codec.1
  len ← varint_at bytes hash.1
  end ← digest_end bytes len.0 len.1
  Ok (record { codec = codec.0; hash = hash.0; digest_at = len.1; end = end })

-- how many bytes the CID takes that some bytes begin with, or the first fault from the left
unfoldable pub cid_len : List ℕ → Result ℕ CidFault
cid_len bytes = do
  head ← cid_head bytes
  Ok head.end

-- the bytes are a CID: one that takes them all
pub record IsCid (c : List ℕ) : Type 0 where
  pub whole : cid_len c ≡ Ok (length c)
  pub bytes : All (λ b. b < 256) c

-- a part of a CID by what its head says; of bytes that are none, 0
abbrev pub part_of : (Head → ℕ) → Result Head CidFault → ℕ
part_of part (Ok head) = part head
part_of part (Err e) = 0

-- the codec's number
unfoldable pub codec_of : List ℕ → ℕ
codec_of c = part_of (λ head. head.codec) (cid_head c)

-- the hash function's number
unfoldable pub hash_of : List ℕ → ℕ
hash_of c = part_of (λ head. head.hash) (cid_head c)

-- the digest
unfoldable pub digest_of : List ℕ → List ℕ
digest_of c = drop (part_of (λ head. head.digest_at) (cid_head c)) c

-- the digest of a CID whose hash function is identity, which is the block itself
unfoldable pub identity_of : List ℕ → Option (List ℕ)
identity_of c = if hash_of c == 0 then Some (digest_of c) else None

-- the CID that some bytes begin with and how many bytes it takes, or the first fault from the left
unfoldable pub cid_at : List ℕ → Result (List ℕ × ℕ) CidFault
cid_at bytes = do
  len ← cid_len bytes
  Ok (take len bytes, len)

-- the CID of these parts, or that it would be too long
unfoldable pub cid_of : ℕ → ℕ → List ℕ → Result (List ℕ) CidFault
cid_of codec hash digest =
    if nat_lt 72 (length (cid_bytes codec hash digest)) then Err (CidFault.TooLong (length digest))
    else Ok (cid_bytes codec hash digest)

-- the number of each fault, from 1, in the order of the variants; it is this project's own
abbrev pub number_of : CidFault → ℕ
number_of (CidFault.Short at) = 1
number_of (CidFault.LongVarint at) = 2
number_of (CidFault.NotV1 version) = 3
number_of (CidFault.TooLong len) = 4
number_of (CidFault.BadText at) = 5

-- the codecs and hash functions that have a name here, by their numbers in the multicodec table
abbrev pub codec_named : ℕ → Codec
codec_named n =
    if n == 0x55 then Codec.Raw else if n == 0x70 then Codec.DagPb
    else if n == 0x71 then Codec.DagCbor else if n == 0xf101 then Codec.Unsealed
    else if n == 0xf102 then Codec.Sealed else Codec.Other n

abbrev pub hash_named : ℕ → HashCode
hash_named n =
    if n == 0x00 then HashCode.Identity else if n == 0x12 then HashCode.Sha2x256
    else if n == 0xb220 then HashCode.Blake2b256 else HashCode.Other n
