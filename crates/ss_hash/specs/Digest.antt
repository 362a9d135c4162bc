-- When a block is valid for its CID, after the multiformats specifications of CID and multihash, and why it is not.
use Rattle.std.specs.Prelude.{◌≡◌, ◌≢◌, ℕ, ◌+◌, List, length, take}
use Rattle.sha2.specs.Sha256.{sha256}
use Rattle.ss_cid.specs.{Cid.{hash_of, digest_of, hash_named}, declared.codec.HashCode.HashCode}
use Rattle.ss_hash.specs.{Blake2b.blake2b, declared.fault.HashFault.HashFault}

-- this hash function makes this digest of the bytes
abbrev pub IsDigest : HashCode → List ℕ → List ℕ → Type 0
IsDigest HashCode.Identity digest bytes = digest ≡ bytes
IsDigest HashCode.Sha2x256 digest bytes = (length digest ≡ 32) × (digest ≡ sha256 bytes)
IsDigest HashCode.Blake2b256 digest bytes = (length digest ≡ 32) × (digest ≡ blake2b 32 bytes)
IsDigest (HashCode.Other code) digest bytes = ⊥

-- the bytes are valid for the CID c
abbrev pub IsValid : List ℕ → List ℕ → Type 0
IsValid c bytes = IsDigest (hash_named (hash_of c)) (digest_of c) bytes

-- this hash function makes no digest of this length, or is none of the three
abbrev pub MakesNoSuch : HashCode → List ℕ → Type 0
MakesNoSuch HashCode.Identity digest = ⊥
MakesNoSuch HashCode.Sha2x256 digest = length digest ≢ 32
MakesNoSuch HashCode.Blake2b256 digest = length digest ≢ 32
MakesNoSuch (HashCode.Other code) digest = Unit {0}

-- the CID c has a hash function, by this number, that is not known for its digest
abbrev pub IsUnknownHash : List ℕ → ℕ → Type 0
IsUnknownHash c code = MakesNoSuch (hash_named (hash_of c)) (digest_of c) × (code ≡ hash_of c)

-- this hash function makes the digest `got` of the bytes, which is another
abbrev pub MakesOther : HashCode → List ℕ → List ℕ → List ℕ → Type 0
MakesOther HashCode.Identity digest bytes got = ⊥
MakesOther HashCode.Sha2x256 digest bytes got = (length digest ≡ 32) × (got ≡ sha256 bytes) × (digest ≢ got)
MakesOther HashCode.Blake2b256 digest bytes got = (length digest ≡ 32) × (got ≡ blake2b 32 bytes) × (digest ≢ got)
MakesOther (HashCode.Other code) digest bytes got = ⊥

-- the bytes have the digest `got` where the CID c has another
abbrev pub IsMismatch : List ℕ → List ℕ → List ℕ → Type 0
IsMismatch c bytes got = MakesOther (hash_named (hash_of c)) (digest_of c) bytes got

-- two lists are equal up to this place, and not beyond it: there they differ, or one of them ends
pub record PartAt (xs ys : List ℕ) (at : ℕ) : Type 0 where
  pub same : take at xs ≡ take at ys
  pub differ : take (at + 1) xs ≢ take (at + 1) ys

-- the digest of the identity CID c and the bytes differ first at this place
abbrev pub IsNotIdentity : List ℕ → List ℕ → ℕ → Type 0
IsNotIdentity c bytes at = (hash_named (hash_of c) ≡ HashCode.Identity) × PartAt (digest_of c) bytes at

-- the number of each fault, from 1, in the order of the variants; it is this project's own
abbrev pub number_of : HashFault → ℕ
number_of (HashFault.UnknownHash code) = 1
number_of (HashFault.Mismatch got) = 2
number_of (HashFault.NotIdentity at) = 3
