-- A block that may be stored has no fault.
use Rattle.std.proofs.Common.{◌≡◌, ℕ, List, Result, Ok, Err, sym, true≢false}
use Rattle.std.specs.Prelude.{IsOk}
use Rattle.ss_cbor.specs.Fault.{scanned}
use Rattle.ss_cbor.specs.declared.fault.CborKind.{CborKind}
use Rattle.ss_cid.specs.Cid.{hash_named, hash_of, digest_of}
use Rattle.ss_cid.specs.declared.codec.HashCode.{HashCode}
use Rattle.ss_cid.specs.declared.codec.HashCode.TheVariants as hash
use Rattle.ss_hash.specs.Digest.{IsDigest, MakesNoSuch}
use Rattle.ss_model.specs.Lawful.{IsSound, IsPairFault}
use Rattle.ss_model.specs.declared.call.PutReply.TheVariants as put

known_hash : (h : HashCode) (digest bytes : List ℕ) → IsDigest h digest bytes → MakesNoSuch h digest → ⊥
known_hash hash.Identity digest bytes is none = none
known_hash hash.Sha2x256 digest bytes is none = none is.0
known_hash hash.Blake2b256 digest bytes is none = none is.0
known_hash (hash.Other code) digest bytes is none = is

good_item : {A E : Type 0} (r : Result A E) (fault : E) → IsOk r → r ≡ Err fault → ⊥
good_item (Ok x) fault is bad = cc
good_item (Err e) fault is bad = true≢false (sym is)

module _ (p : List ℕ × List ℕ) (sound : IsSound p) where
  pub not_unknown : (at i : ℕ) → IsPairFault at p (put.UnknownHash i) → ⊥
  not_unknown at i b = known_hash (hash_named (hash_of p.0)) (digest_of p.0) p.1 sound.valid b.2.1.0

  pub not_mismatch : (at i : ℕ) → IsPairFault at p (put.Mismatch i) → ⊥
  not_mismatch at i b = b.3 sound.valid

  pub not_malformed : (at i : ℕ) (kind : CborKind) (place : ℕ) → IsPairFault at p (put.Malformed i kind place) → ⊥
  not_malformed at i kind place b = good_item (scanned p.1) b.4.0 (sound.item b.3) b.4.1
