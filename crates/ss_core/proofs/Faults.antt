-- What a failed check of a block rules out.
use Rattle.std.proofs.Common.{◌≡◌, ◌≢◌, ◌↔◌, ℕ, List, Result, Err, true≢false, sym}
use Rattle.std.specs.Prelude.{IsOk}
use Rattle.ss_cid.specs.declared.cid.Parts.{Parts}
use Rattle.ss_hash.specs.declared.fault.HashFault.{HashFault}
use Rattle.ss_hash.specs.declared.fault.HashFault.TheVariants.{UnknownHash}
use Rattle.ss_hash.specs.Digest.{IsValid, IsUnknownHash}

abbrev failed : HashFault → Result Parts HashFault
failed fault = Err fault

-- the hash function is known where the check said something else
pub not_unknown : (c : List ℕ) (fault : HashFault) → ((code : ℕ) → UnknownHash code ≢ fault) → ((code : ℕ) → (failed fault ≡ failed (UnknownHash code)) ↔ IsUnknownHash c code) → (code : ℕ) → ¬ IsUnknownHash c code
not_unknown c fault other iff code is = other code (inside fault (UnknownHash code) ((iff code).1 is))
  where
    inside : (x y : HashFault) → failed x ≡ failed y → y ≡ x
    inside x y e = cc

-- and the bytes are not valid
pub not_valid : (c bytes : List ℕ) (fault : HashFault) → (IsOk (failed fault) ↔ IsValid c bytes) → ¬ IsValid c bytes
not_valid c bytes fault iff is = absurd (true≢false (sym (iff.1 is)))
