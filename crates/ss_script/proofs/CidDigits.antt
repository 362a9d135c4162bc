-- A CID by its digits: it has 72 bytes at the most.
use Rattle.std.proofs.Common.{◌≡◌, ℕ, ◌/◌, ◌<◌, ◌≤◌, List, length, take, None, Ok, Err, refl, arith}
use Rattle.std.specs.Prelude.{Result}
use Rattle.std.specs.Option.{option_and_then}
use Rattle.std.specs.Result.{result_ok}
use Rattle.hex.specs.Hex.{decode_of}
use Rattle.hex.specs.declared.error.FromHexError.{FromHexError}
use Rattle.hex.proofs.HexLemmas.{decode_of-ok}
use Rattle.ss_cid.specs.declared.fault.CidFault.{CidFault}
use Rattle.ss_cid.specs.Cid.{cid_at, cid_len}
use Rattle.ss_cid.specs.Steps.{◌>>=◌}
use Rattle.ss_cid.proofs.Grammar.{head-from_cid_len}
use Rattle.ss_script.specs.Fields.{whole_cid, cid_of_digits}

short : (bytes : List ℕ) (n : ℕ) → cid_len bytes ≡ Ok n → n ≤ 72
short bytes n is = let found = head-from_cid_len bytes n is in omega (arith, found.1.short, found.2)

-- more bytes are no CID
no_whole : (bytes : List ℕ) (len : Result ℕ CidFault) → ((n : ℕ) → len ≡ Ok n → n ≤ 72) → 72 < length bytes → whole_cid bytes (len >>= (λ n. Ok (take n bytes, n))) ≡ None
no_whole bytes (Ok n) short long = let less = short n refl in grind (arith, less, long)
no_whole bytes (Err e) short long = refl

too_long : (bytes : List ℕ) → 72 < length bytes → whole_cid bytes (cid_at bytes) ≡ None
unfolding cid_at
too_long bytes long = no_whole bytes (cid_len bytes) (short bytes) long

of_decoded : (decoded : Result (List ℕ) FromHexError) → ((bytes : List ℕ) → decoded ≡ Ok bytes → 72 < length bytes) → option_and_then (λ bytes. whole_cid bytes (cid_at bytes)) (result_ok decoded) ≡ None
of_decoded (Ok bytes) long = too_long bytes (long bytes refl)
of_decoded (Err e) long = refl

-- the digits of more bytes are no CID's
pub digits_too_long : (field : List ℕ) → 72 < length field / 2 → cid_of_digits field ≡ None
digits_too_long field long = of_decoded (decode_of field) (λ bytes is. let twice = (decode_of-ok field bytes is).2 in omega (arith, twice, long))
