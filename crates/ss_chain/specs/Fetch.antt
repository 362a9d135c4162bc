-- Fetching a block: an identity CID's is its digest, which needs no store; another's is what is kept for it.
use Rattle.std.specs.Prelude.{◌≡◌, ℕ, ◌==◌, ◌||◌, if◌then◌else◌, Bool, true, false, List, Option, Some, ⊤}
use Rattle.std.specs.FinMap as map
use Rattle.ss_cid.specs.{Cid.{hash_of, digest_of}, Maps.Kept}
use Rattle.ss_chain.specs.declared.fetched.Fetched.{Fetched}

unfoldable pub is_identity : List ℕ → Bool
is_identity cid = hash_of cid == 0

-- the block of a CID, if there is one
unfoldable pub fetched : Kept → List ℕ → Option (List ℕ)
fetched kept cid = if is_identity cid then Some (digest_of cid) else map.get kept cid

-- whether a CID has a block, where the set holds those of stored blocks
abbrev pub is_known : (List ℕ → Bool) → List ℕ → Bool
is_known holds cid = is_identity cid || holds cid

-- NotFound is answered exactly where the CID is not known
abbrev pub NotFoundUnless : Bool → Fetched → Type 0
NotFoundUnless known Fetched.NotFound = known ≡ false
NotFoundUnless known _ = known ≡ true

-- a block that was found is fetch's, where the map is told
abbrev pub IsFetched : Option Kept → List ℕ → Fetched → Type 0
IsFetched (Some kept) cid (Fetched.Found block) = fetched kept cid ≡ Some block
IsFetched _ cid _ = ⊤

-- a block that was found under an identity CID is its digest
abbrev pub IsDigest : List ℕ → Fetched → Type 0
IsDigest cid (Fetched.Found block) = is_identity cid ≡ true → block ≡ digest_of cid
IsDigest cid _ = ⊤

-- the answer of a fetch that failed
abbrev pub IsFault : Fetched → Type 0
IsFault fetched = fetched ≡ Fetched.Fault
