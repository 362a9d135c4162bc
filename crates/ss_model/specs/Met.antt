-- What a search for reached CIDs has met, and which of these wait to be read.
use Rattle.std.specs.{Prelude.{◌≡◌, ◌⊎◌, ◌↔◌, ℕ, ◌+◌, Bool, true, List, [], ◌∷◌, ◌++◌, length, Contains}, Ordering.nat_cmp, Cmp.Lexicographic.slice_cmp, BTreeSet.contains}
use Rattle.ss_cid.specs.Maps.{Kept}
use Rattle.ss_chain.specs.Reach.{LeadsTo}
use Rattle.ss_model.specs.declared.met.Met.{Met}

-- the CID was met
abbrev pub was_met : Met → List ℕ → Bool
was_met met cid = contains (slice_cmp nat_cmp) met.cids cid

-- From one moment to a later one CIDs were met, and those wait; none was read.
pub record Grows (old new : Met) : Type 0 where
  pub stays : (cid : List ℕ) → was_met old cid ≡ true → was_met new cid ≡ true
  pub waits : (cid : List ℕ) → was_met new cid ≡ true → (was_met old cid ≡ true) ⊎ Contains new.waiting.items cid
  pub still : (cid : List ℕ) → Contains old.waiting.items cid → Contains new.waiting.items cid
  pub were_met : (cid : List ℕ) → Contains new.waiting.items cid → Contains old.waiting.items cid ⊎ (was_met new cid ≡ true)
  pub count : length new.waiting.items + length old.cids.keys ≡ length old.waiting.items + length new.cids.keys

-- These CIDs were met, and no others.
pub record Meets (cids : List (List ℕ)) (old new : Met) : Type 0 where
  pub grows : Grows old new
  pub all : (cid : List ℕ) → Contains cids cid → was_met new cid ≡ true
  pub only : (cid : List ℕ) → was_met new cid ≡ true → (was_met old cid ≡ true) ⊎ Contains cids cid

-- What the block of this CID is followed to was met, and no other CID.
pub record Reads (edge : ℕ) (kept : Kept) (cid : List ℕ) (old new : Met) : Type 0 where
  pub links : List (List ℕ)
  pub meets : Meets links old new
  pub followed : (to : List ℕ) → Contains links to ↔ LeadsTo edge kept cid to

-- The last of the CIDs that wait is taken.
pub record Takes (cid : List ℕ) (old new : Met) : Type 0 where
  pub waited : old.waiting.items ≡ new.waiting.items ++ cid ∷ []
  pub same : new.cids ≡ old.cids

-- nothing waits
abbrev pub IsDone : Met → Type 0
IsDone met = met.waiting.items ≡ []
