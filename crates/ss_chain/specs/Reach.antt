-- Which CIDs are reached from some roots: by paths on which each next CID is followed from the block of the one before.
use Rattle.std.specs.Prelude.{◌≡◌, ℕ, List, [], ◌∷◌, Contains, Some}
use Rattle.ss_cid.specs.Maps.{Kept}
use Rattle.ss_chain.specs.{Fetch.fetched, Follows.followed}

-- the block of one CID is followed to the other
pub record LeadsTo (edge : ℕ) (kept : Kept) (from to : List ℕ) : Type 0 where
  pub block : List ℕ
  pub is_fetched : fetched kept from ≡ Some block
  pub follows : Contains (followed edge from block) to

-- the path leads on from the first CID, over each of these, to the last
abbrev pub Walk : ℕ → Kept → List ℕ → List (List ℕ) → List ℕ → Type 0
Walk edge kept from [] last = from ≡ last
Walk edge kept from (next ∷ path) last = LeadsTo edge kept from next × Walk edge kept next path last

-- there is a path from a root; a root reaches itself
pub record Reach (edge : ℕ) (kept : Kept) (roots : List (List ℕ)) (cid : List ℕ) : Type 0 where
  pub root : List ℕ
  pub path : List (List ℕ)
  pub is_root : Contains roots root
  pub walk : Walk edge kept root path cid
