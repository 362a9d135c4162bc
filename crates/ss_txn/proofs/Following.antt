-- The links of a block that was fetched, or need not be.
use Rattle.std.proofs.Common.{◌≡◌, ℕ, Bool, true, false, eqb, List, [], Contains, Option, Some, refl, sym, subst, ◌∙◌}
use Rattle.std.specs.Prelude.{◌||◌}
use Rattle.std.proofs.lemmas.Option.{same_Some}
use Rattle.ss_cid.specs.Cid.{codec_of}
use Rattle.ss_cid.specs.Maps.{Kept}
use Rattle.ss_chain.specs.Fetch.{fetched, is_identity, is_known, IsFetched}
use Rattle.ss_chain.specs.declared.fetched.Fetched.TheVariants.{Found}
use Rattle.ss_chain.specs.HeaderReading.{header_of}
use Rattle.ss_chain.specs.Header.{links_in}
use Rattle.ss_chain.specs.Follows.{followed}
use Rattle.ss_txn.specs.Marked.{AreFollowed}
use Rattle.ss_txn.proofs.Paths.{none-Contains}

followed-nothing : (edge : ℕ) (cid block : List ℕ) → eqb (codec_of cid) 0x71 ≡ false → followed edge cid block ≡ []
unfolding followed header_of links_in
followed-nothing edge cid block is = rw is refl

module _ (edge : ℕ) (kept : Kept) (cid : List ℕ) where
  -- a block of another codec than dag-cbor has none
  pub without_links : eqb (codec_of cid) 0x71 ≡ false → AreFollowed edge kept cid []
  without_links is to = (
    λ none. absurd (none-Contains to none),
    λ leads. absurd (none-Contains to (subst (λ (links : List (List ℕ)). Contains links to) (followed-nothing edge cid leads.block is) leads.follows)),
  )

  fetched-links : (block : List ℕ) → fetched kept cid ≡ Some block → AreFollowed edge kept cid (followed edge cid block)
  fetched-links block is to = (
    λ at. record { block = block; is_fetched = is; follows = at },
    λ leads. subst (λ (b : List ℕ). Contains (followed edge cid b) to) (same_Some _ _ (sym leads.is_fetched ∙ is)) leads.follows,
  )

  -- a block that a fetch found has those that are followed
  pub found_links : (told : Option Kept) (block : List ℕ) → IsFetched told cid (Found block) → told ≡ Some kept → AreFollowed edge kept cid (followed edge cid block)
  found_links told block found is = fetched-links block (subst (λ (t : Option Kept). IsFetched t cid (Found block)) is found)

or-true : (a b : Bool) → b ≡ true → (a || b) ≡ true
or-true true b h = refl
or-true false b h = h

-- what has a row is known
pub known_row : (holds : List ℕ → Bool) (cid : List ℕ) → holds cid ≡ true → is_known holds cid ≡ true
known_row holds cid is = or-true (is_identity cid) (holds cid) is
