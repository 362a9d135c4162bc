-- Whether a CID has a block in an ordered map, or is one itself.
use Rattle.std.proofs.Common.{◌≡◌, ℕ, true, List, Option, Some, None, is_some, sym, ap, ◌∙◌}
use Rattle.std.specs.Prelude.{◌||◌}
use Rattle.std.specs.Ordering.{nat_cmp}
use Rattle.std.specs.Cmp.Lexicographic.{slice_cmp}
use Rattle.std.specs.BTreeMap.{BTreeMap, get}
use Rattle.ss_cid.specs.Cid.{identity_of}
use Rattle.ss_chain.specs.Fetch.{is_known}
use Rattle.ss_chain.proofs.Kept.{identity-none}
use Rattle.ss_txn.proofs.Paths.{digest-of-identity}
use Rattle.ss_marking_suite.specs.Rows.{has_block}

module _ (blocks : BTreeMap (List ℕ) (List ℕ)) (cid : List ℕ) where
  pub known_identity : (digest : List ℕ) → Some digest ≡ identity_of cid → is_known (has_block blocks) cid ≡ true
  known_identity digest is = ap (λ b. b || has_block blocks cid) (digest-of-identity cid digest is).0

  pub known_stored : (o : Option (List ℕ)) → None ≡ identity_of cid → o ≡ get (slice_cmp nat_cmp) blocks cid → is_known (has_block blocks) cid ≡ is_some o
  known_stored o none is = ap (λ b. b || has_block blocks cid) (identity-none cid none) ∙ ap is_some (sym is)
