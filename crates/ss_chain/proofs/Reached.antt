-- What is reached.
use Rattle.std.proofs.Common.{ℕ, List, [], ◌∷◌, Contains, refl, sym, subst}
use Rattle.ss_cid.specs.Maps.{Kept}
use Rattle.ss_chain.specs.Reach.{LeadsTo, Walk, Reach}

module _ (edge : ℕ) (kept : Kept) where
  walk_each : (P : List ℕ → Type 0) → ((from to : List ℕ) → P from → LeadsTo edge kept from to → P to) →
      (from : List ℕ) (path : List (List ℕ)) (last : List ℕ) → P from → Walk edge kept from path last → P last
  walk_each P keeps from [] last holds walk = subst P walk holds
  walk_each P keeps from (next ∷ path) last holds walk = walk_each P keeps next path last (keeps from next holds walk.0) walk.1

  -- one step more
  walk_on : (from : List ℕ) (path : List (List ℕ)) (last next : List ℕ) → Walk edge kept from path last → LeadsTo edge kept last next →
      (longer : List (List ℕ)) × Walk edge kept from longer next
  walk_on from [] last next walk leads = (next ∷ [], (subst (λ (c : List ℕ). LeadsTo edge kept c next) (sym walk) leads, refl))
  walk_on from (first ∷ path) last next walk leads =
      let on = walk_on first path last next walk.1 leads in
      (first ∷ on.0, (walk.0, on.1))

  module _ (roots : List (List ℕ)) where
    -- what holds of the roots, and is handed on by each step, holds of all that is reached
    pub reach_each : (P : List ℕ → Type 0) → ((root : List ℕ) → Contains roots root → P root) → ((from to : List ℕ) → P from → LeadsTo edge kept from to → P to) →
        (cid : List ℕ) → Reach edge kept roots cid → P cid
    reach_each P starts keeps cid r = walk_each P keeps r.root r.path cid (starts r.root r.is_root) r.walk

    pub reach-root : (root : List ℕ) → Contains roots root → Reach edge kept roots root
    reach-root root is = record { root = root; path = []; is_root = is; walk = refl }

    pub reach-next : (from to : List ℕ) → Reach edge kept roots from → LeadsTo edge kept from to → Reach edge kept roots to
    reach-next from to r leads =
        let on = walk_on r.root r.path from to r.walk leads in
        record { root = r.root; path = on.0; is_root = r.is_root; walk = on.1 }
