-- Links read one after another.
use native.Mathlib.Numerals.{unary_clauses}
use Rattle.std.proofs.Common.{◌≡◌, ℕ, zero, suc, ◌+◌, ◌-◌, ◌<◌, ◌≤◌, List, [], ◌∷◌, ◌++◌, Option, Some, None, refl, sym, ap, ◌∙◌, append_assoc, arith}
use Rattle.std.proofs.lemmas.List.{append-nil}
use Rattle.ss_cbor.specs.Position.{Position}
use Rattle.ss_cbor.specs.Reading.{link_from}
use Rattle.ss_car.specs.HeaderReading.{links_from}
use Rattle.ss_cbor.specs.Options.{◌>>=◌}
use Rattle.ss_cbor.specs.Position.{Reads, Takes}

-- these links, and then those that were found
abbrev pub after_links : List (List ℕ) → Option (List (List ℕ) × List ℕ) → Option (List (List ℕ) × List ℕ)
after_links done found = found >>= λ x. Some (done ++ x.0, x.1)

after-one : (done : List (List ℕ)) (cid : List ℕ) (found : Option (List (List ℕ) × List ℕ)) →
    after_links done (found >>= λ x. Some (cid ∷ x.0, x.1)) ≡ after_links (done ++ cid ∷ []) found
after-one done cid (Some (links, rest)) = ap (λ (l : List (List ℕ)). Some (l, rest)) (sym (append_assoc done (cid ∷ []) links))
after-one done cid None = refl

after-none : (found : Option (List (List ℕ) × List ℕ)) → found ≡ after_links [] found
after-none (Some (links, rest)) = refl
after-none None = refl

-- i of n links were read, and the others come next
pub record LinksLeft (n i : ℕ) (first now : Position) (done : List (List ℕ)) : Type 0 where
  pub bound : i ≤ n
  pub end : now.end ≡ first.end
  pub same : links_from n first.end first.rest ≡ after_links done (links_from (n - i) now.end now.rest)

pub links-start : (n : ℕ) (first : Position) → LinksLeft n 0 first first []
links-start n first = record { bound = omega arith; end = refl; same = simp unary_clauses (after-none (links_from n first.end first.rest)) }

module _ (n i : ℕ) (first now : Position) (done : List (List ℕ)) (left : LinksLeft n i first now done) where
  pub links-next : (next : Position) (cid : List ℕ) → i < n → Takes {X = List ℕ} (λ cid. cid) link_from now next (Some cid) → LinksLeft n (i + 1) first next (done ++ cid ∷ [])
  unfolding links_from
  links-next next cid lt reads =
      let e : n - i ≡ suc (n - (i + 1)) = omega arith in
      let others = links_from (n - (i + 1)) next.end next.rest in
      let step : links_from (n - i) now.end now.rest ≡ (others >>= λ x. Some (cid ∷ x.0, x.1)) = rw (e, reads.value, reads.end) refl in
      record { bound = omega arith; end = reads.end ∙ left.end; same = left.same ∙ ap (after_links done) step ∙ after-one done cid others }

  pub links-stop : (next : Position) → i < n → Takes {X = List ℕ} (λ cid. cid) link_from now next None → Reads {X = List (List ℕ)} (λ roots. roots) (links_from n) first next None
  unfolding links_from
  links-stop next lt reads =
      let e : n - i ≡ suc (n - (i + 1)) = omega arith in
      let step : links_from (n - i) now.end now.rest ≡ None = rw (e, reads.value) refl in
      record { value = left.same ∙ ap (after_links done) step; end = reads.end ∙ left.end }

  pub links-end : n ≤ i → Reads {X = List (List ℕ)} (λ roots. roots) (links_from n) first now (Some done)
  unfolding links_from
  links-end le =
      let e : n - i ≡ zero = omega arith in
      let step : links_from (n - i) now.end now.rest ≡ Some ([], now.rest) = rw e refl in
      record { value = left.same ∙ ap (after_links done) step ∙ ap (λ (l : List (List ℕ)). Some (l, now.rest)) (append-nil done); end = left.end }
