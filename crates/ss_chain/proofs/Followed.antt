-- What is followed from a block, by the rule for each of its links.
use Rattle.std.proofs.Common.{◌≡◌, ℕ, zero, suc, ◌≤◌, Bool, true, false, cond, eqb, List, [], ◌∷◌, ◌++◌, filter, Contains, Option, Some, None, refl, sym, subst, arith, inl, inr}
use Rattle.std.specs.Prelude.{◌⊎◌, ◌||◌, ◌↔◌, not, nat_le}
use Rattle.std.proofs.lemmas.Bool.{eqb-true, eq-eqb, leb-true, le-leb}
use Rattle.std.proofs.lemmas.List.Elements.{Contains-append_left, Contains-append_right, Contains-append_cases}
use Rattle.ss_chain.specs.Header.{HeaderFields, links_in}
use Rattle.ss_chain.specs.HeaderReading.{header_of}
use Rattle.ss_chain.specs.Follows.{is_commitment, is_followed, only_if, header_links, links_by, followed, HeaderLeads, parent, state, receipts, messages, Leads, IsFollowed}

-- ---- members of a list

first-Contains : {A : Type 0} (x : A) (xs : List A) → Contains (x ∷ xs) x
first-Contains x xs = (zero, omega arith, refl)

later-Contains : {A : Type 0} (y : A) (xs : List A) (x : A) → Contains xs x → Contains (y ∷ xs) x
later-Contains y xs x (k, lt, is) = (suc k, omega arith, is)

cases-Contains : {A : Type 0} (y : A) (xs : List A) (x : A) → Contains (y ∷ xs) x → (y ≡ x) ⊎ Contains xs x
cases-Contains y xs x (zero, lt, is) = inl is
cases-Contains y xs x (suc k, lt, is) = inr (k, omega arith, is)

none-Contains : {A : Type 0} (x : A) → Contains [] x → ⊥
none-Contains x (k, lt, is) = omega arith

module _ {A : Type 0} (test : A → Bool) where
  kept-Contains : (b : Bool) (y : A) (xs : List A) (x : A) → Contains xs x → Contains (cond b (y ∷ xs) xs) x
  kept-Contains true y xs x h = later-Contains y xs x h
  kept-Contains false y xs x h = h

  filter-Contains : (xs : List A) (x : A) → test x ≡ true → Contains xs x → Contains (filter test xs) x
  filter-Contains [] x passes h = h
  filter-Contains (y ∷ ys) x passes h =
      elim (cases-Contains y ys x h) [
        | inl is ↦ subst (λ (z : A). Contains (cond (test z) (z ∷ filter test ys) (filter test ys)) x) (sym is) (rw passes (first-Contains x (filter test ys)))
        | inr other ↦ kept-Contains (test y) y (filter test ys) x (filter-Contains ys x passes other)
      ]

  of-cond : (b : Bool) (y : A) (zs ys : List A) (x : A) → test y ≡ b → (Contains zs x → Contains ys x × (test x ≡ true)) → Contains (cond b (y ∷ zs) zs) x → Contains (y ∷ ys) x × (test x ≡ true)
  of-cond true y zs ys x is others h =
      elim (cases-Contains y zs x h) [
        | inl same ↦ (subst (λ (z : A). Contains (y ∷ ys) z) same (first-Contains y ys), subst (λ (z : A). test z ≡ true) same is)
        | inr other ↦ let p = others other in (later-Contains y ys x p.0, p.1)
      ]
  of-cond false y zs ys x is others h = let p = others h in (later-Contains y ys x p.0, p.1)

  Contains-filter : (xs : List A) (x : A) → Contains (filter test xs) x → Contains xs x × (test x ≡ true)
  Contains-filter [] x h = absurd (none-Contains x h)
  Contains-filter (y ∷ ys) x h = of-cond (test y) y (filter test ys) ys x refl (Contains-filter ys x) h

-- ---- the rule for each link

only_if-Contains : (b : Bool) (cid to : List ℕ) → Contains (only_if b cid) to → (b ≡ true) × (to ≡ cid)
only_if-Contains true cid to h = elim (cases-Contains cid [] to h) [ inl is ↦ (refl, sym is) | inr other ↦ absurd (none-Contains to other) ]
only_if-Contains false cid to h = absurd (none-Contains to h)

Contains-only_if : (b : Bool) (cid to : List ℕ) → b ≡ true → to ≡ cid → Contains (only_if b cid) to
Contains-only_if true cid to h is = subst (λ (c : List ℕ). Contains (c ∷ []) to) is (first-Contains to [])
Contains-only_if false cid to h is = absurd (cc)

or-cases : (a b : Bool) → (a || b) ≡ true → (a ≡ true) ⊎ (b ≡ true)
or-cases true b h = inl refl
or-cases false b h = inr h

or-left : (a b : Bool) → a ≡ true → (a || b) ≡ true
or-left true b h = refl
or-left false b h = absurd (cc)

or-right : (a b : Bool) → b ≡ true → (a || b) ≡ true
or-right true b h = refl
or-right false b h = h

not-true : (b : Bool) → not b ≡ true → b ≡ false
not-true true h = absurd (cc)
not-true false h = refl

not-of-false : (b : Bool) → b ≡ false → not b ≡ true
not-of-false true h = absurd (cc)
not-of-false false h = refl

module _ (edge : ℕ) (h : HeaderFields) (to : List ℕ) where
  state-due : (nat_le edge h.height || eqb h.height 0) ≡ true → (edge ≤ h.height) ⊎ (h.height ≡ 0)
  state-due e = elim (or-cases _ _ e) [ inl a ↦ inl (leb-true _ _ a) | inr b ↦ inr (eqb-true _ _ b) ]

  due-state : (edge ≤ h.height) ⊎ (h.height ≡ 0) → (nat_le edge h.height || eqb h.height 0) ≡ true
  due-state (inl a) = or-left _ _ (le-leb _ _ a)
  due-state (inr b) = or-right _ _ (eq-eqb _ _ b)

  -- a header's links but its parents
  abbrev root : List (List ℕ)
  root = only_if (nat_le edge h.height || eqb h.height 0) h.state

  abbrev results : List (List ℕ)
  results = only_if (nat_le edge h.height) h.receipts

  abbrev calls : List (List ℕ)
  calls = only_if (nat_le edge h.height) h.messages

  -- a header's links are those that it leads to
  header-leads : Contains (header_links edge h) to → HeaderLeads edge h to
  header-leads c =
      elim (Contains-append_cases h.parents (root ++ (results ++ calls)) to c) [
        | inl a ↦ parent a
        | inr rest ↦ elim (Contains-append_cases root (results ++ calls) to rest) [
          | inl a ↦ let p = only_if-Contains _ h.state to a in state p.1 (state-due p.0)
          | inr others ↦ elim (Contains-append_cases results calls to others) [
            | inl a ↦ let p = only_if-Contains _ h.receipts to a in receipts p.1 (leb-true _ _ p.0)
            | inr a ↦ let p = only_if-Contains _ h.messages to a in messages p.1 (leb-true _ _ p.0)
          ]
        ]
      ]

  behind-parents : Contains (root ++ (results ++ calls)) to → Contains (header_links edge h) to
  behind-parents c = Contains-append_right h.parents (root ++ (results ++ calls)) to c

  behind-root : Contains (results ++ calls) to → Contains (header_links edge h) to
  behind-root c = behind-parents (Contains-append_right root (results ++ calls) to c)

  leads-header : HeaderLeads edge h to → Contains (header_links edge h) to
  leads-header (parent a) = Contains-append_left h.parents (root ++ (results ++ calls)) to a
  leads-header (state is due) = behind-parents (Contains-append_left root (results ++ calls) to (Contains-only_if _ h.state to (due-state due) is))
  leads-header (receipts is due) = behind-root (Contains-append_left results calls to (Contains-only_if _ h.receipts to (le-leb _ _ due) is))
  leads-header (messages is due) = behind-root (Contains-append_right results calls to (Contains-only_if _ h.messages to (le-leb _ _ due) is))

module _ (edge : ℕ) (to : List ℕ) where
  leads-by : (o : Option HeaderFields) (links : List (List ℕ)) → Contains (links_by edge o links) to → Leads edge o links to
  leads-by (Some h) links c = header-leads edge h to c
  leads-by None links c = c

  by-leads : (o : Option HeaderFields) (links : List (List ℕ)) → Leads edge o links to → Contains (links_by edge o links) to
  by-leads (Some h) links l = leads-header edge h to l
  by-leads None links l = l

-- a CID is among those that are followed exactly where the rule says so
pub followed-is : (edge : ℕ) (cid block to : List ℕ) → Contains (followed edge cid block) to ↔ IsFollowed edge cid block to
unfolding followed
followed-is edge cid block to = (
  λ c. let p = Contains-filter is_followed (links_by edge (header_of cid block) (links_in cid block)) to c in
      record { no_commitment = not-true (is_commitment to) p.1; leads = leads-by edge to (header_of cid block) (links_in cid block) p.0 },
  λ f. filter-Contains is_followed (links_by edge (header_of cid block) (links_in cid block)) to (not-of-false (is_commitment to) f.no_commitment)
      (by-leads edge to (header_of cid block) (links_in cid block) f.leads),
)
