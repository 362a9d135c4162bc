use Rattle.std.proofs.Common.{◌≡◌, ℕ, ◌+◌, Bool, true, false, not, refl, List, [], ◌∷◌, ◌++◌, take, drop, sym, ◌∙◌, ap, subst, append_assoc, take-append-drop}
use Rattle.std.specs.Ordering.{nat_cmp}
use Rattle.std.specs.Cmp.Lexicographic.{slice_cmp}
use Rattle.std.specs.BTreeSet.{contains}
use Rattle.std.specs.List.{Contains}
use Rattle.std.proofs.lemmas.List.{take_all, take_more}
use Rattle.ss_meta.specs.Plan.{AllDiffer}
use Rattle.ss_meta.specs.Opening.{Sees}
use Rattle.ss_meta.proofs.Sets.{differ-push, differ-apart, sees-push}
use Rattle.ss_meta.proofs.log.walk.see.Goals as goal
use Rattle.ss_meta.proofs.log.walk.see.Goals.{In_ok-insert}

-- a key is new or not
is_new : (added held : Bool) → added ≡ not held → added ≡ true → held ≡ true → ⊥
is_new true true is new old = cc
is_new true false is new old = cc
is_new false held is new old = cc

is_old : (added held : Bool) → added ≡ not held → added ≡ false → held ≡ true
is_old true held is old = absurd cc
is_old false true is old = refl
is_old false false is old = absurd cc

-- what was seen, and then this CID
grown : (c : In_ok-insert) → take (c.loop-cid.cid-index + 1) c.as_slice-cid-items.result.now ≡ take c.loop-cid.cid-index c.as_slice-cid-items.result.now ++ c.cid-item.result ∷ []
grown c =
    let items = c.as_slice-cid-items.result.now in
    let i = c.loop-cid.cid-index in
    take_more items i c.cid-item.result c.loop-cid-test.true ∙ sym (ap (λ (x : List ℕ). take i items ++ x ∷ []) c.cid-item.is)

pub returns-then-not-branch : goal.returns-then-not-branch
returns-then-not-branch c cold sees all differ =
    let items = c.as_slice-cid-items.result.now in
    let i = c.loop-cid.cid-index in
    let k = c.cid-item.result in
    let front = cold ++ take i items in
    let had = c.loop-cid.invariant cold sees all in
    let whole : cold ++ c.args.cids.now ≡ front ++ k ∷ drop (i + 1) items =
    ap (λ (l : List (List ℕ)). cold ++ l) (sym c.as_slice-cid-items.ensures ∙ sym (take-append-drop (i + 1) items) ∙ ap (λ (l : List (List ℕ)). l ++ drop (i + 1) items) (grown (goal.at.returns-then-not-branch c).In_ok-insert) ∙ append_assoc (take i items) (k ∷ []) (drop (i + 1) items))
    ∙ sym (append_assoc cold (take i items) (k ∷ drop (i + 1) items)) in
    differ-apart front (drop (i + 1) items) k (subst AllDiffer whole differ) ((had.0 k).0 (is_old c.in_ok-insert.field-0 (contains (slice_cmp nat_cmp) c.loop-cid.seen k) c.in_ok-insert.ensures.added c.if-not-branch.true))

pub loop-cid-preserved : goal.loop-cid-preserved
loop-cid-preserved c cold sees all =
    let items = c.as_slice-cid-items.result.now in
    let i = c.loop-cid.cid-index in
    let k = c.cid-item.result in
    let front = cold ++ take i items in
    let had = c.loop-cid.invariant cold sees all in
    let whole : front ++ k ∷ [] ≡ cold ++ take (i + 1) items = append_assoc cold (take i items) (k ∷ []) ∙ ap (λ (l : List (List ℕ)). cold ++ l) (sym (grown (goal.at.loop-cid-preserved c).In_ok-insert)) in
    let new : Contains front k → ⊥ = λ held. is_new c.in_ok-insert.field-0 (contains (slice_cmp nat_cmp) c.loop-cid.seen k) c.in_ok-insert.ensures.added c.if-not-branch.false ((had.0 k).1 held) in (
      subst (Sees c.insert.new.self) whole (sees-push c.loop-cid.seen c.insert.new.self k c.in_ok-insert.ensures.updates front had.0),
      subst AllDiffer whole (differ-push front k had.1 new),
    )

pub returns : goal.returns
returns c cold sees all =
    let had = c.loop-cid.invariant cold sees all in
    let items : take c.loop-cid.cid-index c.as_slice-cid-items.result.now ≡ c.args.cids.now = take_all c.loop-cid.cid-index c.as_slice-cid-items.result.now c.loop-cid-test.false ∙ c.as_slice-cid-items.ensures in
    let whole = ap (λ (l : List (List ℕ)). cold ++ l) items in
    (subst (Sees c.loop-cid.seen) whole had.0, subst AllDiffer whole had.1)
