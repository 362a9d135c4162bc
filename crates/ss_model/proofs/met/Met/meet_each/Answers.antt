use Rattle.std.proofs.Common.{◌≡◌, ℕ, zero, suc, ◌+◌, ◌<◌, List, [], ◌∷◌, length, get_or, drop, ap, sym, arith}
use Rattle.std.proofs.lemmas.List.{drop_all}
use Rattle.ss_model.proofs.Meeting.{leaves_next, leaves_none}
use Rattle.ss_model.proofs.met.Met.meet_each.Goals as goal

drop_next : (xs : List (List ℕ)) (i j : ℕ) (x : List ℕ) → i < length xs → j ≡ i + 1 → x ≡ get_or xs i x → drop i xs ≡ x ∷ drop j xs
drop_next [] i j x lt e is = absurd (omega arith)
drop_next (y ∷ ys) zero zero x lt e is = absurd (omega arith)
drop_next (y ∷ ys) zero (suc j) x lt e is = let none : j ≡ 0 = omega arith in rw none (ap (λ z. z ∷ ys) (sym is))
drop_next (y ∷ ys) (suc i) zero x lt e is = absurd (omega arith)
drop_next (y ∷ ys) (suc i) (suc j) x lt e is = drop_next ys i j x (omega arith) (omega arith) is

pub loop-cid-preserved : goal.loop-cid-preserved
loop-cid-preserved c =
    let i = c.loop-cid.cid-index in
    let step = drop_next c.args.cids.now i (i + 1) c.cid-item.result c.loop-cid-test.true (omega arith) c.cid-item.is in
    leaves_next c.args.cids.now (drop i c.args.cids.now) c.cid-item.result (drop (i + 1) c.args.cids.now) _ _ _ step c.loop-cid.invariant c.in_ok-meet.ensures

pub returns : goal.returns
returns c = leaves_none c.args.cids.now _ _ _ (drop_all c.loop-cid.cid-index c.args.cids.now (omega (arith, c.loop-cid-test.false))) c.loop-cid.invariant
