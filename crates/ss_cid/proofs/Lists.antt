-- Cells that are filled from the front.
use Rattle.std.proofs.Common.{◌≡◌, ℕ, ◌+◌, ◌-◌, List, drop, replicate, ap, sym, ◌∙◌, arith}
use Rattle.std.proofs.lemmas.List.{drop-drop, drop-replicate}

-- what lies behind the cells that are in use is zero, also once some more are in use
pub drop_more_zeros : (cells now : List ℕ) (n k : ℕ) → drop (n + k) now ≡ drop (n + k) cells
    → drop n cells ≡ replicate (72 - n) 0 → drop (n + k) now ≡ replicate (72 - (n + k)) 0
drop_more_zeros cells now n k same zeros =
    let less : 72 - n - k ≡ 72 - (n + k) = omega arith in
    same ∙ sym (drop-drop k n cells) ∙ ap (drop k) zeros ∙ drop-replicate k (72 - n) 0 ∙ ap (λ m. replicate m 0) less
