-- Stacks that are linked through the rows.
use Rattle.std.proofs.Common.{◌≡◌, ◌≢◌, ℕ, zero, suc, ◌+◌, ◌<◌, List, get_or, refl, sym, subst, arith}
use Rattle.ss_marks.specs.Rows.{IsStack}

-- what holds of its rows may change, and so may other links
pub same_stack : (P Q : ℕ → Type 0) (links links' : List ℕ) → ((r : ℕ) → P r → Q r) → ((r : ℕ) → P r → get_or links' r 0 ≡ get_or links r 0)
    → (n top : ℕ) → IsStack P links n top → IsStack Q links' n top
same_stack P Q links links' holds kept zero top stack = tt
same_stack P Q links links' holds kept (suc n) top stack = (
  holds top stack.0,
  subst (λ x. IsStack (λ r. Q r × (r ≢ top)) links' n x) (sym (kept top stack.0))
      (same_stack (λ r. P r × (r ≢ top)) (λ r. Q r × (r ≢ top)) links links' (λ r p. (holds r p.0, p.1)) (λ r p. kept r p.0) n (get_or links top 0) stack.1),
)

-- a row goes on top
pub pushed : (P Q : ℕ → Type 0) (links links' : List ℕ) (n n' top row : ℕ) → n' ≡ n + 1 → (P row → ⊥) → Q row → ((r : ℕ) → P r → Q r)
    → ((r : ℕ) → r ≢ row → get_or links' r 0 ≡ get_or links r 0) → get_or links' row 0 ≡ top → IsStack P links n top → IsStack Q links' n' row
pushed P Q links links' n n' top row count other new holds kept link stack =
    subst (λ x. IsStack Q links' x row) (let e : suc n ≡ n' = omega arith in e) (
      new,
      subst (λ x. IsStack (λ r. Q r × (r ≢ row)) links' n x) (sym link)
          (same_stack P (λ r. Q r × (r ≢ row)) links links' (λ r p. (holds r p, λ e. other (subst P e p))) (λ r p. kept r (λ e. other (subst P e p))) n top stack),
    )

-- the row on top, and the rows under it
pub top_of : (P : ℕ → Type 0) (links : List ℕ) (n top : ℕ) → 0 < n → IsStack P links n top → P top
top_of P links zero top some stack = absurd (omega arith)
top_of P links (suc n) top some stack = stack.0

pub popped : (P Q : ℕ → Type 0) (links : List ℕ) (n n' top : ℕ) → n' + 1 ≡ n → ((r : ℕ) → P r → r ≢ top → Q r) → IsStack P links n top → IsStack Q links n' (get_or links top 0)
popped P Q links zero n' top count holds stack = absurd (omega arith)
popped P Q links (suc n) n' top count holds stack =
    subst (λ x. IsStack Q links x (get_or links top 0)) (let e : n ≡ n' = omega arith in e)
    (same_stack (λ r. P r × (r ≢ top)) Q links links (λ r p. holds r p.0 p.1) (λ r p. refl) n (get_or links top 0) stack.1)
