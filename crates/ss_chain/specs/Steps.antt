-- What is done with a value that there may be, and the first of some numbers that gives one.
use Rattle.std.specs.{Prelude.{Bool, false, Option, Some, None, ◌≡◌, ℕ, zero, suc, ◌<◌}, Option.option_or}
pub use Rattle.ss_cbor.specs.Options.{◌>>=◌}

-- there is a value, and it passes the test
abbrev pub passes : {A : Type 0} → (A → Bool) → Option A → Bool
passes test (Some x) = test x
passes test None = false

-- what the least of the numbers below n gives, of those that give something
unfoldable pub first_of : {A : Type 0} → (ℕ → Option A) → ℕ → Option A
first_of gives zero = None
first_of gives (suc n) = option_or (first_of gives n) (gives n)

-- i is the least of the numbers below n that give something, and gives x
pub record IsLeast {A : Type 0} (gives : ℕ → Option A) (n : ℕ) (x : A) (i : ℕ) : Type 0 where
  pub below : i < n
  pub here : gives i ≡ Some x
  pub none_before : (j : ℕ) → j < i → gives j ≡ None
