-- Steps and choices, told from their outcome.
use Rattle.std.proofs.Common.{◌≡◌, Bool, true, false, cond, Option, Some, None, Result, Ok, refl, ap}
use Rattle.std.specs.Result.{result_ok}
use Rattle.std.specs.Option.{option_or}
use Rattle.std.specs.Prelude.{◌&&◌, ◌||◌, not}
use Rattle.ss_chain.specs.Steps.{◌>>=◌, passes}

pub Some-same : {A : Type 0} {x y : A} → Some x ≡ Some y → x ≡ y
Some-same h = cc

pub bind-Some : {A B : Type 0} (o : Option A) (f : A → Option B) (y : B) → (o >>= f) ≡ Some y → (x : A) × (o ≡ Some x) × (f x ≡ Some y)
bind-Some (Some x) f y h = (x, refl, h)
bind-Some None f y h = absurd (cc)

pub passes-is : {A : Type 0} (test : A → Bool) (o : Option A) → passes test o ≡ true → (x : A) × (o ≡ Some x) × (test x ≡ true)
passes-is test (Some x) h = (x, refl, h)
passes-is test None h = absurd (cc)

pub result_ok-is : {A E : Type 0} (r : Result A E) (x : A) → result_ok r ≡ Some x → r ≡ Ok x
result_ok-is (Ok x) y h = ap Ok (Some-same h)
result_ok-is _ y h = absurd (cc)

pub option_or-none : {A : Type 0} (x y : Option A) → option_or x y ≡ None → (x ≡ None) × (y ≡ None)
option_or-none (Some x) y h = absurd (cc)
option_or-none None y h = (refl, h)

pub chosen : {A : Type 0} (b : Bool) (x y : A) → cond b (Some x) None ≡ Some y → (b ≡ true) × (x ≡ y)
chosen true x y h = (refl, Some-same h)
chosen false x y h = absurd (cc)

pub guarded : {A : Type 0} (b : Bool) (o : Option A) (y : A) → cond b o None ≡ Some y → (b ≡ true) × (o ≡ Some y)
guarded true o y h = (refl, h)
guarded false o y h = absurd (cc)

pub not-chosen : {A : Type 0} (b : Bool) (x : A) → cond b (Some x) None ≡ None → b ≡ false
not-chosen true x h = absurd (cc)
not-chosen false x h = refl

pub both : (a b : Bool) → (a && b) ≡ true → (a ≡ true) × (b ≡ true)
both true b h = (refl, h)
both false b h = absurd (cc)

pub or-false : (a b : Bool) → (a || b) ≡ false → (a ≡ false) × (b ≡ false)
or-false false b h = (refl, h)
or-false true b h = absurd (cc)

pub or-true : (a : Bool) → (a || true) ≡ true
or-true true = refl
or-true false = refl

pub not-false : (b : Bool) → not b ≡ false → b ≡ true
not-false true h = refl
not-false false h = absurd (cc)
