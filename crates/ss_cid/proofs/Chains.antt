-- Steps and choices, told from their outcome.
use Rattle.std.proofs.Common.{◌≡◌, Bool, true, false, cond, Result, Ok, Err, refl, ap}
use Rattle.ss_cid.specs.Steps.{◌>>=◌}

-- a step that went well had a first half that did
pub bind-Ok : {A B E : Type 0} (r : Result A E) (f : A → Result B E) (y : B) → (r >>= f) ≡ Ok y → (x : A) × (r ≡ Ok x) × (f x ≡ Ok y)
bind-Ok (Ok x) f y h = (x, refl, h)
bind-Ok (Err e) f y h = absurd (cc)

-- a step after one that went well
pub Ok-bind : {A B E : Type 0} (r : Result A E) (f : A → Result B E) (x : A) → r ≡ Ok x → (r >>= f) ≡ f x
Ok-bind r f x h = rw h refl

-- a refusal in place of a value was not taken
pub guard-Ok : {A E : Type 0} (b : Bool) (e : E) (r : Result A E) (y : A) → cond b (Err e) r ≡ Ok y → (b ≡ false) × (r ≡ Ok y)
guard-Ok true e r y h = absurd (cc)
guard-Ok false e r y h = (refl, h)

-- a value in place of a refusal was taken
pub chosen-Ok : {A E : Type 0} (b : Bool) (e : E) (r : Result A E) (y : A) → cond b r (Err e) ≡ Ok y → (b ≡ true) × (r ≡ Ok y)
chosen-Ok true e r y h = (refl, h)
chosen-Ok false e r y h = absurd (cc)

pub Ok-same : {A E : Type 0} {x y : A} → ◌≡◌ {A = Result A E} (Ok x) (Ok y) → x ≡ y
Ok-same h = cc

pub Ok-both : {A B E : Type 0} {a c : A} {b d : B} → ◌≡◌ {A = Result (A × B) E} (Ok (a, b)) (Ok (c, d)) → (a ≡ c) × (b ≡ d)
Ok-both h = let same = Ok-same h in (ap (λ p. p.0) same, ap (λ p. p.1) same)
