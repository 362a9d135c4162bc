-- Where a cursor stands, and what it and readers of slices return.
use Rattle.std.specs.Prelude.{◌≡◌, ℕ, ◌-◌, List, length, Option, Some, None, MatchOption, IfNone, Result, Ok, Err, MatchResult}

pub record Position : Type 0 where
  -- the bytes that are left
  pub rest : List ℕ
  -- the length of the whole input
  pub end : ℕ

-- the position before these bytes
abbrev pub start_of : List ℕ → Position
start_of bytes = record { rest = bytes; end = length bytes }

-- how many bytes of the input are read
abbrev pub place_of : Position → ℕ
place_of p = p.end - length p.rest

-- the cursor went from one position to another, and what it returned is what reading from the first gives
pub record Reads {X Y : Type 0} (view : X → Y) (from : ℕ → List ℕ → Option (Y × List ℕ)) (old new : Position) (result : Option X) : Type 0 where
  pub value : MatchOption result (from old.end old.rest ≡ None) (λ x. from old.end old.rest ≡ Some (view x, new.rest))
  pub end : new.end ≡ old.end

-- the same of one part, and a cursor that is refused stays
pub record Takes {X Y : Type 0} (view : X → Y) (from : ℕ → List ℕ → Option (Y × List ℕ)) (old new : Position) (result : Option X) : Type 0 where
  pub value : MatchOption result (from old.end old.rest ≡ None) (λ x. from old.end old.rest ≡ Some (view x, new.rest))
  pub end : new.end ≡ old.end
  pub stays : IfNone result (new ≡ old)

-- the cursor passed what this reads
pub record Passes (from : ℕ → List ℕ → Option (List ℕ)) (old new : Position) (result : Option (Unit {0})) : Type 0 where
  pub value : MatchOption result (from old.end old.rest ≡ None) (λ _. from old.end old.rest ≡ Some new.rest)
  pub end : new.end ≡ old.end

-- the result of a reader of slices, seen by the view, is what reading a list gives
abbrev pub Gives : {X Y E : Type 0} → (X → Y) → Result X E → Result Y E → Type 0
Gives view result read = MatchResult result (λ x. read ≡ Ok (view x)) (λ e. read ≡ Err e)
