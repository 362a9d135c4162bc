-- Parts of one kind in a row, and the items of an array. `one` reads one of them, and `end` is the length of the whole input.
use Rattle.std.specs.Prelude.{◌≡◌, ℕ, zero, suc, List, [], ◌∷◌, slice_get, Option, Some, None, MatchOption, option_map}
use Rattle.ss_cbor.specs.{Options.{◌>>=◌}, Position.Position, Reading.count_from}

-- n of them, and what follows
unfoldable pub many_from : {Y : Type 0} → (ℕ → List ℕ → Option (Y × List ℕ)) → ℕ → ℕ → List ℕ → Option (List Y × List ℕ)
many_from one zero end bytes = Some ([], bytes)
many_from one (suc n) end bytes = do
  first ← one end bytes
  others ← many_from one n end first.1
  Some (first.0 ∷ others.0, others.1)

-- an array of them, and what follows
unfoldable pub array_from : {Y : Type 0} → (ℕ → List ℕ → Option (Y × List ℕ)) → ℕ → List ℕ → Option (List Y × List ℕ)
array_from one end bytes = do
  count ← count_from end bytes
  many_from one count.0 end count.1

-- A cursor passed n of them, and the answer is that at an index, if there are so many.
pub record Picks {X Y : Type 0} (view : X → Y) (one : ℕ → List ℕ → Option (Y × List ℕ)) (n index : ℕ) (old new : Position) (answer : Option (Option X)) : Type 0 where
  pub value : MatchOption answer (many_from one n old.end old.rest ≡ None)
      (λ picked. (row : List Y) × (many_from one n old.end old.rest ≡ Some (row, new.rest)) × (option_map view picked ≡ slice_get row index))
  pub end : new.end ≡ old.end
