-- Frames as they are written.
use Rattle.std.proofs.Common.{◌≡◌, ℕ, ◌+◌, List, [], ◌∷◌, ◌++◌, take, Some, ap, ◌∙◌}
use Rattle.std.specs.Prelude.{slice_get}
use Rattle.std.specs.List.{flat_map}
use Rattle.std.proofs.lemmas.List.{append_assoc, append-nil, take_more}
use Rattle.std.proofs.lemmas.Option.{slice_get_within, get_or_from_slice_get}
use Rattle.std.proofs.lemmas.Grind.{flat_map-append}

-- three fields, appended one after another
pub three : (s a b c : List ℕ) → ((s ++ a) ++ b) ++ c ≡ s ++ (a ++ (b ++ c))
three s a b c = simp append_assoc

-- seven fields
pub seven : (s a b c d e f g : List ℕ)
    → ((((((s ++ a) ++ b) ++ c) ++ d) ++ e) ++ f) ++ g ≡ s ++ (a ++ (b ++ (c ++ (d ++ (e ++ (f ++ g))))))
seven s a b c d e f g = simp append_assoc

-- the text of one item more
pub flat_map_next : {X : Type 0} (f : X → List ℕ) (xs : List X) (i : ℕ) (x : X) → slice_get xs i ≡ Some x
    → flat_map f (take (i + 1) xs) ≡ flat_map f (take i xs) ++ f x
flat_map_next f xs i x h =
    let more : take (i + 1) xs ≡ take i xs ++ x ∷ [] =
    take_more xs i x (slice_get_within xs i x h) ∙ ap (λ y. take i xs ++ y ∷ []) (get_or_from_slice_get xs i x x h) in
    ap (flat_map f) more ∙ flat_map-append f (take i xs) (x ∷ []) ∙ ap (λ text. flat_map f (take i xs) ++ text) (append-nil (f x))

-- a loop has appended one item more
pub appends_next : (start out next front more text : List ℕ) → out ≡ start ++ front → next ≡ out ++ text → more ≡ front ++ text → next ≡ start ++ more
appends_next start out next front more text held pushed e = rw (pushed, held, e) (append_assoc start front text)
