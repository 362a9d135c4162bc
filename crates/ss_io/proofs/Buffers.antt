-- What is left of a buffered source, as its buffer is filled and taken from.
use Rattle.std.proofs.Common.{◌≡◌, ℕ, ◌+◌, ◌≤◌, List, [], ◌∷◌, ◌++◌, length, take, drop, min, refl, sym, ◌∙◌, ap, append_assoc, arith, length-append}
use Rattle.std.specs.Prelude.{Option, None, Some}
use Rattle.std.proofs.lemmas.List.{take-append-drop, length-take}
use Rattle.std.proofs.Math.ListN.{drop_of_length-le}
use Rattle.std.proofs.Math.Seq.{take-append_seam}
use Rattle.std.specs.Io.KnownBytes.{Keeps, Consumes, IsAtEnd}
use Rattle.ss_io.specs.Buffered.{before}

-- behind an empty buffer
pub Keeps-before_none : (old : Option (List ℕ)) → Keeps old (before [] old)
Keeps-before_none None = tt
Keeps-before_none (Some xs) = refl

pub IsAtEnd-before_none : (rest : Option (List ℕ)) (bytes : List ℕ) → bytes ≡ [] → IsAtEnd rest → IsAtEnd (before bytes rest)
IsAtEnd-before_none None bytes none ended = tt
IsAtEnd-before_none (Some xs) bytes none ended = ap (λ b. b ++ xs) none ∙ ended

-- bytes that come before others end where these end
pub IsAtEnd-after : (rest : Option (List ℕ)) (bytes : List ℕ) → IsAtEnd (before bytes rest) → IsAtEnd rest
IsAtEnd-after None bytes ended = tt
IsAtEnd-after (Some xs) [] ended = ended
IsAtEnd-after (Some xs) (b ∷ bytes) ended = absurd (let no : ⊥ = cc (ended) in no)

-- bytes of the buffer are taken
pub Consumes-buffered : (rest : Option (List ℕ)) (bytes left : List ℕ) (n : ℕ) → left ≡ drop n bytes → Consumes (before bytes rest) (before left rest) (take n bytes)
Consumes-buffered None bytes left n is = tt
Consumes-buffered (Some ys) bytes left n is =
    ap (λ b. b ++ ys) (sym (take-append-drop n bytes)) ∙ append_assoc (take n bytes) (drop n bytes) ys ∙ ap (λ b. take n bytes ++ (b ++ ys)) (sym is)

-- so many bytes of those that were read are none only where they are 0
pub none_read : (n k : ℕ) (out rest : List ℕ) → n ≤ length out → n ≤ k → take n (take k (out ++ rest)) ≡ [] → n ≡ 0
none_read n k out rest read room none =
    let long : length (out ++ rest) ≡ length out + length rest = length-append out rest in
    let kept : length (take k (out ++ rest)) ≡ min k (length (out ++ rest)) = length-take k (out ++ rest) in
    let some : length (take n (take k (out ++ rest))) ≡ min n (length (take k (out ++ rest))) = length-take n (take k (out ++ rest)) in
    omega (arith, long, kept, some, read, room, ap length none)

-- bytes that are put before others are those that are taken of them
pub taken_first : (n : ℕ) (bytes rest : List ℕ) → n ≡ length bytes → take n (bytes ++ rest) ≡ bytes
taken_first n bytes rest is = ap (λ k. take k (bytes ++ rest)) is ∙ take-append_seam bytes rest

-- nothing lies between two places that do not go up
pub nothing_between : (start end : ℕ) (xs : List ℕ) → end ≤ start → drop start (take end xs) ≡ []
nothing_between start end xs order = drop_of_length-le (take end xs) (omega (arith, length-take end xs, order))
