-- A field that is read is the text that was written, and the text that was written is read again.
use Rattle.std.proofs.Common.{◌≡◌, ℕ, ◌+◌, ◌<◌, List, [], ◌∷◌, ◌++◌, get_or, take, drop, Result, Ok, refl, sym, ap, ap₂, ◌∙◌, arith, inl, inr}
use Rattle.std.proofs.lemmas.Bool.{cases_lt}
use Rattle.std.proofs.lemmas.List.{append-nil, get_or-drop, get_or-take, get_or_past, length-take}
use Rattle.ss_cid.specs.Steps.{◌>>=◌}
use Rattle.ss_cid.proofs.Chains.{bind-Ok, Ok-same}
use Rattle.ss_records.specs.Fields.{ended}

-- each is a byte
abbrev pub IsBytes : List ℕ → Type 0
IsBytes bytes = (i : ℕ) → get_or bytes i 0 < 256

pub IsBytes-drop : (n : ℕ) (bytes : List ℕ) → IsBytes bytes → IsBytes (drop n bytes)
IsBytes-drop n bytes h i = rw get_or-drop (h (n + i))

pub IsBytes-take : (n : ℕ) (bytes : List ℕ) → IsBytes bytes → IsBytes (take n bytes)
IsBytes-take n bytes h i =
    elim (cases_lt i n) [
      | inl lt ↦ rw (get_or-take n bytes i 0 lt) (h i)
      | inr le ↦ rw (get_or_past (take n bytes) i 0 (omega (arith, length-take n bytes))) (omega arith)
    ]

-- a reader took this text from the front of the bytes, and left the rest
pub record Takes (bytes text rest : List ℕ) : Type 0 where
  pub parts : bytes ≡ text ++ rest
  pub rest_bytes : IsBytes rest

-- a field: what it reads is its value's text, and it reads the text of each value of which P holds
pub record IsField {X : Type 0} (text : X → List ℕ) (P : X → Type 0) (item : List ℕ → Result (X × List ℕ) ℕ) : Type 0 where
  pub takes : (bytes : List ℕ) (x : X) (rest : List ℕ) → IsBytes bytes → item bytes ≡ Ok (x, rest) → Takes bytes (text x) rest × P x
  pub again : (x : X) (rest : List ℕ) → P x → item (text x ++ rest) ≡ Ok (x, rest)

-- the same, of all bytes
pub record IsWhole {X : Type 0} (text : X → List ℕ) (P : X → Type 0) (read : List ℕ → Result X ℕ) : Type 0 where
  pub takes : (bytes : List ℕ) (x : X) → IsBytes bytes → read bytes ≡ Ok x → (bytes ≡ text x) × P x
  pub again : (x : X) → P x → read (text x) ≡ Ok x

-- what follows from a field that was read before the rest
pub begins : {X Y : Type 0} {text : X → List ℕ} {P : X → Type 0} {item : List ℕ → Result (X × List ℕ) ℕ} → IsField text P item
    → (next : X × List ℕ → Result Y ℕ) (bytes : List ℕ) (y : Y) → IsBytes bytes → (item bytes >>= next) ≡ Ok y → (Q : Type 0)
    → ((x : X) (rest : List ℕ) → bytes ≡ text x ++ rest → P x → IsBytes rest → next (x, rest) ≡ Ok y → Q) → Q
begins {item = item} field next bytes y small h Q go =
    let first = bind-Ok (item bytes) next y h in
    let taken = field.takes bytes first.0.0 first.0.1 small first.1 in
    go first.0.0 first.0.1 taken.0.parts taken.1 taken.0.rest_bytes first.2

-- what follows from fields that were read to the end
pub ends : {X Y : Type 0} {text : X → List ℕ} {P : X → Type 0} {read : List ℕ → Result X ℕ} → IsWhole text P read
    → (make : X → Y) (bytes : List ℕ) (y : Y) → IsBytes bytes → (read bytes >>= λ x. Ok (make x)) ≡ Ok y → (Q : Type 0)
    → ((x : X) → bytes ≡ text x → P x → make x ≡ y → Q) → Q
ends {read = read} whole make bytes y small h Q go =
    let first = bind-Ok (read bytes) (λ x. Ok (make x)) y h in
    let taken = whole.takes bytes first.0 small first.1 in
    go first.0 taken.0 taken.1 (Ok-same first.2)

-- a field that was written is read before what follows
pub begins_again : {X Y : Type 0} {text : X → List ℕ} {P : X → Type 0} {item : List ℕ → Result (X × List ℕ) ℕ} → IsField text P item
    → (next : X × List ℕ → Result Y ℕ) (x : X) (rest : List ℕ) → P x → (item (text x ++ rest) >>= next) ≡ next (x, rest)
begins_again field next x rest holds = rw (field.again x rest holds) refl

-- fields that were written are read to the end
pub ends_again : {X Y : Type 0} {text : X → List ℕ} {P : X → Type 0} {read : List ℕ → Result X ℕ} → IsWhole text P read
    → (make : X → Y) (x : X) → P x → (read (text x) >>= λ x. Ok (make x)) ≡ Ok (make x)
ends_again whole make x holds = rw (whole.again x holds) refl

-- nothing was left
pub ended-Ok : {X : Type 0} (x y : X) (bytes : List ℕ) → ended x bytes ≡ Ok y → (bytes ≡ []) × (x ≡ y)
ended-Ok x y [] h = (refl, Ok-same h)
ended-Ok x y (b ∷ bytes) h = absurd cc

-- a field with nothing behind it is all of the bytes
pub ended_whole : {X : Type 0} {text : X → List ℕ} {P : X → Type 0} {item : List ℕ → Result (X × List ℕ) ℕ} → IsField text P item
    → IsWhole text P (λ bytes. item bytes >>= λ x. ended x.0 x.1)
ended_whole {text = text} {item = item} field = record {
  takes = λ bytes x small h.
      let first = bind-Ok (item bytes) (λ a. ended a.0 a.1) x h in
      let end = ended-Ok first.0.0 x first.0.1 first.2 in
      let taken = field.takes bytes x [] small (first.1 ∙ ap₂ (λ a b. Ok (a, b)) end.1 end.0) in
      (taken.0.parts ∙ append-nil (text x), taken.1);
  again = λ x holds. rw (field.again x [] holds) at (ap (λ bytes. item bytes >>= λ a. ended a.0 a.1) (sym (append-nil (text x))));
}
