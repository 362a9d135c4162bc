-- A file has one list, or is damaged at one place.
use Rattle.std.proofs.Common.{◌≡◌, ◌≢◌, ◌⊎◌, inl, inr, ⊎_elim, ℕ, ◌+◌, ◌<◌, ◌≤◌, List, [], ◌∷◌, ◌++◌, length, take, drop, refl, sym, ◌∙◌, ap, subst, arith, append_assoc, length-append}
use Rattle.std.proofs.lemmas.List.{take_at, drop_at}
use Rattle.ss_gatelog.specs.Log.{open_gate, longest_body, length_bytes, spelled, AreBodies, IsShort, HasRecords, HasList, Fits, IsDamaged}
use Rattle.ss_gatelog.proofs.Bytes.{length-length_bytes, length_bytes-injective}
use Rattle.ss_gatelog.proofs.Steps.{length-spelled-at}

-- two fronts of one length
pub same_parts : (p q s t : List ℕ) → length p ≡ length q → p ++ s ≡ q ++ t → (p ≡ q) × (s ≡ t)
same_parts p q s t long same = (
  sym (take_at p s (length p) refl) ∙ ap (λ (l : List ℕ). take (length p) l) same ∙ take_at q t (length p) (sym long),
  sym (drop_at p s (length p) refl) ∙ ap (λ (l : List ℕ). drop (length p) l) same ∙ drop_at q t (length p) (sym long),
)

-- two rows of records at the front of one file: they are the same, or one goes on where the other ends
pub record GoesOn (a b : List (List ℕ)) (x y : List ℕ) : Type 0 where
  pub body : List ℕ
  pub bodies : List (List ℕ)
  pub is : b ≡ a ++ body ∷ bodies
  pub behind : x ≡ spelled (body ∷ bodies) ++ y

pub record_parts : (body : List ℕ) (bodies : List (List ℕ)) (x : List ℕ) → spelled (body ∷ bodies) ++ x ≡ open_gate ∷ (length_bytes (length body) ++ (body ++ (spelled bodies ++ x)))
record_parts body bodies x =
    ap (λ (l : List ℕ). open_gate ∷ l) (append_assoc (length_bytes (length body)) (body ++ spelled bodies) x ∙ ap (λ (l : List ℕ). length_bytes (length body) ++ l) (append_assoc body (spelled bodies) x))

tails : (m n : ℕ) (s t : List ℕ) → m ∷ s ≡ n ∷ t → s ≡ t
tails m n s t same = cc

pub compared : (a b : List (List ℕ)) (x y : List ℕ) → AreBodies a → AreBodies b → spelled a ++ x ≡ spelled b ++ y → ((a ≡ b) × (x ≡ y)) ⊎ (GoesOn a b x y ⊎ GoesOn b a y x)
compared [] [] x y a_are b_are same = inl (refl, same)
compared [] (body ∷ b) x y a_are b_are same = inr (inl (record { body = body; bodies = b; is = refl; behind = same }))
compared (body ∷ a) [] x y a_are b_are same = inr (inr (record { body = body; bodies = a; is = refl; behind = sym same }))
compared (p ∷ a) (q ∷ b) x y a_are b_are same =
    let whole : length_bytes (length p) ++ (p ++ (spelled a ++ x)) ≡ length_bytes (length q) ++ (q ++ (spelled b ++ y)) =
    tails open_gate open_gate _ _ (sym (record_parts p a x) ∙ same ∙ record_parts q b y) in
    let lengths = same_parts (length_bytes (length p)) (length_bytes (length q)) _ _ (length-length_bytes (length p) ∙ sym (length-length_bytes (length q))) whole in
    let size : length p ≡ length q = length_bytes-injective (length p) (length q) (omega (arith, a_are.0)) (omega (arith, b_are.0)) lengths.0 in
    let bodies = same_parts p q _ _ size lengths.1 in
    ⊎_elim
    (λ both. inl (ap (λ (l : List (List ℕ)). p ∷ l) both.0 ∙ ap (λ (body : List ℕ). body ∷ b) bodies.0, both.1))
    (λ other. inr (⊎_elim
    (λ longer. inl (record { body = longer.body; bodies = longer.bodies; is = ap (λ (l : List (List ℕ)). q ∷ l) longer.is ∙ ap (λ (body : List ℕ). body ∷ (a ++ longer.body ∷ longer.bodies)) (sym bodies.0); behind = longer.behind }))
    (λ longer. inr (record { body = longer.body; bodies = longer.bodies; is = ap (λ (l : List (List ℕ)). p ∷ l) longer.is ∙ ap (λ (body : List ℕ). body ∷ (b ++ longer.body ∷ longer.bodies)) bodies.0; behind = longer.behind }))
    other))
    (compared a b x y a_are.1 b_are.1 bodies.1)

-- a closed gate begins no record
pub closed_ends : (a b : List (List ℕ)) (gate : ℕ) (rest y : List ℕ) → gate ≢ open_gate → GoesOn a b (gate ∷ rest) y → ⊥
closed_ends a b gate rest y closed on =
    let same : gate ≡ open_gate = heads gate open_gate _ _ on.behind in closed same
  where
    heads : (m n : ℕ) (s t : List ℕ) → m ∷ s ≡ n ∷ t → m ≡ n
    heads m n s t same = cc

pub bodies_part : (a : List (List ℕ)) (body : List ℕ) (bodies : List (List ℕ)) → AreBodies (a ++ body ∷ bodies) → length body ≤ longest_body
bodies_part [] body bodies are = are.0
bodies_part (b ∷ a) body bodies are = bodies_part a body bodies are.1

-- nor does an open gate behind which none fits, where the longer row lies within the limit and bytes stand behind it
pub unfit_ends : (limit at : ℕ) (a b : List (List ℕ)) (rest y : List ℕ) → at ≡ length (spelled a) → ((n : ℕ) → Fits limit at rest n → ⊥) → AreBodies b → length (spelled b) < limit → 0 < length y → GoesOn a b (open_gate ∷ rest) y → ⊥
unfit_ends limit at a b rest y place unfit b_are within some on =
    let n = length on.body in
    let parts : rest ≡ length_bytes n ++ (on.body ++ (spelled on.bodies ++ y)) = tails open_gate open_gate _ _ (on.behind ∙ record_parts on.body on.bodies y) in
    let size : length (spelled b) ≡ length (spelled a) + 5 + n + length (spelled on.bodies) = ap (λ (l : List (List ℕ)). length (spelled l)) on.is ∙ length-spelled-at a on.bodies on.body in
    let four = length-length_bytes n in
    unfit n (record {
      spelled_so = ap (λ (l : List ℕ). take 4 l) parts ∙ take_at (length_bytes n) (on.body ++ (spelled on.bodies ++ y)) 4 four;
      in_bounds = bodies_part a on.body on.bodies (subst AreBodies on.is b_are);
      in_file = omega (arith, ap (length {A = ℕ}) parts, four, length-append (length_bytes n) (on.body ++ (spelled on.bodies ++ y)), length-append on.body (spelled on.bodies ++ y), length-append (spelled on.bodies) y, some);
      in_limit = omega (arith, size, place, within);
    })

-- a file that holds no more than a byte spells no record
short_list : (limit : ℕ) (file : List ℕ) (records : List (List ℕ)) → IsShort file → HasRecords limit file records → records ≡ []
short_list limit file [] short has = refl
short_list limit file (body ∷ bodies) short has =
    let s = has.spells in
    absurd (omega (arith, short, ap (length {A = ℕ}) s.is, length-append (spelled (body ∷ bodies)) (s.gate ∷ s.rest)))

pub one_list : (limit : ℕ) (file : List ℕ) (a b : List (List ℕ)) → HasList limit file a → HasList limit file b → a ≡ b
one_list limit file a b (inl short) (inl short') = short.1 ∙ sym short'.1
one_list limit file a b (inl short) (inr has) = short.1 ∙ sym (short_list limit file b short.0 has)
one_list limit file a b (inr has) (inl short) = short_list limit file a short.0 has ∙ sym short.1
one_list limit file a b (inr has) (inr has') =
    let s = has.spells in
    let t = has'.spells in
    ⊎_elim
    (λ both. both.0)
    (λ other. absurd (⊎_elim (closed_ends a b s.gate s.rest _ s.closed) (closed_ends b a t.gate t.rest _ t.closed) other))
    (compared a b (s.gate ∷ s.rest) (t.gate ∷ t.rest) has.bodies has'.bodies (sym s.is ∙ t.is))

pub list_or_damaged : (limit : ℕ) (file : List ℕ) (records : List (List ℕ)) (at : ℕ) → HasList limit file records → IsDamaged limit file at → ⊥
list_or_damaged limit file records at (inl short) damaged = omega (arith, short.0, damaged.not_short)
list_or_damaged limit file records at (inr has) damaged =
    let s = has.spells in
    ⊎_elim
    (λ both. closed_same s.gate open_gate s.rest damaged.rest s.closed both.1)
    (λ other. ⊎_elim
    (closed_ends records damaged.front s.gate s.rest _ s.closed)
    (unfit_ends limit at damaged.front records damaged.rest (s.gate ∷ s.rest) damaged.place damaged.unfit has.bodies has.within (omega arith))
    other)
    (compared records damaged.front (s.gate ∷ s.rest) (open_gate ∷ damaged.rest) has.bodies damaged.bodies (sym s.is ∙ damaged.is))
  where
    closed_same : (m n : ℕ) (s t : List ℕ) → m ≢ n → m ∷ s ≡ n ∷ t → ⊥
    closed_same m n s t differ same = differ (let head : m ≡ n = cc in head)

pub one_damage : (limit : ℕ) (file : List ℕ) (at at' : ℕ) → IsDamaged limit file at → IsDamaged limit file at' → at ≡ at'
one_damage limit file at at' d e = ⊎_elim
    (λ both. d.place ∙ ap (λ (l : List (List ℕ)). length (spelled l)) both.0 ∙ sym e.place)
    (λ other. absurd (⊎_elim
    (unfit_ends limit at d.front e.front d.rest (open_gate ∷ e.rest) d.place d.unfit e.bodies (omega (arith, e.place, e.within)) (omega arith))
    (unfit_ends limit at' e.front d.front e.rest (open_gate ∷ d.rest) e.place e.unfit d.bodies (omega (arith, d.place, d.within)) (omega arith))
    other))
    (compared d.front e.front (open_gate ∷ d.rest) (open_gate ∷ e.rest) d.bodies e.bodies (sym d.is ∙ e.is))
