-- Steps of a stream that exposes its contents, one after another. A stream that does not meets each of them.
use Rattle.std.proofs.Common.{◌≡◌, ℕ, ◌-◌, List, [], ◌++◌, length, take, drop, refl, ◌∙◌, ap, append_assoc, length-drop}
use Rattle.std.specs.Prelude.{Option, None, Some, Result, Ok, Err, is_err, true}
use Rattle.std.proofs.lemmas.List.{append-nil, take-append-drop}
use Rattle.std.proofs.Math.Seq.{take-length}
use Rattle.std.specs.Io.KnownBytes.{Keeps, Appends, Consumes, ReadConsumes}
use Rattle.ss_io.specs.Streams.{AppendsFront, PutAppends}

pub Keeps-same : (old : Option (List ℕ)) → Keeps old old
Keeps-same None = tt
Keeps-same (Some xs) = refl

pub Keeps-twice : (a b c : Option (List ℕ)) → Keeps a b → Keeps b c → Keeps a c
Keeps-twice None b c p q = tt
Keeps-twice (Some l) None c p q = absurd p
Keeps-twice (Some l) (Some m) None p q = q
Keeps-twice (Some l) (Some m) (Some n) p q = cc

pub Appends-none : (old new : Option (List ℕ)) → Keeps old new → Appends old new []
Appends-none None new h = tt
Appends-none (Some xs) None h = h
Appends-none (Some xs) (Some ys) h = rw append-nil h

pub Keeps-then_Appends : (a b c : Option (List ℕ)) (xs : List ℕ) → Keeps a b → Appends b c xs → Appends a c xs
Keeps-then_Appends None b c xs p q = tt
Keeps-then_Appends (Some l) None c xs p q = absurd p
Keeps-then_Appends (Some l) (Some m) None xs p q = q
Keeps-then_Appends (Some l) (Some m) (Some n) xs p q = cc

pub Appends-append : (a b c : Option (List ℕ)) (xs ys : List ℕ) → Appends a b xs → Appends b c ys → Appends a c (xs ++ ys)
Appends-append None b c xs ys p q = tt
Appends-append (Some l) None c xs ys p q = absurd p
Appends-append (Some l) (Some m) None xs ys p q = q
Appends-append (Some l) (Some m) (Some n) xs ys p q = rw (← append_assoc, ← p) q

-- a put that comes after other bytes
pub PutAppends-append : {E : Type 0} (a b c : Option (List ℕ)) (xs ys : List ℕ) (result : Result (Unit {0}) E) →
    Appends a b xs → PutAppends b c result ys → PutAppends a c result (xs ++ ys)
PutAppends-append a b c xs ys (Ok x) p q = Appends-append a b c xs ys p q
PutAppends-append a b c xs ys (Err e) p (front, rest, split, grows) =
    (xs ++ front, rest, rw append_assoc (ap (λ l. xs ++ l) split), Appends-append a b c xs front p grows)

-- bytes of which a front was appended
pub AppendsFront-of : (a b : Option (List ℕ)) (front rest bytes : List ℕ) → bytes ≡ front ++ rest → Appends a b front → AppendsFront a b bytes
AppendsFront-of a b front rest bytes split grows = (front, rest, split, grows)

-- more bytes were to follow
pub AppendsFront-more : (a b : Option (List ℕ)) (bytes more : List ℕ) → AppendsFront a b bytes → AppendsFront a b (bytes ++ more)
AppendsFront-more a b bytes more (front, rest, split, grows) =
    (front, rest ++ more, ap (λ l. l ++ more) split ∙ append_assoc front rest more, grows)

-- a put that failed before the rest came
pub PutAppends-before : {E : Type 0} (a b : Option (List ℕ)) (xs ys : List ℕ) (result : Result (Unit {0}) E) →
    is_err result ≡ true → AppendsFront a b xs → PutAppends a b result (xs ++ ys)
PutAppends-before a b xs ys (Ok x) failed p = absurd (cc)
PutAppends-before a b xs ys (Err e) failed p = AppendsFront-more a b xs ys p

pub Keeps-then_Consumes : (a b c : Option (List ℕ)) (xs : List ℕ) → Keeps a b → Consumes b c xs → Consumes a c xs
Keeps-then_Consumes None b c xs p q = tt
Keeps-then_Consumes (Some l) None c xs p q = absurd p
Keeps-then_Consumes (Some l) (Some m) None xs p q = q
Keeps-then_Consumes (Some l) (Some m) (Some n) xs p q = cc

pub Consumes-append : (a b c : Option (List ℕ)) (xs ys : List ℕ) → Consumes a b xs → Consumes b c ys → Consumes a c (xs ++ ys)
Consumes-append None b c xs ys p q = tt
Consumes-append (Some l) None c xs ys p q = absurd p
Consumes-append (Some l) (Some m) None xs ys p q = q
Consumes-append (Some l) (Some m) (Some n) xs ys p q = rw (append_assoc, ← q) p

pub Keeps-then_ReadConsumes : {E : Type 0} (a b c : Option (List ℕ)) (result : Result ℕ E) (out : List ℕ) →
    Keeps a b → ReadConsumes b c result out → ReadConsumes a c result out
Keeps-then_ReadConsumes a b c (Ok n) out p q = (Keeps-then_Consumes a b c (take n out) p q.0, q.1)
Keeps-then_ReadConsumes a b c (Err e) out p q = Keeps-twice a b c p q

-- what is left of `rest` from n on, as a slice of it computes
rest_from : (n : ℕ) (rest : List ℕ) → take (length rest - n) (drop n rest) ≡ drop n rest
rest_from n rest = rw (← length-drop n rest) (take-length (drop n rest))

-- a loop over `bytes` that has appended a front of them, after n bytes more
pub Appends-onward : (a b c : Option (List ℕ)) (bytes rest : List ℕ) (n : ℕ) →
    (done : List ℕ) × (bytes ≡ done ++ rest) × Appends a b done → Appends b c (take n rest) →
    (done : List ℕ) × (bytes ≡ done ++ take (length rest - n) (drop n rest)) × Appends a c done
Appends-onward a b c bytes rest n (done, split, grows) more =
    (done ++ take n rest, rw (rest_from, append_assoc, take-append-drop) split, Appends-append a b c done (take n rest) grows more)

-- for a caller's goals on told bytes
pub ruleset told = (Keeps-same, Keeps-twice, Appends-none, Keeps-then_Appends, Appends-append, PutAppends-append, PutAppends-before, Keeps-then_Consumes, Consumes-append, Keeps-then_ReadConsumes)
