-- One put after another.
use Rattle.std.proofs.Common.{ℕ, List, [], ◌++◌, Option, Some, None, Result, Ok, Err, sym, ap, ◌∙◌, append_assoc, subst}
use Rattle.std.proofs.lemmas.List.{append-nil}
use Rattle.std.specs.Io.KnownBytes.{Appends, Keeps}
use Rattle.ss_io.proofs.Told.{Appends-none}
use Rattle.ss_io.specs.Streams.{AppendsFront, PutAppends}

pub appends_none : (w : Option (List ℕ)) → Appends w w []
appends_none None = tt
appends_none (Some xs) = sym (append-nil xs)

pub appends_more : (u v w : Option (List ℕ)) (xs ys : List ℕ) → Appends u v xs → Appends v w ys → Appends u w (xs ++ ys)
appends_more None v w xs ys first second = tt
appends_more (Some us) None w xs ys first second = absurd first
appends_more (Some us) (Some vs) None xs ys first second = absurd second
appends_more (Some us) (Some vs) (Some ws) xs ys first second = second ∙ ap (λ l. l ++ ys) first ∙ append_assoc us xs ys

-- what was written before a front is a longer front
pub front_behind : (u v w : Option (List ℕ)) (xs ys : List ℕ) → Appends u v xs → AppendsFront v w ys → AppendsFront u w (xs ++ ys)
front_behind u v w xs ys first second =
    (xs ++ second.0, second.1, ap (λ l. xs ++ l) second.2 ∙ sym (append_assoc xs second.0 second.1), appends_more u v w xs second.0 first second.3)

-- a front of some bytes is one of more
pub front_of_more : (u v : Option (List ℕ)) (xs ys : List ℕ) → AppendsFront u v xs → AppendsFront u v (xs ++ ys)
front_of_more u v xs ys h = (h.0, h.1 ++ ys, ap (λ l. l ++ ys) h.2 ∙ append_assoc h.0 h.1 ys, h.3)

-- all of the bytes are a front
pub front_whole : (u v : Option (List ℕ)) (xs : List ℕ) → Appends u v xs → AppendsFront u v xs
front_whole u v xs h = (xs, [], sym (append-nil xs), h)

pub put_behind : {E : Type 0} (u v w : Option (List ℕ)) (xs ys : List ℕ) (r : Result (Unit {0}) E) → Appends u v xs → PutAppends v w r ys → PutAppends u w r (xs ++ ys)
put_behind u v w xs ys (Ok x) first second = appends_more u v w xs ys first second
put_behind u v w xs ys (Err e) first second = front_behind u v w xs ys first second

-- the bytes were put, and what was written is kept
pub put_kept : {E : Type 0} (u v w : Option (List ℕ)) (xs : List ℕ) (r : Result (Unit {0}) E) → Appends u v xs → Keeps v w → PutAppends u w r xs
put_kept u v w xs (Ok x) first kept = subst (Appends u w) (append-nil xs) (appends_more u v w xs [] first (Appends-none v w kept))
put_kept u v w xs (Err e) first kept = front_whole u w xs (subst (Appends u w) (append-nil xs) (appends_more u v w xs [] first (Appends-none v w kept)))
