-- Buckets and pointers, read one entry after another.
use Rattle.std.proofs.Common.{◌≡◌, ◌≢◌, ℕ, zero, suc, ◌+◌, ◌<◌, ◌≤◌, Bool, true, false, cond, ltb, lt-ltb, List, [], ◌∷◌, ◌++◌, length, map, Option, Some, None, option_map, option_copied, Bor, refl, sym, ap, ◌∙◌, arith, slice_get}
use Rattle.std.specs.Option.{option_or}
use Rattle.std.proofs.lemmas.Option.{none-some, some_pair_parts, slice_get-map}
use Rattle.std.specs.Prelude.{nat_eq}
use Rattle.std.specs.Cmp.Lexicographic.{pointwise}
use Rattle.ss_cbor.specs.{Options.{◌>>=◌}, Position.{Position, Reads, Takes}, Reading.{count_from, link_from}}
use Rattle.ss_node.specs.Rows.{many_from, array_from, Picks}
use Rattle.ss_node.proofs.Rows.{Taking, taking-start, taking-next, taking-stop, taking-end, many-length}
use Rattle.ss_hamt.specs.Node.{Pointer, link, bucket, entry_from, bucket_from, pointer_from, value_of, found_by, found_of}
use Rattle.ss_hamt.specs.Paths.{Seeks, PicksPointer, ReadsPointer}
use Rattle.ss_hamt.specs.declared.found.Found.{Found}
use Rattle.ss_hamt.specs.declared.pointer.Entry.{Entry}

abbrev Pair : Type 0
Pair = List ℕ × List ℕ

-- ---- the value of the first entry with a key

-- one entry more
value_of-push : (key : List ℕ) (entries : List Pair) (e : Pair) → value_of key (entries ++ e ∷ []) ≡ option_or (value_of key entries) (cond (pointwise nat_eq key e.0) (Some e.1) None)
value_of-push key [] e = refl
value_of-push key (f ∷ entries) e = chosen (pointwise nat_eq key f.0) (value_of-push key entries e)
  where
    chosen : (b : Bool) → value_of key (entries ++ e ∷ []) ≡ option_or (value_of key entries) (cond (pointwise nat_eq key e.0) (Some e.1) None) →
        cond b (Some f.1) (value_of key (entries ++ e ∷ [])) ≡ option_or (cond b (Some f.1) (value_of key entries)) (cond (pointwise nat_eq key e.0) (Some e.1) None)
    chosen true h = refl
    chosen false h = h

or_none : {A : Type 0} (o : Option A) → option_or o None ≡ o
or_none None = refl
or_none (Some x) = refl

or_copied : (o : Option (Bor (List ℕ))) (b : Bor (List ℕ)) → option_copied (option_or o (Some b)) ≡ option_or (option_copied o) (Some b.now)
or_copied None b = refl
or_copied (Some x) b = refl

abbrev pub pair_of : Bor (List ℕ) × Bor (List ℕ) → Pair
pair_of e = (e.0.now, e.1.now)

-- i of n entries were read, and this is the value of the first with the key
pub record Seeking (key : List ℕ) (n i : ℕ) (first now : Position) (found : Option (Bor (List ℕ))) : Type 0 where
  pub taken : List Pair
  pub row : Taking entry_from n i first now taken
  pub here : option_copied found ≡ value_of key taken

pub seeking-start : (key : List ℕ) (n : ℕ) (first : Position) → Seeking key n 0 first first None
seeking-start key n first = record { taken = []; row = taking-start entry_from n first; here = refl }

module _ (key : List ℕ) (n i : ℕ) (first now : Position) (found : Option (Bor (List ℕ))) (s : Seeking key n i first now found) where
  next-row : (next : Position) (x : Bor (List ℕ) × Bor (List ℕ)) → i < n → Reads pair_of entry_from now next (Some x) → Taking entry_from n (i + 1) first next (s.taken ++ pair_of x ∷ [])
  next-row next x lt reads = taking-next pair_of entry_from n i first now s.taken s.row next x lt reads

  pub seeking-same : (next : Position) (x : Bor (List ℕ) × Bor (List ℕ)) → i < n → pointwise nat_eq key x.0.now ≡ true → Reads pair_of entry_from now next (Some x) →
      Seeking key n (i + 1) first next (option_or found (Some x.1))
  seeking-same next x lt same reads = record {
    taken = s.taken ++ pair_of x ∷ [];
    row = next-row next x lt reads;
    here = or_copied found x.1 ∙ ap (λ o. option_or o (Some x.1.now)) s.here ∙ sym (value_of-push key s.taken (pair_of x) ∙ rw same refl);
  }

  pub seeking-other : (next : Position) (x : Bor (List ℕ) × Bor (List ℕ)) → i < n → pointwise nat_eq key x.0.now ≡ false → Reads pair_of entry_from now next (Some x) → Seeking key n (i + 1) first next found
  seeking-other next x lt differs reads = record {
    taken = s.taken ++ pair_of x ∷ [];
    row = next-row next x lt reads;
    here = s.here ∙ sym (value_of-push key s.taken (pair_of x) ∙ rw differs (or_none (value_of key s.taken)));
  }

  pub seeking-stop : (next : Position) → i < n → Reads pair_of entry_from now next None → Seeks key n first next None
  seeking-stop next lt reads = record { value = taking-stop pair_of entry_from n i first now s.taken s.row next lt reads; end = reads.end ∙ s.row.end }

  pub seeking-end : n ≤ i → Seeks key n first now (Some found)
  seeking-end le = record { value = (s.taken, taking-end entry_from n i first now s.taken s.row le, s.here); end = s.row.end }

-- ---- a pointer

abbrev pub same_cid : List ℕ → List ℕ
same_cid cid = cid

abbrev pub same_number : ℕ → ℕ
same_number n = n

pub pointer-link : (key : List ℕ) (old new : Position) (child : List ℕ) → Takes same_cid link_from old new (Some child) → ReadsPointer key old new (Some (Entry.Child child))
unfolding pointer_from
pointer-link key old new child takes = record { value = (link child, rw takes.value refl, refl); end = takes.end }

module _ (key : List ℕ) (old p1 : Position) (refused : Takes {X = List ℕ} same_cid link_from old p1 None) where
  pub as_bucket : pointer_from old.end old.rest ≡ bucket_from p1.end p1.rest
  unfolding pointer_from
  as_bucket = rw (refused.stays, refused.value) refl

  pub pointer-no_count : (p2 : Position) → Takes same_number count_from p1 p2 None → ReadsPointer key old p2 None
  unfolding bucket_from array_from
  pointer-no_count p2 takes = record { value = as_bucket ∙ rw takes.value refl; end = takes.end ∙ refused.end }

  pub pointer-empty : (p2 : Position) (n : ℕ) → n ≡ 0 → Takes same_number count_from p1 p2 (Some n) → ReadsPointer key old p2 None
  unfolding bucket_from array_from many_from
  pointer-empty p2 n none takes = record { value = as_bucket ∙ rw (takes.value, none) refl; end = takes.end ∙ refused.end }

  pub bucket-by : (p2 : Position) (n : ℕ) → Takes same_number count_from p1 p2 (Some n) →
      bucket_from p1.end p1.rest ≡ (many_from entry_from n p2.end p2.rest >>= λ entries. cond (ltb 0 (length entries.0)) (Some (bucket entries.0, entries.1)) None)
  unfolding bucket_from array_from
  bucket-by p2 n takes = rw (takes.value, takes.end) refl

  pub pointer-no_entry : (p2 p3 : Position) (n : ℕ) → Takes same_number count_from p1 p2 (Some n) → Seeks key n p2 p3 None → ReadsPointer key old p3 None
  pointer-no_entry p2 p3 n takes seeks = record { value = as_bucket ∙ bucket-by p2 n takes ∙ rw seeks.value refl; end = seeks.end ∙ takes.end ∙ refused.end }

  pub pointer-bucket : (p2 p3 : Position) (n : ℕ) (value : Option (Bor (List ℕ))) → n ≢ 0 → Takes same_number count_from p1 p2 (Some n) → Seeks key n p2 p3 (Some value) → ReadsPointer key old p3 (Some (Entry.Value value))
  pointer-bucket p2 p3 n value some takes seeks =
      let entries = seeks.value.0 in
      let count : length entries ≡ n = many-length entry_from n p2.end p2.rest entries p3.rest seeks.value.1 in
      let few : ltb 0 (length entries) ≡ true = lt-ltb 0 (length entries) (omega arith) in
      record {
        value = (bucket entries, as_bucket ∙ bucket-by p2 n takes ∙ rw (seeks.value.1, few) refl, ap Found.Value seeks.value.2);
        end = seeks.end ∙ takes.end ∙ refused.end;
      }

-- ---- a row of pointers

abbrev found_with : List ℕ → Pointer × List ℕ → Found × List ℕ
found_with key x = (found_by key x.0, x.1)

-- what a pointer has for a key, and what follows it
unfoldable pub found_from : List ℕ → ℕ → List ℕ → Option (Found × List ℕ)
found_from key end bytes = option_map (found_with key) (pointer_from end bytes)

pub pointer-read : (key : List ℕ) (old new : Position) (entry : Entry) → ReadsPointer key old new (Some entry) → Reads found_of (found_from key) old new (Some entry)
unfolding found_from
pointer-read key old new entry reads = record { value = rw reads.value.1 (ap (λ f. Some (f, new.rest)) (sym reads.value.2)); end = reads.end }

pub pointer-unread : (key : List ℕ) (old new : Position) → ReadsPointer key old new None → Reads {X = Entry} found_of (found_from key) old new None
unfolding found_from
pointer-unread key old new reads = record { value = rw reads.value refl; end = reads.end }

abbrev mapped : List ℕ → Option (List Pointer × List ℕ) → Option (List Found × List ℕ)
mapped key row = option_map (λ r. (map (found_by key) r.0, r.1)) row

joined : (key : List ℕ) (p : Pointer) (row : Option (List Pointer × List ℕ)) →
    (mapped key row >>= λ others. Some (found_by key p ∷ others.0, others.1)) ≡ mapped key (row >>= λ others. Some (p ∷ others.0, others.1))
joined key p None = refl
joined key p (Some r) = refl

one_more : (key : List ℕ) (n end : ℕ) → ((bytes : List ℕ) → many_from (found_from key) n end bytes ≡ mapped key (many_from pointer_from n end bytes)) → (first : Option (Pointer × List ℕ)) →
    (option_map (found_with key) first >>= λ f. many_from (found_from key) n end f.1 >>= λ others. Some (f.0 ∷ others.0, others.1))
    ≡ mapped key (first >>= λ f. many_from pointer_from n end f.1 >>= λ others. Some (f.0 ∷ others.0, others.1))
one_more key n end ih None = refl
one_more key n end ih (Some f) = rw (ih f.1) (joined key f.0 (many_from pointer_from n end f.1))

many-found : (key : List ℕ) (n end : ℕ) (bytes : List ℕ) → many_from (found_from key) n end bytes ≡ mapped key (many_from pointer_from n end bytes)
unfolding many_from found_from
many-found key zero end bytes = refl
many-found key (suc n) end bytes = one_more key n end (many-found key n end) (pointer_from end bytes)

mapped-none : (key : List ℕ) (row : Option (List Pointer × List ℕ)) → mapped key row ≡ None → row ≡ None
mapped-none key None h = refl
mapped-none key (Some r) h = absurd (none-some _ (sym h))

mapped-some : (key : List ℕ) (row : Option (List Pointer × List ℕ)) (found : List Found) (rest : List ℕ) → mapped key row ≡ Some (found, rest) →
    (pointers : List Pointer) × (row ≡ Some (pointers, rest)) × (found ≡ map (found_by key) pointers)
mapped-some key None found rest h = absurd (none-some _ h)
mapped-some key (Some r) found rest h =
    let parts = some_pair_parts (map (found_by key) r.0) found r.1 rest h in
    (r.0, ap (λ (b : List ℕ). Some (r.0, b)) parts.1, sym parts.0)

pub picks-pointer : (key : List ℕ) (n index : ℕ) (old new : Position) (answer : Option (Option Entry)) → Picks found_of (found_from key) n index old new answer → PicksPointer key n index old new answer
picks-pointer key n index old new None picks = record { value = mapped-none key _ (sym (many-found key n old.end old.rest) ∙ picks.value); end = picks.end }
picks-pointer key n index old new (Some picked) picks =
    let row = mapped-some key _ picks.value.0 new.rest (sym (many-found key n old.end old.rest) ∙ picks.value.1) in
    record { value = (row.0, row.1, picks.value.2 ∙ ap (λ f. slice_get f index) row.2 ∙ slice_get-map (found_by key) row.0 index); end = picks.end }
