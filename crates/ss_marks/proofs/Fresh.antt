-- Marks of no rows, and with more room.
use Rattle.std.proofs.Common.{◌≡◌, ◌≢◌, ℕ, ◌-◌, ◌<◌, ◌≤◌, ◌^◌, List, [], length, get_or, Some, sym, ap, subst, ◌∙◌, arith}
use Rattle.std.specs.Prelude.{option_map, IsSome, vec_capacity}
use Rattle.std.specs.FinMap as finite_map
use Rattle.std.proofs.lemmas.Option.{none-some}
use Rattle.std.proofs.lemmas.Bool.{true≢false}
use Rattle.std.specs.Ordering.{nat_cmp}
use Rattle.std.specs.Cmp.Lexicographic.{slice_cmp}
use Rattle.ss_marks.specs.declared.colour.Colour.{Colour}
use Rattle.ss_marks.specs.declared.colour.Colour.TheVariants.{Grey, Out}
use Rattle.ss_marks.specs.declared.row.Row.{Row}
use Rattle.ss_marks.specs.declared.stack.Stack.{Stack}
use Rattle.ss_marks.specs.declared.marks.Marks.TheInside.{Inside}
use Rattle.ss_marks.specs.Marks.{Mark, count_in}
use Rattle.ss_marks.specs.Rows.{row_at, HasCid, marks_of, IsVacant, IsStack}
use Rattle.ss_marks.specs.Index.{IsChained, Indexes, slot_at}
use Rattle.ss_marks.specs.Sound.{IsSound, IsGrey}
use Rattle.ss_marks.proofs.Rows.{coloured_within}
use Rattle.ss_marks.proofs.Colours.{count_of_none}
use Rattle.ss_marks.proofs.Changes.{live_of}
use Rattle.ss_marks.proofs.Stacks.{same_stack}

none_in_empty : (colour : Colour) → count_in colour finite_map.empty ≡ 0
none_in_empty colour = count_of_none colour finite_map.empty (λ cid is. none-some colour (sym (ap (option_map (λ (mark : Mark). mark.colour)) (finite_map.get-empty (slice_cmp nat_cmp) cid)) ∙ is))

module _ (rows : List Row) (none : rows ≡ []) where
  no_cid : (k : ℕ) (q : List ℕ) → HasCid rows k q → ⊥
  no_cid k q has = true≢false (sym (subst (λ xs. IsSome (row_at xs k).colour) none has.live))

  no_slot : (n k s : ℕ) → slot_at rows n k ≡ Some s → ⊥
  no_slot n k s is = none-some s (subst (λ xs. slot_at xs n k ≡ Some s) none is)

  no_chains : (heads below : List ℕ) → heads ≡ [] → below ≡ [] → IsChained (slot_at rows (length heads)) heads below
  no_chains heads below no_heads no_below =
      let head : (s : ℕ) → get_or heads s 0 ≡ 0 = λ s. ap (λ xs. get_or xs s 0) no_heads in
      let link : (r : ℕ) → get_or below r 0 ≡ 0 = λ r. ap (λ xs. get_or xs r 0) no_below in
      record {
        falling = record { tops = λ s. omega (arith, head s); falls = λ r. omega (arith, link r) };
        within = λ r s is. absurd (no_slot (length heads) r s is);
        head = λ s _. record { bound = omega (arith, head s); here = λ some. absurd (omega (arith, head s)); none = λ r _ _ is. no_slot (length heads) r s is };
        next = λ r s is. absurd (no_slot (length heads) r s is);
      }

pub fresh_sound : (m : Inside) → m.rows.items ≡ [] → m.index.heads.items ≡ [] → m.index.below.items ≡ [] → m.vacant.len ≡ 0 → m.greys.len ≡ 0 → m.live ≡ 0 → m.out ≡ 0 → m.limit < 2 ^ 32 → IsSound m
fresh_sound m rows heads below vacant greys live out small =
    let no_rows = ap length rows in
    let no_heads = ap length heads in
    let no_below = ap length below in
    record {
      distinct = λ a b q x y. absurd (no_cid m.rows.items rows a q x);
      index = no_chains m.rows.items rows m.index.heads.items m.index.below.items heads below;
      vacant = subst (λ n. IsStack (IsVacant m.rows.items) m.links.items n m.vacant.top) (sym vacant) tt;
      greys = subst (λ n. IsStack (IsGrey m.rows.items) m.links.items n m.greys.top) (sym greys) tt;
      live = live ∙ sym (ap (λ xs. finite_map.len (marks_of xs)) rows ∙ finite_map.len-empty (slice_cmp nat_cmp) Mark);
      grey = greys ∙ sym (ap (λ xs. count_in Grey (marks_of xs)) rows ∙ none_in_empty Grey);
      out = out ∙ sym (ap (λ xs. count_in Out (marks_of xs)) rows ∙ none_in_empty Out);
      used = omega (arith, live, vacant, no_rows);
      rows = omega (arith, no_rows);
      links = omega (arith, no_heads);
      below = omega (arith, no_heads, no_below);
      room = omega (arith, no_heads);
      limit = omega (arith, no_heads);
      small = small;
    }

pub grown_sound : (m m' : Inside) → IsSound m → m'.rows.items ≡ m.rows.items → ((k : ℕ) → k < length m.rows.items → get_or m'.links.items k 0 ≡ get_or m.links.items k 0)
    → m'.vacant ≡ m.vacant → m'.greys ≡ m.greys → m'.live ≡ m.live → m'.out ≡ m.out → m'.limit ≡ m.limit
    → Indexes m.rows.items m'.index → length m.rows.items ≤ length m'.index.heads.items → length m'.index.heads.items ≤ length m'.links.items
    → length m'.index.below.items ≡ length m'.index.heads.items → length m'.index.heads.items ≤ vec_capacity m'.rows → length m'.index.heads.items ≤ m.limit → IsSound m'
grown_sound m m' sound rows kept vacant greys live out limit index in_heads in_links below room in_limit =
    let old = m.rows.items in
    record {
      distinct = λ a b q x y. sound.distinct a b q (subst (λ xs. HasCid xs a q) rows x) (subst (λ xs. HasCid xs b q) rows y);
      index = subst (λ xs. Indexes xs m'.index) (sym rows) index;
      vacant = subst (λ xs. IsStack (IsVacant xs) m'.links.items m'.vacant.len m'.vacant.top) (sym rows)
          (subst (λ (x : Stack). IsStack (IsVacant old) m'.links.items x.len x.top) (sym vacant)
          (same_stack (IsVacant old) (IsVacant old) m.links.items m'.links.items (λ k v. v) (λ k v. kept k v.within) m.vacant.len m.vacant.top sound.vacant));
      greys = subst (λ xs. IsStack (IsGrey xs) m'.links.items m'.greys.len m'.greys.top) (sym rows)
          (subst (λ (x : Stack). IsStack (IsGrey old) m'.links.items x.len x.top) (sym greys)
          (same_stack (IsGrey old) (IsGrey old) m.links.items m'.links.items (λ k g. g) (λ k g. kept k (coloured_within old k (live_of _ Grey g))) m.greys.len m.greys.top sound.greys));
      live = live ∙ sound.live ∙ sym (ap (λ xs. finite_map.len (marks_of xs)) rows);
      grey = ap (λ (x : Stack). x.len) greys ∙ sound.grey ∙ sym (ap (λ xs. count_in Grey (marks_of xs)) rows);
      out = out ∙ sound.out ∙ sym (ap (λ xs. count_in Out (marks_of xs)) rows);
      used = omega (arith, live, ap (λ (x : Stack). x.len) vacant, sound.used, ap length rows);
      rows = omega (arith, in_heads, ap length rows);
      links = in_links;
      below = below;
      room = room;
      limit = omega (arith, in_limit, limit);
      small = omega (arith, sound.small, limit);
    }
