-- Rows for the blocks of an ordered map, as blocks are stored.
use Rattle.std.proofs.Common.{◌≡◌, ℕ, Bool, true, false, cond, List, [], Option, Some, None, is_some, refl, sym, ap, ◌∙◌}
use Rattle.std.specs.Prelude.{option_map}
use Rattle.std.specs.Ordering.{nat_cmp, eq_by_cmp}
use Rattle.std.specs.Cmp.{eq_by_cmp_equiv}
use Rattle.std.specs.Cmp.Lexicographic.{slice_cmp, nat_list_cmp_total}
use Rattle.std.specs.BTreeMap.{BTreeMap, get}
use Rattle.std.specs.FinMap as finite_map
use Rattle.ss_marks.specs.declared.colour.Colour.TheVariants.{White}
use Rattle.ss_marks.specs.Marks.{Mark, MarkTable}
use Rattle.ss_txn.specs.Marked.{KeepsRows, HasRowsOf}
use Rattle.ss_marking_suite.specs.Rows.{has_block}

-- there is one row for each block, and no other row
abbrev pub HasRowsFor : BTreeMap (List ℕ) (List ℕ) → MarkTable → Type 0
HasRowsFor blocks marks = HasRowsOf (has_block blocks) marks

some_row : (o : Option Mark) → is_some (option_map (λ (m : Mark). m.row) o) ≡ is_some o
some_row None = refl
some_row (Some m) = refl

cond_some : {A B : Type 0} (b : Bool) (x : A) (o : Option A) (y : B) (p : Option B) → is_some o ≡ is_some p → is_some (cond b (Some x) o) ≡ is_some (cond b (Some y) p)
cond_some true x o y p same = refl
cond_some false x o y p same = same

-- a block is stored, with a row
pub rows_more : (old ready new : MarkTable) (row : ℕ) (cid block : List ℕ) (before after : BTreeMap (List ℕ) (List ℕ)) → ready.marks ≡ old.marks
    → new.marks ≡ finite_map.insert ready.marks cid (record { row = row; colour = White })
    → ((q : List ℕ) → get (slice_cmp nat_cmp) after q ≡ cond (eq_by_cmp (slice_cmp nat_cmp) cid q) (Some block) (get (slice_cmp nat_cmp) before q))
    → HasRowsFor before old → HasRowsFor after new
rows_more old ready new row cid block before after same added updates rows q =
    let mark : Mark = record { row = row; colour = White } in
    ap (λ m. is_some (option_map (λ (x : Mark). x.row) (finite_map.get m q))) (added ∙ ap (λ m. finite_map.insert m cid mark) same)
    ∙ some_row (finite_map.get (finite_map.insert old.marks cid mark) q)
    ∙ ap is_some (finite_map.get-insert nat_list_cmp_total old.marks cid mark q)
    ∙ ap (λ b. is_some (cond b (Some mark) (finite_map.get old.marks q))) ((eq_by_cmp_equiv nat_list_cmp_total).symm q cid)
    ∙ cond_some (eq_by_cmp (slice_cmp nat_cmp) cid q) mark (finite_map.get old.marks q) block (get (slice_cmp nat_cmp) before q) (sym (some_row (finite_map.get old.marks q)) ∙ rows q)
    ∙ ap is_some (sym (updates q))

-- no row is added or removed, and no block
pub rows_stay : (old new : MarkTable) (before after : BTreeMap (List ℕ) (List ℕ)) → KeepsRows old new → has_block after ≡ has_block before → HasRowsFor before old → HasRowsFor after new
rows_stay old new before after keeps same rows cid = ap is_some (keeps cid) ∙ rows cid ∙ ap (λ (h : List ℕ → Bool). h cid) (sym same)

-- nothing is stored
pub rows_none : (marks : MarkTable) (blocks : BTreeMap (List ℕ) (List ℕ)) → marks.marks ≡ finite_map.empty → blocks.entries ≡ [] → HasRowsFor blocks marks
rows_none marks blocks no_mark no_block cid =
    ap (λ m. is_some (option_map (λ (x : Mark). x.row) (finite_map.get m cid))) no_mark
    ∙ some_row (finite_map.get finite_map.empty cid)
    ∙ ap is_some (finite_map.get-empty (slice_cmp nat_cmp) cid)
    ∙ rw no_block refl
