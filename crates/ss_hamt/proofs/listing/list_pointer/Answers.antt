use Rattle.std.proofs.Common.{◌≡◌, [], true, refl, ◌∙◌, length, ltb, lt-ltb, arith}
use Rattle.std.proofs.lemmas.Result.{err_from_is_err_and}
use Rattle.ss_node.proofs.Rows.{many-length}
use Rattle.ss_hamt.specs.Node.{link, bucket, entry_from, pointer_from}
use Rattle.ss_hamt.proofs.Buckets.{pointer-no_count, pointer-empty, as_bucket, bucket-by}
use Rattle.ss_hamt.proofs.Listed.{bucket-fault}
use Rattle.ss_hamt.proofs.listing.list_pointer.Goals as goal

pub returns-in-Some : goal.returns-in-Some
unfolding pointer_from
returns-in-Some c = (link c.in-Some.cid, rw c.in-Some.ensures.value refl, c.in-Some.ensures.end, c.in_ok-push.ensures.ok, refl)

pub returns-in_default-array : goal.returns-in_default-array
returns-in_default-array c = (pointer-no_count [] _ _ c.in_default.ensures _ c.in_default-array.ensures).value

pub returns-then-n-eq0 : goal.returns-then-n-eq0
returns-then-n-eq0 c = (pointer-empty [] _ _ c.in_default.ensures _ _ c.if-n-eq0.true c.in-Some-array.ensures).value

pub returns-in_err-list_entries : goal.returns-in_err-list_entries
returns-in_err-list_entries c =
    let p = err_from_is_err_and c.from_residual-in_err-list_entries.result c.from_residual-in_err-list_entries.ensures.1 in
    rw (p.1, p.2) (bucket-fault c.args.level c.in-Some-array.n _ _ c.list_entries.new.cursor c.args.pending.now.items c.list_entries.new.pending.items _
    (λ none. as_bucket [] _ _ c.in_default.ensures ∙ bucket-by [] _ _ c.in_default.ensures _ _ c.in-Some-array.ensures ∙ rw none refl) c.in_err-list_entries.ensures)

pub returns : goal.returns
returns c =
    let entries = c.in_ok-list_entries.ensures in
    let count : length entries.0 ≡ c.in-Some-array.n = many-length entry_from _ _ _ entries.0 _ entries.1 in
    let some : ltb 0 (length entries.0) ≡ true = lt-ltb 0 (length entries.0) (omega (arith, count, c.if-n-eq0.false)) in
    let reads = as_bucket [] _ _ c.in_default.ensures ∙ bucket-by [] _ _ c.in_default.ensures _ _ c.in-Some-array.ensures ∙ rw (entries.1, some) refl in
    (bucket entries.0, reads, entries.2 ∙ c.in-Some-array.ensures.end ∙ c.in_default.ensures.end, entries.3, refl)
