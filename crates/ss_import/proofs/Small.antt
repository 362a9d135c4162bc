-- No block of a state that a file has is longer than a block may be.
use Rattle.std.proofs.Common.{◌≡◌, ℕ, suc, Bool, true, false, cond, List, [], ◌∷◌, All, Option, Some, None, sym, ◌∙◌, subst, arith}
use Rattle.std.specs.Ordering.{nat_cmp, eq_by_cmp}
use Rattle.std.specs.Cmp.Lexicographic.{slice_cmp, nat_list_cmp_total}
use Rattle.std.specs.FinMap as finite_map
use Rattle.std.specs.FinMap.{get-empty, get-remove}
use Rattle.ss_device.specs.Disk.{Files}
use Rattle.ss_records.specs.declared.record.Record.{Record}
use Rattle.ss_records.specs.declared.record.Record.TheVariants as record_kind
use Rattle.ss_records.specs.Record.{Fits, BlockFits}
use Rattle.ss_store.specs.Places.{with_pairs, without_cids}
use Rattle.ss_hot.specs.Half.{AreInPlace, hot_after, hot_from}
use Rattle.ss_model.specs.State.{State, Kept}
use Rattle.ss_core.specs.StandsFor.{HasState}
use Rattle.ss_import.proofs.Kept.{AreSmall, insert_small}

pairs_small : (kept : Kept) (pairs : List (List ℕ × List ℕ)) → AreSmall kept → All BlockFits pairs → AreSmall (with_pairs kept pairs)
pairs_small kept [] small fit = small
pairs_small kept (p ∷ pairs) small fit =
    pairs_small (finite_map.insert kept p.0 p.1) pairs (insert_small kept p small (fit 0 p (omega arith)).1) (λ k d less. fit (suc k) d (omega (arith, less)))

there : (b : Bool) (found : Option (List ℕ)) (block : List ℕ) → cond b None found ≡ Some block → found ≡ Some block
there true found block is = absurd (let no : ⊥ = cc (is) in no)
there false found block is = is

cids_small : (kept : Kept) (cids : List (List ℕ)) → AreSmall kept → AreSmall (without_cids kept cids)
cids_small kept [] small = small
cids_small kept (c ∷ cids) small =
    cids_small (finite_map.remove kept c) cids (λ q block found. small q block (there (eq_by_cmp (slice_cmp nat_cmp) q c) (finite_map.get kept q) block (sym (get-remove nat_list_cmp_total kept c q) ∙ found)))

record_small : (kept : Kept) (r : Record) → Fits r → AreSmall kept → AreSmall (hot_after kept r)
record_small kept (record_kind.Put blocks) fits small = pairs_small kept blocks small fits.1
record_small kept (record_kind.Dropped cids) fits small = cids_small kept cids small
record_small kept (record_kind.Config c) fits small = small
record_small kept (record_kind.Generation n) fits small = small
record_small kept (record_kind.Head height cids) fits small = small
record_small kept (record_kind.Base base ended) fits small = small
record_small kept (record_kind.Start edge cids) fits small = small
record_small kept (record_kind.Cold cids) fits small = small
record_small kept (record_kind.Sealed total) fits small = small
record_small kept (record_kind.Copied up_to) fits small = small
record_small kept (record_kind.Purged up_to) fits small = small

records_small : (n : ℕ) (kept : Kept) (records : List Record) → AreInPlace n records → AreSmall kept → AreSmall (hot_from kept records)
records_small n kept [] in_place small = small
records_small n kept (r ∷ records) in_place small = records_small (suc n) (hot_after kept r) records in_place.1 (record_small kept r in_place.0.fits small)

pub state_small : (files : Files) (s : State) → HasState files s → AreSmall s.kept
state_small files s has =
    subst AreSmall (sym has.state.kept) (records_small 0 finite_map.empty has.records has.half.in_place (λ c block found. absurd (let no : ⊥ = cc (sym (get-empty (slice_cmp nat_cmp) c) ∙ found) in no)))
