use Rattle.std.proofs.Common.{◌≡◌, ℕ, ◌<◌, List, [], length, get_or, Some, true, false, refl, arith}
use Rattle.std.specs.Prelude.{slice_get}
use Rattle.std.specs.Ordering.{nat_cmp}
use Rattle.std.specs.Cmp.Lexicographic.{slice_cmp}
use Rattle.std.specs.BTreeSet.{contains}
use Rattle.std.proofs.lemmas.List.Elements.{All-nil, All-push}
use Rattle.std.proofs.lemmas.Option.{slice_get_within, slice_get-get_or}
use Rattle.ss_model.specs.State.{CidSet}
use Rattle.ss_model.specs.Lawful.{is_left_out}
use Rattle.ss_core.specs.declared.fresh.Seen.{Seen}
use Rattle.ss_core.specs.Seen.{AreSeen, seen_in}
use Rattle.ss_core.proofs.NewPairs.{none_walked, told, out_at, was_there, old_walked, new_walked, all_walked}
use Rattle.ss_core.proofs.fresh.new_places.Goals as goal
use Rattle.ss_core.proofs.fresh.new_places.Goals.{then-branch+in_ok-push, else-branch}

pub loop-i-init : goal.loop-i-init
loop-i-init c = record {
  within = rw c.new-places.ensures.items (All-nil (λ i. i < length c.args.parcel.now));
  walked = λ hot noted. rw c.new-places.ensures.items (none_walked hot c.args.parcel.now c.new-met.result c.new-met.ensures.empty);
}

pub loop-i-preserved-then-not-is_absent : goal.loop-i-preserved-then-not-is_absent
loop-i-preserved-then-not-is_absent c = record {
  within = c.loop-i.invariant.within;
  walked = λ hot noted.
      let p : List ℕ × List ℕ = get_or c.args.parcel.now c.loop-i.i ([], []) in
      let at : slice_get c.args.parcel.now c.loop-i.i ≡ Some p = slice_get-get_or c.args.parcel.now c.loop-i.i ([], []) (omega (arith, c.loop-i-test.true, c.len-i-end.ensures.value)) in
      let out = out_at hot c.args.parcel.now c.args.seen.now c.loop-i.i p Seen.Absent false noted at c.if-not-is_absent.ensures in
      old_walked hot c.args.parcel.now c.loop-i.met c.loop-i.met c.loop-i.places.items c.loop-i.i p at (told hot c.loop-i.met p.0 true _ out refl) refl (c.loop-i.invariant.walked hot noted);
}

pub loop-i-preserved : goal.loop-i-preserved
loop-i-preserved c =
    let p : List ℕ × List ℕ = (c.at-cid.result.0, c.at-cid.result.1.now) in
    let there = was_there (contains (slice_cmp nat_cmp) c.loop-i.met p.0) c.in_ok-insert.field-0 c.in_ok-insert.ensures.added in
    let kept : (hot : CidSet) → AreSeen (seen_in hot) c.args.parcel.now c.args.seen.now → is_left_out hot p.0 ≡ false =
    λ hot noted. out_at hot c.args.parcel.now c.args.seen.now c.loop-i.i p Seen.Absent true noted c.at-cid.ensures c.if-not-is_absent.ensures in
    elim c.if-branch.branch [
      | then-branch+in_ok-push w ↦
          let absent = rw w.if-branch.true at there in
          rw w.places-is (rw w.in_ok-push.ensures.items (record {
            within = All-push (λ i. i < length c.args.parcel.now) c.loop-i.places.items c.loop-i.i c.loop-i.invariant.within (slice_get_within c.args.parcel.now c.loop-i.i p c.at-cid.ensures);
            walked = λ hot noted. new_walked hot c.args.parcel.now c.loop-i.met c.insert.new.self c.loop-i.places.items c.loop-i.i p c.at-cid.ensures
                (told hot c.loop-i.met p.0 false false (kept hot noted) absent) c.in_ok-insert.ensures.updates.0 (c.loop-i.invariant.walked hot noted);
          }))
      | else-branch w ↦
          let present = rw w.if-branch.false at there in
          let same = rw w.if-branch.false at c.in_ok-insert.ensures.unchanged in
          rw w.places-is (record {
            within = c.loop-i.invariant.within;
            walked = λ hot noted. old_walked hot c.args.parcel.now c.loop-i.met c.insert.new.self c.loop-i.places.items c.loop-i.i p c.at-cid.ensures
                (told hot c.loop-i.met p.0 false true (kept hot noted) present) same (c.loop-i.invariant.walked hot noted);
          })
    ]

pub returns-clause-new : goal.returns-clause-new
returns-clause-new c = λ hot noted. all_walked hot c.args.parcel.now c.loop-i.met c.loop-i.places.items c.loop-i.i (omega (arith, c.loop-i-test.false, c.len-i-end.ensures.value)) (c.loop-i.invariant.walked hot noted)
