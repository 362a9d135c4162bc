use Rattle.std.proofs.Common.{inl, [], length, All, ◌||◌, true≢false, refl, sym, ap, ◌∙◌, subst, arith}
use Rattle.std.specs.Prelude.{sum_by}
use Rattle.std.specs.Cmp.{Equal-is, tied_itself, nat_cmp_total}
use Rattle.std.specs.Ordering.{nat_cmp}
use Rattle.std.specs.FinSet as finite_set
use Rattle.std.specs.FinSet.{contains-empty, contains-insert}
use Rattle.ss_model.specs.declared.call.Call.TheVariants as call
use Rattle.ss_model.specs.declared.call.Answer.TheVariants as answer
use Rattle.ss_model.specs.declared.call.ViewReply.{ViewReply}
use Rattle.ss_model.specs.Lawful.{IsSmall}
use Rattle.ss_core.specs.Replies.{held_put_bytes}
use Rattle.ss_history.proofs.Stories.{story_more}
use Rattle.ss_import.specs.Import.{entry, pair_length}
use Rattle.ss_import.proofs.importer.Importer.new.Goals as goal

pub unreachable-requires : goal.unreachable-requires
unreachable-requires g c =
    let all = rw c.in-TooManyViews.is at c.open_view.ensures.views in
    true≢false (sym (all 0 (omega arith)) ∙ ap (λ views. finite_set.contains views 0) c.requires ∙ contains-empty nat_cmp 0)

pub returns-clause-ready : goal.returns-clause-ready
returns-clause-ready g c =
    let opens = rw c.in-Opened.is at c.open_view.ensures.views in record {
      view = ap (λ views. finite_set.contains views c.in-Opened.view) opens.2 ∙ contains-insert nat_cmp_total c.args.core.views c.in-Opened.view c.in-Opened.view ∙ ap (λ b. b || finite_set.contains c.args.core.views c.in-Opened.view) ((Equal-is (nat_cmp c.in-Opened.view c.in-Opened.view)).1 (tied_itself nat_cmp_total c.in-Opened.view));
      offsets = ap length c.new.ensures.holds.offsets ∙ sym (ap length c.new.ensures.holds.parcel);
      together = inl (omega (arith, ap length c.new.ensures.holds.parcel));
      bytes = c.new.ensures.bytes.0 ∙ sym (ap (sum_by pair_length) c.new.ensures.holds.parcel);
      small = subst (All IsSmall) (sym c.new.ensures.holds.parcel) (λ k d less. absurd (let no : ⊥ = omega (arith, less) in no));
      put_bytes = c.new.ensures.bytes.1 ∙ sym (ap (held_put_bytes c.open_view.new.self) c.new.ensures.holds.parcel);
      fits = inl (omega (arith, ap length c.new.ensures.holds.parcel));
    }

pub returns-clause-putting : goal.returns-clause-putting
returns-clause-putting g c = λ was story. record {
  puts = [];
  story = story_more was c.args.core c.open_view.new.self [] (entry call.OpenView (answer.View (ViewReply.Opened c.in-Opened.view))) story
      (λ told s doubt stands. rw c.in-Opened.is at (c.open_view.ensures.told told s doubt stands)) (rw c.in-Opened.is at c.open_view.ensures.made);
  are_puts = refl;
  new_is = omega arith;
}
