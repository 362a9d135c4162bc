-- A new store's state is proper, and each legal entry and closing keep it so.
use Rattle.std.proofs.Common.{◌≡◌, ℕ, Bool, true, false, List, [], ◌∷◌, Some, refl, sym, ap, ◌∙◌, subst, true≢false, arith}
use Rattle.std.specs.Prelude.{◌<◌, ◌≤◌, ◌||◌, ◌&&◌, not, is_some}
use Rattle.std.specs.Ordering.{nat_cmp, eq_by_cmp}
use Rattle.std.specs.Cmp.{Equal-is, nat_cmp_total}
use Rattle.std.specs.Cmp.Lexicographic.{slice_cmp}
use Rattle.std.specs.FinMap.{get-empty, len-empty, nat_cmp-IsAntisymmetric}
use Rattle.std.specs.FinSet as set
use Rattle.std.specs.FinSet.{contains-insert, contains-remove, contains-empty}
use Rattle.ss_records.specs.declared.record.Config.{Config as Settings}
use Rattle.ss_model.specs.State.{ViewSet, State, empty_state, closed}
use Rattle.ss_model.specs.Head.{IsHead}
use Rattle.ss_model.specs.Lawful.{IsProper, Legal, AfterAll}
use Rattle.ss_model.specs.Lawful.{with_blocks, with_hot, IsAdmitted, Lawful, After}
use Rattle.ss_model.specs.declared.call.Call.{Call}
use Rattle.ss_model.specs.declared.call.Answer.{Answer}
use Rattle.ss_model.specs.declared.call.Entry.{Entry}
use Rattle.ss_model.proofs.Each.{after_each}
use Rattle.ss_model.proofs.Heads.{head_stays}
use Rattle.ss_model.proofs.Kept.{blocks_stay, blocks_valid, blocks_stored, blocks_kept, blocks_hot, nothing_kept}

abbrev AreBelow : ViewSet → Type 0
AreBelow views = (v : ℕ) → set.contains views v ≡ true → v < 1024

view_below : (views : ViewSet) (n : ℕ) → AreBelow views → n < 1024 → AreBelow (set.insert views n)
view_below views n below new v is = go (eq_by_cmp nat_cmp v n) refl (sym (contains-insert nat_cmp_total views n v) ∙ is)
  where
    go : (same : Bool) → eq_by_cmp nat_cmp v n ≡ same → (same || set.contains views v) ≡ true → v < 1024
    go true e is_in = subst (λ k. k < 1024) (sym (nat_cmp-IsAntisymmetric v n ((Equal-is (nat_cmp v n)).0 e))) new
    go false e is_in = below v is_in

view_less : (views : ViewSet) (n : ℕ) → AreBelow views → AreBelow (set.remove views n)
view_less views n below v is = go (eq_by_cmp nat_cmp v n) (sym (contains-remove nat_cmp_total views n v) ∙ is)
  where
    go : (same : Bool) → (not same && set.contains views v) ≡ true → v < 1024
    go true is_in = absurd (true≢false (sym is_in))
    go false is_in = below v is_in

with_open : (s : State) (views : ViewSet) → IsProper s → AreBelow views → IsProper (record s { views = views })
with_open s views proper below = record { stored = proper.stored; valid = proper.valid; hot = proper.hot; all_hot = proper.all_hot; rows = proper.rows; head = proper.head; views = below }

with_stored : (s : State) (v : ℕ) (pairs : List (List ℕ × List ℕ)) → IsAdmitted s v pairs → IsProper s → IsProper (record s { kept = with_blocks s.kept pairs; hot = with_hot s.hot pairs })
with_stored s v pairs admitted proper = record {
  stored = blocks_stored s.kept pairs proper.stored;
  valid = blocks_valid s.kept pairs proper.valid admitted.passed.sound;
  hot = blocks_kept s.kept s.hot pairs proper.hot;
  all_hot = λ discard. blocks_hot s.kept s.hot pairs (proper.all_hot discard);
  rows = admitted.rows;
  head = λ height cids is. head_stays s.kept (with_blocks s.kept pairs) (λ c b. blocks_stay s.kept pairs c b) cids height (proper.head height cids is);
  views = proper.views;
}

with_head : (s : State) (cids : List (List ℕ)) (height : ℕ) → IsHead s.kept cids height → IsProper s → IsProper (record s { head = Some (height, cids) })
with_head s cids height is_head proper = record {
  stored = proper.stored;
  valid = proper.valid;
  hot = proper.hot;
  all_hot = proper.all_hot;
  rows = proper.rows;
  head = λ height' cids' is. let both : ◌≡◌ {A = ℕ × List (List ℕ)} (height, cids) (height', cids') = cc (is) in subst (λ h. IsHead s.kept h.1 h.0) both is_head;
  views = proper.views;
}

pub entry_keeps : (s : State) (k : Call) (a : Answer) → IsProper s → Lawful s k a → IsProper (After s k a)
entry_keeps s k a proper lawful =
    after_each s k a IsProper (record {
      same = proper;
      opened = λ n few. with_open s (set.insert s.views n) proper (view_below s.views n proper.views (few lawful));
      closed = λ v. with_open s (set.remove s.views v) proper (view_less s.views v proper.views);
      stored = λ v pairs admitted. with_stored s v pairs (admitted lawful) proper;
      headed = λ cids height is_head. with_head s cids height (is_head lawful) proper;
    })

pub history_keeps : (s : State) (h : List Entry) → IsProper s → Legal s h → IsProper (AfterAll s h)
history_keeps s [] proper legal = proper
history_keeps s (e ∷ h) proper legal = history_keeps (After s e.call e.answer) h (entry_keeps s e.call e.answer proper legal.0) legal.1

no_view : AreBelow set.empty
no_view v is = absurd (true≢false (sym (sym (contains-empty nat_cmp v) ∙ is)))

pub new_is_proper : (config : Settings) → IsProper (empty_state config)
new_is_proper config = record {
  stored = λ c b is. absurd (nothing_kept c b is);
  valid = λ c b is. absurd (nothing_kept c b is);
  hot = λ c is. absurd (true≢false (sym (sym (contains-empty (slice_cmp nat_cmp) c) ∙ is)));
  all_hot = λ discard c is. absurd (true≢false (sym (sym (ap is_some (get-empty (slice_cmp nat_cmp) c)) ∙ is)));
  rows = subst (λ n. n ≤ config.rows) (sym (len-empty (slice_cmp nat_cmp) (List ℕ))) (omega arith);
  head = λ height cids none. absurd (true≢false (sym (ap is_some none)));
  views = no_view;
}

pub closed_is_proper : (s : State) → IsProper s → IsProper (closed s)
closed_is_proper s proper = record { stored = proper.stored; valid = proper.valid; hot = proper.hot; all_hot = proper.all_hot; rows = proper.rows; head = proper.head; views = no_view }

-- no view has a number from 1024 on
pub past_the_views : (s : State) (v : ℕ) → IsProper s → 1024 ≤ v → set.contains s.views v ≡ false
past_the_views s v proper past = go (set.contains s.views v) refl
  where
    go : (open_now : Bool) → set.contains s.views v ≡ open_now → set.contains s.views v ≡ false
    go false is = is
    go true is = absurd (omega (arith, proper.views v is, past))
