-- Calls that never go to the disk.
use Rattle.std.proofs.Common.{◌≡◌, ℕ, ◌+◌, Bool, true, false, List, length, Option, Some, None, refl, sym, ap, ◌∙◌}
use Rattle.std.specs.Prelude.{is_some, nat_le, option_map}
use Rattle.std.specs.FinMap as finite_map
use Rattle.std.specs.FinSet as finite_set
use Rattle.ss_chain.specs.Steps.{passes}
use Rattle.ss_device.specs.declared.disk.Disk.{Ghosts}
use Rattle.ss_records.specs.declared.record.Config.{Config as Settings}
use Rattle.ss_model.specs.State.{State}
use Rattle.ss_model.specs.Lawful.{info_of, is_due}
use Rattle.ss_model.specs.declared.call.Info.{Info}
use Rattle.ss_core.specs.declared.split_core.SplitCore.{SplitCore}
use Rattle.ss_core.specs.StandsFor.{Doubt, StandsFor}
use Rattle.ss_core.proofs.HotCount.{same_count}
use Rattle.ss_core.proofs.PutSteps.{count_is}

-- what the length of a block tells of it
pub some_len : (found : Option (List ℕ)) (n : ℕ) → Some n ≡ option_map length found → is_some found ≡ true
some_len (Some b) n e = refl
some_len None n e = absurd (let differ : ⊥ = cc (e) in differ)

pub none_len : (found : Option (List ℕ)) → None ≡ option_map length found → found ≡ None
none_len None e = refl
none_len (Some b) e = absurd (let differ : ⊥ = cc (e) in differ)

-- a height above the base tells the same as the head of it
due_is : (base threshold : ℕ) (head : Option (ℕ × List (List ℕ))) → passes (λ h. nat_le (base + threshold) h) (option_map (λ h. h.0) head) ≡ passes (λ h. nat_le (base + threshold) h.0) head
due_is base threshold (Some h) = refl
due_is base threshold None = refl

-- what the store tells of itself
pub info_is : {D : Type 0} (disk : Ghosts D) (core : SplitCore D disk) (s : State) (doubt : Doubt) (config : Settings) (height : Option ℕ) (base ended kept views : ℕ) (due : Bool) → StandsFor core s doubt → config ≡ core.hot.settings
    → height ≡ option_map (λ h. h.0) core.hot.head → (base, ended) ≡ core.hot.base → kept ≡ finite_map.len core.hot.places → views ≡ finite_set.len core.views → due ≡ passes (λ h. nat_le (base + config.threshold) h) height
    → ◌≡◌ {A = Info} (record { config = config; height = height; base = base; ended = ended; hot = kept; kept = kept; views = views; running = false; due = due }) (info_of s)
info_is disk core s doubt config height base ended kept views due stands config_is height_is base_is kept_is views_is due_is' =
    let config' : config ≡ s.config = config_is ∙ sym stands.state.config in
    let height' : height ≡ option_map (λ h. h.0) s.head = height_is ∙ ap (option_map (λ h. h.0)) (stands.keeps.tells.head ∙ sym stands.state.head) in
    let both : ◌≡◌ {A = ℕ × ℕ} (base, ended) (s.base, s.ended) = base_is ∙ stands.keeps.tells.base ∙ sym stands.state.base in
    let base' : base ≡ s.base = ap (λ (p : ℕ × ℕ). p.0) both in
    let ended' : ended ≡ s.ended = ap (λ (p : ℕ × ℕ). p.1) both in
    let kept' : kept ≡ finite_map.len s.kept = kept_is ∙ count_is disk core s doubt stands in
    let hot' : finite_map.len s.kept ≡ finite_set.len s.hot = sym (same_count (finite_map.len s.kept) s.hot s.kept refl stands.state.hot) in
    let views' : views ≡ finite_set.len s.views = views_is ∙ ap finite_set.len (sym stands.views) in
    let due' : due ≡ is_due s = rw (due_is', config', height', base') (due_is s.base s.config.threshold s.head) in
    rw (config', height', base', ended', kept', views', due') (ap (λ (n : ℕ). record { config = s.config; height = option_map (λ h. h.0) s.head; base = s.base; ended = s.ended; hot = n; kept = finite_map.len s.kept; views = finite_set.len s.views; running = false; due = is_due s }) hot')
