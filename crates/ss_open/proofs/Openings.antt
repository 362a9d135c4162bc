-- The state that a file has when its store is opened, and when it is made.
use Rattle.std.proofs.Common.{◌≡◌, ◌⊎◌, inl, inr, ⊎_elim, ℕ, ◌<◌, ◌≤◌, false, List, [], refl, sym, ap, ◌∙◌, subst, arith}
use Rattle.std.specs.Prelude.{is_some, Result, Err, slice_index}
use Rattle.std.proofs.lemmas.Bool.{cases_lt}
use Rattle.std.specs.Ordering.{nat_cmp}
use Rattle.std.specs.Cmp.Lexicographic.{slice_cmp, nat_list_cmp_total}
use Rattle.std.specs.FinMap as finite_map
use Rattle.std.specs.FinMap.{contains_key-keys, get-empty}
use Rattle.std.specs.FinSet as finite_set
use Rattle.std.specs.FinSet.{contains-from_list, contains-empty}
use Rattle.ss_device.specs.declared.disk.Disk.{Ghosts}
use Rattle.ss_device.specs.Disk.{Files, Same}
use Rattle.ss_device.specs.Calls.{Goes}
use Rattle.ss_gatelog.specs.GateLog.{CountsFault}
use Rattle.ss_records.specs.declared.record.Config.{Config as Settings}
use Rattle.ss_records.specs.declared.record.Record.{Record}
use Rattle.ss_store.specs.declared.fault.StoreFault.{StoreFault}
use Rattle.ss_store.specs.declared.fault.StoreFault.TheVariants as store_fault
use Rattle.ss_hot.specs.Half.{hot_blocks, head_of, base_of}
use Rattle.ss_hot.specs.Half.{IsHalf, IsDamagedHalf}
use Rattle.ss_hot.proofs.EachReading.{each_reading}
use Rattle.ss_hot.proofs.Places.{places_len}
use Rattle.ss_hot.proofs.Readings.{settings_once, records_once, apart, place_once}
use Rattle.ss_hot.specs.Store.{Hot, Keeps, first_records, IsOpeningFault}
use Rattle.ss_model.specs.State.{State, empty_state}
use Rattle.ss_core.specs.declared.split_core.SplitCore.{SplitCore}
use Rattle.ss_core.specs.LogFiles.{hot_file}
use Rattle.ss_core.specs.StandsFor.{no_doubt, IsLeftBy, HasState, StandsFor}
use Rattle.ss_core.proofs.Settling.{keeps_sure}
use Rattle.ss_open.specs.Opening.{open_fault, IsCommitted, HasTooMany, IsDamagedStore, IsOpenFault, Opens}
use Rattle.ss_open.specs.declared.fault.OpenFault.{OpenFault}
use Rattle.ss_open.specs.declared.fault.OpenFault.TheVariants as opening

-- the state that records leave, in which no view is open
abbrev pub state_of : Settings → List Record → State
state_of settings records = record {
  config = settings;
  kept = hot_blocks records;
  hot = finite_set.from_list (finite_map.keys (hot_blocks records));
  head = head_of records;
  base = (base_of records).0;
  ended = (base_of records).1;
  views = finite_set.empty;
}

left_so : (settings : Settings) (records : List Record) → finite_map.len (hot_blocks records) ≤ settings.rows → IsLeftBy settings records (state_of settings records)
left_so settings records few = record {
  config = refl;
  kept = refl;
  hot = λ c. contains-from_list nat_list_cmp_total (finite_map.keys (hot_blocks records)) c ∙ sym (contains_key-keys (hot_blocks records) c);
  head = refl;
  base = refl;
  rows = few;
}

-- as many blocks are kept as have a place
pub as_many : {D : Type 0} (disk : Ghosts D) (now : D) (hot : Hot) (records others : List Record) → Keeps disk now hot records others → finite_map.len hot.places ≡ finite_map.len (hot_blocks records)
as_many disk now hot records others keeps = ap finite_map.len keeps.tells.places ∙ places_len hot.log.file records

-- a store that was opened stands for the state that its file has
pub opened : {D : Type 0} (disk : Ghosts D) (now : D) (files : Files) (hot : Hot) (core : SplitCore D disk) (records : List Record) → IsHalf (files hot_file) hot.settings records → Keeps disk now hot records [] → hot.log.unsure ≡ false → core.hot ≡ hot → finite_map.len hot.places ≤ hot.settings.rows
    → ((s : State) → Keeps disk now hot records records → IsLeftBy hot.settings records s → s.views ≡ finite_set.empty → StandsFor core s no_doubt) → (s : State) × HasState files s × StandsFor core s no_doubt
opened disk now files hot core records half keeps sure same few stands =
    let left = left_so hot.settings records (omega (arith, as_many disk now hot records [] keeps, few)) in (
      state_of hot.settings records,
      record { settings = hot.settings; records = records; half = half; state = left; closed = refl },
      stands (state_of hot.settings records) (keeps_sure disk now hot records [] records sure keeps) left refl,
    )

-- the fault that is answered
fault_is : {D : Type 0} {disk : Ghosts D} (x y : OpenFault) (b c : D) → ◌≡◌ {A = Result (SplitCore D disk) (OpenFault × D)} (Err (x, b)) (Err (y, c)) → x ≡ y
fault_is {D = D} x y b c same = let pair : ◌≡◌ {A = OpenFault × D} (x, b) (y, c) = cc (same) in ap (λ (p : OpenFault × D). p.0) pair

-- a fault that is not the disk's: none was counted
pub counted_none : {T : Type 0} (before now : ℕ) (f : StoreFault) → (f ≡ store_fault.DiskFault → ⊥) → CountsFault {T = T} store_fault.DiskFault before now (Err f) → now ≡ before
counted_none {T = T} before now f other counts = ⊎_elim (λ (same : ◌≡◌ {A = Result T StoreFault} (Err f) (Err store_fault.DiskFault)). absurd (other (cc (same)))) (λ kept. kept) counts.kept

-- a store that is not opened for a fault of its log
pub not_opened : {D T : Type 0} (disk : Ghosts D) (was back : D) (f : StoreFault) (r : OpenFault) → r ≡ open_fault f → IsOpeningFault f → ((file at : ℕ) → f ≡ store_fault.Damaged file at → file ≡ hot_file)
    → CountsFault {T = T} store_fault.DiskFault (disk.faults was) (disk.faults back) (Err f) → Goes disk Same was back → Opens {D = D} {disk = disk} was (Err (r, back))
not_opened {D = D} {T = T} disk was back f r is able in_hot counts goes = subst (λ (r : OpenFault). Opens {D = D} {disk = disk} was (Err (r, back))) (sym is) (at f able in_hot counts)
  where
    at : (x : StoreFault) → IsOpeningFault x → ((file at : ℕ) → x ≡ store_fault.Damaged file at → file ≡ hot_file) → CountsFault {T = T} store_fault.DiskFault (disk.faults was) (disk.faults back) (Err x) → Opens {D = D} {disk = disk} was (Err (open_fault x, back))
    at store_fault.NoMemory able in_hot counts = record { fits = tt; views = tt; errors = λ y c same. subst IsOpenFault (fault_is opening.NoMemory y back c same) tt; counts = counted_none _ _ store_fault.NoMemory (λ wrong. let differ : ⊥ = cc (wrong) in differ) counts; goes = goes }
    at store_fault.DiskFault able in_hot counts = record { fits = tt; views = tt; errors = λ y c same. subst IsOpenFault (fault_is opening.DiskFault y back c same) tt; counts = counts.rose refl; goes = goes }
    at (store_fault.Damaged file place) able in_hot counts = record {
      fits = tt;
      views = tt;
      errors = λ y c same. subst IsOpenFault (fault_is (opening.Damaged file place) y back c same) (in_hot file place refl);
      counts = counted_none _ _ (store_fault.Damaged file place) (λ wrong. let differ : ⊥ = cc (wrong) in differ) counts;
      goes = goes;
    }
    at (store_fault.LogFull file need room) able in_hot counts = absurd (able file need room refl)

-- ---- files have a state or are damaged

module _ (files : Files) where
  pub state_or_damaged : (settings : Settings) → ((file i : ℕ) → slice_index (files file) i < 256) → IsCommitted files settings → ((s : State) × HasState files s) ⊎ ((file at : ℕ) × IsDamagedStore files file at)
  state_or_damaged settings small committed = ⊎_elim
      (λ found. by_rows found.0 found.1 (cases_lt settings.rows (finite_map.len (hot_blocks found.0))))
      (λ damaged. inr (hot_file, damaged.0, (refl, inl damaged.1)))
      (each_reading (files hot_file) settings (small hot_file) committed)
    where
      by_rows : (records : List Record) → IsHalf (files hot_file) settings records → (settings.rows < finite_map.len (hot_blocks records)) ⊎ (finite_map.len (hot_blocks records) ≤ settings.rows) → ((s : State) × HasState files s) ⊎ ((file at : ℕ) × IsDamagedStore files file at)
      by_rows records half (inr few) = inl (state_of settings records, record { settings = settings; records = records; half = half; state = left_so settings records few; closed = refl })
      by_rows records half (inl many) = inr (hot_file, 14, (refl, inr ((settings, records, half, many), refl)))

  -- two halves have the same records, and the settings of their store
  crowded : (s : State) → HasTooMany files → HasState files s → ⊥
  crowded s many has = omega (
    arith,
    many.3,
    has.state.rows,
    ap (λ kept. finite_map.len kept) has.state.kept,
    ap (λ (c : Settings). c.rows) has.state.config,
    ap (λ (c : Settings). c.rows) (settings_once (files hot_file) many.0 has.settings many.2.committed has.half.committed),
    ap (λ (rs : List Record). finite_map.len (hot_blocks rs)) (records_once (files hot_file) many.0 has.settings many.1 has.records many.2 has.half),
  )

  pub stands_apart : (file at : ℕ) (s : State) → IsDamagedStore files file at → HasState files s → ⊥
  stands_apart file at s (is, inl damaged) has = apart (files hot_file) at has.settings has.records damaged has.half
  stands_apart file at s (is, inr many) has = crowded s many.0 has

  once : (at to : ℕ) → IsDamagedHalf (files hot_file) at ⊎ (HasTooMany files × (at ≡ 14)) → IsDamagedHalf (files hot_file) to ⊎ (HasTooMany files × (to ≡ 14)) → at ≡ to
  once at to (inl a) (inl b) = place_once (files hot_file) at to a b
  once at to (inl a) (inr b) = absurd (apart (files hot_file) at b.0.0 b.0.1 a b.0.2)
  once at to (inr a) (inl b) = absurd (apart (files hot_file) to a.0.0 a.0.1 b a.0.2)
  once at to (inr a) (inr b) = a.1 ∙ sym b.1

  pub one_offset : (f g at to : ℕ) → IsDamagedStore files f at → IsDamagedStore files g to → (f ≡ g) × (at ≡ to)
  one_offset f g at to one other = (one.0 ∙ sym other.0, once at to one.1 other.1)

-- ---- a new store

-- its records leave the state in which nothing is kept
pub none_left : (settings : Settings) → IsLeftBy settings (first_records settings) (empty_state settings)
none_left settings = record {
  config = refl;
  kept = refl;
  hot = λ c. contains-empty (slice_cmp nat_cmp) c ∙ sym (ap is_some (get-empty (slice_cmp nat_cmp) c));
  head = refl;
  base = refl;
  rows = omega (arith, finite_map.len-empty (slice_cmp nat_cmp) (List ℕ));
}

-- which its files have
pub made : (files : Files) (settings : Settings) → IsHalf (files hot_file) settings (first_records settings) → HasState files (empty_state settings)
made files settings half = record { settings = settings; records = first_records settings; half = half; state = none_left settings; closed = refl }
