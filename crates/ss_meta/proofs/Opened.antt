-- What opening the log of a plan finds in its file.
use Rattle.std.proofs.Common.{◌≡◌, inl, inr, ⊎_elim, ℕ, ◌+◌, ◌<◌, ◌≤◌, IsTrue, List, [], ◌∷◌, ◌++◌, length, refl, sym, ◌∙◌, ap, subst, arith, length-append}
use Rattle.std.specs.Prelude.{Option, None}
use Rattle.std.proofs.lemmas.List.{take_at}
use Rattle.ss_device.specs.declared.disk.Disk.{Ghosts}
use Rattle.ss_device.specs.Disk.{Files, Same}
use Rattle.ss_device.specs.Calls.{Goes}
use Rattle.ss_gatelog.specs.Log.{open_gate, longest_body, length_bytes, spelled, AreBodies, IsDamaged}
use Rattle.ss_gatelog.specs.Gate.{LeadTo, Reader, HasLent, ReadsSame}
use Rattle.ss_gatelog.proofs.Bytes.{length-length_bytes}
use Rattle.ss_gatelog.proofs.Lists.{compared}
use Rattle.ss_gatelog.proofs.Steps.{spelled-push, length-spelled-at, length-spelled-push}
use Rattle.ss_records.specs.declared.record.Record.{Record}
use Rattle.ss_store.specs.Append.{bodies}
use Rattle.ss_store.proofs.Appended.{bodies-push}
use Rattle.ss_meta.specs.declared.plan.Plan.{Plan}
use Rattle.ss_meta.specs.declared.log.walk.Walk.{Walk}
use Rattle.ss_meta.specs.Plan.{plan_after, plan_of, Follows, IsPlan, IsFaulty}
use Rattle.ss_meta.specs.Opening.{IsRead, IsMisfit, HasRead}
use Rattle.ss_meta.proofs.Grown.{plan_from-push, AllFollow-push}

-- rows of one length at the start of a file are one
row_same : (rs bs : List (List ℕ)) (file x y : List ℕ) → AreBodies rs → AreBodies bs → file ≡ spelled rs ++ x → file ≡ spelled bs ++ y → length (spelled rs) ≡ length (spelled bs) → (rs ≡ bs) × (x ≡ y)
row_same rs bs file x y rs_are bs_are is is' same = ⊎_elim
    (λ both. both)
    (λ other. absurd (⊎_elim
    (λ longer. let size = ap (λ (l : List (List ℕ)). length (spelled l)) longer.is ∙ length-spelled-at rs longer.bodies longer.body in omega (arith, size, same))
    (λ longer. let size = ap (λ (l : List (List ℕ)). length (spelled l)) longer.is ∙ length-spelled-at bs longer.bodies longer.body in omega (arith, size, same))
    other))
    (compared rs bs x y rs_are bs_are (sym is ∙ is'))

-- a record after valid ones that may not follow them
pub faulty_misfit : (limit at next : ℕ) (file : List ℕ) (front : List Record) (body : List ℕ) → LeadTo limit file (bodies front ++ body ∷ []) next → next < length file → length body ≤ longest_body → AreBodies (bodies front) → IsPlan front → at ≡ length (spelled (bodies front)) → IsMisfit (plan_of front) body
    → IsFaulty limit file at
faulty_misfit limit at next file front body leads inside short are plan place misfit =
    let n = length body in
    let rest = length_bytes n ++ (body ++ leads.rest) in
    let is : file ≡ spelled (bodies front) ++ open_gate ∷ rest = leads.is ∙ spelled-push (bodies front) body leads.rest in
    let size : next ≡ at + 5 + n = omega (arith, leads.place, length-spelled-push (bodies front) body, place) in
    record {
      front = front;
      rest = rest;
      is = is;
      place = place;
      bodies = are;
      plan = plan;
      within = omega (arith, leads.within, size);
      not_short = omega (arith, inside, size);
      fault = inr (record {
        body = body;
        more = leads.rest;
        is = refl;
        fits = record {
          spelled_so = take_at (length_bytes n) (body ++ leads.rest) 4 (length-length_bytes n);
          in_bounds = short;
          in_file = omega (arith, inside, size, place, ap (length {A = ℕ}) is, length-append (spelled (bodies front)) (open_gate ∷ rest));
          in_limit = omega (arith, leads.within, size);
        };
        bad = misfit;
      });
    }

-- a gate after valid records, after which none fits
pub faulty_unfit : (limit at : ℕ) (file : List ℕ) (front : List Record) → LeadTo limit file (bodies front) at → IsPlan front → IsDamaged limit file at → IsFaulty limit file at
faulty_unfit limit at file front leads plan damaged =
    let same = row_same (bodies front) damaged.front file leads.rest (open_gate ∷ damaged.rest) leads.bodies damaged.bodies leads.is damaged.is (sym leads.place ∙ damaged.place) in
    record {
      front = front;
      rest = damaged.rest;
      is = leads.is ∙ ap (λ (l : List ℕ). spelled (bodies front) ++ l) same.1;
      place = leads.place;
      bodies = leads.bodies;
      plan = plan;
      within = damaged.within;
      not_short = damaged.not_short;
      fault = inl damaged.unfit;
    }

module _ {D : Type 0} (disk : Ghosts D) where
  -- the file of a reader, after calls that change nothing
  pub same_file : (was now : D) (file : ℕ) → IsTrue disk.told → Goes disk Same was now → disk.files now file ≡ disk.files was file
  same_file was now file told goes = ap (λ (f : Files). f file) (goes.files told)

  module _ (was now : D) (file : ℕ) (told : IsTrue disk.told) (goes : Goes disk Same was now) (old new : Reader) (is : old.file ≡ file) (same : ReadsSame old new) (records : List Record) where
    -- a record that may not follow those that were read
    pub misfit_next : (mid : D) (plan : Option Plan) (at : ℕ) (body : List ℕ) → HasRead disk mid old plan records → body ≡ new.body → at ≡ old.at → HasLent disk now new (bodies records ++ new.body ∷ []) → new.at < new.size → length new.body ≤ longest_body → IsMisfit plan body
        → IsFaulty old.limit (disk.files was file) at
    misfit_next mid plan at body had of_body here has inside short misfit =
        let equal : disk.files now new.file ≡ disk.files was file = ap (disk.files now) (same.file ∙ is) ∙ same_file was now file told goes in
        let leads = subst (λ (f : List ℕ). LeadTo new.limit f (bodies records ++ new.body ∷ []) new.at) equal has.leads in
        faulty_misfit old.limit at new.at (disk.files was file) records new.body
        (subst (λ (n : ℕ). LeadTo n (disk.files was file) (bodies records ++ new.body ∷ []) new.at) same.limit leads)
        (omega (arith, inside, has.size, ap (length {A = ℕ}) equal)) short had.lent.leads.bodies had.are (here ∙ had.lent.leads.place)
        (subst (λ (p : Option Plan). IsMisfit p new.body) had.plan (subst (IsMisfit plan) of_body misfit))

    -- a gate after them, after which none fits
    pub unfit_next : (mid : D) (plan : Option Plan) (at : ℕ) → Goes disk Same was mid → HasRead disk mid old plan records → at ≡ old.at → IsDamaged old.limit (disk.files now old.file) at → IsFaulty old.limit (disk.files was file) at
    unfit_next mid plan at goes' had here damaged =
        let leads = had.lent.leads in
        let equal : disk.files mid old.file ≡ disk.files was file = ap (disk.files mid) is ∙ same_file was mid file told goes' in
        let equal' : disk.files now old.file ≡ disk.files was file = ap (disk.files now) is ∙ same_file was now file told goes in
        faulty_unfit old.limit at (disk.files was file) records
        (record { rest = leads.rest; is = sym equal ∙ leads.is; place = here ∙ leads.place; bodies = leads.bodies; within = omega (arith, here, leads.within) })
        had.are (subst (λ (f : List ℕ). IsDamaged old.limit f at) equal' damaged)

  -- one record more
  pub read_on : (mid now : D) (old new : Reader) (walk after : Walk) (records : List Record) (body : List ℕ) → HasRead disk mid old walk.plan records → body ≡ new.body → HasLent disk now new (bodies records ++ new.body ∷ []) → (read : IsRead walk body after) → HasRead disk now new after.plan (records ++ read.is ∷ [])
  read_on mid now old new walk after records body had of_body lent read = record {
    lent = subst (HasLent disk now new) (ap (λ (b : List ℕ). bodies records ++ b ∷ []) (sym of_body ∙ read.spells) ∙ sym (bodies-push records read.is)) lent;
    are = AllFollow-push None records read.is had.are (subst (λ (p : Option Plan). Follows p read.is) had.plan read.follows);
    plan = read.plan ∙ ap (λ (p : Option Plan). plan_after p read.is) had.plan ∙ sym (plan_from-push None records read.is);
  }
