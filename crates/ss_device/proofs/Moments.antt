-- How what a crash might have left goes on from call to call.
use Rattle.std.proofs.Common.{◌≡◌, ℕ, subst, arith, inl, inr}
use Rattle.std.proofs.lemmas.Bool.{cases_lt}
use Rattle.ss_device.specs.Disk.{Files, Evolves}

-- nothing was done
pub stays : (now : ℕ) (image : ℕ → Files → Type 0) (step : Files → Files → Type 0) → ((files : Files) → step files files) → Evolves now image now image step
stays now image step still = record {
  later = omega arith;
  keeps = λ t files le left. left;
  no_others = λ t files lt left. left;
  since = λ files s. let same : s.at ≡ now = omega (arith, s.from, s.until) in (files, subst (λ (t : ℕ). image t files) same s.left, still files);
}

-- a second part follows a first
pub goes_on : (t0 t1 t2 : ℕ) (image0 image1 image2 : ℕ → Files → Type 0) (one two step : Files → Files → Type 0)
    → Evolves t0 image0 t1 image1 one → Evolves t1 image1 t2 image2 two
    → ((a b : Files) → image0 t0 a → one a b → step a b)
    → ((a b c : Files) → image0 t0 a → one a b → image1 t1 b → two b c → step a c)
    → Evolves t0 image0 t2 image2 step
goes_on t0 t1 t2 image0 image1 image2 one two step first second first_alone both = record {
  later = omega (arith, first.later, second.later);
  keeps = λ t files le left. second.keeps t files (omega (arith, first.later)) (first.keeps t files le left);
  no_others = λ t files lt left. first.no_others t files lt (second.no_others t files (omega (arith, first.later)) left);
  since = λ files s. elim (cases_lt s.at t1) [
    | inl before ↦
        let earlier = first.since files (record { at = s.at; from = s.from; until = omega arith; left = second.no_others s.at files before s.left }) in
        (earlier.0, earlier.1, first_alone earlier.0 files earlier.1 earlier.2)
    | inr after ↦
        let later = second.since files (record { at = s.at; from = after; until = s.until; left = s.left }) in
        let earlier = first.since later.0 (record { at = t1; from = first.later; until = omega arith; left = later.1 }) in
        (earlier.0, earlier.1, both earlier.0 later.0 files earlier.1 earlier.2 later.1 later.2)
  ];
}

-- each step is of a wider kind
pub widens : (t0 t1 : ℕ) (image0 image1 : ℕ → Files → Type 0) (one step : Files → Files → Type 0)
    → Evolves t0 image0 t1 image1 one → ((a b : Files) → image0 t0 a → one a b → step a b) → Evolves t0 image0 t1 image1 step
widens t0 t1 image0 image1 one step first wider = record {
  later = first.later;
  keeps = first.keeps;
  no_others = first.no_others;
  since = λ files s. let from = first.since files s in (from.0, from.1, wider from.0 files from.1 from.2);
}

-- what a crash may leave now comes from what one might have left then
pub now_from : (t0 t1 : ℕ) (image0 image1 : ℕ → Files → Type 0) (step : Files → Files → Type 0) → Evolves t0 image0 t1 image1 step → (left : Files) → image1 t1 left → (was : Files) × image0 t0 was × step was left
now_from t0 t1 image0 image1 step evolves left now = evolves.since left (record { at = t1; from = evolves.later; until = omega arith; left = now })
