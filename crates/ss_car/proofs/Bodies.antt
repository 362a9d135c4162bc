-- The bytes that a length counts, at the front of an input.
use Rattle.std.proofs.Common.{ℕ, ◌≤◌, List, ◌++◌, length, ap, ◌∙◌}
use Rattle.std.specs.Prelude.{Option}
use Rattle.std.proofs.lemmas.List.{append-nil}
use Rattle.ss_cid.specs.Varint.{varint}
use Rattle.std.specs.Io.KnownBytes.{Consumes}
use Rattle.ss_car.specs.Bodies.{HeaderFault, BodyFault, Blames}
use Rattle.ss_car.specs.Car.{framed, UnframedFault, StartFault, SectionFault}
use Rattle.ss_car.specs.Car as car
use Rattle.ss_car.specs.declared.fault.CarFault.{CarFault}
use Rattle.ss_car.specs.declared.fault.CarFault.TheVariants.{NoMemory, BadHeader, BadVersion, ZeroSection, BadCid}
use Rattle.ss_car.proofs.Lengths.{Consumes-is, Blames-by}

module _ (first : Option (List ℕ)) where
  pub start-unframed : (fault : CarFault) → Blames (UnframedFault 1048576) first fault → Blames StartFault first fault
  start-unframed fault = Blames-by (UnframedFault 1048576) StartFault first first fault (λ h xs is. car.StartFault.unframed (h xs is))

  pub section-unframed : (fault : CarFault) → Blames (UnframedFault 8388608) first fault → Blames SectionFault first fault
  section-unframed fault = Blames-by (UnframedFault 8388608) SectionFault first first fault (λ h xs is. car.SectionFault.unframed (h xs is))

  module _ (mid : Option (List ℕ)) (body : List ℕ) (taken : Consumes first mid (framed body)) where
    pub start-fault : length body ≤ 1048576 → (fault : CarFault) → HeaderFault body fault → Blames StartFault first fault
    start-fault fits NoMemory h = tt
    start-fault fits BadHeader h = λ xs is. let left = Consumes-is first mid (framed body) xs is taken in car.StartFault.no_header body left.rest left.parts fits h
    start-fault fits (BadVersion version) h = λ xs is.
        let left = Consumes-is first mid (framed body) xs is taken in
        car.StartFault.other_version body left.rest h.0 version left.parts fits h.1.0 h.1.1
    start-fault fits _ h = absurd h

    pub section-fault : length body ≤ 8388608 → (fault : CarFault) → BodyFault body fault → Blames SectionFault first fault
    section-fault fits ZeroSection h = λ xs is.
        let left = Consumes-is first mid (framed body) xs is taken in
        car.SectionFault.zero_length left.rest (left.parts ∙ ap (λ (b : List ℕ). framed b ++ left.rest) h ∙ ap (λ (l : List ℕ). l ++ left.rest) (append-nil (varint 0)))
    section-fault fits BadCid h = λ xs is.
        let left = Consumes-is first mid (framed body) xs is taken in
        car.SectionFault.no_cid body left.rest h.1.0 left.parts h.0 fits h.1.1
    section-fault fits _ h = absurd h
