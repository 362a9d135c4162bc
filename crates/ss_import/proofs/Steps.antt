-- What a step of an import leaves, by how it ends.
use Rattle.std.proofs.Common.{◌≡◌, ◌⊎◌, inl, inr, ℕ, zero, suc, ◌+◌, ◌/◌, ◌%◌, ◌^◌, ◌≤◌, Bool, true, false, nat_lt, MutBor, List, [], ◌∷◌, ◌++◌, length, Option, Some, Err, refl, sym, ap, ◌∙◌, subst, arith, length-append}
use Rattle.std.specs.Prelude.{if◌then◌else◌}
use Rattle.std.specs.Option.{ForSome}
use Rattle.std.specs.Io.KnownBytes.{IsAtEnd}
use Rattle.ss_car.specs.Bodies.{TakesStart, TakesSection, NextFault, roots_of, taken_of, input_left, Blames}
use Rattle.ss_car.specs.Car.{framed, Section, IsCar}
use Rattle.ss_car.specs.declared.fault.CarFault.{CarFault}
use Rattle.ss_car.specs.declared.fault.CarFault.TheVariants as car
use Rattle.ss_car.specs.declared.fault.CarRefusal.{CarRefusal}
use Rattle.ss_car.specs.declared.reader.CarReader.{CarReader}
use Rattle.ss_cid.specs.Varint.{varint, groups_of}
use Rattle.ss_device.specs.declared.disk.Disk.{Ghosts}
use Rattle.ss_io.specs.declared.source.Source.{Ghosts as Source}
use Rattle.ss_import.specs.declared.fault.ImportFault.{ImportFault}
use Rattle.ss_import.specs.declared.fault.ImportFault.TheVariants as import
use Rattle.ss_import.specs.declared.importer.Importer.{Importer}
use Rattle.ss_import.specs.Import.{fault_at, AreRead, IsWhole, EndsReading}
use Rattle.ss_import.specs.Steps.{Holds, HasTaken, Putting, PutsEnded, Takes, Refuses, Reading, WasRead, Ended}
use Rattle.ss_import.proofs.Cars.{taken_start, taken_more, whole, refused}

some_framed : (body : List ℕ) → 1 ≤ length (framed body)
unfolding varint groups_of
some_framed [] = omega arith
some_framed (b ∷ bs) = omega (arith, length-append (varint (length (b ∷ bs))) (b ∷ bs))

-- a section has a byte
pub takes_some : (cid block : List ℕ) → 1 ≤ length (framed (cid ++ block))
takes_some cid block = some_framed (cid ++ block)

-- no varint has more than nine bytes
one_group : (b : Bool) (n m k : ℕ) (rest : List ℕ) → length rest ≤ k → length (if b then n ∷ [] else m ∷ rest) ≤ k + 1
one_group true n m k rest few = omega arith
one_group false n m k rest few = omega (arith, few)

few_groups : (more n : ℕ) → length (groups_of more n) ≤ more + 1
unfolding groups_of
few_groups zero n = omega arith
few_groups (suc more) n = let few = one_group (nat_lt n 128) n (n % 128 + 128) (more + 1) (groups_of more (n / 128)) (few_groups more (n / 128)) in omega (arith, few)

few_bytes : (n : ℕ) → length (varint n) ≤ 9
unfolding varint
few_bytes n = few_groups 8 n

-- a header is far shorter than a CAR may be
pub start_short : (old new : Option (List ℕ)) (roots : List (List ℕ)) (taken : ℕ) → TakesStart old new roots taken → taken ≤ 2 ^ 40
start_short old new roots taken is =
    let header = is.is.header in
    omega (arith, is.count, ap length is.is.spelled, length-append (varint (length header)) header, few_bytes (length header), is.is.fits)

-- a source that is lent
abbrev pub lent : {S : Type 0} → Source S → Source (MutBor S)
lent source = record { left = λ s. source.left s.now; faults = λ s. source.faults s.now; place = λ s. s.ghost_name ∷ source.place s.now }

-- before the first section
pub begun : {S D : Type 0} (source : Source S) {disk : Ghosts D} (input : Option (List ℕ)) (was : D) (imp : Importer D disk) (reader : CarReader S)
    → TakesStart input (input_left source reader) (roots_of reader) (taken_of reader) → Holds imp.group [] → imp.sections ≡ 0 → Putting was imp [] [] → Reading source input was imp reader
begun source input was imp reader takes holds none putting = record {
  sections = [];
  left = [];
  putting = putting;
  holds = holds;
  taken = taken_start input (input_left source reader) (roots_of reader) (taken_of reader) takes;
  short = start_short input (input_left source reader) (roots_of reader) (taken_of reader) takes;
  count = none;
}

module _ {D : Type 0} {disk : Ghosts D} (input : Option (List ℕ)) (was : D) (imp : Importer D disk) (roots : List (List ℕ)) (sections : List Section) (read : AreRead input roots sections) where
  -- a put ended the import
  puts_ended : (fault : ImportFault) → PutsEnded was imp sections fault → Ended input was imp fault
  puts_ended fault ends = record { roots = roots; sections = sections; read = read; reason = inl ends }

  -- the CAR ended the import, or memory did
  car_ended : (fault : ImportFault) (left : List Section) → Putting was imp sections left → EndsReading input roots sections left fault → Ended input was imp fault
  car_ended fault left putting ends = record { roots = roots; sections = sections; read = read; reason = inr (left, putting, ends) }

  refused_at : (now : Option (List ℕ)) (taken : ℕ) → HasTaken input now roots sections taken → (f : CarFault) (offset : ℕ) (fault : ImportFault) → offset ≡ taken → Blames NextFault now f → Refuses was imp sections (fault_at f offset) fault → Ended input was imp fault
  refused_at now taken took f offset fault at = by f
    where
      one : (e : ImportFault) → fault ≡ e → (left : List Section) → Putting was imp sections left → EndsReading input roots sections left e → Ended input was imp fault
      one e is left putting ends = subst (λ e. Ended input was imp e) (sym is) (car_ended e left putting ends)

      bad : (f : CarFault) → fault_at f offset ≡ import.BadCar f offset → ForSome now (λ bytes. NextFault bytes f) → ((fault ≡ import.BadCar f offset) × Putting was imp sections []) ⊎ PutsEnded was imp sections fault → Ended input was imp fault
      bad f own blames (inr ends) = puts_ended fault ends
      bad f own blames (inl (is, putting)) = one (import.BadCar f offset) is [] putting (own, refl, inl (subst (λ n. ForSome input (λ bytes. IsCar bytes roots sections (Some (record { fault = f; offset = n })))) (sym at) (refused input now roots sections taken f took blames)))

      by : (f : CarFault) → Blames NextFault now f → Refuses was imp sections (fault_at f offset) fault → Ended input was imp fault
      by car.ReadFault b ends = one import.ReadFault ends.0 ends.1 ends.2 tt
      by car.NoMemory b ends = one import.NoMemory ends.0 ends.1 ends.2 tt
      by car.Truncated b ends = bad car.Truncated refl b ends
      by car.BadHeader b ends = bad car.BadHeader refl b ends
      by (car.BadVersion version) b ends = bad (car.BadVersion version) refl b ends
      by car.ZeroSection b ends = bad car.ZeroSection refl b ends
      by car.TooLarge b ends = bad car.TooLarge refl b ends
      by car.BadCid b ends = bad car.BadCid refl b ends
      by car.BadLength b ends = bad car.BadLength refl b ends

module _ {S D : Type 0} (source : Source S) {disk : Ghosts D} (input : Option (List ℕ)) (was : D) (before now : Importer D disk) (old new : CarReader S) (r : Reading source input was before old) where
  are_read : AreRead input (roots_of old) r.sections
  are_read = inr (λ bytes is. (taken_of old, r.short, (r.taken bytes is).0))

  taken_section : (cid block : List ℕ) → TakesSection (input_left source old) (input_left source new) cid block → taken_of new ≡ taken_of old + length (framed (cid ++ block)) → HasTaken input (input_left source new) (roots_of old) (r.sections ++ record { offset = taken_of old; cid = cid; block = block } ∷ []) (taken_of new)
  taken_section cid block takes count = taken_more input (input_left source old) (input_left source new) (roots_of old) r.sections (taken_of old) (taken_of new) cid block r.taken takes count

  -- a section was taken
  pub goes_on : (cid block : List ℕ) → TakesSection (input_left source old) (input_left source new) cid block → taken_of new ≡ taken_of old + length (framed (cid ++ block)) → roots_of new ≡ roots_of old → now.sections ≡ before.sections + 1 → taken_of new ≤ 2 ^ 40
      → (left : List Section) × Putting was now (r.sections ++ record { offset = taken_of old; cid = cid; block = block } ∷ []) left × Holds now.group left → Reading source input was now new
  goes_on cid block takes count roots more short took = record {
    sections = r.sections ++ record { offset = taken_of old; cid = cid; block = block } ∷ [];
    left = took.0;
    putting = took.1;
    holds = took.2;
    taken = subst (λ l. HasTaken input (input_left source new) l (r.sections ++ record { offset = taken_of old; cid = cid; block = block } ∷ []) (taken_of new)) (sym roots) (taken_section cid block takes count);
    short = short;
    count = more ∙ ap (λ n. n + 1) r.count ∙ sym (length-append r.sections (record { offset = taken_of old; cid = cid; block = block } ∷ []));
  }

  taken_ended : (cid block : List ℕ) → TakesSection (input_left source old) (input_left source new) cid block → taken_of new ≡ taken_of old + length (framed (cid ++ block)) → (fault : ImportFault)
      → Takes was now r.sections (record { offset = taken_of old; cid = cid; block = block }) (taken_of new) (Err fault) → Ended input was now fault
  taken_ended cid block takes count import.TooLong ends = car_ended input was now (roots_of old) r.sections are_read import.TooLong [] ends.1
      (refl, record { offset = taken_of old; cid = cid; block = block }, taken_of new, ends.0, λ bytes is. (taken_section cid block takes count bytes is).0)
  taken_ended cid block takes count import.NoMemory ends = puts_ended input was now (roots_of old) r.sections are_read import.NoMemory ends
  taken_ended cid block takes count import.ReadFault ends = puts_ended input was now (roots_of old) r.sections are_read import.ReadFault ends
  taken_ended cid block takes count import.DiskFault ends = puts_ended input was now (roots_of old) r.sections are_read import.DiskFault ends
  taken_ended cid block takes count (import.BadCar f at) ends = puts_ended input was now (roots_of old) r.sections are_read (import.BadCar f at) ends
  taken_ended cid block takes count (import.BadBlock f at) ends = puts_ended input was now (roots_of old) r.sections are_read (import.BadBlock f at) ends
  taken_ended cid block takes count (import.LogFull file need room) ends = puts_ended input was now (roots_of old) r.sections are_read (import.LogFull file need room) ends
  taken_ended cid block takes count (import.TableFull rows) ends = puts_ended input was now (roots_of old) r.sections are_read (import.TableFull rows) ends
  taken_ended cid block takes count (import.BadHead reply) ends = puts_ended input was now (roots_of old) r.sections are_read (import.BadHead reply) ends

  -- a section was read, and then the import ended
  pub take_ended : (cid block : List ℕ) → TakesSection (input_left source old) (input_left source new) cid block → taken_of new ≡ taken_of old + length (framed (cid ++ block)) → (offset end : ℕ) → offset ≡ taken_of old → end ≡ taken_of new → (fault : ImportFault)
      → Takes was now r.sections (record { offset = offset; cid = cid; block = block }) end (Err fault) → Ended input was now fault
  take_ended cid block takes count offset end begins ends fault took = taken_ended cid block takes count fault
      (subst (λ n. Takes was now r.sections (record { offset = taken_of old; cid = cid; block = block }) n (Err fault)) ends
      (subst (λ n. Takes was now r.sections (record { offset = n; cid = cid; block = block }) end (Err fault)) begins took))

  -- the input ended, and all sections were put
  pub was_read : IsAtEnd (input_left source old) → roots_of new ≡ roots_of old → now.sections ≡ before.sections → Putting was now r.sections [] → WasRead input was now (roots_of new)
  was_read ended roots same putting = record {
    sections = r.sections;
    putting = putting;
    whole = subst (λ l. IsWhole input l r.sections) (sym roots) (whole input (input_left source old) (roots_of old) r.sections (taken_of old) r.taken ended r.short);
    count = same ∙ r.count;
  }

  -- the input ended, and a put of the last sections ended the import
  pub last_ended : (fault : ImportFault) → PutsEnded was now r.sections fault → Ended input was now fault
  last_ended fault ends = puts_ended input was now (roots_of old) r.sections are_read fault ends

  -- no section could be read
  pub read_refused : (refusal : CarRefusal) (fault : ImportFault) → refusal.offset ≡ taken_of old → Blames NextFault (input_left source old) refusal.fault → Refuses was now r.sections (fault_at refusal.fault refusal.offset) fault → Ended input was now fault
  read_refused refusal fault = refused_at input was now (roots_of old) r.sections are_read (input_left source old) (taken_of old) r.taken refusal.fault refusal.offset fault
