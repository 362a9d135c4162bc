-- What is taken from an input that exposes its bytes, what is wrong with the bytes that a length counts, and a reader as its caller sees it.
use Rattle.std.specs.{Prelude.{◌≡◌, ℕ, ◌<◌, ◌^◌, List, [], ◌++◌, length, Option, Some, None, Err, ⊤, ◌∷◌, MatchOption, Result, IsErrAnd, ◌+◌, ◌≤◌, slice_index_or}, Io.KnownBytes.{Keeps, Consumes, IsAtEnd}, Option.ForSome}
use Rattle.ss_cid.specs.{Cid.cid_at, declared.fault.CidFault.CidFault}
use Rattle.ss_car.specs.{Car.{framed, IsHeader, IsStart, IsSection, SectionFault}, declared.fault.CarFault.CarFault, declared.fault.CarRefusal.CarRefusal, declared.reader.CarReader.CarReader}
use Rattle.ss_io.specs.{declared.source.Source.Ghosts as Source, declared.buffered.Buffered.Buffered, Buffered.{before, buffered_of}}

-- the input begins with a header with these roots, of so many bytes with its length, which were taken
pub record TakesStart (old new : Option (List ℕ)) (roots : List (List ℕ)) (taken : ℕ) : Type 0 where
  pub bytes : List ℕ
  pub is : IsStart bytes roots
  pub consumed : Consumes old new bytes
  pub count : taken ≡ length bytes

-- the input begins with a section with this CID and these data, which was taken
pub record TakesSection (old new : Option (List ℕ)) (cid block : List ℕ) : Type 0 where
  pub is : IsSection (framed (cid ++ block)) cid block
  pub consumed : Consumes old new (framed (cid ++ block))

-- The next section was taken, with its CID, its data and the count of its bytes, or the input has ended.
abbrev pub TakesNext : Option (List ℕ) → Option (List ℕ) → Option (List ℕ × List ℕ × ℕ) → Type 0
TakesNext old new None = IsAtEnd old × Keeps old new × IsAtEnd new
TakesNext old new (Some (cid, block, count)) = TakesSection old new cid block × (count ≡ length (framed (cid ++ block))) × (count < 2 ^ 32)

-- bytes are left, and they begin with no section
abbrev pub NextFault : List ℕ → CarFault → Type 0
NextFault bytes fault = (0 < length bytes) × SectionFault bytes fault

-- what is wrong with the bytes of a header, or memory ran out
abbrev pub HeaderFault : List ℕ → CarFault → Type 0
HeaderFault body CarFault.NoMemory = ⊤
HeaderFault body CarFault.BadHeader = (roots : List (List ℕ)) (version : ℕ) → IsHeader body roots version → ⊥
HeaderFault body (CarFault.BadVersion version) = (roots : List (List ℕ)) × (IsHeader body roots version × (version ≡ 1 → ⊥))
HeaderFault body _ = ⊥

-- what is wrong with the bytes of a section
abbrev pub BodyFault : List ℕ → CarFault → Type 0
BodyFault body CarFault.ZeroSection = body ≡ []
BodyFault body CarFault.BadCid = (0 < length body) × ((fault : CidFault) × (cid_at body ≡ Err fault))
BodyFault body _ = ⊥

-- ---- how a step reads the input

-- a fault of the bytes that were left holds of them; the source and memory may fail whatever they are
abbrev pub Blames : (List ℕ → CarFault → Type 0) → Option (List ℕ) → CarFault → Type 0
Blames holds left CarFault.ReadFault = ⊤
Blames holds left CarFault.NoMemory = ⊤
Blames holds left fault = ForSome left (λ bytes. holds bytes fault)

-- the next byte was taken, or the input has ended
abbrev pub TakesByte : Option (List ℕ) → Option (List ℕ) → Option ℕ → Type 0
TakesByte old new found = MatchOption found (Keeps old new × IsAtEnd new) (λ byte. Consumes old new (byte ∷ []))

-- the fault is that the source failed
abbrev pub IsReadFault : CarFault → Type 0
IsReadFault fault = fault ≡ CarFault.ReadFault

-- ---- the bytes of a length as they come

-- the last byte, of at most nine, is the only one without the high bit
pub record EndsOnce (bytes : List ℕ) : Type 0 where
  pub last : ℕ
  pub len : length bytes ≡ last + 1
  pub few : last < 9
  pub high : (j : ℕ) → j < last → 128 ≤ slice_index_or bytes j 0
  pub ends : slice_index_or bytes last 0 < 128

-- what is left of a source that is read through a buffer
abbrev pub left_of : {S : Type 0} → Source S → Buffered S → Option (List ℕ)
left_of source b = before (buffered_of b) (source.left b.source)

abbrev pub faults_of : {S : Type 0} → Source S → Buffered S → ℕ
faults_of source b = source.faults b.source

abbrev pub place_of : {S : Type 0} → Source S → Buffered S → List ℕ
place_of source b = source.place b.source

abbrev pub roots_of : {S : Type 0} → CarReader S → List (List ℕ)
roots_of r = r.roots

abbrev pub taken_of : {S : Type 0} → CarReader S → ℕ
taken_of r = r.taken

abbrev pub refusal_of : {S : Type 0} → CarReader S → Option CarRefusal
refusal_of r = r.refusal

abbrev pub input_left : {S : Type 0} → Source S → CarReader S → Option (List ℕ)
input_left source r = left_of source r.source

abbrev pub input_faults : {S : Type 0} → Source S → CarReader S → ℕ
input_faults source r = faults_of source r.source

abbrev pub input_place : {S : Type 0} → Source S → CarReader S → List ℕ
input_place source r = place_of source r.source

-- The next section was given, and the count of bytes rose by its own, or the input had ended.
abbrev pub GivesNext : {S : Type 0} → Source S → CarReader S → CarReader S → Option (List ℕ × List ℕ) → Type 0
GivesNext source old new None =
    IsAtEnd (input_left source old) × Keeps (input_left source old) (input_left source new) × IsAtEnd (input_left source new) × (taken_of new ≡ taken_of old)
GivesNext source old new (Some (cid, block)) =
    TakesSection (input_left source old) (input_left source new) cid block × (taken_of new ≡ taken_of old + length (framed (cid ++ block)))

-- the result is a refusal because the source failed
abbrev pub BlamesSource : {X : Type 0} → Result X CarRefusal → Type 0
BlamesSource result = IsErrAnd result (λ refusal. IsReadFault refusal.fault)
