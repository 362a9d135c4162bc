-- The bytes of a gate log, a form of this project's own. A file is a row of records and then a closed gate. A record is an
-- open gate, the length of its body in four bytes, the most significant first, and the body. A gate is open exactly where
-- its byte is a5. What stands after the first closed gate counts for nothing.
use Rattle.std.specs.{Prelude.{◌≡◌, ◌≢◌, ◌⊎◌, ◌+◌, ◌<◌, ◌≤◌, ℕ, List, [], ◌∷◌, ◌++◌, length, take}, Int.{w32, to_be_bytes}}

-- an open gate
abbrev pub open_gate : ℕ
open_gate = 165

-- the most bytes that a body may have
abbrev pub longest_body : ℕ
longest_body = 16777216

unfoldable pub length_bytes : ℕ → List ℕ
length_bytes n = to_be_bytes w32 n

-- the bytes of records with these bodies
abbrev pub spelled : List (List ℕ) → List ℕ
spelled [] = []
spelled (body ∷ bodies) = open_gate ∷ (length_bytes (length body) ++ (body ++ spelled bodies))

-- no body is longer than it may be
abbrev pub AreBodies : List (List ℕ) → Type 0
AreBodies [] = Unit {0}
AreBodies (body ∷ bodies) = (length body ≤ longest_body) × AreBodies bodies

-- the file begins with these records, and a closed gate stands after the last
pub record Spells (records : List (List ℕ)) (file : List ℕ) : Type 0 where
  pub gate : ℕ
  pub rest : List ℕ
  pub is : file ≡ spelled records ++ gate ∷ rest
  pub closed : gate ≢ open_gate

-- a file that holds no record, whatever its byte, where it has one
abbrev pub IsShort : List ℕ → Type 0
IsShort file = length file ≤ 1

-- These are the records of a file, of which no more than the first `limit` bytes are used.
pub record HasRecords (limit : ℕ) (file : List ℕ) (records : List (List ℕ)) : Type 0 where
  pub spells : Spells records file
  pub bodies : AreBodies records
  pub within : length (spelled records) < limit

-- the list that a file stands for
abbrev pub HasList : ℕ → List ℕ → List (List ℕ) → Type 0
HasList limit file records = (IsShort file × (records ≡ [])) ⊎ HasRecords limit file records

-- An open gate at `at`, before these bytes: a body of n bytes is in bounds, and the gate after it in the file and its first `limit` bytes.
pub record Fits (limit at : ℕ) (rest : List ℕ) (n : ℕ) : Type 0 where
  pub spelled_so : take 4 rest ≡ length_bytes n
  pub in_bounds : n ≤ longest_body
  pub in_file : 4 + n < length rest
  pub in_limit : at + 5 + n < limit

-- The file is damaged at this offset: records lead up to it, an open gate stands there, and no record fits after it.
pub record IsDamaged (limit : ℕ) (file : List ℕ) (at : ℕ) : Type 0 where
  pub front : List (List ℕ)
  pub rest : List ℕ
  pub is : file ≡ spelled front ++ open_gate ∷ rest
  pub place : at ≡ length (spelled front)
  pub bodies : AreBodies front
  pub within : at < limit
  pub not_short : 1 < length file
  pub unfit : (n : ℕ) → Fits limit at rest n → ⊥

-- A gate of unknown state stands after these records: with it closed the file has the first list, with it open the second.
pub record InDoubt (front more : List (List ℕ)) (file : List ℕ) : Type 0 where
  pub gate : ℕ
  pub rest : List ℕ
  pub is : file ≡ spelled front ++ gate ∷ rest
  pub opened : Spells more (spelled front ++ open_gate ∷ rest)
