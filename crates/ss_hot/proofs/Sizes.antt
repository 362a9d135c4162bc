-- How long the bodies of records are.
use Rattle.std.proofs.Common.{◌≡◌, ℕ, ◌+◌, ◌*◌, ◌≤◌, List, [], ◌∷◌, length, All, refl, arith, length-append}
use Rattle.std.proofs.lemmas.List.Elements.{All-head, All-tail}
use Rattle.ss_cid.specs.Cid.{IsCid}
use Rattle.ss_cid.proofs.Grammar.{IsCid-length}
use Rattle.ss_records.specs.declared.record.Config.{Config as Settings}
use Rattle.ss_records.specs.declared.record.Record.TheVariants.{Config, Generation, Dropped, Head, Base}
use Rattle.ss_records.specs.Record.{spelling, number, row}

pub length-Base : (base ended : ℕ) → length (spelling (Base base ended)) ≡ 17
unfolding spelling number
length-Base base ended = refl

pub length-Generation : (n : ℕ) → length (spelling (Generation n)) ≡ 9
unfolding spelling number
length-Generation n = refl

pub length-Config : (c : Settings) → length (spelling (Config c)) ≡ 35
unfolding spelling number
length-Config c = refl

-- CIDs of at most 72 bytes each
length-row : (cids : List (List ℕ)) → All IsCid cids → length (row cids) ≤ 72 * length cids
length-row [] all = omega arith
length-row (c ∷ cids) all =
    omega (arith, (IsCid-length c (All-head IsCid c cids all)).1, length-append c (row cids), length-row cids (All-tail IsCid c cids all))

pub length-Head : (height : ℕ) (cids : List (List ℕ)) → All IsCid cids → length (spelling (Head height cids)) ≤ 10 + 72 * length cids
unfolding spelling number
length-Head height cids all = omega (arith, length-row cids all)

pub length-Dropped : (cids : List (List ℕ)) → All IsCid cids → length (spelling (Dropped cids)) ≤ 3 + 72 * length cids
unfolding spelling number
length-Dropped cids all = omega (arith, length-row cids all)
