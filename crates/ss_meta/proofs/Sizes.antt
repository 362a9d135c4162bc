-- How long the bodies of records are.
use Rattle.std.proofs.Common.{◌≡◌, ℕ, ◌+◌, ◌*◌, ◌≤◌, List, [], ◌∷◌, length, All, refl, arith, length-append}
use Rattle.std.proofs.lemmas.List.Elements.{All-head, All-tail}
use Rattle.ss_cid.specs.Cid.{IsCid}
use Rattle.ss_cid.proofs.Grammar.{IsCid-length}
use Rattle.ss_records.specs.declared.record.Record.TheVariants.{Start, Cold, Sealed, Copied, Purged}
use Rattle.ss_records.specs.Record.{frame, spelling, number, row}

pub length-frame : (body : List ℕ) → length (frame body) ≡ 5 + length body
length-frame body = omega (arith, length-append body (0 ∷ []))

pub length-Sealed : (total : ℕ) → length (spelling (Sealed total)) ≡ 9
unfolding spelling number
length-Sealed total = refl

pub length-Copied : (up_to : ℕ) → length (spelling (Copied up_to)) ≡ 9
unfolding spelling number
length-Copied up_to = refl

pub length-Purged : (up_to : ℕ) → length (spelling (Purged up_to)) ≡ 9
unfolding spelling number
length-Purged up_to = refl

-- CIDs of at most 72 bytes each
length-row : (cids : List (List ℕ)) → All IsCid cids → length (row cids) ≤ 72 * length cids
length-row [] all = omega arith
length-row (c ∷ cids) all =
    omega (arith, (IsCid-length c (All-head IsCid c cids all)).1, length-append c (row cids), length-row cids (All-tail IsCid c cids all))

pub length-Start : (edge : ℕ) (cids : List (List ℕ)) → All IsCid cids → length (spelling (Start edge cids)) ≤ 10 + 72 * length cids
unfolding spelling number
length-Start edge cids all = omega (arith, length-row cids all)

pub length-Cold : (cids : List (List ℕ)) → All IsCid cids → length (spelling (Cold cids)) ≤ 3 + 72 * length cids
unfolding spelling number
length-Cold cids all = omega (arith, length-row cids all)
