-- The fields of each kind of record: what is read is its spelling, and its spelling is read.
use Rattle.std.proofs.Common.{◌≡◌, ℕ, zero, suc, ◌-◌, ◌^◌, ◌≤◌, ◌<◌, List, [], ◌∷◌, ◌++◌, length, All, Result, Ok, refl, sym, ap, subst, ◌∙◌, arith, lit<}
use Rattle.std.specs.Int.{Width, w8, w16, w32, w64}
use Rattle.std.specs.List.{flat_map, AllByRecursion}
use Rattle.std.proofs.lemmas.List.{append-nil}
use Rattle.std.proofs.lemmas.List.Elements.{All-from_recursion, recursion_from_All}
use Rattle.ss_cid.specs.Cid.{IsCid}
use Rattle.ss_cid.specs.Steps.{◌>>=◌}
use Rattle.ss_records.specs.declared.record.Mode.{Mode}
use Rattle.ss_records.specs.declared.record.Mode.TheVariants.{Discard, Universal}
use Rattle.ss_records.specs.declared.record.Config.{Config as Settings}
use Rattle.ss_records.specs.declared.record.Record.{Record}
use Rattle.ss_records.specs.declared.record.Record.TheVariants.{Config, Put, Head, Base, Start}
use Rattle.ss_records.specs.Record.{number, row, block, settings, spelling, mode_number, SettingsFit, Fits, IsValue, IsStored, IsCount, BlockFits}
use Rattle.ss_records.specs.Fields.{items_of, number_of, mode_of, config_of, list_of, head_of, base_of, start_of, block_at, cid_at, stored_cid_at, ended}
use Rattle.ss_records.proofs.Parts.{IsBytes, IsField, IsWhole, begins, begins_again, ends, ends_again, ended-Ok}
use Rattle.ss_records.proofs.Numbers.{number_field, number_whole, wide8, wide16, wide32, wide64, IsWide, IsBetween}
use Rattle.ss_records.proofs.Cids.{cid_field, stored_cid_field, IsStoredCid}
use Rattle.ss_records.proofs.Blocks.{block_field, IsBlock}
use Rattle.ss_records.proofs.Items.{items_whole}

-- fields of this kind spell the record
abbrev pub IsSpelled : ℕ → List ℕ → Record → Type 0
IsSpelled kind fields r = (kind ∷ fields ≡ spelling r) × IsValue r × Fits r

-- ---- Config

mode-number : (n : ℕ) → n ≤ 1 → mode_number (mode_of n) ≡ n
mode-number zero h = refl
mode-number (suc zero) h = refl
mode-number (suc (suc n)) h = absurd (omega arith)

number-mode : (m : Mode) → mode_of (mode_number m) ≡ m
number-mode Discard = refl
number-mode Universal = refl

mode-between : (m : Mode) → IsBetween 0 1 (mode_number m)
mode-between Discard = (omega arith, omega arith)
mode-between Universal = (omega arith, omega arith)

pub config_takes : (fields : List ℕ) (r : Record) → IsBytes fields → config_of fields ≡ Ok r → IsSpelled 0x01 fields r
unfolding config_of spelling
config_takes f0 r s0 h0 =
    begins (number_field w8 (2 ^ 8) 1 1 wide8 (lit< tt)) _ f0 r s0 h0 _ (λ format f1 e1 p1 s1 h1.
    begins (number_field w8 (2 ^ 8) 0 1 wide8 (lit< tt)) _ f1 r s1 h1 _ (λ mode f2 e2 p2 s2 h2.
    begins (number_field w64 (2 ^ 64) 0 (2 ^ 62) wide64 (lit< tt)) _ f2 r s2 h2 _ (λ depth f3 e3 p3 s3 h3.
    begins (number_field w64 (2 ^ 64) 1 (2 ^ 62) wide64 (lit< tt)) _ f3 r s3 h3 _ (λ threshold f4 e4 p4 s4 h4.
    begins (number_field w32 (2 ^ 32) 1 4096 wide32 (lit< tt)) _ f4 r s4 h4 _ (λ batch f5 e5 p5 s5 h5.
    begins (number_field w32 (2 ^ 32) 1 (2 ^ 32 - 1) wide32 (lit< tt)) _ f5 r s5 h5 _ (λ rows f6 e6 p6 s6 h6.
    begins (number_field w64 (2 ^ 64) 65536 (2 ^ 40) wide64 (lit< tt)) _ f6 r s6 h6 _ (λ limit f7 e7 p7 s7 h7.
    let end = ended-Ok _ r f7 h7 in
    let one : format ≡ 1 = omega arith in
    subst (IsSpelled 0x01 f0) end.1 (
      rw (e1, e2, e3, e4, e5, e6, e7, end.0, append-nil, one, mode-number mode p2.1) refl,
      tt,
      record { depth = p3.1; threshold = p4; batch = p5; rows = (p6.0, omega arith); limit = p7 },
    ))))))))

pub config_again : (c : Settings) → SettingsFit c → config_of (settings c) ≡ Ok (Config c)
unfolding config_of
config_again c fits =
    let last : number w64 c.limit ≡ number w64 c.limit ++ [] = sym (append-nil (number w64 c.limit)) in
    let f6 : List ℕ = number w64 c.limit ++ [] in
    let f5 : List ℕ = number w32 c.rows ++ f6 in
    let f4 : List ℕ = number w32 c.batch ++ f5 in
    let f3 : List ℕ = number w64 c.threshold ++ f4 in
    let f2 : List ℕ = number w64 c.depth ++ f3 in
    let f1 : List ℕ = number w8 (mode_number c.mode) ++ f2 in
    let open_end : settings c ≡ number w8 1 ++ f1 = rw append-nil refl in
    ap config_of open_end
    ∙ begins_again (number_field w8 (2 ^ 8) 1 1 wide8 (lit< tt)) _ 1 f1 (omega arith, omega arith)
    ∙ begins_again (number_field w8 (2 ^ 8) 0 1 wide8 (lit< tt)) _ (mode_number c.mode) f2 (mode-between c.mode)
    ∙ begins_again (number_field w64 (2 ^ 64) 0 (2 ^ 62) wide64 (lit< tt)) _ c.depth f3 (omega arith, fits.depth)
    ∙ begins_again (number_field w64 (2 ^ 64) 1 (2 ^ 62) wide64 (lit< tt)) _ c.threshold f4 fits.threshold
    ∙ begins_again (number_field w32 (2 ^ 32) 1 4096 wide32 (lit< tt)) _ c.batch f5 fits.batch
    ∙ begins_again (number_field w32 (2 ^ 32) 1 (2 ^ 32 - 1) wide32 (lit< tt)) _ c.rows f6 (fits.rows.0, omega (arith, fits.rows.1))
    ∙ begins_again (number_field w64 (2 ^ 64) 65536 (2 ^ 40) wide64 (lit< tt)) _ c.limit [] fits.limit
    ∙ ap (λ (m : Mode). Ok (Config (record c { mode = m }))) (number-mode c.mode)

-- ---- records of one or two numbers

-- a record of one number
pub number_takes : (kind low : ℕ) (make : ℕ → Record) (fields : List ℕ) (r : Record) → IsBytes fields → (number_of low fields >>= λ n. Ok (make n)) ≡ Ok r
    → ((n : ℕ) → low ≤ n → n < 2 ^ 64 → IsSpelled kind (number w64 n) (make n)) → IsSpelled kind fields r
number_takes kind low make fields r small h spelled =
    ends (number_whole low) make fields r small h _ (λ n e between same.
    subst (IsSpelled kind fields) same (rw e (spelled n between.0 (omega arith))))

pub number_again : (low n : ℕ) (make : ℕ → Record) → low ≤ n → n < 2 ^ 64 → (number_of low (number w64 n) >>= λ n. Ok (make n)) ≡ Ok (make n)
number_again low n make least fits = ends_again (number_whole low) make n (least, omega arith)

pub base_takes : (fields : List ℕ) (r : Record) → IsBytes fields → base_of fields ≡ Ok r → IsSpelled 0x06 fields r
unfolding base_of spelling
base_takes f0 r s0 h0 =
    begins (number_field w64 (2 ^ 64) 0 (2 ^ 63 - 1) wide64 (lit< tt)) _ f0 r s0 h0 _ (λ base f1 e1 p1 s1 h1.
    ends (number_whole 0) _ f1 r s1 h1 _ (λ ended e2 p2 same.
    subst (IsSpelled 0x06 f0) same (rw (e1, e2) refl, omega arith, omega arith)))

pub base_again : (base ended : ℕ) → base < 2 ^ 63 → ended < 2 ^ 64 → base_of (number w64 base ++ number w64 ended) ≡ Ok (Base base ended)
unfolding base_of
base_again base ended fits ended_fits =
    begins_again (number_field w64 (2 ^ 64) 0 (2 ^ 63 - 1) wide64 (lit< tt)) _ base (number w64 ended) (omega arith, omega arith)
    ∙ ends_again (number_whole 0) _ ended (omega arith, omega arith)

-- ---- records of CIDs and blocks

-- a list behind its count
list_whole : {X : Type 0} {text : X → List ℕ} {P : X → Type 0} {item : List ℕ → Result (X × List ℕ) ℕ} → IsField text P item
    → (w : Width) (limit most : ℕ) → IsWide w limit → most < limit
    → IsWhole (λ xs. number w (length xs) ++ flat_map text xs) (λ xs. IsCount most (length xs) × AllByRecursion P xs) (list_of w most item)
unfolding list_of
list_whole {text = text} {P = P} {item = item} field w limit most wide fits = record {
  takes = λ bytes xs small h.
      begins (number_field w limit 1 most wide fits) _ bytes xs small h _ (λ count rest e1 between small1 h1.
      let items = (items_whole field count).takes rest xs small1 h1 in
      (rw (e1, items.0, items.1.0) refl, ((rw items.1.0 between.0, rw items.1.0 between.1), items.1.1)));
  again = λ xs is.
      begins_again (number_field w limit 1 most wide fits) (λ count. items_of item count.0 count.1) (length xs) (flat_map text xs) is.0
      ∙ (items_whole field (length xs)).again xs (refl, is.1);
}

stored_whole : IsWhole (λ cids. number w16 (length cids) ++ row cids) (λ cids. IsCount 4096 (length cids) × AllByRecursion IsStoredCid cids) (list_of w16 4096 stored_cid_at)
stored_whole = list_whole stored_cid_field w16 (2 ^ 16) 4096 wide16 (lit< tt)

blocks_whole : IsWhole (λ blocks. number w16 (length blocks) ++ flat_map block blocks) (λ blocks. IsCount 4096 (length blocks) × AllByRecursion IsBlock blocks) (list_of w16 4096 block_at)
blocks_whole = list_whole block_field w16 (2 ^ 16) 4096 wide16 (lit< tt)

cids_whole : IsWhole (λ cids. number w8 (length cids) ++ row cids) (λ cids. IsCount 64 (length cids) × AllByRecursion IsCid cids) (list_of w8 64 cid_at)
cids_whole = list_whole cid_field w8 (2 ^ 8) 64 wide8 (lit< tt)

-- a record of the CIDs of stored blocks
pub stored_takes : (kind : ℕ) (make : List (List ℕ) → Record) (fields : List ℕ) (r : Record) → IsBytes fields
    → (list_of w16 4096 stored_cid_at fields >>= λ cids. Ok (make cids)) ≡ Ok r
    → ((cids : List (List ℕ)) → All IsCid cids → IsCount 4096 (length cids) → All IsStored cids → IsSpelled kind (number w16 (length cids) ++ row cids) (make cids))
    → IsSpelled kind fields r
stored_takes kind make fields r small h spelled =
    ends stored_whole make fields r small h _ (λ cids e is same.
    let all = All-from_recursion IsStoredCid cids is.1 in
    subst (IsSpelled kind fields) same (rw e (spelled cids (λ k d lt. (all k d lt).0) is.0 (λ k d lt. (all k d lt).1))))

pub stored_again : (make : List (List ℕ) → Record) (cids : List (List ℕ)) → All IsCid cids → IsCount 4096 (length cids) → All IsStored cids
    → (list_of w16 4096 stored_cid_at (number w16 (length cids) ++ row cids) >>= λ cids. Ok (make cids)) ≡ Ok (make cids)
stored_again make cids are count stored =
    ends_again stored_whole make cids (count, recursion_from_All IsStoredCid cids (λ k d lt. (are k d lt, stored k d lt)))

pub put_takes : (fields : List ℕ) (r : Record) → IsBytes fields → (list_of w16 4096 block_at fields >>= λ blocks. Ok (Put blocks)) ≡ Ok r → IsSpelled 0x03 fields r
unfolding spelling
put_takes fields r small h =
    ends blocks_whole Put fields r small h _ (λ blocks e is same.
    let all = All-from_recursion IsBlock blocks is.1 in
    subst (IsSpelled 0x03 fields) same (rw e refl, λ k d lt. (all k d lt).0, (is.0, λ k d lt. (all k d lt).1)))

pub put_again : (blocks : List (List ℕ × List ℕ)) → All (λ b. IsCid b.0) blocks → IsCount 4096 (length blocks) → All BlockFits blocks
    → (list_of w16 4096 block_at (number w16 (length blocks) ++ flat_map block blocks) >>= λ blocks. Ok (Put blocks)) ≡ Ok (Put blocks)
put_again blocks are count fit =
    ends_again blocks_whole Put blocks (count, recursion_from_All IsBlock blocks (λ k d lt. (are k d lt, fit k d lt)))

pub head_takes : (fields : List ℕ) (r : Record) → IsBytes fields → head_of fields ≡ Ok r → IsSpelled 0x05 fields r
unfolding head_of spelling
head_takes f0 r s0 h0 =
    begins (number_field w8 (2 ^ 8) 1 64 wide8 (lit< tt)) _ f0 r s0 h0 _ (λ count f1 e1 p1 s1 h1.
    begins (number_field w64 (2 ^ 64) 0 (2 ^ 63 - 1) wide64 (lit< tt)) _ f1 r s1 h1 _ (λ height f2 e2 p2 s2 h2.
    ends (items_whole cid_field count) _ f2 r s2 h2 _ (λ cids e3 p3 same.
    subst (IsSpelled 0x05 f0) same (
      rw (e1, e2, e3, p3.0) refl,
      All-from_recursion IsCid cids p3.1,
      (omega arith, (rw p3.0 p1.0, rw p3.0 p1.1)),
    ))))

pub head_again : (height : ℕ) (cids : List (List ℕ)) → All IsCid cids → height < 2 ^ 63 → IsCount 64 (length cids)
    → head_of (number w8 (length cids) ++ (number w64 height ++ row cids)) ≡ Ok (Head height cids)
unfolding head_of
head_again height cids are fits count =
    begins_again (number_field w8 (2 ^ 8) 1 64 wide8 (lit< tt)) _ (length cids) (number w64 height ++ row cids) count
    ∙ begins_again (number_field w64 (2 ^ 64) 0 (2 ^ 63 - 1) wide64 (lit< tt)) _ height (row cids) (omega arith, omega arith)
    ∙ ends_again (items_whole cid_field (length cids)) _ cids (refl, recursion_from_All IsCid cids are)

pub start_takes : (fields : List ℕ) (r : Record) → IsBytes fields → start_of fields ≡ Ok r → IsSpelled 0x11 fields r
unfolding start_of spelling
start_takes f0 r s0 h0 =
    begins (number_field w64 (2 ^ 64) 0 (2 ^ 64 - 1) wide64 (lit< tt)) _ f0 r s0 h0 _ (λ edge f1 e1 p1 s1 h1.
    ends cids_whole (Start edge) f1 r s1 h1 _ (λ cids e2 p2 same.
    subst (IsSpelled 0x11 f0) same (rw (e1, e2) refl, (omega arith, All-from_recursion IsCid cids p2.1), p2.0)))

pub start_again : (edge : ℕ) (cids : List (List ℕ)) → edge < 2 ^ 64 → All IsCid cids → IsCount 64 (length cids)
    → start_of (number w64 edge ++ (number w8 (length cids) ++ row cids)) ≡ Ok (Start edge cids)
unfolding start_of
start_again edge cids fits are count =
    begins_again (number_field w64 (2 ^ 64) 0 (2 ^ 64 - 1) wide64 (lit< tt)) _ edge (number w8 (length cids) ++ row cids) (omega arith, omega arith)
    ∙ ends_again cids_whole (Start edge) cids (count, recursion_from_All IsCid cids are)
