-- Where the hot blocks lie: what stands there, and how long it is.
use Rattle.std.proofs.Common.{◌≡◌, ℕ, ◌+◌, ◌-◌, List, [], ◌∷◌, ◌++◌, map, length, refl, sym, ap, ◌∙◌, arith, length-append, append_assoc}
use Rattle.std.specs.Prelude.{slice_range, option_map, is_some}
use Rattle.std.specs.Int.{w16, w32}
use Rattle.std.specs.List.{flat_map}
use Rattle.std.specs.Ordering.{nat_cmp}
use Rattle.std.specs.Cmp.Lexicographic.{slice_cmp}
use Rattle.std.specs.FinMap as finite_map
use Rattle.std.proofs.lemmas.List.{drop_at, take_at}
use Rattle.ss_records.specs.declared.record.Record.{Record}
use Rattle.ss_records.specs.declared.record.Record.TheVariants.{Config, Generation, Put, Dropped, Head, Base, Start, Cold, Sealed, Copied, Purged}
use Rattle.ss_records.specs.Record.{number, block, spelling}
use Rattle.ss_records.specs.Places.{places}
use Rattle.ss_gatelog.specs.Log.{open_gate, length_bytes, spelled}
use Rattle.ss_store.specs.declared.place.Place.{Place}
use Rattle.ss_store.specs.Places.{CidMap, with_pairs, without_cids, placed}
use Rattle.ss_store.specs.Append.{bodies}
use Rattle.ss_hot.specs.Half.{hot_after, hot_from, hot_blocks, places_after, places_from, hot_places}
use Rattle.std.proofs.Common.{Bool, true, false}
use Rattle.std.proofs.lemmas.Bool.Decides.{when_true, when_false}
use Rattle.ss_device.specs.declared.disk.Disk.{Ghosts}
use Rattle.ss_gatelog.specs.GateLog.{Log, IsSure, IsDoubted, Stands}
use Rattle.ss_gatelog.proofs.Bytes.{length-length_bytes}
use Rattle.ss_hot.specs.Store.{Hot, Keeps}
use Rattle.ss_store.proofs.TreeMap.{by_bytes, exact}
use Rattle.ss_store.proofs.Maps.{alike_insert, alike_remove, alike_keys, alike_len, alike_some, read_whole}

length-number16 : (n : ℕ) → length (number w16 n) ≡ 2
unfolding number
length-number16 n = refl

length-number32 : (n : ℕ) → length (number w32 n) ≡ 4
unfolding number
length-number32 n = refl

-- what f reads of the place of a block that stands in the file is what g reads of its bytes
abbrev Reads : {Z : Type 0} → (Place → Z) → (List ℕ → Z) → ℕ → List ℕ → Type 0
Reads f g file_number file = (front rest : List ℕ) (b : List ℕ × List ℕ) (at : ℕ) → file ≡ front ++ (block b ++ rest) → at ≡ length front + length b.0 + 4 → f (record { file = file_number; at = at; len = length b.1 }) ≡ g b.1

-- of a map of places and one of blocks they read the same
abbrev AreRead : {Z : Type 0} → (Place → Z) → (List ℕ → Z) → CidMap Place → CidMap (List ℕ) → Type 0
AreRead f g held hot = (q : List ℕ) → option_map f (finite_map.get held q) ≡ option_map g (finite_map.get hot q)

module _ {Z : Type 0} (f : Place → Z) (g : List ℕ → Z) (file_number : ℕ) (file : List ℕ) (reads : Reads f g file_number file) where
  read_pairs : (front rest : List ℕ) (blocks : List (List ℕ × List ℕ)) (body at : ℕ) (held : CidMap Place) (hot : CidMap (List ℕ)) → file ≡ front ++ (flat_map block blocks ++ rest) → body + at ≡ length front → AreRead f g held hot
      → AreRead f g (with_pairs held (map (placed file_number body) (places at blocks))) (with_pairs hot blocks)
  read_pairs front rest [] body at held hot is place read = read
  read_pairs front rest (b ∷ bs) body at held hot is place read =
      let here : file ≡ front ++ (block b ++ (flat_map block bs ++ rest)) = is ∙ ap (λ (l : List ℕ). front ++ l) (append_assoc (block b) (flat_map block bs) rest) in
      read_pairs (front ++ block b) rest bs body (at + length (block b)) _ _ (here ∙ sym (append_assoc front (block b) (flat_map block bs ++ rest))) (omega (arith, place, length-append front (block b)))
      (alike_insert by_bytes f g held hot b.0 _ b.1 (reads front (flat_map block bs ++ rest) b (body + (at + length b.0 + 4)) here (omega (arith, place))) read)

  read_cids : (cids : List (List ℕ)) (held : CidMap Place) (hot : CidMap (List ℕ)) → AreRead f g held hot → AreRead f g (without_cids held cids) (without_cids hot cids)
  read_cids [] held hot read = read
  read_cids (c ∷ cs) held hot read = read_cids cs _ _ (alike_remove by_bytes f g held hot c read)

  read_record : (front rest : List ℕ) (r : Record) (at : ℕ) (held : CidMap Place) (hot : CidMap (List ℕ)) → file ≡ front ++ open_gate ∷ (length_bytes (length (spelling r)) ++ (spelling r ++ rest)) → at ≡ length front → AreRead f g held hot
      → AreRead f g (places_after file_number held at r) (hot_after hot r)
  unfolding spelling
  read_record front rest (Put blocks) at held hot is place read =
      let size = length_bytes (length (spelling (Put blocks))) in
      let count = number w16 (length blocks) in
      let before : List ℕ = front ++ open_gate ∷ (size ++ 3 ∷ count) in
      read_pairs before rest blocks (at + 5) 3 held hot (is ∙ simp append_assoc refl)
      (omega (arith, place, length-append front (open_gate ∷ (size ++ 3 ∷ count)), length-append size (3 ∷ count), length-length_bytes (length (spelling (Put blocks))), length-number16 (length blocks))) read
  read_record front rest (Dropped cids) at held hot is place read = read_cids cids held hot read
  read_record front rest (Config c) at held hot is place read = read
  read_record front rest (Generation n) at held hot is place read = read
  read_record front rest (Head height cids) at held hot is place read = read
  read_record front rest (Base base ended) at held hot is place read = read
  read_record front rest (Start edge cids) at held hot is place read = read
  read_record front rest (Cold cids) at held hot is place read = read
  read_record front rest (Sealed total) at held hot is place read = read
  read_record front rest (Copied up_to) at held hot is place read = read
  read_record front rest (Purged up_to) at held hot is place read = read

  read_records : (front rest : List ℕ) (records : List Record) (at : ℕ) (held : CidMap Place) (hot : CidMap (List ℕ)) → file ≡ front ++ (spelled (bodies records) ++ rest) → at ≡ length front → AreRead f g held hot
      → AreRead f g (places_from file_number held at records) (hot_from hot records)
  read_records front rest [] at held hot is place read = read
  read_records front rest (r ∷ rs) at held hot is place read =
      let size = length_bytes (length (spelling r)) in
      let behind = spelled (bodies rs) in
      let body : List ℕ = open_gate ∷ (size ++ spelling r) in
      read_records (front ++ body) rest rs (at + 5 + length (spelling r)) _ _ (is ∙ simp append_assoc refl)
      (omega (arith, place, length-append front body, length-append size (spelling r), length-length_bytes (length (spelling r))))
      (read_record front (behind ++ rest) r at held hot (is ∙ simp append_assoc refl) place read)

  read_all : (rest : List ℕ) (records : List Record) → file ≡ spelled (bodies records) ++ rest → AreRead f g (hot_places file_number records) (hot_blocks records)
  read_all rest records is = read_records [] rest records 0 finite_map.empty finite_map.empty is refl
      (λ q. ap (option_map f) (finite_map.get-empty (slice_cmp nat_cmp) q) ∙ sym (ap (option_map g) (finite_map.get-empty (slice_cmp nat_cmp) q)))

-- the bytes of a block in a file
pub block_in : (file_number : ℕ) (file : List ℕ) → Reads (λ p. slice_range file p.at (p.at + p.len)) (λ b. b) file_number file
block_in file_number file front rest b at is place =
    let width = number w32 (length b.1) in
    let before : List ℕ = front ++ (b.0 ++ width) in
    let size : length before ≡ at = omega (arith, place, length-append front (b.0 ++ width), length-append b.0 width, length-number32 (length b.1)) in
    let parts : file ≡ before ++ (b.1 ++ rest) = is ∙ simp append_assoc refl in
    let len : at + length b.1 - at ≡ length b.1 = omega arith in
    rw (len, parts, drop_at before (b.1 ++ rest) at size) (take_at b.1 rest (length b.1) refl)

module _ (file_number : ℕ) (records : List Record) (q : List ℕ) where
  -- a block is as long as its place says
  pub places_lengths : option_map (λ p. p.len) (finite_map.get (hot_places file_number records) q) ≡ option_map (λ block. length block) (finite_map.get (hot_blocks records) q)
  places_lengths = read_all (λ p. p.len) (λ block. length block) file_number (spelled (bodies records) ++ []) (λ front rest b at is place. refl) [] records refl q

  -- and stands there in a file that begins with the records
  pub places_bytes : (file rest : List ℕ) → file ≡ spelled (bodies records) ++ rest → option_map (λ p. slice_range file p.at (p.at + p.len)) (finite_map.get (hot_places file_number records) q) ≡ finite_map.get (hot_blocks records) q
  places_bytes file rest is = read_all (λ p. slice_range file p.at (p.at + p.len)) (λ b. b) file_number file (block_in file_number file) rest records is q ∙ read_whole (finite_map.get (hot_blocks records) q)

  pub places_some : is_some (finite_map.get (hot_places file_number records) q) ≡ is_some (finite_map.get (hot_blocks records) q)
  places_some = alike_some (λ p. p.len) (λ block. length block) _ _ places_lengths

pub places_keys : (file_number : ℕ) (records : List Record) → finite_map.keys (hot_places file_number records) ≡ finite_map.keys (hot_blocks records)
places_keys file_number records = alike_keys by_bytes (λ p. p.len) (λ block. length block) exact (hot_places file_number records) (hot_blocks records) (places_lengths file_number records)

pub places_len : (file_number : ℕ) (records : List Record) → finite_map.len (hot_places file_number records) ≡ finite_map.len (hot_blocks records)
places_len file_number records = alike_len by_bytes (λ p. p.len) (λ block. length block) exact (hot_places file_number records) (hot_blocks records) (places_lengths file_number records)

-- ---- a store over a disk

-- the file as a read gives it begins with the records
begins : {D : Type 0} (disk : Ghosts D) (now : D) (log : Log) (front more : List (List ℕ)) → disk.image now (disk.moment now) (disk.files now) → Stands disk now log front more → (rest : List ℕ) × (disk.files now log.file ≡ spelled front ++ rest)
begins {D = D} disk now log front more reads stands = at log.unsure refl
  where
    at : (b : Bool) → log.unsure ≡ b → (rest : List ℕ) × (disk.files now log.file ≡ spelled front ++ rest)
    at true is =
        let file = (when_true (IsDoubted disk now log front more) (IsSure disk now log front) is stands).each (disk.files now) reads in
        (file.gate ∷ file.rest, file.is)
    at false is =
        let file = (when_false (IsDoubted disk now log front more) (IsSure disk now log front) is stands).each (disk.files now) reads in
        (file.gate ∷ file.rest, file.is)

-- the store's places tell where its blocks stand in the file
pub kept_bytes : {D : Type 0} (disk : Ghosts D) (now : D) (store : Hot) (records others : List Record) (q : List ℕ) → disk.image now (disk.moment now) (disk.files now) → Keeps disk now store records others
    → option_map (λ p. slice_range (disk.files now store.log.file) p.at (p.at + p.len)) (finite_map.get store.places q) ≡ finite_map.get (hot_blocks records) q
kept_bytes disk now store records others q reads keeps =
    let file = begins disk now store.log (bodies records) (bodies others) reads keeps.stands in
    ap (λ m. option_map (λ (p : Place). slice_range (disk.files now store.log.file) p.at (p.at + p.len)) (finite_map.get m q)) keeps.tells.places
    ∙ places_bytes store.log.file records q (disk.files now store.log.file) file.0 file.1

-- what was read at a place of the file
pub read_block : (p : Place) (file was out : List ℕ) → was ≡ file → length out ≡ p.len → out ≡ slice_range was p.at (p.at + length out) → out ≡ slice_range file p.at (p.at + p.len)
read_block p file was out same long read = read ∙ ap (λ k. slice_range was p.at (p.at + k)) long ∙ ap (λ f. slice_range f p.at (p.at + p.len)) same
