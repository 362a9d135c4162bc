-- What the answer to a put of a group means for the import.
use Rattle.std.proofs.Common.{map, ◌≡◌, ◌⊎◌, inl, inr, ⊎_elim, ℕ, ◌<◌, ◌≤◌, true, List, [], ◌∷◌, length, All, Some, Ok, Err, refl, sym, ap, ◌∙◌, subst, arith, true≢false, get_or}
use Rattle.std.specs.Prelude.{slice_get}
use Rattle.std.specs.FinSet as finite_set
use Rattle.std.proofs.lemmas.List.{length-map}
use Rattle.std.proofs.lemmas.Option.{slice_get_within, get_or_from_slice_get}
use Rattle.ss_device.specs.declared.disk.Disk.{Ghosts}
use Rattle.ss_car.specs.Car.{Section}
use Rattle.ss_model.specs.Lawful.{IsSmall, IsFirstFault, IsPairFault}
use Rattle.ss_model.specs.declared.TheConstants.{PUT_BLOCKS, PUT_BYTES}
use Rattle.ss_model.specs.declared.call.PutReply.{PutReply}
use Rattle.ss_model.specs.declared.call.PutReply.TheVariants as put
use Rattle.ss_core.specs.declared.split_core.SplitCore.{SplitCore}
use Rattle.ss_core.specs.Replies.{IsDueTo, held_put_bytes}
use Rattle.ss_import.specs.declared.fault.BlockFault.{BlockFault}
use Rattle.ss_import.specs.declared.fault.BlockFault.TheVariants as block
use Rattle.ss_import.specs.declared.fault.ImportFault.{ImportFault}
use Rattle.ss_import.specs.declared.fault.ImportFault.TheVariants as import
use Rattle.ss_import.specs.declared.importer.PutFault.TheVariants as group
use Rattle.ss_import.specs.Import.{pair_of, GoTogether, IsBlockFault, EndsPut, no_memory, disk_fault, log_full, table_full}
use Rattle.ss_import.specs.Steps.{outcome_of, IsGroupReply, IsDueBlock}
use Rattle.ss_import.proofs.Fronts.{pair_at}

-- a put that stored its blocks
pub stored_reply : (reply : PutReply) (n : ℕ) → outcome_of reply ≡ Ok n → reply ≡ put.Stored n
stored_reply (put.Stored new) n is = let same : new ≡ n = cc (is) in ap put.Stored same
stored_reply put.BadView n is = absurd (cc (is))
stored_reply (put.TooMany k) n is = absurd (cc (is))
stored_reply (put.TooBig k) n is = absurd (cc (is))
stored_reply (put.TooLarge i) n is = absurd (cc (is))
stored_reply (put.UnknownHash i) n is = absurd (cc (is))
stored_reply (put.Mismatch i) n is = absurd (cc (is))
stored_reply (put.Malformed i kind place) n is = absurd (cc (is))
stored_reply put.NoMemory n is = absurd (cc (is))
stored_reply (put.TableFull rows) n is = absurd (cc (is))
stored_reply (put.LogFull file need room) n is = absurd (cc (is))
stored_reply put.DiskFault n is = absurd (cc (is))

few : (pairs : List (List ℕ × List ℕ)) → GoTogether pairs → PUT_BLOCKS < length pairs → ⊥
few pairs (inl one) many = omega (arith, one, many)
few pairs (inr group) many = omega (arith, group.0, many)

-- the answer is one that a put of a group may get
pub group_reply : {D : Type 0} {disk : Ghosts D} (old new : SplitCore D disk) (v : ℕ) (pairs : List (List ℕ × List ℕ)) (reply : PutReply) → finite_set.contains old.views v ≡ true → GoTogether pairs → All IsSmall pairs → IsDueTo old new v pairs reply → IsGroupReply reply
group_reply old new v pairs put.BadView opened together small due = absurd (true≢false (sym opened ∙ due.1))
group_reply old new v pairs (put.TooMany n) opened together small due = absurd (few pairs together due.1)
group_reply old new v pairs (put.TooBig n) opened together small due = tt
group_reply old new v pairs (put.TooLarge i) opened together small due =
    let f = due.1 in
    let within = slice_get_within pairs f.at f.pair f.stands in
    let fits : IsSmall f.pair = subst IsSmall (get_or_from_slice_get pairs f.at f.pair f.pair f.stands) (small f.at f.pair within) in
    omega (arith, fits, f.fault.1)
group_reply old new v pairs (put.UnknownHash i) opened together small due = tt
group_reply old new v pairs (put.Mismatch i) opened together small due = tt
group_reply old new v pairs (put.Malformed i kind place) opened together small due = tt
group_reply old new v pairs put.NoMemory opened together small due = tt
group_reply old new v pairs (put.TableFull rows) opened together small due = tt
group_reply old new v pairs (put.LogFull file need room) opened together small due = tt
group_reply old new v pairs put.DiskFault opened together small due = tt
group_reply old new v pairs (put.Stored n) opened together small due = tt

-- a block that is refused: the store is as it was, and this is why
pub record Refusal {D : Type 0} {disk : Ghosts D} (old new : SplitCore D disk) (v : ℕ) (pairs : List (List ℕ × List ℕ)) (reply : PutReply) (i : ℕ) (fault : BlockFault) : Type 0 where
  pub same : new ≡ old
  pub due : IsDueBlock old pairs i fault
  pub within : 1 ≤ length pairs → i < length pairs
  pub blames : (group : List Section) (s : Section) → pairs ≡ map pair_of group → slice_get group i ≡ Some s → IsBlockFault group i s fault reply

same_pair : (pairs : List (List ℕ × List ℕ)) (at i : ℕ) (p q : List ℕ × List ℕ) → slice_get pairs at ≡ Some p → i ≡ at → slice_get pairs i ≡ Some q → p ≡ q
same_pair pairs at i p q there is here = sym (get_or_from_slice_get pairs at p p there) ∙ ap (λ n. get_or pairs n p) (sym is) ∙ get_or_from_slice_get pairs i q p here

-- the one section that there is
only : (group : List Section) (s : Section) → length group ≤ 1 → slice_get group 0 ≡ Some s → group ≡ s ∷ []
only [] s one here = absurd (cc (here))
only (q ∷ []) s one here = ap (λ x. x ∷ []) (let same : q ≡ s = cc (here) in same)
only (q ∷ r ∷ group) s one here = absurd (let no : ⊥ = omega (arith, one) in no)

-- the pair of a section of the group
pair_here : (pairs : List (List ℕ × List ℕ)) (group : List Section) (i : ℕ) (s : Section) → pairs ≡ map pair_of group → slice_get group i ≡ Some s → slice_get pairs i ≡ Some (pair_of s)
pair_here pairs group i s same here = ap (λ l. slice_get l i) same ∙ pair_at group i s here

module _ {D : Type 0} {disk : Ghosts D} (old new : SplitCore D disk) (v : ℕ) (pairs : List (List ℕ × List ℕ)) where
  of_pair : (reply : PutReply) (i : ℕ) (f : IsFirstFault pairs reply) → i ≡ f.at → i < length pairs
  of_pair reply i f is = let within = slice_get_within pairs f.at f.pair f.stands in omega (arith, within, is)

  pub refused_block : (reply : PutReply) (i : ℕ) (fault : BlockFault) → outcome_of reply ≡ Err (group.Block i fault) → IsGroupReply reply → (length pairs ≤ 1) ⊎ (held_put_bytes old pairs ≤ PUT_BYTES) → IsDueTo old new v pairs reply → Refusal old new v pairs reply i fault
  refused_block (put.UnknownHash n) i fault is able fits due =
      let same : n ≡ i = cc (is) in
      let kind : block.UnknownHash ≡ fault = cc (is) in
      let f = due.1 in
      subst (λ k. Refusal old new v pairs (put.UnknownHash n) k fault) same (subst (λ b. Refusal old new v pairs (put.UnknownHash n) n b) kind (record {
        same = due.0;
        due = f;
        within = λ _. of_pair (put.UnknownHash n) n f f.fault.0;
        blames = λ group s same here. let p = same_pair pairs f.at n f.pair (pair_of s) f.stands f.fault.0 (pair_here pairs group n s same here) in
            (refl, subst (λ q. IsPairFault n q (put.UnknownHash n)) p (refl, f.fault.1, f.fault.2));
      }))
  refused_block (put.Mismatch n) i fault is able fits due =
      let same : n ≡ i = cc (is) in
      let kind : block.Mismatch ≡ fault = cc (is) in
      let f = due.1 in
      subst (λ k. Refusal old new v pairs (put.Mismatch n) k fault) same (subst (λ b. Refusal old new v pairs (put.Mismatch n) n b) kind (record {
        same = due.0;
        due = f;
        within = λ _. of_pair (put.Mismatch n) n f f.fault.0;
        blames = λ group s same here. let p = same_pair pairs f.at n f.pair (pair_of s) f.stands f.fault.0 (pair_here pairs group n s same here) in
            (refl, subst (λ q. IsPairFault n q (put.Mismatch n)) p (refl, f.fault.1, f.fault.2, f.fault.3));
      }))
  refused_block (put.Malformed n item place) i fault is able fits due =
      let same : n ≡ i = cc (is) in
      let kind : block.Malformed ≡ fault = cc (is) in
      let f = due.1 in
      subst (λ k. Refusal old new v pairs (put.Malformed n item place) k fault) same (subst (λ b. Refusal old new v pairs (put.Malformed n item place) n b) kind (record {
        same = due.0;
        due = (item, place, f);
        within = λ _. of_pair (put.Malformed n item place) n f f.fault.0;
        blames = λ group s same here. let p = same_pair pairs f.at n f.pair (pair_of s) f.stands f.fault.0 (pair_here pairs group n s same here) in
            (item, place, refl, subst (λ q. IsPairFault n q (put.Malformed n item place)) p (refl, f.fault.1, f.fault.2, f.fault.3, f.fault.4));
      }))
  refused_block (put.TooBig n) i fault is able fits due =
      let same : 0 ≡ i = cc (is) in
      let kind : block.TooLarge ≡ fault = cc (is) in
      subst (λ k. Refusal old new v pairs (put.TooBig n) k fault) same (subst (λ b. Refusal old new v pairs (put.TooBig n) 0 b) kind (record {
        same = due.0;
        due = (refl, due.1);
        within = λ some. omega (arith, some);
        blames = λ group s pairs_are here.
            let one : length pairs ≤ 1 = ⊎_elim (λ one. one) (λ small. absurd (let big = due.1 in omega (arith, small, big))) fits in
            (only group s (omega (arith, one, ap length pairs_are, length-map group pair_of)) here, n, refl);
      }))
  refused_block (put.Stored n) i fault is able fits due = absurd (cc (is))
  refused_block put.BadView i fault is able fits due = absurd able
  refused_block (put.TooMany n) i fault is able fits due = absurd able
  refused_block (put.TooLarge n) i fault is able fits due = absurd able
  refused_block put.NoMemory i fault is able fits due = absurd (cc (is))
  refused_block (put.TableFull rows) i fault is able fits due = absurd (cc (is))
  refused_block (put.LogFull file need room) i fault is able fits due = absurd (cc (is))
  refused_block put.DiskFault i fault is able fits due = absurd (cc (is))

-- an answer that ends the import
pub ending_reply : (reply : PutReply) (fault : ImportFault) → outcome_of reply ≡ Err (group.Ends fault) → EndsPut reply fault
ending_reply put.NoMemory fault is = let same : import.NoMemory ≡ fault = cc (is) in subst (EndsPut put.NoMemory) same no_memory
ending_reply put.DiskFault fault is = let same : import.DiskFault ≡ fault = cc (is) in subst (EndsPut put.DiskFault) same disk_fault
ending_reply (put.LogFull file need room) fault is = let same : import.LogFull file need room ≡ fault = cc (is) in subst (EndsPut (put.LogFull file need room)) same (log_full file need room)
ending_reply (put.TableFull rows) fault is = let same : import.TableFull rows ≡ fault = cc (is) in subst (EndsPut (put.TableFull rows)) same (table_full rows)
ending_reply (put.Stored n) fault is = absurd (cc (is))
ending_reply put.BadView fault is = absurd (cc (is))
ending_reply (put.TooMany n) fault is = absurd (cc (is))
ending_reply (put.TooBig n) fault is = absurd (cc (is))
ending_reply (put.TooLarge n) fault is = absurd (cc (is))
ending_reply (put.UnknownHash n) fault is = absurd (cc (is))
ending_reply (put.Mismatch n) fault is = absurd (cc (is))
ending_reply (put.Malformed n kind place) fault is = absurd (cc (is))

-- the source is not blamed
pub never_source : (reply : PutReply) (fault : ImportFault) → EndsPut reply fault → fault ≡ import.ReadFault → ⊥
never_source _ _ no_memory is = cc
never_source _ _ disk_fault is = cc
never_source _ _ (log_full file need room) is = cc
never_source _ _ (table_full rows) is = cc
