-- A header is read exactly where the block is one.
use Rattle.std.proofs.Common.{◌≡◌, ℕ, ◌+◌, ◌^◌, ◌<◌, ◌≤◌, Bool, true, false, eqb, ltb, List, [], ◌++◌, length, Option, Some, refl, sym, ap, subst, ◌∙◌, arith, length-append}
use Rattle.std.specs.Prelude.{◌&&◌, ◌↔◌}
use Rattle.std.proofs.lemmas.Bool.{eqb-true, eq-eqb, ltb-true, lt-ltb}
use Rattle.std.proofs.lemmas.List.{append-nil, nil_from_length}
use Rattle.ss_cid.specs.Cid.{codec_of}
use Rattle.ss_cbor.specs.Item.{uint, link, head, IsPart}
use Rattle.ss_cbor.proofs.Numbers.{IsBytes, IsBytes-left, IsBytes-right}
use Rattle.ss_chain.specs.Header.{HeaderFields, IsHeader, AreItems, item_links}
use Rattle.ss_cbor.specs.Reading.{count_from, number_from, link_from}
use Rattle.ss_chain.specs.HeaderReading.{item_from, after_items, has_only_links, fields_from, header_in, header_of}
use Rattle.ss_chain.proofs.Steps.{bind-Some, guarded, chosen, both}
use Rattle.ss_chain.proofs.Fronts.{count-taken, number-taken, link-taken, item-taken, items-taken, count-again, number-again, link-again, item-again, items-again}
use Rattle.ss_chain.proofs.LinkArrays.{array-is-item, links-are, only-links, only-links-again}

under : (front : List ℕ) {a b : List ℕ} → a ≡ b → front ++ a ≡ front ++ b
under front e = ap (λ (l : List ℕ). front ++ l) e

within : (a b c d : ℕ) → a ≤ b → b ≤ c → c ≤ d → d < 2 ^ 63 → a < 2 ^ 63
within a b c d p q r lt = omega arith

-- ---- read so

-- what is tested of the items that were read
record Fits (height : ℕ) (parents rest : List ℕ) : Type 0 where
  pub nothing : rest ≡ []
  pub below : height < 2 ^ 63
  pub only : has_only_links parents ≡ true

fits-is : (height : ℕ) (parents rest : List ℕ) → (eqb (length rest) 0 && ltb height (2 ^ 63) && has_only_links parents) ≡ true → Fits height parents rest
fits-is height parents rest h =
    let most = both (eqb (length rest) 0 && ltb height (2 ^ 63)) (has_only_links parents) h in
    let some = both (eqb (length rest) 0) (ltb height (2 ^ 63)) most.0 in
    record { nothing = nil_from_length rest (eqb-true (length rest) 0 some.0); below = ltb-true height (2 ^ 63) some.1; only = most.1 }

-- what each step read of the sixteen items
record FieldsRead (end : ℕ) (bytes : List ℕ) (h : HeaderFields) : Type 0 where
  pub five : List ℕ
  pub parents : List ℕ × List ℕ
  pub weight : List ℕ
  pub height : ℕ × List ℕ
  pub state : List ℕ × List ℕ
  pub receipts : List ℕ × List ℕ
  pub messages : List ℕ × List ℕ
  pub rest : List ℕ
  pub five_is : after_items 5 end bytes ≡ Some five
  pub parents_is : item_from end five ≡ Some parents
  pub weight_is : after_items 1 end parents.1 ≡ Some weight
  pub height_is : number_from end weight ≡ Some height
  pub state_is : link_from end height.1 ≡ Some state
  pub receipts_is : link_from end state.1 ≡ Some receipts
  pub messages_is : link_from end receipts.1 ≡ Some messages
  pub rest_is : after_items 5 end messages.1 ≡ Some rest
  pub fits : Fits height.0 parents.0 rest
  pub fields_are : record { height = height.0; parents = item_links parents.0; state = state.0; receipts = receipts.0; messages = messages.0 } ≡ h

fields-read : (end : ℕ) (bytes : List ℕ) (h : HeaderFields) → fields_from end bytes ≡ Some h → FieldsRead end bytes h
unfolding fields_from
fields-read end bytes h read =
    let five = bind-Some (after_items 5 end bytes) _ h read in
    let parents = bind-Some (item_from end five.0) _ h five.2 in
    let weight = bind-Some (after_items 1 end parents.0.1) _ h parents.2 in
    let height = bind-Some (number_from end weight.0) _ h weight.2 in
    let state = bind-Some (link_from end height.0.1) _ h height.2 in
    let receipts = bind-Some (link_from end state.0.1) _ h state.2 in
    let messages = bind-Some (link_from end receipts.0.1) _ h receipts.2 in
    let rest = bind-Some (after_items 5 end messages.0.1) _ h messages.2 in
    let tested = chosen (eqb (length rest.0) 0 && ltb height.0.0 (2 ^ 63) && has_only_links parents.0.0)
    (record { height = height.0.0; parents = item_links parents.0.0; state = state.0.0; receipts = receipts.0.0; messages = messages.0.0 }) h rest.2 in
    record {
      five = five.0;
      parents = parents.0;
      weight = weight.0;
      height = height.0;
      state = state.0;
      receipts = receipts.0;
      messages = messages.0;
      rest = rest.0;
      five_is = five.1;
      parents_is = parents.1;
      weight_is = weight.1;
      height_is = height.1;
      state_is = state.1;
      receipts_is = receipts.1;
      messages_is = messages.1;
      rest_is = rest.1;
      fits = fits-is height.0.0 parents.0.0 rest.0 tested.0;
      fields_are = tested.1;
    }

module _ (cid block : List ℕ) (room : length block < 2 ^ 63) (codec : codec_of cid ≡ 0x71) where
  fields-is : (end : ℕ) (bytes : List ℕ) (h : HeaderFields) → block ≡ head 4 16 ++ bytes → IsBytes bytes → length bytes ≤ length block → FieldsRead end bytes h → IsHeader cid block h
  fields-is end bytes h start fits less r =
      let first_five = items-taken 5 end bytes r.five fits r.five_is in
      let has_parents = item-taken end r.five first_five.takes.fits r.parents r.parents_is in
      let has_weight = items-taken 1 end r.parents.1 r.weight has_parents.1.fits r.weight_is in
      let has_height = number-taken end r.weight has_weight.takes.fits r.height r.height_is in
      let has_state = link-taken end r.height.1 has_height.takes.fits r.state r.state_is in
      let has_receipts = link-taken end r.state.1 has_state.takes.fits r.receipts r.receipts_is in
      let has_messages = link-taken end r.receipts.1 has_receipts.takes.fits r.messages r.messages_is in
      let last_five = items-taken 5 end r.messages.1 r.rest has_messages.takes.fits r.rest_is in
      let last : r.messages.1 ≡ last_five.front = last_five.takes.parts ∙ under last_five.front r.fits.nothing ∙ append-nil last_five.front in
      let parents_fit : IsBytes r.parents.0 = IsBytes-left r.parents.0 r.parents.1 (subst IsBytes has_parents.1.parts first_five.takes.fits) in
      let parents_room = within (length r.parents.0) (length r.five) (length bytes) (length block) has_parents.1.front_less first_five.takes.rest_less less room in
      subst (IsHeader cid block) r.fields_are (record {
        miner_to_proof = first_five.front;
        parents = r.parents.0;
        weight = has_weight.front;
        height = has_height.front;
        state = has_state.front;
        receipts = has_receipts.front;
        messages = has_messages.front;
        aggregate_to_fee = last_five.front;
        spelled = start ∙ under (head 4 16) (first_five.takes.parts ∙ under first_five.front (has_parents.1.parts
            ∙ under r.parents.0 (has_weight.takes.parts ∙ under has_weight.front (has_height.takes.parts ∙ under has_height.front (has_state.takes.parts
            ∙ under has_state.front (has_receipts.takes.parts ∙ under has_receipts.front (has_messages.takes.parts ∙ under has_messages.front last)))))));
        is_dag_cbor = codec;
        first_five = first_five.are;
        has_parents = only-links r.parents.0 parents_fit parents_room has_parents.0 r.fits.only;
        has_weight = has_weight.are;
        has_height = has_height.is;
        height_fits = r.fits.below;
        has_state = has_state.is;
        has_receipts = has_receipts.is;
        has_messages = has_messages.is;
        last_five = last_five.are;
      })

  header-is : (end : ℕ) (h : HeaderFields) → IsBytes block → header_in end block ≡ Some h → IsHeader cid block h
  unfolding header_in
  header-is end h fits read =
      let items = bind-Some (count_from end block) _ h read in
      let front = count-taken end block fits items.0 items.1 in
      let sixteen = guarded (eqb items.0.0 16) (fields_from end items.0.1) h items.2 in
      let head_is : front.front ≡ head 4 16 = front.is.1 ∙ ap (head 4) (eqb-true items.0.0 16 sixteen.0) in
      fields-is end items.0.1 h (front.takes.parts ∙ ap (λ (l : List ℕ). l ++ items.0.1) head_is) front.takes.fits front.takes.rest_less (fields-read end items.0.1 h sixteen.1)

-- ---- read again

-- an item of some bytes, and what follows it
record Parted (front rest : List ℕ) : Type 0 where
  pub fits : IsBytes front
  pub rest_fits : IsBytes rest
  pub short : length front < 2 ^ 63
  pub rest_short : length rest < 2 ^ 63

parted : (front rest : List ℕ) → IsBytes (front ++ rest) → length (front ++ rest) < 2 ^ 63 → Parted front rest
parted front rest fits room =
    let len : length (front ++ rest) ≡ length front + length rest = length-append front rest in
    record { fits = IsBytes-left front rest fits; rest_fits = IsBytes-right front rest fits; short = omega arith; rest_short = omega arith }

-- a block of these items, of which the ones that are not read are so many
read-again : (end : ℕ) (h : HeaderFields) (proofs parents weight height state receipts messages fee : List ℕ) →
    length proofs < 2 ^ 63 → length parents < 2 ^ 63 → length weight < 2 ^ 63 → length fee < 2 ^ 63 →
    AreItems 5 proofs → AreItems 1 parents → AreItems 1 weight → AreItems 5 fee →
    IsPart height (uint h.height) → IsPart state (link h.state) → IsPart receipts (link h.receipts) → IsPart messages (link h.messages) →
    h.height < 2 ^ 63 → has_only_links parents ≡ true → item_links parents ≡ h.parents →
    header_in end (head 4 16 ++ (proofs ++ (parents ++ (weight ++ (height ++ (state ++ (receipts ++ (messages ++ fee)))))))) ≡ Some h
unfolding header_in fields_from
read-again end h proofs parents weight height state receipts messages fee a b c d five one weighs last height_is state_is receipts_is messages_is fits only links =
    let r7 = messages ++ fee in
    let r6 = receipts ++ r7 in
    let r5 = state ++ r6 in
    let r4 = height ++ r5 in
    let r3 = weight ++ r4 in
    let r2 = parents ++ r3 in
    let e0 : count_from end (head 4 16 ++ (proofs ++ r2)) ≡ Some (16, proofs ++ r2) = count-again end (head 4 16) (proofs ++ r2) 16 (omega arith, refl) (omega arith) in
    let e1 : after_items 5 end (proofs ++ r2) ≡ Some r2 = items-again 5 end proofs r2 five a in
    let e2 : item_from end (parents ++ r3) ≡ Some (parents, r3) = item-again end parents r3 one b in
    let e3 : after_items 1 end (weight ++ r4) ≡ Some r4 = items-again 1 end weight r4 weighs c in
    let e4 : number_from end (height ++ r5) ≡ Some (h.height, r5) = number-again end height r5 h.height height_is in
    let e5 : link_from end (state ++ r6) ≡ Some (h.state, r6) = link-again end state r6 h.state state_is in
    let e6 : link_from end (receipts ++ r7) ≡ Some (h.receipts, r7) = link-again end receipts r7 h.receipts receipts_is in
    let e7 : link_from end (messages ++ fee) ≡ Some (h.messages, fee) = link-again end messages fee h.messages messages_is in
    let e8 : after_items 5 end fee ≡ Some [] = ap (after_items 5 end) (sym (append-nil fee)) ∙ items-again 5 end fee [] last d in
    rw (e0, e1, e2, e3, e4, e5, e6, e7, e8, lt-ltb h.height (2 ^ 63) fits, only, links) refl

module _ (cid block : List ℕ) (fits : IsBytes block) (room : length block < 2 ^ 63) where
  header-again : (end : ℕ) (h : HeaderFields) → IsHeader cid block h → header_in end block ≡ Some h
  header-again end h is =
      let p0 = parted (head 4 16) _ (subst IsBytes is.spelled fits) (subst (λ (b : List ℕ). length b < 2 ^ 63) is.spelled room) in
      let p1 = parted is.miner_to_proof _ p0.rest_fits p0.rest_short in
      let p2 = parted is.parents _ p1.rest_fits p1.rest_short in
      let p3 = parted is.weight _ p2.rest_fits p2.rest_short in
      let p4 = parted is.height _ p3.rest_fits p3.rest_short in
      let p5 = parted is.state _ p4.rest_fits p4.rest_short in
      let p6 = parted is.receipts _ p5.rest_fits p5.rest_short in
      let p7 = parted is.messages _ p6.rest_fits p6.rest_short in
      let links = array-is-item is.parents h.parents is.has_parents in
      ap (header_in end) is.spelled ∙ read-again end h is.miner_to_proof is.parents is.weight is.height is.state is.receipts is.messages is.aggregate_to_fee
      p1.short p2.short p3.short p7.rest_short is.first_five (h.parents, links) is.has_weight is.last_five is.has_height is.has_state is.has_receipts is.has_messages
      is.height_fits (only-links-again is.parents h.parents p2.short is.has_parents) (links-are is.parents h.parents p2.fits p2.short links)

  header-by : (b : Bool) → eqb (codec_of cid) 0x71 ≡ b → (h : HeaderFields) → header_of cid block ≡ Some h → IsHeader cid block h
  unfolding header_of
  header-by true codec h read = header-is cid block room (eqb-true (codec_of cid) 0x71 codec) (length block) h fits (rw codec at read)
  header-by false codec h read = absurd (cc (rw codec at read))

  -- a block is read as this header exactly where it is this header
  pub header-exact : (r : Option HeaderFields) → r ≡ header_of cid block → (h : HeaderFields) → (r ≡ Some h) ↔ IsHeader cid block h
  unfolding header_of
  header-exact r e h = (
    λ found. header-by (eqb (codec_of cid) 0x71) refl h (sym e ∙ found),
    λ is. e ∙ rw (eq-eqb (codec_of cid) 0x71 is.is_dag_cbor) (header-again (length block) h is),
  )
