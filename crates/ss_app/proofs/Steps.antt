-- How far a run has come: the entries so far, what they left of the store, and what was printed of them.
use Rattle.std.proofs.Common.{◌≡◌, inl, inr, ℕ, suc, ◌+◌, Bool, true, false, List, [], ◌∷◌, ◌++◌, length, Option, Result, Ok, Err, refl, sym, ap, ◌∙◌, subst, append_assoc, arith, add-zero, length-append, true≢false}
use Rattle.std.specs.Io.KnownBytes.{Appends}
use Rattle.std.proofs.lemmas.List.{append-nil}
use Rattle.std.specs.Prelude.{OnOk}
use Rattle.ss_cid.specs.declared.memory.NoMemory as no_memory
use Rattle.ss_device.specs.declared.disk.Disk.{Ghosts}
use Rattle.ss_device.specs.Disk.{Rose}
use Rattle.ss_model.specs.declared.call.Answer.{Answer}
use Rattle.ss_model.specs.declared.call.Entry.{Entry}
use Rattle.ss_core.specs.declared.split_core.SplitCore.{SplitCore}
use Rattle.ss_script.specs.declared.line.Line.{Line}
use Rattle.ss_script.specs.Views.{no_views, client_views, resolved, closing_view, after_answer, after_line}
use Rattle.ss_script.specs.Text.{text_from, entry_text}
use Rattle.ss_app.specs.declared.ending.Ending.TheVariants.{Done, NoMemory}
use Rattle.ss_app.specs.Outcome.{CallsMade}
use Rattle.ss_app.specs.Progress.{PrintsUnless, Trail, Progress, Cut, Stepped, views_behind, IsEntryOf, InOrder}
use Rattle.ss_app.specs.World.{Output}
use Rattle.ss_history.specs.Story.{Story}
use Rattle.ss_history.proofs.Stories.{history_of}
use Rattle.ss_app.proofs.Appending.{appends_more, appends_none}

text_more : (place : ℕ) (h : List Entry) (e : Entry) → text_from place (h ++ e ∷ []) ≡ text_from place h ++ entry_text (place + length h) e
text_more place [] e = append-nil _ ∙ ap (λ n. entry_text n e) (sym (add-zero place))
text_more place (x ∷ h) e =
    let behind : text_from (place + 1) (h ++ e ∷ []) ≡ text_from (place + 1) h ++ entry_text (place + suc (length h)) e =
    text_more (place + 1) h e ∙ ap (λ n. text_from (place + 1) h ++ entry_text n e) (omega arith) in
    ap (λ t. entry_text place x ++ t) behind ∙ sym (append_assoc (entry_text place x) (text_from (place + 1) h) _)

in_order_more : (views : List (List ℕ)) (lines : List Line) (h : List Entry) (line : Line) (e : Entry) → InOrder views lines h → IsEntryOf (views_behind views lines h) line e → InOrder views (lines ++ line ∷ []) (h ++ e ∷ [])
in_order_more views [] [] line e order is = (is, tt)
in_order_more views [] (x ∷ h) line e order is = absurd order
in_order_more views (l ∷ lines) [] line e order is = absurd order
in_order_more views (l ∷ lines) (x ∷ h) line e order is = (order.0, in_order_more (after_line views l x.answer) lines h line e order.1 is)

views_more : (views : List (List ℕ)) (lines : List Line) (h : List Entry) (line : Line) (e : Entry) → InOrder views lines h → views_behind views (lines ++ line ∷ []) (h ++ e ∷ []) ≡ after_line (views_behind views lines h) line e.answer
views_more views [] [] line e order = refl
views_more views [] (x ∷ h) line e order = absurd order
views_more views (l ∷ lines) [] line e order = absurd order
views_more views (l ∷ lines) (x ∷ h) line e order = views_more (after_line views l x.answer) lines h line e order.1

-- what was noted of an answer is what its line makes of the views
pub recorded_is : {E : Type 0} (r : Result (Unit {0}) E) (views given : List (List ℕ)) (line : Line) (client : ℕ) (closing : Option ℕ) (answer : Answer) → client ≡ line.client → closing ≡ closing_view line.call → OnOk r (given ≡ after_answer views client closing answer) → OnOk r (given ≡ after_line views line answer)
recorded_is (Ok x) views given line client closing answer same closes is = is ∙ ap (λ c. after_answer views c closing answer) same ∙ ap (λ k. after_answer views line.client k answer) closes
recorded_is (Err e) views given line client closing answer same closes is = tt

-- one entry more, of whose text this front is printed
trail_more : (h : List Entry) (unprinted : List ℕ) (refused now : Bool) (made : List Line) (old mid new : Output) (line : Line) (e : Entry) (front rest : List ℕ)
    → Trail h unprinted refused made old mid
    → IsEntryOf (views_behind no_views made h) line e
    → unprinted ++ entry_text (1 + length h) e ≡ front ++ rest → Appends mid.written new.written front
    → (now ≡ false → new.faults ≡ old.faults) → (now ≡ true → Rose old.faults new.faults)
    → Trail (h ++ e ∷ []) rest now (made ++ line ∷ []) old new
trail_more h unprinted refused now made old mid new line e front rest trail is cut wrote sound rose = record {
  printed = trail.printed ++ front;
  in_order = in_order_more no_views made h line e trail.in_order is;
  text_is = text_more 1 h e ∙ ap (λ t. t ++ entry_text (1 + length h) e) trail.text_is ∙ append_assoc trail.printed unprinted _ ∙ ap (λ t. trail.printed ++ t) cut ∙ sym (append_assoc trail.printed front rest);
  wrote = appends_more old.written mid.written new.written trail.printed front trail.wrote wrote;
  sound = sound;
  rose = rose;
}

-- what is printed, or why not, and what is left of the text
prints : (refused now : Bool) (old mid new : Output) (unprinted line : List ℕ)
    → PrintsUnless refused mid new now line → (refused ≡ false → unprinted ≡ []) → (refused ≡ false → mid.faults ≡ old.faults) → (refused ≡ true → Rose old.faults mid.faults)
    → (front : List ℕ) × (rest : List ℕ) × (unprinted ++ line ≡ front ++ rest) × Appends mid.written new.written front × (now ≡ false → new.faults ≡ old.faults) × (now ≡ true → Rose old.faults new.faults) × (now ≡ false → rest ≡ [])
prints true now old mid new unprinted line h none sound rose =
    ([], unprinted ++ line, refl, h.1, λ e. absurd (true≢false (sym h.0 ∙ e)), λ e. subst (Rose old.faults) (sym h.2) (rose refl), λ e. absurd (true≢false (sym h.0 ∙ e)))
prints false true old mid new unprinted line h none sound rose =
    (h.0.0, h.0.1, ap (λ u. u ++ line) (none refl) ∙ h.0.2, h.0.3, λ e. absurd (true≢false e), λ e. subst (λ n. Rose n new.faults) (sound refl) h.1, λ e. absurd (true≢false e))
prints false false old mid new unprinted line h none sound rose =
    (line, [], ap (λ u. u ++ line) (none refl) ∙ sym (append-nil line), h.0, λ e. h.1 ∙ sound refl, λ e. absurd (true≢false (sym e)), λ e. refl)

module _ {D : Type 0} {disk : Ghosts D} (was : D) where
  -- an entry is made, and printed as far as the sink goes along
  one_more : (core next : SplitCore D disk) (views : List (List ℕ)) (place : ℕ) (refused now : Bool) (made : List Line) (old mid new : Output) (line : Line) (e : Entry)
      → (p : Progress was core views place refused made old mid)
      → e.client ≡ line.client → e.line ≡ line.line → e.call ≡ resolved (client_views views line.client) line.call
      → ((h : List Entry) → Story was core h → Story was next (h ++ e ∷ []))
      → PrintsUnless refused mid new now (entry_text (place + 1) e)
      → (unprinted : List ℕ) × Trail (p.history ++ e ∷ []) unprinted now (made ++ line ∷ []) old new × (now ≡ false → unprinted ≡ []) × Story was next (p.history ++ e ∷ [])
  one_more core next views place refused now made old mid new line e p client number call story printed =
      let mine : IsEntryOf (views_behind no_views made p.history) line e = subst (λ v. IsEntryOf v line e) p.views_are (record { client = client; line_is = number; call_is = call }) in
      let at : place + 1 ≡ 1 + length p.history = omega (arith, p.place_is) in
      let cut = prints refused now old mid new p.unprinted (entry_text (1 + length p.history) e) (subst (λ n. PrintsUnless refused mid new now (entry_text n e)) at printed) p.all_printed p.trail.sound p.trail.rose in
      (cut.1, trail_more p.history p.unprinted refused now made old mid new line e cut.0 cut.1 p.trail mine cut.2 cut.3 cut.4 cut.5, cut.6, story p.history p.story)

  pub cut_of : (core : SplitCore D disk) (views : List (List ℕ)) (place : ℕ) (refused : Bool) (made : List Line) (old new : Output) → Progress was core views place refused made old new → Cut was core refused made old new
  cut_of core views place refused made old new p = record { history = p.history; unprinted = p.unprinted; trail = p.trail; story = p.story }

  -- the same as the session's step leaves it
  pub stepped : (core next : SplitCore D disk) (views given : List (List ℕ)) (place : ℕ) (refused now : Bool) (made : List Line) (old mid new : Output) (line : Line) (e : Entry) (r : Result (Unit {0}) no_memory.NoMemory)
      → Progress was core views place refused made old mid
      → e.client ≡ line.client → e.line ≡ line.line → e.call ≡ resolved (client_views views line.client) line.call
      → ((h : List Entry) → Story was core h → Story was next (h ++ e ∷ []))
      → PrintsUnless refused mid new now (entry_text (place + 1) e)
      → OnOk r (given ≡ after_line views line e.answer)
      → Stepped was next given (place + 1) now (made ++ line ∷ []) old new r
  stepped core next views given place refused now made old mid new line e (Ok x) p client number call story printed recorded =
      let one = one_more core next views place refused now made old mid new line e p client number call story printed in record {
        history = p.history ++ e ∷ [];
        unprinted = one.0;
        trail = one.1;
        all_printed = one.2;
        story = one.3;
        views_are = recorded ∙ ap (λ v. after_line v line e.answer) p.views_are ∙ sym (views_more no_views made p.history line e p.trail.in_order);
        place_is = ap (λ n. n + 1) p.place_is ∙ sym (length-append p.history (e ∷ []));
      }
  stepped core next views given place refused now made old mid new line e (Err m) p client number call story printed recorded =
      let one = one_more core next views place refused now made old mid new line e p client number call story printed in
      record { history = p.history ++ e ∷ []; unprinted = one.0; trail = one.1; story = one.3 }

  -- a run that has made no call
  pub begun : (core : SplitCore D disk) (views : List (List ℕ)) (place : ℕ) (refused : Bool) (old : Output) → Story was core [] → (views ≡ no_views) × (place ≡ 0) × (refused ≡ false) → Progress was core views place refused [] old old
  begun core views place refused old story are = record {
    history = [];
    unprinted = [];
    trail = record { printed = []; in_order = tt; text_is = refl; wrote = appends_none old.written; sound = λ _. refl; rose = λ e. absurd (true≢false (sym e ∙ are.2)) };
    all_printed = λ _. refl;
    story = story;
    views_are = are.0;
    place_is = are.1;
  }

  -- a run that stopped out of memory
  pub stopped : (core : SplitCore D disk) (refused : Bool) (made left lines : List Line) (old new : Output) → Cut was core refused made old new → lines ≡ made ++ left → CallsMade disk was core.disk lines old new NoMemory refused
  stopped core refused made left lines old new cut are = record {
    history = cut.history;
    printed = cut.trail.printed;
    unprinted = cut.unprinted;
    made = made;
    left = left;
    is_history = history_of was core cut.history cut.story;
    faults = cut.story.counted;
    stands = λ t. let p = cut.story.told t in (p.0.state, p.0.stands);
    ends = inr refl;
    lines_are = are;
    all_made = λ e. absurd (cc);
    in_order = cut.trail.in_order;
    text_is = cut.trail.text_is;
    wrote = cut.trail.wrote;
    all_printed = λ _ e. absurd (cc);
    sound = cut.trail.sound;
    rose = cut.trail.rose;
  }

  -- a run that made all its calls
  pub all_made : (core : SplitCore D disk) (views : List (List ℕ)) (place : ℕ) (refused : Bool) (made lines : List Line) (old new : Output) → Progress was core views place refused made old new → lines ≡ made → CallsMade disk was core.disk lines old new Done refused
  all_made core views place refused made lines old new p are = record {
    history = p.history;
    printed = p.trail.printed;
    unprinted = p.unprinted;
    made = made;
    left = [];
    is_history = history_of was core p.history p.story;
    faults = p.story.counted;
    stands = λ t. let told = p.story.told t in (told.0.state, told.0.stands);
    ends = inl refl;
    lines_are = are ∙ sym (append-nil made);
    all_made = λ _. refl;
    in_order = p.trail.in_order;
    text_is = p.trail.text_is;
    wrote = p.trail.wrote;
    all_printed = λ e _. p.all_printed e;
    sound = p.trail.sound;
    rose = p.trail.rose;
  }

-- the lines that were made and those that are left
pub moved_on : (lines made rest : List Line) (line : Line) (left : List Line) → lines ≡ made ++ left → left ≡ line ∷ rest → lines ≡ (made ++ line ∷ []) ++ rest
moved_on lines made rest line left are is = are ∙ ap (λ l. made ++ l) is ∙ sym (append_assoc made (line ∷ []) rest)

-- none is left
pub all_done : (lines made left : List Line) → lines ≡ made ++ left → length left ≡ 0 → lines ≡ made
all_done lines made [] are none = are ∙ append-nil made
all_done lines made (l ∷ left) are none = absurd (omega (arith, none))
