use Rattle.std.proofs.Common.{◌≡◌, ◌+◌, ◌-◌, ◌^◌, min, [], ◌∷◌, ◌++◌, take, Err, sym, ap, ◌∙◌, subst}
use Rattle.std.specs.Prelude.{slice_index_or}
use Rattle.std.proofs.lemmas.List.Elements.{All-take}
use Rattle.ss_model.specs.Lawful.{IsSmall}
use Rattle.ss_core.specs.Replies.{IsDueTo}
use Rattle.ss_import.specs.declared.fault.ImportFault.TheVariants as import
use Rattle.ss_import.specs.Import.{GoTogether, put_of}
use Rattle.ss_import.specs.Steps.{PutsEnded}
use Rattle.ss_import.proofs.Fronts.{together_front, fits_front, offset_at, here_at, front_pairs, none_before}
use Rattle.ss_import.proofs.Putting.{story_put, first_blocked, front_wanting, front_stored, front_ended}
use Rattle.ss_import.proofs.Replies.{group_reply, stored_reply, refused_block, ending_reply, never_source}
use Rattle.ss_import.proofs.importer.Importer.put_before.Goals as goal

pub returns-then-i-eq0-clause-puts : goal.returns-then-i-eq0-clause-puts
returns-then-i-eq0-clause-puts g c = λ was sections left p holds.
    let r = p.is_refused in
    let offset = c.index-offset.result.now in
    first_blocked was c.args.self.now sections left c.args.i c.args.fault p offset c.if-i-eq0.true
    (c.index-offset.ensures ∙ ap (λ l. slice_index_or l c.args.i offset) holds.offsets ∙ offset_at left c.args.i offset p.s (here_at left p.front p.s r.rest c.args.i r.parts p.at))

pub returns-in_default-clause-puts : goal.returns-in_default-clause-puts
returns-in_default-clause-puts g c = λ was sections left p holds. front_wanting was c.args.self.now sections left c.args.i c.args.fault p c.if-i-eq0.false

pub stored-requires : goal.stored-requires
stored-requires g c =
    let pairs = c.args.self.now.group.parcel in
    let due = subst (λ l. IsDueTo c.args.self.now.core c.put.new.self c.args.self.now.view l c.put.result) c.in-Ok.ensures c.put.ensures.due in
    group_reply c.args.self.now.core c.put.new.self c.args.self.now.view (take c.args.i pairs) c.put.result c.requires.ready.view (together_front pairs c.args.i c.requires.ready.together) (All-take IsSmall c.args.i pairs c.requires.ready.small) due

pub returns-in-Ok-stored-clause-puts : goal.returns-in-Ok-stored-clause-puts
returns-in-Ok-stored-clause-puts g c = λ was sections left p holds.
    let imp = c.args.self.now in
    let i = c.args.i in
    let r = p.is_refused in
    let front_is = ap (take i) holds.parcel ∙ front_pairs left p.front p.s r.rest i r.parts p.at in
    let before = p.puts ++ put_of imp.view left p.reply ∷ [] in
    let story = story_put was imp.core c.put.new.self imp.view before p.front c.in-Ok.parcel c.put.result (c.in-Ok.ensures ∙ front_is) c.put.ensures.told c.put.ensures.made p.story in
    let together = subst GoTogether front_is (together_front imp.group.parcel i c.requires.ready.together) in
    let offset = c.index-offset.result.now in
    let count = c.in-Ok-stored.new in
    subst (λ imp. PutsEnded was imp sections (import.BadBlock c.args.fault offset)) (sym c.count.ensures)
    (front_stored was imp sections left i c.args.fault p c.if-i-eq0.false together c.put.new.self (min (imp.new_blocks + count) (2 ^ 64 - 1)) c.put.result story count offset
    (stored_reply c.put.result count (sym c.stored.ensures ∙ c.in-Ok-stored.is))
    (c.index-offset.ensures ∙ ap (λ l. slice_index_or l i offset) holds.offsets ∙ offset_at left i offset p.s (here_at left p.front p.s r.rest i r.parts p.at)))

pub returns-in-Err-Ends-clause-puts : goal.returns-in-Err-Ends-clause-puts
returns-in-Err-Ends-clause-puts g c = λ was sections left p holds.
    let imp = c.args.self.now in
    let i = c.args.i in
    let r = p.is_refused in
    let front_is = ap (take i) holds.parcel ∙ front_pairs left p.front p.s r.rest i r.parts p.at in
    let before = p.puts ++ put_of imp.view left p.reply ∷ [] in
    let story = story_put was imp.core c.put.new.self imp.view before p.front c.in-Ok.parcel c.put.result (c.in-Ok.ensures ∙ front_is) c.put.ensures.told c.put.ensures.made p.story in
    let together = subst GoTogether front_is (together_front imp.group.parcel i c.requires.ready.together) in
    subst (λ fault. PutsEnded {disk = g.D.Disk} was (record imp { core = c.put.new.self }) sections fault) (sym c.in-Err-Ends.earlier-is)
    (front_ended was imp sections left i c.args.fault p c.if-i-eq0.false together c.put.new.self imp.new_blocks c.put.result story c.in-Err-Ends.earlier
    (ending_reply c.put.result c.in-Err-Ends.earlier (sym c.stored.ensures ∙ c.in-Err-Ends.is ∙ ap Err c.in-Err-Ends.field-0-is)))

pub unreachable-requires : goal.unreachable-requires
unreachable-requires g c =
    let pairs = c.args.self.now.group.parcel in
    let due = subst (λ l. IsDueTo c.args.self.now.core c.put.new.self c.args.self.now.view l c.put.result) c.in-Ok.ensures c.put.ensures.due in
    let able = group_reply c.args.self.now.core c.put.new.self c.args.self.now.view (take c.args.i pairs) c.put.result c.requires.ready.view (together_front pairs c.args.i c.requires.ready.together) (All-take IsSmall c.args.i pairs c.requires.ready.small) due in
    let fits = c.requires.ready.fits in
    let why = refused_block c.args.self.now.core c.put.new.self c.args.self.now.view (take c.args.i pairs) c.put.result c.in-Err-Block.field-0-0 c.in-Err-Block.field-0-1 (sym c.stored.ensures ∙ c.in-Err-Block.is ∙ ap Err c.in-Err-Block.field-0-is) able (fits_front c.args.self.now.core pairs c.args.i fits) due in
    none_before c.args.self.now.core pairs c.args.i c.args.fault c.if-i-eq0.false c.requires.due.0 c.requires.due.1 fits c.in-Err-Block.field-0-0 c.in-Err-Block.field-0-1 why.due

pub returns-in-Err-Ends-clause-source : goal.returns-in-Err-Ends-clause-source
returns-in-Err-Ends-clause-source g c =
    subst (λ fault. fault ≡ import.ReadFault → ⊥) (sym c.in-Err-Ends.earlier-is) (never_source c.put.result c.in-Err-Ends.earlier (ending_reply c.put.result c.in-Err-Ends.earlier (sym c.stored.ensures ∙ c.in-Err-Ends.is ∙ ap Err c.in-Err-Ends.field-0-is)))
