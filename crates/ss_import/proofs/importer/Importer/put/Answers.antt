use Rattle.std.proofs.Common.{true≢false, ◌+◌, ◌-◌, ◌^◌, ◌<◌, min, [], length, Err, refl, sym, ap, ◌∙◌, subst}
use Rattle.ss_import.specs.Steps.{Putting, IsDueBlock}
use Rattle.ss_import.proofs.Fronts.{some_of, section_at, group_of}
use Rattle.ss_import.proofs.Putting.{story_put, stored, refused, ended}
use Rattle.ss_import.proofs.Replies.{group_reply, stored_reply, refused_block, ending_reply, never_source}
use Rattle.ss_import.proofs.importer.Importer.put.Goals as goal

pub put_before-requires-clause-due : goal.put_before-requires-clause-due
put_before-requires-clause-due g c =
    let core = c.args.self.now.core in
    let pairs = c.args.self.now.group.parcel in
    let able = group_reply core c.put.new.self c.args.self.now.view pairs c.put.result c.requires.view c.requires.together c.requires.small c.put.ensures.due in
    let why = refused_block core c.put.new.self c.args.self.now.view pairs c.put.result c.in-Err-Block.i c.in-Err-Block.fault (sym c.stored.ensures ∙ c.in-Err-Block.is ∙ ap Err c.in-Err-Block.field-0-is) able c.requires.fits c.put.ensures.due in
    (why.within (some_of pairs (λ e. true≢false (sym (c.if-is_empty.ensures.1 e)))), subst (λ k. IsDueBlock k pairs c.in-Err-Block.i c.in-Err-Block.fault) (sym why.same) why.due)

pub returns-in-Ok-clause-puts : goal.returns-in-Ok-clause-puts
returns-in-Ok-clause-puts g c = λ was sections left p holds.
    let pairs = c.args.self.now.group.parcel in
    let story = story_put was c.args.self.now.core c.put.new.self c.args.self.now.view p.puts left pairs c.put.result holds.parcel c.put.ensures.told c.put.ensures.made p.story in
    let group = group_of left pairs holds.parcel (some_of pairs (λ e. true≢false (sym (c.if-is_empty.ensures.1 e)))) c.requires.together in
    subst (λ imp. Putting {disk = g.D.Disk} was (record imp { group = c.clear.new.self }) sections []) (sym c.count.ensures)
    (stored was (record c.args.self.now { core = c.put.new.self; group = c.clear.new.self; new_blocks = min (c.args.self.now.new_blocks + c.in-Ok.new) (2 ^ 64 - 1) }) sections left p.puts p.are_puts c.put.result c.in-Ok.new c.args.self.now.new_blocks p.new_is
    (stored_reply c.put.result c.in-Ok.new (sym c.stored.ensures ∙ c.in-Ok.is)) group story refl)

pub returns-in-Err-Block-clause-puts : goal.returns-in-Err-Block-clause-puts
returns-in-Err-Block-clause-puts g c = λ was sections left p holds.
    let core = c.args.self.now.core in
    let v = c.args.self.now.view in
    let pairs = c.args.self.now.group.parcel in
    let some = some_of pairs (λ e. true≢false (sym (c.if-is_empty.ensures.1 e))) in
    let group = group_of left pairs holds.parcel some c.requires.together in
    let able = group_reply core c.put.new.self v pairs c.put.result c.requires.view c.requires.together c.requires.small c.put.ensures.due in
    let why = refused_block core c.put.new.self v pairs c.put.result c.in-Err-Block.i c.in-Err-Block.fault (sym c.stored.ensures ∙ c.in-Err-Block.is ∙ ap Err c.in-Err-Block.field-0-is) able c.requires.fits c.put.ensures.due in
    let story = story_put was core c.put.new.self v p.puts left pairs c.put.result holds.parcel c.put.ensures.told c.put.ensures.made p.story in
    let here = section_at left c.in-Err-Block.i (subst (λ l. c.in-Err-Block.i < length l) holds.parcel (why.within some)) in
    c.put_before.ensures.puts was sections left
    (refused was (record c.args.self.now { core = c.put.new.self }) sections left p.puts p.are_puts c.put.result c.in-Err-Block.i here.0 c.in-Err-Block.fault group story here.1 (why.blames left here.0 holds.parcel here.1)) holds

pub returns-in-Err-Ends-clause-puts : goal.returns-in-Err-Ends-clause-puts
returns-in-Err-Ends-clause-puts g c = λ was sections left p holds.
    let pairs = c.args.self.now.group.parcel in
    let story = story_put was c.args.self.now.core c.put.new.self c.args.self.now.view p.puts left pairs c.put.result holds.parcel c.put.ensures.told c.put.ensures.made p.story in
    let group = group_of left pairs holds.parcel (some_of pairs (λ e. true≢false (sym (c.if-is_empty.ensures.1 e)))) c.requires.together in
    ended was (record c.args.self.now { core = c.put.new.self }) sections left p.puts p.are_puts c.put.result c.in-Err-Ends.fault (ending_reply c.put.result c.in-Err-Ends.fault (sym c.stored.ensures ∙ c.in-Err-Ends.is ∙ ap Err c.in-Err-Ends.field-0-is)) group story

pub returns-in-Err-Ends-clause-continues : goal.returns-in-Err-Ends-clause-continues
returns-in-Err-Ends-clause-continues g c = never_source c.put.result c.in-Err-Ends.fault (ending_reply c.put.result c.in-Err-Ends.fault (sym c.stored.ensures ∙ c.in-Err-Ends.is ∙ ap Err c.in-Err-Ends.field-0-is))
