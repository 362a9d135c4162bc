use Rattle.std.proofs.Common.{◌≡◌, ◌∙◌, take, sym, ap, subst}
use Rattle.std.specs.Str.{IsUtf8}
use Rattle.std.proofs.lemmas.List.{take_at}
use Rattle.ss_cid.specs.Text.{cid_text}
use Rattle.ss_cid.proofs.Texts.{cid_text-IsUtf8}
use Rattle.ss_cid.proofs.display.CidDisplay.fmt.Goals as goal

pub unreachable-requires : goal.unreachable-requires
unreachable-requires g c =
    let text = cid_text c.args.self.now in
    let count = c.write_text-len.result in
    let front : text ≡ take count c.write_text-len.new.out
    = sym (ap (take count) c.write_text-len.ensures.value ∙ take_at text _ count (sym c.write_text-len.ensures.len)) in
    c.in-Err.ensures.cases.0 (subst IsUtf8 front (cid_text-IsUtf8 c.args.self.now))
