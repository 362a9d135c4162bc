use Rattle.std.proofs.Common.{nat_cmp, ap₂, sym, ◌∙◌}
use Rattle.std.specs.Ordering.{ordering_then}
use Rattle.std.specs.Cmp.Lexicographic.{slice_cmp}
use Rattle.ss_cid.proofs.Words.{cells_compare}
use Rattle.ss_cid.proofs.cid_buffer.CidBuffer.compare.Goals as goal

pub returns : goal.returns
returns c =
    let r = c.self.inside in
    let s = c.other.inside in
    let i = c.self.invariant in
    let j = c.other.invariant in
    c.then.ensures ∙ ap₂ ordering_then c.compare_cells.ensures c.cmp.ensures
    ∙ sym (ap₂ (slice_cmp nat_cmp) (sym c.self.view_is) (sym c.other.view_is) ∙ cells_compare r.cells s.cells r.len s.len i.0 j.0 i.1 j.1 i.2 j.2)
