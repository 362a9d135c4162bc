use Rattle.std.proofs.Common.{◌≡◌, ◌+◌, ◌-◌, vec_len}
use Rattle.std.specs.Io.KnownBytes.{Consumes}
use Rattle.ss_io.proofs.whole.read_all.Given as goal

abbrev pub invariant-bytes : goal.invariant-bytes
invariant-bytes g l =
    Consumes (g.S.Source.left l.initial.source) (g.S.Source.left l.source) l.bytes.items
    × (g.S.Source.faults l.source ≡ g.S.Source.faults l.initial.source)
    × (g.S.Source.place l.source ≡ g.S.Source.place l.initial.source)

abbrev pub decreases-bytes : goal.decreases-bytes
decreases-bytes g l = l.limit + 1 - vec_len l.bytes
