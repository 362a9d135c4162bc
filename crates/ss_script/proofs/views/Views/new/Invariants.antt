use Rattle.std.proofs.Common.{◌≡◌, [], length}
use Rattle.std.specs.Prelude.{map, replicate}
use Rattle.ss_script.proofs.views.Views.new.Given as goal

abbrev pub invariant-loop-client : goal.invariant-loop-client
invariant-loop-client l = (length l.by_client.items ≡ l._client) × (map (λ views. views.items) l.by_client.items ≡ replicate l._client [])
