use Rattle.std.proofs.Common.{subst}
use Rattle.ss_io.specs.Streams.{HasCause}
use Rattle.ss_app.proofs.Appending.{put_kept}
use Rattle.ss_app.proofs.run.put_ending.Goals as goal

pub returns : goal.returns
returns g c = record {
  bytes = put_kept _ _ _ _ _ c.in_ok-put_line.ensures.bytes c.flush.ensures.bytes;
  cause = subst (λ n. HasCause n (g.K.Sink.faults c.flush.new.self) c.flush.result) c.in_ok-put_line.ensures.cause.kept c.flush.ensures.cause;
}
