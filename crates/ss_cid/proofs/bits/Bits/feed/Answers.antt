use Rattle.ss_cid.proofs.Queues.{feed_fits, shifted_whole}
use Rattle.ss_cid.proofs.bits.Bits.feed.Goals as goal

pub invariant_of-self : goal.invariant_of-self
invariant_of-self c =
    let bits = c.args.self.now in
    let whole = shifted_whole bits.held bits.len c.args.width bits.fits c.requires.room in
    let few = feed_fits bits.held bits.len c.args.width c.args.value bits.fits c.requires.fits in
    record { few = c.requires.room; fits = rw whole few }
