use Rattle.std.proofs.Common.{sym, subst}
use Rattle.ss_car.proofs.Links.{LinksLeft, links-next, links-stop, links-end}
use Rattle.ss_car.proofs.header.next_links.Goals as goal

pub returns-in_default : goal.returns-in_default
returns-in_default c = links-stop _ _ _ _ _ c.loop.invariant _ c.loop-test.true c.in_default.ensures

pub loop-preserved : goal.loop-preserved
loop-preserved c = subst (LinksLeft c.args.n _ c.args.cursor.now c.link.new.self) (sym c.in_ok-push.ensures.ok) (links-next _ _ _ _ _ c.loop.invariant _ _ c.loop-test.true c.in-Some.ensures)

pub returns : goal.returns
returns c = links-end _ _ _ _ _ c.loop.invariant c.loop-test.false
