use Rattle.ss_core.proofs.Images.{image_state}
use Rattle.ss_core.proofs.Reopened.{begins_again, ends_there}
use Rattle.ss_core.proofs.laws.next_run_begins_where_this_ended.Goals as goal

pub returns-clause-doubted : goal.returns-clause-doubted
returns-clause-doubted g c = image_state g.D.Disk

pub returns-clause-sure : goal.returns-clause-sure
returns-clause-sure g c = begins_again g.D.Disk

pub returns-clause-end : goal.returns-clause-end
returns-clause-end g c = ends_there g.D.Disk
