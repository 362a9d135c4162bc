use Rattle.std.proofs.Common.{◌∙◌}
use Rattle.ss_app.proofs.Refused.{refuses_store, refuses_init, init_completes, tells_faults}
use Rattle.ss_app.proofs.ImportRefused.{import_refuses, info_refuses, import_completes, info_completes}
use Rattle.ss_app.proofs.run.run_alone.Goals as goal

pub returns-clause-faults : goal.returns-clause-faults
returns-clause-faults g c = tells_faults g.D.Disk _ _ _ _ c.run_command.ensures

pub returns-clause-store : goal.returns-clause-store
returns-clause-store g c script lines is known asks told = refuses_store g.D.Disk _ _ _ script lines (rw (c.command_of.ensures.command ∙ is) at c.run_command.ensures) known asks told

pub returns-clause-init : goal.returns-clause-init
returns-clause-init g c settings is told = refuses_init g.D.Disk _ _ settings _ (rw (c.command_of.ensures.command ∙ is) at c.run_command.ensures) told

pub returns-clause-complete_init : goal.returns-clause-complete_init
returns-clause-complete_init g c settings is valid = init_completes g.D.Disk _ _ settings _ (rw (c.command_of.ensures.command ∙ is) at c.run_command.ensures) valid

pub returns-clause-import_store : goal.returns-clause-import_store
returns-clause-import_store g c head is told = import_refuses g.D.Disk _ _ head _ (rw (c.command_of.ensures.command ∙ is) at c.run_command.ensures) told

pub returns-clause-info_store : goal.returns-clause-info_store
returns-clause-info_store g c is told = info_refuses g.D.Disk _ _ _ (rw (c.command_of.ensures.command ∙ is) at c.run_command.ensures) told

pub returns-clause-complete_import : goal.returns-clause-complete_import
returns-clause-complete_import g c head bytes roots sections is valid = import_completes g.D.Disk _ _ head _ bytes roots sections (rw (c.command_of.ensures.command ∙ is) at c.run_command.ensures) valid

pub returns-clause-complete_info : goal.returns-clause-complete_info
returns-clause-complete_info g c is valid = info_completes g.D.Disk _ _ _ (rw (c.command_of.ensures.command ∙ is) at c.run_command.ensures) valid
