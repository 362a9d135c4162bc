use Rattle.std.proofs.Common.{◌∙◌}
use Rattle.ss_chain.proofs.Kept.{known-some, known-none, digest-is}
use Rattle.ss_chain.proofs.memory_blocks.ParcelBlocksBlocks.fetch.Goals as goal

pub returns-in_default-clause-not_found : goal.returns-in_default-clause-not_found
returns-in_default-clause-not_found c = rw (← c.self.view_is) (known-none _ _ c.in_default.ensures)

pub returns-then-is_listed-clause-not_found : goal.returns-then-is_listed-clause-not_found
returns-then-is_listed-clause-not_found c = rw (← c.self.view_is) (known-some _ _ _ c.in-Some.ensures)

pub returns-in-Ok-clause-not_found : goal.returns-in-Ok-clause-not_found
returns-in-Ok-clause-not_found c = rw (← c.self.view_is) (known-some _ _ _ c.in-Some.ensures)

pub returns-in-Ok-clause-digest : goal.returns-in-Ok-clause-digest
returns-in-Ok-clause-digest c identity = c.in-Ok.ensures ∙ digest-is _ _ _ c.in-Some.ensures identity

pub returns-in-Err-clause-not_found : goal.returns-in-Err-clause-not_found
returns-in-Err-clause-not_found c = rw (← c.self.view_is) (known-some _ _ _ c.in-Some.ensures)
