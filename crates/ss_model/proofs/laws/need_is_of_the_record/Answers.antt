use Rattle.ss_model.proofs.Need.{record_takes, head_takes}
use Rattle.ss_model.proofs.laws.need_is_of_the_record.Goals as goal

pub returns-clause-put : goal.returns-clause-put
returns-clause-put c = record_takes

pub returns-clause-head : goal.returns-clause-head
returns-clause-head c = head_takes
