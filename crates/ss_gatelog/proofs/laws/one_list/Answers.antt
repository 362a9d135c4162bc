use Rattle.ss_gatelog.proofs.Lists as lists
use Rattle.ss_gatelog.proofs.laws.one_list.Goals as goal

pub returns : goal.returns
returns c = lists.one_list
