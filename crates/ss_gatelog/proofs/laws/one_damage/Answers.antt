use Rattle.ss_gatelog.proofs.Lists as lists
use Rattle.ss_gatelog.proofs.laws.one_damage.Goals as goal

pub returns-clause-no_list : goal.returns-clause-no_list
returns-clause-no_list c limit at file records = lists.list_or_damaged limit file records at

pub returns-clause-one_place : goal.returns-clause-one_place
returns-clause-one_place c limit at at' file = lists.one_damage limit file at at'
