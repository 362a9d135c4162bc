use Rattle.ss_gatelog.proofs.Walks as walks
use Rattle.ss_gatelog.proofs.laws.each_file.Goals as goal

pub returns : goal.returns
returns c = walks.each_file
