use Rattle.ss_history.proofs.Stories.{story_more}
use Rattle.ss_history.proofs.laws.a_call_goes_on.Goals as goal

pub returns : goal.returns
returns g c = story_more
