use Rattle.ss_history.proofs.Stories.{history_of}
use Rattle.ss_history.proofs.laws.a_story_is_a_history.Goals as goal

pub returns : goal.returns
returns g c = history_of
