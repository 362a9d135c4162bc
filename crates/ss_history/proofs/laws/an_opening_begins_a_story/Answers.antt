use Rattle.ss_history.proofs.Stories.{begun_story}
use Rattle.ss_history.proofs.laws.an_opening_begins_a_story.Goals as goal

pub returns : goal.returns
returns g c = begun_story
