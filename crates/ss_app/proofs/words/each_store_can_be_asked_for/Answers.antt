use Rattle.ss_app.proofs.WordSpellings.{asked_for}
use Rattle.ss_app.proofs.words.each_store_can_be_asked_for.Goals as goal

pub returns : goal.returns
returns c = asked_for
