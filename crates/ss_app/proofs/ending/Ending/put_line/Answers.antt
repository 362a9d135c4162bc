use Rattle.ss_app.proofs.ending.Ending.put_line.Goals as goal

pub returns-in-BadScript : goal.returns-in-BadScript
returns-in-BadScript g c =
    let put = rw (c.from-in-BadScript-2.ensures, c.number.ensures, c.from-in-BadScript.ensures) at c.put_numbers_line-in-BadScript.ensures in
    rw c.in-BadScript.is put
