use Rattle.ss_script.proofs.text.put_put_reply.Goals as goal

pub returns-in-UnknownHash : goal.returns-in-UnknownHash
returns-in-UnknownHash g c =
    let put = rw c.from-in-UnknownHash.ensures at c.put_numbers-in-UnknownHash.ensures in
    rw c.in-UnknownHash.is put
