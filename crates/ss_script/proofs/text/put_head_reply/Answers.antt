use Rattle.ss_script.proofs.text.put_head_reply.Goals as goal

pub returns-in-HeightDiffers : goal.returns-in-HeightDiffers
returns-in-HeightDiffers g c =
    let put = rw c.from-in-HeightDiffers.ensures at c.put_numbers-in-HeightDiffers.ensures in
    rw c.in-HeightDiffers.is put
