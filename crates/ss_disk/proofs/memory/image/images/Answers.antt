use Rattle.ss_disk.proofs.Images.{each_of_six}
use Rattle.ss_disk.proofs.memory.image.images.Goals as goal

pub returns-clause-images : goal.returns-clause-images
returns-clause-images c = each_of_six _ c.in_ok-image.ensures c.in_ok-image-2.ensures c.in_ok-image-3.ensures c.in_ok-image-4.ensures c.in_ok-image-5.ensures c.in_ok-image-6.ensures
