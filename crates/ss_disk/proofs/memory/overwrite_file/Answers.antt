use Rattle.std.proofs.Common.{arith}
use Rattle.std.proofs.lemmas.Result.{on_ok_weaker, on_err_weaker}
use Rattle.ss_device.specs.Disk.{Holds}
use Rattle.ss_disk.proofs.Stories.{changes_one, same_one}
use Rattle.ss_disk.proofs.memory.overwrite_file.Goals as goal

pub returns-clause-ok : goal.returns-clause-ok
returns-clause-ok c =
    on_ok_weaker c.overwrite.result (changes_one c.args.files.now c.args.file c.index-files-file.result c.overwrite.new.file (Holds c.args.at c.args.bytes.now) (omega (arith, c.requires.six))) c.overwrite.ensures.ok

pub returns-clause-err : goal.returns-clause-err
returns-clause-err c =
    on_err_weaker c.overwrite.result (same_one c.args.files.now c.args.file c.index-files-file.result c.overwrite.new.file (omega (arith, c.requires.six))) c.overwrite.ensures.err
