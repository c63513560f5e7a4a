use Rattle.std.proofs.Common.{rules}
use Rattle.mtc_command.proofs.Inputs.{absent, too_long, failed, out_of_memory}
use Rattle.mtc_streams.proofs.Whole.{file_read}
use Rattle.mtc_streams.proofs.input.fold_input.Goals as goal

pub returns-in-Err-Absent-clause-stops : goal.returns-in-Err-Absent-clause-stops
returns-in-Err-Absent-clause-stops g c =
    absent g.R.Room g.R.Dsk.Disk _ _ _ _ (search rules) g.met.R.Dsk.Disk.only_now _ _
    c.refuse_file.ensures c.named.ensures (search rules)

pub returns-in-Err-Failed-clause-stops : goal.returns-in-Err-Failed-clause-stops
returns-in-Err-Failed-clause-stops g c =
    failed g.R.Room g.R.Dsk.Disk _ _ _ _ (search rules) g.met.R.Dsk.Disk.only_now (search rules)

pub returns-in-Err-TooLong-clause-stops : goal.returns-in-Err-TooLong-clause-stops
returns-in-Err-TooLong-clause-stops g c =
    too_long g.R.Room g.R.Dsk.Disk _ _ _ _ (search rules) g.met.R.Dsk.Disk.only_now _ _
    c.refuse_file-in-Err-TooLong.ensures c.named-in-Err-TooLong.ensures (search rules)

pub returns-in-Err-Failed-read-clause-stops : goal.returns-in-Err-Failed-read-clause-stops
returns-in-Err-Failed-read-clause-stops g c =
    failed g.R.Room g.R.Dsk.Disk _ _ _ _ (search rules) g.met.R.Dsk.Disk.only_now (search rules)

pub returns-in-Err-Memory-clause-stops : goal.returns-in-Err-Memory-clause-stops
returns-in-Err-Memory-clause-stops g c =
    out_of_memory g.R.Room g.R.Dsk.Disk _ _ _ _ (search rules) g.met.R.Dsk.Disk.only_now

pub returns-in-Ok-read-clause-items : goal.returns-in-Ok-read-clause-items
returns-in-Ok-read-clause-items g c =
    file_read _ _ _ _ _ _ c.in-Ok.ensures.bytes c.in-Ok-read.ensures.whole
