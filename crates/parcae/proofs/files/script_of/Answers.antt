use Rattle.std.proofs.Common.{refl}
use Rattle.parcae.specs.Files.{script_line}
use Rattle.parcae.proofs.files.script_of.Goals as goal

pub returns-in-Err-Line-clause-refused : goal.returns-in-Err-Line-clause-refused
returns-in-Err-Line-clause-refused c =
    let told = rw (c.in-Err-Line.field-0-is) at c.in-Err-Line.ensures in
    script_line c.in-Err-Line.line (told.refused c.in-Err-Line.line refl)
