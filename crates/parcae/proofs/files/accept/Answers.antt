use Rattle.std.proofs.Common.{refl}
use Rattle.parcae.proofs.Loading.{unread_stops, faulty_stops}
use Rattle.parcae.proofs.files.accept.Goals as goal

-- the program that was read has a fault
pub returns-in-Err-Refused-clause-refused : goal.returns-in-Err-Refused-clause-refused
returns-in-Err-Refused-clause-refused c =
    let told = rw (c.in-Err-Refused.field-0-is) at c.in-Err-Refused.ensures in
    rw c.faulty.ensures (faulty_stops c.args.text.now c.in-Ok.read c.in-Err-Refused.fault c.in-Ok.ensures.reads (told.refused c.in-Err-Refused.fault refl))

-- no program was read
pub returns-in-Err-clause-refused : goal.returns-in-Err-clause-refused
returns-in-Err-clause-refused c = rw c.unread.ensures (unread_stops c.args.text.now c.in-Err.fault c.in-Err.ensures.refused)
