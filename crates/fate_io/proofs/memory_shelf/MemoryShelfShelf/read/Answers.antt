use Rattle.fate_io.proofs.memory_shelf.MemoryShelfShelf.read.Goals as goal

-- the number is listed, or nothing has the name
pub returns-in-Err-Failed-clause-listed : goal.returns-in-Err-Failed-clause-listed
returns-in-Err-Failed-clause-listed c =
    let told = rw c.in-Err-Failed.field-0-is at c.in-Err-Failed.ensures in
    rw (← c.self.view_is)
    (rw (c.deref.ensures.value, c.deref-2.ensures.value, c.saturating_add-number.ensures) at told.listed)
