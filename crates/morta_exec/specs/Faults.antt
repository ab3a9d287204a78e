-- The faults of a drive.
use Rattle.fate_io.specs.declared.sending.SendFault.{SendFault}
use Rattle.fate_io.specs.declared.sending.SendFault.TheVariants as sending
use Rattle.morta_exec.specs.declared.fault.DriveFault.{DriveFault}
use Rattle.morta_exec.specs.declared.fault.DriveFault.TheVariants.{WriteFailed, NoMemory}

-- what a fault of a sending makes of the drive
abbrev pub drive_fault : SendFault → DriveFault
drive_fault sending.WriteFailed = WriteFailed
drive_fault sending.NoMemory = NoMemory
