use Rattle.std.proofs.Common.{◌≡◌, drop, map}
use Rattle.fate_io.specs.Memory.{named_content, file_of}
use Rattle.fate_io.proofs.memory_shelf.find_file.Given as goal

-- no file before this one has the name
abbrev pub invariant-loop-file : goal.invariant-loop-file
invariant-loop-file l = file_of (map named_content l.files) l.name ≡ file_of (map named_content (drop l.file-index l.files)) l.name
