use Rattle.std.proofs.Common.{◌≡◌, string_bytes, take}
use Rattle.std.specs.List.{flat_map}
use Rattle.nona_report.specs.Report.{unit_text}
use Rattle.nona_report.proofs.lines.text_of_units.Given as goal

-- the units so far stand in the text
abbrev pub invariant-loop-unit : goal.invariant-loop-unit
invariant-loop-unit l = string_bytes l.text ≡ flat_map unit_text (take l.unit-index l.units)
