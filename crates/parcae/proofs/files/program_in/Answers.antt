use Rattle.parcae.specs.declared.refusal.Source.TheVariants.{Program}
use Rattle.fate_io.specs.Reading.{looked_since}
use Rattle.parcae.specs.Files.{seen}
use Rattle.parcae.proofs.Loading.{stopped_texts}
use Rattle.parcae.proofs.files.program_in.Goals as goal

-- the text was read, and gives nothing
pub returns-in-Ok-clause-none : goal.returns-in-Ok-clause-none
returns-in-Ok-clause-none g c =
    let looked = looked_since g.S.Shelf.held g.S.Shelf.failed c.args.shelf.now c.read_file.new.shelf in
    stopped_texts c.accept.result Program (seen g.S.Shelf.held c.args.shelf.now) c.args.file.now c.deref.result.now looked c.in-Ok.ensures.read
    (rw c.deref.ensures.value c.in-Ok.ensures.content) c.accept.ensures.refused
