use Rattle.std.proofs.Common.{[], ◌∷◌, append-nil, sym, refl, ◌∙◌}
use Rattle.parcae.specs.Files.{failed, long}
use Rattle.parcae.proofs.files.read_file.Goals as goal

-- the read failed
pub returns-in-Err-Failed-clause-none : goal.returns-in-Err-Failed-clause-none
returns-in-Err-Failed-clause-none g c =
    let told = rw c.in-Err-Failed.field-0-is at c.in-Err-Failed.ensures in
    (c.args.name.now ∷ [], told.failed, failed refl)

-- the file is too long
pub returns-in-Err-Long-clause-none : goal.returns-in-Err-Long-clause-none
returns-in-Err-Long-clause-none g c =
    let told = rw c.in-Err-Long.field-0-is at c.in-Err-Long.ensures in
    ([], told.failed ∙ sym (append-nil (g.S.Shelf.failed c.args.shelf.now)), long refl (rw (← c.limit_of.ensures) told.content.1))
