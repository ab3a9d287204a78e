use Rattle.nona_tree.proofs.CellsFit.{some_cells, few_cells}
use Rattle.nona_tree.proofs.checked_laws.cells_are_bounded.Goals as goal

pub returns-clause-least : goal.returns-clause-least
returns-clause-least c = some_cells

pub returns-clause-most : goal.returns-clause-most
returns-clause-most c = few_cells
