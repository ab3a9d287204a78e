use Rattle.nona_graph.proofs.MentionEquations.{has-If, has-While, has-For}
use Rattle.nona_graph.proofs.mentioning.+prints.Goals as goal

pub has_print-returns-in-If : goal.has_print-returns-in-If
has_print-returns-in-If t c =
    let b = c.in-If in
    has-If c.args.s.now b.test b.yes b.no c.as_slice.result.now c.as_slice-in-If.result.now c.has_print_in-first.result c.has_print_in-second.result c.either.result b.is c.as_slice.ensures c.as_slice-in-If.ensures c.has_print_in-first.ensures c.has_print_in-second.ensures c.either.ensures

pub has_print-returns-in-While : goal.has_print-returns-in-While
has_print-returns-in-While t c =
    let b = c.in-While in
    has-While c.args.s.now b.test b.body c.as_slice-in-While.result.now b.at c.has_print_in.result b.is c.as_slice-in-While.ensures c.has_print_in.ensures

pub has_print-returns-in-For : goal.has_print-returns-in-For
has_print-returns-in-For t c =
    has-For c.args.s.now c.in-For.l c.as_slice-in-For.result.now c.has_print_in-in-For.result c.in-For.is c.as_slice-in-For.ensures c.has_print_in-in-For.ensures
