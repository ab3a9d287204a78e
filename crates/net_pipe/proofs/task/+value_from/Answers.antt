use Rattle.std.proofs.Common.{◌∙◌, w64}
use Rattle.std.proofs.lemmas.Int.{to_z-of_z}
use Rattle.net_pipe.proofs.Packets.{none_from, no_value_from, one_from}
use Rattle.net_pipe.proofs.task.+value_from.Goals as goal

pub returns-then-from-ids : goal.returns-then-from-ids
returns-then-from-ids t c = none_from c.args.ids.now c.args.values.now c.args.from c.args.id c.if-from-ids.true

pub returns-then-from-values : goal.returns-then-from-values
returns-then-from-values t c = no_value_from c.args.ids.now c.args.values.now c.args.from c.args.id c.if-from-values.true

pub returns : goal.returns
returns t c =
    to_z-of_z w64 c.value_from.result (record { sfits = c.value_from.type_inv }) ∙ c.value_from.ensures
    ∙ one_from c.args.ids.now c.args.values.now c.args.from c.args.id c.if-from-ids.false c.if-from-values.false c.if-ids-from.false
