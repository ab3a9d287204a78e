use Rattle.std.proofs.Common.{w64}
use Rattle.std.proofs.lemmas.Int.{to_z-of_z}
use Rattle.nona_code.specs.Machine.{open_at}
use Rattle.nona_code.proofs.Steps.{save_is}
use Rattle.nona_code.proofs.finding.find.Goals as goal

pub returns-in-Save-clause-finds : goal.returns-in-Save-clause-finds
returns-in-Save-clause-finds g c =
    let f = c.args.registers.now in
    save_is c.args.instr.now (open_at c.args.code.now c.args.pc) c.args.turns c.in-Save.id c.args.pc f.stack.items c.pop-value.new.self.items f.hidden.items f.counters.items (g.B.Bank.state c.args.bank.now) _ _ _ c.in-Save.is c.pop-value.ensures.items (to_z-of_z w64 c.pop-value.result (record { sfits = c.pop-value.type_inv })) (c.save.ensures.saves c.args.pc)
