use Rattle.std.proofs.Common.{rules, refl, FitsSigned}
use Rattle.std.specs.Int.{w64}
use Rattle.std.proofs.lemmas.Int.{to_z-of_z}
use Rattle.nona_tree.specs.Run.{done}
use Rattle.nona_code.specs.declared.main_frame.CodeFrame.{CodeFrame}
use Rattle.nona_code.specs.Machine.{most_steps}
use Rattle.nona_code.specs.MainLeft.{state_in}
use Rattle.nona_code.proofs.MainPrints.{halt_prints}
use Rattle.nona_code.proofs.Allowed.{all_deeds}
use Rattle.nona_code.proofs.MainRuns.{frame_way, frame_over, frame_at_region}
use Rattle.nona_code.proofs.main_frame.CodeFrameMainFrame.next.Goals as goal

pub run_from-requires-clause-follows : goal.run_from-requires-clause-follows
run_from-requires-clause-follows c =
    frame_way c.args.self.now c.instrs-code.result.now c.args.turns (done c.args.store.now) c.requires.left.0 c.instrs-code.ensures.sound c.instrs-code.ensures.value c.requires.left.1

pub run_from-requires-clause-allowed : goal.run_from-requires-clause-allowed
run_from-requires-clause-allowed c = all_deeds _

pub returns-in-Ended-clause-stops : goal.returns-in-Ended-clause-stops
returns-in-Ended-clause-stops c =
    frame_over c.args.self.now c.instrs-code.result.now c.args.turns c.args.store.now _ c.instrs-code.ensures.value c.in-Ended.ensures.stops

pub returns-in-Ended-clause-prints : goal.returns-in-Ended-clause-prints
returns-in-Ended-clause-prints c =
    let code = c.instrs-code.result.now in
    let n = c.args.turns in
    halt_prints code n (most_steps code n) (state_in c.args.self.now c.args.store.now) _ c.in-Ended.ensures.stops

pub returns-in-Region-clause-stops : goal.returns-in-Region-clause-stops
returns-in-Region-clause-stops c =
    let r = c.in-Region in
    let low_fits : FitsSigned w64 r.low = search rules in
    let high_fits : FitsSigned w64 r.high = search rules in
    let after : CodeFrame = record { code = c.args.self.now.code; registers = c.run_from.new.registers; pc = r.next } in
    rw (to_z-of_z w64 r.low low_fits, to_z-of_z w64 r.high high_fits)
    (frame_at_region c.args.self.now after c.instrs-code.result.now c.args.turns c.args.store.now c.run_from.new.bank r.number r.low r.high c.instrs-code.ensures.sound c.instrs-code.ensures.value refl c.run_from.ensures.room r.ensures.stops)

pub returns-in-Region-clause-prints : goal.returns-in-Region-clause-prints
returns-in-Region-clause-prints c =
    let code = c.instrs-code.result.now in
    let n = c.args.turns in
    halt_prints code n (most_steps code n) (state_in c.args.self.now c.args.store.now) _ c.in-Region.ensures.stops
