use Rattle.std.proofs.Common.{◌≤◌, length, sym, ap, subst, ◌∙◌, arith}
use Rattle.nona_main.specs.Course as course
use Rattle.nona_code.specs.Machine.{open_at, leave}
use Rattle.nona_code.proofs.MainRuns.{frame_leaves}
use Rattle.nona_code.proofs.main_frame.CodeFrameMainFrame.leave.Goals as goal

pub leave_around-requires-clause-here : goal.leave_around-requires-clause-here
leave_around-requires-clause-here c =
    let there = c.instrs.ensures.sound.sound.there c.args.self.now.pc _ c.requires.left.4.follows.way in
    omega (arith, there, ap length c.instrs.ensures.value)

pub leave_around-requires-clause-open : goal.leave_around-requires-clause-open
leave_around-requires-clause-open c =
    let l = c.requires.left in
    subst (λ code. open_at code c.args.self.now.pc ≤ length c.args.store.now.scalars) (sym c.instrs.ensures.value) (frame_leaves c.args.self.now l.0 _ l.2 l.3 l.4).0

pub returns-clause-leaves : goal.returns-clause-leaves
returns-clause-leaves c = λ n end rest other left.
    let cut = c.leave_around.ensures ∙ ap (λ code. leave (open_at code c.args.self.now.pc) c.args.store.now) c.instrs.ensures.value in
    (frame_leaves c.args.self.now n _ rest other left).1 ∙ ap (λ m. course.ended m end) (sym cut)
