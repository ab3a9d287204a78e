use Rattle.std.proofs.Common.{rules, arith, subst, ◌∙◌, FitsSigned}
use Rattle.std.specs.Int.{w64}
use Rattle.std.proofs.lemmas.Int.{to_z-of_z}
use Rattle.morta_task.specs.Entries.{before}
use Rattle.weave.proofs.SeqLaws.{depth_after_some}
use Rattle.weave.proofs.Sound.{sound_begun}
use Rattle.weave.proofs.Ends.{few_iterations, indices_fit, room_within}
use Rattle.weave.proofs.one_task.OneTask.begin.Goals as goal

pub returns-clause-sound : goal.returns-clause-sound
returns-clause-sound c =
    let e = c.args.entry.now in
    let h = c.args.handoff in
    let state = c.requires.state in
    let fits_next : FitsSigned w64 h.next = search rules in
    let fits_result : FitsSigned w64 c.last-last.result = record { sfits = c.last-last.type_inv } in
    rw (to_z-of_z w64 h.next fits_next) (record {
      set = record {
        entered = c.requires.entered;
        units = c.requires.units;
        room = omega (arith, c.in_ok-frame.ensures);
        depth = c.depth.ensures ∙ depth_after_some e (before e h.next) h.store state.state;
        from = state.within.0;
        fits = λ k within. indices_fit e h.next c.args.limit k state.within c.requires.room fits_next (subst (λ z. FitsSigned w64 z) c.last-last.ensures fits_result) within;
        few = omega (arith, room_within e h.next c.args.limit state.within c.requires.room, few_iterations e, c.turns-turns.ensures.turns, c.turns-turns.ensures.few);
        place = tt;
      };
      sound = sound_begun e (before e h.next) c.args.limit h.store state.state;
    })
