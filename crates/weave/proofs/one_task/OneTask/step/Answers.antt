use Rattle.std.proofs.Common.{◌≡◌, ◌<◌, ◌+◌, ◌^◌, ℕ, ap, sym, subst, ◌∙◌, rules}
use Rattle.weave.specs.SeqNet.{SeqNet, moved, step_at}
use Rattle.weave.specs.SeqState.{IsSound}
use Rattle.weave.specs.OneTask.{net_of}
use Rattle.weave.proofs.Sound.{sound_moved, moves_stay}
use Rattle.weave.proofs.Few.{move_fits}
use Rattle.weave.proofs.one_task.OneTask.step.Goals as goal

-- a step counts one move more
one_move : (next net : SeqNet) → next ≡ step_at net.place net → next.moves ≡ net.moves → (record next { moves = next.moves + 1 }) ≡ moved net
one_move next net acted same =
    ap (λ (m : ℕ). let q : SeqNet = record next { moves = m + 1 } in q) same ∙ ap (λ (x : SeqNet). let q : SeqNet = record x { moves = net.moves + 1 } in q) acted

pub overflow_add-self : goal.overflow_add-self
overflow_add-self c =
    let net = net_of c.args.self.now in
    let s = c.requires.net in
    let same : c.act.new.self.moves ≡ net.moves = ap (λ (x : SeqNet). x.moves) c.in_ok-act.ensures.net ∙ moves_stay net c.requires.goes_on s.sound in
    let fits : net.moves + 1 < 2 ^ 64 = move_fits net c.requires.goes_on s.sound s.set.few s.set.entered.small in
    search rules

pub returns-clause-net : goal.returns-clause-net
returns-clause-net c =
    let net = net_of c.args.self.now in
    let same : c.act.new.self.moves ≡ net.moves = ap (λ (x : SeqNet). x.moves) c.in_ok-act.ensures.net ∙ moves_stay net c.requires.goes_on c.requires.net.sound in
    one_move (net_of c.act.new.self) net c.in_ok-act.ensures.net same

pub returns-clause-sound : goal.returns-clause-sound
returns-clause-sound c =
    let net = net_of c.args.self.now in
    let s = c.requires.net in
    let set = c.in_ok-act.ensures.set in
    let same : c.act.new.self.moves ≡ net.moves = ap (λ (x : SeqNet). x.moves) c.in_ok-act.ensures.net ∙ moves_stay net c.requires.goes_on s.sound in
    let is = one_move (net_of c.act.new.self) net c.in_ok-act.ensures.net same in
    record {
      set = record { entered = set.entered; units = set.units; room = set.room; depth = set.depth; from = set.from; fits = set.fits; few = set.few; place = set.place };
      sound = subst IsSound (sym is) (sound_moved net s.set.entered c.requires.goes_on s.sound);
    }
