-- Commands to a machine, one after another.
use Rattle.std.proofs.Common.{◌≡◌, ◌<◌, ◌+◌, ℕ, Bool, true, false, List, [], ◌∷◌, length, drop, refl, sym, ap, subst, ◌∙◌, get_or, if◌then◌else◌}
use Rattle.std.proofs.lemmas.List.{drop_more}
use Rattle.net_flow.specs.Machines.{is_over, stepped}
use Rattle.morta_script.specs.declared.script.Command.{Command}
use Rattle.morta_script.specs.declared.script.Command.TheVariants.{Use, Step, Pause}
use Rattle.weave.specs.Following.{Followed, follow}
use Rattle.weave.specs.NetView.{NetView, machine}
use Rattle.weave.specs.Obeys.{Obeys}

over_first : (b : Bool) (here there : Followed NetView) → b ≡ true → (if b then here else there) ≡ here
over_first true here there is = refl
over_first false here there is = cc

-- a machine that has finished leaves the commands
pub all_left : (commands : List Command) (net : NetView) → is_over machine net ≡ true
    → follow machine commands net ≡ record { net = net; left = commands }
all_left [] net finished = refl
all_left (Use config until ∷ rest) net finished =
    over_first (is_over machine net) _ (record { net = machine.pause net; left = Use config until ∷ rest }) finished
all_left (Step task moves ∷ rest) net finished = over_first (is_over machine net) _ (follow machine rest (stepped machine moves task net)) finished
all_left (Pause ∷ rest) net finished = over_first (is_over machine net) _ (follow machine rest (machine.pause net)) finished

-- the next command was done
pub on_next : (commands : List Command) (at : ℕ) (other : Command) (net next : NetView) (on : Bool) → at < length commands
    → ((rest : List Command) → Obeys (get_or commands at other) rest net next on) → on ≡ true
    → follow machine (drop at commands) net ≡ follow machine (drop (at + 1) commands) next
on_next commands at other net next on within obeys is =
    ap (λ (cs : List Command). follow machine cs net) (drop_more commands at other within)
    ∙ subst (Obeys (get_or commands at other) (drop (at + 1) commands) net next) is (obeys (drop (at + 1) commands))

-- it stays
pub stays : (commands : List Command) (at : ℕ) (other : Command) (net next : NetView) (on : Bool) → at < length commands
    → ((rest : List Command) → Obeys (get_or commands at other) rest net next on) → on ≡ false
    → follow machine (drop at commands) net ≡ record { net = next; left = drop at commands }
stays commands at other net next on within obeys is =
    let here = drop_more commands at other within in
    ap (λ (cs : List Command). follow machine cs net) here
    ∙ subst (Obeys (get_or commands at other) (drop (at + 1) commands) net next) is (obeys (drop (at + 1) commands))
    ∙ ap (λ (cs : List Command). let f : Followed NetView = record { net = next; left = cs } in f) (sym here)
