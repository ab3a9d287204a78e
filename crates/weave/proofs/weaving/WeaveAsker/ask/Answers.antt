use Rattle.std.proofs.Common.{◌≡◌, ◌+◌, ◌⊎◌, List, drop, inr, sym, ap, subst, ◌∙◌}
use Rattle.morta_task.specs.declared.schemes.Scheme.TheVariants.{Seq}
use Rattle.morta_script.specs.declared.script.Command.{Command}
use Rattle.weave.specs.Asking.{IsNoUse, IsUseAt}
use Rattle.weave.specs.Replay.{UsesScheme}
use Rattle.weave.specs.WeaveView.{WeaveView}
use Rattle.weave.specs.WeavePromise.{StandsFor}
use Rattle.weave.proofs.Asks.{use_config, use_named, use_taken, none_taken}
use Rattle.weave.proofs.weaving.WeaveAsker.ask.Goals as goal

pub invariant_of-self : goal.invariant_of-self
invariant_of-self c =
    let s = c.self.invariant in
    let ask = c.in-Some.ask in
    let here : IsUseAt c.self.inside.script.commands.items c.self.inside.at ask = subst (λ (cs : List Command). IsUseAt cs c.self.inside.at ask) c.deref.ensures.value c.in-Some.ensures in
    record { commands = s.commands; current = use_config _ _ ask s.commands here; named = inr (use_named _ _ ask here); some = s.some; few = s.few }

pub returns-in-Some-clause-config : goal.returns-in-Some-clause-config
returns-in-Some-clause-config c =
    let here : IsUseAt c.self.inside.script.commands.items c.self.inside.at c.in-Some.ask = subst (λ (cs : List Command). IsUseAt cs c.self.inside.at c.in-Some.ask) c.deref.ensures.value c.in-Some.ensures in
    use_config _ _ c.in-Some.ask c.self.invariant.commands here

pub returns-in-Some-clause-names : goal.returns-in-Some-clause-names
returns-in-Some-clause-names c =
    let here : IsUseAt c.args.self.now.script c.self.inside.at c.in-Some.ask = subst (λ (cs : List Command). IsUseAt cs c.self.inside.at c.in-Some.ask) (c.deref.ensures.value ∙ ap (λ (w : WeaveView). w.script) c.self.view_is) c.in-Some.ensures in
    inr (use_named _ _ c.in-Some.ask here)

pub returns-in-Some-clause-asked : goal.returns-in-Some-clause-asked
returns-in-Some-clause-asked c = λ log hand h.
    let i = c.self.inside in
    let rest = drop (i.at + 1) i.script.commands.items in
    let w : WeaveView = record { script = i.script.commands.items; left = drop i.at i.script.commands.items; current = i.current; capacity = i.capacity } in
    let here : IsUseAt i.script.commands.items i.at c.in-Some.ask = subst (λ (cs : List Command). IsUseAt cs i.at c.in-Some.ask) c.deref.ensures.value c.in-Some.ensures in
    let stood : StandsFor w log = subst (λ (v : WeaveView). StandsFor v log) (sym c.self.view_is) h in
    use_taken w log c.args._entry.now rest c.in-Some.ask hand stood here.1

pub returns-in-None-clause-names : goal.returns-in-None-clause-names
returns-in-None-clause-names c =
    subst (λ (cs : List Command). (c.self.inside.current.scheme ≡ Seq) ⊎ UsesScheme cs c.self.inside.current.scheme) (ap (λ (w : WeaveView). w.script) c.self.view_is) c.self.invariant.named

pub returns-in-None-clause-asked : goal.returns-in-None-clause-asked
returns-in-None-clause-asked c = λ log hand h.
    let left : drop c.self.inside.at c.deref.result.now ≡ c.args.self.now.left =
    ap (drop c.self.inside.at) c.deref.ensures.value ∙ ap (λ (w : WeaveView). w.left) c.self.view_is in
    none_taken c.args.self.now log c.args._entry.now hand h (subst IsNoUse left c.in-None.ensures)
