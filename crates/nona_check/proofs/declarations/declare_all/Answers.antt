use Rattle.std.proofs.Common.{◌≡◌, ◌⊎◌, inl, inr, false, ℕ, ◌+◌, ◌<◌, List, ◌∷◌, length, drop, sym, ap, ◌∙◌, arith}
use Rattle.nona_tree.specs.Names.{Visible}
use Rattle.nona_tree.specs.Seen.{Seen, Declaration, array_decl, var_decl, declarations, seen_behind_all}
use Rattle.nona_check.proofs.AfterLaws.{one_more, one_more_array, same_arrays, same_scalars}
use Rattle.nona_check.proofs.MergedLaws.{array_there, var_there, array_left, var_left, array_step, var_step}
use Rattle.nona_check.proofs.declarations.declare_all.Goals as goal
use Rattle.nona_check.proofs.declarations.declare_all.Goals.{then-array-arrays, else-array-arrays+then-var-vars}

pub loop-array-preserved-then-array_is_next : goal.loop-array-preserved-then-array_is_next
loop-array-preserved-then-array_is_next c =
    let l = c.loop-array in
    let a = c.index-arrays-array.result in
    let arrays = c.args.arrays.now in
    let vars = c.args.vars.now in
    let ensured = c.in_ok-cells.ensures in
    let there : l.array < length arrays = array_there arrays vars l.array l.var (sym c.array_is_next.ensures ∙ c.if-array_is_next.true) in
    let rest = declarations (drop (l.array + 1) arrays) (drop l.var vars) in
    let next : declarations (drop l.array arrays) (drop l.var vars) ≡ array_decl a ∷ rest =
    array_left arrays vars l.array l.var a there c.index-arrays-array.is (sym c.array_is_next.ensures ∙ c.if-array_is_next.true) in (
      l.invariant.0 ∙ array_step l.first c.declare_array.new.first a rest _ l.scope c.declare_array.new.scope l.cells c.in_ok-cells.cells next ensured.cells ensured.seen ensured.faults,
      l.invariant.1 ∙ ap (λ (ds : List Declaration). seen_behind_all ds l.scope) next ∙ ap (λ (seen : Seen). seen_behind_all rest seen) (sym ensured.seen),
      omega (arith, there),
      l.invariant.3,
      omega (arith, l.invariant.4, one_more_array a.name.text l.scope, ap (λ (seen : Seen). length seen.arrays) ensured.seen),
      omega (arith, l.invariant.5, ap (λ (seen : Seen). length seen.scalars) ensured.seen, ap (λ (vs : List Visible). length vs) (same_scalars a.name.text l.scope)),
      omega (arith, l.invariant.6, ensured.most),
    )

pub bounds-vars-var : goal.bounds-vars-var
bounds-vars-var c =
    let left : (c.loop-array.array < length c.args.arrays.now) ⊎ (c.loop-array.var < length c.args.vars.now) =
    elim c.if-array-arrays.branch [ then-array-arrays w ↦ inl w.if-array-arrays.true | else-array-arrays+then-var-vars w ↦ inr w.if-var-vars.true ] in
    var_there c.args.arrays.now c.args.vars.now c.loop-array.array c.loop-array.var (sym c.array_is_next.ensures ∙ c.if-array_is_next.false) left

pub declare_var-requires : goal.declare_var-requires
declare_var-requires c =
    let left : (c.loop-array.array < length c.args.arrays.now) ⊎ (c.loop-array.var < length c.args.vars.now) =
    elim c.if-array-arrays.branch [ then-array-arrays w ↦ inl w.if-array-arrays.true | else-array-arrays+then-var-vars w ↦ inr w.if-var-vars.true ] in
    let there : c.loop-array.var < length c.args.vars.now =
    var_there c.args.arrays.now c.args.vars.now c.loop-array.array c.loop-array.var (sym c.array_is_next.ensures ∙ c.if-array_is_next.false) left in
    omega (arith, there, c.loop-array.invariant.5, c.requires.vars)

pub loop-array-smaller : goal.loop-array-smaller
loop-array-smaller c =
    let left : (c.loop-array.array < length c.args.arrays.now) ⊎ (c.loop-array.var < length c.args.vars.now) =
    elim c.if-array-arrays.branch [ then-array-arrays w ↦ inl w.if-array-arrays.true | else-array-arrays+then-var-vars w ↦ inr w.if-var-vars.true ] in
    let there : c.loop-array.var < length c.args.vars.now =
    var_there c.args.arrays.now c.args.vars.now c.loop-array.array c.loop-array.var (sym c.array_is_next.ensures ∙ c.if-array_is_next.false) left in
    omega (arith, there)

pub loop-array-preserved : goal.loop-array-preserved
loop-array-preserved c =
    let l = c.loop-array in
    let v = c.index-vars-var.result in
    let arrays = c.args.arrays.now in
    let vars = c.args.vars.now in
    let ensured = c.in_ok-declare_var.ensures in
    let left : (l.array < length arrays) ⊎ (l.var < length vars) =
    elim c.if-array-arrays.branch [ then-array-arrays w ↦ inl w.if-array-arrays.true | else-array-arrays+then-var-vars w ↦ inr w.if-var-vars.true ] in
    let there : l.var < length vars = var_there arrays vars l.array l.var (sym c.array_is_next.ensures ∙ c.if-array_is_next.false) left in
    let rest = declarations (drop l.array arrays) (drop (l.var + 1) vars) in
    let next : declarations (drop l.array arrays) (drop l.var vars) ≡ var_decl v ∷ rest =
    var_left arrays vars l.array l.var v there c.index-vars-var.is (sym c.array_is_next.ensures ∙ c.if-array_is_next.false) in (
      l.invariant.0 ∙ var_step l.first c.declare_var.new.first v rest _ l.scope c.declare_var.new.scope l.cells next ensured.seen ensured.faults,
      l.invariant.1 ∙ ap (λ (ds : List Declaration). seen_behind_all ds l.scope) next ∙ ap (λ (seen : Seen). seen_behind_all rest seen) (sym ensured.seen),
      l.invariant.2,
      omega (arith, there),
      omega (arith, l.invariant.4, ap (λ (seen : Seen). length seen.arrays) ensured.seen, ap (λ (names : List (List ℕ)). length names) (same_arrays v.name.text false l.scope)),
      omega (arith, l.invariant.5, one_more v.name.text false l.scope, ap (λ (seen : Seen). length seen.scalars) ensured.seen),
      l.invariant.6,
    )
