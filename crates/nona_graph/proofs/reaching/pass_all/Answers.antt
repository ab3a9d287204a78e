use Rattle.std.proofs.Common.{refl, ◌≡◌, ◌∙◌, ℕ, List, arith, subst, sym, length}
use Rattle.nona_graph.specs.Sets.{ShowWalks}
use Rattle.nona_graph.proofs.reaching.pass_all.Goals as goal

pub loop-k-preserved : goal.loop-k-preserved
loop-k-preserved c = (c.pass_unit.ensures.size ∙ c.loop-k.invariant.0, λ edges shows. c.pass_unit.ensures.walks edges c.loop-k.k (omega arith) (c.loop-k.invariant.1 edges shows))

pub returns-clause-walks : goal.returns-clause-walks
returns-clause-walks c = λ edges shows.
    let all : c.loop-k.k ≡ length c.args.rows.now = (let a = c.loop-k-test.false in let b = c.loop-k.auto.k-end in omega (arith, a, b)) in
    subst (λ n. ShowWalks edges n c.loop-k.rows) all (c.loop-k.invariant.1 edges shows)
