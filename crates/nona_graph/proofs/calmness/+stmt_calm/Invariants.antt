use Rattle.std.proofs.Common.{◌≡◌, ◌++◌, ◌&&◌, drop}
use Rattle.nona_forms.specs.Calm.{is_calm_all}
use Rattle.nona_graph.proofs.calmness.+stmt_calm.Given as goal

-- all are calm where those so far are and the others are
abbrev pub invariant-is_calm_all-loop-s : goal.invariant-is_calm_all-loop-s
invariant-is_calm_all-loop-s l = record {
  calm : is_calm_all l.stmts (l.initial.inner ++ l.names) ≡ (l.calm && is_calm_all (drop l.s-index l.stmts) (l.initial.inner ++ l.names));
  inner : l.inner ≡ l.initial.inner;
}
