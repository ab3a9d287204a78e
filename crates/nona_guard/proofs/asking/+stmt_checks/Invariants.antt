use Rattle.std.proofs.Common.{◌≡◌, ◌++◌, take}
use Rattle.nona_guard.specs.Asked.{asked_all}
use Rattle.nona_guard.proofs.asking.+stmt_checks.Given as goal

-- what is asked of the statements so far is there
abbrev pub invariant-push_all-loop-s : goal.invariant-push_all-loop-s
invariant-push_all-loop-s l = record {
  checks : l.checks ≡ l.initial.checks ++ asked_all (take l.s-index l.stmts) (l.initial.inner ++ l.names);
  inner : l.inner ≡ l.initial.inner;
}
