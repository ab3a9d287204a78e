use Rattle.std.proofs.Common.{◌≡◌, ◌++◌, drop}
use Rattle.nona_tree.specs.Memory.{Memory}
use Rattle.net_pipe.proofs.settling.print_all.Given as goal

-- printing the numbers that are left ends as printing all of them
abbrev pub invariant-numbers : goal.invariant-numbers
invariant-numbers l =
    let left : Memory = record l.store { printed = l.store.printed ++ drop l.number-index l.numbers } in
    let all : Memory = record l.initial.store { printed = l.initial.store.printed ++ l.numbers } in
    left ≡ all
