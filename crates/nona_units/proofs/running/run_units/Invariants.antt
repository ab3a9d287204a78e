use Rattle.std.proofs.Common.{◌≡◌, length, drop}
use Rattle.nona_tree.specs.Run.{run_all}
use Rattle.nona_tree.specs.Scope.{AreScoped}
use Rattle.nona_units.proofs.running.run_units.Given as goal

-- running what is left ends as running all does, and the room stays
abbrev pub invariant-units : goal.invariant-units
invariant-units l =
    record {
      ran : run_all l.units.body l.turns l.initial.store ≡ run_all (drop l.at l.units.body) l.turns l.store;
      scoped : AreScoped (drop l.at l.units.body) (length l.store.scalars) (length l.store.arrays);
      room : l.frame.room ≡ l.initial.frame.room;
    }
