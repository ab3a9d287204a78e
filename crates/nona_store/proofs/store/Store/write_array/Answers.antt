use Rattle.std.proofs.Common.{arith}
use Rattle.std.proofs.lemmas.List.Elements.{All-set}
use Rattle.nona_tree.specs.Numbers.{AreCells}
use Rattle.nona_store.specs.Arrays.{AreFew}
use Rattle.nona_store.proofs.store.Store.write_array.Goals as goal

pub invariant_of-self : goal.invariant_of-self
invariant_of-self c =
    let kept = c.are_kept.ensures in
    let arrays = c.self.inside.arrays.items in
    let was = c.self.invariant.numbers in
    record {
      numbers = record {
        scalars = was.scalars;
        arrays = All-set AreCells arrays c.args.array c.write.new.self (omega (arith, kept.few), kept.numbers) was.arrays;
        printed = was.printed;
      };
      few = All-set AreFew arrays c.args.array c.write.new.self kept.few c.self.invariant.few;
    }
