-- The lists behind the names of a loop and behind its accesses.
use Rattle.std.specs.Prelude.{ℕ, Bool, List, [], ◌++◌, Some, None}
use Rattle.std.specs.declared.option.Option.{Option}
use Rattle.nona_tree.specs.declared.trees.Access.{Access}
use Rattle.nona_tree.specs.declared.trees.Loop.{Loop}
use Rattle.nona_forms.specs.Affine.{form_of}
use Rattle.nona_forms.specs.declared.shapes.InnerLoop.{InnerLoop}
use Rattle.nona_forms.specs.declared.shapes.Spot.{Spot}
use Rattle.nona_forms.specs.References.{Inner, Reference}
use Rattle.nona_forms.specs.Verdicts.{inner_forms, names_inside}

-- the ids of a list, if there is one
abbrev pub ids_in : Option (List ℕ) → List ℕ
ids_in None = []
ids_in (Some ids) = ids

-- a loop as an inner one
abbrev pub inner_of : Loop → Inner
inner_of l = record { id = l.index.id; low = l.low; high = l.high }

-- an inner loop where these names may occur in its bounds
abbrev pub loop_in : List ℕ → Inner → InnerLoop
loop_in names l = record { id = l.id; low = form_of l.low names; high = form_of l.high names }

-- an access by itself, inside no loop of the part
abbrev pub bare : Access → Bool → Reference
bare access write = record { access = access; write = write; inner = [] }

-- an access of a part that stands inside some inner loops, where these names may occur
abbrev pub spot_in : List ℕ → List InnerLoop → Reference → Spot
spot_in names around x =
    record {
      array = x.access.array.id;
      at = x.access.array.at;
      wrap = x.access.wrap;
      write = x.write;
      form = form_of x.access.index (names_inside names x.inner);
      inner = around ++ inner_forms names x.inner;
    }
