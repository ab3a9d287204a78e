-- The arrays that accesses are of.
use Rattle.std.specs.Prelude.{ℕ, List, map}
use Rattle.nona_forms.specs.References.{Reference}

-- the arrays of accesses
abbrev pub arrays_of : List Reference → List ℕ
arrays_of xs = map (λ x. x.access.array.id) xs
