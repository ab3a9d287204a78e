-- What compiled statements keep.
use Rattle.std.specs.Prelude.{◌≡◌, map}
use Rattle.nona_tree.specs.Scope.{is_let}
use Rattle.nona_units.specs.declared.compiled.Units.TheInside.{Inside}
use Rattle.nona_units.specs.Units.{AreUnits, HaveRoom}
use Rattle.nona_units.specs.UnitsView.{UnitsView}

-- compiled statements, as contracts see them
abbrev pub view_of : Inside → UnitsView
view_of a = record { body = a.body.value; room = a.room }

-- their codes stand for them, those of them that declare a scalar are known, and each has room
pub record IsUnits (a : Inside) : Type 0 where
  pub codes : AreUnits a.compiled.items a.body.value
  pub lets : a.lets.items ≡ map is_let a.body.value
  pub room : HaveRoom a.compiled.items a.room
