use Rattle.std.proofs.Common.{◌≡◌, List, [], ◌∷◌, ◌++◌, sym, ap, ◌∙◌, subst, arith}
use Rattle.std.proofs.lemmas.List.{map_push, same_from_push}
use Rattle.nona_tree.specs.Names.{Visible}
use Rattle.nona_check.specs.declared.names.Declared.{Declared}
use Rattle.nona_check.specs.Known.{visible_of, AreDistinct, Agrees}
use Rattle.nona_check.proofs.KnownNames.{agrees_pop, distinct_pop}
use Rattle.nona_check.proofs.names.Names.drop_newest.Goals as goal

split : (before after : List Declared) (d : Declared) → before ≡ after ++ d ∷ [] → visible_of before ≡ visible_of after ++ record { name = d.name; index = d.index } ∷ []
split before after d e = ap visible_of e ∙ map_push (λ (d : Declared). let w : Visible = record { name = d.name; index = d.index } in w) after d

pub invariant_of-self : goal.invariant_of-self
invariant_of-self c =
    let last = c.in-Some.last in
    let vs : List Visible = visible_of c.pop.new.self.items in
    let v : Visible = record { name = last.name; index = last.index } in
    let was : visible_of c.self.inside.declared.items ≡ vs ++ v ∷ [] = split _ _ last c.in-Some.ensures.items in
    let distinct = distinct_pop v vs (subst AreDistinct was c.self.invariant.1) in (
      omega (arith, c.in-Some.ensures.len),
      distinct.0,
      agrees_pop c.self.inside.known c.remove.new.self v vs c.as_slice.result.now c.as_slice.ensures.bytes
          distinct.1 (subst (λ l. Agrees c.self.inside.known l) was c.self.invariant.2) c.remove.ensures.updates,
    )

pub returns-in-Some : goal.returns-in-Some
returns-in-Some c = λ outer v e. (same_from_push _ outer _ v (sym (split _ _ c.in-Some.last c.in-Some.ensures.items) ∙ c.self.view_is ∙ e)).0
