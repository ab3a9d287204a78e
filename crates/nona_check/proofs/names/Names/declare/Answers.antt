use Rattle.std.proofs.Common.{rules, ◌≡◌, List, [], ◌∷◌, ◌++◌, ◌+◌, ◌<◌, ◌^◌, length, false, None, sym, ap, ◌∙◌, subst, arith}
use Rattle.std.proofs.lemmas.List.{map_push, length-map}
use Rattle.nona_tree.specs.Names.{Visible, id_of}
use Rattle.nona_check.specs.declared.names.Declared.{Declared}
use Rattle.nona_check.specs.Known.{visible_of, is_visible, AreDistinct, Agrees}
use Rattle.nona_check.proofs.KnownNames.{agrees_push, distinct_push, unseen}
use Rattle.nona_check.proofs.names.Names.declare.Goals as goal

pub invariant_of-self-in-Ok : goal.invariant_of-self-in-Ok
invariant_of-self-in-Ok c =
    let name = c.args.name.now in
    let vs : List Visible = visible_of c.self.inside.declared.items in
    let v : Visible = record { name = name; index = c.args.index } in
    let new : id_of name vs ≡ None = subst (λ l. id_of name l ≡ None) (sym c.self.view_is) c.requires.new in
    let none : is_visible name vs ≡ false = unseen name vs new in
    let now : visible_of c.push.new.self.items ≡ vs ++ v ∷ [] =
    ap visible_of c.in_ok-push.ensures.items
    ∙ map_push (λ (d : Declared). let w : Visible = record { name = d.name; index = d.index } in w) c.self.inside.declared.items _
    ∙ ap (λ n. vs ++ (let w : Visible = record { name = n; index = c.args.index } in w) ∷ []) c.copy.ensures in
    let room : length c.self.inside.declared.items + 1 < 2 ^ 32 =
    subst (λ n. n + 1 < 2 ^ 32) (ap length (sym c.self.view_is) ∙ length-map c.self.inside.declared.items (λ (d : Declared). let w : Visible = record { name = d.name; index = d.index } in w)) c.requires.room in
    let count : c.len-id.result ≡ length c.self.inside.declared.items = search rules in (
      omega (arith, c.in_ok-push.ensures.len, room),
      subst AreDistinct (sym now) (distinct_push v vs none c.self.invariant.1),
      subst (λ l. Agrees c.insert.new.self l) (sym now) (agrees_push c.self.inside.known c.insert.new.self v vs c.in_ok-key.key.items c.len-id.result
          (c.in_ok-key.ensures.items ∙ c.as_slice.ensures.bytes)
          (count ∙ sym (length-map c.self.inside.declared.items (λ (d : Declared). let w : Visible = record { name = d.name; index = d.index } in w)))
          none c.self.invariant.2 c.in-Ok.ensures.updates),
    )
