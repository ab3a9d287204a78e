use Rattle.std.proofs.Common.{rules, [], ◌∷◌, List, ap, sym, ◌∙◌, w64}
use Rattle.std.proofs.lemmas.Int.{to_z-of_z}
use Rattle.nona_lex.specs.declared.tokens.Sign.TheVariants as sign
use Rattle.nona_grammar.specs.Levels.{named}
use Rattle.nona_grammar.specs.Machine.{Sym, CellsOpen, Cells, Want, build}
use Rattle.nona_parse.specs.declared.declarations.Decl.TheVariants as decl
use Rattle.nona_parse.specs.Declaring.{declares_one}
use Rattle.nona_parse.proofs.Build.{fails_in, cells_are}
use Rattle.nona_parse.proofs.declarations.cells.Goals as goal

-- what stands behind the number of cells
to_end : List Sym → List Sym
to_end k = Want sign.CloseIndex ∷ Want sign.Semicolon ∷ k

pub returns-in-Err-clause-read : goal.returns-in-Err-clause-read
unfolding to_end
returns-in-Err-clause-read c = λ n at.
    fails_in c.in-Err.fault (CellsOpen n at ∷ to_end []) (Want sign.OpenIndex ∷ []) c.args.spots.now c.args.spots.now
    (λ end k v. (Cells n at ∷ to_end k, v, cells_are n at end (to_end k) v c.args.spots.now)) c.in-Err.ensures.read

pub returns-in-Err-number-clause-read : goal.returns-in-Err-number-clause-read
unfolding to_end
returns-in-Err-number-clause-read c = λ n at.
    fails_in c.in-Err-number.fault (CellsOpen n at ∷ to_end []) (Cells n at ∷ []) c.args.spots.now c.in-Ok.inner.now
    (λ end k v. (to_end k, v, cells_are n at end (to_end k) v c.args.spots.now ∙ c.in-Ok.ensures.read end (Cells n at ∷ to_end k) v)) (c.in-Err-number.ensures.cells n at)

pub returns-in-Err-array_end-clause-read : goal.returns-in-Err-array_end-clause-read
unfolding to_end
returns-in-Err-array_end-clause-read c = λ n at.
    fails_in c.in-Err-array_end.fault (CellsOpen n at ∷ to_end []) (to_end []) c.args.spots.now c.in-Ok-number.rest.now
    (λ end k v. (
      k,
      _,
      cells_are n at end (to_end k) v c.args.spots.now ∙ c.in-Ok.ensures.read end (Cells n at ∷ to_end k) v ∙ c.in-Ok-number.ensures.cells n at end (to_end k) v,
    ))
    c.in-Err-array_end.ensures.read

pub returns-in-Ok-array_end-clause-read : goal.returns-in-Ok-array_end-clause-read
unfolding to_end
returns-in-Ok-array_end-clause-read c = λ n at end k v.
    cells_are n at end (to_end k) v c.args.spots.now ∙ c.in-Ok.ensures.read end (Cells n at ∷ to_end k) v ∙ c.in-Ok-number.ensures.cells n at end (to_end k) v
    ∙ c.in-Ok-array_end.ensures.read end k _
    ∙ ap (λ m. build end k (declares_one (decl.Array (record { name = named n at; cells = m; cells_at = c.in-Ok-number.at })) v) c.in-Ok-array_end.behind.now)
    (sym (to_z-of_z w64 c.in-Ok-number.cells (search rules)))
