-- Which symbols may stand behind others: those whose shortest text no other symbol takes for its own.
use Rattle.std.proofs.Common.{ℕ, zero, suc, eqb, List, [], ◌∷◌, ◌++◌, Some, None, Bool, true, false}
use Rattle.std.specs.declared.option.Option.{Option}
use Rattle.nona_lex.specs.declared.tokens.Keyword.TheVariants as w
use Rattle.nona_lex.specs.declared.tokens.Sign.{Sign}
use Rattle.nona_lex.specs.declared.tokens.Sign.TheVariants as s
use Rattle.nona_lex.specs.declared.tokens.Token.{Token}
use Rattle.nona_lex.specs.declared.tokens.Token.TheVariants as token
use Rattle.nona_lex.specs.declared.tokens.Spot.{Spot}
use Rattle.nona_lex.specs.declared.tokens.Operator.TheVariants as operator
use Rattle.nona_tree.specs.declared.trees.Op.{Op}
use Rattle.nona_grammar.specs.Levels.{named, op_of, level, loosest, comparisons}
use Rattle.nona_grammar.specs.Stack.{Trees, Join, Reach}
use Rattle.nona_grammar.specs.Machine
use Rattle.nona_grammar.specs.Machine.{Sym, Do, Want, In, Decls, ArrayName, CellsOpen, Cells, VarName, Init, InitNumber, Stmts, Statement, LetName, AfterName, AfterCell, Else, ForWord, ForName, Block, Index, Whole, Compare, Level, Tail, Primary, MaybeCell, LenOpen, LenName, sign_code, behind, choice, level_next, next, optional, skip, past, expanded, step}

-- what is known where a symbol may stand behind others: not those whose text begins as a statement or an index does, or with a name
abbrev pub Mild : Sym → Type 0 → Type 0
Mild (Want s.OpenIndex) X = ⊥
Mild ArrayName X = ⊥
Mild (CellsOpen n a) X = ⊥
Mild VarName X = ⊥
Mild Statement X = ⊥
Mild LetName X = ⊥
Mild ForWord X = ⊥
Mild (ForName seq at) X = ⊥
Mild LenName X = ⊥
Mild _ X = X

-- all of them may stand behind others
abbrev pub AllMild : List Sym → Type 0
AllMild [] = Unit {0}
AllMild (a ∷ k) = Mild a (AllMild k)

-- all behind the first are such
abbrev pub Kept : List Sym → Type 0
Kept [] = Unit {0}
Kept (a ∷ k) = AllMild k

-- what comes in the place of a symbol is kept, where something does
abbrev KeptIf : Option (List Sym) → Type 0
KeptIf None = Unit {0}
KeptIf (Some new) = Kept new

-- what follows from what is known holds of a symbol that may stand behind others too
pub mild_map : {X Y : Type 0} (a : Sym) → (X → Y) → Mild a X → Mild a Y
mild_map (Want s.OpenIndex) f h = h
mild_map ArrayName f h = h
mild_map (CellsOpen n a) f h = h
mild_map VarName f h = h
mild_map Statement f h = h
mild_map LetName f h = h
mild_map ForWord f h = h
mild_map (ForName seq at) f h = h
mild_map LenName f h = h
mild_map _ f h = f h

-- what is known of a symbol that may stand behind others is so
mild_known : {X : Type 0} (a : Sym) → Mild a X → X
mild_known (Want s.OpenIndex) h = absurd h
mild_known ArrayName h = absurd h
mild_known (CellsOpen n a) h = absurd h
mild_known VarName h = absurd h
mild_known Statement h = absurd h
mild_known LetName h = absurd h
mild_known ForWord h = absurd h
mild_known (ForName seq at) h = absurd h
mild_known LenName h = absurd h
mild_known _ h = h

-- where all may stand behind others, those behind the first may
pub mild_kept : (k : List Sym) → AllMild k → Kept k
mild_kept [] h = tt
mild_kept (a ∷ k) h = mild_known a h

-- two such lists are one
mild_append : (new k : List Sym) → AllMild new → AllMild k → AllMild (new ++ k)
mild_append [] k m n = n
mild_append (a ∷ new) k m n = mild_map a (λ x. mild_append new k x n) m

-- and so is one that is kept, and a list of such
kept_append : (new k : List Sym) → Kept new → AllMild k → Kept (new ++ k)
kept_append [] k m n = mild_kept k n
kept_append (a ∷ new) k m n = mild_append new k m n

-- ---- what comes in the place of a symbol

-- one more symbol that may stand behind others
kept_behind : (o : Option (List Sym)) (a : Sym) → AllMild (a ∷ []) → KeptIf o → KeptIf (behind o a)
kept_behind None a m h = tt
kept_behind (Some new) a m h = kept_append new (a ∷ []) h m

-- what may be taken or not
kept_choice : (b : Bool) (x : Option (List Sym)) → KeptIf x → KeptIf (choice b x None)
kept_choice true x h = h
kept_choice false x h = tt

-- a sign leaves nothing to come
kept_want : (x : Sign) (t : Token) → KeptIf (Machine.want x t)
kept_want x (token.Sign y) = kept_choice (eqb (sign_code x) (sign_code y)) (Some []) tt
kept_want x _ = tt

-- within brackets an expression and a sign are to come
kept_primary : (t : Token) (at : ℕ) → KeptIf (Machine.primary t at)
kept_primary (token.Number n) at = tt
kept_primary (token.Name n) at = tt
kept_primary (token.Word w.Len) at = tt
kept_primary (token.Sign s.Open) at = tt
kept_primary _ at = tt

-- behind a sign before a primary
kept_unary : (t : Token) (at : ℕ) → KeptIf (Machine.unary t at)
kept_unary (token.Operator operator.Sub) at = tt
kept_unary (token.Operator operator.Not) at = tt
kept_unary t at = kept_primary t at

-- behind a level comes its tail
kept_level : (m : ℕ) (t : Token) (at : ℕ) → KeptIf (level_next m t at)
kept_level zero t at = kept_unary t at
kept_level (suc m) t at = kept_behind (level_next m t at) (Tail m) tt (kept_level m t at)

-- behind the loosest level comes what may be compared
kept_whole : (t : Token) (at : ℕ) → KeptIf (Machine.whole t at)
kept_whole t at = kept_behind (level_next loosest t at) Compare tt (kept_level loosest t at)

-- behind an operator come an operand, the join and a tail
kept_joins : (m : ℕ) (o : Option Op) (at : ℕ) → KeptIf (Machine.joins m o at)
kept_joins m (Some o) at = kept_choice (eqb (level o) (suc m)) (Some (Level m ∷ Do (Join o at) ∷ Tail m ∷ [])) tt
kept_joins m None at = tt

-- and no other token begins a tail
kept_tail : (m : ℕ) (t : Token) (at : ℕ) → KeptIf (Machine.tail m t at)
kept_tail m (token.Operator x) at = kept_joins m (op_of x) at
kept_tail m _ at = tt

-- behind a comparison come an operand and the join
kept_compares : (o : Option Op) (at : ℕ) → KeptIf (Machine.compares o at)
kept_compares (Some o) at = kept_choice (eqb (level o) comparisons) (Some (Level loosest ∷ Do (Join o at) ∷ [])) tt
kept_compares None at = tt

-- and no other token is compared by
kept_compare : (t : Token) (at : ℕ) → KeptIf (Machine.compare t at)
kept_compare (token.Operator x) at = kept_compares (op_of x) at
kept_compare _ at = tt

-- behind an index comes the place of a cell
kept_index : (n : List ℕ) (a : ℕ) (t : Token) (at : ℕ) → KeptIf (Machine.index n a t at)
kept_index n a (token.Word w.Wrap) at = tt
kept_index n a t at = kept_behind (Machine.whole t at) (Do (Reach (named n a) false)) tt (kept_whole t at)

-- behind the opening of an index
kept_maybe_cell : (n : List ℕ) (a : ℕ) (t : Token) → KeptIf (Machine.maybe_cell n a t)
kept_maybe_cell n a (token.Sign s.OpenIndex) = tt
kept_maybe_cell n a _ = tt

-- behind the bracket of a length
kept_len_open : (t : Token) → KeptIf (Machine.len_open t)
kept_len_open (token.Sign s.Open) = tt
kept_len_open _ = tt

-- behind the name of a length
kept_len_name : (t : Token) (at : ℕ) → KeptIf (Machine.len_name t at)
kept_len_name (token.Name n) at = tt
kept_len_name _ at = tt

-- what is to come behind the first token of a statement
kept_statement : (t : Token) (at : ℕ) → KeptIf (Machine.statement t at)
kept_statement (token.Name n) at = tt
kept_statement (token.Word w.Let) at = tt
kept_statement (token.Word w.If) at = tt
kept_statement (token.Word w.While) at = tt
kept_statement (token.Word w.For) at = tt
kept_statement (token.Word w.Seq) at = tt
kept_statement (token.Word w.Print) at = tt
kept_statement _ at = tt

-- behind the name of a scalar that is declared
kept_let_name : (t : Token) (at : ℕ) → KeptIf (Machine.let_name t at)
kept_let_name (token.Name n) at = tt
kept_let_name _ at = tt

-- behind the name of an assignment
kept_after_name : (n : List ℕ) (a : ℕ) (t : Token) → KeptIf (Machine.after_name n a t)
kept_after_name n a (token.Sign s.Set) = tt
kept_after_name n a (token.Fold f) = tt
kept_after_name n a (token.Sign s.OpenIndex) = tt
kept_after_name n a _ = tt

-- behind the cell of an assignment
kept_after_cell : (t : Token) → KeptIf (Machine.after_cell t)
kept_after_cell (token.Sign s.Set) = tt
kept_after_cell (token.Fold f) = tt
kept_after_cell _ = tt

-- behind the word `else`
kept_else : (t : Token) → KeptIf (Machine.else_next t)
kept_else (token.Word w.Else) = tt
kept_else _ = tt

-- behind the word `for` of a loop in order
kept_for_word : (t : Token) (at : ℕ) → KeptIf (Machine.for_word t at)
kept_for_word (token.Word w.For) at = tt
kept_for_word _ at = tt

-- behind the index of a loop
kept_for_name : (seq : Bool) (a : ℕ) (t : Token) (at : ℕ) → KeptIf (Machine.for_name seq a t at)
kept_for_name seq a (token.Name n) at = tt
kept_for_name seq a _ at = tt

-- behind the word `in`
kept_in : (t : Token) → KeptIf (Machine.in_word t)
kept_in (token.Word w.In) = tt
kept_in _ = tt

-- behind the opening of a block
kept_block : (t : Token) → KeptIf (Machine.block_next t)
kept_block (token.Sign s.OpenBlock) = tt
kept_block _ = tt

-- behind the word that begins a declaration
kept_decls : (t : Token) → KeptIf (Machine.decls t)
kept_decls (token.Word w.Array) = tt
kept_decls (token.Word w.Var) = tt
kept_decls _ = tt

-- behind an array's name
kept_array_name : (t : Token) (at : ℕ) → KeptIf (Machine.array_name t at)
kept_array_name (token.Name n) at = tt
kept_array_name _ at = tt

-- behind the bracket before the number of its cells
kept_cells_open : (n : List ℕ) (a : ℕ) (t : Token) → KeptIf (Machine.cells_open n a t)
kept_cells_open n a (token.Sign s.OpenIndex) = tt
kept_cells_open n a _ = tt

-- behind that number
kept_cells : (n : List ℕ) (a : ℕ) (t : Token) (at : ℕ) → KeptIf (Machine.cells n a t at)
kept_cells n a (token.Number m) at = tt
kept_cells n a _ at = tt

-- behind a variable's name
kept_var_name : (t : Token) (at : ℕ) → KeptIf (Machine.var_name t at)
kept_var_name (token.Name n) at = tt
kept_var_name _ at = tt

-- behind what a variable's name is followed by
kept_init : (n : List ℕ) (a : ℕ) (t : Token) → KeptIf (Machine.init n a t)
kept_init n a (token.Sign s.Semicolon) = tt
kept_init n a (token.Sign s.Set) = tt
kept_init n a _ = tt

-- behind a variable's number
kept_init_number : (n : List ℕ) (a : ℕ) (t : Token) → KeptIf (Machine.init_number n a t)
kept_init_number n a (token.Number m) = tt
kept_init_number n a _ = tt

-- what comes in the place of a symbol is kept
kept_next : (a : Sym) (x : Spot) → KeptIf (next a x)
kept_next (Do a) x = tt
kept_next (Want a) x = kept_want a x.token
kept_next In x = kept_in x.token
kept_next Decls x = kept_decls x.token
kept_next ArrayName x = kept_array_name x.token x.at
kept_next (CellsOpen n a) x = kept_cells_open n a x.token
kept_next (Cells n a) x = kept_cells n a x.token x.at
kept_next VarName x = kept_var_name x.token x.at
kept_next (Init n a) x = kept_init n a x.token
kept_next (InitNumber n a) x = kept_init_number n a x.token
kept_next Stmts x = kept_behind (Machine.statement x.token x.at) Stmts tt (kept_statement x.token x.at)
kept_next Statement x = kept_statement x.token x.at
kept_next LetName x = kept_let_name x.token x.at
kept_next (AfterName n a) x = kept_after_name n a x.token
kept_next AfterCell x = kept_after_cell x.token
kept_next Else x = kept_else x.token
kept_next ForWord x = kept_for_word x.token x.at
kept_next (ForName seq a) x = kept_for_name seq a x.token x.at
kept_next Block x = kept_block x.token
kept_next (Index n a) x = kept_index n a x.token x.at
kept_next Whole x = kept_whole x.token x.at
kept_next Compare x = kept_compare x.token x.at
kept_next (Level m) x = kept_level m x.token x.at
kept_next (Tail m) x = kept_tail m x.token x.at
kept_next Primary x = kept_primary x.token x.at
kept_next (MaybeCell n a) x = kept_maybe_cell n a x.token
kept_next LenOpen x = kept_len_open x.token
kept_next LenName x = kept_len_name x.token x.at

-- ---- steps

-- what a step leaves is kept
abbrev pub LeftKept : Option (List Sym × Trees) → Type 0
LeftKept None = Unit {0}
LeftKept (Some x) = Kept x.0

-- a symbol that is passed over leaves what those behind it do
kept_past : (b : Bool) (o : Option (List Sym × Trees)) → LeftKept o → LeftKept (past b o None)
kept_past true o h = h
kept_past false o h = tt

-- a step by a symbol's token, or by those behind it
kept_chosen : (o : Option (List Sym)) (k : List Sym) (v : Trees) (other : Option (List Sym × Trees))
    → KeptIf o → AllMild k → LeftKept other → LeftKept (expanded o k v other)
kept_chosen None k v other n h g = g
kept_chosen (Some new) k v other n h g = kept_append new k n h

-- each step leaves what is kept
pub kept_step : (k : List Sym) (v : Trees) (x : Spot) → Kept k → LeftKept (step k v x)
kept_step [] v x h = tt
kept_step (a ∷ k) v x h =
    kept_chosen (next a x) k v (past (optional a) (step k (skip a v) x) None) (kept_next a x) h
    (kept_past (optional a) (step k (skip a v) x) (kept_step k (skip a v) x (mild_kept k h)))
