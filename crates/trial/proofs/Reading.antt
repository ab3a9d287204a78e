-- The text of a trial is a program without faults. All of it is closed, so each fact is computed.
use Rattle.std.proofs.Common.{◌≡◌, ℕ, [], None, Ok, refl}
use Rattle.std.specs.Fmt.{digits}
use Rattle.nona_lex.specs.Bounds.{tokens_of, bounded_from}
use Rattle.nona_lex.specs.Lexis.{lexed_from, lexeme_of}
use Rattle.nona_lex.specs.Words.{keyword_of}
use Rattle.nona_lex.specs.Signs.{with_equals, doubled, token_of_two, operator_of_one, sign_of_one}
use denote.Hole.Carrier.{hidden}
use Rattle.nona_tree.specs.declared.trees.Expr.TheBlock.{hidden-the_row-Expr-1, hidden-the_row-Access-0}
use Rattle.nona_tree.specs.declared.trees.Stmt.TheBlock.{hidden-the_row-Stmt-0}
use Rattle.nona_tree.specs.Faults.{faults_of}
use Rattle.nona_tree.specs.Ids.{ids_of}
use Rattle.nona_grammar.specs.Grammar.{IsProgram}
use Rattle.nona_grammar.specs.Machine.{built}
use Rattle.nona_grammar.specs.Stack.{whole_of}
use Rattle.nona_parse.proofs.Refusals.{Sound, read_sound}
use Rattle.trial.specs.Text.{blocks_text, trial_text}
use Rattle.trial.specs.Tree.{blocks_tree, read_tree, trial_tree}

-- no byte stops the tokens
pub uncut : (tokens_of trial_text).cut ≡ None
unfolding trial_text blocks_text digits lexed_from lexeme_of keyword_of with_equals doubled token_of_two operator_of_one sign_of_one bounded_from
uncut = refl

-- the machine reads the tree
reads : (end : ℕ) → built end (tokens_of trial_text).spots ≡ Ok (whole_of read_tree)
unfolding trial_text blocks_text digits lexed_from lexeme_of keyword_of with_equals doubled token_of_two operator_of_one sign_of_one bounded_from read_tree blocks_tree
reads end = refl

-- no name and no number of the tree is a fault
pub faultless : faults_of read_tree ≡ []
unfolding read_tree blocks_tree digits hidden-the_row-Stmt-0 hidden-the_row-Expr-1 hidden-the_row-Access-0 hidden
faultless = refl

-- the tokens are the tree's program
pub is_program : Sound → IsProgram (tokens_of trial_text).spots read_tree
is_program sound = read_sound sound (tokens_of trial_text).spots read_tree reads

-- the tree has the ids of its names
pub has_ids : trial_tree ≡ ids_of read_tree
unfolding trial_tree
has_ids = refl
