-- The commands of a script: their numbers are in range.
use Rattle.std.proofs.Common.{◌≡◌, ℕ, zero, suc, ◌+◌, ◌≤◌, List, [], ◌∷◌, codes, refl, arith, None, Some, Ok, Err}
use Rattle.std.specs.Prelude.{All}
use Rattle.std.specs.declared.option.Option.{Option}
use Rattle.std.specs.declared.result.Result.{Result}
use Rattle.std.specs.Result.{IfOk}
use Rattle.std.specs.Str.{bytes_eq}
use Rattle.std.proofs.lemmas.Bool.{cond_both}
use Rattle.std.proofs.lemmas.List.Elements.{All-cons}
use Rattle.nona_text.specs.Pieces.{lines_of}
use Rattle.nona_text.specs.Digits.{number_within}
use Rattle.nona_text.proofs.Numbers.{within}
use Rattle.morta_script.specs.declared.script.Command.{Command}
use Rattle.morta_script.specs.declared.script.Command.TheVariants.{Use, Step, Pause}
use Rattle.morta_script.specs.Commands.{IsUntil, IsCommand, AreCommands}
use Rattle.morta_script.specs.declared.limits.TheConstants.{LAST_TASK, MOVES}
use Rattle.morta_task.specs.declared.limits.TheConstants.{TURNS, WORKERS}
use Rattle.morta_task.specs.declared.schemes.Config.{Config}
use Rattle.morta_task.specs.declared.schemes.Scheme.{Scheme}
use Rattle.morta_task.specs.declared.schemes.Scheme.TheVariants.{Seq, Any, Pipe}
use Rattle.morta_task.specs.Running.{HasWorkers, IsConfig}
use Rattle.morta_script.specs.Lines.{Line, Nothing, Says, Wrong, words_of, is_comment, config_with, config_of, until_line, after_config, with_config, after_use, step_line, after_step, after_pause, line_named, line_by, then_commands, with_line, commands_from, commands_of, command_bound}

-- what is true of each command that a line may have
record OfLines (P : Command → Type 0) : Type 0 where
  uses : (config : Config) (until : Option ℕ) → IsConfig config → IsUntil until → P (Use config until)
  steps : (task moves : ℕ) → task ≤ LAST_TASK → 1 ≤ moves → moves ≤ MOVES → P (Step task moves)
  pauses : P Pause

-- a line whose command, if it has one, is so
abbrev IsFine : (Command → Type 0) → Line → Type 0
IsFine P Nothing = Unit {0}
IsFine P (Says c) = P c
IsFine P Wrong = Unit {0}

-- a configuration, if there is one, is as it may be
abbrev MayBe : Option Config → Type 0
MayBe None = Unit {0}
MayBe (Some config) = IsConfig config

with_in_range : (scheme : Scheme) (o : Option ℕ) → ((n : ℕ) → o ≡ Some n → HasWorkers scheme n) → MayBe (config_with scheme o)
with_in_range scheme None h = tt
with_in_range scheme (Some n) h = h n refl

config_in_range : (scheme workers : List ℕ) → MayBe (config_of scheme workers)
config_in_range scheme workers =
    cond_both (bytes_eq scheme (codes "seq")) (config_with Seq (number_within 1 1 workers)) _ MayBe
    (λ e. with_in_range Seq (number_within 1 1 workers) (λ n e'. omega (arith, within 1 1 workers n e')))
    (λ e. cond_both (bytes_eq scheme (codes "any")) (config_with Any (number_within 1 WORKERS workers)) _ MayBe
    (λ e'. with_in_range Any (number_within 1 WORKERS workers) (within 1 WORKERS workers))
    (λ e'. cond_both (bytes_eq scheme (codes "pipe")) (config_with Pipe (number_within 1 WORKERS workers)) None MayBe
    (λ e''. with_in_range Pipe (number_within 1 WORKERS workers) (within 1 WORKERS workers)) (λ e''. tt)))

until_fine : (P : Command → Type 0) (config : Config) (o : Option ℕ) → OfLines P → IsConfig config
    → ((n : ℕ) → o ≡ Some n → (1 ≤ n) × (n ≤ TURNS)) → IsFine P (until_line config o)
until_fine P config None lines has h = tt
until_fine P config (Some n) lines has h = lines.uses config (Some n) has (h n refl)

after_fine : (P : Command → Type 0) (config : Config) (words : List (List ℕ)) → OfLines P → IsConfig config → IsFine P (after_config config words)
after_fine P config [] lines has = lines.uses config None has tt
after_fine P config (word ∷ []) lines has = tt
after_fine P config (word ∷ k ∷ []) lines has =
    cond_both (bytes_eq word (codes "until")) (until_line config (number_within 1 TURNS k)) Wrong (IsFine P)
    (λ e. until_fine P config (number_within 1 TURNS k) lines has (within 1 TURNS k)) (λ e. tt)
after_fine P config (word ∷ k ∷ more ∷ words) lines has = tt

config_fine : (P : Command → Type 0) (o : Option Config) (words : List (List ℕ)) → OfLines P → MayBe o → IsFine P (with_config o words)
config_fine P None words lines may = tt
config_fine P (Some config) words lines may = after_fine P config words lines may

use_fine : (P : Command → Type 0) (words : List (List ℕ)) → OfLines P → IsFine P (after_use words)
use_fine P [] lines = tt
use_fine P (scheme ∷ []) lines = tt
use_fine P (scheme ∷ workers ∷ words) lines = config_fine P (config_of scheme workers) words lines (config_in_range scheme workers)

moves_fine : (P : Command → Type 0) (task moves : Option ℕ) → OfLines P → ((n : ℕ) → task ≡ Some n → n ≤ LAST_TASK)
    → ((n : ℕ) → moves ≡ Some n → (1 ≤ n) × (n ≤ MOVES)) → IsFine P (step_line task moves)
moves_fine P None moves lines h h' = tt
moves_fine P (Some t) None lines h h' = tt
moves_fine P (Some t) (Some n) lines h h' = lines.steps t n (h t refl) (h' n refl).0 (h' n refl).1

step_fine : (P : Command → Type 0) (words : List (List ℕ)) → OfLines P → IsFine P (after_step words)
step_fine P [] lines = tt
step_fine P (task ∷ []) lines = tt
step_fine P (task ∷ moves ∷ []) lines =
    moves_fine P (number_within 0 LAST_TASK task) (number_within 1 MOVES moves) lines
    (λ n e. (within 0 LAST_TASK task n e).1) (within 1 MOVES moves)
step_fine P (task ∷ moves ∷ more ∷ words) lines = tt

pause_fine : (P : Command → Type 0) (words : List (List ℕ)) → OfLines P → IsFine P (after_pause words)
pause_fine P [] lines = lines.pauses
pause_fine P (word ∷ words) lines = tt

named_fine : (P : Command → Type 0) (word : List ℕ) (words : List (List ℕ)) → OfLines P → IsFine P (line_named word words)
named_fine P word words lines =
    cond_both (bytes_eq word (codes "use")) (after_use words) _ (IsFine P) (λ e. use_fine P words lines)
    (λ e. cond_both (bytes_eq word (codes "step")) (after_step words) _ (IsFine P) (λ e'. step_fine P words lines)
    (λ e'. cond_both (bytes_eq word (codes "pause")) (after_pause words) Wrong (IsFine P) (λ e''. pause_fine P words lines) (λ e''. tt)))

line_fine : (P : Command → Type 0) (words : List (List ℕ)) → OfLines P → IsFine P (line_by words)
line_fine P [] lines = tt
line_fine P (word ∷ words) lines =
    cond_both (is_comment word) Nothing (line_named word words) (IsFine P) (λ e. tt) (λ e. named_fine P word words lines)

none_fine : (P : Command → Type 0) → All P []
none_fine P k d h = absurd (omega arith)

then_fine : (P : Command → Type 0) (c : Command) (later : Result (List Command) ℕ) → P c → IfOk later (All P) → IfOk (then_commands c later) (All P)
then_fine P c (Ok cs) h hs = All-cons P c cs h hs
then_fine P c (Err n) h hs = tt

with_fine : (P : Command → Type 0) (l : Line) (room number : ℕ) (later : ℕ → Result (List Command) ℕ) → IsFine P l → ((left : ℕ) → IfOk (later left) (All P))
    → IfOk (with_line l room number later) (All P)
with_fine P Nothing room number later h hs = hs room
with_fine P (Says c) zero number later h hs = tt
with_fine P (Says c) (suc room) number later h hs = then_fine P c (later room) h (hs room)
with_fine P Wrong room number later h hs = tt

all_fine : (P : Command → Type 0) (texts : List (List ℕ)) (number room : ℕ) → OfLines P → IfOk (commands_from texts number room) (All P)
all_fine P [] number room lines = none_fine P
all_fine P (text ∷ texts) number room lines =
    with_fine P (line_by (words_of text)) room number (λ left. commands_from texts (number + 1) left) (line_fine P (words_of text) lines)
    (λ left. all_fine P texts (number + 1) left lines)

all_so : (P : Command → Type 0) (text : List ℕ) (commands : List Command) → OfLines P → commands_of text ≡ Ok commands → All P commands
all_so P text commands lines e =
    let fine : IfOk (commands_of text) (All P) = all_fine P (lines_of text) 1 command_bound lines in
    rw e at fine

pub in_range : (text : List ℕ) (commands : List Command) → commands_of text ≡ Ok commands → AreCommands commands
in_range text commands =
    all_so IsCommand text commands (record {
      uses = λ config until has cut. (has, cut);
      steps = λ task moves last some few. (last, some, few);
      pauses = tt;
    })
