-- The commands of a script, line by line.
use Rattle.std.proofs.Common.{◌≡◌, ℕ, suc, ◌+◌, ◌-◌, Bool, true, false, nat_lt, List, [], ◌∷◌, ◌++◌, length, cond, refl, ap, sym, ◌∙◌, arith, Ok, Err, append_assoc}
use Rattle.std.specs.declared.result.Result.{Result}
use Rattle.std.proofs.lemmas.Bool.{ltb-true}
use Rattle.std.proofs.lemmas.List.{append-nil, length_push, nil_from_length}
use Rattle.nona_text.specs.Pieces.{lines_from}
use Rattle.morta_script.specs.declared.script.Command.{Command}
use Rattle.morta_script.specs.Lines.{Line, Nothing, Says, Wrong, words_of, line_by, command_bound, then_commands, with_room, with_line, commands_from}
use Rattle.morta_script.specs.Turns.{with_kind}

-- these commands, and then those of later lines
abbrev pub behind : List Command → Result (List Command) ℕ → Result (List Command) ℕ
behind front (Ok later) = Ok (front ++ later)
behind front (Err number) = Err number

-- these commands, and then those of the rest of a text, whose first line has a number
abbrev pub all_commands : List Command → ℕ → List ℕ → Result (List Command) ℕ
all_commands front number rest = behind front (commands_from (lines_from false rest) number (command_bound - length front))

-- a command before the later ones is one behind the others
moved : (front : List Command) (c : Command) (later : Result (List Command) ℕ) → behind (front ++ c ∷ []) later ≡ behind front (then_commands c later)
moved front c (Ok later) = ap (λ (l : List Command). Ok l) (append_assoc front (c ∷ []) later)
moved front c (Err number) = refl

-- a line that may stand there
one_more : (front next : List Command) (c : Command) (number : ℕ) (later : ℕ → Result (List Command) ℕ) (t : Bool)
    → nat_lt (length front) command_bound ≡ t → cond t (Ok (front ++ c ∷ [])) (Err number) ≡ Ok next
    → behind next (later (command_bound - length next)) ≡ behind front (with_room (command_bound - length front) number c later)
one_more front next c number later true t e =
    let whole : front ++ c ∷ [] ≡ next = cc in
    let room : command_bound - length front ≡ suc (command_bound - length next) = omega (arith, ltb-true _ _ t, length_push front c, ap length whole) in
    rw room (ap (λ (l : List Command). behind l (later (command_bound - length next))) (sym whole) ∙ moved front c (later (command_bound - length next)))
one_more front next c number later false t e = absurd (cc)

goes_on : (front next : List Command) (l : Line) (number : ℕ) (later : ℕ → Result (List Command) ℕ) → with_kind front l number ≡ Ok next
    → behind next (later (command_bound - length next)) ≡ behind front (with_line l (command_bound - length front) number later)
goes_on front next Nothing number later e =
    let same : front ≡ next = cc in
    ap (λ (l : List Command). behind l (later (command_bound - length l))) (sym same)
goes_on front next (Says c) number later e = one_more front next c number later (nat_lt (length front) command_bound) refl e
goes_on front next Wrong number later e = absurd (cc)

-- a turn of the loop
pub told_line : (front next : List Command) (all : Result (List Command) ℕ) (number : ℕ) (rest line left : List ℕ)
    → all_commands front number rest ≡ all → lines_from false rest ≡ line ∷ lines_from false left → with_kind front (line_by (words_of line)) number ≡ Ok next
    → all_commands next (number + 1) left ≡ all
told_line front next all number rest line left told here e =
    goes_on front next (line_by (words_of line)) number (λ room. commands_from (lines_from false left) (number + 1) room) e
    ∙ ap (λ ls. behind front (commands_from ls number (command_bound - length front))) (sym here) ∙ told

pub told_end : (front : List Command) (all : Result (List Command) ℕ) (number : ℕ) (rest : List ℕ)
    → all_commands front number rest ≡ all → length rest ≡ 0 → all ≡ Ok front
told_end front all number rest told none =
    sym told ∙ ap (all_commands front number) (nil_from_length rest none) ∙ ap (λ (l : List Command). Ok l) (append-nil front)
