-- Code that keeps the stack rule, as contracts see it.
use Rattle.std.specs.Prelude.{◌≡◌, ℕ, ◌<◌, ◌≤◌, ◌^◌, List, length, Option, Some, None}
use Rattle.nona_code.specs.declared.instr.Instr.{Instr}
use Rattle.nona_code.specs.declared.marks.Mark.{Mark}
use Rattle.nona_code.specs.declared.uses.Uses.{Uses}
use Rattle.nona_code.specs.Machine.{places}
use Rattle.nona_code.specs.Rule.{IsSound, IsGreatest, UsesBelow}

-- its instructions, the greatest depth of the stack, the greatest count of declared scalars, and so many hidden scalars and
-- counters as hold all that it uses
pub record SoundView : Type 0 where
  pub instrs : List Instr
  pub deepest : ℕ
  pub scalars : ℕ
  pub hidden : ℕ
  pub counters : ℕ

-- the same, of its parts
abbrev pub sound_view : List Instr → Mark → Uses → SoundView
sound_view code most uses =
    record { instrs = code; deepest = most.depth; scalars = most.declared; hidden = uses.hidden; counters = uses.counters }

-- it keeps the rule, and these are its numbers
pub record IsSoundView (v : SoundView) : Type 0 where
  pub sound : IsSound v.instrs
  pub deepest : IsGreatest (λ m. m.depth) v.instrs v.deepest
  pub scalars : IsGreatest (λ m. m.declared) v.instrs v.scalars
  pub uses : UsesBelow v.hidden v.counters v.instrs
  pub few_hidden : v.hidden ≤ places
  pub few_counters : v.counters ≤ places
  pub short : length v.instrs < 2 ^ 31

-- what is said of code: it keeps the rule, and is given back, or it breaks the rule
abbrev pub IsVerdict : List Instr → Option SoundView → Type 0
IsVerdict code (Some v) = (v.instrs ≡ code) × IsSoundView v
IsVerdict code None = IsSound code → ⊥
