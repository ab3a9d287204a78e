-- The mark of each instruction of code whose jumps all lead to the mark that stands there, one instruction after another.
use Rattle.std.proofs.Common.{◌≡◌, ℕ, zero, suc, ◌+◌, ◌<◌, ◌≤◌, List, [], ◌∷◌, ◌++◌, length, Some, refl, sym, ap, ◌∙◌, subst, arith, ⊎_elim}
use Rattle.std.specs.Prelude.{slice_get, take}
use Rattle.nona_code.specs.declared.instr.Instr.{Instr}
use Rattle.nona_code.specs.declared.instr.Instr.TheVariants as instr
use Rattle.nona_code.specs.declared.marks.Mark.{Mark}
use Rattle.nona_code.specs.Rule.{Way, begins, goes_on, takes, leaves, after, start, IsNext, EndsEmpty, HasTarget, IsNumbered, IsSound}
use Rattle.nona_code.proofs.Placed.{Stands}

-- the mark with these numbers
abbrev pub mark : ℕ → ℕ → Mark
mark d k = record { depth = d; declared = k }

pub mark_is : (d k e l : ℕ) → d ≡ e → k ≡ l → mark d k ≡ mark e l
mark_is d k e l a b = λ i. mark (a i) (b i)

-- the mark behind some instructions
abbrev pub past : Mark → List Instr → Mark
past m [] = m
past m (i ∷ rest) = past (after i m) rest

pub past_both : (m : Mark) (xs ys : List Instr) → past m (xs ++ ys) ≡ past (past m xs) ys
past_both m [] ys = refl
past_both m (i ∷ xs) ys = past_both (after i m) xs ys

-- the same, where the mark between them is known
pub past_on : (m n : Mark) (xs ys : List Instr) → past m xs ≡ n → past m (xs ++ ys) ≡ past n ys
past_on m n xs ys h = past_both m xs ys ∙ ap (λ (x : Mark). past x ys) h

-- the mark of an instruction, by those before it
abbrev pub mark_at : List Instr → ℕ → Mark
mark_at code pc = past start (take pc code)

past_next : (m : Mark) (code : List Instr) (p : ℕ) (i : Instr) → slice_get code p ≡ Some i → past m (take (suc p) code) ≡ after i (past m (take p code))
past_next m [] p i is = cc
past_next m (j ∷ code) zero i is = let e : j ≡ i = cc in ap (λ x. after x m) e
past_next m (j ∷ code) (suc p) i is = past_next (after j m) code p i is

pub mark_next : (code : List Instr) (p : ℕ) (i : Instr) → slice_get code p ≡ Some i → mark_at code (p + 1) ≡ after i (mark_at code p)
mark_next code p i is = let e : p + 1 ≡ suc p = omega arith in ap (mark_at code) e ∙ past_next start code p i is

-- the mark behind instructions that stand in the code
pub mark_past : (code : List Instr) (p : ℕ) (c : List Instr) (m : Mark) → Stands code p c → mark_at code p ≡ m → mark_at code (p + length c) ≡ past m c
mark_past code p [] m has at_p = let e : p + 0 ≡ p = omega arith in ap (mark_at code) e ∙ at_p
mark_past code p (i ∷ c) m has at_p =
    let e : p + length (i ∷ c) ≡ p + 1 + length c = omega arith in
    ap (mark_at code) e ∙ mark_past code (p + 1) c (after i m) has.1 (mark_next code p i has.0 ∙ ap (after i) at_p)

-- a target is an instruction, with this mark
abbrev pub IsAimed : List Instr → Mark → Instr → Type 0
IsAimed code m (instr.Jump t) = (t < length code) × (mark_at code t ≡ m)
IsAimed code m (instr.Zero t) = (t < length code) × (mark_at code t ≡ m)
IsAimed code m _ = Unit {0}

-- an instruction with this mark keeps the rule
pub record IsFine (code : List Instr) (m : Mark) (i : Instr) : Type 0 where
  pub takes : takes i ≤ m.depth
  pub leaves : leaves i ≤ m.declared
  pub ends : EndsEmpty i m.depth
  pub aimed : IsAimed code (after i m) i
  pub numbered : IsNumbered 256 256 i

-- the same of one instruction after another
abbrev pub AreFine : List Instr → Mark → List Instr → Type 0
AreFine code m [] = Unit {0}
AreFine code m (i ∷ rest) = IsFine code m i × AreFine code (after i m) rest

pub fine_on : (code : List Instr) (m n : Mark) (xs ys : List Instr) → past m xs ≡ n → AreFine code m xs → AreFine code n ys → AreFine code m (xs ++ ys)
fine_on code m n [] ys h a b = subst (λ (x : Mark). AreFine code x ys) (sym h) b
fine_on code m n (i ∷ xs) ys h a b = (a.0, fine_on code (after i m) n xs ys h a.1 b)

pub fine_as : (code : List Instr) (m n : Mark) (xs : List Instr) → m ≡ n → AreFine code n xs → AreFine code m xs
fine_as code m n xs e h = subst (λ (x : Mark). AreFine code x xs) (sym e) h

-- an instruction that needs no more than this
pub fine : (code : List Instr) (m : Mark) (i : Instr) → takes i ≤ m.depth → leaves i ≤ m.declared → EndsEmpty i m.depth → IsAimed code (after i m) i → IsNumbered 256 256 i → IsFine code m i
fine code m i a b c d e = record { takes = a; leaves = b; ends = c; aimed = d; numbered = e }

fine_there : (code : List Instr) (xs : List Instr) (m : Mark) (pc : ℕ) (i : Instr) → AreFine code m xs → slice_get xs pc ≡ Some i → IsFine code (past m (take pc xs)) i
fine_there code [] m pc i h is = cc
fine_there code (j ∷ xs) m zero i h is = let e : j ≡ i = cc in subst (IsFine code m) e h.0
fine_there code (j ∷ xs) m (suc pc) i h is = fine_there code xs (after j m) pc i h.1 is

-- another instruction stands behind each but Stop
abbrev pub Followed : ℕ → Instr → ℕ → Type 0
Followed count instr.Stop pc = Unit {0}
Followed count _ pc = pc + 1 < count

pub followed : (count : ℕ) (i : Instr) (pc : ℕ) → pc + 1 < count → Followed count i pc
followed count instr.Stop pc h = tt
followed count _ pc h = h

-- what a mark leads to
record Leads (code : List Instr) (m : Mark) (to : ℕ) : Type 0 where
  there : to < length code
  is : m ≡ mark_at code to

leads_on : (code : List Instr) (i : Instr) (pc to : ℕ) (m : Mark) → m ≡ mark_at code pc → slice_get code pc ≡ Some i → to ≡ pc + 1 → pc + 1 < length code → Leads code (after i m) to
leads_on code i pc to m h is e fol = record {
  there = subst (λ x. x < length code) (sym e) fol;
  is = ap (after i) h ∙ sym (mark_next code pc i is) ∙ ap (mark_at code) (sym e);
}

leads : (code : List Instr) (i : Instr) (pc to : ℕ) (m : Mark) → m ≡ mark_at code pc → slice_get code pc ≡ Some i → IsFine code (mark_at code pc) i → Followed (length code) i pc → IsNext i pc to → Leads code (after i m) to
leads code (instr.Jump t) pc to m h is f fol next =
    record { there = subst (λ x. x < length code) (sym next) f.aimed.0; is = ap (after (instr.Jump t)) h ∙ sym f.aimed.1 ∙ ap (mark_at code) (sym next) }
leads code (instr.Zero t) pc to m h is f fol next =
    ⊎_elim
    (λ (e : to ≡ t). let r : Leads code (after (instr.Zero t) m) to = record { there = subst (λ x. x < length code) (sym e) f.aimed.0; is = ap (after (instr.Zero t)) h ∙ sym f.aimed.1 ∙ ap (mark_at code) (sym e) } in r)
    (λ (e : to ≡ pc + 1). let r : Leads code (after (instr.Zero t) m) to = record { there = subst (λ x. x < length code) (sym e) fol; is = ap (after (instr.Zero t)) h ∙ sym (mark_next code pc (instr.Zero t) is) ∙ ap (mark_at code) (sym e) } in r)
    next
leads code instr.Stop pc to m h is f fol next = absurd next
leads code _ pc to m h is f fol next = leads_on code _ pc to m h is next fol

has_target : (code : List Instr) (m : Mark) (i : Instr) → IsAimed code m i → HasTarget (length code) i
has_target code m (instr.Jump t) h = h.0
has_target code m (instr.Zero t) h = h.0
has_target code m _ h = tt

-- code that is fine from its first instruction on keeps the stack rule
module _ (code : List Instr) (some : 0 < length code) (all : AreFine code start code) (next : (pc : ℕ) (i : Instr) → slice_get code pc ≡ Some i → Followed (length code) i pc) where
  at_place : (pc : ℕ) (i : Instr) → slice_get code pc ≡ Some i → IsFine code (mark_at code pc) i
  at_place pc i is = fine_there code code start pc i all is

  on_way : (pc : ℕ) (m : Mark) → Way code pc m → Leads code m pc
  on_way _ _ begins = record { there = some; is = refl }
  on_way _ _ (goes_on pc to i m w is h) =
      let before = on_way pc m w in
      leads code i pc to m before.is is (at_place pc i is) (next pc i is) h

  fine_on_way : (pc : ℕ) (i : Instr) (m : Mark) → Way code pc m → slice_get code pc ≡ Some i → IsFine code m i
  fine_on_way pc i m w is = subst (λ (x : Mark). IsFine code x i) (sym (on_way pc m w).is) (at_place pc i is)

  pub fine_sound : IsSound code
  fine_sound = record {
    one = λ pc a b v w. (on_way pc a v).is ∙ sym (on_way pc b w).is;
    there = λ pc a w. (on_way pc a w).there;
    takes = λ pc i a w is. (fine_on_way pc i a w is).takes;
    leaves = λ pc i a w is. (fine_on_way pc i a w is).leaves;
    ends = λ pc i a w is. (fine_on_way pc i a w is).ends;
    targets = λ pc i is. has_target code _ i (at_place pc i is).aimed;
    numbered = λ pc i is. (at_place pc i is).numbered;
  }
