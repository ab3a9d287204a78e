-- A machine that is seen in another one: what commands and rounds do to it there is what they do to it alone.
use Rattle.std.proofs.Common.{◌≡◌, ◌+◌, ℕ, zero, suc, nat_lt, Bool, true, false, ◌&&◌, List, [], ◌∷◌, refl, sym, ap, ◌∙◌, if◌then◌else◌}
use Rattle.morta_script.specs.declared.script.Command.{Command}
use Rattle.morta_script.specs.declared.script.Command.TheVariants.{Use, Step, Pause}
use Rattle.net_flow.specs.Machines.{Machine, over_from, is_over, step_times, stepped, step_once, round_from, round, RunsOut, at_end, one_round}
use Rattle.weave.specs.Following.{Followed, follow}

-- the nets of one machine, as those of another one
pub record IsPart {N M : Type 0} (part : Machine N) (whole : Machine M) (seen : N → M) : Type 0 where
  pub tasks : (n : N) → whole.tasks (seen n) ≡ part.tasks n
  pub finished : (n : N) (t : ℕ) → whole.finished (seen n) t ≡ part.finished n t
  pub waits : (n : N) (t : ℕ) → whole.waits (seen n) t ≡ part.waits n t
  pub step : (n : N) (t : ℕ) → whole.step (seen n) t ≡ seen (part.step n t)
  pub pause : (n : N) → whole.pause (seen n) ≡ seen (part.pause n)

-- what is chosen by a test is seen as chosen
chosen : {A B : Type 0} (f : A → B) (b : Bool) (x y : A) → (if b then f x else f y) ≡ f (if b then x else y)
chosen f true x y = refl
chosen f false x y = refl

over_from_part : {N M : Type 0} (part : Machine N) (whole : Machine M) (seen : N → M) → IsPart part whole seen → (left task : ℕ) (n : N)
    → over_from whole left task (seen n) ≡ over_from part left task n
over_from_part part whole seen p zero task n = refl
over_from_part part whole seen p (suc left) task n = λ i. p.finished n task i && over_from_part part whole seen p left (task + 1) n i

pub is_over_part : {N M : Type 0} (part : Machine N) (whole : Machine M) (seen : N → M) → IsPart part whole seen → (n : N)
    → is_over whole (seen n) ≡ is_over part n
is_over_part part whole seen p n =
    ap (λ (k : ℕ). over_from whole k 0 (seen n)) (p.tasks n) ∙ over_from_part part whole seen p (part.tasks n) 0 n

times_part : {N M : Type 0} (part : Machine N) (whole : Machine M) (seen : N → M) → IsPart part whole seen → (moves task : ℕ) (n : N)
    → step_times whole moves task (seen n) ≡ seen (step_times part moves task n)
times_part part whole seen p zero task n = refl
times_part part whole seen p (suc moves) task n =
    let next = part.step n task in
    (λ i. if p.finished n task i then seen n
    else if p.waits n task i then p.step n task i else step_times whole moves task (p.step n task i))
    ∙ (λ i. if part.finished n task then seen n
    else if part.waits n task then seen next else times_part part whole seen p moves task next i)
    ∙ (λ i. if part.finished n task then seen n else chosen seen (part.waits n task) next (step_times part moves task next) i)
    ∙ chosen seen (part.finished n task) n (if part.waits n task then next else step_times part moves task next)

stepped_part : {N M : Type 0} (part : Machine N) (whole : Machine M) (seen : N → M) → IsPart part whole seen → (moves task : ℕ) (n : N)
    → stepped whole moves task (seen n) ≡ seen (stepped part moves task n)
stepped_part part whole seen p moves task n =
    (λ i. if nat_lt task (p.tasks n i) then times_part part whole seen p moves task n i else seen n)
    ∙ chosen seen (nat_lt task (part.tasks n)) (step_times part moves task n) n

-- a net that has followed commands, as the other machine sees it
abbrev pub seen_so : {N M : Type 0} → (N → M) → Followed N → Followed M
seen_so seen f = record { net = seen f.net; left = f.left }

pub follow_part : {N M : Type 0} (part : Machine N) (whole : Machine M) (seen : N → M) → IsPart part whole seen → (commands : List Command) (n : N)
    → follow whole commands (seen n) ≡ seen_so seen (follow part commands n)
follow_part part whole seen p [] n = refl
follow_part {N} {M} part whole seen p (Use config until ∷ rest) n =
    let left = Use config until ∷ rest in
    let here : Followed N = record { net = n; left = left } in
    let paused : Followed N = record { net = part.pause n; left = left } in
    (λ i. if is_over_part part whole seen p n i then seen_so seen here
    else (let f : Followed M = record { net = p.pause n i; left = left } in f))
    ∙ chosen (seen_so seen) (is_over part n) here paused
follow_part {N} {M} part whole seen p (Step task moves ∷ rest) n =
    let here : Followed N = record { net = n; left = Step task moves ∷ rest } in
    let next = stepped part moves task n in
    (λ i. if is_over_part part whole seen p n i then seen_so seen here else follow whole rest (stepped_part part whole seen p moves task n i))
    ∙ (λ i. if is_over part n then seen_so seen here else follow_part part whole seen p rest next i)
    ∙ chosen (seen_so seen) (is_over part n) here (follow part rest next)
follow_part {N} {M} part whole seen p (Pause ∷ rest) n =
    let here : Followed N = record { net = n; left = Pause ∷ rest } in
    let next = part.pause n in
    (λ i. if is_over_part part whole seen p n i then seen_so seen here else follow whole rest (p.pause n i))
    ∙ (λ i. if is_over part n then seen_so seen here else follow_part part whole seen p rest next i)
    ∙ chosen (seen_so seen) (is_over part n) here (follow part rest next)

once_part : {N M : Type 0} (part : Machine N) (whole : Machine M) (seen : N → M) → IsPart part whole seen → (task : ℕ) (n : N)
    → step_once whole task (seen n) ≡ seen (step_once part task n)
once_part part whole seen p task n =
    (λ i. if p.finished n task i then seen n else p.step n task i) ∙ chosen seen (part.finished n task) n (part.step n task)

round_from_part : {N M : Type 0} (part : Machine N) (whole : Machine M) (seen : N → M) → IsPart part whole seen → (left task : ℕ) (n : N)
    → round_from whole left task (seen n) ≡ seen (round_from part left task n)
round_from_part part whole seen p zero task n = refl
round_from_part part whole seen p (suc left) task n =
    ap (round_from whole left (task + 1)) (once_part part whole seen p task n)
    ∙ round_from_part part whole seen p left (task + 1) (step_once part task n)

pub round_part : {N M : Type 0} (part : Machine N) (whole : Machine M) (seen : N → M) → IsPart part whole seen → (n : N)
    → round whole (seen n) ≡ seen (round part n)
round_part part whole seen p n =
    ap (λ (k : ℕ). round_from whole k 0 (seen n)) (p.tasks n) ∙ round_from_part part whole seen p (part.tasks n) 0 n

-- what a net has run out to that is seen in the other machine
out_from : {N M : Type 0} (part : Machine N) (whole : Machine M) (seen : N → M) → IsPart part whole seen → (n : N) (m end : M) → m ≡ seen n → RunsOut whole m end
    → (e : N) × (end ≡ seen e) × RunsOut part n e
out_from part whole seen p n _ _ same (at_end net ended) =
    (n, same, at_end n (sym (is_over_part part whole seen p n) ∙ ap (is_over whole) (sym same) ∙ ended))
out_from part whole seen p n _ _ same (one_round net end going later) =
    let on = out_from part whole seen p (round part n) (round whole net) end (ap (round whole) same ∙ round_part part whole seen p n) later in
    (on.0, on.1, one_round n on.0 (sym (is_over_part part whole seen p n) ∙ ap (is_over whole) (sym same) ∙ going) on.2)

pub runs_out_part : {N M : Type 0} (part : Machine N) (whole : Machine M) (seen : N → M) → IsPart part whole seen → (n : N) (end : M) → RunsOut whole (seen n) end
    → (e : N) × (end ≡ seen e) × RunsOut part n e
runs_out_part part whole seen p n end out = out_from part whole seen p n (seen n) end refl out
