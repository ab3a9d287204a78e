-- A small loop whose iterations may go through the stages of its plan, and its net at the end.
use Rattle.std.proofs.Common.{◌≡◌, ◌≢◌, ℕ, zero, suc, ◌<◌, pos, [], ◌∷◌, List, map, true, false, ℤ, refl, subst, arith}
use Rattle.std.proofs.lemmas.Int.{ints}
use Rattle.std.proofs.lemmas.List.Elements.{All-nil, All-from_recursion}
use Rattle.nona_tree.specs.declared.names.Use.{Use}
use Rattle.nona_tree.specs.declared.plans.Plan.{Plan}
use Rattle.nona_tree.specs.declared.trees.Expr.{Number, Scalar}
use Rattle.nona_tree.specs.declared.trees.Loop.{Loop}
use Rattle.nona_tree.specs.declared.trees.Stmt.{Let, Print, For}
use Rattle.nona_tree.specs.declared.trees.Stmt.TheBlock.{hidden-the_row-Stmt-0}
use denote.Hole.Carrier.{hidden}
use Rattle.nona_tree.specs.Entries.{Entry}
use Rattle.nona_tree.specs.Numbers.{AreCells, AreI64, IsI64, IsI64Stmt}
use Rattle.nona_tree.specs.Scope.{IsScoped, IsSteady}
use Rattle.nona_forms.specs.Calm.{is_calm}
use Rattle.nona_forms.specs.Guards.{guard_of}
use Rattle.nona_forms.specs.Separate.{IsLoopEntry}
use Rattle.nona_plans.specs.Plans.{IsLawfulPlan, plan_of}
use Rattle.nona_plans.proofs.PlanLaws.{lawful}
use Rattle.net_flow.specs.Machines.{is_over, round}
use Rattle.net_flow.specs.Net.{Task, Net, net_machine, moves_of}
use Rattle.net_pipe.specs.Entries.{MayPipe, pipe_net, pipe_work}
use Rattle.net_pipe.specs.Works.{Values}

named : ℕ → Use
named id = record { text = []; at = 0; id = id }

-- for i in 0..5 { let x = i; print x; }, where i has the id 0 and x 1
looped : Loop
looped = record {
  index = named 0;
  low = Number (pos 0);
  high = Number (pos 5);
  body = Let (named 1) (Scalar (named 0)) ∷ Print (Scalar (named 1)) 0 ∷ [];
  seq = false;
  at = 0;
}

entry : Entry
entry = record { looped = looped; store = record { scalars = []; arrays = [] ∷ []; printed = [] }; low = pos 0; last = pos 5; turns = 100 }

-- an empty stage that is sequential, a parallel one that declares the local, and a sequential one that prints it
staged : Plan
staged = record {
  any = false;
  pipe = record { sequential = true; units = [] } ∷ record { sequential = false; units = 1 ∷ [] } ∷ record { sequential = true; units = 2 ∷ [] } ∷ [];
  crossing = [] ∷ (1 ∷ []) ∷ [];
}

its_plan : plan_of looped ≡ staged
unfolding looped named staged
its_plan = refl

calm : is_calm looped ≡ true
unfolding looped named
calm = refl

guarded : guard_of looped entry.store (pos 0) (pos 5) 100 ≡ true
unfolding looped named entry
guarded = refl

small : (k : ℕ) → k < 200 → IsI64 (pos k)
small k h = omega (arith, ints, h)

store_numbers : AreI64 entry.store
unfolding entry
store_numbers = record {
  scalars = All-nil IsI64;
  arrays = All-from_recursion AreCells ([] ∷ []) ((omega arith, All-nil IsI64), tt);
  printed = All-nil IsI64;
}

written : IsI64Stmt (For looped)
unfolding looped named hidden-the_row-Stmt-0 hidden
written = (small 0 (omega arith), small 5 (omega arith), (tt, (tt, tt)))

scoped : IsScoped (For looped) 0 1
unfolding looped named hidden-the_row-Stmt-0 hidden
scoped = (refl, tt, tt, ((refl, omega arith), (omega arith, tt)))

steady : IsSteady (For looped) []
unfolding looped named hidden-the_row-Stmt-0 hidden
steady = (tt, (tt, tt))

entered : IsLoopEntry looped entry.store (pos 0) (pos 5)
unfolding looped entry
entered = record {
  numbers = store_numbers;
  written = written;
  scoped = scoped;
  begins = refl;
  ends = (pos 5, refl, λ some. omega (arith, ints));
}

has_stages : staged.pipe ≢ []
unfolding staged
has_stages e = cc

-- the iterations may go through these stages, with two workers and room for one packet
may_pipe : MayPipe entry staged 2 1 0 5
unfolding entry
may_pipe = record {
  entered = entered;
  steady = steady;
  calm = calm;
  guarded = guarded;
  lawful = subst (IsLawfulPlan looped) its_plan (lawful looped);
  staged = has_stages;
  some_worker = omega arith;
  some_room = omega arith;
  within = omega (arith, ints);
}

-- so many rounds of all tasks
rounds : ℕ → Net Values (List ℤ) → Net Values (List ℤ)
rounds zero net = net
rounds (suc n) net = rounds n (round (net_machine (pipe_work entry staged 2 1 0)) net)

at_end : Net Values (List ℤ)
at_end = rounds 20 (pipe_net entry staged 2 1 0 3)

-- three iterations are over
over : is_over (net_machine (pipe_work entry staged 2 1 0)) at_end ≡ true
unfolding at_end rounds entry staged looped named
over = refl

-- and the last task has printed
printed : map (λ (x : Task Values). x.values.store.printed) at_end.tasks ≡ [] ∷ [] ∷ [] ∷ (pos 0 ∷ pos 1 ∷ pos 2 ∷ []) ∷ []
unfolding at_end rounds entry staged looped named
printed = refl

moved : moves_of at_end ≡ 30
unfolding at_end rounds entry staged looped named
moved = refl
