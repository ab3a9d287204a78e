-- A store that is settled from what the tasks of stages saw is the one that one thread leaves.
use Rattle.std.proofs.Common.{◌≡◌, ℕ, ◌+◌, ◌<◌, true, ℤ, pos, List, [], length, map, refl, sym, ap, ◌∙◌, arith}
use Rattle.std.specs.Prelude.{Some, None}
use Rattle.std.specs.declared.option.Option.{Option}
use Rattle.std.proofs.lemmas.List.{ext_get_or}
use Rattle.nona_num.specs.declared.folds.Fold.{Fold}
use Rattle.nona_tree.specs.declared.plans.Plan.{Plan}
use Rattle.nona_tree.specs.Entries.{Entry, after}
use Rattle.nona_tree.specs.Memory.{Memory, scalar_at, cells_of, cell_at}
use Rattle.nona_tree.specs.Run.{done}
use Rattle.nona_plans.specs.Mentions.{reduction_of}
use Rattle.nona_plans.specs.Units.{reductions_of}
use Rattle.nona_fission.proofs.Tasks.{as_done}
use Rattle.nona_fission.specs.Fission.{Fission, MayBeApart}
use Rattle.nona_fission.proofs.Left.{thread_ends, depth_left, arrays_left, sizes_left}
use Rattle.net_flow.specs.Machines.{is_over}
use Rattle.net_flow.specs.Net.{Task, Net, net_machine}
use Rattle.net_share.proofs.Listed.{listed, is_listed}
use Rattle.net_pipe.specs.Entries.{MayPipe, IsPipeNet, pipe_work}
use Rattle.net_pipe.specs.Settled.{IsSettledFromStages}
use Rattle.net_pipe.specs.Works.{Values}
use Rattle.net_pipe.proofs.ReductionsJoined.{reduction_settles}
use Rattle.net_pipe.proofs.Seen.{granted_part, granted_may}
use Rattle.net_pipe.proofs.SettledPlaces.{scalar_settles, cell_settles, printed_settles}

none_and_some : (f : Fold) → Some f ≡ None → ⊥
none_and_some f e = cc

same_cells : (m k : Memory) (a : ℕ) → length (cells_of m a) ≡ length (cells_of k a) → ((q : ℕ) → cell_at m a q ≡ cell_at k a q) → cells_of m a ≡ cells_of k a
same_cells m k a size each = ext_get_or (pos 0) (cells_of m a) (cells_of k a) size (λ q below. each q)

same_store : (m k : Memory) → m.scalars ≡ k.scalars → m.arrays ≡ k.arrays → m.printed ≡ k.printed → m ≡ k
same_store m k scalars arrays printed = λ i. record { scalars = scalars i; arrays = arrays i; printed = printed i }

module _ (e : Entry) (p : Plan) (W c first limit : ℕ) (h : MayPipe e p W c first limit) (net : Net Values (List ℤ)) (here : IsPipeNet e p W c first limit net)
    (over : is_over (net_machine (pipe_work e p W c first)) net ≡ true) (m : Memory)
    (settled : IsSettledFromStages (after e first).store (reductions_of e.looped) (map (λ (x : Task Values). x.values.store) net.tasks) m) where
  abbrev behind : Memory
  behind = (after e (first + net.granted)).store

  abbrev part : Fission
  part = granted_part e p W c first limit h net here over 0

  may : MayBeApart (granted_part e p W c first limit h net here over 0)
  may = granted_may e p W c first limit h net here over 0

  scalar_is : (x : ℕ) → x < length m.scalars → (o : Option Fold) → reduction_of e.looped x ≡ o → scalar_at m x ≡ scalar_at behind x
  scalar_is x below None none =
      let depth = settled.depth in
      let within : x < length (after e first).store.scalars = omega (arith, below, depth) in
      settled.scalars x within (λ f inside. none_and_some f (sym (listed e.looped f x inside) ∙ none)) ∙ scalar_settles e p W c first limit h net here over x within none
  scalar_is x below (Some f) reduced =
      settled.reduced x f (is_listed e.looped f x reduced) ∙ reduction_settles e p W c first limit h net here over x f reduced

  settled_is_behind : m ≡ behind
  settled_is_behind =
      same_store m behind
      (ext_get_or (pos 0) m.scalars behind.scalars (settled.depth ∙ sym (depth_left part may)) (λ x below. scalar_is x below (reduction_of e.looped x) refl))
      (ext_get_or [] m.arrays behind.arrays (settled.arrays ∙ sym (arrays_left part may))
      (λ a below. same_cells m behind a (settled.sizes a ∙ sym (sizes_left part may a)) (λ q. settled.cells a q ∙ cell_settles e p W c first limit h net here over a q)))
      (settled.printed ∙ printed_settles e p W c first limit h net here over)

  pub stages_settle : after e (first + net.granted) ≡ done m
  stages_settle = as_done (after e (first + net.granted)) (thread_ends part may) ∙ ap done (sym settled_is_behind)
