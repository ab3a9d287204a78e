-- Units that a task skips.
use Rattle.std.proofs.Common.{◌≡◌, ◌<◌, ◌≤◌, ◌+◌, ◌-◌, ℕ, zero, suc, Bool, true, false, if◌then◌else◌, refl, sym, ap, ◌∙◌, arith, ℤ, List, [], ◌∷◌, length, take, drop}
use Rattle.nona_fission.specs.Fission.{skipped}
use Rattle.nona_fission.proofs.Units.{skipped_depth}
use Rattle.net_share.proofs.UnitRuns.{one_more}
use Rattle.nona_store.specs.Shares.{ShareView, shared}
use Rattle.nona_tree.specs.declared.trees.Stmt.{Stmt, Let, Set, Fold, Put, FoldPut, If', While', For', Print}
use Rattle.nona_tree.specs.Memory.{Memory, declare}
use Rattle.nona_tree.specs.Scope.{is_let}
use Rattle.nona_units.specs.Units.{is_let_at}
use Rattle.net_pipe.specs.Works.{Staging, received_in, skipped_all, skips, value_for}
use Rattle.net_pipe.specs.Tasks.{TaskView, HasSkipped, skipped_here, skipped_first}

-- what becomes of a store where one unit is skipped
if_let : (locals : ℕ → ℤ) (s : Stmt) (m : Memory) → skipped locals s m ≡ (if is_let s then declare (locals (length m.scalars)) m else m)
if_let locals (Let x e) m = refl
if_let locals (Set x e) m = refl
if_let locals (Fold x f e) m = refl
if_let locals (Put c e) m = refl
if_let locals (FoldPut c f e) m = refl
if_let locals (If' t p a r b) m = refl
if_let locals (While' t p b at) m = refl
if_let locals (For' x a b p body seq at) m = refl
if_let locals (Print e at) m = refl

pub one_skipped : (locals : ℕ → ℤ) (body : List Stmt) (at : ℕ) (m : Memory) (b : Bool) → at < length body → is_let_at body at ≡ b
    → skipped_here locals (drop at body) m ≡ (if b then declare (locals (length m.scalars)) m else m)
one_skipped locals [] at m b within is = absurd (omega (arith, within))
one_skipped locals (s ∷ body) zero m b within is = if_let locals s m ∙ ap (λ (q : Bool). if q then declare (locals (length m.scalars)) m else m) is
one_skipped locals (s ∷ body) (suc at) m b within is = one_skipped locals body at m b (omega (arith, within)) is

-- a unit that declares a local, which has this value, and another one
pub let_skipped : (g : Staging) (at : ℕ) (x : TaskView) (share : ShareView) (v : ℤ) → at < length g.body → is_let_at g.body at ≡ true
    → v ≡ value_for (received_in g x.stage) x.held (length x.share.scalars) → ((m : Memory) → shared m share ≡ declare v (shared m x.share))
    → share.room ≡ x.share.room → HasSkipped (skipped_first g at x) x (record x { share = share })
let_skipped g at x share v within is value declared same = record {
  rest = refl;
  store = λ m.
      declared m ∙ ap (λ (z : ℤ). declare z (shared m x.share)) value
      ∙ sym (one_skipped (value_for (received_in g x.stage) x.held) g.body at (shared m x.share) true within is);
  reserved = same;
}

pub other_skipped : (g : Staging) (at : ℕ) (x : TaskView) → at < length g.body → is_let_at g.body at ≡ false → HasSkipped (skipped_first g at x) x x
other_skipped g at x within is = record {
  rest = refl;
  store = λ m. sym (one_skipped (value_for (received_in g x.stage) x.held) g.body at (shared m x.share) false within is);
  reserved = refl;
}

-- a unit that is skipped declares one local at most
skipped_more : (locals : ℕ → ℤ) (ss : List Stmt) (m : Memory) → length (skipped_here locals ss m).scalars ≤ length m.scalars + 1
skipped_more locals [] m = omega arith
skipped_more locals (s ∷ rest) m = let depth = skipped_depth locals s m in let few = one_more s (length m.scalars) in omega (arith, depth, few)

skips_one : (g : Staging) (at : ℕ) (now next : TaskView) → HasSkipped (skipped_first g at now) now next → length next.share.scalars ≤ length now.share.scalars + 1
skips_one g at now next h =
    let m : Memory = record { scalars = []; arrays = []; printed = [] } in
    let same = ap (λ (r : Memory). length r.scalars) (h.store m) in
    let few = skipped_more (value_for (received_in g now.stage) now.held) (drop at g.body) (shared m now.share) in
    omega (arith, same, few)

-- one more unit is skipped
skip_on : (locals : ℕ → ℤ) (body : List Stmt) (at to : ℕ) (m : Memory) → at < to → at < length body
    → skipped_all locals (take (to - at) (drop at body)) m ≡ skipped_all locals (take (to - (at + 1)) (drop (at + 1) body)) (skipped_here locals (drop at body) m)
skip_on locals [] at to m below within = absurd (omega (arith, within))
skip_on locals (s ∷ body) zero to m below within =
    ap (λ (k : ℕ). skipped_all locals (take k (s ∷ body)) m) (let e : to - 0 ≡ suc (to - 1) = omega (arith, below) in e)
skip_on locals (s ∷ body) (suc at) to m below within =
    ap (λ (k : ℕ). skipped_all locals (take k (drop at body)) m) (let e : to - suc at ≡ (to - 1) - at = omega arith in e)
    ∙ skip_on locals body at (to - 1) m (omega (arith, below)) (omega (arith, within))
    ∙ ap (λ (k : ℕ). skipped_all locals (take k (drop (at + 1) body)) (skipped_here locals (drop at body) m)) (let e : (to - 1) - (at + 1) ≡ to - (suc at + 1) = omega arith in e)
    ∙ ap (λ (k : ℕ). skipped_all locals (take (to - (suc at + 1)) (drop k (s ∷ body))) (skipped_here locals (drop at body) m)) (let e : suc (at + 1) ≡ suc at + 1 = omega arith in e)

-- nothing is skipped where none is left
none_left : (locals : ℕ → ℤ) (ss : List Stmt) (n : ℕ) (m : Memory) → n ≡ 0 → skipped_all locals (take n ss) m ≡ m
none_left locals ss n m e = ap (λ (k : ℕ). skipped_all locals (take k ss) m) e

-- what is left to be skipped, of the units from one number up to another, for each of which there is room
pub record SkipsOn (g : Staging) (from to at : ℕ) (old now : TaskView) : Type 0 where
  pub rest : now ≡ record old { share = now.share }
  pub left : (m : Memory) → skips g old.stage old.held (take (to - at) (drop at g.body)) (shared m now.share)
      ≡ skips g old.stage old.held (take (to - from) (drop from g.body)) (shared m old.share)
  pub reserved : now.share.room ≡ old.share.room
  pub room : length now.share.scalars + (to - at) ≤ now.share.room

pub skips_begin : (g : Staging) (from to : ℕ) (x : TaskView) → length x.share.scalars + (to - from) ≤ x.share.room → SkipsOn g from to from x x
skips_begin g from to x room = record { rest = refl; left = λ m. refl; reserved = refl; room = room }

pub skips_more : (g : Staging) (from to at : ℕ) (old now next : TaskView) → at < to → to ≤ length g.body → SkipsOn g from to at old now
    → HasSkipped (skipped_first g at now) now next → SkipsOn g from to (at + 1) old next
skips_more g from to at old now next below within on h = record {
  rest = h.rest ∙ ap (λ (x : TaskView). let y : TaskView = record x { share = next.share } in y) on.rest;
  left = λ m.
      let locals = value_for (received_in g old.stage) old.held in
      let same : value_for (received_in g now.stage) now.held ≡ locals = ap (λ (x : TaskView). value_for (received_in g x.stage) x.held) on.rest in
      ap (skipped_all locals (take (to - (at + 1)) (drop (at + 1) g.body)))
      (h.store m ∙ ap (λ (f : ℕ → ℤ). skipped_here f (drop at g.body) (shared m now.share)) same)
      ∙ sym (skip_on locals g.body at to (shared m now.share) below (omega (arith, below, within)))
      ∙ on.left m;
  reserved = h.reserved ∙ on.reserved;
  room =
      let same = h.reserved in
      let room = on.room in
      let few = skips_one g at now next h in omega (arith, same, room, few, below);
}

-- the next one has room
pub skip_room : (g : Staging) (from to at : ℕ) (old now : TaskView) → at < to → SkipsOn g from to at old now → length now.share.scalars < now.share.room
skip_room g from to at old now below on = let room = on.room in omega (arith, room, below)

pub skips_end : (g : Staging) (from to at : ℕ) (old now : TaskView) → to ≤ at → SkipsOn g from to at old now
    → HasSkipped (skips g old.stage old.held (take (to - from) (drop from g.body))) old now
skips_end g from to at old now past on = record {
  rest = on.rest;
  store = λ m.
      sym (none_left (value_for (received_in g old.stage) old.held) (drop at g.body) (to - at) (shared m now.share) (omega (arith, past)))
      ∙ on.left m;
  reserved = on.reserved;
}
