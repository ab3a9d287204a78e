-- The test by the greatest unit between is the same as a walk.
use Rattle.std.proofs.Common.{◌≡◌, ℕ, zero, suc, ◌≤◌, ◌==◌, ◌&&◌, ◌||◌, Bool, true, false, List, refl, subst, arith, ◌↔◌}
use Rattle.nona_plans.specs.Walks.{Walk, stays, goes, AreBetween, has_edge, leads_through, leads}

pub same_units : (i j : ℕ) → (i == j) ≡ true → i ≡ j
same_units i j e = grind arith

pub data Either (A B : Type 0) : Type 0 where
  left : A → Either A B
  right : B → Either A B

pub either : (b c : Bool) → (b || c) ≡ true → Either (b ≡ true) (c ≡ true)
either true c e = left refl
either false c e = right e

pub both : (b c : Bool) → (b && c) ≡ true → (b ≡ true) × (c ≡ true)
both true c e = (refl, e)
both false c e = cc

pub or_left : (b c : Bool) → b ≡ true → (b || c) ≡ true
or_left true c e = refl
or_left false c e = cc

pub or_right : (b c : Bool) → c ≡ true → (b || c) ≡ true
or_right true c e = refl
or_right false c e = e

pub and_both : (b c : Bool) → b ≡ true → c ≡ true → (b && c) ≡ true
and_both true c e h = h
and_both false c e h = cc

-- walks follow one another
pub joined : {edges : List (ℕ × ℕ)} (i j k : ℕ) → Walk edges i j → Walk edges j k → Walk edges i k
joined i j k (stays x) v = v
joined i j k (goes x y z e w) v = goes i y k e (joined y j k w v)

-- a unit leads to itself, and along an edge
pub leads_self : (edges : List (ℕ × ℕ)) (k i : ℕ) → leads_through edges k i i ≡ true
leads_self edges zero i = or_left (i == i) (has_edge edges i i) (grind arith)
leads_self edges (suc k) i = or_left (leads_through edges k i i) _ (leads_self edges k i)

pub leads_edge : (edges : List (ℕ × ℕ)) (k i j : ℕ) → has_edge edges i j ≡ true → leads_through edges k i j ≡ true
leads_edge edges zero i j e = or_right (i == j) (has_edge edges i j) e
leads_edge edges (suc k) i j e = or_left (leads_through edges k i j) _ (leads_edge edges k i j e)

-- over one more unit
over : (edges : List (ℕ × ℕ)) (k i j : ℕ) → leads_through edges k i (suc k) ≡ true → leads_through edges k (suc k) j ≡ true → leads_through edges (suc k) i j ≡ true
over edges k i j e h = or_right (leads_through edges k i j) _ (and_both (leads_through edges k i (suc k)) (leads_through edges k (suc k) j) e h)

less : (edges : List (ℕ × ℕ)) (k i j : ℕ) → leads_through edges k i j ≡ true → leads_through edges (suc k) i j ≡ true
less edges k i j e = or_left (leads_through edges k i j) _ e

-- to the new unit, and from it, nothing is new
absorb_right : (a b : Bool) → (a || (a && b)) ≡ true → a ≡ true
absorb_right true b e = refl
absorb_right false b e = e

absorb_left : (a b : Bool) → (a || (b && a)) ≡ true → a ≡ true
absorb_left true b e = refl
absorb_left false true e = e
absorb_left false false e = e

-- from i over m to j, where p is the new unit: each way may or may not go over p
ways : (im ip pm mj mp pj ij : Bool) → (im ≡ true → mj ≡ true → ij ≡ true) → (im ≡ true → mp ≡ true → ip ≡ true) → (pm ≡ true → mj ≡ true → pj ≡ true)
    → (im || (ip && pm)) ≡ true → (mj || (mp && pj)) ≡ true → (ij || (ip && pj)) ≡ true
ways true ip pm true mp pj ij h k l e f = or_left ij _ (h refl refl)
ways true ip pm false mp pj ij h k l e f = let b = both mp pj f in or_right ij _ (and_both ip pj (k refl b.0) b.1)
ways false ip pm true mp pj ij h k l e f = let b = both ip pm e in or_right ij _ (and_both ip pj b.0 (l b.1 refl))
ways false ip pm false mp pj ij h k l e f = or_right ij _ (and_both ip pj (both ip pm e).0 (both mp pj f).1)

-- a unit up to k that both ways meet at is no detour
abbrev pub Meets : List (ℕ × ℕ) → ℕ → Type 0
Meets edges k = (m i j : ℕ) → 1 ≤ m → m ≤ k → leads_through edges k i m ≡ true → leads_through edges k m j ≡ true → leads_through edges k i j ≡ true

meeting_at : (edges : List (ℕ × ℕ)) (k m i j : ℕ) (is : Bool) → (m == suc k) ≡ is → Meets edges k → 1 ≤ m → m ≤ suc k → leads_through edges (suc k) i m ≡ true → leads_through edges (suc k) m j ≡ true
    → leads_through edges (suc k) i j ≡ true
meeting_at edges k m i j true is prior a b e f =
    let same : m ≡ suc k = same_units m (suc k) is in
    over edges k i j
    (absorb_right (leads_through edges k i (suc k)) (leads_through edges k (suc k) (suc k)) (subst (λ x. leads_through edges (suc k) i x ≡ true) same e))
    (absorb_left (leads_through edges k (suc k) j) (leads_through edges k (suc k) (suc k)) (subst (λ x. leads_through edges (suc k) x j ≡ true) same f))
meeting_at edges k m i j false is prior a b e f =
    let small : m ≤ k = grind (arith, is, b) in
    ways (leads_through edges k i m) (leads_through edges k i (suc k)) (leads_through edges k (suc k) m) (leads_through edges k m j) (leads_through edges k m (suc k)) (leads_through edges k (suc k) j) (leads_through edges k i j)
    (λ x y. prior m i j a small x y) (λ x y. prior m i (suc k) a small x y) (λ x y. prior m (suc k) j a small x y) e f

pub meeting : (edges : List (ℕ × ℕ)) (k : ℕ) → Meets edges k
meeting edges zero m i j a b e f = absurd (omega (arith, a, b))
meeting edges (suc k) m i j a b e f = meeting_at edges k m i j (m == suc k) refl (meeting edges k) a b e f

-- a walk is found
pub leads_walk : (edges : List (ℕ × ℕ)) (n i j : ℕ) → AreBetween n edges → Walk edges i j → leads edges n i j ≡ true
leads_walk edges n i j h (stays x) = leads_self edges n x
leads_walk edges n i j h (goes x y z e w) =
    meeting edges n y x z (h x y e).1.0 (h x y e).1.1 (leads_edge edges n x y e) (leads_walk edges n y z h w)

-- and what is found is a walk
walk_first : (edges : List (ℕ × ℕ)) (i j : ℕ) (same : Bool) → (i == j) ≡ same → (same || has_edge edges i j) ≡ true → Walk edges i j
walk_first edges i j true is e = subst (λ x. Walk edges i x) (same_units i j is) (stays i)
walk_first edges i j false is e = goes i j j e (stays j)

walk_over : {edges : List (ℕ × ℕ)} (i j p : ℕ) (ij ip pj : Bool) → (ij ≡ true → Walk edges i j) → (ip ≡ true → Walk edges i p) → (pj ≡ true → Walk edges p j) → (ij || (ip && pj)) ≡ true → Walk edges i j
walk_over i j p true ip pj h k l e = h refl
walk_over i j p false ip pj h k l e = let b = both ip pj e in joined i p j (k b.0) (l b.1)

pub walk_leads : (edges : List (ℕ × ℕ)) (n i j : ℕ) → leads_through edges n i j ≡ true → Walk edges i j
walk_leads edges zero i j e = walk_first edges i j (i == j) refl e
walk_leads edges (suc k) i j e =
    walk_over i j (suc k) (leads_through edges k i j) (leads_through edges k i (suc k)) (leads_through edges k (suc k) j)
    (λ x. walk_leads edges k i j x) (λ x. walk_leads edges k i (suc k) x) (λ x. walk_leads edges k (suc k) j x) e

pub leads_is_walk : (edges : List (ℕ × ℕ)) (n i j : ℕ) → AreBetween n edges → (leads edges n i j ≡ true) ↔ Walk edges i j
leads_is_walk edges n i j h = (walk_leads edges n i j, leads_walk edges n i j h)
