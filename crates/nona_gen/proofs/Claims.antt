-- What may be claimed of the code of statements: that it runs as they do, with their deeds, or that it stops at their regions.
use Rattle.std.proofs.Common.{◌≡◌, ℕ, ◌+◌, ◌≤◌, Bool, true, false, if◌then◌else◌, ℤ, List, [], ◌++◌, length, Some, refl, subst, arith}
use Rattle.std.specs.Prelude.{slice_get, Ok}
use Rattle.nona_tree.specs.declared.trees.Expr.{Expr}
use Rattle.nona_tree.specs.declared.outcomes.Outcome.TheVariants as outcome
use Rattle.nona_tree.specs.Memory.{Memory, cut_to}
use Rattle.nona_tree.specs.Value.{value_of}
use Rattle.nona_tree.specs.Run.{Ran, done, starved, with_value, then_from, then_do}
use Rattle.nona_tree.specs.Beside.{on_ok, on_end, on_done}
use Rattle.nona_tree.specs.Deeds.{Deed, value_deeds}
use Rattle.nona_code.specs.declared.instr.Instr.{Instr}
use Rattle.nona_code.specs.declared.instr.Instr.TheVariants as instr
use Rattle.nona_code.specs.Machine.{State}
use Rattle.nona_code.proofs.Placed.{Stands}
use Rattle.nona_code.proofs.Traces.{ComesIn, EndsIn, most, Gives}
use Rattle.nona_gen.specs.Code.{leave_code}
use Rattle.nona_gen.proofs.Values.{at}
use Rattle.nona_gen.proofs.Lands.{nothing_more, Kept, Around, RunsIn, lands, runs_wider, runs_on, runs_value, runs_next, runs_leave, runs_jump, to_place, deeper, cut_twice}

module _ (code : List Instr) (n : ℕ) where
  -- what is claimed of code that runs from a state to a place in no more than so many steps, and what a statement gives there;
  -- and how such claims follow from one another
  pub record Claims (B : Type 0) : Type 1 where
    pub claim : ℕ → State → Around → List B → Ran → Type 0
    -- what an expression gives
    pub noted : Expr → Memory → List B
    -- code that does nothing that counts
    pub plain : (b : ℕ) (s : State) (x : Around) (r : Ran) → RunsIn code n b s x [] r → claim b s x [] r
    pub wider : (a b : ℕ) (s : State) (x : Around) (es : List B) (r : Ran) → a ≤ b → claim a s x es r → claim b s x es r
    -- what comes behind some steps
    pub on : (a b : ℕ) (s t : State) (x : Around) (es : List B) (r : Ran) → ComesIn code n a s [] t → Kept x.depth s t → claim b t x es r → claim (a + b) s x es r
    -- what comes behind a value
    pub value : (a b : ℕ) (s : State) (x : Around) (e : Expr) (m : Memory) (go : ℤ → Ran) (es : ℤ → List B) (next : ℤ → State)
        → Gives code n a s (value_of e m) (value_deeds e m) (cut_to x.keep m) next → ((v : ℤ) → value_of e m ≡ Ok v → Kept x.depth s (next v)) → ((v : ℤ) → value_of e m ≡ Ok v → claim b (next v) x (es v) (go v))
        → claim (most n a + b) s x (noted e m ++ on_ok (value_of e m) es) (with_value (value_of e m) m go)
    -- a run to a place behind which w is taken for its store, and another run from there
    pub after : (a b d : ℕ) (s : State) (x : Around) (q : ℕ) (w : Memory) (es : List B) (r : Ran) (gs : Memory → List B) (go : Memory → Ran)
        → x.depth ≤ d → cut_to x.keep w ≡ cut_to x.keep r.store → claim a s (record x { depth = d; to = q }) es r
        → ((h : List ℤ) (k : List ℕ) → Kept d s (at q x.stack h k r.store) → r.end ≡ outcome.Done → claim b (at q x.stack h k r.store) x (gs w) (go w))
        → claim (a + b) s x (es ++ on_end w r.end gs) (then_from w r.end go)
    -- a block, which leaves its scalars
    pub leave : (a : ℕ) (s : State) (x : Around) (q L lets : ℕ) (es : List B) (r : Ran)
        → claim a s (to_place q x) es r → (r.end ≡ outcome.Done → length r.store.scalars ≡ L + lets) → x.keep ≤ L → q + length (leave_code lets) ≡ x.to → Stands code q (leave_code lets)
        → claim (a + most n (length (leave_code lets))) s x es (record { store = cut_to L r.store; end = r.end })
    -- a jump behind a run
    pub jump : (a : ℕ) (s : State) (x : Around) (q : ℕ) (es : List B) (r : Ran) → claim a s (to_place q x) es r → slice_get code q ≡ Some (instr.Jump x.to) → claim (a + most n 1) s x es r

  -- code that runs as statements do, with their deeds
  abbrev pub runs_claims : Claims Deed
  runs_claims = record {
    claim = RunsIn code n;
    noted = value_deeds;
    plain = λ b s x r h. h;
    wider = runs_wider code n;
    on = λ a b s t x es r c kept h. runs_on code n a b s t x [] es r c kept h;
    value = λ a b s x e m go es next g kept h. runs_value code n a b s x (value_of e m) m go (value_deeds e m) es next g kept h;
    after = runs_next code n;
    leave = runs_leave code n;
    jump = runs_jump code n;
  }

module _ (code : List Instr) (n : ℕ) {B : Type 0} (claims : Claims code n B) where
  pub claim_as : (b : ℕ) (s : State) (x : Around) (es fs : List B) (r q : Ran) → es ≡ fs → r ≡ q → claims.claim b s x es r → claims.claim b s x fs q
  claim_as b s x es fs r q e g h = subst (λ l. claims.claim b s x l q) e (subst (λ y. claims.claim b s x es y) g h)

  pub claim_to : (b : ℕ) (s : State) (x : Around) (q : ℕ) (es : List B) (r : Ran) → x.to ≡ q → claims.claim b s x es r → claims.claim b s (to_place q x) es r
  claim_to b s x q es r e h = subst (λ j. claims.claim b s (to_place j x) es r) e h

  -- it is there, and nothing was done
  pub claim_lands : (b : ℕ) (s : State) (x : Around) (h : List ℤ) (k : List ℕ) (m : Memory) → Kept x.depth s (at x.to x.stack h k m) → ComesIn code n b s [] (at x.to x.stack h k m) → claims.claim b s x [] (done m)
  claim_lands b s x h k m kept comes = claims.plain b s x (done m) (lands code n b s x [] h k m kept comes)

  -- it is out of turns
  pub claim_starved : (b : ℕ) (s : State) (x : Around) (a : ℕ) (m : Memory) → EndsIn code n b s [] (starved a (cut_to x.keep m)) → claims.claim b s x [] (starved a m)
  claim_starved b s x a m ends = claims.plain b s x (starved a m) ends

  -- a value, behind which nothing more is done
  pub claim_quiet : (a b : ℕ) (s : State) (x : Around) (e : Expr) (m : Memory) (go : ℤ → Ran) (next : ℤ → State)
      → Gives code n a s (value_of e m) (value_deeds e m) (cut_to x.keep m) next → ((v : ℤ) → value_of e m ≡ Ok v → Kept x.depth s (next v)) → ((v : ℤ) → value_of e m ≡ Ok v → claims.claim b (next v) x [] (go v))
      → claims.claim (most n a + b) s x (claims.noted e m) (with_value (value_of e m) m go)
  claim_quiet a b s x e m go next g kept h =
      claim_as _ s x _ (claims.noted e m) _ _ (nothing_more (value_of e m) (claims.noted e m)) refl (claims.value a b s x e m go (λ v. []) next g kept h)

  pub claim_if : (b : ℕ) (s : State) (x : Around) (c : Bool) (es fs : List B) (r q : Ran) → (c ≡ true → claims.claim b s x es r) → (c ≡ false → claims.claim b s x fs q) → claims.claim b s x (if c then es else fs) (if c then r else q)
  claim_if b s x true es fs r q h g = h refl
  claim_if b s x false es fs r q h g = g refl

  -- two ways to give the same
  pub claim_either : (b : ℕ) (s : State) (x : Around) (c : Bool) (es : List B) (r q : Ran) → (c ≡ true → claims.claim b s x es r) → (c ≡ false → claims.claim b s x es q) → claims.claim b s x es (if c then r else q)
  claim_either b s x true es r q h g = h refl
  claim_either b s x false es r q h g = g refl

  -- one of two places
  pub claim_branch : (b u v : ℕ) (st h : List ℤ) (k : List ℕ) (m : Memory) (x : Around) (c : Bool) (es : List B) (r : Ran)
      → (c ≡ true → claims.claim b (at u st h k m) x es r) → (c ≡ false → claims.claim b (at v st h k m) x es r) → claims.claim b (at (if c then u else v) st h k m) x es r
  claim_branch b u v st h k m x true es r f g = f refl
  claim_branch b u v st h k m x false es r f g = g refl

  -- one run after another
  pub claim_then : (a b : ℕ) (s : State) (x : Around) (q : ℕ) (es : List B) (r : Ran) (gs : Memory → List B) (go : Memory → Ran)
      → claims.claim a s (to_place q x) es r
      → ((h : List ℤ) (k : List ℕ) → Kept x.depth s (at q x.stack h k r.store) → r.end ≡ outcome.Done → claims.claim b (at q x.stack h k r.store) x (gs r.store) (go r.store))
      → claims.claim (a + b) s x (es ++ on_done r gs) (then_do r go)
  claim_then a b s x q es r gs go first next = claims.after a b x.depth s x q r.store es r gs go (omega arith) refl first next

  -- a turn, and then the turns that are left
  pub claim_turn : (a b : ℕ) (s : State) (x : Around) (q : ℕ) (es : List B) (r : Ran) (gs : Memory → List B) (go : Memory → Ran)
      → claims.claim a s (deeper q x) es r
      → ((h : List ℤ) (k : List ℕ) → Kept (x.depth + 1) s (at q x.stack h k r.store) → r.end ≡ outcome.Done → claims.claim b (at q x.stack h k r.store) x (gs r.store) (go r.store))
      → claims.claim (a + b) s x (es ++ on_done r gs) (then_do r go)
  claim_turn a b s x q es r gs go first next = claims.after a b (x.depth + 1) s x q r.store es r gs go (omega arith) refl first next

  -- a turn whose scalars the code has not left yet, and then the turns that are left
  pub claim_cut : (a b : ℕ) (s : State) (x : Around) (q L : ℕ) (es : List B) (r : Ran) (gs : Memory → List B) (go : Memory → Ran)
      → claims.claim a s (deeper q x) es r → x.keep ≤ L
      → ((h : List ℤ) (k : List ℕ) → Kept (x.depth + 1) s (at q x.stack h k r.store) → r.end ≡ outcome.Done → claims.claim b (at q x.stack h k r.store) x (gs (cut_to L r.store)) (go (cut_to L r.store)))
      → claims.claim (a + b) s x (es ++ on_end (cut_to L r.store) r.end gs) (then_from (cut_to L r.store) r.end go)
  claim_cut a b s x q L es r gs go first le next = claims.after a b (x.depth + 1) s x q (cut_to L r.store) es r gs go (omega arith) (cut_twice x.keep L r.store le) first next
