-- Lemmas for callers: texts that go out to a sink one after another.
use Rattle.std.proofs.Common.{◌≡◌, ℕ, ◌+◌, ◌<◌, ◌≤◌, List, [], ◌∷◌, ◌++◌, length, take, drop, get_or, suc, ap, sym, ◌∙◌, subst, append_assoc, append-nil, arith, Ok, Err}
use Rattle.std.proofs.KnownBytes.{Appends-nil, Appends-trans}
use Rattle.std.proofs.lemmas.List.{take-append-drop, take_more}
use Rattle.std.proofs.lemmas.List.Concat.{flat_map-append}
use Rattle.std.proofs.Math.Seq.{drop-cons}
use Rattle.std.specs.List.{flat_map}
use Rattle.std.specs.declared.option.Option.{Option}
use Rattle.std.specs.declared.result.Result.{Result}
use Rattle.std.specs.Io.KnownBytes.{Appends}
use Rattle.fate_io.specs.Putting.{AppendsFront}
use Rattle.fate_io.specs.Sending.{Sent, Sends, BreaksOff}
use Rattle.fate_io.specs.declared.sending.SendFault.{SendFault}
use Rattle.fate_io.specs.declared.sending.SendFault.TheVariants.{WriteFailed, NoMemory}

-- a text went out whole, and then a front of the next one
front_behind : (a b c : Option (List ℕ)) (x y : List ℕ) → Appends a b x → AppendsFront b c y → AppendsFront a c (x ++ y)
front_behind a b c x y h k =
    (x ++ k.0, k.1, ap (λ (l : List ℕ). x ++ l) k.2 ∙ sym (append_assoc x k.0 k.1), Appends-trans a b c x k.0 h k.3)

-- a front of a text is a front of a longer one
front_of_more : (a b : Option (List ℕ)) (x y : List ℕ) → AppendsFront a b x → AppendsFront a b (x ++ y)
front_of_more a b x y h = (h.0, h.1 ++ y, ap (λ (l : List ℕ). l ++ y) h.2 ∙ append_assoc h.0 h.1 y, h.3)

-- a text went out whole, and then a second one with some result: both are sent with that result
pub sends_both : {T : Type 0} (a b c : Option (List ℕ)) (f g h : ℕ) (x y : List ℕ) (result : Result T SendFault)
    → Appends a b x → f ≤ g
    → Sends (record { before = b; after = c; faults_before = g; faults = h }) y result
    → Sends (record { before = a; after = c; faults_before = f; faults = h }) (x ++ y) result
sends_both a b c f g h x y (Ok z) whole le second = Appends-trans a b c x y whole second
sends_both a b c f g h x y (Err WriteFailed) whole le second = (front_behind a b c x y whole second.0, omega (arith, second.1))
sends_both a b c f g h x y (Err NoMemory) whole le second = front_behind a b c x y whole second

-- a text was broken off by a fault: so is each text that goes on behind it
pub sends_first : (sent : Sent) (x y : List ℕ) (fault : SendFault)
    → BreaksOff sent x fault → BreaksOff sent (x ++ y) fault
sends_first sent x y WriteFailed h = (front_of_more sent.before sent.after x y h.0, h.1)
sends_first sent x y NoMemory h = front_of_more sent.before sent.after x y h

-- before the first item nothing went out
pub sends_nothing : {A : Type 0} (line : A → List ℕ) (items : List A) (w : Option (List ℕ)) → Appends w w (flat_map line (take 0 items))
sends_nothing line items w = Appends-nil w

-- the texts of the items up to this one are those before it, and its own
texts_more : {A : Type 0} (line : A → List ℕ) (items : List A) (i : ℕ) (d : A) → i < length items
    → flat_map line (take (i + 1) items) ≡ flat_map line (take i items) ++ line (get_or items i d)
texts_more line items i d lt =
    ap (flat_map line) (take_more items i d lt) ∙ flat_map-append line (take i items) (get_or items i d ∷ [])
    ∙ ap (λ (l : List ℕ). flat_map line (take i items) ++ l) (append-nil (line (get_or items i d)))

-- the texts of all items are those before this one, its own, and those behind it
texts_split : {A : Type 0} (line : A → List ℕ) (items : List A) (i : ℕ) (d : A) → i < length items
    → flat_map line items ≡ (flat_map line (take i items) ++ line (get_or items i d)) ++ flat_map line (drop (suc i) items)
texts_split line items i d lt =
    ap (flat_map line) (sym (take-append-drop i items)) ∙ flat_map-append line (take i items) (drop i items)
    ∙ ap (λ l. flat_map line (take i items) ++ flat_map line l) (drop-cons items i d lt)
    ∙ sym (append_assoc (flat_map line (take i items)) (line (get_or items i d)) (flat_map line (drop (suc i) items)))

-- the items before this one went out, and this one too: so did all up to it
pub sends_more : {A : Type 0} (line : A → List ℕ) (items : List A) (i : ℕ) (x d : A) (a b c : Option (List ℕ))
    → i < length items → x ≡ get_or items i d
    → Appends a b (flat_map line (take i items)) → Appends b c (line x)
    → Appends a c (flat_map line (take (i + 1) items))
sends_more line items i x d a b c lt is before this =
    let joined : flat_map line (take (i + 1) items) ≡ flat_map line (take i items) ++ line x =
    texts_more line items i d lt ∙ ap (λ y. flat_map line (take i items) ++ line y) (sym is) in
    subst (λ (l : List ℕ). Appends a c l) (sym joined) (Appends-trans a b c _ _ before this)

-- the items before this one went out, and this one was broken off by a fault: so were all of them
pub sends_stop : {A : Type 0} (line : A → List ℕ) (items : List A) (i : ℕ) (x d : A) (a b c : Option (List ℕ)) (f g h : ℕ) (fault : SendFault)
    → i < length items → x ≡ get_or items i d
    → Appends a b (flat_map line (take i items)) → f ≤ g
    → BreaksOff (record { before = b; after = c; faults_before = g; faults = h }) (line x) fault
    → BreaksOff (record { before = a; after = c; faults_before = f; faults = h }) (flat_map line items) fault
sends_stop line items i x d a b c f g h fault lt is before le this =
    let whole : flat_map line items ≡ (flat_map line (take i items) ++ line x) ++ flat_map line (drop (suc i) items) =
    texts_split line items i d lt ∙ ap (λ y. (flat_map line (take i items) ++ line y) ++ flat_map line (drop (suc i) items)) (sym is) in
    let sent : Sent = record { before = a; after = c; faults_before = f; faults = h } in
    subst (λ (l : List ℕ). BreaksOff sent l fault) (sym whole)
    (sends_first sent _ _ fault (sends_both {T = Unit {0}} a b c f g h _ (line x) (Err fault) before le this))
