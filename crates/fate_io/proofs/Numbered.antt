-- Lemmas for callers: texts of numbered items that go out to a sink one after another.
use Rattle.std.proofs.Common.{◌≡◌, ℕ, ◌+◌, ◌<◌, ◌≤◌, List, [], ◌∷◌, ◌++◌, length, take, drop, get_or, suc, ap, sym, ◌∙◌, subst, append_assoc, append-nil, arith, Err}
use Rattle.std.proofs.KnownBytes.{Appends-trans}
use Rattle.std.proofs.lemmas.List.{take-append-drop, take_more, length-take-le}
use Rattle.std.proofs.Math.Seq.{drop-cons}
use Rattle.std.specs.declared.option.Option.{Option}
use Rattle.std.specs.Io.KnownBytes.{Appends}
use Rattle.fate_io.specs.Sending.{Sent, BreaksOff}
use Rattle.fate_io.specs.declared.sending.SendFault.{SendFault}
use Rattle.fate_io.proofs.Texts.{sends_both, sends_first}
use Rattle.fate_io.specs.Numbered.{texts_from}

-- the texts of a list with another one behind it
texts-append : {A : Type 0} (part : ℕ → A → List ℕ) (first : ℕ) (xs ys : List A) (behind : ℕ) → behind ≡ first + length xs
    → texts_from part first (xs ++ ys) ≡ texts_from part first xs ++ texts_from part behind ys
texts-append part first [] ys behind e = ap (λ n. texts_from part n ys) (omega (arith, e))
texts-append part first (x ∷ xs) ys behind e =
    ap (λ (l : List ℕ). part first x ++ l) (texts-append part (first + 1) xs ys behind (omega (arith, e)))
    ∙ sym (append_assoc (part first x) (texts_from part (first + 1) xs) (texts_from part behind ys))

-- the texts of the items up to this one are those before it, and its own
texts_more : {A : Type 0} (part : ℕ → A → List ℕ) (first : ℕ) (items : List A) (i number : ℕ) (d : A) → i < length items → number ≡ first + i
    → texts_from part first (take (i + 1) items) ≡ texts_from part first (take i items) ++ part number (get_or items i d)
texts_more part first items i number d lt e =
    ap (texts_from part first) (take_more items i d lt)
    ∙ texts-append part first (take i items) (get_or items i d ∷ []) number (omega (arith, length-take-le i items, lt, e))
    ∙ ap (λ (l : List ℕ). texts_from part first (take i items) ++ l) (append-nil (part number (get_or items i d)))

-- the texts of all items are those before this one, its own, and those behind it
texts_split : {A : Type 0} (part : ℕ → A → List ℕ) (first : ℕ) (items : List A) (i number : ℕ) (d : A) → i < length items → number ≡ first + i
    → texts_from part first items
    ≡ (texts_from part first (take i items) ++ part number (get_or items i d)) ++ texts_from part (number + 1) (drop (suc i) items)
texts_split part first items i number d lt e =
    ap (texts_from part first) (sym (take-append-drop i items))
    ∙ texts-append part first (take i items) (drop i items) number (omega (arith, length-take-le i items, lt, e))
    ∙ ap (λ l. texts_from part first (take i items) ++ texts_from part number l) (drop-cons items i d lt)
    ∙ sym (append_assoc (texts_from part first (take i items)) (part number (get_or items i d)) (texts_from part (number + 1) (drop (suc i) items)))

-- the items before this one went out, and this one too: so did all up to it
pub numbered_more : {A : Type 0} (part : ℕ → A → List ℕ) (first : ℕ) (items : List A) (i number : ℕ) (x d : A) (a b c : Option (List ℕ))
    → i < length items → number ≡ first + i → x ≡ get_or items i d
    → Appends a b (texts_from part first (take i items)) → Appends b c (part number x)
    → Appends a c (texts_from part first (take (i + 1) items))
numbered_more part first items i number x d a b c lt e is before this =
    let joined : texts_from part first (take (i + 1) items) ≡ texts_from part first (take i items) ++ part number x =
    texts_more part first items i number d lt e ∙ ap (λ y. texts_from part first (take i items) ++ part number y) (sym is) in
    subst (λ (l : List ℕ). Appends a c l) (sym joined) (Appends-trans a b c _ _ before this)

-- the items before this one went out, and this one was broken off by a fault: so were all of them
pub numbered_stop : {A : Type 0} (part : ℕ → A → List ℕ) (first : ℕ) (items : List A) (i number : ℕ) (x d : A) (a b c : Option (List ℕ)) (f g h : ℕ) (fault : SendFault)
    → i < length items → number ≡ first + i → x ≡ get_or items i d
    → Appends a b (texts_from part first (take i items)) → f ≤ g
    → BreaksOff (record { before = b; after = c; faults_before = g; faults = h }) (part number x) fault
    → BreaksOff (record { before = a; after = c; faults_before = f; faults = h }) (texts_from part first items) fault
numbered_stop part first items i number x d a b c f g h fault lt e is before le this =
    let whole : texts_from part first items ≡ (texts_from part first (take i items) ++ part number x) ++ texts_from part (number + 1) (drop (suc i) items) =
    texts_split part first items i number d lt e
    ∙ ap (λ y. (texts_from part first (take i items) ++ part number y) ++ texts_from part (number + 1) (drop (suc i) items)) (sym is) in
    let sent : Sent = record { before = a; after = c; faults_before = f; faults = h } in
    subst (λ (l : List ℕ). BreaksOff sent l fault) (sym whole)
    (sends_first sent _ _ fault (sends_both {T = Unit {0}} a b c f g h _ (part number x) (Err fault) before le this))
