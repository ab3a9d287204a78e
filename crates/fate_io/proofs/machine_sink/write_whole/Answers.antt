use Rattle.std.proofs.Common.{◌≡◌, ℕ, List, ◌++◌, take, drop, ap, sym, ◌∙◌, append_assoc}
use Rattle.std.proofs.KnownBytes.{Appends-trans}
use Rattle.std.proofs.lemmas.List.{take-append-drop}
use Rattle.std.specs.declared.option.Option.{Option}
use Rattle.std.specs.Io.KnownBytes.{Appends}
use Rattle.fate_io.proofs.machine_sink.write_whole.Goals as goal

-- a front of a piece went out, and then some of the rest
front_grows : (a b c : Option (List ℕ)) (piece rest : List ℕ) (n : ℕ)
    → (front : List ℕ) × (piece ≡ front ++ rest) × Appends a b front
    → Appends b c (take n rest)
    → (front : List ℕ) × (piece ≡ front ++ drop n rest) × Appends a c front
front_grows a b c piece rest n h k =
    let split : piece ≡ (h.0 ++ take n rest) ++ drop n rest =
    h.1 ∙ ap (λ (l : List ℕ). h.0 ++ l) (sym (take-append-drop n rest)) ∙ sym (append_assoc h.0 (take n rest) (drop n rest)) in
    (h.0 ++ take n rest, split, Appends-trans a b c h.0 (take n rest) h.2 k)

-- some of the rest went out
pub loop-rest-preserved : goal.loop-rest-preserved
loop-rest-preserved g c =
    let contents = g.W.Write.contents in
    rw c.split_at.ensures.back
    (front_grows (contents c.args.out.now) (contents c.loop-rest.out) (contents c.write_some.new.out) c.args.piece.now c.loop-rest.rest.now
    c.in-Ok.count c.loop-rest.invariant c.in-Ok.ensures.bytes)
