use Rattle.std.proofs.Common.{◌≡◌, ◌<◌, ◌++◌, ℕ, ℤ, [], length, sym, ap, ◌∙◌, w64, of_z, to_z, arith}
use Rattle.std.proofs.lemmas.Int.{to_z-of_z}
use Rattle.std.proofs.lemmas.Result.{on_ok_weaker}
use Rattle.nona_tree.specs.Memory.{Memory, cells_of, put_cell}
use Rattle.nona_store.specs.Overlays.{over_of, with_cell, arrays_under}
use Rattle.nona_store.specs.Shares.{ShareView, shared}
use Rattle.nona_store.proofs.Overlaying.{put_over_store, within_own, has_array}
use Rattle.nona_store.proofs.share.ShareBankBank.save.Goals as goal

-- what was saved is what the task sees
saved : (m : Memory) (new old : ShareView) (a at : ℕ) (v : ℤ) → new.scalars ≡ old.scalars → over_of new.written ≡ with_cell a at v (over_of old.written)
    → new.printed ≡ old.printed → shared m new ≡ put_cell a at v (shared m old)
saved m new old a at v same put as_printed =
    (λ i. record { scalars = same i; arrays = arrays_under (put i) 0 m.arrays; printed = m.printed ++ as_printed i })
    ∙ (λ i. record (shared m old) { arrays = (sym (put_over_store (over_of old.written) a at v m) i).arrays })

pub put-requires : goal.put-requires
put-requires c =
    let m = c.args.self.now.store.now in
    let a = c.args.array in
    let at = c.args.index in
    let within : at < length (cells_of m a) =
    within_own m (over_of c.args.self.now.share.now.written) a at
    c.requires.cell
    in
    omega (arith, within, c.is_kept.ensures.few a [] (has_array m.arrays a at within))

pub returns-clause-state : goal.returns-clause-state
returns-clause-state c =
    let m = c.args.self.now.store.now in
    let old = c.args.self.now.share.now in
    let new = c.put.new.self in
    let a = c.args.array in
    let at = c.args.index in
    let v = c.args.value in
    let passed : ℤ = to_z w64 (of_z w64 v) in
    let same : passed ≡ v = to_z-of_z w64 v c.ranges.value in
    on_ok_weaker c.put.result
    (λ (put : over_of new.written ≡ with_cell a at passed (over_of old.written)).
    saved m new old a at v c.put.ensures.scalars (put ∙ ap (λ (z : ℤ). with_cell a at z (over_of old.written)) same) c.put.ensures.printed)
    c.put.ensures.ok
