-- The iterations of an entry that offers `any` may be shared out.
use Rattle.std.proofs.Common.{◌≡◌, ◌≤◌, ◌+◌, ℕ, ℤ, pos, negsuc, ◌+ℤ◌, ◌≤ℤ◌, ◌<ℤ◌, Bool, true, false, ◌&&◌, refl, sym, ◌∙◌, arith, min}
use Rattle.std.proofs.lemmas.Int.{ints}
use Rattle.std.specs.Int.{int_gap}
use Rattle.nona_forms.specs.Separate.{IsLoopEntry}
use Rattle.morta_task.specs.Entries.{EntryView, IsEntered, IsWithin, before, last, loop_of, is_guarded}
use Rattle.net_share.specs.Entries.{MayShare}
use Rattle.weave.specs.SharedTasks.{OffersSharing}
use Rattle.weave.proofs.Ends.{last_is, room_within}

-- no more behind a number than the gap behind it leads to nothing above the gap's end
below : (low high : ℤ) (n : ℕ) → n ≤ int_gap low high → low <ℤ (low +ℤ pos n) → (low +ℤ pos n) ≤ℤ high
below (pos a) (pos b) n few some = omega (arith, ints, few, some)
below (pos a) (negsuc b) n few some = absurd (omega (arith, ints, few, some))
below (negsuc a) (pos b) n few some = omega (arith, ints, few, some)
below (negsuc a) (negsuc b) n few some = omega (arith, ints, few, some)

few_turns : (g t : ℕ) → min g t ≤ g
few_turns g t = omega arith

below_high : (e : EntryView) → e.low <ℤ last e → last e ≤ℤ e.high
below_high e some = below e.low e.high (min (int_gap e.low e.high) e.turns) (few_turns (int_gap e.low e.high) e.turns) some

pub both : (a b : Bool) → (a && b) ≡ true → (a ≡ true) × (b ≡ true)
both true b h = (refl, h)
both false b h = cc

pub within_last : (low last : ℤ) (n all : ℕ) → last ≡ low +ℤ pos all → n ≤ all → (low +ℤ pos n) ≤ℤ last
within_last low last n all is few = omega (arith, ints, is, few)

-- the entry is one of its loop
pub is_loop_entry : (e : EntryView) → IsEntered e → IsLoopEntry e.looped e.store e.low (last e)
is_loop_entry e entered = record {
  numbers = entered.store_numbers;
  written = entered.loop_numbers;
  scoped = entered.scoped;
  begins = entered.low_is;
  ends = (e.high, entered.high_is, below_high e);
}

pub may_share : (e : EntryView) (from : ℤ) (limit : ℕ) → IsEntered e → OffersSharing e → IsWithin e from → limit ≤ int_gap from (last e)
    → MayShare (loop_of e) (before e from) limit
may_share e from limit entered offers within room =
    let two = both e.plan.any (is_guarded e) (sym entered.any ∙ offers.offered) in
    record {
      entered = is_loop_entry e entered;
      steady = entered.steady;
      calm = offers.lawful.any_calm two.0;
      guarded = two.1;
      untied = offers.lawful.any_untied two.0;
      silent = offers.lawful.any_silent two.0;
      within = within_last e.low (last e) (before e from + limit) (before e (last e)) (last_is e) (room_within e from limit within room);
    }
