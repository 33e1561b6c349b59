-- The theorems of toll bounds.
use mathlib.Core.Path.{◌≡◌, refl, ap, ◌∙◌}
use mathlib.Core.Bool.{true}
use mathlib.Core.List.{List}
use Prim.Native.Nat.{ℕ, ◌+◌, ◌≤◌, ◌<◌}
use native.Mathlib.Nat.{le_refl}
use native.Mathlib.Decide.{ℕ_discrete}
use native.Mathlib.Omega.{arith}
use lib.Dec.{lit<}
use Rattle.amount.specs.Biased.{bias}
use Rattle.image.specs.Layout.{slot, toll, holding}
use Rattle.image.specs.Good.{good_image}
use Rattle.storage.specs.Facts.{facts}
use Rattle.storage.specs.Writes.{holding_range}
use Rattle.toll_bounds.specs.Bounds.{amount_count, amount_in, holding_after, holding_at_toll, bounds_number, toll_bounds}
use Rattle.toll_bounds.specs.Laws.{after_least, after_falls, bounds_given, bounds_refused, not_refused, allowed}
use Rattle.toll_bounds.specs.Theorems.{AreAmounts, Between, Met, moved_in_of, AllMove, TollBounds}
use Rattle.toll_bounds.proofs.Transfers.{moved_in}

module _ (l : List ℕ) (t : ℕ) (a : List ℕ) (least greatest : ℕ) (e : (toll_bounds l t a least greatest).number ≡ 0) where
  is_between : (f : ℕ) → least ≤ f → f ≤ greatest → Between (toll_bounds l t a least greatest) (holding_at_toll l t a f)
  is_between f p q =
      rw (bounds_given l t a least greatest (not_refused l t a least greatest e))
      (record {
        at_least = after_falls f greatest (holding l (slot t) 1) (amount_in a) (amount_count a) q;
        at_most = after_falls least f (holding l (slot t) 1) (amount_in a) (amount_count a) p;
      })

  is_met : Met l t a least greatest (toll_bounds l t a least greatest)
  is_met =
      let z = not_refused l t a least greatest e in
      rw (bounds_given l t a least greatest z)
      (record { in_order = (allowed l t a least greatest z).in_order; least_met = refl; greatest_met = refl })

  does_land : (m : List ℕ) → good_image m ≡ true → holding m (slot t) 1 ≡ holding l (slot t) 1
      → least ≤ toll m (slot t) → toll m (slot t) ≤ greatest
      → (senders : ℕ → ℕ) → AllMove m t senders (amount_in a) (amount_count a)
      → Between (toll_bounds l t a least greatest) (holding (moved_in_of m t senders (amount_in a) (amount_count a)) (slot t) 1)
  does_land m g h p q senders all =
      let above = (allowed l t a least greatest (not_refused l t a least greatest e)).above in
      let (_, _, moved) = moved_in m t senders (amount_in a) (facts m g) (amount_count a) (λ i k. let b = above i k in omega arith) all in
      let same : holding (moved_in_of m t senders (amount_in a) (amount_count a)) (slot t) 1 ≡ holding_at_toll l t a (toll m (slot t)) =
      moved ∙ ap (λ (k : ℕ). holding_after (toll m (slot t)) k (amount_in a) (amount_count a)) h in
      rw same (is_between (toll m (slot t)) p q)

-- refused, both are 0; otherwise the least is not below what address 1 held, and 7 did not hold
both_amounts : (l : List ℕ) (t : ℕ) (a : List ℕ) (least greatest : ℕ) → AreAmounts (toll_bounds l t a least greatest)
both_amounts l t a least greatest = go (ℕ_discrete (bounds_number l t a least greatest) 0)
  where
    nothing : bias < bias + bias
    nothing = unfold bias in lit< tt

    go : Dec (bounds_number l t a least greatest ≡ 0) → AreAmounts (toll_bounds l t a least greatest)
    go (yes z) =
        let b = allowed l t a least greatest z in
        let high = b.token in
        let (low, _) = holding_range l (slot t) 1 (facts l b.good) (omega arith) (omega arith) in
        let more = after_least greatest (holding l (slot t) 1) (amount_in a) (amount_count a) in
        rw (bounds_given l t a least greatest z)
        (record {
          not_below = omega arith;
          ordered = after_falls least greatest (holding l (slot t) 1) (amount_in a) (amount_count a) b.in_order;
          not_past = b.fits;
        })
    go (no z) = rw (bounds_refused l t a least greatest z) (record { not_below = le_refl bias; ordered = le_refl bias; not_past = nothing })

pub all_proved : TollBounds
all_proved =
    record {
      are_amounts = both_amounts;
      between = is_between;
      met = is_met;
      moved = λ l t senders amounts n g p a. (moved_in l t senders amounts (facts l g) n p a).2;
      lands = does_land;
    }
