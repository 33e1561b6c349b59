-- The whole answer, from what the checks and the two holdings say: one lemma for each way out.
use mathlib.Core.Path.{◌≡◌, refl, sym, ap, ◌∙◌}
use mathlib.Core.Bool.{true, false}
use mathlib.Core.List.{List}
use Prim.Native.Nat.{ℕ}
use native.Mathlib.Omega.{arith}
use lib.ListN.{length}
use Rattle.std.proofs.Common.{Result, Ok, Err, IsErr, IsErrAnd}
use Rattle.std.proofs.lemmas.Result.{MatchResult-from_err}
use Rattle.std.specs.Result.{result_unwrap_or}
use Rattle.refusal.specs.declared.Refusal.{Refusal}
use Rattle.refusal.specs.declared.Refusal.TheVariants.{InvalidImage}
use Rattle.refusal.specs.Numbers.{number_of}
use Rattle.refusal.specs.Laws.{some_number, code_passed}
use Rattle.amount.specs.Biased.{bias, biased, put_amount}
use Rattle.events.specs.Splice.{amount_bytes, put_amount_whole}
use Rattle.amount.specs.declared.Amount.{Amount}
use Rattle.image.specs.Layout.{slot, holding}
use Rattle.image.specs.Good.{good_image}
use Rattle.fields.specs.Rules.{link_at_lem}
use Rattle.toll_bounds.specs.declared.Range.{Range}
use Rattle.toll_bounds.specs.Bounds.{Bounds, BoundsAre, HoldingsAre, amount_count, amount_in, holding_at_toll, image_number, request_number, amounts_number, pass_number, bounds_checks, bounds_number, toll_bounds}
use Rattle.toll_bounds.specs.Laws.{after_falls, pass_none, bounds_given, bounds_refused, allowed}
use Rattle.toll_bounds.specs.Parts.{TallyIs}

module _ (l : List ℕ) (t : ℕ) (a : List ℕ) (least greatest : ℕ) where
  -- ---- refused
  refused_is : (x : Refusal) (r : Result Range Refusal) → IsErr r × IsErrAnd r (λ y. y ≡ x) → number_of x ≡ bounds_number l t a least greatest → HoldingsAre (toll_bounds l t a least greatest) r
  refused_is x r p e =
      rw (bounds_refused l t a least greatest (λ z. some_number x (e ∙ z)))
      (record {
        numbered = code_passed x r p ∙ e;
        least = MatchResult-from_err r _ _ p.0 (λ _. refl);
        greatest = MatchResult-from_err r _ _ p.0 (λ _. refl);
      })

  stop_30 : good_image l ≡ false → 30 ≡ bounds_number l t a least greatest
  unfolding bounds_number image_number
  stop_30 e = link_at_lem (bounds_checks l t a least greatest) 0 30 (λ z. let w : ◌≡◌ {A = ℕ} 30 0 = rw e at z in omega arith) (rw e)

  pub refused_30 : good_image l ≡ false → HoldingsAre (toll_bounds l t a least greatest) (Err InvalidImage)
  refused_30 e = refused_is InvalidImage (Err InvalidImage) (refl, refl) (stop_30 e)

  module _ (g : good_image l ≡ true) where
    passed_30 : image_number l ≡ 0
    unfolding image_number
    passed_30 = rw g

    pub refused_46 : (x : Refusal) {r : Result Range Refusal} → IsErr r × IsErrAnd r (λ y. y ≡ x) → number_of x ≡ request_number l t (length a) least greatest → HoldingsAre (toll_bounds l t a least greatest) r
    unfolding bounds_number
    refused_46 x {r} f e = refused_is x r f (link_at_lem (bounds_checks l t a least greatest) 1 _ (passed_30, λ z. some_number x (e ∙ z)) e)

    module _ (p : 0 ≡ request_number l t (length a) least greatest) where
      pub refused_4 : (x : Refusal) {r : Result Range Refusal} → IsErr r × IsErrAnd r (λ y. y ≡ x) → number_of x ≡ amounts_number a (amount_count a) → HoldingsAre (toll_bounds l t a least greatest) r
      unfolding bounds_number
      refused_4 x {r} f e = refused_is x r f (link_at_lem (bounds_checks l t a least greatest) 2 _ (passed_30, (sym p, λ z. some_number x (e ∙ z))) e)

      -- h is the holding read
      module _ {h : ℕ} (q : 0 ≡ amounts_number a (amount_count a)) (b : h ≡ holding l (slot t) 1) where
        at_toll : (toll : ℕ) {r : Result Amount Refusal} → TallyIs toll h (amount_in a) (amount_count a) r → TallyIs toll (holding l (slot t) 1) (amount_in a) (amount_count a) r
        at_toll toll u = rw b at u

        pub refused_7 : (x : Refusal) {r : Result Range Refusal} → IsErr r × IsErrAnd r (λ y. y ≡ x) → TallyIs least h (amount_in a) (amount_count a) (Err x) → HoldingsAre (toll_bounds l t a least greatest) r
        unfolding bounds_number
        refused_7 x {r} f u =
            let e = (at_toll least u).numbered in
            refused_is x r f (link_at_lem (bounds_checks l t a least greatest) 3 _ (passed_30, (sym p, (sym q, λ z. some_number x (e ∙ z)))) e)

        -- ---- not refused: at the greatest toll the holding does not pass either
        module _ {high : Amount} (u : TallyIs least h (amount_in a) (amount_count a) (Ok high)) where
          passed_all : bounds_number l t a least greatest ≡ 0
          unfolding bounds_number
          passed_all = sym (link_at_lem (bounds_checks l t a least greatest) 4 0 (passed_30, (sym p, (sym q, (sym (at_toll least u).numbered, tt)))) refl)

          none : 0 ≡ pass_number (holding_at_toll l t a greatest)
          none =
              let w = allowed l t a least greatest passed_all in
              let less = after_falls least greatest (holding l (slot t) 1) (amount_in a) (amount_count a) w.in_order in
              let fits = w.fits in
              pass_none (holding_at_toll l t a greatest) (omega arith)

          pub low_given : {x : Refusal} → TallyIs greatest h (amount_in a) (amount_count a) (Err x) → ⊥
          low_given {x} v = some_number x ((at_toll greatest v).numbered ∙ sym none)

          pub given_is : {low : Amount} → TallyIs greatest h (amount_in a) (amount_count a) (Ok low) → HoldingsAre (toll_bounds l t a least greatest) (Ok (record { least = low; greatest = high }))
          given_is v =
              rw (bounds_given l t a least greatest passed_all)
              (record {
                numbered = refl;
                least = (at_toll greatest v).summed;
                greatest = (at_toll least u).summed;
              })

-- ---- the answer written out: d are the holdings that stand for a refusal, h those that are written
module _ (b : Bounds) (d : Range) (z : biased d.least ≡ bias) (w : biased d.greatest ≡ bias) where
  holdings_are : (r : Result Range Refusal) {h : Range} → HoldingsAre b r → h ≡ result_unwrap_or r d → (biased h.least ≡ b.least) × (biased h.greatest ≡ b.greatest)
  holdings_are (Ok x) e f = rw f (e.least, e.greatest)
  holdings_are (Err x) e f = rw f (z ∙ e.least, w ∙ e.greatest)

  pub written_out : (r : Result Range Refusal) {h : Range} {n : ℕ} (k l : List ℕ) {x y : List ℕ} → HoldingsAre b r → h ≡ result_unwrap_or r d → (length k ≡ 16) × (length l ≡ 16)
      → n ≡ b.number → x ≡ put_amount k 0 (biased h.least) → y ≡ put_amount l 0 (biased h.greatest) → BoundsAre b n x y
  written_out r k l e f s m p q =
      let (low, high) = holdings_are r e f in
      record {
        numbered = m;
        least_written = p ∙ (put_amount_whole _ _ s.0 ∙ ap amount_bytes low);
        greatest_written = q ∙ (put_amount_whole _ _ s.1 ∙ ap amount_bytes high);
      }
