-- What follows from the definition: holdings grow with each amount and fall with the toll; and what an answer is, by its number.
use Rattle.std.specs.Prelude.{◌≡◌, Bool, true, false, List, ℕ, zero, suc, ◌+◌, ◌-◌, ◌/◌, ◌≤◌, ◌<◌, length}
use Rattle.std.proofs.Math.Path.{refl}
use Rattle.std.proofs.Common.{sym, ap, ◌∙◌, add-zero, zero-add, add-suc, le_refl, add-one, arith, ne_eqb, ltb-true}
use Rattle.std.proofs.Math.Decide.{ℕ_discrete}
use Rattle.fields.specs.Logic.{all-at}
use Rattle.fields.specs.Rules.{pick, stop_at, free, unlinked}
use Rattle.amount.specs.Biased.{bias}
use Rattle.image.specs.Good.{good_image}
use Rattle.token.specs.Token.{arrives}
use Rattle.token.specs.Laws.{arrives_less}
use Rattle.toll_bounds.specs.Bounds.{amount_count, amount_in, holding_after, holding_at_toll, image_number, list_rules, list_number, tolls_rules, tolls_number, token_rules, token_number, request_checks, request_number, are_above, amounts_number, pass_rules, pass_number, bounds_checks, bounds_number, Bounds, given, refused, toll_bounds}

-- ---- holdings
pub after_none : (toll held : ℕ) (amounts : ℕ → ℕ) → holding_after toll held amounts 0 ≡ held
unfolding holding_after
after_none toll held amounts = refl

pub after_next : (toll held : ℕ) (amounts : ℕ → ℕ) (i : ℕ) → holding_after toll held amounts (i + 1) ≡ holding_after toll held amounts i + arrives toll (amounts i)
unfolding holding_after
after_next toll held amounts i = rw add-one

pub after_grows : (toll held : ℕ) (amounts : ℕ → ℕ) (i d : ℕ) → holding_after toll held amounts i ≤ holding_after toll held amounts (i + d)
unfolding holding_after
after_grows toll held amounts i zero = rw add-zero (le_refl _)
after_grows toll held amounts i (suc d) = rw add-suc (let h = after_grows toll held amounts i d in omega arith)

-- the amounts take nothing away
pub after_least : (toll held : ℕ) (amounts : ℕ → ℕ) (n : ℕ) → held ≤ holding_after toll held amounts n
unfolding holding_after
after_least toll held amounts n = rw zero-add at (after_grows toll held amounts 0 n)

pub after_falls : (low high held : ℕ) (amounts : ℕ → ℕ) (n : ℕ) → low ≤ high → holding_after high held amounts n ≤ holding_after low held amounts n
unfolding holding_after
after_falls low high held amounts zero h = le_refl held
after_falls low high held amounts (suc n) h =
    let before = after_falls low high held amounts n h in
    let last = arrives_less low high (amounts n) h in
    omega arith

-- ---- 7
module _ (holding : ℕ) where
  pub pass_stop : bias + bias ≤ holding → 7 ≡ pass_number holding
  unfolding pass_number
  pass_stop h = stop_at (pass_rules holding) 0 7 h refl

  pub pass_none : holding < bias + bias → 0 ≡ pass_number holding
  unfolding pass_number
  pass_none h = stop_at (pass_rules holding) 1 0 (h, tt) refl

  pub pass_free : pass_number holding ≡ 0 → holding < bias + bias
  unfolding pass_number
  pass_free e = (free (pass_rules holding) refl refl e).0

-- some amounts already pass: so do all
pub passed_before : (toll held : ℕ) (amounts : ℕ → ℕ) (i n : ℕ) → i < n → bias + bias ≤ holding_after toll held amounts i + arrives toll (amounts i) → 7 ≡ pass_number (holding_after toll held amounts n)
passed_before toll held amounts i n h p =
    let e : i + 1 + (n - (i + 1)) ≡ n = omega arith in
    let next = after_next toll held amounts i in
    let more : holding_after toll held amounts (i + 1) ≤ holding_after toll held amounts n = rw e at (after_grows toll held amounts (i + 1) (n - (i + 1))) in
    pass_stop _ (omega arith)

-- ---- 30, 4 and 46
picked : (b : Bool) (k : ℕ) → pick b 0 (suc k) ≡ 0 → b ≡ true
picked true k e = refl
picked false k e = absurd (omega arith)

pub image_good : (l : List ℕ) → image_number l ≡ 0 → good_image l ≡ true
unfolding image_number
image_good l e = picked (good_image l) 29 e

pub amounts_above : (a : List ℕ) (n : ℕ) → amounts_number a n ≡ 0 → (i : ℕ) → i < n → bias < amount_in a i
unfolding amounts_number are_above
amounts_above a n e i h = ltb-true bias (amount_in a i) (all-at _ n i h (picked (are_above a n) 3 e))

-- what a request says that is not refused with 46
pub record Request (l : List ℕ) (t bytes least greatest : ℕ) : Type 0 where
  pub few : bytes / 16 ≤ 16
  pub not_below : (bias ≤ least) × (bias ≤ greatest)
  pub in_order : least ≤ greatest
  pub token : (48 ≤ t) × (t < 64)

pub request_free : (l : List ℕ) (t bytes least greatest : ℕ) {k : ℕ} → k ≡ request_number l t bytes least greatest → k ≡ 0 → Request l t bytes least greatest
unfolding request_number list_number tolls_number token_number
request_free l t bytes least greatest e z =
    let (list, (tolls, (token, _))) = unlinked (request_checks l t bytes least greatest) (sym e ∙ z) in
    let (whole, (few, _)) = free (list_rules bytes) refl refl list in
    let (low, (high, (order, _))) = free (tolls_rules least greatest) refl refl tolls in
    let (top, (bottom, _)) = free (token_rules l t) refl refl token in
    record { few = few; not_below = (low, high); in_order = order; token = (bottom, omega arith) }

-- ---- the answer
pub record Allowed (l : List ℕ) (t : ℕ) (a : List ℕ) (least greatest : ℕ) : Type 0 where
  pub good : good_image l ≡ true
  pub token : t < 64
  pub in_order : least ≤ greatest
  pub above : (i : ℕ) → i < amount_count a → bias < amount_in a i
  pub fits : holding_at_toll l t a least < bias + bias

module _ (l : List ℕ) (t : ℕ) (a : List ℕ) (least greatest : ℕ) where
  pub bounds_given : bounds_number l t a least greatest ≡ 0 → toll_bounds l t a least greatest ≡ given l t a least greatest
  unfolding toll_bounds
  bounds_given e = rw e

  pub bounds_refused : (bounds_number l t a least greatest ≡ 0 → ⊥) → toll_bounds l t a least greatest ≡ refused (bounds_number l t a least greatest)
  unfolding toll_bounds
  bounds_refused e = rw (ne_eqb (bounds_number l t a least greatest) 0 e)

  -- an answer whose number is 0 is that of a request that is not refused
  pub not_refused : (toll_bounds l t a least greatest).number ≡ 0 → bounds_number l t a least greatest ≡ 0
  not_refused e = go (ℕ_discrete (bounds_number l t a least greatest) 0)
    where
      go : Dec (bounds_number l t a least greatest ≡ 0) → bounds_number l t a least greatest ≡ 0
      go (yes z) = z
      go (no z) = absurd (z (sym (ap (λ (b : Bounds). b.number) (bounds_refused z)) ∙ e))

  -- what is known of such a request
  pub allowed : bounds_number l t a least greatest ≡ 0 → Allowed l t a least greatest
  unfolding bounds_number
  allowed e =
      let (image, (request, (amounts, (pass, _)))) = unlinked (bounds_checks l t a least greatest) e in
      let r = request_free l t (length a) least greatest refl request in
      record {
        good = image_good l image;
        token = r.token.1;
        in_order = r.in_order;
        above = amounts_above a (amount_count a) amounts;
        fits = pass_free (holding_at_toll l t a least) pass;
      }
