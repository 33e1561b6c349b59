-- Reading a record that was laid out field by field.
use Rattle.std.proofs.Common.{◌≡◌, ℕ, zero, suc, ◌+◌, ◌*◌, ◌/◌, ◌%◌, ◌^◌, ◌<◌, ◌≤◌, Bool, true, false, not, ◌&&◌, ltb, List, [], ◌∷◌, length, get_or, replicate, sym, refl, ap, ◌∙◌, lt_of_le_of_lt, add-zero, arith, lit<, le-ltb, lt-ltb}
use Rattle.fields.specs.Bytes.{le, put, apart, bytes, bytes_from, length-put, le-put_other, le-put-same, le_split, put_split}
use Rattle.fields.specs.Frame.{only_put}
use Rattle.fields.specs.Logic.{◌and◌, ◌or◌, and_false, all_from}
use Rattle.fields.specs.Rules.{and_left, and_right, stop}
use Rattle.amount.specs.Biased.{bias, amount_at, put_amount}
use Rattle.record.specs.Record.{operation_of, caller_of, token_of, other_of, flag_of, item_count_of, item_address}
use Rattle.record.specs.Form.{reads_caller, reads_token, reads_other, reads_flag, reads_items, item_within, items_within, head_exceeds, items_exceed, form_rules, form_number}
use Rattle.trial_records.specs.Trial.{Field, field, laid, Drawn, draws_from, trial_fields, record_of}
use Rattle.trial_records.specs.Laws.{laid_long}
use Rattle.trial_records.specs.Theorems.{ReadAs}

-- ---- fields laid one after another
-- no field touches the w bytes from b on
abbrev all_apart : (b w : ℕ) → List Field → Bool
all_apart b w [] = true
all_apart b w (field at width x ∷ fs) = apart b w at width && all_apart b w fs

laid_other : (fs : List Field) (l : List ℕ) (b w : ℕ) → all_apart b w fs ≡ true → le w (laid l fs) b ≡ le w l b
laid_other [] l b w h = refl
laid_other (field at v x ∷ fs) l b w h =
    laid_other fs (put v l at x) b w (and_right (apart b w at v) _ h) ∙ le-put_other w v l b at x (and_left (apart b w at v) _ h)

-- field k, of n bytes in all, is read back from m: no later field touches it, and its number fits
abbrev Back : (k : ℕ) → List Field → (n : ℕ) → (m : List ℕ) → Type 0
Back k [] n m = Unit {0}
Back zero (field at w x ∷ fs) n m = all_apart at w fs ≡ true → at + w ≤ n → x < 256 ^ w → le w m at ≡ x
Back (suc k) (f ∷ fs) n m = Back k fs n m

laid_back : (k : ℕ) (fs : List Field) (l : List ℕ) (n : ℕ) → length l ≡ n → Back k fs n (laid l fs)
laid_back k [] l n e = tt
laid_back zero (field at w x ∷ fs) l n e = λ a h b. laid_other fs (put w l at x) at w a ∙ le-put-same w l at x (omega arith) b
laid_back (suc k) (field at w x ∷ fs) l n e = laid_back k fs (put w l at x) n (length-put w l at x ∙ e)

laid-bytes : (fs : List Field) (l : List ℕ) → ((i : ℕ) → get_or l i 0 < 256) → (i : ℕ) → get_or (laid l fs) i 0 < 256
laid-bytes [] l h = h
laid-bytes (field at w x ∷ fs) l h = laid-bytes fs (put w l at x) ((only_put w l at x).bytes h)

zero_byte : (n i : ℕ) → get_or (replicate n 0) i 0 < 256
zero_byte zero i = omega arith
zero_byte (suc n) zero = omega arith
zero_byte (suc n) (suc i) = zero_byte n i

-- ---- an amount below 2 ^ 64 in sixteen bytes
small_halves : (x lo hi : ℕ) → lo + 256 ^ 8 * hi ≡ x → x < 2 ^ 64 → (lo ≡ x) × (hi ≡ 0)
small_halves x lo hi e h = (omega arith, omega arith)

small_amount : (r : List ℕ) (at x : ℕ) → le 16 r at ≡ x → x < 2 ^ 64 → amount_at r at ≡ bias + x
unfolding amount_at bias
small_amount r at x e h =
    let s = small_halves x (le 8 r at) (le 8 r (at + 8)) (sym (le_split 8 8 r at) ∙ e) h in
    rw (s.0, s.1) refl

-- an amount that is not negative is written as the number's sixteen bytes
pub small_put : (l : List ℕ) (at x n : ℕ) → x < 2 ^ 64 → n ≡ bias + x → put_amount l at n ≡ put 16 l at x
unfolding put_amount bias
small_put l at x n h e =
    let z : x / 256 ^ 8 ≡ 0 = omega arith in
    let lo : n % 2 ^ 64 ≡ x = omega (arith, e) in
    let hi : (n / 2 ^ 64 + 2 ^ 63) % 2 ^ 64 ≡ 0 = omega (arith, e) in
    rw (lo, hi) (sym (put_split 8 8 l at x ∙ ap (put 8 (put 8 l at x) (at + 8)) z))

-- ---- what was drawn is within its bounds
pub record Within (d : Drawn) : Type 0 where
  pub operation : (1 ≤ d.operation) × (d.operation ≤ 30)
  pub caller : d.caller ≤ 63
  pub token : d.token ≤ 63
  pub other : d.other ≤ 63
  pub flag : d.flag ≤ 1
  pub amount : d.amount ≤ 1000

pub draws_within : (last : ℕ) → Within (draws_from last)
unfolding draws_from
draws_within last =
    record { operation = (omega arith, omega arith); caller = omega arith; token = omega arith; other = omega arith; flag = omega arith; amount = omega arith }

-- ---- the vault's own readers
module _ (d : Drawn) (number : ℕ) (w : Within d) (b : number < 2 ^ 32) where
  back : (k : ℕ) → Back k (trial_fields d number) 448 (record_of d number)
  unfolding record_of
  back k = laid_back k (trial_fields d number) (replicate 448 0) 448 refl

  -- 256 ^ 16 has more digits than `omega` takes
  amount_fits : d.amount < 256 ^ 16
  amount_fits = lt_of_le_of_lt w.amount (lit< tt)

  no_fee_bytes : le 16 (record_of d number) 48 ≡ 0
  unfolding record_of le
  no_fee_bytes = laid_other (trial_fields d number) (replicate 448 0) 48 16 refl

  pub read_as : ReadAs (record_of d number) d number
  unfolding record_of
  read_as =
      let o = w.operation.1 in
      record {
        long = laid_long (replicate 448 0) (trial_fields d number);
        operation = back 0 refl (omega arith) (omega arith);
        caller = back 1 refl (omega arith) (omega (arith, w.caller));
        token = back 2 refl (omega arith) (omega (arith, w.token));
        other = back 3 refl (omega arith) (omega (arith, w.other));
        flag = back 4 refl (omega arith) (omega (arith, w.flag));
        one_item = back 5 refl (omega arith) (omega arith);
        timestamp = back 6 refl (omega arith) (omega arith);
        sequence = back 7 refl (omega arith) (omega arith);
        signers = back 8 refl (omega arith) (omega arith);
        amount = small_amount (record_of d number) 32 d.amount (back 9 refl (omega arith) amount_fits) (omega (arith, w.amount));
        no_fee = small_amount (record_of d number) 48 0 no_fee_bytes (omega arith) ∙ add-zero bias;
        item_address_is = back 10 refl (omega arith) (omega (arith, w.other));
        item_amount_is = small_amount (record_of d number) 72 d.amount (back 11 refl (omega arith) amount_fits) (omega (arith, w.amount));
      }

  pub record_bytes : bytes (record_of d number) ≡ true
  unfolding record_of
  record_bytes = bytes_from (record_of d number) (laid-bytes (trial_fields d number) (replicate 448 0) (zero_byte 448))

-- ---- a record that reads so is of good form
or_none : (a b : Bool) → a ≡ false → b ≡ false → a or b ≡ false
unfolding ◌or◌
or_none a b e f = rw (e, f)

unexceeded : (reads : Bool) (most x : ℕ) → x ≤ most → reads and ltb most x ≡ false
unexceeded reads most x h = ap (λ (t : Bool). reads and t) (le-ltb most x h) ∙ and_false reads

module _ (r : List ℕ) (d : Drawn) (number : ℕ) (a : ReadAs r d number) (w : Within d) where
  heads_within : head_exceeds r ≡ false
  unfolding head_exceeds
  heads_within =
      or_none _ _ (unexceeded (reads_caller (operation_of r)) 63 (caller_of r) (rw a.caller w.caller))
      (or_none _ _ (unexceeded (reads_token (operation_of r)) 63 (token_of r) (rw a.token w.token))
      (or_none _ _ (unexceeded (reads_other (operation_of r)) 63 (other_of r) (rw a.other w.other))
      (unexceeded (reads_flag (operation_of r)) 1 (flag_of r) (rw a.flag w.flag))))

  first_item : (i : ℕ) → i < item_count_of r → item_within r i ≡ true
  first_item i h =
      let z : i ≡ 0 = omega (arith, a.one_item) in
      let q : item_address r 0 < 64 = omega (arith, a.item_address_is, w.other) in
      rw z (lt-ltb (item_address r 0) 64 q)

  items_within_lem : items_exceed r ≡ false
  unfolding items_exceed items_within
  items_within_lem =
      let c = a.one_item in
      ap (λ (t : Bool). reads_items (operation_of r) and t)
      (or_none _ _ (le-ltb 16 (item_count_of r) (omega arith)) (ap not (all_from (item_within r) (item_count_of r) first_item)))
      ∙ and_false (reads_items (operation_of r))

  pub good_form : bytes r ≡ true → form_number r ≡ 0
  unfolding form_number
  good_form t =
      let o = a.operation in
      let p = w.operation.0 in
      let q = w.operation.1 in
      sym (stop (form_rules r) 6 (a.long, (omega arith, (omega arith, (heads_within, (items_within_lem, (ap not t, tt)))))))
