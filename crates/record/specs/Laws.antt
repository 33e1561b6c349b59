-- What a record of good form has: its length, its operation, and a bound on each field that its operation reads.
use Rattle.std.specs.Prelude.{◌≡◌, refl, Bool, true, false, not, List, ◌∷◌, ℕ, ◌≤◌, ◌<◌, ltb, length, get_or, replicate}
use Rattle.std.proofs.Common.{sym, ap, ◌∙◌}
use native.Mathlib.Omega.{arith}
use borrow.Author.Tests.{ltb-true, ltb-false, not-false}
use Rattle.fields.specs.Logic.{◌and◌, ◌or◌, true_and, all-at}
use Rattle.fields.specs.Rules.{AllFail, verdict, passed}
use Rattle.fields.specs.Bytes.{le, bytes, bytes-at}
use Rattle.record.specs.Record.{operation_of, caller_of, token_of, other_of, flag_of, item_count_of, item_address}
use Rattle.record.specs.Form.{reads_caller, reads_token, reads_other, reads_flag, reads_items, member, item_within, items_within, head_exceeds, items_exceed, form_rules, form_number}

-- ---- good form
form_passed : (r : List ℕ) → form_number r ≡ 0 → AllFail (form_rules r)
unfolding form_number
form_passed r z = passed (form_rules r) refl z

pub form_length : (r : List ℕ) → form_number r ≡ 0 → length r ≡ 448
form_length r z = (form_passed r z).0

pub form_operation : (r : List ℕ) → form_number r ≡ 0 → (1 ≤ operation_of r) × (operation_of r ≤ 30)
form_operation r z = let f = form_passed r z in (f.1.0, f.1.1.0)

pub form_bytes : (r : List ℕ) → form_number r ≡ 0 → (i : ℕ) → get_or r i 0 < 256
form_bytes r z = bytes-at r (not-false (bytes r) (form_passed r z).1.1.1.1.1.0)

-- of a field that is read, the test itself
read_false : (reads b : Bool) → reads and b ≡ false → reads ≡ true → b ≡ false
read_false reads b e t = sym (true_and b) ∙ ap (λ (q : Bool). q and b) (sym t) ∙ e

or_false_l : (a b : Bool) → a or b ≡ false → a ≡ false
unfolding ◌or◌
or_false_l true b e = e
or_false_l false b e = refl

or_false_r : (a b : Bool) → a or b ≡ false → b ≡ false
unfolding ◌or◌
or_false_r true b e = cc
or_false_r false b e = e

-- a field that is read is not above its most
read_below : (reads : Bool) (most x : ℕ) → reads and ltb most x ≡ false → reads ≡ true → x ≤ most
read_below reads most x e t = ltb-false most x (read_false reads (ltb most x) e t)

-- o is the operation, and at a number whether o reads a field computes
module _ (r : List ℕ) (o : ℕ) (z : form_number r ≡ 0) (e : operation_of r ≡ o) where
  pub caller_below : reads_caller o ≡ true → caller_of r < 64
  unfolding head_exceeds
  caller_below t =
      let h = read_below (reads_caller (operation_of r)) 63 (caller_of r) (or_false_l _ _ (form_passed r z).1.1.1.0) (ap reads_caller e ∙ t) in
      omega arith

  pub token_below : reads_token o ≡ true → token_of r < 64
  unfolding head_exceeds
  token_below t =
      let h = read_below (reads_token (operation_of r)) 63 (token_of r) (or_false_l _ _ (or_false_r _ _ (form_passed r z).1.1.1.0)) (ap reads_token e ∙ t) in
      omega arith

  pub other_below : reads_other o ≡ true → other_of r < 64
  unfolding head_exceeds
  other_below t =
      let h = read_below (reads_other (operation_of r)) 63 (other_of r) (or_false_l _ _ (or_false_r _ _ (or_false_r _ _ (form_passed r z).1.1.1.0))) (ap reads_other e ∙ t) in
      omega arith

  pub flag_below : reads_flag o ≡ true → flag_of r ≤ 1
  unfolding head_exceeds
  flag_below t =
      read_below (reads_flag (operation_of r)) 1 (flag_of r) (or_false_r _ _ (or_false_r _ _ (or_false_r _ _ (form_passed r z).1.1.1.0))) (ap reads_flag e ∙ t)

  items_passed : reads_items o ≡ true → ltb 16 (item_count_of r) or not (items_within r (item_count_of r)) ≡ false
  unfolding items_exceed
  items_passed t = read_false (reads_items (operation_of r)) _ (form_passed r z).1.1.1.1.0 (ap reads_items e ∙ t)

  pub count_below : reads_items o ≡ true → item_count_of r ≤ 16
  count_below t = ltb-false 16 (item_count_of r) (or_false_l _ _ (items_passed t))

  pub item_below : reads_items o ≡ true → (i : ℕ) → i < item_count_of r → item_address r i < 64
  unfolding items_within
  item_below t i h =
      ltb-true (item_address r i) 64 (all-at (item_within r) (item_count_of r) i h (not-false (items_within r (item_count_of r)) (or_false_r _ _ (items_passed t))))

-- ---- worked examples
reads_at : (reads_caller 5 ≡ true) × (reads_caller 24 ≡ false) × (reads_token 29 ≡ true) × (reads_other 29 ≡ true) × (reads_flag 30 ≡ true) × (reads_items 6 ≡ true)
unfolding reads_caller reads_token reads_other reads_flag reads_items member
reads_at = (refl, refl, refl, refl, refl, refl)

-- at a known operation
withdraw_caller : (r : List ℕ) → form_number r ≡ 0 → operation_of r ≡ 5 → caller_of r < 64
unfolding reads_caller member
withdraw_caller r z e = caller_below r 5 z e refl

-- a record of zeros but for operation 24, which reads no field, and one for operation 5 to an address of 64
balance_form : form_number (24 ∷ replicate 447 0) ≡ 0
unfolding form_number verdict head_exceeds items_exceed reads_caller reads_token reads_other reads_flag reads_items member le ◌and◌ ◌or◌ bytes
balance_form = refl

withdraw_form : form_number (5 ∷ 0 ∷ 0 ∷ 64 ∷ replicate 444 0) ≡ 32
unfolding form_number verdict head_exceeds items_exceed reads_caller reads_token reads_other reads_flag reads_items member le ◌and◌ ◌or◌ bytes
withdraw_form = refl
