-- What the checks of payouts that passed say of image, payees and amounts.
use Rattle.std.specs.Prelude.{◌≡◌, List, [], ◌∷◌, ℕ, zero, suc, ◌+◌, ◌-◌, ◌≤◌, ◌<◌, length}
use Rattle.std.proofs.Math.Path.{refl, ap}
use Rattle.std.proofs.Common.{sym, ◌∙◌}
use native.Mathlib.Omega.{arith}
use Rattle.checks.specs.Passed.{amount_free, shared_free}
use Rattle.outcome.specs.Outcome.{Formed}
use Rattle.record.specs.Form.{member, reads_items}
use Rattle.record.specs.Record.{item_count_of, item_address}
use Rattle.outcome.specs.FormedLaws.{item_in}
use Rattle.token.specs.Token.{arrives, received, transfer_rules, transfer_number}
use Rattle.token.specs.Laws.{absent_free, transfer_free, debited_from, transfer_to}
use Rattle.storage.specs.Facts.{Good}
use Rattle.storage.specs.Writes.{holding_range, default_range}
use Rattle.image.specs.Layout.{slot, default_token, toll, holding, initialised}
use Rattle.amount.specs.Biased.{bias}
use Rattle.fields.specs.Rules.{stop_at, AllFail, free, or_zero, link_at_lem, unlinked}
use Rattle.payouts.specs.Parts.{Addressed, Payable}
use Rattle.payouts.specs.Token.{withdraw_token_checks, withdraw_token_number}
use Rattle.payouts.specs.Payouts.{Payout, items, item_rules, item_number, items_number, withdraw_checks, held_after, remaining_rules, remaining_number, pay_number, payouts_number, withdraw_number}

-- ---- the items of a record
pub items-length : (n i : ℕ) (r : List ℕ) → length (items n i r) ≡ n
unfolding items
items-length zero i r = refl
items-length (suc n) i r = ap suc (items-length n (suc i) r)

pub items_addressed : (n i : ℕ) (r : List ℕ) → ((j : ℕ) → i ≤ j → j < i + n → item_address r j < 64) → Addressed (items n i r)
unfolding items
items_addressed zero i r h = tt
items_addressed (suc n) i r h = (h i (omega arith) (omega arith), items_addressed n (suc i) r (λ j p q. h j (omega arith) (omega arith)))

pub items_in : (n : ℕ) (r : List ℕ) → ((j : ℕ) → j < n → item_address r j < 64) → Addressed (items n 0 r)
items_in n r h = items_addressed n 0 r (λ j p q. h j (omega arith))

pub batch_addressed : {r : List ℕ} → Formed 6 r → Addressed (items (item_count_of r) 0 r)
unfolding reads_items member
batch_addressed {r} f = items_in (item_count_of r) r (item_in f refl)

-- ---- amounts
pub item_free : (sum n : ℕ) {k : ℕ} → k ≡ item_number sum n → k ≡ 0 → AllFail (item_rules sum n)
unfolding item_number
item_free sum n e z = free (item_rules sum n) refl e z

pub payable : (ps : List Payout) (sum : ℕ) → Addressed ps → items_number ps sum ≡ 0 → Payable ps
unfolding items_number
payable [] sum a z = tt
payable (p ∷ ps) sum a z =
    let o = or_zero _ _ z in
    let above = (item_free sum p.amount refl o.0).0 in
    ((a.0, omega arith), payable ps (sum + p.amount - bias) a.1 o.1)

-- ---- payouts
pub pay_free : (l : List ℕ) (t to n : ℕ) {k : ℕ} → k ≡ pay_number l t to n → k ≡ 0 → AllFail (transfer_rules l t 1 to n) × (held_after l t to n ≡ holding l (slot t) 1 + bias - n)
unfolding pay_number remaining_number
pay_free l t to n e z =
    let u = unlinked _ (sym e ∙ z) in
    (transfer_free l t 1 to n refl u.0, (free (remaining_rules l t to n) refl refl u.1.0).0)

-- a payout to the vault itself: 13 while the toll is below the amount, and done where it is not
module _ (l : List ℕ) (t n : ℕ) (g : Good l) (p : bias ≤ n) (f : transfer_number l t 1 1 n ≡ 0) where
  held_back : held_after l t 1 n ≡ holding l (slot t) 1 + bias - n + (n - toll l (slot t))
  unfolding received arrives
  held_back =
      let (low, (high, (moving, (enough, (fits, _))))) = transfer_free l t 1 1 n refl f in
      let (a, b) = holding_range l (slot t) 1 g (omega arith) (omega arith) in
      transfer_to l t 1 1 n g.long high (omega arith) (omega arith) fits
      ∙ ap (λ (k : ℕ). k + (n - toll l (slot t))) (debited_from l t 1 n g.long high (omega arith) (omega arith))

  pub vault-refused : toll l (slot t) < n → 13 ≡ pay_number l t 1 n
  unfolding pay_number remaining_number
  vault-refused h =
      let v : 13 ≡ remaining_number l t 1 n = stop_at _ 0 13 (λ z. let r = held_back in omega arith) refl in
      link_at_lem _ 1 13 (f, λ z. omega arith) v

  pub vault_paid : n ≤ toll l (slot t) → 0 ≡ pay_number l t 1 n
  unfolding pay_number remaining_number
  vault_paid h =
      let r = held_back in
      let v : 0 ≡ remaining_number l t 1 n = stop_at _ 1 0 (omega arith, tt) refl in
      link_at_lem _ 2 0 (f, (sym v, tt)) refl

-- the image is initialised, its default token is a token, and the payouts can be made
pub record Cleared (l : List ℕ) (t : ℕ) (ps : List Payout) : Type 0 where
  pub begun : initialised l ≡ 1
  pub low : 48 ≤ t
  pub high : t < 64
  pub amounts : Payable ps

pub checks_passed : (l : List ℕ) (t caller signers : ℕ) (ps : List Payout) {k : ℕ} → Good l → Addressed ps → t ≡ default_token l → k ≡ withdraw_checks l caller signers ps → k ≡ 0
    → Cleared l t ps
unfolding withdraw_checks
checks_passed l t caller signers ps g a p e z =
    let u = unlinked _ (sym e ∙ z) in
    let i = shared_free l caller signers refl u.1.0 in
    let (low, high) = default_range l g i in
    rw p (record { begun = i; low = low; high = high; amounts = payable ps bias a u.1.1.1.0 })

-- .. of the items of a record
pub batch_passed : (l : List ℕ) (t caller signers n : ℕ) (r : List ℕ) {k : ℕ} → Good l → ((j : ℕ) → j < n → item_address r j < 64) → t ≡ default_token l → k ≡ withdraw_checks l caller signers (items n 0 r) → k ≡ 0
    → Cleared l t (items n 0 r)
batch_passed l t caller signers n r g a p e z = checks_passed l t caller signers (items n 0 r) g (items_in n r a) p e z

-- the same of the token that the record names
pub record ClearedToken (l : List ℕ) (t n : ℕ) : Type 0 where
  pub begun : initialised l ≡ 1
  pub low : 48 ≤ t
  pub high : t < 64
  pub above : bias < n

pub token_checks_passed : (l : List ℕ) (t caller signers n : ℕ) {k : ℕ} → k ≡ withdraw_token_checks l t caller signers n → k ≡ 0 → ClearedToken l t n
unfolding withdraw_token_checks
token_checks_passed l t caller signers n e z =
    let u = unlinked _ (sym e ∙ z) in
    let (low, (high, _)) = absent_free l t refl u.1.1.1.1.0 in
    record { begun = shared_free l caller signers refl u.1.0; low = low; high = high; above = (amount_free n refl u.1.1.0).0 }

-- ---- the parts of an accepted operation
pub withdraw_parts : (l : List ℕ) (caller signers seq : ℕ) (ps : List Payout) → withdraw_number l caller signers seq ps ≡ 0
    → (withdraw_checks l caller signers ps ≡ 0) × (payouts_number ps (default_token l) seq l ≡ 0)
unfolding withdraw_number
withdraw_parts l caller signers seq ps z = let u = unlinked _ z in (u.0, u.1.0)

pub token_parts : (l : List ℕ) (t caller signers to n : ℕ) → withdraw_token_number l t caller signers to n ≡ 0 → (withdraw_token_checks l t caller signers n ≡ 0) × (pay_number l t to n ≡ 0)
unfolding withdraw_token_number
token_parts l t caller signers to n z = let u = unlinked _ z in (u.0, u.1.0)
