-- What the checks of a deposit that passed say of image and amount.
use Rattle.std.specs.Prelude.{◌≡◌, List, ℕ, ◌+◌, ◌≤◌, ◌<◌}
use Rattle.std.proofs.Math.Path.{refl, sym}
use Rattle.std.proofs.Common.{◌∙◌}
use Rattle.checks.specs.Passed.{deposit_amount_free, limit_free, shared_free}
use Rattle.token.specs.Token.{transfer_rules, transfer_number, transfer_of}
use Rattle.token.specs.Laws.{absent_free, transfer_free}
use Rattle.storage.specs.Facts.{Good}
use Rattle.storage.specs.Writes.{default_range}
use Rattle.image.specs.Layout.{slot, default_token, vault_limit, holding, initialised}
use Rattle.amount.specs.Biased.{bias}
use Rattle.fields.specs.Rules.{stop_at, AllFail, free, link_at_lem, unlinked}
use Rattle.deposits.specs.Deposit.{funding_number, expected_rules, expected_number, deposit_holding, expected_holding, receive_number, deposit_checks, fee_rules, fee_number, gross_number}
use Rattle.deposits.specs.Report.{credited_number}
use Rattle.deposits.specs.TokenDeposit.{token_funding_number, token_checks, receive_token_number}
use Rattle.deposits.specs.Laws.{Funded}

pub funding_free : (l : List ℕ) (t seq n : ℕ) {k : ℕ} → k ≡ funding_number l t seq n → k ≡ 0 → holding l (slot t) 1 + n < bias + bias + bias
unfolding funding_number
funding_free l t seq n e z =
    let u = unlinked _ (sym e ∙ z) in
    (limit_free (holding l (slot t) 1) n (vault_limit l) refl u.1.0).0

pub expected_free : (h d : ℕ) {k : ℕ} → k ≡ expected_number h d → k ≡ 0 → h ≡ d
unfolding expected_number
expected_free h d e z = (free (expected_rules h d) refl e z).0

pub as_expected : (h d : ℕ) → h ≡ d → expected_number h d ≡ 0
unfolding expected_number
as_expected h d e = sym (stop_at (expected_rules h d) 1 0 (e, tt) refl)

pub checks_passed : (l : List ℕ) (t caller signers seq n : ℕ) {k : ℕ} → Good l → t ≡ default_token l → k ≡ deposit_checks l caller signers seq n → k ≡ 0 → Funded l t n
unfolding deposit_checks
checks_passed l t caller signers seq n g p e z =
    let u = unlinked _ (sym e ∙ z) in
    let i = shared_free l caller signers refl u.1.0 in
    let (low, high) = default_range l g i in
    rw p
    (record {
      begun = i;
      low = low;
      high = high;
      above = (deposit_amount_free n refl u.1.1.0).0;
      sum = funding_free l (default_token l) seq n refl u.1.1.1.0;
    })

-- a transfer that does not fail, and the vault's holding as expected after it
module _ (l : List ℕ) (t from n : ℕ) where
  pub receive_free : {k : ℕ} → k ≡ receive_number l t from n → k ≡ 0 → AllFail (transfer_rules l t from 1 n) × (deposit_holding l t from n ≡ expected_holding l t n)
  unfolding receive_number
  receive_free e z =
      let u = unlinked _ (sym e ∙ z) in
      (transfer_free l t from 1 n refl u.0, expected_free _ _ refl u.1.0)

  pub received-all : transfer_number l t from 1 n ≡ 0 → deposit_holding l t from n ≡ expected_holding l t n → receive_number l t from n ≡ 0
  unfolding receive_number
  received-all a b = sym (link_at_lem _ 2 0 (a, (as_expected _ _ b, tt)) refl)

-- ---- operation 3
pub gross_free : (gross fee : ℕ) {k : ℕ} → k ≡ gross_number gross fee → k ≡ 0 → AllFail (fee_rules gross fee)
unfolding gross_number fee_number
gross_free gross fee e z = let u = unlinked _ (sym e ∙ z) in free (fee_rules gross fee) refl refl u.0

-- ---- operation 9: a transfer that did not fail
pub credited_free : (l : List ℕ) (t from n : ℕ) {k : ℕ} → k ≡ credited_number (transfer_of l t from 1 n) t from (expected_holding l t n) n → k ≡ 0 → deposit_holding l t from n ≡ expected_holding l t n
unfolding credited_number
credited_free l t from n e z = let u = unlinked _ (sym e ∙ z) in expected_free _ _ refl u.0

-- ---- operation 7
pub token_passed : (l : List ℕ) (t caller signers seq n : ℕ) {k : ℕ} → k ≡ token_checks l caller signers seq t n → k ≡ 0 → (initialised l ≡ 1) × (48 ≤ t) × (t < 64) × (bias < n)
unfolding token_checks token_funding_number
token_passed l t caller signers seq n e z =
    let u = unlinked _ (sym e ∙ z) in
    let v = unlinked _ u.1.1.1.0 in
    let (low, (high, _)) = absent_free l t refl v.1.0 in
    (shared_free l caller signers refl u.1.0, low, high, (deposit_amount_free n refl u.1.1.0).0)

pub receive_token_free : (l : List ℕ) (t from n : ℕ) {k : ℕ} → k ≡ receive_token_number l t from n → k ≡ 0 → receive_number l t from n ≡ 0
unfolding receive_token_number
receive_token_free l t from n e z = let u = unlinked _ (sym e ∙ z) in received-all l t from n u.0 (credited_free l t from n refl u.1.1.0)
