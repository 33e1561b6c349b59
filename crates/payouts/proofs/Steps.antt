-- The steps of a payout, from what the functions called say.
use mathlib.Core.Path.{◌≡◌, refl, sym, ◌∙◌}
use mathlib.Core.Bool.{Bool, true, false}
use mathlib.Core.List.{List, [], ◌∷◌}
use Prim.Native.Nat.{ℕ, ◌+◌, ◌-◌, ◌≤◌, ◌<◌}
use native.Mathlib.Omega.{arith}
use borrow.Author.Tests.{le-leb, lt-leb}
use lib.Dec.{leb}
use Rattle.std.specs.Prelude.{FitsSigned}
use Rattle.std.specs.Int.{w128}
use Rattle.std.proofs.Common.{Result}
use Rattle.amount.specs.declared.Amount.{Amount}
use Rattle.amount.specs.Laws.{biased_below}
use Rattle.refusal.specs.declared.Refusal.{Refusal}
use Rattle.refusal.specs.Numbers.{number_of, code}
use Rattle.refusal.specs.Laws.{code_passed, some_number}
use Rattle.outcome.specs.Outcome.{Refuses}
use Rattle.checks.specs.Checks.{paused_number, shared_number, amount_number, cap_number, funds_number}
use Rattle.token.specs.Token.{vault_balance, transfer_number, transfer_of, transferred}
use Rattle.token.specs.Laws.{transfer_free, transfer_done}
use Rattle.storage.specs.Setters.{set_credit}
use Rattle.image.specs.Layout.{slot, holding, credit}
use Rattle.amount.specs.Biased.{bias, biased}
use Rattle.fields.specs.Rules.{pick, eq, when, verdict, stop_at, or_else, or_none, chain}
use Rattle.payouts.specs.Laws.{items-length}
use Rattle.payouts.specs.Parts.{Pays}
use Rattle.payouts.specs.Token.{take_credit}
use Rattle.payouts.specs.Payouts.{Payout, payout, items, no_item_rules, no_item_number, item_number, items_number, items_sum, withdraw_checks, payouts_number}

-- ---- credits: c is the credit read
module _ (l : List ℕ) (t a n : ℕ) {c : ℕ} (e : c ≡ credit l (slot t) a) where
  -- m is what is left of it, y the image after
  pub credit_lowered : {m : ℕ} {y : List ℕ} → n ≤ c → m ≡ c + bias - n → y ≡ set_credit l t a m → y ≡ take_credit l t a n
  unfolding take_credit
  credit_lowered h f g = rw (g, f, e, le-leb n (credit l (slot t) a) (omega arith))

  pub credit_kept : c < n → l ≡ take_credit l t a n
  unfolding take_credit
  credit_kept h = rw (lt-leb n (credit l (slot t) a) (omega arith))

-- ---- the items of a record: there is none where their number is 0
pub item_checks : (l : List ℕ) (caller signers n : ℕ) (r : List ℕ) {k : ℕ}
    → k ≡ chain (paused_number l ∷ shared_number l caller signers ∷ verdict (when (eq n 0) 4 ∷ []) ∷ items_number (items n 0 r) bias ∷ cap_number l caller (items_sum (items n 0 r) bias) ∷ funds_number (vault_balance l) (items_sum (items n 0 r) bias) ∷ [])
    → k ≡ withdraw_checks l caller signers (items n 0 r)
unfolding withdraw_checks no_item_number
item_checks l caller signers n r e = rw (items-length n 0 r) e

-- ---- one item's checks are those of a list of one
one_item : (to n : ℕ) {k : ℕ} → n < bias + bias → k ≡ amount_number n → k ≡ items_number (payout to n ∷ []) bias
unfolding items_number item_number amount_number verdict
one_item to n b e = e ∙ sym (or_none _ ∙ same (leb n bias) refl)
  where
    fits : leb (bias + bias + bias) (bias + n) ≡ false
    fits = lt-leb (bias + bias + bias) (bias + n) (omega arith)

    same : (x : Bool) → leb n bias ≡ x → ◌≡◌ {A = ℕ} (pick x 4 (pick (leb (bias + bias + bias) (bias + n)) 7 0)) (pick x 4 0)
    same true q = refl
    same false q = rw fits

one-sum : (to n : ℕ) → items_sum (payout to n ∷ []) bias ≡ n
unfolding items_sum
one-sum to n = omega arith

one_none : (p : Payout) (ps : List Payout) → no_item_number (p ∷ ps) ≡ 0
unfolding no_item_number
one_none p ps = sym (stop_at (no_item_rules (p ∷ ps)) 1 0 (omega arith, tt) refl)

pub one_checks : (l : List ℕ) (caller signers to : ℕ) (a : Amount) {k : ℕ} → FitsSigned w128 a.0
    → k ≡ chain (paused_number l ∷ shared_number l caller signers ∷ amount_number (biased a) ∷ cap_number l caller (biased a) ∷ funds_number (vault_balance l) (biased a) ∷ [])
    → k ≡ withdraw_checks l caller signers (payout to (biased a) ∷ [])
unfolding withdraw_checks chain or_else
one_checks l caller signers to a b e = rw (one_none (payout to (biased a)) [], one-sum to (biased a), ← one_item to (biased a) (biased_below a b) refl) e

-- ---- the transfer and what it leaves
module _ (l : List ℕ) (t to n : ℕ) where
  pub had : {h : ℕ} → 0 ≡ transfer_number l t 1 to n → h ≡ holding l (slot t) 1 → n ≤ h
  had e f = let g = (transfer_free l t 1 to n e refl).1.1.1.0 in omega arith

  -- y is the image after the transfer, which gave k
  pub sent_is : {y : List ℕ} {k : ℕ} → k ≡ transfer_number l t 1 to n → k ≡ 0 → y ≡ transferred l t 1 to n → y ≡ transfer_of l t 1 to n
  sent_is a b c = c ∙ transfer_done l t 1 to n (sym a ∙ b)

-- ---- what payouts that refused owe, they owe of the answer that passes the refusal on
pub passed_pays : {ps : List Payout} {t seq caller by : ℕ} {l e : List ℕ} {i : ℕ} {m v : List ℕ} (x : Refusal) (r : Result (Unit {0}) Refusal) → Refuses r x → number_of x ≡ payouts_number ps t seq l → Pays ps t seq caller by l e i (code r) m v
passed_pays x r p d = rw (code_passed x r p) (record { numbered = d; changed = λ y. absurd (some_number x y); written = λ y. absurd (some_number x y) })
