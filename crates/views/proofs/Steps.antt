-- The values of the views, from what the functions called say.
use mathlib.Core.Path.{◌≡◌}
use mathlib.Core.List.{List}
use Prim.Native.Nat.{ℕ, ◌+◌, ◌-◌, ◌≤◌, ◌<◌}
use native.Mathlib.Omega.{arith}
use borrow.Author.Tests.{eq-eqb, ne_eqb, lt-ltb, le-ltb}
use Rattle.storage.specs.Facts.{Good}
use Rattle.storage.specs.Writes.{holding_range, credit_range, default_range}
use Rattle.token.specs.Token.{vault_balance}
use Rattle.image.specs.Layout.{slot, owner, default_token, operator_limit, credit, initialised, has_operator_limit}
use Rattle.amount.specs.Laws.{by_lt}
use Rattle.amount.specs.Biased.{bias}
use Rattle.views.specs.Views.{effective_value, account_balance}

pub operator_limit_range : (l : List ℕ) → Good l → initialised l ≡ 1 → bias ≤ operator_limit l
operator_limit_range l g i =
    let f = g.fields i in
    by_lt (has_operator_limit l) 1 (bias ≤ operator_limit l)
    (λ h. let e = f.no_operator_limit (omega arith) in omega arith)
    (λ h. let e = f.operator_limit (omega arith) in omega arith)

pub default_holding : (l : List ℕ) → Good l → initialised l ≡ 1 → bias ≤ vault_balance l
default_holding l g i = let (low, high) = default_range l g i in (holding_range l (slot (default_token l)) 1 g (omega arith) (omega arith)).0

pub shown_balance : (l : List ℕ) {z : ℕ} → Good l → initialised l ≡ 1 → z ≡ vault_balance l → z ≡ bias + (vault_balance l - bias)
shown_balance l g i e = let d = default_holding l g i in omega arith

module _ (l : List ℕ) (caller : ℕ) (g : Good l) (i : initialised l ≡ 1) {h : ℕ} (e : h ≡ vault_balance l) where
  pub owner_value : owner l ≡ caller → h ≡ bias + effective_value l caller
  unfolding effective_value
  owner_value o = let d = default_holding l g i in rw (eq-eqb (owner l) caller o) (omega arith)

  module _ (n : owner l ≡ caller → ⊥) where
    pub capped_value : {m : ℕ} → m ≡ operator_limit l → m < h → m ≡ bias + effective_value l caller
    unfolding effective_value
    capped_value q r = let d = default_holding l g i in let w = operator_limit_range l g i in rw (ne_eqb (owner l) caller n) (omega arith)

    pub full_value : {m : ℕ} → m ≡ operator_limit l → h ≤ m → h ≡ bias + effective_value l caller
    unfolding effective_value
    full_value q r = let d = default_holding l g i in let w = operator_limit_range l g i in rw (ne_eqb (owner l) caller n) (omega arith)

pub no_token : (l : List ℕ) (t a : ℕ) {z : ℕ} → t < 64 → (48 ≤ t → 64 ≤ t) → z ≡ bias → z ≡ bias + account_balance l t a
unfolding account_balance
no_token l t a h k e = let low : t < 48 = grind (arith, k) in rw (lt-ltb t 48 low) (omega arith)

pub token_credit : (l : List ℕ) (t a : ℕ) {z : ℕ} → Good l → 48 ≤ t → t < 64 → a < 64 → z ≡ credit l (slot t) a → z ≡ bias + account_balance l t a
unfolding account_balance
token_credit l t a g low high ah e = let (b, _) = credit_range l (slot t) a g (omega arith) ah in rw (le-ltb t 48 low) (omega arith)
