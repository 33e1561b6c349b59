-- What a check that gave 0 says: its rules all fail.
use Rattle.std.specs.Prelude.{◌≡◌, List, [], ◌∷◌, ℕ, zero, suc, Bool, true, false, not, ltb, leb}
use Rattle.std.proofs.Math.Path.{refl, sym}
use Rattle.std.proofs.Common.{◌∙◌, ltb-true, ltb-false, le-leb}
use Rattle.std.proofs.lemmas.Bool.{lt-leb}
use Rattle.image.specs.Layout.{bit, flags, owner, initialised}
use Rattle.fields.specs.Rules.{AllFail, free, or_else, chain, unlinked}
use Rattle.refusal.specs.declared.Refusal.{Refusal}
use Rattle.refusal.specs.Numbers.{number_of}
use Rattle.refusal.specs.Laws.{some_number}
use Rattle.checks.specs.Checks.{flag, paused_number, initialised_bit, initialised_rules, initialised_number, owner_rules, not_owner_number, owner_number, insider_rules, not_insider_number, shared_number, amount_rules, amount_number, deposit_amount_rules, deposit_amount_number, limit_rules, limit_number}

pub flag_is : (k : ℕ) (l : List ℕ) → flag k l ≡ bit (flags l) k
unfolding flag
flag_is k l = refl

module _ {k : ℕ} where
  pub initialised_free : (l : List ℕ) → k ≡ initialised_number l → k ≡ 0 → initialised l ≡ 1
  unfolding initialised_number
  initialised_free l e z = sym (flag_is initialised_bit l) ∙ (free (initialised_rules l) refl e z).0

  pub not-owner_free : (l : List ℕ) (caller : ℕ) → k ≡ not_owner_number l caller → k ≡ 0 → AllFail (owner_rules l caller)
  unfolding not_owner_number
  not-owner_free l caller e z = free (owner_rules l caller) refl e z

  pub not-insider_free : (l : List ℕ) (caller : ℕ) → k ≡ not_insider_number l caller → k ≡ 0 → AllFail (insider_rules l caller)
  unfolding not_insider_number
  not-insider_free l caller e z = free (insider_rules l caller) refl e z

  pub amount_free : (n : ℕ) → k ≡ amount_number n → k ≡ 0 → AllFail (amount_rules n)
  unfolding amount_number
  amount_free n e z = free (amount_rules n) refl e z

  pub deposit_amount_free : (n : ℕ) → k ≡ deposit_amount_number n → k ≡ 0 → AllFail (deposit_amount_rules n)
  unfolding deposit_amount_number
  deposit_amount_free n e z = free (deposit_amount_rules n) refl e z

  pub limit_free : (h n limit : ℕ) → k ≡ limit_number h n limit → k ≡ 0 → AllFail (limit_rules h n limit)
  unfolding limit_number
  limit_free h n limit e z = free (limit_rules h n limit) refl e z

-- the owner gate passed
pub owner_free : {k : ℕ} (l : List ℕ) (caller signers : ℕ) → k ≡ owner_number l caller signers → k ≡ 0 → (initialised l ≡ 1) × (owner l ≡ caller)
unfolding owner_number
owner_free l caller signers e z =
    let u = unlinked _ (sym e ∙ z) in
    let (i, (o, _)) = not-owner_free l caller refl u.0 in
    (sym (flag_is initialised_bit l) ∙ i, o)

-- the shared gate passed
pub shared_free : {k : ℕ} (l : List ℕ) (caller signers : ℕ) → k ≡ shared_number l caller signers → k ≡ 0 → initialised l ≡ 1
unfolding shared_number
shared_free l caller signers e z =
    let u = unlinked _ (sym e ∙ z) in
    let (i, _) = not-insider_free l caller refl u.0 in
    sym (flag_is initialised_bit l) ∙ i

-- the open gate first in a list of checks, x being what follows it: where it refused, and where it passed
module _ (l : List ℕ) (caller signers x : ℕ) where
  pub gate_refused : (e : Refusal) → number_of e ≡ chain (paused_number l ∷ shared_number l caller signers ∷ []) → number_of e ≡ or_else (paused_number l) (or_else (shared_number l caller signers) x)
  unfolding chain or_else
  gate_refused e h = go (paused_number l) (shared_number l caller signers) h
    where
      go : (a b : ℕ) → number_of e ≡ or_else a (or_else b 0) → number_of e ≡ or_else a (or_else b x)
      go zero zero f = absurd (some_number e f)
      go zero (suc b) f = f
      go (suc a) b f = f

  pub gate_passed : {y : ℕ} → 0 ≡ chain (paused_number l ∷ shared_number l caller signers ∷ []) → y ≡ x → y ≡ or_else (paused_number l) (or_else (shared_number l caller signers) x)
  unfolding or_else
  gate_passed h e = let z = unlinked (paused_number l ∷ shared_number l caller signers ∷ []) (sym h) in rw (z.0, z.1.0) e

pub gate_free : {k : ℕ} (l : List ℕ) (caller signers : ℕ) → k ≡ chain (paused_number l ∷ shared_number l caller signers ∷ []) → k ≡ 0 → initialised l ≡ 1
gate_free l caller signers e z = shared_free l caller signers refl (unlinked (paused_number l ∷ shared_number l caller signers ∷ []) (sym e ∙ z)).1.0

-- the test of an amount that is not above another
pub not_above : (a b : ℕ) → not (ltb a b) ≡ leb b a
not_above a b = go (ltb a b) refl
  where
    go : (t : Bool) → ltb a b ≡ t → not t ≡ leb b a
    go true e = sym (lt-leb b a (ltb-true a b e))
    go false e = sym (le-leb b a (ltb-false a b e))
