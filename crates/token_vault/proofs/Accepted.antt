-- What a call that passed 32 and 33 has shown, and what an accepted one leaves.
use mathlib.Core.Path.{◌≡◌, refl}
use mathlib.Core.List.{List}
use Prim.Native.Nat.{ℕ, zero, suc}
use native.Mathlib.Omega.{arith}
use lib.ListN.{length}
use Rattle.events.specs.Event.{event_buffer}
use Rattle.events.specs.Buffer.{buffer_long}
use Rattle.record.specs.Form.{form_number}
use Rattle.record.specs.Laws.{form_length}
use Rattle.fields.specs.Rules.{unlinked}
use Rattle.operations.specs.Operations.{outcome_of}
use Rattle.token_vault.specs.Vault.{call_number, by_form, op}

pub record Accepted (l r e : List ℕ) : Type 0 where
  pub formed : form_number r ≡ 0
  pub agreed : (outcome_of l r).number ≡ 0
  pub left : (op l r e).image ≡ (outcome_of l r).image
  pub said : (op l r e).answer.events ≡ event_buffer (outcome_of l r).events

pub form_zero : (r e : List ℕ) → call_number r e ≡ 0 → form_number r ≡ 0
unfolding call_number
form_zero r e q = (unlinked _ q).0

pub call_long : (r e : List ℕ) → call_number r e ≡ 0 → (length r ≡ 448) × (length e ≡ 896)
unfolding call_number
call_long r e q = let z = unlinked _ q in (form_length r z.0, buffer_long e z.1.0)

pub accepted_call : (l r e : List ℕ) → (op l r e).answer.number ≡ 0 → Accepted l r e
unfolding op
accepted_call l r e z = go (call_number r e) (outcome_of l r).number refl refl z
  where
    go : (k n : ℕ) → call_number r e ≡ k → (outcome_of l r).number ≡ n → (by_form k (outcome_of l r) l e).answer.number ≡ 0 → Accepted l r e
    go zero zero p q z = record { formed = form_zero r e p; agreed = q; left = rw (p, q); said = rw (p, q) }
    go zero (suc n) p q z = absurd (let w : suc n ≡ 0 = rw q at z in omega arith)
    go (suc k) n p q z = absurd (omega arith)
