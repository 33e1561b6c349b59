-- What the program prints for a record, and the image that it carries on to the next (docs/FORMATS.md, "The program").
use Rattle.std.specs.Prelude.{◌≡◌, List, [], ℕ, ◌+◌, ◌-◌, ◌<◌, ℤ, pos}
use Rattle.std.proofs.Common.{FitsSigned, sym, ap, ◌∙◌, append-nil, arith}
use Rattle.std.proofs.Math.IntN.{sub_ℕ}
use Rattle.std.specs.Int.{w128}
use Rattle.amount.specs.Biased.{bias, biased, amount_at}
use Rattle.amount.specs.Laws.{subℕ_ge, biased_below}
use Rattle.amount.specs.Value.{value, value-biased}
use Rattle.amount.specs.declared.Amount.{Amount}
use Rattle.answer_line.specs.Decimal.{line}
use Rattle.answer_line.specs.declared.Answer.{Answer as Printed}
use Rattle.events.specs.Splice.{amount_bytes, amount_at-amount_bytes}
use Rattle.journal.specs.Calls.{Answer, Step, Call}
use Rattle.journal.specs.Step.{vault, blank}
use Rattle.token_vault.specs.Public.{closed_journal}
use Rattle.token_vault.specs.Vault.{vault_step}

-- the sixteen bytes of a value as a signed number
unfoldable pub signed_at : List ℕ → ℤ
signed_at l = sub_ℕ (amount_at l 0) bias

-- the line of an answer, from the bytes of its value that a call hands out
unfoldable pub answer_line : Answer → List ℕ
answer_line a = line a.number (signed_at (amount_bytes (bias + a.value))) a.count

-- the line of what is printed
abbrev pub text_of : Printed → List ℕ
text_of a = line a.number (value a.value) a.events

-- the step of a record r at the image l: no journal, and a blank event buffer
unfoldable pub record_step : (l r : List ℕ) → Step
record_step l r = vault_step (vault l closed_journal) (Call.operation r blank)

-- t is the line of some answer
pub record IsLine (t : List ℕ) : Type 0 where
  pub answer : Answer
  pub same : t ≡ answer_line answer

-- text and image are those of the step
pub record Prints (s : Step) (text image : List ℕ) : Type 0 where
  pub printed : text ≡ answer_line s.answer
  pub carried : image ≡ s.state.image

-- what is read from the bytes of an amount
signed-bytes : (n : ℕ) → n < bias + bias → signed_at (amount_bytes n) ≡ sub_ℕ n bias
unfolding signed_at
signed-bytes n h = ap (λ (m : ℕ). sub_ℕ m bias) (ap (λ (l : List ℕ). amount_at l 0) (sym (append-nil (amount_bytes n))) ∙ amount_at-amount_bytes n [] h)

pub signed_bytes : (a : Amount) → FitsSigned w128 a.0 → value a ≡ signed_at (amount_bytes (biased a))
signed_bytes a f = value-biased a f ∙ sym (signed-bytes (biased a) (biased_below a f))

-- a value below 2 ^ 127 is printed as it is
pub signed_at-value : (v : ℕ) → v < bias → signed_at (amount_bytes (bias + v)) ≡ pos v
signed_at-value v h = signed-bytes (bias + v) (omega arith) ∙ over v bias
  where
    over : (x b : ℕ) → sub_ℕ (b + x) b ≡ pos x
    over x b = let e : b + x - b ≡ x = omega arith in subℕ_ge (b + x) b (omega arith) ∙ ap pos e
