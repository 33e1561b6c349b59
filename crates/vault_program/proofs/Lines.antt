-- A call's answer, put into a line.
use mathlib.Core.Path.{◌≡◌, refl, ◌∙◌}
use mathlib.Core.List.{List, [], ◌∷◌, ◌++◌}
use Prim.Native.Nat.{ℕ}
use lib.IntN.{ℤ}
use Rattle.answer_line.specs.Decimal.{line, answer_words, answer_words-end}
use Rattle.events.specs.Splice.{amount_bytes}
use Rattle.journal.specs.Calls.{Step}
use Rattle.outcome.specs.Outcome.{Answer, value_of, count_of}
use Rattle.refusal.specs.Numbers.{code}
use Rattle.token_vault.specs.Public.{Answers}
use Rattle.vault_program.specs.Program.{signed_at, answer_line, Prints}

-- the words of an answer, and then a line feed
pub line_end : (n : ℕ) (z : ℤ) (k : ℕ) → answer_words n z k [] ++ (10 ∷ []) ≡ line n z k
unfolding line
line_end n z k = answer_words-end n z k (10 ∷ [])

pub prints : {s : Step} {a : Answer} {n k : ℕ} {e i t : List ℕ} {z : ℤ} → Answers s.answer a e → i ≡ s.state.image → n ≡ code a → z ≡ signed_at (amount_bytes (value_of a)) → k ≡ count_of a → t ≡ line n z k → Prints s t i
unfolding answer_line
prints d c n z k w = record { printed = w ∙ rw (n, z, k, d.numbered, d.valued, d.counted) refl; carried = c }
