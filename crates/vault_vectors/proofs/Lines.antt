-- A call's answer and bytes, put into the line of its step.
use mathlib.Core.Path.{◌≡◌, refl, ◌∙◌}
use mathlib.Core.List.{List, []}
use Prim.Native.Nat.{ℕ}
use native.Mathlib.Nat.{add-zero}
use Rattle.std.specs.Prelude.{Result, Ok, Err}
use Rattle.std.specs.Result.{result_and}
use Rattle.amount.specs.Biased.{bias, biased}
use Rattle.answer_line.specs.Decimal.{answer_words}
use Rattle.events.specs.Splice.{amount_bytes}
use Rattle.journal.specs.Calls.{Step}
use Rattle.journal.specs.Step.{vault}
use Rattle.outcome.specs.Outcome.{Answer, value_of, count_of}
use Rattle.outcome.specs.declared.Done.{Done}
use Rattle.refusal.specs.declared.Refusal.{Refusal}
use Rattle.refusal.specs.Numbers.{code}
use Rattle.token_vault.specs.Public.{Replies, Answers, JournalIs}
use Rattle.token_vault.specs.Preview.{preview_answer, preview, request_step}
use Rattle.vault_program.specs.Program.{signed_at}
use Rattle.vault_vectors.specs.Vectors.{digests, step_line, PrintsStep}
use Rattle.vault_vectors.proofs.Transactions.{Quiet}

-- the words of an answer and of the bytes after it
abbrev words : Answer → (events image journal : List ℕ) → List ℕ
words a e i j = answer_words (code a) (signed_at (amount_bytes (value_of a))) (count_of a) (digests e i j)

pub operation_prints : {s : Step} {a : Answer} {e i j t : List ℕ} → Replies s a e i j → t ≡ words a e i j → PrintsStep s t i j
unfolding step_line
operation_prints d w =
    record {
      printed = w ∙ rw (d.numbered, d.valued, d.counted, d.written, d.changed, d.entered) refl;
      changed = d.changed;
      entered = d.entered;
    }

pub preview_prints : (i j r e : List ℕ) {a : Answer} {u t : List ℕ} → Answers (preview_answer i r e) a u → t ≡ words a u i j → PrintsStep (request_step (vault i j) (preview r e)) t i j
preview_prints i j r e d w = operation_prints (record { numbered = d.numbered; valued = d.valued; counted = d.counted; written = d.written; changed = refl; entered = refl }) w

-- begin, commit, rollback and undo: d is what is done where r is no refusal
module _ {T : Type 0} (r : Result T Refusal) (d : Done) where
  and_code : code (result_and r (Ok d)) ≡ code r
  and_code = go r
    where
      go : (r : Result T Refusal) → code (result_and r (Ok d)) ≡ code r
      go (Ok x) = refl
      go (Err e) = refl

  and_value : biased d.value ≡ bias → value_of (result_and r (Ok d)) ≡ bias
  and_value h = go r
    where
      go : (r : Result T Refusal) → value_of (result_and r (Ok d)) ≡ bias
      go (Ok x) = h
      go (Err e) = refl

  and_count : d.events ≡ 0 → count_of (result_and r (Ok d)) ≡ 0
  and_count h = go r
    where
      go : (r : Result T Refusal) → count_of (result_and r (Ok d)) ≡ 0
      go (Ok x) = h
      go (Err e) = refl

  pub transaction_prints : {s : Step} {i j t : List ℕ} → JournalIs s (code r) i j → Quiet s → (biased d.value ≡ bias) × (d.events ≡ 0) → t ≡ words (result_and r (Ok d)) [] i j → PrintsStep s t i j
  transaction_prints k q n w =
      operation_prints
      (record {
        numbered = and_code ∙ k.numbered;
        valued = and_value n.0 ∙ rw (q.no_value, add-zero) refl;
        counted = and_count n.1 ∙ rw q.no_count refl;
        written = rw q.no_events refl;
        changed = k.changed;
        entered = k.entered;
      }) w
