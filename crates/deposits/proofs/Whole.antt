-- Whole deposits, from what their parts say.
use mathlib.Core.Path.{◌≡◌, refl, sym, ◌∙◌}
use mathlib.Core.List.{List, [], ◌∷◌}
use Prim.Native.Nat.{ℕ, ◌≤◌, ◌<◌}
use native.Mathlib.Omega.{arith}
use Rattle.events.specs.Event.{EventFields, put_event, event_buffer}
use Rattle.events.specs.Buffer.{appended}
use Rattle.fields.specs.Rules.{AllFail}
use Rattle.token.specs.Token.{transfer_rules, transfer_number, transfer_of, transferred}
use Rattle.token.specs.Laws.{transfer_done, transfer_free, good_transfer}
use Rattle.storage.specs.Facts.{Keys, Good}
use Rattle.amount.specs.Biased.{bias}
use Rattle.deposits.specs.Deposit.{receive_number}
use Rattle.deposits.specs.TokenDeposit.{receive_token_number}
use Rattle.deposits.proofs.Laws.{receive_free, receive_token_free}

-- the tracked keys after a transfer to the vault
pub moved_keys : (l : List ℕ) (t from n : ℕ) {y : List ℕ} → Good l → from < 64 → bias ≤ n → AllFail (transfer_rules l t from 1 n) → y ≡ transfer_of l t from 1 n → Keys y
moved_keys l t from n g fh p f q = rw q (good_transfer l t from 1 n g fh (omega arith) p f).keys

pub transfer_keys : (l : List ℕ) (t from n : ℕ) {k : ℕ} {y : List ℕ} → Good l → from < 64 → bias ≤ n → k ≡ transfer_number l t from 1 n → k ≡ 0 → y ≡ transferred l t from 1 n → Keys y
transfer_keys l t from n g fh p e z c = moved_keys l t from n g fh p (transfer_free l t from 1 n e z) (c ∙ transfer_done l t from 1 n (sym e ∙ z))

module _ (l : List ℕ) (t from n : ℕ) {k : ℕ} {y : List ℕ} (g : Good l) (fh : from < 64) (p : bias < n) (q : y ≡ transfer_of l t from 1 n) (z : k ≡ 0) where
  pub received_keys : k ≡ receive_number l t from n → Keys y
  received_keys e = moved_keys l t from n g fh (omega arith) (receive_free l t from n e z).0 q

  pub token_keys : k ≡ receive_token_number l t from n → Keys y
  token_keys e = moved_keys l t from n g fh (omega arith) (receive_free l t from n refl (receive_token_free l t from n e z)).0 q

-- ---- operation 3: its event behind that of the deposit
pub written_two : (d : EventFields) {old new : List ℕ} {e f : EventFields} → old ≡ event_buffer (d ∷ []) → f ≡ e → new ≡ put_event old 1 f → new ≡ event_buffer (d ∷ e ∷ [])
written_two d p g q = appended (d ∷ []) 1 p g q refl (omega arith)
