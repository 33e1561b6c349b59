-- Operations 29, the outside move, and 30, a token frozen or thawed: what goes on outside the vault. No gate, no signature, no event, paused or not,
-- and before initialisation too. l is the image, t the token's address; amounts stand as numbers (value plus bias).
use Rattle.std.specs.Prelude.{List, [], ◌∷◌, ℕ, eqb}
use Rattle.outcome.specs.Outcome.{Outcome}
use Rattle.checks.specs.Checks.{amount_number}
use Rattle.record.specs.Record.{caller_of, token_of, other_of, flag_of, amount_of}
use Rattle.token.specs.Token.{absent_number, transfer_number, transfer_of}
use Rattle.image.specs.Layout.{slot, token_at}
use Rattle.fields.specs.Rules.{pick, eq, ne, Rule, when, verdict, chain}
use Rattle.fields.specs.Bytes.{put}

-- ---- 29: 14 the sender is the vault; 4 not above 0; 23 the transfer fails
abbrev pub sender_rules : ℕ → List Rule
sender_rules caller = when (eq caller 1) 14 ∷ []

unfoldable pub sender_number : ℕ → ℕ
sender_number caller = verdict (sender_rules caller)

unfoldable pub outside_move_checks : ℕ → ℕ → ℕ
outside_move_checks caller n = chain (sender_number caller ∷ amount_number n ∷ [])

unfoldable pub outside_move_number : List ℕ → ℕ → ℕ → ℕ → ℕ → ℕ
outside_move_number l caller t to n = chain (outside_move_checks caller n ∷ transfer_number l t caller to n ∷ [])

unfoldable pub outside_move_outcome : List ℕ → ℕ → ℕ → ℕ → ℕ → Outcome
outside_move_outcome l caller t to n =
    record { number = outside_move_number l caller t to n; value = 0; events = []; image = transfer_of l t caller to n }

abbrev pub outside_move : List ℕ → List ℕ → Outcome
outside_move l r = outside_move_outcome l (caller_of r) (token_of r) (other_of r) (amount_of r)

-- ---- 30: 14 the token is absent. Flag 1 freezes, flag 0 thaws
abbrev pub freeze_rules : List ℕ → ℕ → List Rule
freeze_rules l t = when (ne (absent_number l t) 0) 14 ∷ []

unfoldable pub freeze_number : List ℕ → ℕ → ℕ
freeze_number l t = verdict (freeze_rules l t)

-- the kind: 1 moving, 2 frozen
unfoldable pub frozen_kind : ℕ → ℕ
frozen_kind on = pick (eqb on 1) 2 1

unfoldable pub freeze_outcome : List ℕ → ℕ → ℕ → Outcome
freeze_outcome l t on =
    record { number = freeze_number l t; value = 0; events = []; image = put 8 l (token_at (slot t)) (frozen_kind on) }

abbrev pub freeze : List ℕ → List ℕ → Outcome
freeze l r = freeze_outcome l (token_of r) (flag_of r)
