-- What the checks that passed say.
use Rattle.std.specs.Prelude.{◌≡◌, refl, List, ℕ, ◌≤◌, ◌<◌}
use Rattle.std.proofs.Common.{sym, ◌∙◌, arith}
use Rattle.checks.specs.Passed.{amount_free}
use Rattle.token.specs.Token.{transfer_rules}
use Rattle.token.specs.Laws.{absent_free, transfer_free}
use Rattle.image.specs.Layout.{slot, kind}
use Rattle.amount.specs.Biased.{bias}
use Rattle.fields.specs.Rules.{AllFail, free, unlinked}
use Rattle.moves.specs.Outside.{sender_rules, sender_number, outside_move_checks, outside_move_number, freeze_rules, freeze_number}

pub outside_free : (caller n : ℕ) {k : ℕ} → k ≡ outside_move_checks caller n → k ≡ 0 → (caller ≡ 1 → ⊥) × (bias < n)
unfolding outside_move_checks sender_number
outside_free caller n e z =
    let u = unlinked _ (sym e ∙ z) in
    ((free (sender_rules caller) refl refl u.0).0, (amount_free n refl u.1.0).0)

pub outside_move_free : (l : List ℕ) (caller t to n : ℕ) → outside_move_number l caller t to n ≡ 0 → (caller ≡ 1 → ⊥) × (bias < n) × AllFail (transfer_rules l t caller to n)
unfolding outside_move_number
outside_move_free l caller t to n z =
    let u = unlinked _ z in
    let (s, p) = outside_free caller n refl u.0 in
    (s, p, transfer_free l t caller to n refl u.1.0)

pub freeze_free : (l : List ℕ) (t : ℕ) {k : ℕ} → k ≡ freeze_number l t → k ≡ 0 → (48 ≤ t) × (t < 64) × (0 < kind l (slot t))
unfolding freeze_number
freeze_free l t e z =
    let (low, (high, (there, _))) = absent_free l t refl (free (freeze_rules l t) refl e z).0 in
    (low, high, omega arith)
