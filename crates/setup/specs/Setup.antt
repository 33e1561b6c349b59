-- Operations 1 `initialize` and 20 `approve_token`, which look at a token before they take it. l is the image, t the token's address; amounts stand as numbers.
use Rattle.std.specs.Prelude.{List, [], ◌∷◌, ℕ, eqb}
use Rattle.outcome.specs.Outcome.{Outcome, announces}
use Rattle.checks.specs.Checks.{flag, initialised_bit, signed_number, owner_number, amount_number}
use Rattle.events.specs.Kinds.{initialized_event, token_approval_changed_event}
use Rattle.record.specs.Record.{caller_of, token_of, flag_of, signers_of, amount_of}
use Rattle.token.specs.Token.{absent_number}
use Rattle.image.specs.Layout.{flags, approved_set, with_bit, without_bit}
use Rattle.amount.specs.Biased.{put_amount}
use Rattle.fields.specs.Rules.{pick, eq, Rule, when, verdict, chain}
use Rattle.fields.specs.Bytes.{put}

-- validate_sep41_token: 9 address 0, 23 token absent
abbrev pub zero_token_rules : ℕ → List Rule
zero_token_rules t = when (eq t 0) 9 ∷ []

unfoldable pub zero_token_number : ℕ → ℕ
zero_token_number t = verdict (zero_token_rules t)

unfoldable pub valid_token_number : List ℕ → ℕ → ℕ
valid_token_number l t = chain (zero_token_number t ∷ absent_number l t ∷ [])

-- ---- 20: owner gate; for flag 1, 9, 23
unfoldable pub approve_number : List ℕ → ℕ → ℕ → ℕ → ℕ → ℕ
approve_number l caller signers t on = chain (owner_number l caller signers ∷ pick (eqb on 1) (valid_token_number l t) 0 ∷ [])

unfoldable pub approve_outcome : List ℕ → ℕ → ℕ → ℕ → ℕ → Outcome
approve_outcome l caller signers t on =
    announces (approve_number l caller signers t on) (token_approval_changed_event t on)
    (put 8 l 72 (pick (eqb on 1) (with_bit (approved_set l) t) (without_bit (approved_set l) t)))

abbrev pub approve_token : List ℕ → List ℕ → Outcome
approve_token l r = approve_outcome l (caller_of r) (signers_of r) (token_of r) (flag_of r)

-- ---- 1: 22; 4 limit not above 0; 9 token is 0; 23 token absent; 2 done before
abbrev pub done_before_rules : List ℕ → List Rule
done_before_rules l = when (eq (flag initialised_bit l) 1) 2 ∷ []

unfoldable pub done_before_number : List ℕ → ℕ
done_before_number l = verdict (done_before_rules l)

unfoldable pub initialize_number : List ℕ → ℕ → ℕ → ℕ → ℕ → ℕ
initialize_number l caller signers t n =
    chain (signed_number signers caller ∷ amount_number n ∷ valid_token_number l t ∷ done_before_number l ∷ [])

-- owner, token, the token approved, the limit, and a week as the time to live of owner proposals
unfoldable pub initialize_image : List ℕ → ℕ → ℕ → ℕ → List ℕ
initialize_image l caller t n =
    put 8 (put 8 (put_amount (put 1 (put 1 (put 2 l 0 (with_bit (flags l) initialised_bit)) 2 caller) 3 t) 8 n) 48 604800) 72 (with_bit (approved_set l) t)

unfoldable pub initialize_outcome : List ℕ → ℕ → ℕ → ℕ → ℕ → Outcome
initialize_outcome l caller signers t n =
    announces (initialize_number l caller signers t n) (initialized_event caller t n) (initialize_image l caller t n)

abbrev pub initialize : List ℕ → List ℕ → Outcome
initialize l r = initialize_outcome l (caller_of r) (signers_of r) (token_of r) (amount_of r)
