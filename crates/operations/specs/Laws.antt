-- An operation by its name gives what it gives by its number; a view leaves the image and announces nothing.
use Rattle.std.specs.Prelude.{◌≡◌, refl, List, [], ℕ}
use Rattle.std.proofs.Common.{sym, ◌∙◌, ap}
use Rattle.events.specs.Event.{event_buffer}
use Rattle.outcome.specs.Outcome.{Does, Views, Answer, views}
use Rattle.record.specs.declared.Head.{Head}
use Rattle.record.specs.declared.operation.Operation.{Operation}
use Rattle.record.specs.declared.operation.Operation.TheVariants.{Initialize, Deposit, DepositWithFee, BatchDeposit, Withdraw, WithdrawBatch, DepositToken, WithdrawToken, DepositWithFailureReport, SetOperatorWithdrawLimit, SetLimit, SetTokenMaxLimit, SetOperator, RevokeOperator, ProposeOwner, AcceptOwner, SetOwnerProposalTtl, Pause, Unpause, ApproveToken, InitiateEmergencyMigration, ExecuteEmergencyMigration, CancelEmergencyMigration, View, OutsideMove, Freeze}
use Rattle.record.specs.declared.operation.View.TheVariants.{Balance, EffectiveWithdrawLimit, GetTokenAccountBalance, IsTokenApproved, IsTokenCompliant}
use Rattle.record.specs.Form.{reads_caller, reads_token, reads_other, reads_flag, member, form_number}
use Rattle.record.specs.Head.{HeadOf, head_caller, head_token, head_other, head_flag}
use Rattle.record.specs.Numbers.{operation_number}
use Rattle.record.specs.Record.{operation_of}
use Rattle.views.specs.Views.{balance_outcome, effective_outcome, account_outcome, approved_outcome, compliant_outcome}
use Rattle.operations.specs.Operations.{outcome_of, outcome_by, view_outcome}

pub named : (l r : List ℕ) (h : Head) (o : Operation) → form_number r ≡ 0 → HeadOf r h → h.operation ≡ o → outcome_by o l r h ≡ outcome_of l r
unfolding outcome_of reads_caller reads_token reads_other reads_flag member
named l r h o z f e = go o e (sym (ap operation_number e) ∙ f.operation)
  where
    go : (o : Operation) → h.operation ≡ o → operation_number o ≡ operation_of r → outcome_by o l r h ≡ outcome_of l r
    go Initialize e n = rw (head_caller r h _ z f e refl, f.signers, head_token r h _ z f e refl, f.amount, ← n) refl
    go Deposit e n = rw (head_caller r h _ z f e refl, f.signers, f.sequence, f.amount, ← n) refl
    go DepositWithFee e n = rw (head_caller r h _ z f e refl, f.signers, f.sequence, f.amount, f.fee, ← n) refl
    go BatchDeposit e n = rw (f.signers, f.sequence, f.item_count, ← n) refl
    go Withdraw e n = rw (head_caller r h _ z f e refl, f.signers, f.sequence, head_other r h _ z f e refl, f.amount, ← n) refl
    go WithdrawBatch e n = rw (head_caller r h _ z f e refl, f.signers, f.sequence, f.item_count, ← n) refl
    go DepositToken e n = rw (head_caller r h _ z f e refl, f.signers, f.sequence, head_token r h _ z f e refl, f.amount, ← n) refl
    go WithdrawToken e n = rw (head_token r h _ z f e refl, head_caller r h _ z f e refl, f.signers, f.sequence, head_other r h _ z f e refl, f.amount, ← n) refl
    go DepositWithFailureReport e n = rw (head_caller r h _ z f e refl, f.signers, f.sequence, f.amount, ← n) refl
    go SetOperatorWithdrawLimit e n = rw (head_caller r h _ z f e refl, f.signers, f.amount, ← n) refl
    go SetLimit e n = rw (head_caller r h _ z f e refl, f.signers, f.amount, ← n) refl
    go SetTokenMaxLimit e n = rw (head_caller r h _ z f e refl, head_token r h _ z f e refl, f.signers, f.amount, ← n) refl
    go SetOperator e n = rw (head_caller r h _ z f e refl, f.signers, head_other r h _ z f e refl, ← n) refl
    go RevokeOperator e n = rw (head_caller r h _ z f e refl, f.signers, ← n) refl
    go ProposeOwner e n = rw (head_caller r h _ z f e refl, f.signers, head_other r h _ z f e refl, f.timestamp, ← n) refl
    go AcceptOwner e n = rw (head_caller r h _ z f e refl, f.signers, f.timestamp, ← n) refl
    go SetOwnerProposalTtl e n = rw (head_caller r h _ z f e refl, f.signers, f.time_to_live, ← n) refl
    go Pause e n = rw (head_caller r h _ z f e refl, f.signers, f.timestamp, ← n) refl
    go Unpause e n = rw (head_caller r h _ z f e refl, f.signers, f.timestamp, ← n) refl
    go ApproveToken e n = rw (head_caller r h _ z f e refl, f.signers, head_token r h _ z f e refl, head_flag r h _ z f e refl, ← n) refl
    go InitiateEmergencyMigration e n = rw (head_caller r h _ z f e refl, f.signers, head_other r h _ z f e refl, f.timestamp, ← n) refl
    go ExecuteEmergencyMigration e n = rw (head_caller r h _ z f e refl, f.signers, f.timestamp, ← n) refl
    go CancelEmergencyMigration e n = rw (head_caller r h _ z f e refl, f.signers, ← n) refl
    go OutsideMove e n = rw (head_caller r h _ z f e refl, head_token r h _ z f e refl, head_other r h _ z f e refl, f.amount, ← n) refl
    go Freeze e n = rw (head_token r h _ z f e refl, head_flag r h _ z f e refl, ← n) refl
    go (View Balance) e n = rw (← n) refl
    go (View EffectiveWithdrawLimit) e n = rw (head_caller r h _ z f e refl, ← n) refl
    go (View GetTokenAccountBalance) e n = rw (head_token r h _ z f e refl, head_caller r h _ z f e refl, ← n) refl
    go (View IsTokenApproved) e n = rw (head_token r h _ z f e refl, ← n) refl
    go (View IsTokenCompliant) e n = rw (head_token r h _ z f e refl, ← n) refl

pub operation_does : (l r : List ℕ) (h : Head) {image events : List ℕ} {x : Answer} → form_number r ≡ 0 → HeadOf r h → Does (outcome_by h.operation l r h) x image events
    → Does (outcome_of l r) x image events
operation_does l r h z f d = rw (← named l r h h.operation z f refl) d

pub viewed : (l r : List ℕ) (h : Head) (v : _) → form_number r ≡ 0 → HeadOf r h → h.operation ≡ View v → view_outcome v l h.token.number h.caller.number ≡ outcome_of l r
viewed l r h v z f e = named l r h (View v) z f e

does : {n v : ℕ} {l : List ℕ} {x : Answer} → Views (views n v l) x → Does (views n v l) x l (event_buffer [])
does d = record { numbered = d.numbered; valued = d.valued; counted = d.counted; changed = λ y. refl; written = λ y. refl }

views_do : (v : _) (l : List ℕ) (t a : ℕ) {x : Answer} → Views (view_outcome v l t a) x → Does (view_outcome v l t a) x l (event_buffer [])
unfolding balance_outcome effective_outcome account_outcome approved_outcome compliant_outcome
views_do Balance l t a d = does d
views_do EffectiveWithdrawLimit l t a d = does d
views_do GetTokenAccountBalance l t a d = does d
views_do IsTokenApproved l t a d = does d
views_do IsTokenCompliant l t a d = does d

-- a view leaves the image, and a buffer that is clear
pub look_does : (v : _) (t a : ℕ) {l events : List ℕ} {x : Answer} → events ≡ event_buffer [] → Views (view_outcome v l t a) x → Does (view_outcome v l t a) x l events
look_does v t a {l} b d = rw b (views_do v l t a d)
