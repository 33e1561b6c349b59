-- Refusals among numbers: none is 0, so a refusal ends a list of checks; and what `?` passes on.
use Rattle.std.specs.Prelude.{Bool, true, false, not, is_ok, refl, OnOk, ◌≡◌, List, [], ◌∷◌, ℕ, zero, suc, Result, Ok, Err, IsErr, IsErrAnd}
use Rattle.std.proofs.Common.{arith, ap, sym, ◌∙◌}
use Rattle.fields.specs.Rules.{pick, chain, Links, link_at, link_at_lem}
use Rattle.refusal.specs.declared.Refusal.{Refusal}
use Rattle.refusal.specs.declared.Refusal.TheVariants.{NotInitialized, AlreadyInitialized, NotAuthorized, InvalidAmount, DepositExceedsMax, LimitExceeded, ArithmeticOverflow, ContractPaused, InvalidToken, TokenNotApproved, VaultBalanceChanged, DepositTransferFailed, WithdrawTransferFailed, InvalidParam, NoPendingOwner, NotPendingOwner, PendingOwnerExpired, AlreadyPaused, NotPaused, NoMigrationProposed, TimelockNotExpired, SignatureMissing, TokenCallFailed, InvalidImage, InvalidJournal, InvalidRecord, InvalidEventBuffer, JournalFull, NoTransaction, TransactionOpen, NothingToUndo, InvalidTollBounds}
use Rattle.refusal.specs.Numbers.{number_of, code}

-- the checks before check k are 0, and there is a check k
abbrev pub BeforeLink : ℕ → List ℕ → Type 0
BeforeLink k [] = ⊥
BeforeLink zero (x ∷ xs) = Unit {0}
BeforeLink (suc k) (x ∷ xs) = (x ≡ 0) × BeforeLink k xs

links : (xs : List ℕ) (k : ℕ) → BeforeLink k xs → (link_at k xs ≡ 0 → ⊥) → Links k xs
links [] k b f = absurd b
links (x ∷ xs) zero b f = f
links (x ∷ xs) (suc k) b f = (b.0, links xs k b.1 f)

-- no refusal has the number 0
pub some_number : (e : Refusal) → number_of e ≡ 0 → ⊥
some_number NotInitialized h = absurd (omega arith)
some_number AlreadyInitialized h = absurd (omega arith)
some_number NotAuthorized h = absurd (omega arith)
some_number InvalidAmount h = absurd (omega arith)
some_number DepositExceedsMax h = absurd (omega arith)
some_number LimitExceeded h = absurd (omega arith)
some_number ArithmeticOverflow h = absurd (omega arith)
some_number ContractPaused h = absurd (omega arith)
some_number InvalidToken h = absurd (omega arith)
some_number TokenNotApproved h = absurd (omega arith)
some_number VaultBalanceChanged h = absurd (omega arith)
some_number DepositTransferFailed h = absurd (omega arith)
some_number WithdrawTransferFailed h = absurd (omega arith)
some_number InvalidParam h = absurd (omega arith)
some_number NoPendingOwner h = absurd (omega arith)
some_number NotPendingOwner h = absurd (omega arith)
some_number PendingOwnerExpired h = absurd (omega arith)
some_number AlreadyPaused h = absurd (omega arith)
some_number NotPaused h = absurd (omega arith)
some_number NoMigrationProposed h = absurd (omega arith)
some_number TimelockNotExpired h = absurd (omega arith)
some_number SignatureMissing h = absurd (omega arith)
some_number TokenCallFailed h = absurd (omega arith)
some_number InvalidImage h = absurd (omega arith)
some_number InvalidJournal h = absurd (omega arith)
some_number InvalidRecord h = absurd (omega arith)
some_number InvalidEventBuffer h = absurd (omega arith)
some_number JournalFull h = absurd (omega arith)
some_number NoTransaction h = absurd (omega arith)
some_number TransactionOpen h = absurd (omega arith)
some_number NothingToUndo h = absurd (omega arith)
some_number InvalidTollBounds h = absurd (omega arith)

-- check k is the first that refuses, and e is its refusal
pub refused_at : (xs : List ℕ) (k : ℕ) (e : Refusal) → BeforeLink k xs → number_of e ≡ link_at k xs → number_of e ≡ chain xs
refused_at xs k e b h = link_at_lem xs k (number_of e) (links xs k b (λ z. some_number e (h ∙ z))) h

-- what `?` gives back where a check refused with e: its number
pub code_passed : {T : Type 0} (e : Refusal) (r : Result T Refusal) → IsErr r × IsErrAnd r (λ y. y ≡ e) → code r ≡ number_of e
code_passed e (Ok x) (f, g) = cc
code_passed e (Err y) (f, g) = ap number_of g

-- what holds where the number is 0 holds of an `Ok`
pub on_ok : {T : Type 0} {P : Type 0} (r : Result T Refusal) → (code r ≡ 0 → P) → OnOk r P
on_ok (Ok x) h = h refl
on_ok (Err e) h = tt

unlike : true ≡ false → ⊥
unlike e = let w : ◌≡◌ {A = ℕ} 0 1 = cc in omega arith

-- what `is_err`, whose answer is t, says of the number
pub code_is_err : {T : Type 0} {t : Bool} (r : Result T Refusal) → is_ok r ≡ not t → t ≡ true → code r ≡ 0 → ⊥
code_is_err (Ok x) e h z = unlike (e ∙ ap not h)
code_is_err (Err y) e h z = some_number y z

pub code_is_ok : {T : Type 0} {t : Bool} (r : Result T Refusal) → is_ok r ≡ not t → t ≡ false → code r ≡ 0
code_is_ok (Ok x) e h = refl
code_is_ok (Err y) e h = absurd (unlike (sym (e ∙ ap not h)))

-- what `refuse_if` refused with k
pub refused_if : (e : Refusal) (t : Bool) {k : ℕ} → number_of e ≡ pick t k 0 → (t ≡ true) × (number_of e ≡ k)
refused_if e true h = (refl, h)
refused_if e false h = absurd (some_number e h)
