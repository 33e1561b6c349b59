-- What the operations owe, put together: an accepted one leaves the image good, and moves image and book alike.
use mathlib.Core.Path.{◌≡◌, refl, sym, ap, ◌∙◌}
use mathlib.Core.Bool.{Bool, true, false}
use mathlib.Core.List.{List, [], ◌∷◌}
use Prim.Native.Nat.{ℕ, suc, ◌≤◌}
use native.Mathlib.Omega.{arith}
use borrow.Author.Tests.{eqb-true, eqb-false}
use lib.Dec.{eqb}
use Rattle.views.specs.Views.{balance_outcome, effective_outcome, account_outcome, approved_outcome, compliant_outcome}
use Rattle.moves.proofs.Owed.{outside_move_owed, freeze_owed}
use Rattle.migration.proofs.Owed.{initiate_emergency_migration_owed, execute_emergency_migration_owed, cancel_emergency_migration_owed}
use Rattle.handover.specs.Owed.{propose_owner_owed, accept_owner_owed, set-owner_proposal_ttl_owed}
use Rattle.payouts.proofs.Owed.{withdraw_owed, withdraw_batch_owed, withdraw-token_owed}
use Rattle.setup.specs.Owed.{approve_token_owed, initialize_owed}
use Rattle.settings.specs.Owed.{pause_owed, unpause_owed, set-operator_owed, revoke_operator_owed, set-operator-withdraw_limit_owed, set_limit_owed, set-token-max_limit_owed}
use Rattle.batch_deposits.proofs.Owed.{batch_deposit_owed}
use Rattle.deposits.proofs.Owed.{deposit_owed, deposit_with_fee_owed, deposit-token_owed, deposit_with_failure_report_owed}
use Rattle.book.specs.Book.{Book, enter_book, BookIs}
use Rattle.outcome.specs.Outcome.{Outcome, formed_as}
use Rattle.events.specs.Event.{event_buffer}
use Rattle.record.specs.Form.{member, is_view, form_number}
use Rattle.record.specs.Laws.{form_operation}
use Rattle.setup.specs.Setup.{initialize}
use Rattle.record.specs.Record.{operation_of}
use Rattle.storage.specs.Facts.{Good}
use Rattle.fields.specs.Logic.{◌and◌, and_l, and_r}
use Rattle.fields.specs.Rules.{pick}
use Rattle.operations.specs.Operations.{operations, outcome_at, outcome_of}

-- what holds of each row of a table where the number is the row's, and of the last row where the number is no less, holds of the outcome at a number
abbrev pub AllRows : (Outcome → Type 0) → ℕ → ℕ × Outcome → List (ℕ × Outcome) → Type 0
AllRows P o row [] = row.0 ≤ o → P row.1
AllRows P o row (next ∷ rows) = (o ≡ row.0 → P row.1) × AllRows P o next rows

-- rows without a gap
abbrev pub consecutive : ℕ × Outcome → List (ℕ × Outcome) → Bool
consecutive row [] = true
consecutive row (next ∷ rows) = eqb next.0 (suc row.0) and consecutive next rows

pub chosen : (P : Outcome → Type 0) (o : ℕ) (row : ℕ × Outcome) (rows : List (ℕ × Outcome)) → row.0 ≤ o → consecutive row rows ≡ true → AllRows P o row rows → P (outcome_at o row rows)
chosen P o row [] low c h = h low
chosen P o row (next ∷ rows) low c h = go (eqb o row.0) refl (λ low. chosen P o next rows low (and_r _ _ c) h.1)
  where
    go : (b : Bool) → eqb o row.0 ≡ b → (next.0 ≤ o → P (outcome_at o next rows)) → P (pick b row.1 (outcome_at o next rows))
    go true e f = h.0 (eqb-true o row.0 e)
    go false e f =
        let n : o ≡ row.0 → ⊥ = eqb-false o row.0 e in
        let s : next.0 ≡ suc row.0 = eqb-true next.0 (suc row.0) (and_l _ _ c) in
        f (omega arith)

pub operations-consecutive : (l r : List ℕ) → consecutive (1, initialize l r) (operations l r) ≡ true
unfolding ◌and◌
operations-consecutive l r = refl

module _ (l r : List ℕ) (g : Good l) (f : form_number r ≡ 0) where
  last_one : 30 ≤ operation_of r → operation_of r ≡ 30
  last_one h = let (low, high) = form_operation r f in omega arith

  pub outcome_good : (outcome_of l r).number ≡ 0 → Good (outcome_of l r).image
  unfolding outcome_of balance_outcome effective_outcome account_outcome approved_outcome compliant_outcome
  outcome_good =
      chosen (λ (x : Outcome). x.number ≡ 0 → Good x.image) (operation_of r) (1, initialize l r) (operations l r) (form_operation r f).0 (operations-consecutive l r) (
        λ o z. initialize_owed.good l r g (formed_as 1 r f o) z,
        (
          λ o z. deposit_owed.good l r g (formed_as 2 r f o) z,
          (
            λ o z. deposit_with_fee_owed.good l r g (formed_as 3 r f o) z,
            (
              λ o z. batch_deposit_owed.good l r g (formed_as 4 r f o) z,
              (
                λ o z. withdraw_owed.good l r g (formed_as 5 r f o) z,
                (
                  λ o z. withdraw_batch_owed.good l r g (formed_as 6 r f o) z,
                  (
                    λ o z. deposit-token_owed.good l r g (formed_as 7 r f o) z,
                    (
                      λ o z. withdraw-token_owed.good l r g (formed_as 8 r f o) z,
                      (
                        λ o z. deposit_with_failure_report_owed.good l r g (formed_as 9 r f o) z,
                        (
                          λ o z. set-operator-withdraw_limit_owed.good l r g (formed_as 10 r f o) z,
                          (
                            λ o z. set_limit_owed.good l r g (formed_as 11 r f o) z,
                            (
                              λ o z. set-token-max_limit_owed.good l r g (formed_as 12 r f o) z,
                              (
                                λ o z. set-operator_owed.good l r g (formed_as 13 r f o) z,
                                (
                                  λ o z. revoke_operator_owed.good l r g (formed_as 14 r f o) z,
                                  (
                                    λ o z. propose_owner_owed.good l r g (formed_as 15 r f o) z,
                                    (
                                      λ o z. accept_owner_owed.good l r g (formed_as 16 r f o) z,
                                      (
                                        λ o z. set-owner_proposal_ttl_owed.good l r g (formed_as 17 r f o) z,
                                        (
                                          λ o z. pause_owed.good l r g (formed_as 18 r f o) z,
                                          (
                                            λ o z. unpause_owed.good l r g (formed_as 19 r f o) z,
                                            (
                                              λ o z. approve_token_owed.good l r g (formed_as 20 r f o) z,
                                              (
                                                λ o z. initiate_emergency_migration_owed.good l r g (formed_as 21 r f o) z,
                                                (
                                                  λ o z. execute_emergency_migration_owed.good l r g (formed_as 22 r f o) z,
                                                  (
                                                    λ o z. cancel_emergency_migration_owed.good l r g (formed_as 23 r f o) z,
                                                    (
                                                      λ o z. g,
                                                      (
                                                        λ o z. g,
                                                        (
                                                          λ o z. g,
                                                          (
                                                            λ o z. g,
                                                            (
                                                              λ o z. g,
                                                              (
                                                                λ o z. outside_move_owed.good l r g (formed_as 29 r f o) z,
                                                                λ o z. freeze_owed.good l r g (formed_as 30 r f (last_one o)) z,
                                                              ),
                                                            ),
                                                          ),
                                                        ),
                                                      ),
                                                    ),
                                                  ),
                                                ),
                                              ),
                                            ),
                                          ),
                                        ),
                                      ),
                                    ),
                                  ),
                                ),
                              ),
                            ),
                          ),
                        ),
                      ),
                    ),
                  ),
                ),
              ),
            ),
          ),
        ),
      )

  module _ (b : Book) (m : BookIs b l) (v : is_view (operation_of r) ≡ false) where
    no_view : (k : ℕ) → operation_of r ≡ k → is_view k ≡ true → ⊥
    no_view k o q = let z : true ≡ false = sym q ∙ (sym (ap is_view o) ∙ v) in let w : ◌≡◌ {A = ℕ} 0 1 = cc in omega arith

    pub outcome_booked : (outcome_of l r).number ≡ 0 → BookIs (enter_book b r (event_buffer (outcome_of l r).events)) (outcome_of l r).image
    unfolding outcome_of is_view member
    outcome_booked =
        chosen (λ (x : Outcome). x.number ≡ 0 → BookIs (enter_book b r (event_buffer x.events)) x.image) (operation_of r) (1, initialize l r) (operations l r) (form_operation r f).0 (operations-consecutive l r) (
          λ o z. initialize_owed.booked b l r g (formed_as 1 r f o) z m,
          (
            λ o z. deposit_owed.booked b l r g (formed_as 2 r f o) z m,
            (
              λ o z. deposit_with_fee_owed.booked b l r g (formed_as 3 r f o) z m,
              (
                λ o z. batch_deposit_owed.booked b l r g (formed_as 4 r f o) z m,
                (
                  λ o z. withdraw_owed.booked b l r g (formed_as 5 r f o) z m,
                  (
                    λ o z. withdraw_batch_owed.booked b l r g (formed_as 6 r f o) z m,
                    (
                      λ o z. deposit-token_owed.booked b l r g (formed_as 7 r f o) z m,
                      (
                        λ o z. withdraw-token_owed.booked b l r g (formed_as 8 r f o) z m,
                        (
                          λ o z. deposit_with_failure_report_owed.booked b l r g (formed_as 9 r f o) z m,
                          (
                            λ o z. set-operator-withdraw_limit_owed.booked b l r g (formed_as 10 r f o) z m,
                            (
                              λ o z. set_limit_owed.booked b l r g (formed_as 11 r f o) z m,
                              (
                                λ o z. set-token-max_limit_owed.booked b l r g (formed_as 12 r f o) z m,
                                (
                                  λ o z. set-operator_owed.booked b l r g (formed_as 13 r f o) z m,
                                  (
                                    λ o z. revoke_operator_owed.booked b l r g (formed_as 14 r f o) z m,
                                    (
                                      λ o z. propose_owner_owed.booked b l r g (formed_as 15 r f o) z m,
                                      (
                                        λ o z. accept_owner_owed.booked b l r g (formed_as 16 r f o) z m,
                                        (
                                          λ o z. set-owner_proposal_ttl_owed.booked b l r g (formed_as 17 r f o) z m,
                                          (
                                            λ o z. pause_owed.booked b l r g (formed_as 18 r f o) z m,
                                            (
                                              λ o z. unpause_owed.booked b l r g (formed_as 19 r f o) z m,
                                              (
                                                λ o z. approve_token_owed.booked b l r g (formed_as 20 r f o) z m,
                                                (
                                                  λ o z. initiate_emergency_migration_owed.booked b l r g (formed_as 21 r f o) z m,
                                                  (
                                                    λ o z. execute_emergency_migration_owed.booked b l r g (formed_as 22 r f o) z m,
                                                    (
                                                      λ o z. cancel_emergency_migration_owed.booked b l r g (formed_as 23 r f o) z m,
                                                      (
                                                        λ o z. absurd (no_view 24 o refl),
                                                        (
                                                          λ o z. absurd (no_view 25 o refl),
                                                          (
                                                            λ o z. absurd (no_view 26 o refl),
                                                            (
                                                              λ o z. absurd (no_view 27 o refl),
                                                              (
                                                                λ o z. absurd (no_view 28 o refl),
                                                                (
                                                                  λ o z. outside_move_owed.booked b l r g (formed_as 29 r f o) z m,
                                                                  λ o z. freeze_owed.booked b l r g (formed_as 30 r f (last_one o)) z m,
                                                                ),
                                                              ),
                                                            ),
                                                          ),
                                                        ),
                                                      ),
                                                    ),
                                                  ),
                                                ),
                                              ),
                                            ),
                                          ),
                                        ),
                                      ),
                                    ),
                                  ),
                                ),
                              ),
                            ),
                          ),
                        ),
                      ),
                    ),
                  ),
                ),
              ),
            ),
          ),
        )
