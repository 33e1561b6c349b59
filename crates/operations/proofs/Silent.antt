-- A view announces nothing.
use mathlib.Core.Path.{◌≡◌, refl, sym, ap, ◌∙◌}
use mathlib.Core.Bool.{true, false}
use mathlib.Core.List.{List, []}
use Prim.Native.Nat.{ℕ, zero, suc, ◌≤◌}
use native.Mathlib.Omega.{arith}
use Rattle.views.specs.Views.{balance_outcome, effective_outcome, account_outcome, approved_outcome, compliant_outcome}
use Rattle.moves.specs.Outside.{freeze_outcome}
use Rattle.setup.specs.Setup.{initialize}
use Rattle.outcome.specs.Outcome.{Outcome}
use Rattle.record.specs.Form.{member, is_view}
use Rattle.record.specs.Record.{operation_of}
use Rattle.operations.specs.Operations.{operations, outcome_of}
use Rattle.operations.proofs.Owed.{chosen, operations-consecutive}

view_number : (o : ℕ) → is_view o ≡ true → 1 ≤ o
unfolding is_view member
view_number zero v = let w : ◌≡◌ {A = ℕ} 0 1 = cc in absurd (omega arith)
view_number (suc o) v = omega arith

module _ (l r : List ℕ) where
  pub view_silent : is_view (operation_of r) ≡ true → (outcome_of l r).events ≡ []
  unfolding outcome_of balance_outcome effective_outcome account_outcome approved_outcome compliant_outcome freeze_outcome is_view member
  view_silent v =
      chosen (λ (x : Outcome). x.events ≡ []) (operation_of r) (1, initialize l r) (operations l r) (view_number (operation_of r) v) (operations-consecutive l r) (
        λ o. absurd (no_op 1 o refl),
        (
          λ o. absurd (no_op 2 o refl),
          (
            λ o. absurd (no_op 3 o refl),
            (
              λ o. absurd (no_op 4 o refl),
              (
                λ o. absurd (no_op 5 o refl),
                (
                  λ o. absurd (no_op 6 o refl),
                  (
                    λ o. absurd (no_op 7 o refl),
                    (
                      λ o. absurd (no_op 8 o refl),
                      (
                        λ o. absurd (no_op 9 o refl),
                        (
                          λ o. absurd (no_op 10 o refl),
                          (
                            λ o. absurd (no_op 11 o refl),
                            (
                              λ o. absurd (no_op 12 o refl),
                              (
                                λ o. absurd (no_op 13 o refl),
                                (
                                  λ o. absurd (no_op 14 o refl),
                                  (
                                    λ o. absurd (no_op 15 o refl),
                                    (
                                      λ o. absurd (no_op 16 o refl),
                                      (
                                        λ o. absurd (no_op 17 o refl),
                                        (
                                          λ o. absurd (no_op 18 o refl),
                                          (
                                            λ o. absurd (no_op 19 o refl),
                                            (
                                              λ o. absurd (no_op 20 o refl),
                                              (
                                                λ o. absurd (no_op 21 o refl),
                                                (
                                                  λ o. absurd (no_op 22 o refl),
                                                  (
                                                    λ o. absurd (no_op 23 o refl),
                                                    (
                                                      λ o. refl,
                                                      (
                                                        λ o. refl,
                                                        (
                                                          λ o. refl,
                                                          (
                                                            λ o. refl,
                                                            (
                                                              λ o. refl,
                                                              (
                                                                λ o. absurd (no_op 29 o refl),
                                                                λ o. refl,
                                                              ),
                                                            ),
                                                          ),
                                                        ),
                                                      ),
                                                    ),
                                                  ),
                                                ),
                                              ),
                                            ),
                                          ),
                                        ),
                                      ),
                                    ),
                                  ),
                                ),
                              ),
                            ),
                          ),
                        ),
                      ),
                    ),
                  ),
                ),
              ),
            ),
          ),
        ),
      )
    where
      no_op : (k : ℕ) → operation_of r ≡ k → is_view k ≡ false → ⊥
      no_op k o q = let z : true ≡ false = sym v ∙ (ap is_view o ∙ q) in let w : ◌≡◌ {A = ℕ} 0 1 = cc in omega arith
