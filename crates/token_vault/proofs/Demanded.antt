-- Demand 3 holds; and which cells a call enters.
use mathlib.Core.Path.{◌≡◌, sym, ap, ◌∙◌}
use mathlib.Core.Bool.{true, false}
use mathlib.Core.List.{List}
use Prim.Native.Nat.{ℕ, ◌≤◌, ◌<◌}
use borrow.Author.Tests.{eq-eqb, ne_eqb}
use lib.IntN.{ℤ, ◌+ℤ◌, ◌-ℤ◌, neg_ℤ, +ℤ_assoc, +ℤ_invr}
use Rattle.book.specs.Book.{Book, vault_holding, open_book, BookIs}
use Rattle.book.specs.Entries.{opens}
use Rattle.book.specs.Flows.{deposited, moved_in_of, paid_out, migrated, flow, migration_takes}
use Rattle.book.proofs.Flowed.{flows, flow_migration}
use Rattle.journal.specs.Calls.{Call, operation, State, Answer}
use Rattle.journal.specs.Journal.{contents_of}
use Rattle.journal.specs.Changed.{CellsEntered}
use Rattle.journal.specs.Step.{Opening}
use Rattle.storage.specs.Facts.{facts, test}
use Rattle.storage.specs.Writes.{default_range}
use Rattle.record.specs.Record.{operation_of, caller_of, timestamp_of, signers_of}
use Rattle.record.specs.Form.{member, is_view}
use Rattle.migration.specs.Migration.{execute_number, execute_outcome, execute_emergency_migration}
use Rattle.migration.proofs.Laws.{execute_free}
use Rattle.image.specs.Layout.{cells, default_token, destination}
use Rattle.image.specs.Good.{good_image}
use Rattle.history.specs.Kept.{run, kept, total, SameAsKept}
use Rattle.history.specs.Owed.{GoodState, OpLaws, SumOps}
use Rattle.history.proofs.Theorem.{accepted_good, of_step, same_as_kept, sums_kept}
use Rattle.history.proofs.Steps.{enters}
use Rattle.history.proofs.Totals.{total-plus, total_minus}
use Rattle.token_vault.specs.Demand.{enter, kept_sum, Migrates, Demand3}
use Rattle.token_vault.specs.Cells.{EntersCells}
use Rattle.token_vault.specs.Vault.{op, view, vault_step}
use Rattle.operations.specs.Operations.{outcome_of}
use Rattle.operations.proofs.Owed.{outcome_good, outcome_booked}
use Rattle.token_vault.proofs.Accepted.{accepted_call}

keeps : (l r e : List ℕ) → good_image l ≡ true → (op l r e).answer.number ≡ 0 → good_image (op l r e).image ≡ true
keeps l r e h z =
    let a = accepted_call l r e z in
    rw a.left (test (outcome_of l r).image (outcome_good l r (facts l h) a.formed a.agreed))

moved : (b : Book) (l r e : List ℕ) → good_image l ≡ true → (op l r e).answer.number ≡ 0 → view r ≡ false → BookIs b l → BookIs (enter b r (op l r e).answer) (op l r e).image
unfolding view
moved b l r e h z v m =
    let a = accepted_call l r e z in
    rw (a.left, a.said) (outcome_booked l r (facts l h) a.formed b m v a.agreed)

op_laws : OpLaws cells good_image op
op_laws = record { as_long = λ l h. (facts l h).long; keeps = keeps }

-- ---- the customer's equation: one operation, and the list
module _ (t : ℕ) (low : 48 ≤ t) (high : t < 64) where
  added : SumOps good_image op view (λ x. vault_holding x t) (λ x r a. flow x r a.events t)
  added = record { added = λ x r e g z v. sym ((moved (open_book x) x r e g z v (opens x)).numbered t low high) ∙ flows x r (op x r e).answer.events t }

  four : (h d m p g : ℤ) → h +ℤ (d +ℤ m -ℤ p -ℤ g) ≡ h +ℤ d +ℤ m -ℤ p -ℤ g
  four h d m p g =
      sym (+ℤ_assoc h (d +ℤ m -ℤ p) (neg_ℤ g))
      ∙ ap (λ (z : ℤ). z -ℤ g) (sym (+ℤ_assoc h (d +ℤ m) (neg_ℤ p)) ∙ ap (λ (z : ℤ). z -ℤ p) (sym (+ℤ_assoc h d m)))

  module _ (s : State) (cs : List Call) where
    abbrev D : List ℕ → List ℕ → Answer → ℤ
    D x r a = deposited x r a.events t

    abbrev M : List ℕ → List ℕ → Answer → ℤ
    M x r a = moved_in_of x r t

    abbrev P : List ℕ → List ℕ → Answer → ℤ
    P x r a = paid_out x r t

    abbrev G : List ℕ → List ℕ → Answer → ℤ
    G x r a = migrated x r t

    split : total vault_step (λ x r a. flow x r a.events t) s (kept vault_step view s cs)
        ≡ kept_sum (λ x r e. deposited x r e t) s cs +ℤ kept_sum (λ x r e. moved_in_of x r t) s cs -ℤ kept_sum (λ x r e. paid_out x r t) s cs -ℤ kept_sum (λ x r e. migrated x r t) s cs
    split =
        let ks = kept vault_step view s cs in
        total_minus vault_step (λ x r a. D x r a +ℤ M x r a -ℤ P x r a) G s ks
        ∙ ap (λ (z : ℤ). z -ℤ total vault_step G s ks) (total_minus vault_step (λ x r a. D x r a +ℤ M x r a) P s ks
        ∙ ap (λ (z : ℤ). z -ℤ total vault_step P s ks) (total-plus vault_step D M s ks))

    summed : Opening good_image s
        → vault_holding (run vault_step s cs).image t ≡ vault_holding s.image t +ℤ total vault_step (λ x r a. flow x r a.events t) s (kept vault_step view s cs)
    unfolding vault_step
    summed o = sums_kept cells good_image op view op_laws s o (λ x. vault_holding x t) (λ x r a. flow x r a.events t) added cs

    balanced : Opening good_image s
        → vault_holding (run vault_step s cs).image t
        ≡ vault_holding s.image t +ℤ kept_sum (λ x r e. deposited x r e t) s cs +ℤ kept_sum (λ x r e. moved_in_of x r t) s cs -ℤ kept_sum (λ x r e. paid_out x r t) s cs -ℤ kept_sum (λ x r e. migrated x r t) s cs
    balanced o =
        let ks = kept vault_step view s cs in
        summed o ∙ ap (λ (z : ℤ). vault_holding s.image t +ℤ z) split
        ∙ four (vault_holding s.image t) (total vault_step D s ks) (total vault_step M s ks) (total vault_step P s ks) (total vault_step G s ks)

-- ---- an executed migration
execute_22 : (l r : List ℕ) → operation_of r ≡ 22 → outcome_of l r ≡ execute_emergency_migration l r
unfolding outcome_of
execute_22 l r o = rw o

view_22 : (r : List ℕ) → operation_of r ≡ 22 → view r ≡ false
unfolding view is_view member
view_22 r o = rw o

executed : (l r : List ℕ) → operation_of r ≡ 22 → (outcome_of l r).number ≡ 0 → execute_number l (caller_of r) (signers_of r) (timestamp_of r) ≡ 0
unfolding execute_outcome
executed l r o n = rw (execute_22 l r o) at n

-- of the default token, which an initialised image has
migration_takes_lem : (s : State) (r e : List ℕ) → operation_of r ≡ 22 → (vault_step s (operation r e)).answer.number ≡ 0
    → vault_holding (vault_step s (operation r e)).state.image (default_token s.image) ≡ vault_holding s.image (default_token s.image) -ℤ migration_takes s.image (default_token s.image)
unfolding vault_step
migration_takes_lem s r e o z =
    let d = default_token s.image in
    let g = accepted_good cells good_image op view op_laws s (operation r e) z in
    of_step cells good_image op view op_laws (λ a x. vault_holding x d ≡ vault_holding s.image d -ℤ migration_takes s.image d) s r e g z (view_22 r o)
    (λ y.
    let n = (accepted_call s.image r e y).agreed in
    let i = (execute_free s.image (caller_of r) (signers_of r) (timestamp_of r) (executed s.image r o n)).0 in
    let (low, high) = default_range s.image (facts s.image g.0) i in
    (added d low high).added s.image r e g.0 y (view_22 r o) ∙ flow_migration s.image r (op s.image r e).answer.events o)

migrates : (s : State) (r e : List ℕ) → operation_of r ≡ 22 → (vault_step s (operation r e)).answer.number ≡ 0 → Migrates s r e
migrates s r e o z =
    let d = default_token s.image in
    record {
      away = λ n. migration_takes_lem s r e o z ∙ rw (ne_eqb (destination s.image) 1 n) (+ℤ_invr (vault_holding s.image d));
      home = λ p. migration_takes_lem s r e o z ∙ rw (eq-eqb (destination s.image) 1 p);
    }

every : (s : State) → Opening good_image s → (cs : List Call) → SameAsKept vault_step view (GoodState cells good_image) enter BookIs s (open_book s.image) cs
unfolding vault_step
every s o cs = same_as_kept cells good_image op view op_laws s o enter BookIs (record { moved = moved }) (open_book s.image) (opens s.image) cs

pub demanded : Demand3
demanded = record { every = every; balance = λ s o cs. record { balanced = λ t low high. balanced t low high s cs o }; migration = migrates }

-- ---- the cells that a call enters
call_enters : (s : State) (r e : List ℕ) → view r ≡ false → (contents_of s.journal).opened ≡ true → (vault_step s (operation r e)).answer.number ≡ 0
    → CellsEntered cells s (vault_step s (operation r e)).state
unfolding vault_step
call_enters s r e v o z = enters cells good_image op view op_laws s r e (accepted_good cells good_image op view op_laws s (operation r e) z) z v o

pub entered_cells : EntersCells
entered_cells = record { every = call_enters }
