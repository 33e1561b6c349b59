-- The table of cases, proved: for every length of the journal that holds three entries at least.
use mathlib.Core.Path.{◌≡◌, refl, sym, ap, ◌∙◌}
use mathlib.Core.Bool.{true}
use mathlib.Core.List.{List, [], ◌∷◌}
use Prim.Native.Nat.{ℕ, suc, ◌+◌, ◌-◌, ◌*◌, ◌^◌, ◌≤◌, ◌<◌}
use native.Mathlib.Omega.{arith}
use borrow.Author.Tests.{le-leb}
use lib.Dec.{lit<}
use lib.ListN.{length, replicate, length-replicate}
use Rattle.fields.specs.Logic.{◌and◌, and_i}
use Rattle.fields.specs.Bytes.{le}
use Rattle.amount.specs.Biased.{bias}
use Rattle.image.specs.Layout.{cells, kind, credit}
use Rattle.image.specs.Good.{good_image}
use Rattle.storage.specs.Facts.{Good, test}
use Rattle.storage.specs.Writes.{good_credit}
use Rattle.journal.specs.Calls.{begin, undo, State, Step}
use Rattle.journal.specs.Journal.{Contents, bytes_of, contents_of, fits, changed, entered, room, journal_after}
use Rattle.journal.specs.Step.{vault, reply, blank}
use Rattle.journal.proofs.States.{fresh, fresh-valid, fresh_good, fresh_contents, zeros_good, zeros_contents, begun-closed, entered_good, entered-undone}
use Rattle.journal.proofs.Written.{length-bytes}
use Rattle.journal.proofs.Dispatch.{operated-entered, step_operation}
use Rattle.operations.specs.Operations.{outcome_of}
use Rattle.token_vault.specs.Vault.{op, view, vault_step}
use Rattle.token_vault.proofs.Called.{own_number, own_image, vault_begin, vault_undo}
use Rattle.vault_cases.specs.Setting.{case_image, full_credit_image, start, ask, deposits, deposits_in, deposits_with_fee, deposits_token, pays_to, pays_two, limits_operator, sets_limit, pauses, proposes, accepts_at, initiates, executes_at, asks_compliance}
use Rattle.vault_cases.specs.Cases.{CasesHold, Cases, answers, after, done, refused}
use Rattle.vault_cases.proofs.Flat.{image_of, case_bytes, deposited_bytes, migrated_bytes, paid_bytes, no_credit, credit_of_ten, credit_full, case_flat, full_flat}
use Rattle.vault_cases.proofs.Made.{good}
use Rattle.vault_cases.proofs.Runs.{Accepts, Refuses, Views, passed, shown-done, length-changed, accepted, accepts, refuses, viewed, still_good}
use Rattle.vault_cases.proofs.Computed.{pays_40_60, pays_41_60, limited, pays_30_20, pays_30_21, pays_itself, deposits_900, deposits_901, fee_9, fee_10, paused, fee_10_paused, proposed, accepted_604799, accepted_604800, initiated, executed_172799, initiated_paused, executed, executed_paused, deposits_10, then_initiated, then_executed, deposits_again, deposits-next, compliant_2, deposits_1, deposits-token_1, limit_99, limit_100, pays_5, compliant_0, compliant_48, paid, deposited, migrated, credit-kept, three_cells}

-- ---- the images are good
case_is_good : Good case_image
case_is_good = rw case_flat good

one-kind : kind (case_bytes no_credit) 0 ≡ 1
unfolding image_of le
one-kind = refl

full_below : bias + (2 ^ 127 - 1) < bias + bias
unfolding bias
full_below = lit< tt

not_below : (x : ℕ) → bias ≤ bias + x
not_below x = omega arith

full_is_good : Good (case_bytes credit_full)
unfolding full_credit_image
full_is_good =
    let k : 0 < kind case_image 0 = rw (case_flat, one-kind) (omega arith) in
    rw (← full_flat) (good_credit case_image 0 2 (bias + (2 ^ 127 - 1)) case_is_good (omega arith) (omega arith) k (not_below (2 ^ 127 - 1)) full_below)

zeros_long : (n : ℕ) → length {A = ℕ} (replicate n 0) ≡ n
zeros_long n = length-replicate n 0

-- ---- a payout in an open journal, and its undoing
module _ (n : ℕ) (f : fits n ≡ true) (h : 96 ≤ n) where
  abbrev l : List ℕ
  l = case_bytes no_credit

  abbrev m : List ℕ
  m = (outcome_of l (pays_to 4 5)).image

  abbrev opened : List ℕ
  opened = bytes_of n fresh

  opened_is : contents_of opened ≡ fresh
  opened_is = fresh_contents n f

  opened_long : length opened ≡ n
  opened_long = length-bytes cells n fresh (fresh-valid n f cells)

  abbrev p : Accepts l (pays_to 4 5) 0 1
  p = pays_5 no_credit

  has_room : room cells l m opened ≡ true
  unfolding room entered
  has_room =
      let e : length (changed 1 cells 0 l m) ≡ 3 = rw (paid no_credit) (length-changed 1 cells 0 l (paid_bytes no_credit) ∙ three_cells no_credit) in
      rw (opened_is, opened_long) (and_i _ _ refl (rw e (le-leb (24 * suc 3) n h)))

  first : vault_step (vault l (replicate n 0)) begin ≡ reply 0 [] (vault l opened)
  first =
      vault_begin l (replicate n 0) (test l good) (zeros_good n f cells)
      ∙ begun-closed (vault l (replicate n 0)) (ap (λ (c : Contents). c.opened) (zeros_contents n f))
      ∙ ap (λ k. reply 0 [] (vault l (bytes_of k fresh))) (zeros_long n)

  second : vault_step (vault l opened) (ask (pays_to 4 5)) ≡ record { answer = (op l (pays_to 4 5) blank).answer; state = vault m (journal_after cells l m opened) }
  unfolding vault_step
  second =
      let q = passed (pays_to 4 5) p.formed in
      let i = own_image l (pays_to 4 5) blank q p.number in
      let z = own_number l (pays_to 4 5) blank q ∙ p.number in
      rw (
        step_operation cells good_image op view (vault l opened) (test l good) (fresh_good n f cells) (pays_to 4 5) blank,
        p.changes,
        operated-entered cells (vault l opened) (op l (pays_to 4 5) blank) z (ap (λ (c : Contents). c.opened) opened_is) (rw i has_room),
        i,
      )

  paid_good : Good m
  paid_good = still_good n f l (pays_to 4 5) good p

  third : vault_step (vault m (journal_after cells l m opened)) undo ≡ reply 0 [] (vault l opened)
  third =
      let g = fresh_good n f cells in
      vault_undo m (journal_after cells l m opened) (test m paid_good) (entered_good cells l m opened g good.long paid_good.long has_room)
      ∙ entered-undone cells l m opened g good.long paid_good.long has_room (ap (λ (c : Contents). c.opened) opened_is)

  begun_state : (vault_step (vault l (replicate n 0)) begin).state ≡ vault l opened
  begun_state = ap (λ (s : Step). s.state) first

  undone_state : (vault_step (vault_step (vault_step (vault l (replicate n 0)) begin).state (ask (pays_to 4 5))).state undo).state ≡ vault l opened
  undone_state = rw (first, second, third)

-- ---- the table
module _ (n : ℕ) (f : fits n ≡ true) where
  -- one call of the image of the cases: done, and refused
  does : (r : List ℕ) {v c : ℕ} → Accepts (case_bytes no_credit) r v c → answers (start n) (ask r ∷ []) ≡ done v c ∷ []
  does r a = rw case_flat (accepts n f (case_bytes no_credit) r good [] a refl)

  stops : (r : List ℕ) {k : ℕ} → Refuses (case_bytes no_credit) r k → answers (start n) (ask r ∷ []) ≡ refused (suc k) ∷ []
  stops r a = rw case_flat (refuses n f (case_bytes no_credit) r good [] a refl)

  looks : (r : List ℕ) {v : ℕ} → Views (case_bytes no_credit) r v → answers (start n) (ask r ∷ []) ≡ done v 0 ∷ []
  looks r a = rw case_flat (viewed n f (case_bytes no_credit) r good a)

  -- two calls
  does_both : (r s : List ℕ) {v c w d : ℕ} → Accepts (case_bytes no_credit) r v c → Accepts (outcome_of (case_bytes no_credit) r).image s w d
      → answers (start n) (ask r ∷ ask s ∷ []) ≡ done v c ∷ done w d ∷ []
  does_both r s a b =
      let g = still_good n f (case_bytes no_credit) r good a in
      rw case_flat (accepts n f (case_bytes no_credit) r good (ask s ∷ []) a (accepts n f _ s g [] b refl))

  then_stops : (r s : List ℕ) {v c k : ℕ} → Accepts (case_bytes no_credit) r v c → Refuses (outcome_of (case_bytes no_credit) r).image s k
      → answers (start n) (ask r ∷ ask s ∷ []) ≡ done v c ∷ refused (suc k) ∷ []
  then_stops r s a b =
      let g = still_good n f (case_bytes no_credit) r good a in
      rw case_flat (accepts n f (case_bytes no_credit) r good (ask s ∷ []) a (refuses n f _ s g [] b refl))

  paused_execution : answers (start n) (ask (initiates 4) ∷ ask pauses ∷ ask (executes_at 172800) ∷ []) ≡ done 0 1 ∷ done 0 1 ∷ done 100 1 ∷ []
  paused_execution =
      let g1 = still_good n f _ (initiates 4) good (initiated no_credit) in
      let g2 = still_good n f _ pauses g1 (initiated_paused no_credit) in
      rw case_flat
      (accepts n f _ (initiates 4) good (ask pauses ∷ ask (executes_at 172800) ∷ []) (initiated no_credit)
      (accepts n f _ pauses g1 (ask (executes_at 172800) ∷ []) (initiated_paused no_credit)
      (accepts n f _ (executes_at 172800) g2 [] (executed_paused no_credit) refl)))

  sequence : answers (start n) (ask (deposits_in 7 10) ∷ ask (initiates 4) ∷ ask (executes_at 172800) ∷ ask (deposits_in 7 10) ∷ ask (deposits_in 8 10) ∷ [])
      ≡ done 0 1 ∷ done 0 1 ∷ done 110 1 ∷ refused 11 ∷ done 0 1 ∷ []
  sequence =
      let g1 : Good (deposited_bytes credit_of_ten) = rw (← deposited) (still_good n f _ (deposits_in 7 10) good (deposits_10 no_credit)) in
      let g2 = still_good n f _ (initiates 4) g1 (then_initiated credit_of_ten) in
      let g3 : Good (migrated_bytes credit_of_ten) = rw (← migrated credit_of_ten) (still_good n f _ (executes_at 172800) g2 (then_executed credit_of_ten)) in
      let last = refuses n f _ (deposits_in 7 10) g3 (ask (deposits_in 8 10) ∷ []) (deposits_again credit_of_ten)
      (accepts n f _ (deposits_in 8 10) g3 [] (deposits-next credit_of_ten) refl) in
      rw case_flat
      (accepts n f _ (deposits_in 7 10) good (ask (initiates 4) ∷ ask (executes_at 172800) ∷ ask (deposits_in 7 10) ∷ ask (deposits_in 8 10) ∷ []) (deposits_10 no_credit)
      (rw deposited
      (accepts n f _ (initiates 4) g1 (ask (executes_at 172800) ∷ ask (deposits_in 7 10) ∷ ask (deposits_in 8 10) ∷ []) (then_initiated credit_of_ten)
      (accepts n f _ (executes_at 172800) g2 (ask (deposits_in 7 10) ∷ ask (deposits_in 8 10) ∷ []) (then_executed credit_of_ten) (rw (migrated credit_of_ten) last)))))

pub each_case : (n : ℕ) → fits n ≡ true → 96 ≤ n → Cases n
each_case n f h =
    record {
      opens = record { image_good = test case_image case_is_good; length_fits = rw (zeros_long n) f; all_zero = rw (zeros_long n) };
      A_40+60 = does n f (pays_two 2 40 60) (pays_40_60 no_credit);
      A_41+60 = stops n f (pays_two 2 41 60) (pays_41_60 no_credit);
      B_30+20 = does_both n f (limits_operator 50) (pays_two 3 30 20) (limited no_credit) (pays_30_20 no_credit);
      B_30+21 = then_stops n f (limits_operator 50) (pays_two 3 30 21) (limited no_credit) (pays_30_21 no_credit);
      C = stops n f (pays_to 1 5) (pays_itself no_credit);
      D_900 = does n f (deposits 900) (deposits_900 no_credit);
      D_901 = stops n f (deposits 901) (deposits_901 no_credit);
      E_fee_9 = does n f (deposits_with_fee 10 9) (fee_9 no_credit);
      E_fee_10 = stops n f (deposits_with_fee 10 10) (fee_10 no_credit);
      E_fee_10_paused = then_stops n f pauses (deposits_with_fee 10 10) (paused no_credit) (fee_10_paused no_credit);
      F_604799 = does_both n f (proposes 3) (accepts_at 3 604799) (proposed no_credit) (accepted_604799 no_credit);
      F_604800 = then_stops n f (proposes 3) (accepts_at 3 604800) (proposed no_credit) (accepted_604800 no_credit);
      G_172799 = then_stops n f (initiates 4) (executes_at 172799) (initiated no_credit) (executed_172799 no_credit);
      G_172800 = does_both n f (initiates 4) (executes_at 172800) (initiated no_credit) (executed no_credit);
      G_172800_paused = paused_execution n f;
      H = sequence n f;
      I_0 = looks n f (asks_compliance 0) (compliant_0 no_credit);
      I_48 = looks n f (asks_compliance 48) (compliant_48 no_credit);
      I_2 = stops n f (asks_compliance 2) (compliant_2 no_credit);
      J_deposit = rw full_flat (accepts n f (case_bytes credit_full) (deposits 1) full_is_good [] (deposits_1 credit_full) refl);
      J_kept =
          let e : after (vault (case_bytes credit_full) (replicate n 0)) (ask (deposits 1) ∷ []) ≡ (outcome_of (case_bytes credit_full) (deposits 1)).image =
          ap (λ (s : Step). s.state.image) (accepted n f (case_bytes credit_full) (deposits 1) full_is_good (deposits_1 credit_full)) in
          rw full_flat (ap (λ x. credit x 0 2) e ∙ credit-kept);
      J_token = rw full_flat (refuses n f (case_bytes credit_full) (deposits_token 1) full_is_good [] deposits-token_1 refl);
      K_99 = stops n f (sets_limit 5 99) (limit_99 no_credit);
      K_100 = stops n f (sets_limit 5 100) (limit_100 no_credit);
      L_answers = rw (case_flat, first n f h, second n f h, third n f h, shown-done (case_bytes no_credit) (pays_to 4 5) (pays_5 no_credit).formed (pays_5 no_credit).number, (pays_5 no_credit).value_is, (pays_5 no_credit).count_is);
      L_image = rw case_flat (ap (λ (s : State). s.image) (undone_state n f h));
      L_state = rw case_flat (undone_state n f h ∙ sym (begun_state n f h));
    }

-- beside the longest journal
pub longest : Cases 48024
unfolding fits ◌and◌
longest = each_case 48024 refl (omega arith)

pub cases_hold : CasesHold
cases_hold = record { every = each_case; longest = longest }
