-- The cases A to L of docs/FORMATS.md, each line an equation of the vault's answers to calls that start at their image.
use Rattle.std.specs.Prelude.{◌≡◌, List, [], ◌∷◌, true, ℕ, ◌+◌, ◌-◌, ◌^◌, ◌≤◌}
use Rattle.amount.specs.Biased.{bias}
use Rattle.image.specs.Good.{good_image}
use Rattle.image.specs.Layout.{credit}
use Rattle.journal.specs.Calls.{Call, begin, undo, State, Answer}
use Rattle.journal.specs.Journal.{fits}
use Rattle.journal.specs.Step.{Opening}
use Rattle.history.specs.Kept.{run}
use Rattle.token_vault.specs.Vault.{vault_step}
use Rattle.vault_cases.specs.Setting.{case_image, start, full_credit, ask, deposits, deposits_in, deposits_with_fee, deposits_token, pays_to, pays_two, limits_operator, sets_limit, pauses, proposes, accepts_at, initiates, executes_at, asks_compliance}

-- an answer's three fields: number, value and event count
abbrev pub shown : Answer → ℕ × ℕ × ℕ
shown a = (a.number, a.value, a.count)

abbrev pub done : (value count : ℕ) → ℕ × ℕ × ℕ
done v n = (0, v, n)

abbrev pub refused : (number : ℕ) → ℕ × ℕ × ℕ
refused k = (k, 0, 0)

-- the answers of the vault, call by call
abbrev pub answers : State → List Call → List (ℕ × ℕ × ℕ)
answers s [] = []
answers s (c ∷ cs) = shown (vault_step s c).answer ∷ answers (vault_step s c).state cs

-- the image after the calls
abbrev pub after : State → List Call → List ℕ
after s cs = (run vault_step s cs).image

-- n is the length of the journal, which is closed at first
pub record Cases (n : ℕ) : Type 0 where
  -- a list of calls may start here, as in demand 3
  pub opens : Opening good_image (start n)
  -- A: the owner pays
  pub A_40+60 : answers (start n) (ask (pays_two 2 40 60) ∷ []) ≡ done 0 2 ∷ []
  pub A_41+60 : answers (start n) (ask (pays_two 2 41 60) ∷ []) ≡ refused 6 ∷ []
  -- B: the operator pays, its limit 50
  pub B_30+20 : answers (start n) (ask (limits_operator 50) ∷ ask (pays_two 3 30 20) ∷ []) ≡ done 0 1 ∷ done 0 2 ∷ []
  pub B_30+21 : answers (start n) (ask (limits_operator 50) ∷ ask (pays_two 3 30 21) ∷ []) ≡ done 0 1 ∷ refused 6 ∷ []
  -- C: the owner pays 5 to the vault
  pub C : answers (start n) (ask (pays_to 1 5) ∷ []) ≡ refused 13 ∷ []
  -- D: a deposit
  pub D_900 : answers (start n) (ask (deposits 900) ∷ []) ≡ done 0 1 ∷ []
  pub D_901 : answers (start n) (ask (deposits 901) ∷ []) ≡ refused 6 ∷ []
  -- E: a deposit with a fee
  pub E_fee_9 : answers (start n) (ask (deposits_with_fee 10 9) ∷ []) ≡ done 0 2 ∷ []
  pub E_fee_10 : answers (start n) (ask (deposits_with_fee 10 10) ∷ []) ≡ refused 4 ∷ []
  pub E_fee_10_paused : answers (start n) (ask pauses ∷ ask (deposits_with_fee 10 10) ∷ []) ≡ done 0 1 ∷ refused 4 ∷ []
  -- F: the operator, proposed at 0 s, accepts
  pub F_604799 : answers (start n) (ask (proposes 3) ∷ ask (accepts_at 3 604799) ∷ []) ≡ done 0 1 ∷ done 0 1 ∷ []
  pub F_604800 : answers (start n) (ask (proposes 3) ∷ ask (accepts_at 3 604800) ∷ []) ≡ done 0 1 ∷ refused 17 ∷ []
  -- G: a migration to 4, initiated at 0 s; its value is what was migrated
  pub G_172799 : answers (start n) (ask (initiates 4) ∷ ask (executes_at 172799) ∷ []) ≡ done 0 1 ∷ refused 21 ∷ []
  pub G_172800 : answers (start n) (ask (initiates 4) ∷ ask (executes_at 172800) ∷ []) ≡ done 0 1 ∷ done 100 1 ∷ []
  pub G_172800_paused : answers (start n) (ask (initiates 4) ∷ ask pauses ∷ ask (executes_at 172800) ∷ []) ≡ done 0 1 ∷ done 0 1 ∷ done 100 1 ∷ []
  -- H: deposit, migration to 4 and deposit in sequence 7, then deposit in sequence 8
  pub H : answers (start n) (ask (deposits_in 7 10) ∷ ask (initiates 4) ∷ ask (executes_at 172800) ∷ ask (deposits_in 7 10) ∷ ask (deposits_in 8 10) ∷ [])
      ≡ done 0 1 ∷ done 0 1 ∷ done 110 1 ∷ refused 11 ∷ done 0 1 ∷ []
  -- I: `is_token_compliant`; yes is 1
  pub I_0 : answers (start n) (ask (asks_compliance 0) ∷ []) ≡ done 0 0 ∷ []
  pub I_48 : answers (start n) (ask (asks_compliance 48) ∷ []) ≡ done 1 0 ∷ []
  pub I_2 : answers (start n) (ask (asks_compliance 2) ∷ []) ≡ refused 23 ∷ []
  -- J: the owner's credit is 2 ^ 127 - 1
  pub J_deposit : answers (full_credit n) (ask (deposits 1) ∷ []) ≡ done 0 1 ∷ []
  pub J_kept : credit (after (full_credit n) (ask (deposits 1) ∷ [])) 0 2 ≡ bias + (2 ^ 127 - 1)
  pub J_token : answers (full_credit n) (ask (deposits_token 1) ∷ []) ≡ refused 7 ∷ []
  -- K: a stranger sets the limit
  pub K_99 : answers (start n) (ask (sets_limit 5 99) ∷ []) ≡ refused 6 ∷ []
  pub K_100 : answers (start n) (ask (sets_limit 5 100) ∷ []) ≡ refused 3 ∷ []
  -- L: a payout of 5 to 4, undone: image and journal are byte for byte those after begin
  pub L_answers : answers (start n) (begin ∷ ask (pays_to 4 5) ∷ undo ∷ []) ≡ done 0 0 ∷ done 0 1 ∷ done 0 0 ∷ []
  pub L_image : after (start n) (begin ∷ ask (pays_to 4 5) ∷ undo ∷ []) ≡ case_image
  pub L_state : run vault_step (start n) (begin ∷ ask (pays_to 4 5) ∷ undo ∷ []) ≡ run vault_step (start n) (begin ∷ [])

-- the table, for a journal of any length that has room for three entries
pub record CasesHold : Type 0 where
  pub every : (n : ℕ) → fits n ≡ true → 96 ≤ n → Cases n
  -- among them the longest journal
  pub longest : Cases 48024
