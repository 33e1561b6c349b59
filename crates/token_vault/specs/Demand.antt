-- Demands 1 and 3 for this vault, over its step: any bytes one answer; any list of calls, the book, and the customer's equation.
use Rattle.std.specs.Prelude.{◌≡◌, Bool, true, ◌&&◌, ◌||◌, List, [], ℕ, ◌≤◌, ◌<◌, ltb, ℤ, pos, ◌+ℤ◌, ◌-ℤ◌, replicate}
use Rattle.fields.specs.Rules.{pick}
use Rattle.history.specs.Kept.{run, kept, total, SameAsKept}
use Rattle.history.specs.Owed.{GoodState}
use Rattle.journal.specs.Calls.{Call, operation, begin, commit, rollback, undo, State, Answer, Step}
use Rattle.journal.specs.Journal.{fits}
use Rattle.journal.specs.Step.{vault, blank, Opening}
use Rattle.book.specs.Book.{Book, vault_holding, toll_value, open_book, enter_book, BookIs}
use Rattle.book.specs.Flows.{deposited, moved_in_of, paid_out, migrated}
use Rattle.book.specs.Integers.{smaller}
use Rattle.record.specs.Record.{operation_of}
use Rattle.image.specs.Layout.{cells, default_token, destination}
use Rattle.image.specs.Good.{good_image}
use Rattle.operations.specs.Operations.{is_own}
use Rattle.token_vault.specs.Vault.{view, vault_step}

-- ---- demand 1
-- the refusals of every call: 30 to 33 and 34; of the journal's calls: 35 to 37
abbrev pub is_common : ℕ → Bool
is_common n = ltb 29 n && ltb n 38

-- 30 to 33 leave the event buffer as it was lent
abbrev pub leaves_buffer : ℕ → Bool
leaves_buffer n = ltb 29 n && ltb n 34

-- the event buffer after the refusal n: as lent, or blank. Begin, commit, rollback and undo have none
abbrev pub buffer_after : ℕ → Call → List ℕ
buffer_after n (operation r e) = pick (leaves_buffer n) e blank
buffer_after n begin = []
buffer_after n commit = []
buffer_after n rollback = []
buffer_after n undo = []

-- what a refused call c at s left: image and journal as they were, value and event count 0
pub record Refused (s : State) (c : Call) (x : Step) : Type 0 where
  pub unchanged : x.state ≡ s
  pub no_value : x.answer.value ≡ 0
  pub no_event : x.answer.count ≡ 0
  pub buffer : x.answer.events ≡ buffer_after x.answer.number c

-- the same answer, event bytes and image
pub record SameCall (x y : Step) : Type 0 where
  pub answer : x.answer ≡ y.answer
  pub image : x.state.image ≡ y.state.image

-- any image, any journal and any call, with any record and any event buffer
pub record Demand1 : Type 0 where
  -- done, or one numbered refusal
  pub numbered : (s : State) (c : Call) → is_own (vault_step s c).answer.number || is_common (vault_step s c).answer.number ≡ true
  pub refused : (s : State) (c : Call) → ((vault_step s c).answer.number ≡ 0 → ⊥) → Refused s c (vault_step s c)
  -- at a closed journal an operation's answer, events and image do not depend on its length, and it stays closed
  pub closed : (l r e : List ℕ) (m n : ℕ) → fits m ≡ true → fits n ≡ true
      → SameCall (vault_step (vault l (replicate m 0)) (operation r e)) (vault_step (vault l (replicate n 0)) (operation r e))
  pub stays_closed : (l r e : List ℕ) (n : ℕ) → fits n ≡ true → (vault_step (vault l (replicate n 0)) (operation r e)).state.journal ≡ replicate n 0

-- ---- demand 3
-- the book is fed the record of a kept operation and the events that the second vault wrote for it
abbrev pub enter : Book → List ℕ → Answer → Book
enter b r a = enter_book b r a.events

-- a sum over the kept list as the second vault runs it; f is given the image before an operation, its record and the events that it wrote
abbrev pub kept_sum : (List ℕ → List ℕ → List ℕ → ℤ) → State → List Call → ℤ
kept_sum f s cs = total vault_step (λ x r a. f x r a.events) s (kept vault_step view s cs)

-- the customer's equation, of a vault that starts at s and gets the calls cs: for each token the holding after the list is the opening holding
-- + kept deposits + kept outside moves in, both after toll, - kept payouts - kept executed migrations
pub record Balances (s : State) (cs : List Call) : Type 0 where
  pub balanced : (t : ℕ) → 48 ≤ t → t < 64
      → vault_holding (run vault_step s cs).image t
      ≡ vault_holding s.image t
      +ℤ kept_sum (λ x r e. deposited x r e t) s cs
      +ℤ kept_sum (λ x r e. moved_in_of x r t) s cs
      -ℤ kept_sum (λ x r e. paid_out x r t) s cs
      -ℤ kept_sum (λ x r e. migrated x r t) s cs

-- an executed migration, operation 22 answered 0, of the default token d: to another address the whole holding goes;
-- to the vault itself only the toll, at most the holding
pub record Migrates (s : State) (r e : List ℕ) : Type 0 where
  pub away : (destination s.image ≡ 1 → ⊥) → vault_holding (vault_step s (operation r e)).state.image (default_token s.image) ≡ pos 0
  pub home : destination s.image ≡ 1
      → vault_holding (vault_step s (operation r e)).state.image (default_token s.image)
      ≡ vault_holding s.image (default_token s.image) -ℤ smaller (toll_value s.image (default_token s.image)) (vault_holding s.image (default_token s.image))

-- from any good image and closed journal of any length, for any list of calls with any records and event buffers: image, journal, answers and event bytes are those of the second vault that
-- gets only the kept list, later calls too; image and journal are good; each number of the book is address 1's holding; and the customer's equation
pub record Demand3 : Type 0 where
  pub every : (s : State) → Opening good_image s → (cs : List Call) → SameAsKept vault_step view (GoodState cells good_image) enter BookIs s (open_book s.image) cs
  pub balance : (s : State) → Opening good_image s → (cs : List Call) → Balances s cs
  pub migration : (s : State) (r e : List ℕ) → operation_of r ≡ 22 → (vault_step s (operation r e)).answer.number ≡ 0 → Migrates s r e
