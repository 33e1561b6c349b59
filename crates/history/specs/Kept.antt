-- A run of calls, the kept list (docs/FORMATS.md, "The kept list"), the book, and sums over a run, for any step of a vault; and what demand 3 says of them.
use Rattle.std.specs.Prelude.{◌≡◌, Bool, List, [], ◌∷◌, map, reverse, ℕ, eqb, ℤ, pos, ◌+ℤ◌}
use Rattle.fields.specs.Rules.{pick}
use Rattle.journal.specs.Calls.{Call, operation, begin, commit, rollback, undo, State, Answer, Step}

-- a call with something written beside it; the kept list never looks at what is written there
pub data Noted (T : Type 0) : Type 0 where
  note : Call → T → Noted T

abbrev pub call_of : {T : Type 0} → Noted T → Call
call_of (note c t) = c

abbrev pub bare : Call → Noted (Unit {0})
bare c = note c tt

-- ---- what an accepted call does to the kept list, whose newest call stands first
-- an accepted undo strikes the last operation
abbrev pub strike : {T : Type 0} → List (Noted T) → List (Noted T)
strike [] = []
strike (note (operation r e) t ∷ ks) = ks
strike (note begin t ∷ ks) = note begin t ∷ strike ks
strike (note commit t ∷ ks) = note commit t ∷ strike ks
strike (note rollback t ∷ ks) = note rollback t ∷ strike ks
strike (note undo t ∷ ks) = note undo t ∷ strike ks

-- an accepted rollback strikes all operations after the last begin
abbrev pub strike_all : {T : Type 0} → List (Noted T) → List (Noted T)
strike_all [] = []
strike_all (note (operation r e) t ∷ ks) = strike_all ks
strike_all (note begin t ∷ ks) = note begin t ∷ ks
strike_all (note commit t ∷ ks) = note commit t ∷ strike_all ks
strike_all (note rollback t ∷ ks) = note rollback t ∷ strike_all ks
strike_all (note undo t ∷ ks) = note undo t ∷ strike_all ks

-- an accepted begin, commit or operation other than a view goes to the end, and so does a rollback; a view and an undo do not
abbrev pub place : {T : Type 0} → (view : List ℕ → Bool) → Noted T → List (Noted T) → List (Noted T)
place view (note (operation r e) t) ks = pick (view r) ks (note (operation r e) t ∷ ks)
place view (note begin t) ks = note begin t ∷ ks
place view (note commit t) ks = note commit t ∷ ks
place view (note rollback t) ks = note rollback t ∷ strike_all ks
place view (note undo t) ks = strike ks

module _ (step : State → Call → Step) where
  -- what a vault holds after a list of calls
  abbrev pub run : State → List Call → State
  run s [] = s
  run s (c ∷ cs) = run (step s c).state cs

  -- the calls with the vault's answers beside them
  abbrev pub log : State → List Call → List (Noted Answer)
  log s [] = []
  log s (c ∷ cs) = note c (step s c).answer ∷ log (step s c).state cs

  -- a call is accepted if the second vault, run on the list so far, would answer it 0
  abbrev pub accepted : State → List Call → Call → Bool
  accepted s ks c = eqb (step (run s ks) c).answer.number 0

  -- fed one call after the other; a refused call adds nothing
  abbrev pub keep : {T : Type 0} → (view : List ℕ → Bool) → State → List (Noted T) → List (Noted T) → List (Noted T)
  keep view s ks [] = ks
  keep view s ks (x ∷ xs) = keep view s (pick (accepted s (map call_of (reverse ks)) (call_of x)) (place view x ks) ks) xs

  -- the kept calls, oldest first, with what is written beside them
  abbrev pub kept_of : {T : Type 0} → (view : List ℕ → Bool) → State → List (Noted T) → List (Noted T)
  kept_of view s xs = reverse (keep view s [] xs)

  -- the kept list, fed the calls alone
  abbrev pub kept : (view : List ℕ → Bool) → State → List Call → List Call
  kept view s cs = map call_of (kept_of view s (map bare cs))

-- the book, fed the kept operations and the second vault's answers, with the events in them, oldest first
module _ {B : Type 0} (enter : B → List ℕ → Answer → B) where
  abbrev pub book_one : B → Noted Answer → B
  book_one b (note (operation r e) t) = enter b r t
  book_one b (note begin t) = b
  book_one b (note commit t) = b
  book_one b (note rollback t) = b
  book_one b (note undo t) = b

  abbrev pub book : B → List (Noted Answer) → B
  book b [] = b
  book b (x ∷ xs) = book (book_one b x) xs

-- a sum over a run: of each operation f is given the image before it, its record and its answer
module _ (step : State → Call → Step) (f : List ℕ → List ℕ → Answer → ℤ) where
  abbrev pub total : State → List Call → ℤ
  total s [] = pos 0
  total s (operation r e ∷ cs) = f s.image r (step s (operation r e)).answer +ℤ total (step s (operation r e)).state cs
  total s (begin ∷ cs) = total (step s begin).state cs
  total s (commit ∷ cs) = total (step s commit).state cs
  total s (rollback ∷ cs) = total (step s rollback).state cs
  total s (undo ∷ cs) = total (step s undo).state cs

-- demand 3, of a vault that starts at s with the book b and gets the calls cs; Good says that neither 30 nor 31 is answered
pub record SameAsKept (step : State → Call → Step) (view : List ℕ → Bool) (Good : State → Type 0) {B : Type 0} (enter : B → List ℕ → Answer → B)
    (Match : B → List ℕ → Type 0) (s : State) (b : B) (cs : List Call) : Type 0 where
  -- image and journal are byte for byte those of a second vault that gets only the kept list
  pub same : run step s cs ≡ run step s (kept step view s cs)
  -- both are good
  pub good : Good (run step s cs)
  -- each kept call has the same answer and event bytes at either vault: the kept part of the first vault's log is the kept list ..
  pub calls : map call_of (kept_of step view s (log step s cs)) ≡ kept step view s cs
  -- .. with the answers that the second vault gives
  pub answers : kept_of step view s (log step s cs) ≡ log step s (kept step view s cs)
  -- and so has every call made after the list
  pub later : (ds : List Call) → log step (run step s cs) ds ≡ log step (run step s (kept step view s cs)) ds
  -- the book of the kept operations fits the image
  pub holds : Match (book enter b (log step s (kept step view s cs))) (run step s cs).image
