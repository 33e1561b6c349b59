-- What each call does to an image and a journal, for any operations (docs/FORMATS.md, "The order of a call" and "Begin, commit, rollback, undo").
use Rattle.std.specs.Prelude.{◌≡◌, Bool, true, false, List, [], ℕ, zero, suc, eqb, length, replicate}
use Rattle.fields.specs.Rules.{pick}
use Rattle.journal.specs.Calls.{Call, operation, begin, commit, rollback, undo, State, Step, Done}
use Rattle.journal.specs.Journal.{Entry, contents_of, bytes_of, fits, good_journal, restore, of_call, except_call, room, journal_after}

abbrev pub vault : (image journal : List ℕ) → State
vault image journal = record { image = image; journal = journal }

-- a number with no value and no event; the bytes of the event buffer; what the vault holds
abbrev pub reply : ℕ → List ℕ → State → Step
reply number events s = record { answer = record { number = number; value = 0; count = 0; events = events }; state = s }

-- the event buffer of a refused operation that got past 33
unfoldable pub blank : List ℕ
blank = replicate 896 0

-- ---- begin, commit, rollback and undo, which have no event buffer; the journal is good
-- 36 already open
unfoldable pub begun : State → Step
begun s =
    pick (contents_of s.journal).opened (reply 36 [] s)
    (reply 0 [] (vault s.image (bytes_of (length s.journal) (record { opened = true; calls = 0; entries = [] }))))

-- 35 none open; zeroes the journal
unfoldable pub committed : State → Step
committed s =
    pick (contents_of s.journal).opened (reply 0 [] (vault s.image (replicate (length s.journal) 0))) (reply 35 [] s)

-- 35 none open; undoes all and zeroes the journal
unfoldable pub rolled_back : State → Step
rolled_back s =
    pick (contents_of s.journal).opened
    (reply 0 [] (vault (restore (contents_of s.journal).entries s.image) (replicate (length s.journal) 0))) (reply 35 [] s)

-- 37 no call; puts back the last call's cells, zeroes its entries and lowers both counts
unfoldable pub last_undone : State → (calls : ℕ) → List Entry → Step
last_undone s zero es = reply 37 [] s
last_undone s (suc n) es =
    reply 0 []
    (vault (restore (of_call (suc n) es) s.image)
    (bytes_of (length s.journal) (record { opened = true; calls = n; entries = except_call (suc n) es })))

-- 35 none open
unfoldable pub undone : State → Step
undone s =
    pick (contents_of s.journal).opened (last_undone s (contents_of s.journal).calls (contents_of s.journal).entries) (reply 35 [] s)

-- ---- an operation that gave d by its own rules: whether it is accepted by them, is a view, the journal is open, and has room
unfoldable pub outcome : (accepted view opened room : Bool) → State → Done → (after : List ℕ) → Step
outcome false view opened room s d after = record { answer = d.answer; state = s }
outcome true true opened room s d after = record { answer = d.answer; state = s }
outcome true false false room s d after = record { answer = d.answer; state = vault d.image s.journal }
outcome true false true false s d after = reply 34 blank s
outcome true false true true s d after = record { answer = d.answer; state = vault d.image after }

unfoldable pub operated : (cells : ℕ) → (view : Bool) → State → Done → Step
operated cells view s d =
    outcome (eqb d.answer.number 0) view (contents_of s.journal).opened (room cells s.image d.image s.journal) s d
    (journal_after cells s.image d.image s.journal)

-- ---- every call; `op` is given the image, the record and the event buffer, and `view` tells by the record which operations are views
-- the event buffer as the caller lent it
abbrev pub lent : Call → List ℕ
lent (operation r e) = e
lent begin = []
lent commit = []
lent rollback = []
lent undo = []

module _ (cells : ℕ) (good_image : List ℕ → Bool) (op : List ℕ → List ℕ → List ℕ → Done) (view : List ℕ → Bool) where
  -- a call on a good image and a good journal
  unfoldable pub act : State → Call → Step
  act s (operation r e) = operated cells (view r) s (op s.image r e)
  act s begin = begun s
  act s commit = committed s
  act s rollback = rolled_back s
  act s undo = undone s

  -- 30 image not good, 31 journal not good: image, journal and event buffer stay as they are
  unfoldable pub step : State → Call → Step
  step s c =
      pick (good_image s.image) (pick (good_journal cells s.journal) (act s c) (reply 31 (lent c) s)) (reply 30 (lent c) s)

-- where a list of calls may start: a good image, and a closed journal of a length that a journal may have
pub record Opening (good_image : List ℕ → Bool) (s : State) : Type 0 where
  pub image_good : good_image s.image ≡ true
  pub length_fits : fits (length s.journal) ≡ true
  pub all_zero : s.journal ≡ replicate (length s.journal) 0
