-- What the functions that write an image or a journal are asked, and what their parts leave.
use Rattle.std.specs.Prelude.{◌≡◌, Bool, true, List, ◌++◌, ℕ, ◌+◌, ◌*◌, ◌-◌, ◌/◌, ◌≤◌, ◌<◌, leb, length, take, drop}
use Rattle.std.specs.Borrow.{Bor}
use Rattle.fields.specs.Rules.{pick}
use Rattle.fields.specs.Same.{same_bytes_of}
use Rattle.journal.specs.Journal.{Entry, entries_bytes, contents_of, good_journal, layout, changed, of_call, except_call, entered, room, journal_after}
use Rattle.journal.specs.Changed.{ChangedCells, numbers}

-- a good journal of an image of some number of cells
pub record GoodJournal (journal : List ℕ) : Type 0 where
  pub cells : ℕ
  pub good : good_journal cells journal ≡ true

-- a good journal, and an image of that many cells
pub record GoodOver (cells : ℕ) (image journal : List ℕ) : Type 0 where
  pub long : length image ≡ 16 * cells
  pub good : good_journal cells journal ≡ true

-- a good open journal, and two images of that many cells; the number of a cell has two bytes
pub record GoodOpen (cells : ℕ) (old new journal : List ℕ) : Type 0 where
  pub long_old : length old ≡ 16 * cells
  pub long_new : length new ≡ 16 * cells
  pub numbered : cells ≤ 65536
  pub good : good_journal cells journal ≡ true
  pub opened : (contents_of journal).opened ≡ true

-- what `enter` leaves: 34 where there was no room, and the journal, which is as it was where there was none
pub record Enters (cells : ℕ) (old new journal : List ℕ) (r : ℕ) (after : List ℕ) : Type 0 where
  pub fitted : r ≡ pick (room cells old new journal) 0 34
  pub written : after ≡ pick (room cells old new journal) (journal_after cells old new journal) journal

-- r entries are of earlier calls, and those behind them of the last
pub record Earlier (call : ℕ) (es : List Entry) (r : ℕ) : Type 0 where
  pub few : r ≤ length es
  pub last : of_call call es ≡ drop r es
  pub earlier : except_call call es ≡ take r es

-- the k of a journal of 24 times (1 + k) bytes
unfoldable pub places : ℕ → ℕ
places len = len / 24 - 1

-- the entries of the journal and the changed cells behind them: all counted, and written as far as there are places; the head is not yet written
pub record Counted (cells : ℕ) (old new journal : List ℕ) (r : ℕ) (after : List ℕ) : Type 0 where
  pub counted : r ≡ length (entered cells old new (contents_of journal)).entries
  pub few : r ≤ length (contents_of journal).entries + cells
  pub written : after ≡ layout (length journal) (contents_of journal).opened (contents_of journal).calls (length (contents_of journal).entries)
      (take (places (length journal)) (entered cells old new (contents_of journal)).entries)

-- two images of so many cells, the first of which has the number `first`, and a call's number; both numbers have two bytes
pub record Cells (cells first call : ℕ) (old new : List ℕ) : Type 0 where
  pub long_old : length old ≡ 16 * cells
  pub long_new : length new ≡ 16 * cells
  pub numbered : first + cells ≤ 65536
  pub called : (1 ≤ call) × (call < 65536)

-- the place of entry n behind n entries of 24 bytes, or the end where there is none
unfoldable pub place_at : (n len : ℕ) → ℕ
place_at n len = pick (leb (24 * n) len) (24 * n) len

-- entries in places of 24 bytes from the first on, as many as there are places; the bytes behind them stay
unfoldable pub over : (places : List ℕ) → List Entry → List ℕ
over b es = entries_bytes (take (length b / 24) es) ++ drop (24 * length (take (length b / 24) es)) b

-- a comparison that may be asked of any two cells, and says whether their bytes are the same
pub record Compares (may : Bor (List ℕ) → Bor (List ℕ) → Type 0) (says : Bor (List ℕ) → Bor (List ℕ) → Bool → Type 0) : Type 0 where
  pub asked : (a b : Bor (List ℕ)) → length a.now ≡ 16 → length b.now ≡ 16 → may a b
  pub told : {a b : Bor (List ℕ)} {r : Bool} → says a b r → length a.now ≡ 16 → length b.now ≡ 16 → r ≡ same_bytes_of a.now b.now

-- the changed cells: all of them counted, and their entries written as far as there are places
pub record Found (cells first call : ℕ) (old new places : List ℕ) (r : ℕ) (after : List ℕ) : Type 0 where
  pub counted : r ≡ length (changed call cells first old new)
  pub written : after ≡ over places (changed call cells first old new)

-- of whole images, and that these cells are the ones in which some byte differs, ascending
pub record Finds (cells call : ℕ) (old new places : List ℕ) (r : ℕ) (after : List ℕ) : Type 0 where
  pub found : Found cells 0 call old new places r after
  pub exact : ChangedCells cells old new (numbers (changed call cells 0 old new))
