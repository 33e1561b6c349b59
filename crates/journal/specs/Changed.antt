-- Which cells an operation enters (docs/FORMATS.md, "The journal"): those in which some byte of the image differs, ascending. The list is `changed`,
-- which `journal_after` enters.
use Rattle.std.specs.Prelude.{◌≡◌, List, ◌++◌, map, ℕ, suc, ◌+◌, ◌*◌, ◌<◌, length, get_or}
use Rattle.journal.specs.Calls.{State}
use Rattle.journal.specs.Journal.{Entry, contents_of, changed}

-- some byte of the cell is another in one image than in the other
pub record Differs (cell : ℕ) (old new : List ℕ) : Type 0 where
  pub byte : ℕ
  pub within : byte < 16
  pub other : get_or old (16 * cell + byte) 0 ≡ get_or new (16 * cell + byte) 0 → ⊥

-- the number stands in the list
pub record Listed (number : ℕ) (list : List ℕ) : Type 0 where
  pub place : ℕ
  pub within : place < length list
  pub there : get_or list place 0 ≡ number

-- of two images of so many cells, a list that has a cell's number exactly if
pub record ChangedCells (cells : ℕ) (old new list : List ℕ) : Type 0 where
  -- it is below the number of cells, and some byte of the cell differs,
  pub listed : (cell : ℕ) → Listed cell list → (cell < cells) × Differs cell old new
  pub every : (cell : ℕ) → cell < cells → Differs cell old new → Listed cell list
  -- and that ascends
  pub ascends : (i k : ℕ) → i < k → k < length list → get_or list i 0 < get_or list k 0

-- the cells of entries
abbrev pub numbers : List Entry → List ℕ
numbers es = map (λ (e : Entry). e.cell) es

-- a call took the vault from s to t, both images of so many cells: behind the entries that the journal had stand those of the call, and they are of
-- the changed cells
pub record CellsEntered (cells : ℕ) (s t : State) : Type 0 where
  pub long_before : length s.image ≡ 16 * cells
  pub long_after : length t.image ≡ 16 * cells
  pub entries : (contents_of t.journal).entries
      ≡ (contents_of s.journal).entries ++ changed (suc (contents_of s.journal).calls) cells 0 s.image t.image
  pub exact : ChangedCells cells s.image t.image (numbers (changed (suc (contents_of s.journal).calls) cells 0 s.image t.image))
