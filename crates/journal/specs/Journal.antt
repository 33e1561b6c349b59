-- The undo journal (docs/FORMATS.md, "The journal"): its bytes and what they say, which journals are good, and what an accepted operation enters.
use Rattle.std.specs.Prelude.{Bool, true, List, [], ◌∷◌, ◌++◌, ℕ, zero, suc, ◌*◌, ◌-◌, ◌/◌, ◌%◌, eqb, leb, ltb, length, get_or, take, drop, replicate}
use Rattle.fields.specs.Logic.{◌and◌, ◌or◌}
use Rattle.fields.specs.Bytes.{le}
use Rattle.fields.specs.Rules.{pick}
use Rattle.fields.specs.Same.{same_bytes_of}

-- a changed cell: its number, the number of the call that changed it, and the 16 bytes that it held before
pub record Entry : Type 0 where
  pub cell : ℕ
  pub call : ℕ
  pub old : List ℕ

-- what a journal says
pub record Contents : Type 0 where
  pub opened : Bool
  pub calls : ℕ
  pub entries : List Entry

-- ---- the bytes, for contents
-- the head: open 0 or 1 at 0, calls (2) at 2, entries (2) at 4
abbrev pub head_bytes_of : Bool → ℕ → ℕ → List ℕ
head_bytes_of opened calls entries =
    pick opened 1 0 ∷ 0 ∷ calls % 256 ∷ calls / 256 ∷ entries % 256 ∷ entries / 256 ∷ replicate 18 0

-- an entry: cell (2), call number (2), four zeros, old 16 bytes
abbrev pub entry_bytes : Entry → List ℕ
entry_bytes e = e.cell % 256 ∷ e.cell / 256 ∷ e.call % 256 ∷ e.call / 256 ∷ 0 ∷ 0 ∷ 0 ∷ 0 ∷ e.old

unfoldable pub entries_bytes : List Entry → List ℕ
entries_bytes [] = []
entries_bytes (e ∷ es) = entry_bytes e ++ entries_bytes es

-- a head that says `calls` and `count`, the entries, and zeros up to `len` bytes
unfoldable pub layout : (len : ℕ) (opened : Bool) (calls count : ℕ) → List Entry → List ℕ
layout len opened calls count es = head_bytes_of opened calls count ++ (entries_bytes es ++ replicate (len - 24 * suc (length es)) 0)

-- a journal of `len` bytes with these contents
unfoldable pub bytes_of : (len : ℕ) → Contents → List ℕ
bytes_of len p = layout len p.opened p.calls (length p.entries) p.entries

-- ---- the contents, for bytes
abbrev pub read_entry : List ℕ → Entry
read_entry b = record { cell = le 2 b 0; call = le 2 b 2; old = take 16 (drop 8 b) }

unfoldable pub read_entries : ℕ → List ℕ → List Entry
read_entries zero b = []
read_entries (suc n) b = read_entry b ∷ read_entries n (drop 24 b)

unfoldable pub contents_of : List ℕ → Contents
contents_of j = record { opened = eqb (get_or j 0 0) 1; calls = le 2 j 2; entries = read_entries (le 2 j 4) (drop 24 j) }

-- ---- good journals
unfoldable pub fits : ℕ → Bool
fits len =
    eqb (len % 24) 0  -- 24 times (1 + k) bytes,
    and leb 48 len  -- k from 1
    and leb len 48024  -- to 2,000

-- entries in order, behind one of call `last` whose next cell would be `next`: 0 and 0 at first
unfoldable pub ordered : (cells calls last next : ℕ) → List Entry → Bool
ordered cells calls last next [] = true
ordered cells calls last next (e ∷ es) =
    leb 1 e.call  -- call numbers from 1
    and leb e.call calls  -- to calls,
    and leb last e.call  -- never falling;
    and ltb e.cell cells  -- cells below the number of cells,
    and (ltb last e.call or leb next e.cell)  -- ascending within a call;
    and eqb (length e.old) 16  -- old 16 bytes
    and ordered cells calls e.call (suc e.cell) es

unfoldable pub valid : (cells len : ℕ) → Contents → Bool
valid cells len p =
    (leb p.calls 1000  -- counts in range: at most 1,000 calls,
    and leb (24 * suc (length p.entries)) len)  -- and as many entries as there are places for
    and ordered cells p.calls 0 0 p.entries
    and (p.opened or (eqb p.calls 0 and eqb (length p.entries) 0))  -- a closed journal is all zero

unfoldable pub good_journal : (cells : ℕ) → List ℕ → Bool
good_journal cells j =
    fits (length j)
    and valid cells (length j) (contents_of j)
    and same_bytes_of (bytes_of (length j) (contents_of j)) j  -- open 0 or 1, the unused bytes of head and entries zero, rest zero

-- ---- cells and their old bytes
-- the cells in which two images differ, of n cells from cell i on, as entries of a call with the bytes of the first image
unfoldable pub changed : (call n i : ℕ) → (old new : List ℕ) → List Entry
changed call zero i old new = []
changed call (suc n) i old new =
    pick (same_bytes_of (take 16 old) (take 16 new)) (changed call n (suc i) (drop 16 old) (drop 16 new))
    (record { cell = i; call = call; old = take 16 old } ∷ changed call n (suc i) (drop 16 old) (drop 16 new))

-- the image with an entry's old bytes in its cell
unfoldable pub put_back : List ℕ → Entry → List ℕ
put_back image e = take (16 * e.cell) image ++ (e.old ++ drop (16 * suc e.cell) image)

-- all entries put back, the last one first
unfoldable pub restore : List Entry → List ℕ → List ℕ
restore [] image = image
restore (e ∷ es) image = put_back (restore es image) e

-- the entries of one call, and those of all others
unfoldable pub of_call : ℕ → List Entry → List Entry
of_call n [] = []
of_call n (e ∷ es) = pick (eqb e.call n) (e ∷ of_call n es) (of_call n es)

unfoldable pub except_call : ℕ → List Entry → List Entry
except_call n [] = []
except_call n (e ∷ es) = pick (eqb e.call n) (except_call n es) (e ∷ except_call n es)

-- ---- an accepted operation in an open journal, which changed the image from old to new: one call more, and its changed cells
unfoldable pub entered : (cells : ℕ) → (old new : List ℕ) → Contents → Contents
entered cells old new p =
    record { opened = true; calls = suc p.calls; entries = p.entries ++ changed (suc p.calls) cells 0 old new }

-- neither 1,000 calls nor the k entries that the journal has places for would be passed: else 34
unfoldable pub room : (cells : ℕ) → (old new journal : List ℕ) → Bool
room cells old new j =
    leb (suc (contents_of j).calls) 1000
    and leb (24 * suc (length (entered cells old new (contents_of j)).entries)) (length j)

unfoldable pub journal_after : (cells : ℕ) → (old new journal : List ℕ) → List ℕ
journal_after cells old new j = bytes_of (length j) (entered cells old new (contents_of j))
