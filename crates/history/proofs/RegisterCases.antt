-- The register's calls, computed: the kept list, the numbers, and the bytes of image and journal.
use mathlib.Core.Path.{◌≡◌, refl}
use mathlib.Core.List.{List, [], ◌∷◌, ◌++◌, map}
use Prim.Native.Nat.{ℕ}
use lib.ListN.{replicate, set}
use Rattle.fields.specs.Logic.{◌and◌, ◌or◌}
use Rattle.fields.specs.Bytes.{le}
use Rattle.fields.specs.Same.{same_bytes_of}
use Rattle.journal.specs.Calls.{Call, operation, begin, commit, rollback, undo, State, Answer}
use Rattle.journal.specs.Journal.{entries_bytes, layout, bytes_of, read_entries, contents_of, ordered, valid, fits, good_journal, changed, put_back, restore, of_call, except_call, entered, room, journal_after}
use Rattle.journal.specs.Step.{begun, committed, rolled_back, last_undone, undone, outcome, operated, act, step}
use Rattle.history.specs.Kept.{Noted, note, run, log, kept}
use Rattle.history.specs.Register.{good_register, register_view, register_op, register_step}

abbrev store : ℕ → Call
store n = operation (n ∷ []) []

abbrev number_of : Noted Answer → ℕ
number_of (note c t) = t.number

-- a zero image, and a closed journal with places for three entries; an operation changes two cells
abbrev opening : State
opening = record { image = replicate 32 0; journal = replicate 96 0 }

-- the second store finds no room; the undo takes the first back; there is no call left to undo; 0 is refused, 24 is a view;
-- the store in the second transaction is rolled back
abbrev mixed : List Call
mixed =
    begin ∷ begin ∷ store 5 ∷ store 6 ∷ undo ∷ undo ∷ store 0 ∷ store 24 ∷ commit ∷ commit ∷ store 7 ∷ begin ∷ store 8 ∷ rollback ∷ undo ∷ rollback ∷ []

-- all definitions that computing opens stand in the one `unfolding` line
computed : (
    -- the kept list
    kept register_step register_view opening mixed ≡ begin ∷ commit ∷ store 7 ∷ begin ∷ rollback ∷ [])
    × (
    -- the numbers
    map number_of (log register_step opening mixed) ≡ 0 ∷ 36 ∷ 0 ∷ 34 ∷ 0 ∷ 37 ∷ 4 ∷ 0 ∷ 0 ∷ 35 ∷ 0 ∷ 0 ∷ 0 ∷ 0 ∷ 35 ∷ 35 ∷ [])
    × (
    -- an undone operation: image and journal bytes return
    run register_step opening (begin ∷ store 5 ∷ undo ∷ []) ≡ run register_step opening (begin ∷ []))
    × (
    -- the bytes of an open journal with one call: the head, the entries of cells 0 and 1, and the free place
    (run register_step opening (begin ∷ store 5 ∷ [])).journal
    ≡ 1 ∷ 0 ∷ 1 ∷ 0 ∷ 2 ∷ replicate 19 0
    ++ (0 ∷ 0 ∷ 1 ∷ replicate 21 0)
    ++ (1 ∷ 0 ∷ 1 ∷ replicate 21 0)
    ++ replicate 24 0)
    × (
    -- an image that is not good
    (register_step (record { image = replicate 31 0; journal = replicate 96 0 }) begin).answer.number ≡ 30)
    × (
    -- a closed journal that is not zero
    (register_step (record { image = replicate 32 0; journal = set (replicate 96 0) 2 1 }) begin).answer.number ≡ 31)
unfolding good_register register_view register_op register_step ◌and◌ ◌or◌ le same_bytes_of entries_bytes layout bytes_of read_entries contents_of ordered valid fits good_journal changed put_back restore of_call except_call entered room journal_after begun committed rolled_back last_undone undone outcome operated act step
computed = (refl, refl, refl, refl, refl, refl)
