-- What can be wrong with the bytes that are read (docs/VECTORS.md): faults by their numbers, 0 where nothing is wrong, and the line that is said of each.
use Rattle.std.specs.Prelude.{◌≡◌, refl, Bool, List, [], ◌∷◌, ◌++◌, ℕ, ltb, length, get_or}
use Prim.Native.String.{String}
use Rattle.fields.specs.Bytes.{le}
use Rattle.fields.specs.Logic.{◌and◌, ◌or◌}
use Rattle.fields.specs.Rules.{lt, ne, is, Rule, when, verdict, chain}
use Rattle.answer_line.specs.Text.{text}
use Rattle.journal.specs.Calls.{State}

-- ---- the faults, the first that holds
-- of a list's head h, of which head_read bytes were read
abbrev pub head_rules : (head_read : ℕ) → (h : List ℕ) → List Rule
head_rules head_read h =
    when (ne head_read 16) 1
    ∷ when (lt 36848 (le 4 h 0)) 2
    ∷ when (lt 48048 (le 4 h 4)) 3
    ∷ when (ne (le 4 h 12) 0) 4
    ∷ []

unfoldable pub head_fault : (head_read : ℕ) → (h : List ℕ) → ℕ
head_fault head_read h = verdict (head_rules head_read h)

-- of image and journal, of which so many bytes were read
unfoldable pub state_fault : (image_read journal_read : ℕ) → State → ℕ
state_fault image_read journal_read s =
    verdict
    (when (ne image_read (length s.image)) 5
    ∷ when (ne journal_read (length s.journal)) 6
    ∷ [])

-- begin, commit, rollback or undo with a record or an event buffer
unfoldable pub has_needless : (h : List ℕ) → Bool
has_needless h = (ltb 0 (get_or h 0 0) and ltb (get_or h 0 0) 5) and (ltb 0 (le 2 h 2) or ltb 0 (le 2 h 4))

-- of a call's head h, of which head_read bytes were read
abbrev pub call_head_rules : (head_read : ℕ) → (h : List ℕ) → List Rule
call_head_rules head_read h =
    when (ne head_read 8) 7
    ∷ when (lt 5 (get_or h 0 0)) 8
    ∷ when (ne (le 2 h 6) 0) 9
    ∷ when (is (has_needless h)) 10
    ∷ when (lt 512 (le 2 h 2)) 11
    ∷ when (lt 1024 (le 2 h 4)) 12
    ∷ []

unfoldable pub call_head_fault : (head_read : ℕ) → (h : List ℕ) → ℕ
call_head_fault head_read h = verdict (call_head_rules head_read h)

-- of a call's record, of which record_read bytes were read
unfoldable pub record_fault : (h : List ℕ) → (record_read : ℕ) → ℕ
record_fault h record_read = verdict (when (ne record_read (le 2 h 2)) 13 ∷ [])

unfoldable pub call_fault : (head_read : ℕ) → (h : List ℕ) → (record_read : ℕ) → ℕ
call_fault head_read h record_read = chain (call_head_fault head_read h ∷ record_fault h record_read ∷ [])

-- ---- the lines, in ASCII
-- by the fault's number
unfoldable pub sentences : List String
sentences =
    ""
    ∷ "a list's head is cut short"
    ∷ "a list's image is longer than 36848 bytes"
    ∷ "a list's journal is longer than 48048 bytes"
    ∷ "bytes 12 to 15 of a list's head are not zero"
    ∷ "a list's image is cut short"
    ∷ "a list's journal is cut short"
    ∷ "a call's head is cut short"
    ∷ "a call's kind is above 5"
    ∷ "bytes 6 and 7 of a call's head are not zero"
    ∷ "a begin, commit, rollback or undo has a record or an event buffer"
    ∷ "a call's record is longer than 512 bytes"
    ∷ "a call's event buffer is longer than 1024 bytes"
    ∷ "a call's record is cut short"
    ∷ []

unfoldable pub fault_text : ℕ → List ℕ
fault_text fault = text (get_or sentences fault "")

unfoldable pub fault_line : ℕ → List ℕ
fault_line fault = text "token_vault_vectors: " ++ (fault_text fault ++ text "\n")

-- a worked example
kind-line : fault_line 8 ≡ text "token_vault_vectors: a call's kind is above 5\n"
unfolding fault_line fault_text sentences
kind-line = refl
