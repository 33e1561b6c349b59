-- Which operations read which field of a record, and refusal 32 (docs/FORMATS.md, "The record" and "The order of a call").
use Rattle.std.specs.Prelude.{Bool, false, not, ◌||◌, List, [], ◌∷◌, ℕ, eqb, ltb, length}
use Rattle.fields.specs.Bytes.{bytes}
use Rattle.fields.specs.Logic.{◌and◌, ◌or◌, all}
use Rattle.fields.specs.Rules.{Rule, when, verdict, lt, ne, is}
use Rattle.record.specs.Record.{operation_of, caller_of, token_of, other_of, flag_of, item_count_of, item_address}

unfoldable pub member : ℕ → List ℕ → Bool
member o [] = false
member o (x ∷ xs) = eqb o x || member o xs

-- all operations but these read the caller
abbrev pub caller_unread : List ℕ
caller_unread = 4 ∷ 24 ∷ 27 ∷ 28 ∷ 30 ∷ []

unfoldable pub reads_caller : ℕ → Bool
reads_caller o = not (member o caller_unread)

abbrev pub token_readers : List ℕ
token_readers = 1 ∷ 7 ∷ 8 ∷ 12 ∷ 20 ∷ 26 ∷ 27 ∷ 28 ∷ 29 ∷ 30 ∷ []

unfoldable pub reads_token : ℕ → Bool
reads_token o = member o token_readers

abbrev pub other_readers : List ℕ
other_readers = 5 ∷ 8 ∷ 13 ∷ 15 ∷ 21 ∷ 29 ∷ []

unfoldable pub reads_other : ℕ → Bool
reads_other o = member o other_readers

abbrev pub flag_readers : List ℕ
flag_readers = 20 ∷ 30 ∷ []

unfoldable pub reads_flag : ℕ → Bool
reads_flag o = member o flag_readers

-- the item count and the addresses of the counted items
abbrev pub item_readers : List ℕ
item_readers = 4 ∷ 6 ∷ []

unfoldable pub reads_items : ℕ → Bool
reads_items o = member o item_readers

abbrev pub views : List ℕ
views = 24 ∷ 25 ∷ 26 ∷ 27 ∷ 28 ∷ []

unfoldable pub is_view : ℕ → Bool
is_view o = member o views

-- the address of item i is one, and so are those of the first n items
abbrev pub item_within : List ℕ → ℕ → Bool
item_within r i = ltb (item_address r i) 64

unfoldable pub items_within : List ℕ → ℕ → Bool
items_within r n = all (item_within r) n

-- a field that the operation reads holds more than it may: the caller, the token, the other address or the flag
unfoldable pub head_exceeds : List ℕ → Bool
head_exceeds r =
    reads_caller (operation_of r) and ltb 63 (caller_of r)
    or reads_token (operation_of r) and ltb 63 (token_of r)
    or reads_other (operation_of r) and ltb 63 (other_of r)
    or reads_flag (operation_of r) and ltb 1 (flag_of r)

-- and so with the item count and the addresses of the counted items
unfoldable pub items_exceed : List ℕ → Bool
items_exceed r = reads_items (operation_of r) and (ltb 16 (item_count_of r) or not (items_within r (item_count_of r)))

-- refusal 32: the length, the operation, and the fields that the operation reads
abbrev pub form_rules : List ℕ → List Rule
form_rules r =
    when (ne (length r) 448) 32
    ∷ when (lt (operation_of r) 1) 32
    ∷ when (lt 30 (operation_of r)) 32
    ∷ when (is (head_exceeds r)) 32
    ∷ when (is (items_exceed r)) 32
    ∷ when (is (not (bytes r))) 32  -- never of a slice
    ∷ []

unfoldable pub form_number : List ℕ → ℕ
form_number r = verdict (form_rules r)
