-- The book (docs/FORMATS.md, "The book"): a number for each token, fed the kept operations and the events that the second vault writes for them.
-- Numbers, amounts and tolls are integers, so that nothing is cut off at 0 but what is left after a toll.
use Rattle.std.specs.Prelude.{◌≡◌, List, [], ◌∷◌, ℕ, zero, suc, ◌≤◌, ◌<◌, eqb, ℤ, pos, ◌+ℤ◌, ◌-ℤ◌, get_or}
use Rattle.fields.specs.Rules.{pick}
use Rattle.image.specs.Layout.{slot, holding, toll, default_token, destination, has_migration}
use Rattle.record.specs.Record.{operation_of, token_of, other_of, item_count_of, amount_of, fee_of, item_amount}
use Rattle.book.specs.Integers.{integer_of, not_below_zero}

-- by the token's address: its number, and the toll that it had in the opening image
pub record Book : Type 0 where
  pub numbers : ℕ → ℤ
  pub tolls : ℕ → ℤ
  pub token : ℕ
  pub destination : ℕ

-- address 1's holding of the token at address t, and the token's toll
abbrev pub vault_holding : List ℕ → ℕ → ℤ
vault_holding x t = integer_of (holding x (slot t) 1)

abbrev pub toll_value : List ℕ → ℕ → ℤ
toll_value x t = integer_of (toll x (slot t))

-- at first address 1's holding of each token, and the image's default token and destination
unfoldable pub open_book : List ℕ → Book
open_book x = record { numbers = vault_holding x; tolls = toll_value x; token = default_token x; destination = destination x }

-- the number of the token at address a, changed by f
unfoldable pub change : (ℤ → ℤ) → ℕ → Book → Book
change f a b =
    record { numbers = λ t. pick (eqb t a) (f (b.numbers t)) (b.numbers t); tolls = b.tolls; token = b.token; destination = b.destination }

-- what arrives of n: less a toll, never below 0
abbrev pub after_toll : (toll n : ℤ) → ℤ
after_toll toll n = not_below_zero (n -ℤ toll)

-- .. less the opening image's toll of the token at address a
unfoldable pub net : Book → ℕ → ℤ → ℤ
net b a n = after_toll (b.tolls a) n

unfoldable pub adds : ℕ → ℤ → Book → Book
adds a n b = change (λ h. h +ℤ net b a n) a b

unfoldable pub takes : ℕ → ℤ → Book → Book
takes a n b = change (λ h. h -ℤ n) a b

-- n items from item i on, added to or taken from the default token
unfoldable pub adds_items : (n i : ℕ) → List ℕ → Book → Book
adds_items zero i r b = b
adds_items (suc n) i r b = adds_items n (suc i) r (adds b.token (integer_of (item_amount r i)) b)

unfoldable pub takes_items : (n i : ℕ) → List ℕ → Book → Book
takes_items zero i r b = b
takes_items (suc n) i r b = takes_items n (suc i) r (takes b.token (integer_of (item_amount r i)) b)

-- 22: to 0 and, if the destination is address 1, the old number back, less toll, never below 0
unfoldable pub migrates : Book → Book
migrates b = change (λ h. pick (eqb b.destination 1) (net b b.token h) (pos 0)) b.token b

-- a rule for each operation that the book knows; all else changes nothing
abbrev pub rule_of : ℕ → List (ℕ × Book) → Book → Book
rule_of o [] b = b
rule_of o (row ∷ rows) b = pick (eqb o row.0) row.1 (rule_of o rows b)

-- r is the record of a kept operation, e the bytes of the event buffer that it left
unfoldable pub enter_book : Book → (r e : List ℕ) → Book
enter_book b r e =
    let amount = integer_of (amount_of r) in
    rule_of (operation_of r)
    ((1, record { numbers = b.numbers; tolls = b.tolls; token = token_of r; destination = b.destination })
    ∷ (2, adds b.token amount b)
    ∷ (3, adds b.token (amount -ℤ integer_of (fee_of r)) b)
    ∷ (4, adds_items (item_count_of r) 0 r b)
    ∷ (5, takes b.token amount b)
    ∷ (6, takes_items (item_count_of r) 0 r b)
    ∷ (7, adds (token_of r) amount b)
    ∷ (8, takes (token_of r) amount b)
    ∷ (9, pick (eqb (get_or e 0 0) 17) b (adds b.token amount b))
    ∷ (21, record { numbers = b.numbers; tolls = b.tolls; token = b.token; destination = other_of r })
    ∷ (22, migrates b)
    ∷ (29, pick (eqb (other_of r) 1) (adds (token_of r) amount b) b)
    ∷ [])
    b

-- the book fits an image: each number is address 1's holding. The image has a destination only while a migration is open
pub record BookIs (b : Book) (x : List ℕ) : Type 0 where
  pub numbered : (t : ℕ) → 48 ≤ t → t < 64 → b.numbers t ≡ vault_holding x t
  pub tolled : (t : ℕ) → 48 ≤ t → t < 64 → b.tolls t ≡ toll_value x t
  pub default : b.token ≡ default_token x
  pub migrating : has_migration x ≡ 1 → b.destination ≡ destination x
