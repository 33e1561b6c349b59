-- What a kept operation brings to the vault's holding of a token, and what it takes: the four sums of the customer's equation.
-- x is the image before the operation, r its record, e the bytes of the event buffer that it left, t the token's address.
use Rattle.std.specs.Prelude.{List, [], ◌∷◌, ℕ, zero, suc, eqb, ℤ, pos, ◌+ℤ◌, ◌-ℤ◌, get_or}
use Rattle.fields.specs.Rules.{pick}
use Rattle.image.specs.Layout.{default_token, destination}
use Rattle.record.specs.Record.{operation_of, token_of, other_of, item_count_of, amount_of, fee_of, item_amount}
use Rattle.book.specs.Book.{vault_holding, toll_value, after_toll}
use Rattle.book.specs.Integers.{integer_of, smaller}

-- an amount beside each operation that counts; 0 of all others
abbrev pub amount_by : ℕ → List (ℕ × ℤ) → ℤ
amount_by o [] = pos 0
amount_by o (row ∷ rows) = pick (eqb o row.0) row.1 (amount_by o rows)

-- n of the token at address a counts for the token at address t if they are one
abbrev pub of_token : (a t : ℕ) → ℤ → ℤ
of_token a t n = pick (eqb t a) n (pos 0)

-- n items from item i on, each after toll; and as they are
unfoldable pub items_after_toll : (n i : ℕ) → List ℕ → (toll : ℤ) → ℤ
items_after_toll zero i r toll = pos 0
items_after_toll (suc n) i r toll = after_toll toll (integer_of (item_amount r i)) +ℤ items_after_toll n (suc i) r toll

unfoldable pub items_amount : (n i : ℕ) → List ℕ → ℤ
items_amount zero i r = pos 0
items_amount (suc n) i r = integer_of (item_amount r i) +ℤ items_amount n (suc i) r

-- deposits, after toll; one that wrote event 17 brought nothing
unfoldable pub deposited : (x r e : List ℕ) (t : ℕ) → ℤ
deposited x r e t =
    let amount = integer_of (amount_of r) in
    let default = default_token x in
    amount_by (operation_of r)
    ((2, of_token default t (after_toll (toll_value x default) amount))
    ∷ (3, of_token default t (after_toll (toll_value x default) (amount -ℤ integer_of (fee_of r))))
    ∷ (4, of_token default t (items_after_toll (item_count_of r) 0 r (toll_value x default)))
    ∷ (7, of_token (token_of r) t (after_toll (toll_value x (token_of r)) amount))
    ∷ (9, pick (eqb (get_or e 0 0) 17) (pos 0) (of_token default t (after_toll (toll_value x default) amount)))
    ∷ [])

-- outside moves to address 1, after toll
unfoldable pub moved_in_of : (x r : List ℕ) (t : ℕ) → ℤ
moved_in_of x r t =
    amount_by (operation_of r)
    ((29, pick (eqb (other_of r) 1) (of_token (token_of r) t (after_toll (toll_value x (token_of r)) (integer_of (amount_of r)))) (pos 0)) ∷ [])

unfoldable pub paid_out : (x r : List ℕ) (t : ℕ) → ℤ
paid_out x r t =
    amount_by (operation_of r)
    ((5, of_token (default_token x) t (integer_of (amount_of r)))
    ∷ (6, of_token (default_token x) t (items_amount (item_count_of r) 0 r))
    ∷ (8, of_token (token_of r) t (integer_of (amount_of r)))
    ∷ [])

-- a migration takes the whole holding; one to the vault itself costs only the toll, at most the holding
abbrev pub migration_takes : List ℕ → ℕ → ℤ
migration_takes x a = pick (eqb (destination x) 1) (smaller (toll_value x a) (vault_holding x a)) (vault_holding x a)

unfoldable pub migrated : (x r : List ℕ) (t : ℕ) → ℤ
migrated x r t = amount_by (operation_of r) ((22, of_token (default_token x) t (migration_takes x (default_token x))) ∷ [])

-- what an operation adds in all
abbrev pub flow : (x r e : List ℕ) (t : ℕ) → ℤ
flow x r e t = deposited x r e t +ℤ moved_in_of x r t -ℤ paid_out x r t -ℤ migrated x r t
