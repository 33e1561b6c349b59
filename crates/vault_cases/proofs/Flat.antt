-- The images of the cases as lists of bytes, of which all is computed: a read then walks one list, not every put.
use mathlib.Core.Path.{◌≡◌, refl}
use mathlib.Core.List.{List, [], ◌∷◌, ◌++◌}
use Prim.Native.Nat.{ℕ, ◌/◌, ◌%◌}
use lib.ListN.{replicate}
use Rattle.fields.specs.Bytes.{put}
use Rattle.amount.specs.Biased.{bias, put_amount}
use Rattle.vault_cases.specs.Setting.{case_limit, case_image, full_credit_image}

-- the low bytes of what differs between them: tracked count, snapshot and tracked key; what vault, owner and payee hold; z is all that follows the payee's holding
unfoldable pub image_of : (count present ledger held key vault owner payee : ℕ) → List ℕ → List ℕ
image_of count present ledger held key vault owner payee z =
    5 ∷ 0 ∷ 2 ∷ 48 ∷ 3 ∷ 0 ∷ 0 ∷ 0
    ∷ case_limit % 256 ∷ case_limit / 256 ∷ (replicate 38 0
    ++ (128 ∷ 58 ∷ 9 ∷ (replicate 27 0
    ++ (1 ∷ (replicate 9 0
    ++ (count ∷ (replicate 1031 0
    ++ (present ∷ 0 ∷ 0 ∷ 0 ∷ ledger ∷ 0 ∷ 0 ∷ 0 ∷ held ∷ (replicate 375 0
    ++ (key ∷ (replicate 2175 0
    ++ (1 ∷ (replicate 399 0
    ++ (vault ∷ (replicate 15 0
    ++ (owner ∷ 7 ∷ (replicate 30 0
    ++ (payee ∷ (replicate 15 0 ++ z)))))))))))))))))))

-- the image of the cases, and what the cases make of it
abbrev pub case_bytes : List ℕ → List ℕ
case_bytes z = image_of 0 0 0 0 0 100 208 0 z

abbrev pub paid_bytes : List ℕ → List ℕ
paid_bytes z = image_of 0 1 7 95 0 95 208 5 z

abbrev pub deposited_bytes : List ℕ → List ℕ
deposited_bytes z = image_of 1 1 7 110 2 110 198 0 z

abbrev pub migrated_bytes : List ℕ → List ℕ
migrated_bytes z = image_of 1 1 7 110 2 0 198 110 z

-- what follows, with the owner's credit in it, and what follows that
unfoldable pub credited : (credit rest : List ℕ) → List ℕ
credited c w = replicate 16336 0 ++ (c ++ w)

unfoldable pub no_credit : List ℕ
no_credit = credited (replicate 16 0) (replicate 16336 0)

unfoldable pub credit_of_ten : List ℕ
credit_of_ten = credited (10 ∷ replicate 15 0) (replicate 16336 0)

unfoldable pub credit_full : List ℕ
credit_full = credited (replicate 15 255 ++ (127 ∷ [])) (replicate 16336 0)

pub case_flat : case_image ≡ case_bytes no_credit
unfolding case_image image_of no_credit credited bias put_amount put
case_flat = refl

pub full_flat : full_credit_image ≡ case_bytes credit_full
unfolding case_image full_credit_image image_of credit_full credited bias put_amount put
full_flat = refl
