-- The image of the cases is good: the laws of the writes that make it from an image of zeros.
use mathlib.Core.Path.{◌≡◌, refl, ap}
use mathlib.Core.List.{List}
use Prim.Native.Nat.{ℕ, ◌+◌, ◌^◌, ◌<◌}
use native.Mathlib.Omega.{arith}
use lib.Dec.{lit<}
use lib.ListN.{replicate}
use Rattle.fields.specs.Bytes.{put, le-put-same}
use Rattle.fields.specs.Frame.{zero_le}
use Rattle.amount.specs.Biased.{bias, put_amount}
use Rattle.image.specs.Layout.{bit, token_at, holding_at, flags, kind, initialised}
use Rattle.storage.specs.Facts.{Good}
use Rattle.storage.specs.Zeros.{zero_at, empty_good}
use Rattle.storage.specs.Writes.{elsewhere, good_holding, good_kind}
use Rattle.storage.specs.Heads.{flags-put, good_approved, good_set-operator, good_initialise}
use Rattle.vault_cases.specs.Setting.{case_limit}
use Rattle.vault_cases.proofs.Flat.{image_of, case_bytes, no_credit, credited}

-- token 48, then what the vault, and what the owner holds of it
abbrev token : List ℕ → List ℕ
token l = put 8 l (token_at 0) 1

abbrev funded : List ℕ → List ℕ
funded l = put_amount (token l) (holding_at 0 1) (bias + 100)

abbrev held : List ℕ → List ℕ
held l = put_amount (funded l) (holding_at 0 2) (bias + 2000)

-- initialised, then with an operator
abbrev begun : List ℕ → List ℕ
begun l = put 8 (put_amount (put 1 (put 1 (put 2 (held l) 0 1) 2 2) 3 48) 8 (bias + case_limit)) 48 604800

abbrev operated : List ℕ → List ℕ
operated l = put 1 (put 2 (begun l) 0 5) 4 3

fits_100 : bias + 100 < bias + bias
unfolding bias
fits_100 = lit< tt

fits_2000 : bias + 2000 < bias + bias
unfolding bias
fits_2000 = lit< tt

fits_limit : bias + case_limit < bias + bias
unfolding bias
fits_limit = lit< tt

module _ (l : List ℕ) (g : Good l) (z : initialised l ≡ 0) where
  token-kind : kind (token l) 0 ≡ 1
  token-kind = let n = g.long in le-put-same 8 l 3680 1 (omega arith) (omega arith)

  token_good : Good (token l)
  token_good = good_kind l 0 1 g (omega arith) (omega arith) (omega arith)

  funded_good : Good (funded l)
  funded_good = let k = token-kind in good_holding (token l) 0 1 (bias + 100) token_good (omega arith) (omega arith) (omega arith) (omega arith) fits_100

  funded-kind : kind (funded l) 0 ≡ 1
  funded-kind = simp (elsewhere, token-kind)

  held_good : Good (held l)
  held_good = let k = funded-kind in good_holding (funded l) 0 2 (bias + 2000) funded_good (omega arith) (omega arith) (omega arith) (omega arith) fits_2000

  held-kind : kind (held l) 0 ≡ 1
  held-kind = simp (elsewhere, token-kind)

  held-blank : initialised (held l) ≡ 0
  held-blank = simp elsewhere z

  begun_good : Good (begun l)
  begun_good =
      let k = held-kind in
      good_initialise (held l) 2 48 (bias + case_limit) 604800 held_good held-blank (omega arith) (omega arith) (omega arith) (omega arith) (omega arith) fits_limit (omega arith) (omega arith)

  begun-flags : flags (begun l) ≡ 1
  begun-flags =
      let n = held_good.long in
      let e = le-put-same 2 (held l) 0 1 (omega arith) (omega arith) in
      simp (elsewhere, e)

  operated_good : Good (operated l)
  operated_good = rw begun-flags at (good_set-operator (begun l) begun_good (ap (λ (x : ℕ). bit x 0) begun-flags) 3 (omega arith))

  operated-flags : flags (operated l) ≡ 5
  operated-flags = let e = flags-put (begun l) 5 begun_good (omega arith) in simp (elsewhere, e)

  made_good : Good (put 8 (operated l) 72 (2 ^ 48))
  made_good = good_approved (operated l) operated_good (ap (λ (x : ℕ). bit x 0) operated-flags) (2 ^ 48)

made_flat : put 8 (operated (replicate 36832 0)) 72 (2 ^ 48) ≡ case_bytes no_credit
unfolding image_of no_credit credited bias put_amount put
made_flat = refl

pub good : Good (case_bytes no_credit)
good =
    let f = zero_le (replicate 36832 0) 2 0 (λ i p q. zero_at 36832 i) in
    rw made_flat at (made_good (replicate 36832 0) (empty_good 36832 refl) (omega arith))
