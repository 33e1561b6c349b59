-- `good_image` on closed images: an empty and an initialised one are good, damaged ones are not.
use Rattle.std.specs.Prelude.{◌≡◌, refl, List, ◌∷◌, ◌++◌, Bool, true, false, ℕ, ◌+◌, ◌^◌, ◌<◌, length, replicate}
use Rattle.std.proofs.Common.{arith, lit<}
use Rattle.std.proofs.lemmas.List.{length-replicate}
use Rattle.fields.specs.Logic.{◌and◌, ◌or◌, all}
use Rattle.fields.specs.Bytes.{le, put, bytes, le-put-same}
use Rattle.fields.specs.Frame.{zero_le}
use Rattle.fields.specs.Zeros.{each, zero_here, zeros}
use Rattle.amount.specs.Biased.{bias, amount_at, put_amount}
use Rattle.amount.specs.Frame.{zero_amount_at}
use Rattle.amount.specs.Laws.{amount_at-put_amount}
use Rattle.image.specs.Layout.{token_at, flags, tracked_count, tracked_key, kind}
use Rattle.storage.specs.Facts.{facts, test}
use Rattle.storage.specs.Writes.{elsewhere}
use Rattle.storage.specs.Zeros.{zero_at, empty_good}
use Rattle.image.specs.Good.{
  not_negative_here,
  not_negatives,
  above_where,
  good_addresses,
  good_defaults,
  good_pending,
  good_migration,
  good_options,
  good_head,
  good_cap,
  tracked,
  fresh_key,
  good_keys,
  good_snapshot,
  good_absent,
  good_present,
  good_token,
  good_image,
}

unfoldable pub empty_image : List ℕ
empty_image = replicate 36832 0

-- owner 2, operator 3 with a limit of 50, vault limit 1000; token 48, approved, with a toll of 3, held 100 by the vault, a snapshot and a credit of 5 for 3; a cap of 7 for 4; two tracked keys
unfoldable pub working_image : List ℕ
working_image =
    put_amount (put_amount (put_amount (put 4 (put 4 (put_amount (put 8 (put 2 (put 2 (put 8 (put_amount (put 8 (put 8 (put 8 (put_amount (put_amount (put 1 (put 1 (put 1 (put 2 empty_image 0 13) 2 2) 3 48) 4 3) 8
    (bias + 1000)) 24 (bias + 50)) 48 604800) 72 (2 ^ 48)) 80 16) (96 + 64) (bias + 7)) 88 2) 1504 1028) 1506 3) 3680 1) 3688 (bias + 3)) 1120 1) 1124 77) 1128 (bias + 100)) (4064 + 16) (bias + 100)) (20448 + 48) (bias + 5)

pub record GoodCases : Type 0 where
  pub empty : good_image empty_image ≡ true
  pub working : good_image working_image ≡ true

pub record DamagedCases : Type 0 where
  pub limit_gone : good_image (put_amount working_image 8 bias) ≡ false
  pub key_twice : good_image (put 2 working_image 1506 1028) ≡ false
  pub absent_credit : good_image (put_amount empty_image 36816 (bias + 1)) ≡ false
  pub short : good_image (replicate 36831 0) ≡ false

-- the working image as one list of bytes: a read then walks one list, not every put
unfoldable working_bytes : List ℕ
working_bytes =
    13 ∷ 0 ∷ 2 ∷ 48 ∷ 3 ∷ 0 ∷ 0 ∷ 0
    ∷ 232 ∷ 3 ∷ (replicate 14 0
    ++ (50 ∷ (replicate 23 0
    ++ (128 ∷ 58 ∷ 9 ∷ (replicate 27 0
    ++ (1 ∷ 0 ∷ 16 ∷ (replicate 7 0
    ++ (2 ∷ (replicate 71 0
    ++ (7 ∷ (replicate 959 0
    ++ (1 ∷ 0 ∷ 0 ∷ 0 ∷ 77 ∷ 0 ∷ 0 ∷ 0 ∷ 100 ∷ (replicate 375 0
    ++ (4 ∷ 4 ∷ 3 ∷ (replicate 2173 0
    ++ (1 ∷ (replicate 7 0
    ++ (3 ∷ (replicate 391 0
    ++ (100 ∷ (replicate 16415 0
    ++ (5 ∷ replicate 16335 0))))))))))))))))))))))

working_flat : working_image ≡ working_bytes
unfolding empty_image working_image working_bytes bias put_amount put
working_flat = refl

bytes_good : good_image working_bytes ≡ true
unfolding working_bytes good_image bytes good_head good_cap good_keys good_token good_snapshot good_absent good_present good_addresses good_defaults good_pending good_migration good_options tracked fresh_key above_where zeros not_negatives zero_here not_negative_here each all ◌and◌ ◌or◌ bias amount_at put_amount put le
bytes_good = refl

pub good_cases : GoodCases
unfolding empty_image
good_cases = record { empty = test (replicate 36832 0) (empty_good 36832 refl); working = rw working_flat bytes_good }

-- ---- a damaged image breaks a rule that a good one keeps
unless_true : (b : Bool) → (b ≡ true → ⊥) → b ≡ false
unless_true true f = absurd (f refl)
unless_true false f = refl

small : bias + 1 < bias + bias
unfolding bias
small = lit< tt

working_long : length working_image ≡ 36832
working_long = (facts working_image good_cases.working).long

working_flags : flags working_bytes ≡ 13
unfolding working_bytes le
working_flags = refl

working_keys : (tracked_count working_bytes ≡ 2) × (tracked_key working_bytes 0 ≡ 1028)
unfolding working_bytes le
working_keys = (refl, refl)

no_limit : good_image (put_amount working_image 8 bias) ≡ true → ⊥
no_limit e =
    let n = working_long in
    let f : flags working_image ≡ 13 = rw working_flat working_flags in
    let i : flags (put_amount working_image 8 bias) ≡ 13 = simp (elsewhere, f) in
    let b : bias < bias + bias = omega (arith, small) in
    let h = ((facts (put_amount working_image 8 bias) e).fields (omega arith)).vault_limit in
    omega (arith, amount_at-put_amount working_image 8 bias (omega arith) b)

same_key : good_image (put 2 working_image 1506 1028) ≡ true → ⊥
same_key e =
    let n = working_long in
    let c : tracked_count working_image ≡ 2 = rw working_flat working_keys.0 in
    let k : tracked_key working_image 0 ≡ 1028 = rw working_flat working_keys.1 in
    let c' : tracked_count (put 2 working_image 1506 1028) ≡ 2 = simp (elsewhere, c) in
    let k0 : tracked_key (put 2 working_image 1506 1028) 0 ≡ 1028 = simp (elsewhere, k) in
    let k1 : tracked_key (put 2 working_image 1506 1028) 1 ≡ 1028 = le-put-same 2 working_image 1506 1028 (omega arith) (lit< tt) in
    (facts (put 2 working_image 1506 1028) e).keys.differ 0 1 (omega arith) (omega arith) (omega arith)

stray_credit : good_image (put_amount empty_image 36816 (bias + 1)) ≡ true → ⊥
unfolding empty_image
stray_credit e =
    let l : List ℕ = replicate 36832 0 in
    let n = length-replicate {A = ℕ} 36832 0 in
    let k : kind (put_amount l 36816 (bias + 1)) 15 ≡ 0 = simp elsewhere (zero_le l 8 (token_at 15) (λ i p q. zero_at 36832 i)) in
    let z = (((facts (put_amount l 36816 (bias + 1)) e).tokens 15 (omega arith)).absent k).credits in
    let a = amount_at-put_amount l 36816 (bias + 1) (omega arith) small in
    omega (arith, zero_amount_at (put_amount l 36816 (bias + 1)) 36816 (λ i p q. z i (omega arith) (omega arith)))

too_short : good_image (replicate 36831 0) ≡ true → ⊥
too_short e = omega (arith, (facts (replicate 36831 0) e).long, length-replicate {A = ℕ} 36831 0)

pub damaged_cases : DamagedCases
damaged_cases =
    record {
      limit_gone = unless_true _ no_limit;
      key_twice = unless_true _ same_key;
      absent_credit = unless_true _ stray_credit;
      short = unless_true _ too_short;
    }
