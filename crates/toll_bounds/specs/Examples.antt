-- The definitions computed: the example of docs/FORMATS.md, the ends of each refusal, their order, and moves at a toll.
use Rattle.std.specs.Prelude.{◌≡◌, refl, true, List, [], ◌∷◌, ◌++◌, ℕ, ◌+◌, ◌-◌, ◌<◌, replicate}
use Rattle.std.proofs.Common.{sym, ◌∙◌, arith, lit<}
use Rattle.std.proofs.lemmas.List.{length-replicate}
use Rattle.fields.specs.Bytes.{le, put, le-put-same}
use Rattle.fields.specs.Logic.{◌and◌, all}
use Rattle.fields.specs.Rules.{verdict, chain, or_else, link_at_lem}
use Rattle.amount.specs.Biased.{bias, amount_at, put_amount}
use Rattle.storage.specs.Facts.{test}
use Rattle.storage.specs.Writes.{good_kind, good_holding}
use Rattle.storage.specs.Zeros.{empty_good}
use Rattle.image.specs.Layout.{kind, holding}
use Rattle.image.specs.Good.{good_image}
use Rattle.token.specs.Token.{arrives, debited, received, transfer_number, transfer_of, transferred}
use Rattle.toll_bounds.specs.Bounds.{amount_in, holding_after, holding_at_toll, image_number, list_number, tolls_number, token_number, request_checks, request_number, are_above, amounts_number, pass_number, bounds_number, toll_bounds}
use Rattle.toll_bounds.specs.Laws.{bounds_given}
use Rattle.toll_bounds.specs.Theorems.{moved_in_of}

-- ---- 46: no amount, sixteen amounts, and lists of 255, 257 and 272 bytes
lists : (list_number 0 ≡ 0) × (list_number 48 ≡ 0) × (list_number 256 ≡ 0) × (list_number 255 ≡ 46) × (list_number 257 ≡ 46) × (list_number 272 ≡ 46)
unfolding list_number verdict
lists = (refl, refl, refl, refl, refl, refl)

-- equal tolls, of 0 and of the greatest number; a least toll of -1, both tolls of -1, and a least toll above the greatest
tolls : (tolls_number bias bias ≡ 0)
    × (tolls_number (bias + bias - 1) (bias + bias - 1) ≡ 0)
    × (tolls_number (bias - 1) bias ≡ 46)
    × (tolls_number (bias - 1) (bias - 1) ≡ 46)
    × (tolls_number (bias + 1) bias ≡ 46)
unfolding tolls_number verdict bias
tolls = (refl, refl, refl, refl, refl)

-- ---- 4: an amount of 0, and one of -1
amounts : (amounts_number [] 0 ≡ 0) × (amounts_number (replicate 16 0) 1 ≡ 4) × (amounts_number (replicate 16 255) 1 ≡ 4)
unfolding amounts_number are_above all ◌and◌ amount_at le bias
amounts = (refl, refl, refl)

-- ---- 7: the greatest number, and one past it
sums : (pass_number (bias + bias - 1) ≡ 0) × (pass_number (bias + bias) ≡ 7)
unfolding pass_number verdict bias
sums = (refl, refl)

-- ---- the example: token 48 moves and address 1 holds 100 of it; amounts of 10, 5 and 1
unfoldable example_image : List ℕ
example_image = put_amount (put 8 (replicate 36832 0) 3680 1) 4080 (bias + 100)

unfoldable example_amounts : List ℕ
example_amounts = 10 ∷ replicate 15 0 ++ (5 ∷ replicate 15 0 ++ (1 ∷ replicate 15 0))

hundred : bias + 100 < bias + bias
unfolding bias
hundred = lit< tt

example_good : good_image example_image ≡ true
unfolding example_image
example_good =
    let zeros : List ℕ = replicate 36832 0 in
    let moving = put 8 zeros 3680 1 in
    let k : kind moving 0 ≡ 1 = le-put-same 8 zeros 3680 1 (rw length-replicate (omega arith)) (lit< tt) in
    let g = good_kind zeros 0 1 (empty_good 36832 refl) (omega arith) (omega arith) (omega arith) in
    test (put_amount moving 4080 (bias + 100)) (good_holding moving 0 1 (bias + 100) g (omega arith) (omega arith) (omega arith) (omega arith) hundred)

image_passed : image_number example_image ≡ 0
unfolding image_number
image_passed = rw example_good

-- tokens 47 and 64, and 49, which is absent
tokens : (token_number example_image 48 ≡ 0) × (token_number example_image 47 ≡ 46) × (token_number example_image 49 ≡ 46) × (token_number example_image 64 ≡ 46)
unfolding token_number verdict example_image put_amount put le bias
tokens = (refl, refl, refl, refl)

example_tolls : tolls_number (bias + 2) (bias + 6) ≡ 0
unfolding tolls_number verdict bias
example_tolls = refl

example_amounts_lem : amounts_number example_amounts 3 ≡ 0
unfolding amounts_number are_above all ◌and◌ example_amounts amount_at le bias
example_amounts_lem = refl

example_holdings : (holding_at_toll example_image 48 example_amounts (bias + 6) ≡ bias + 104) × (holding_at_toll example_image 48 example_amounts (bias + 2) ≡ bias + 111)
unfolding holding_after arrives example_image example_amounts amount_at put_amount put le bias
example_holdings = (refl, refl)

example_passes : pass_number (bias + 111) ≡ 0
unfolding pass_number verdict bias
example_passes = refl

example_number : bounds_number example_image 48 example_amounts (bias + 2) (bias + 6) ≡ 0
unfolding bounds_number request_number example_amounts
example_number =
    let request = sym (link_at_lem (request_checks example_image 48 48 (bias + 2) (bias + 6)) 3 0 (lists.1, (example_tolls, (tokens.0, tt))) refl) in
    let pass = rw (← example_holdings.1) at example_passes in
    sym (link_at_lem _ 4 0 (image_passed, (request, (example_amounts_lem, (pass, tt)))) refl)

example : toll_bounds example_image 48 example_amounts (bias + 2) (bias + 6) ≡ record { number = 0; least = bias + 104; greatest = bias + 111 }
example =
    bounds_given example_image 48 example_amounts (bias + 2) (bias + 6) example_number
    ∙ (λ i. record { number = 0; least = example_holdings.0 i; greatest = example_holdings.1 i })

-- ---- the order: 30 before 46; 4 before 7, where the first two of three amounts pass and the third is 0
first_30 : bounds_number [] 64 (0 ∷ []) bias bias ≡ 30
unfolding bounds_number chain or_else image_number good_image ◌and◌
first_30 = refl

unfoldable passing : List ℕ
passing = replicate 15 255 ++ (127 ∷ 1 ∷ replicate 15 0 ++ replicate 16 0)

both_hold : (pass_number (holding_after bias (bias + 100) (amount_in passing) 2) ≡ 7) × (amounts_number passing 3 ≡ 4)
unfolding pass_number verdict holding_after arrives amounts_number are_above all ◌and◌ passing amount_at le bias
both_hold = (refl, refl)

then_4 : bounds_number example_image 48 passing bias bias ≡ 4
unfolding bounds_number request_number passing
then_4 =
    let request = sym (link_at_lem (request_checks example_image 48 48 bias bias) 3 0 (lists.1, (tolls.0, (tokens.0, tt))) refl) in
    sym (link_at_lem _ 2 4 (image_passed, (request, λ z. let w = both_hold.1 in omega arith)) (sym both_hold.1))

-- ---- the token itself: at a toll of 3 address 2, which holds 16, moves the three amounts, and 7, 2 and 0 arrive. A transfer that failed would move nothing
unfoldable toll_image : List ℕ
toll_image = put_amount (put_amount (put_amount (put 8 (replicate 36832 0) 3680 1) 3688 (bias + 3)) 4080 (bias + 100)) 4096 (bias + 16)

moves_leave : (holding (moved_in_of toll_image 48 (λ i. 2) (amount_in example_amounts) 3) 0 1 ≡ bias + 109) × (holding_at_toll toll_image 48 example_amounts (bias + 3) ≡ bias + 109)
unfolding moved_in_of transferred transfer_number transfer_of verdict received debited holding_after arrives toll_image example_amounts amount_at put_amount put le bias
moves_leave = (refl, refl)
