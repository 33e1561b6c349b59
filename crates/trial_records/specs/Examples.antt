-- The definitions computed: the first record from the starting number 1, and the ends of refusal 32.
use Rattle.std.specs.Prelude.{◌≡◌, ◌*◌, [], ◌∷◌, ◌++◌, replicate, refl}
use Rattle.fields.specs.Bytes.{put}
use Rattle.fields.specs.Rules.{verdict}
use Rattle.trial_records.specs.Generator.{next, steps, draw}
use Rattle.trial_records.specs.Trial.{draws_from, record_of, trial_record, reached_from, trial_number}

-- operation 29, caller 51, token 25, other address 13, flag 0, one item; number 1 twice; all signers; amount 58; no fee; the item
first_record : trial_record 1 1
    ≡ (29 ∷ 51 ∷ 25 ∷ 13 ∷ 0 ∷ 1 ∷ 0 ∷ 0 ∷ [])
    ++ ((1 ∷ replicate 7 0)
    ++ ((1 ∷ replicate 7 0)
    ++ (replicate 8 255
    ++ ((58 ∷ replicate 15 0)
    ++ (replicate 16 0
    ++ ((13 ∷ replicate 7 0)
    ++ ((58 ∷ replicate 15 0)
    ++ replicate 360 0)))))))
unfolding trial_record record_of draws_from draw steps next put
first_record = refl

one_reached : reached_from 1 1 ≡ 9232803539723513983
unfolding reached_from steps next
one_reached = refl

-- ---- whole records; first numbers of 0 and 1; the last number of all, and one past it; no record from there on; and a sum above 2 ^ 64
not_whole : (trial_number 1 447 ≡ 32) × (trial_number 1 449 ≡ 32) × (trial_number 1 896 ≡ 0)
unfolding trial_number verdict
not_whole = (refl, refl, refl)

first_numbers : (trial_number 0 448 ≡ 32) × (trial_number 0 0 ≡ 32) × (trial_number 1 0 ≡ 0)
unfolding trial_number verdict
first_numbers = (refl, refl, refl)

last_numbers : (trial_number 4294967295 448 ≡ 0) × (trial_number 4294967295 896 ≡ 32) × (trial_number 1 (448 * 4294967295) ≡ 0) × (trial_number 1 (448 * 4294967296) ≡ 32)
unfolding trial_number verdict
last_numbers = (refl, refl, refl, refl)

past_the_last : (trial_number 4294967296 0 ≡ 0) × (trial_number 4294967296 448 ≡ 32) × (trial_number 4294967297 0 ≡ 32) × (trial_number 18446744073709551615 448 ≡ 32)
unfolding trial_number verdict
past_the_last = (refl, refl, refl, refl)
