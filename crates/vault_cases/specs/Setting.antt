-- The image and the records of the cases of docs/FORMATS.md: owner 2 with 2000 of its own, operator 3, both signed, token 48, payee 4.
use Rattle.std.specs.Prelude.{List, ℕ, ◌+◌, ◌-◌, ◌^◌, replicate}
use Rattle.fields.specs.Bytes.{put}
use Rattle.amount.specs.Biased.{bias, put_amount}
use Rattle.image.specs.Layout.{holding_at, credit_at}
use Rattle.journal.specs.Calls.{Call, operation, State}
use Rattle.journal.specs.Step.{vault, blank}

-- ---- images
abbrev pub case_limit : ℕ
case_limit = 1000

-- initialised, with an operator; owner 2, token 48, operator 3; proposals live seven days; 48 is approved, moves and has no toll; the vault holds 100, the owner 2000
unfoldable pub case_image : List ℕ
case_image =
    put_amount (put_amount (put 8 (put 8 (put 8 (put_amount (put 1 (put 1 (put 1 (put 2 (replicate 36832 0) 0 (2 ^ 0 + 2 ^ 2)) 2 2) 3 48) 4 3) 8 (bias + case_limit)) 48
    604800) 72 (2 ^ 48)) 3680 1) (holding_at 0 1) (bias + 100)) (holding_at 0 2) (bias + 2000)

-- the same with a credit of 2 ^ 127 - 1 for the owner
unfoldable pub full_credit_image : List ℕ
full_credit_image = put_amount case_image (credit_at 0 2) (bias + (2 ^ 127 - 1))

-- beside a closed journal of n bytes
abbrev pub start : ℕ → State
start n = vault case_image (replicate n 0)

abbrev pub full_credit : ℕ → State
full_credit n = vault full_credit_image (replicate n 0)

-- ---- records: timestamp 0, ledger sequence 7, owner and operator signed; the caller is the owner unless named
unfoldable pub request : (operation caller : ℕ) → List ℕ
request o caller = put 8 (put 4 (put 1 (put 1 (replicate 448 0) 0 o) 1 caller) 16 7) 24 (2 ^ 2 + 2 ^ 3)

unfoldable pub request_of : (operation caller amount : ℕ) → List ℕ
request_of o caller n = put_amount (request o caller) 32 (bias + n)

abbrev pub ask : List ℕ → Call
ask r = operation r blank

abbrev pub deposits : (amount : ℕ) → List ℕ
deposits n = request_of 2 2 n

-- in a ledger sequence
unfoldable pub deposits_in : (sequence amount : ℕ) → List ℕ
deposits_in q n = put 4 (deposits n) 16 q

unfoldable pub deposits_with_fee : (gross fee : ℕ) → List ℕ
deposits_with_fee gross fee = put_amount (request_of 3 2 gross) 48 (bias + fee)

unfoldable pub deposits_token : (amount : ℕ) → List ℕ
deposits_token n = put 1 (request_of 7 2 n) 2 48

unfoldable pub pays_to : (to amount : ℕ) → List ℕ
pays_to to n = put 1 (request_of 5 2 n) 3 to

-- two items for the payee
unfoldable pub pays_two : (caller a b : ℕ) → List ℕ
pays_two caller a b = put_amount (put 1 (put_amount (put 1 (put 1 (request 6 caller) 5 2) 64 4) 72 (bias + a)) 88 4) 96 (bias + b)

abbrev pub limits_operator : (amount : ℕ) → List ℕ
limits_operator n = request_of 10 2 n

abbrev pub sets_limit : (caller amount : ℕ) → List ℕ
sets_limit caller n = request_of 11 caller n

abbrev pub pauses : List ℕ
pauses = request 18 2

unfoldable pub proposes : (newOwner : ℕ) → List ℕ
proposes a = put 1 (request 15 2) 3 a

unfoldable pub accepts_at : (caller timestamp : ℕ) → List ℕ
accepts_at caller time = put 8 (request 16 caller) 8 time

unfoldable pub initiates : (destination : ℕ) → List ℕ
initiates a = put 1 (request 21 2) 3 a

unfoldable pub executes_at : (timestamp : ℕ) → List ℕ
executes_at time = put 8 (request 22 2) 8 time

unfoldable pub asks_compliance : (token : ℕ) → List ℕ
asks_compliance t = put 1 (request 28 2) 2 t
