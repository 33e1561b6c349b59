-- What the program does with the bytes that it reads: a record by how many bytes were read of it, the records in order, and the image.
use Rattle.std.specs.Prelude.{◌≡◌, Bool, false, List, [], ◌∷◌, ◌++◌, map, ◌⊎◌, ℕ, zero, suc, ◌-◌, ◌<◌, ◌≤◌, pos, length, take, replicate}
use Rattle.fields.specs.Rules.{pick}
use Rattle.image.specs.Good.{good_image}
use Rattle.answer_line.specs.Decimal.{line}
use Rattle.vault_program.specs.Program.{answer_line, record_step}

-- ---- one record: the image is l, the buffer is b, and n of its bytes were read. Where none was read nothing is done
unfoldable pub read_text : (l b : List ℕ) → ℕ → List ℕ
read_text l b zero = []
read_text l b (suc n) = answer_line (record_step l (take (suc n) b)).answer

unfoldable pub read_image : (l b : List ℕ) → ℕ → List ℕ
read_image l b zero = l
read_image l b (suc n) = (record_step l (take (suc n) b)).state.image

-- text and image are those of the bytes that were read; a short record gets 32, or 30 where the image is not good, and changes nothing
pub record AnswersRead (l b : List ℕ) (n : ℕ) (text image : List ℕ) : Type 0 where
  pub within : n ≤ length b
  pub printed : text ≡ read_text l b n
  pub carried : image ≡ read_image l b n
  pub short_line : 0 < n → n < 448 → text ≡ line (pick (good_image l) 32 30) (pos 0) 0
  pub short_image : 0 < n → n < 448 → image ≡ l

-- ---- the records, in order
unfoldable pub image_after : List ℕ → List (List ℕ) → List ℕ
image_after l [] = l
image_after l (r ∷ rs) = image_after (record_step l r).state.image rs

-- the lengths of the records that were taken, where the last read gave n bytes: 448 each, but the last has n where n is not 0
unfoldable pub record_lengths : (taken n : ℕ) → List ℕ
record_lengths taken zero = replicate taken 448
record_lengths taken (suc n) = replicate (taken - 1) 448 ++ (suc n ∷ [])

-- from the image l on records were taken, until one was short or missing, a line was not written, or 2 ^ 64 - 1 were taken
pub record TakesRecords (l image : List ℕ) (taken n : ℕ) (is_written : Bool) : Type 0 where
  pub records : List (List ℕ)
  pub counted : length records ≡ taken
  pub lengths : map length records ≡ record_lengths taken n
  pub carried : image ≡ image_after l records
  pub ended : (n < 448) ⊎ ((is_written ≡ false) ⊎ (taken ≡ 18446744073709551615))

-- ---- the image, of which n bytes were read: a short one gets one line, with 30, and no record is read
pub record TakesImage (l : List ℕ) (n : ℕ) (text image : List ℕ) (taken last : ℕ) (is_written : Bool) : Type 0 where
  pub short_text : n < 36832 → text ≡ answer_line (record_step (take n l) []).answer
  pub short_line : n < 36832 → text ≡ line 30 (pos 0) 0
  pub short_image : n < 36832 → image ≡ l
  pub short_taken : n < 36832 → taken ≡ 0
  pub whole : n ≡ 36832 → TakesRecords l image taken last is_written

-- the program: some image was read, n bytes of it, and what was made of it
pub record Runs (n taken last : ℕ) (is_written : Bool) : Type 0 where
  pub buffer : List ℕ
  pub buffer_length : length buffer ≡ 36832
  pub within : n ≤ 36832
  pub text : List ℕ
  pub image : List ℕ
  pub taken_on : TakesImage buffer n text image taken last is_written
