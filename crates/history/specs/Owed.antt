-- What the operations of a vault owe, so that `SameAsKept` holds of any list of calls.
use Rattle.std.specs.Prelude.{◌≡◌, Bool, true, false, List, ℕ, ◌*◌, ℤ, ◌+ℤ◌, length}
use Rattle.journal.specs.Calls.{State, Answer, Done}
use Rattle.journal.specs.Journal.{good_journal}

-- a good image and a good journal
abbrev pub GoodState : (cells : ℕ) → (List ℕ → Bool) → State → Type 0
GoodState cells good_image s = (good_image s.image ≡ true) × (good_journal cells s.journal ≡ true)

-- a good image is as long as its cells, and an accepted operation leaves it good
pub record OpLaws (cells : ℕ) (good_image : List ℕ → Bool) (op : List ℕ → List ℕ → List ℕ → Done) : Type 0 where
  pub as_long : (x : List ℕ) → good_image x ≡ true → length x ≡ 16 * cells
  pub keeps : (x r e : List ℕ) → good_image x ≡ true → (op x r e).answer.number ≡ 0 → good_image (op x r e).image ≡ true

-- an accepted operation that is no view moves image and book alike
pub record BookOps (good_image : List ℕ → Bool) (op : List ℕ → List ℕ → List ℕ → Done) (view : List ℕ → Bool)
    {B : Type 0} (enter : B → List ℕ → Answer → B) (Match : B → List ℕ → Type 0) : Type 0 where
  pub moved : (b : B) (x r e : List ℕ) → good_image x ≡ true → (op x r e).answer.number ≡ 0 → view r ≡ false → Match b x
      → Match (enter b r (op x r e).answer) (op x r e).image

-- an accepted operation that is no view adds to a measure of the image as f says
pub record SumOps (good_image : List ℕ → Bool) (op : List ℕ → List ℕ → List ℕ → Done) (view : List ℕ → Bool)
    (h : List ℕ → ℤ) (f : List ℕ → List ℕ → Answer → ℤ) : Type 0 where
  pub added : (x r e : List ℕ) → good_image x ≡ true → (op x r e).answer.number ≡ 0 → view r ≡ false
      → h (op x r e).image ≡ h x +ℤ f x r (op x r e).answer
