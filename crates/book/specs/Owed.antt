-- What each operation owes to demand 3.
use Rattle.std.specs.Prelude.{◌≡◌, List, ℕ}
use Rattle.storage.specs.Facts.{Good}
use Rattle.events.specs.Event.{event_buffer}
use Rattle.outcome.specs.Outcome.{Outcome, Formed}
use Rattle.book.specs.Book.{Book, enter_book, BookIs}

-- accepted, operation k, of an image and a record, leaves the image good, and book and image move together
pub record Owed (k : ℕ) (op : List ℕ → List ℕ → Outcome) : Type 0 where
  pub good : (l r : List ℕ) → Good l → Formed k r → (op l r).number ≡ 0 → Good (op l r).image
  pub booked : (b : Book) (l r : List ℕ) → Good l → Formed k r → (op l r).number ≡ 0 → BookIs b l
      → BookIs (enter_book b r (event_buffer (op l r).events)) (op l r).image
