-- The book after payouts.
use Rattle.std.specs.Prelude.{List, [], ◌∷◌}
use Rattle.book.specs.Book.{Book, takes}
use Rattle.book.specs.Integers.{integer_of}
use Rattle.payouts.specs.Payouts.{Payout}

-- what the payouts take from the book's default token
unfoldable pub takes_all : List Payout → Book → Book
takes_all [] b = b
takes_all (p ∷ ps) b = takes_all ps (takes b.token (integer_of p.amount) b)
