-- The tracked keys of an image as parts of two bytes.
use Rattle.std.specs.Prelude.{◌≡◌, List, [], ℕ, ◌<◌, length, get_or}
use Rattle.std.specs.Int.{w16, from_le_bytes}
use Rattle.image.specs.Layout.{tracked_key}

-- ks are the first tracked keys of l
abbrev pub AreTracked : List ℕ → List (List ℕ) → Type 0
AreTracked l ks = (i : ℕ) → i < length ks → from_le_bytes w16 (get_or ks i []) ≡ tracked_key l i
