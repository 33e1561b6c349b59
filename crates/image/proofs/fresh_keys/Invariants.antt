-- `image::fresh_keys` meets its contract.
use Rattle.std.specs.Prelude.{◌≡◌, true, List, ℕ, length}
use Rattle.fields.specs.Logic.{all}
use Rattle.image.specs.Good.{fresh_key}
use Rattle.image.specs.Keys.{AreTracked}
use Rattle.image.specs.Laws.{Seen}
use Rattle.image.proofs.fresh_keys.Given as goal

abbrev pub invariant-loop-key : goal.invariant-loop-key
invariant-loop-key l = (length l.seen ≡ 1088) × ((s : List ℕ) → AreTracked s l.keys → (true ≡ all (fresh_key s) l.key-index) × Seen s l.key-index l.seen)
