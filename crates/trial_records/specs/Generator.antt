-- The generator of trial records: numbers of 64 bits, and a draw of each (docs/FORMATS.md, "Trial records").
use Rattle.std.specs.Prelude.{◌≡◌, ℕ, zero, suc, ◌+◌, ◌*◌, ◌/◌, ◌%◌, ◌^◌, refl}

unfoldable pub next : (last : ℕ) → ℕ
next last = (6364136223846793005 * last + 1442695040888963407) % 2 ^ 64

-- the number that k steps from `last` reach
unfoldable pub steps : (k last : ℕ) → ℕ
steps zero last = last
steps (suc k) last = next (steps k last)

-- the upper 32 bits of a number
unfoldable pub draw : ℕ → ℕ
draw number = number / 2 ^ 32

-- worked examples: two steps from 1, and the draw of the first
one-step : steps 1 1 ≡ 7806831264735756412
unfolding steps next
one-step = refl

two_steps : steps 2 1 ≡ 9396908728118811419
unfolding steps next
two_steps = refl

first_draw : draw (steps 1 1) ≡ 1817669548
unfolding draw steps next
first_draw = refl
