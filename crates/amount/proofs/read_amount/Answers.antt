-- `amount::read_amount` meets its contract.
use Rattle.std.proofs.Common.{◌≡◌, ◌+◌, ◌-◌, take, drop, arith, rules}
use Rattle.std.specs.Int.{w128, from_le_bytes}
use Rattle.fields.specs.Bytes.{le}
use Rattle.fields.proofs.Numbers.{le-part}
use Rattle.amount.proofs.Integers.{of_bits}
use Rattle.amount.proofs.read_amount.Goals as goal

pub returns : goal.returns
unfolding le
returns c =
    let x = c.args in
    let e : c.unwrap.result ≡ take (x.at + 16 - x.at) (drop x.at x.s.now) = search rules in
    let h : from_le_bytes w128 c.unwrap.result ≡ le 16 x.s.now x.at = rw (← le-part 16 x.s.now x.at, ← e) (omega arith) in
    rw c.from_le_bytes.ensures (of_bits x.s.now x.at (from_le_bytes w128 c.unwrap.result) (λ i. omega (arith, c.type_inv.s i)) h)
