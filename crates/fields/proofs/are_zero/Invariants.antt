-- `fields::are_zero` meets its contract.
use Rattle.std.proofs.Common.{◌≡◌, ◌-◌, eqb, length}
use Rattle.fields.specs.Logic.{◌and◌}
use Rattle.fields.specs.Zeros.{zeros}
use Rattle.fields.proofs.are_zero.Given as goal

abbrev pub invariant-loop-x : goal.invariant-loop-x
invariant-loop-x l = eqb l.bits 0 and zeros l.bytes l.x-index (length l.bytes - l.x-index) ≡ zeros l.bytes 0 (length l.bytes)
