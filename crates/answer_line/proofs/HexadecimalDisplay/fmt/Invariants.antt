-- The digits of the bytes so far are written.
use Rattle.std.proofs.Common.{take}
use Rattle.std.specs.Fmt.{HasWritten, IsPlainFormatter}
use Rattle.answer_line.specs.Hexadecimal.{hexadecimal}
use Rattle.answer_line.proofs.HexadecimalDisplay.fmt.Given as goal

abbrev pub invariant-loop-byte : goal.invariant-loop-byte
invariant-loop-byte g l =
    IsPlainFormatter l.initial.f → HasWritten g.W.Write.write_str_gives l.initial.f (hexadecimal (take l.byte-index l.self.0.now)) l.f
