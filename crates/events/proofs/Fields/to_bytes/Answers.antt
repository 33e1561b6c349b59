-- `events::Fields::to_bytes` meets its contract.
use Rattle.events.specs.Buffer.{head_written, bytes_written, yes_byte}
use Rattle.events.specs.Event.{written_fields}
use Rattle.std.proofs.Common.{arith, refl, replicate}
use borrow.Author.Rules.{rules}
use Rattle.events.proofs.Fields.to_bytes.Goals as goal

pub returns : goal.returns
unfolding written_fields
returns c = let x = c.args.self in
    rw (c.write_amount-3.ensures, c.write_amount-2.ensures, c.write_amount.ensures, c.put32.ensures, c.put8-4.ensures, c.from.ensures, c.put8-3.ensures, c.put8-2.ensures, c.put8.ensures)
    (rw (head_written (replicate 56 0) 0 (written_fields x) (omega arith) (search rules) (search rules) (search rules) (yes_byte x.yes)) (bytes_written (replicate 56 0) (written_fields x) refl))
