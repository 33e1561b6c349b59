-- `main_loop` meets its contract.
use Rattle.std.proofs.Common.{sym, arith}
use Rattle.vault_program.proofs.Taken.{image_taken}
use Rattle.vault_program.proofs.main_loop.Goals as goal

pub returns : goal.returns
returns g c =
    let r = c.read_full-image_read in
    let taken = image_taken r.new.buf r.result (omega arith) (omega arith) c.run_image-records.ensures.taken in
    record { buffer = r.new.buf; buffer_length = omega arith; within = omega arith; text = _; image = _; taken_on = rw (sym c.is_ok.ensures.value) at taken }
