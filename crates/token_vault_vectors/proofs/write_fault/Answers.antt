-- What is said of a fault is its line, for which there is room.
use Rattle.std.proofs.Common.{◌∙◌, arith}
use Rattle.token_vault_vectors.specs.Faults.{fault_line}
use Rattle.token_vault_vectors.proofs.Sentences.{line_short}
use Rattle.token_vault_vectors.proofs.write_fault.Goals as goal

pub line-requires : goal.line-requires
unfolding fault_line
line-requires g c = (omega arith, (omega arith, line_short c.args.fault))

pub write_fault_line-requires : goal.write_fault_line-requires
unfolding fault_line
write_fault_line-requires g c = (c.as_bytes.ensures.value ∙ c.as_str.ensures.value ∙ c.in_ok-line.ensures, c.requires)
