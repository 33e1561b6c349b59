-- `call_transaction` meets its contract.
use Rattle.vault_vectors.proofs.Transactions.{is_begin, is_commit, is_rollback, is_undo}
use Rattle.vault_vectors.proofs.call_transaction.Goals as goal

pub returns-in-Begin : goal.returns-in-Begin
returns-in-Begin c = rw (c.in-Begin.is, is_begin) c.begin.ensures

pub returns-in-Commit : goal.returns-in-Commit
returns-in-Commit c = rw (c.in-Commit.is, is_commit) c.commit.ensures

pub returns-in-Rollback : goal.returns-in-Rollback
returns-in-Rollback c = rw (c.in-Rollback.is, is_rollback) c.rollback.ensures

pub returns-in-Undo : goal.returns-in-Undo
returns-in-Undo c = rw (c.in-Undo.is, is_undo) c.undo.ensures
