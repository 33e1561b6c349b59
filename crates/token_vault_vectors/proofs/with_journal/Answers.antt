-- `with_journal` meets its contract.
use Rattle.token_vault_vectors.proofs.with_journal.Goals as goal

pub returns : goal.returns
returns g c = record { journal = _; listed = c.fit_list.ensures }
