-- Only a transaction's kind is from 1 to 4.
use Rattle.std.proofs.Common.{◌≡◌, Bool, ltb, ap₂, ◌∙◌}
use Rattle.fields.specs.Logic.{◌and◌, and_is, or_is}
use Rattle.token_vault_vectors.specs.Replay.{byte_of}
use Rattle.token_vault_vectors.proofs.Parsed.{between, not_between}
use Rattle.token_vault_vectors.proofs.heads.Kind.has_needless.Goals.{in-Transaction, in_default}
use Rattle.token_vault_vectors.proofs.heads.Kind.has_needless.Goals as goal

pub returns : goal.returns
returns c =
    let test : c.match-matches.matches ≡ (ltb 0 (byte_of c.args.self) and ltb (byte_of c.args.self) 5) = elim c.match-matches.branch [
      | in-Transaction w ↦ w.matches-is ∙ between _ _ w.in-Transaction.is
      | in_default w ↦ w.matches-is ∙ not_between _ w.in_default.not-Transaction
    ] in
    and_is _ _ ∙ ap₂ (λ (a b : Bool). a and b) test (or_is _ _)
