-- The cells that a call of this vault enters into its journal (docs/FORMATS.md, "The journal").
use Rattle.std.specs.Prelude.{◌≡◌, true, false, List, ℕ}
use Rattle.image.specs.Layout.{cells}
use Rattle.journal.specs.Calls.{operation, State}
use Rattle.journal.specs.Changed.{CellsEntered}
use Rattle.journal.specs.Journal.{contents_of}
use Rattle.token_vault.specs.Vault.{view, vault_step}

-- any operation that is done in an open transaction and is no view: exactly the cells in which some byte of the image differs, ascending
pub record EntersCells : Type 0 where
  pub every : (s : State) (r e : List ℕ) → view r ≡ false → (contents_of s.journal).opened ≡ true → (vault_step s (operation r e)).answer.number ≡ 0
      → CellsEntered cells s (vault_step s (operation r e)).state
