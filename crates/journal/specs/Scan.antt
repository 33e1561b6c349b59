-- A good journal as it is tested along its bytes. Where each number is a byte, this is `good_journal` (proofs/Scanned.antt).
use Rattle.std.specs.Prelude.{Bool, List, ℕ, zero, suc, ◌*◌, eqb, leb, ltb, length, get_or, drop}
use Rattle.fields.specs.Logic.{◌and◌, ◌or◌}
use Rattle.fields.specs.Bytes.{le}
use Rattle.fields.specs.Zeros.{zeros}
use Rattle.journal.specs.Journal.{fits}

-- one entry's numbers, as in `ordered`
unfoldable pub in_order_of : (cells calls last next cell call : ℕ) → Bool
in_order_of cells calls last next cell call =
    leb 1 call and leb call calls and leb last call and ltb cell cells and (ltb last call or leb next cell)

-- n entries from the front of b, and then zeros
unfoldable pub scan_entries : (cells calls n last next : ℕ) → List ℕ → Bool
scan_entries cells calls zero last next b = zeros b 0 (length b)
scan_entries cells calls (suc n) last next b =
    (in_order_of cells calls last next (le 2 b 0) (le 2 b 2) and zeros b 4 4)
    and scan_entries cells calls n (le 2 b 2) (suc (le 2 b 0)) (drop 24 b)

-- counts in range, open 0 or 1, the unused bytes of the head zero, and a closed journal without calls and entries
unfoldable pub scan_head : List ℕ → Bool
scan_head j =
    (leb (le 2 j 2) 1000 and leb (24 * suc (le 2 j 4)) (length j))
    and (leb (get_or j 0 0) 1 and eqb (get_or j 1 0) 0 and zeros j 6 18)
    and (eqb (get_or j 0 0) 1 or (eqb (le 2 j 2) 0 and eqb (le 2 j 4) 0))

unfoldable pub scan : (cells : ℕ) → List ℕ → Bool
scan cells j = fits (length j) and scan_head j and scan_entries cells (le 2 j 2) (le 2 j 4) 0 0 (drop 24 j)
