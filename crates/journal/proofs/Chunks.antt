-- The entries of a journal as parts of 24 bytes, in a walk from the first or from the last of some of them on.
use Rattle.std.proofs.Common.{◌≡◌, ℕ, suc, ◌+◌, ◌*◌, ◌-◌, ◌/◌, ◌≤◌, ◌<◌, List, [], ◌∷◌, ◌++◌, length, get_or, take, drop, refl, sym, ap, ◌∙◌, arith, get_or-take, length-take, length-drop, length-append}
use Rattle.std.specs.Simd.{first_chunks}
use Rattle.std.proofs.lemmas.List.Edits.{get_or-between}
use lib.Seq.{take-take, take-length, take_at, get_or-append_seam}
use Rattle.fields.specs.Chunks.{chunk}

abbrev pub entries_of : List ℕ → List (List ℕ)
entries_of j = first_chunks 24 (length j / 24) j

-- the i-th of the entries from lo up to hi
pub entry_of : (lo hi i k : ℕ) (j : List ℕ) {ps : List (List ℕ)} → ps ≡ entries_of j → k ≡ lo + i → k < hi → 24 * hi ≤ length j
    → get_or (take (hi - lo) (drop lo ps)) i [] ≡ take 24 (drop (24 * k) j)
entry_of lo hi i k j {ps} e s h m =
    get_or-between ps lo hi i [] (omega arith) ∙ rw (← s) (chunk 24 (length j / 24) k j e (omega arith))

-- ---- the entries from lo up to hi, walked from the last on
abbrev pub Left : (lo hi : ℕ) (j : List ℕ) (rest : List (List ℕ)) → Type 0
Left lo hi j rest = rest ≡ take (length rest) (take (hi - lo) (drop lo (entries_of j)))

pub all_left : (lo hi : ℕ) (j : List ℕ) {ps rest : List (List ℕ)} → ps ≡ entries_of j → length ps ≡ length j / 24 → lo ≤ hi → 24 * hi ≤ length j → rest ≡ take (hi - lo) (drop lo ps)
    → Left lo hi j rest × (lo + length rest ≡ hi)
all_left lo hi j {ps} {rest} e n h m r = (
  sym (take-length rest) ∙ ap (take (length rest)) (r ∙ ap (λ (l : List (List ℕ)). take (hi - lo) (drop lo l)) e),
  omega (arith, ap length r, length-take (hi - lo) (drop lo ps), length-drop lo ps),
)

-- those of `rest` were left, and those of `less` are after a turn that took x
pub record Turn (lo hi : ℕ) (j : List ℕ) (rest less : List (List ℕ)) (x : List ℕ) : Type 0 where
  pub one : length rest ≡ suc (length less)
  pub left : Left lo hi j less
  pub within : lo + length less < hi
  pub entry : x ≡ take 24 (drop (24 * (lo + length less)) j)

pub taken : (lo hi : ℕ) (j : List ℕ) {rest less : List (List ℕ)} {x : List ℕ} → 24 * hi ≤ length j → Left lo hi j rest → rest ≡ less ++ (x ∷ []) → Turn lo hi j rest less x
taken lo hi j {rest} {less} {x} m left step =
    let all = take (hi - lo) (drop lo (entries_of j)) in
    let one : length rest ≡ suc (length less) = ap length step ∙ length-append less (x ∷ []) ∙ omega arith in
    let bound : length rest ≤ hi - lo = omega (arith, ap length left, length-take (length rest) all, length-take (hi - lo) (drop lo (entries_of j))) in
    let within : lo + length less < hi = omega arith in
    let front : take (length less) rest ≡ less = ap (take (length less)) step ∙ take_at less (x ∷ []) (length less) refl in
    let here : get_or rest (length less) [] ≡ x = ap (λ (l : List (List ℕ)). get_or l (length less) []) step ∙ get_or-append_seam less x [] [] in
    record {
      one = one;
      within = within;
      left = sym front ∙ ap (take (length less)) left ∙ take-take (length less) (length rest) all (omega arith);
      entry = sym here ∙ ap (λ (l : List (List ℕ)). get_or l (length less) []) left ∙ get_or-take (length rest) all (length less) [] (omega arith)
          ∙ entry_of lo hi (length less) (lo + length less) j refl refl within m;
    }
