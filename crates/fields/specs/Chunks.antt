-- Parts of one length that stand side by side in a list, as `as_chunks` gives them, and what stands in them.
use Rattle.std.proofs.Common.{◌≡◌, ℕ, zero, suc, ◌+◌, ◌*◌, ◌-◌, ◌≤◌, ◌<◌, List, [], ◌∷◌, length, get_or, take, drop, refl, sym, ap, ◌∙◌, arith, mul-zero, add-suc, get_or-take, get_or-drop, length-take-le, length-drop, drop-drop}
use Rattle.std.specs.Simd.{first_chunks}
use native.Mathlib.Nat.{zero-add, suc-add}
use lib.Seq.{take-take, take-nil}
use Rattle.fields.specs.Bytes.{le}
use Rattle.fields.specs.Zeros.{zeros, zeros_part}

pub drop_take : (m n : ℕ) (l : List ℕ) → drop m (take (m + n) l) ≡ take n (drop m l)
drop_take zero n l = rw zero-add
drop_take (suc m) n [] = rw suc-add (sym (take-nil n))
drop_take (suc m) n (x ∷ l) = rw suc-add (drop_take m n l)

pub chunk_at : (n k i : ℕ) (l d : List ℕ) → i < k → get_or (first_chunks n k l) i d ≡ take n (drop (n * i) l)
chunk_at n zero i l d h = absurd (omega arith)
chunk_at n (suc k) zero l d h = rw mul-zero refl
chunk_at n (suc k) (suc i) l d h = chunk_at n k i (drop n l) d (omega arith) ∙ ap (take n) (drop-drop (n * i) n l ∙ ap (λ (j : ℕ). drop j l) (omega arith))

-- the same of the list that a call answered
pub chunk : (n k i : ℕ) (l : List ℕ) {ps : List (List ℕ)} → ps ≡ first_chunks n k l → i < k → get_or ps i [] ≡ take n (drop (n * i) l)
chunk n k i l e h = rw e (chunk_at n k i l [] h)

pub chunk_long : (n k i : ℕ) (l : List ℕ) {ps : List (List ℕ)} → ps ≡ first_chunks n k l → i < k → n * i + n ≤ length l → length (get_or ps i []) ≡ n
chunk_long n k i l e h m = rw (chunk n k i l e h) (length-take-le n (drop (n * i) l) (simp length-drop (omega arith)))

-- a number, and a part, of a part
pub le_part : (w n at m : ℕ) (l : List ℕ) → m + w ≤ n → le w (take n (drop at l)) m ≡ le w l (at + m)
unfolding le
le_part zero n at m l h = refl
le_part (suc w) n at m l h = rw (get_or-take n (drop at l) m 0 (omega arith), get_or-drop at l m 0, le_part w n at (suc m) l (omega arith), add-suc)

pub part_of : (k n at m : ℕ) (l : List ℕ) → m + k ≤ n → take k (drop m (take n (drop at l))) ≡ take k (drop (at + m) l)
part_of k n at m l h =
    let e : n ≡ m + (n - m) = omega arith in
    ap (λ (i : ℕ). take k (drop m (take i (drop at l)))) e ∙ rw (drop_take m (n - m) (drop at l), take-take k (n - m) (drop m (drop at l)) (omega arith), drop-drop m at l)

pub zeros_of : (k n at m : ℕ) (l : List ℕ) → m + k ≤ n → zeros (take k (drop m (take n (drop at l)))) 0 (length (take k (drop m (take n (drop at l))))) ≡ zeros l (at + m) k
zeros_of k n at m l h =
    let e : at + m + k - (at + m) ≡ k = omega arith in
    rw (part_of k n at m l h) (sym (rw e at (zeros_part l (at + m) (at + m + k) k refl)))
