-- Numbers read from and written to a part of a slice, as std's conversions of bytes do.
use Rattle.std.proofs.Common.{◌≡◌, refl, List, [], ◌∷◌, ◌++◌, ℕ, zero, suc, ◌+◌, ◌-◌, ◌/◌, ◌%◌, ◌≤◌, length, set, take, drop, ap, ◌∙◌, arith, add-zero, append_assoc, get_or-take, take-suc-set, drop-set-lt, drop-drop, length-set, take-append-drop}
use borrow.Rule.Slice.PartMut.{put_mid}
use Rattle.fields.specs.Bytes.{le, put, le-drop}

le-take : (n k : ℕ) (l : List ℕ) (at : ℕ) → at + n ≤ k → le n (take k l) at ≡ le n l at
unfolding le
le-take zero k l at h = refl
le-take (suc n) k l at h = rw (get_or-take k l at 0 (omega arith), le-take n k l (suc at) (omega arith))

-- a number of a part of a slice, which the part's n bytes hold
pub le-part : (n : ℕ) (l : List ℕ) (at : ℕ) → le n (take (at + n - at) (drop at l)) 0 ≡ le n l at
le-part n l at = le-take n (at + n - at) (drop at l) 0 (omega arith) ∙ le-drop n l at 0 ∙ ap (le n l) (add-zero at)

-- the low n bytes of x, the least significant first
abbrev pub low : ℕ → ℕ → List ℕ
low zero x = []
low (suc n) x = x % 256 ∷ low n (x / 256)

put-is : (n : ℕ) (l : List ℕ) (at x : ℕ) → at + n ≤ length l → take at l ++ (low n x ++ drop (at + n) l) ≡ put n l at x
unfolding put
put-is zero l at x h = rw add-zero (take-append-drop at l)
put-is (suc n) l at x h =
    let m = set l at (x % 256) in
    let k : suc at + n ≤ length m = rw length-set (omega arith) in
    let e : suc at + n ≡ at + suc n = omega arith in
    rw (← put-is n m (suc at) (x / 256) k, take-suc-set l at (x % 256) (omega arith), drop-set-lt (suc at + n) l at (x % 256) (omega arith), e, append_assoc)

-- those bytes written to a part of a slice
pub put-part : (n : ℕ) (l ys : List ℕ) (at x : ℕ) → at + n ≤ length l → ys ≡ low n x → put_mid at (at + n - at) l ys ≡ put n l at x
put-part n l ys at x h e =
    let k : at + (at + n - at) ≡ at + n = omega arith in
    rw (e, drop-drop (at + n - at) at l, k) (put-is n l at x h)

-- what `get16` to `get64`, and `put16` to `put64`, cite
pub ruleset parts_read = (le-part)

pub ruleset parts_written = (put-part)
