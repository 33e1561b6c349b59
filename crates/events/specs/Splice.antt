-- Bytes laid over a part of a list, and the bytes of a number and of an amount as lists.
use Rattle.std.specs.Prelude.{◌≡◌, refl, List, [], ◌∷◌, ◌++◌, ℕ, zero, suc, ◌+◌, ◌*◌, ◌/◌, ◌%◌, ◌^◌, ◌≤◌, ◌<◌, length, take, drop, get_or, set}
use Rattle.std.proofs.Common.{sym, ap, ◌∙◌, append_assoc, append-nil, add-zero, zero-add, add-suc, suc-add, pow-suc, mod-lt, div-add-mod', div-lt_iff_lt-mul, add-one, one-add, arith, lit<, length-append, length-take, length-drop, length-set, take-append-drop, length-take-le, take_at, drop_at, drop-drop, get_or-append-add}
use Rattle.std.proofs.Math.Seq.{drop-length}
use Rattle.std.proofs.lemmas.List.{set_split}
use Rattle.fields.specs.Bytes.{le, put, length-put}
use Rattle.amount.specs.Biased.{bias, amount_at, put_amount}
use Rattle.amount.specs.Laws.{full_parts, flip_back}

-- the w bytes of x, least significant first
unfoldable pub bytes_of : ℕ → ℕ → List ℕ
bytes_of zero x = []
bytes_of (suc w) x = x % 256 ∷ bytes_of w (x / 256)

-- the sixteen bytes of the amount whose number is n: the low half, then the high half with the sign bit the other way round
unfoldable pub amount_bytes : ℕ → List ℕ
amount_bytes n = bytes_of 8 (n % 2 ^ 64) ++ bytes_of 8 ((n / 2 ^ 64 + 2 ^ 63) % 2 ^ 64)

-- l with the bytes b from index at on, in place of those there
unfoldable pub splice : List ℕ → ℕ → List ℕ → List ℕ
splice l at b = take at l ++ (b ++ drop (at + length b) l)

pub length-bytes_of : (w x : ℕ) → length (bytes_of w x) ≡ w
unfolding bytes_of
length-bytes_of zero x = refl
length-bytes_of (suc w) x = ap suc (length-bytes_of w (x / 256))

pub length-amount_bytes : (n : ℕ) → length (amount_bytes n) ≡ 16
unfolding amount_bytes
length-amount_bytes n = rw (length-append, length-bytes_of, length-bytes_of)

pub length-splice : (l : List ℕ) (at : ℕ) (b : List ℕ) → at + length b ≤ length l → length (splice l at b) ≡ length l
unfolding splice
length-splice l at b h = simp (length-append, length-take, length-drop) (omega arith)

pub splice-none : (l : List ℕ) (at : ℕ) → splice l at [] ≡ l
unfolding splice
splice-none l at = rw add-zero (take-append-drop at l)

pub splice-one : (l : List ℕ) (at x : ℕ) → at < length l → set l at x ≡ splice l at (x ∷ [])
unfolding splice
splice-one l at x h = rw add-one (set_split l at x h)

-- two runs of bytes, the second just after the first
pub splice_then : (l : List ℕ) (at k : ℕ) (a b : List ℕ) → length a ≡ k → at + k + length b ≤ length l → splice (splice l at a) (at + k) b ≡ splice l at (a ++ b)
unfolding splice
splice_then l at k a b e h =
    let t : length (take at l) ≡ at = length-take-le at l (omega arith) in
    let front : length (take at l ++ a) ≡ at + k = rw (length-append, t, e) in
    let j : take at l ++ (a ++ drop (at + length a) l) ≡ (take at l ++ a) ++ drop (at + length a) l = sym (append_assoc (take at l) a (drop (at + length a) l)) in
    let p : take (at + k) (take at l ++ (a ++ drop (at + length a) l)) ≡ take at l ++ a = ap (take (at + k)) j ∙ take_at (take at l ++ a) _ (at + k) front in
    let f : drop (at + k) (take at l ++ (a ++ drop (at + length a) l)) ≡ drop (at + length a) l = ap (drop (at + k)) j ∙ drop_at (take at l ++ a) _ (at + k) front in
    let z : at + length a + length b ≡ at + length (a ++ b) = rw length-append (omega arith) in
    let q : drop (at + k + length b) (take at l ++ (a ++ drop (at + length a) l)) ≡ drop (at + length (a ++ b)) l =
    sym (drop-drop (length b) (at + k) _) ∙ ap (drop (length b)) f ∙ drop-drop (length b) (at + length a) l
    ∙ ap (λ (n : ℕ). drop n l) z in
    rw (p, q, append_assoc, append_assoc)

-- a number's bytes, written one after another
pub put-splice : (w : ℕ) (l : List ℕ) (at x : ℕ) → at + w ≤ length l → put w l at x ≡ splice l at (bytes_of w x)
unfolding put bytes_of
put-splice zero l at x h = sym (splice-none l at)
put-splice (suc w) l at x h =
    let n : suc at + w ≤ length (set l at (x % 256)) = rw length-set (omega arith) in
    let one : set l at (x % 256) ≡ splice l at (x % 256 ∷ []) = splice-one l at (x % 256) (omega arith) in
    put-splice w (set l at (x % 256)) (suc at) (x / 256) n
    ∙ ap (λ (k : List ℕ). splice k (suc at) (bytes_of w (x / 256))) one
    ∙ ap (λ (k : ℕ). splice (splice l at (x % 256 ∷ [])) k (bytes_of w (x / 256))) (sym (add-one at))
    ∙ splice_then l at 1 (x % 256 ∷ []) (bytes_of w (x / 256)) refl (rw length-bytes_of (omega arith))

pub put_amount-splice : (l : List ℕ) (at n : ℕ) → at + 16 ≤ length l → put_amount l at n ≡ splice l at (amount_bytes n)
unfolding put_amount amount_bytes
put_amount-splice l at n h =
    let x = n % 2 ^ 64 in
    let y = (n / 2 ^ 64 + 2 ^ 63) % 2 ^ 64 in
    let s : length (put 8 l at x) ≡ length l = length-put 8 l at x in
    put-splice 8 (put 8 l at x) (at + 8) y (omega arith)
    ∙ ap (λ (k : List ℕ). splice k (at + 8) (bytes_of 8 y)) (put-splice 8 l at x (omega arith))
    ∙ splice_then l at 8 (bytes_of 8 x) (bytes_of 8 y) (length-bytes_of 8 x) (rw length-bytes_of (omega arith))

-- .. over a list of sixteen bytes
pub put_amount_whole : (l : List ℕ) (n : ℕ) → length l ≡ 16 → put_amount l 0 n ≡ amount_bytes n
unfolding splice
put_amount_whole l n h =
    let e : drop 16 l ≡ [] = ap (λ (k : ℕ). drop k l) (sym h) ∙ drop-length l in
    put_amount-splice l 0 n (omega arith) ∙ rw (length-amount_bytes, e) (append-nil (amount_bytes n))

-- a number, and an amount, written just after the k bytes a
module _ (l : List ℕ) (at k : ℕ) (a : List ℕ) (e : length a ≡ k) where
  pub put_next : (w x : ℕ) → at + k + w ≤ length l → put w (splice l at a) (at + k) x ≡ splice l at (a ++ bytes_of w x)
  put_next w x h =
      put-splice w (splice l at a) (at + k) x (rw (length-splice l at a (omega arith)) h)
      ∙ splice_then l at k a (bytes_of w x) e (rw length-bytes_of h)

  pub put_amount-next : (n : ℕ) → at + k + 16 ≤ length l → put_amount (splice l at a) (at + k) n ≡ splice l at (a ++ amount_bytes n)
  put_amount-next n h =
      put_amount-splice (splice l at a) (at + k) n (rw (length-splice l at a (omega arith)) h)
      ∙ splice_then l at k a (amount_bytes n) e (rw length-amount_bytes h)

-- a number below 256 is its one byte
pub byte_of : (x : ℕ) → x < 256 → bytes_of 1 x ≡ x ∷ []
unfolding bytes_of
byte_of x h = ap (λ (k : ℕ). k ∷ []) (omega arith)

-- ---- reading
-- numbers in the same bytes are the same
pub le_like : (w : ℕ) (l : List ℕ) (at : ℕ) (m : List ℕ) (b : ℕ) → ((i : ℕ) → i < w → get_or l (at + i) 0 ≡ get_or m (b + i) 0) → le w l at ≡ le w m b
unfolding le
le_like zero l at m b h = refl
le_like (suc w) l at m b h =
    let here : get_or l at 0 ≡ get_or m b 0 = ap (λ (k : ℕ). get_or l k 0) (sym (add-zero at)) ∙ h 0 (omega arith) ∙ ap (λ (k : ℕ). get_or m k 0) (add-zero b) in
    let there : (i : ℕ) → i < w → get_or l (suc at + i) 0 ≡ get_or m (suc b + i) 0 =
    λ i k. ap (λ (n : ℕ). get_or l n 0) (suc-add at i ∙ sym (add-suc at i)) ∙ h (suc i) (omega arith) ∙ ap (λ (n : ℕ). get_or m n 0) (add-suc b i ∙ sym (suc-add b i)) in
    rw (here, le_like w l (suc at) m (suc b) there)

-- the bytes of a number, read at the front of a list
pub le-bytes_of : (w x : ℕ) (l : List ℕ) → x < 256 ^ w → le w (bytes_of w x ++ l) 0 ≡ x
unfolding le bytes_of
le-bytes_of zero x l h = omega arith
le-bytes_of (suc w) x l h =
    let h' : x < 256 ^ w * 256 = rw (pow-suc 256 w) at h in
    let next : le w (x % 256 ∷ (bytes_of w (x / 256) ++ l)) 1 ≡ le w (bytes_of w (x / 256) ++ l) 0 = le_like w _ 1 _ 0 (λ i k. ap (λ (n : ℕ). get_or (x % 256 ∷ (bytes_of w (x / 256) ++ l)) n 0) (one-add i) ∙ ap (λ (n : ℕ). get_or (bytes_of w (x / 256) ++ l) n 0) (sym (zero-add i))) in
    rw (next, le-bytes_of w (x / 256) l (omega arith)) (omega arith)

pub amount_at-amount_bytes : (n : ℕ) (l : List ℕ) → n < bias + bias → amount_at (amount_bytes n ++ l) 0 ≡ n
unfolding amount_at amount_bytes
amount_at-amount_bytes n l b =
    let x = n % 2 ^ 64 in
    let y = (n / 2 ^ 64 + 2 ^ 63) % 2 ^ 64 in
    let q : n / 2 ^ 64 < 2 ^ 64 = (div-lt_iff_lt-mul (lit< tt)).1 (rw full_parts at b) in
    let j : (bytes_of 8 x ++ bytes_of 8 y) ++ l ≡ bytes_of 8 x ++ (bytes_of 8 y ++ l) = append_assoc (bytes_of 8 x) (bytes_of 8 y) l in
    let lo : le 8 ((bytes_of 8 x ++ bytes_of 8 y) ++ l) 0 ≡ x = rw j (le-bytes_of 8 x (bytes_of 8 y ++ l) (mod-lt n (lit< tt))) in
    let hi : le 8 ((bytes_of 8 x ++ bytes_of 8 y) ++ l) 8 ≡ y =
    rw j (le_like 8 _ 8 (bytes_of 8 y ++ l) 0 (λ i k. ap (λ (n : ℕ). get_or (bytes_of 8 x ++ (bytes_of 8 y ++ l)) (n + i) 0) (sym (length-bytes_of 8 x)) ∙ get_or-append-add (bytes_of 8 x) _ i 0 ∙ ap (λ (n : ℕ). get_or (bytes_of 8 y ++ l) n 0) (sym (zero-add i))) ∙ le-bytes_of 8 y l (mod-lt (n / 2 ^ 64 + 2 ^ 63) (lit< tt))) in
    rw (lo, hi, flip_back (n / 2 ^ 64) q) (div-add-mod' n (2 ^ 64))
