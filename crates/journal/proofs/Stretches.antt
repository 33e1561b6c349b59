-- The changed cells of an image in parts, and their entries written into places one part behind the other.
use mathlib.Core.Path.{◌≡◌, refl, sym, ap, ◌∙◌}
use mathlib.Core.Logic.{inr}
use mathlib.Core.Bool.{Bool, true, false}
use mathlib.Core.List.{List, [], ◌∷◌, ◌++◌, append_assoc, append-nil}
use Prim.Native.Nat.{ℕ, zero, suc, ◌+◌, ◌*◌, ◌-◌, ◌/◌, ◌≤◌, ◌<◌}
use native.Mathlib.Nat.{zero-add, add-zero, suc-add}
use native.Mathlib.Omega.{arith}
use lib.Dec.{eqb, leb}
use lib.ListN.{length, get_or, take, drop, length-append, length-take, length-drop, take-append-drop, drop_of_length-le}
use lib.Seq.{take_all, take_at, drop_at, take-take, take-append-le, take-append-add, take-add, drop-drop}
use borrow.Author.Tests.{leb-true, leb-false, le-leb}
use Rattle.std.specs.Cmp.Lexicographic.{pointwise}
use Rattle.fields.specs.Bytes.{le}
use Rattle.fields.specs.Logic.{◌and◌, and_is}
use Rattle.fields.specs.Rules.{pick}
use Rattle.fields.specs.Same.{same_bytes_of, same_is, same_refl, same-append}
use Rattle.fields.proofs.Loops.{le_same}
use Rattle.journal.specs.Journal.{Entry, entry_bytes, entries_bytes, changed}
use Rattle.journal.specs.Parts.{place_at, over, Found}
use Rattle.fields.specs.Chunks.{drop_take}
use Rattle.journal.proofs.Written.{length_entries}
use Rattle.journal.proofs.Cells.{changed_order}
use Rattle.journal.proofs.Backwards.{order_front}
use Rattle.journal.proofs.Layouts.{entries_append}

-- two words of each image
pub two_words : (a b : List ℕ) (at x y u v : ℕ) → ((i : ℕ) → get_or a i 0 < 256) → ((i : ℕ) → get_or b i 0 < 256) → at + 16 ≤ length a → at + 16 ≤ length b
    → x ≡ le 8 a at → y ≡ le 8 b at → u ≡ le 8 a (at + 8) → v ≡ le 8 b (at + 8)
    → eqb x y and eqb u v ≡ same_bytes_of (take 16 (drop at a)) (take 16 (drop at b))
two_words a b at x y u v ha hb la lb ex ey eu ev =
    let l : length (take 8 (drop at a)) ≡ length (take 8 (drop at b)) = simp (length-take, length-drop) (omega arith) in
    rw (
      ex,
      ey,
      eu,
      ev,
      take-add 8 8 (drop at a),
      take-add 8 8 (drop at b),
      drop-drop 8 at a,
      drop-drop 8 at b,
      same-append (take 8 (drop at a)) (take 8 (drop at b)) (take 8 (drop (at + 8) a)) (take 8 (drop (at + 8) b)) l,
      le_same 8 a b at ha hb (omega arith) (omega arith),
      le_same 8 a b (at + 8) ha hb (omega arith) (omega arith),
    )

-- the same of two cells alone, by which the edits of `same_cell` compare words
pub two_words_alone : (a b : List ℕ) {x y u v : ℕ} → ((i : ℕ) → get_or a i 0 < 256) → ((i : ℕ) → get_or b i 0 < 256) → length a ≡ 16 → length b ≡ 16
    → x ≡ le 8 a 0 → y ≡ le 8 b 0 → u ≡ le 8 a 8 → v ≡ le 8 b 8 → eqb x y and eqb u v ≡ same_bytes_of a b
two_words_alone a b {x} {y} {u} {v} ha hb la lb ex ey eu ev =
    two_words a b 0 x y u v ha hb (omega arith) (omega arith) ex ey eu ev ∙ rw (take_all 16 a (omega arith), take_all 16 b (omega arith)) refl

-- what `==` of two cells says
pub pointwise_same : (a b : List ℕ) → pointwise eqb a b ≡ same_bytes_of a b
unfolding same_bytes_of
pointwise_same [] [] = refl
pointwise_same [] (y ∷ b) = refl
pointwise_same (x ∷ a) [] = refl
pointwise_same (x ∷ a) (y ∷ b) = rw (and_is, pointwise_same a b) refl

-- ---- the changed cells
-- of m cells and of n cells behind them
pub changed-append : (call m n i : ℕ) (a b : List ℕ)
    → changed call (m + n) i a b ≡ changed call m i a b ++ changed call n (i + m) (drop (16 * m) a) (drop (16 * m) b)
unfolding changed
changed-append call zero n i a b = rw (zero-add, add-zero)
changed-append call (suc m) n i a b =
    let e : 16 + 16 * m ≡ 16 * suc m = omega arith in
    let f : suc i + m ≡ i + suc m = omega arith in
    rw suc-add
    (go (same_bytes_of (take 16 a) (take 16 b))
    (rw (drop-drop (16 * m) 16 a, drop-drop (16 * m) 16 b, e, f) at (changed-append call m n (suc i) (drop 16 a) (drop 16 b))))
  where
    all : List Entry
    all = changed call (m + n) (suc i) (drop 16 a) (drop 16 b)

    front : List Entry
    front = changed call m (suc i) (drop 16 a) (drop 16 b)

    back : List Entry
    back = changed call n (i + suc m) (drop (16 * suc m) a) (drop (16 * suc m) b)

    first : Entry
    first = record { cell = i; call = call; old = take 16 a }

    go : (t : Bool) → all ≡ front ++ back → pick t all (first ∷ all) ≡ pick t front (first ∷ front) ++ back
    go true h = h
    go false h = ap (λ l. first ∷ l) h

pub none-changed : (call i : ℕ) (a b : List ℕ) → changed call 0 i a b ≡ []
unfolding changed
none-changed call i a b = refl

-- one cell
pub changed-one : (call i : ℕ) (a b : List ℕ)
    → changed call 1 i a b ≡ pick (same_bytes_of (take 16 a) (take 16 b)) [] (record { cell = i; call = call; old = take 16 a } ∷ [])
unfolding changed
changed-one call i a b = refl

-- only the bytes of the cells are read
pub changed_front : (call n i : ℕ) (a b : List ℕ) → changed call n i (take (16 * n) a) (take (16 * n) b) ≡ changed call n i a b
unfolding changed
changed_front call zero i a b = refl
changed_front call (suc n) i a b =
    rw (take-take 16 (16 * suc n) a (omega arith), take-take 16 (16 * suc n) b (omega arith), rest a, rest b, changed_front call n (suc i) (drop 16 a) (drop 16 b))
  where
    rest : (l : List ℕ) → drop 16 (take (16 * suc n) l) ≡ take (16 * n) (drop 16 l)
    rest l = let e : 16 * suc n ≡ 16 + 16 * n = omega arith in ap (λ i. drop 16 (take i l)) e ∙ drop_take 16 (16 * n) l

changed_self : (call n i : ℕ) (a : List ℕ) → changed call n i a a ≡ []
unfolding changed
changed_self call zero i a = refl
changed_self call (suc n) i a = rw (same_refl (take 16 a), changed_self call n (suc i) (drop 16 a))

-- none, where the bytes are the same
pub changed-none : (call n i : ℕ) (a b : List ℕ) → same_bytes_of (take (16 * n) a) (take (16 * n) b) ≡ true → changed call n i a b ≡ []
changed-none call n i a b e =
    sym (changed_front call n i a b) ∙ ap (λ (l : List ℕ). changed call n i l (take (16 * n) b)) (same_is _ _ e) ∙ changed_self call n i (take (16 * n) b)

pub changed_few : (call n i : ℕ) (a b : List ℕ) → length (changed call n i a b) ≤ n
unfolding changed
changed_few call zero i a b = omega arith
changed_few call (suc n) i a b = go (same_bytes_of (take 16 a) (take 16 b)) (changed_few call n (suc i) (drop 16 a) (drop 16 b))
  where
    rest : List Entry
    rest = changed call n (suc i) (drop 16 a) (drop 16 b)

    go : (t : Bool) → length rest ≤ n → length (pick t rest (record { cell = i; call = call; old = take 16 a } ∷ rest)) ≤ suc n
    go true h = omega arith
    go false h = omega arith

-- ---- a part of a list up to its end
module _ (at : ℕ) (l : List ℕ) where
  rest_long : length (drop at l) ≤ length l - at
  rest_long = rw (length-drop at l) (omega arith)

  pub rest_all : take (length l - at) (drop at l) ≡ drop at l
  rest_all = take_all (length l - at) (drop at l) rest_long

  pub rest_put : (p ys : List ℕ) → p ++ (ys ++ drop (length l - at) (drop at l)) ≡ p ++ ys
  rest_put p ys = rw (drop_of_length-le (drop at l) {i = length l - at} rest_long, append-nil ys)

-- ---- entries in places
-- any first part of the entries takes 24 bytes each
abbrev pub Long : List Entry → Type 0
Long es = (n : ℕ) → length (entries_bytes (take n es)) ≡ 24 * length (take n es)

pub changed_long : (call n i : ℕ) (a b : List ℕ) → 1 ≤ call → 16 * n ≤ length a → Long (changed call n i a b)
changed_long call n i a b f h k =
    let es = changed call n i a b in
    let o = changed_order (i + n) call n i 0 0 a b f (omega arith) (inr (omega arith)) (omega arith) h in
    length_entries (i + n) call 0 0 (take k es) (order_front (i + n) call 0 0 (take k es) (drop k es) (rw (take-append-drop k es) o))

one_entry : (e : Entry) → entries_bytes (e ∷ []) ≡ entry_bytes e
unfolding entries_bytes
one_entry e = append-nil (entry_bytes e)

module _ (b : List ℕ) where
  -- there are places for all
  over-fits : (es : List Entry) → length es ≤ length b / 24 → over b es ≡ entries_bytes es ++ drop (24 * length es) b
  unfolding over
  over-fits es h = rw (take_all (length b / 24) es h)

  pub over_none : over b [] ≡ b
  unfolding entries_bytes
  over_none = over-fits [] (omega arith)

  over-one : (e : Entry) → 24 ≤ length b → over b (e ∷ []) ≡ entry_bytes e ++ drop 24 b
  over-one e h = over-fits (e ∷ []) (omega arith) ∙ ap (λ l. l ++ drop 24 b) (one_entry e)

  -- there are places for none
  over_short : (es : List Entry) → length b < 24 → over b es ≡ b
  unfolding over entries_bytes
  over_short es h = let z : length b / 24 ≡ 0 = omega arith in rw z

  -- there are places for the first part alone
  pub over_full : (es fs : List Entry) → length b / 24 ≤ length es → over b (es ++ fs) ≡ over b es
  unfolding over
  over_full es fs h = rw (take-append-le (length b / 24) es fs h)

  over_part : (es fs : List Entry) → length es ≤ length b / 24 → over b (es ++ fs) ≡ entries_bytes es ++ over (drop (24 * length es) b) fs
  unfolding over
  over_part es fs h =
      let P = length b / 24 in
      let T = take (P - length es) fs in
      let s : length es + (P - length es) ≡ P = omega arith in
      let cut : take P (es ++ fs) ≡ es ++ T = ap (λ i. take i (es ++ fs)) (sym s) ∙ take-append-add es fs (P - length es) in
      let m : length (drop (24 * length es) b) / 24 ≡ P - length es = rw (length-drop (24 * length es) b) (omega arith) in
      let q : 24 * length (es ++ T) ≡ 24 * length es + 24 * length T = rw (length-append es T) (omega arith) in
      rw (cut, m, entries_append es T, q, drop-drop (24 * length T) (24 * length es) b) (append_assoc (entries_bytes es) (entries_bytes T) _)

module _ (b : List ℕ) (es : List Entry) (long : Long es) where
  pub over_long : length (over b es) ≡ length b
  unfolding over
  over_long = simp (length-append, length-drop, long (length b / 24), length-take) (omega arith)

  -- some entries, and others behind them
  pub over-append : (fs : List Entry) → over b (es ++ fs) ≡ take (place_at (length es) (length b)) (over b es) ++ over (drop (place_at (length es) (length b)) (over b es)) fs
  unfolding place_at
  over-append fs = go (leb (24 * length es) (length b)) refl
    where
      all : length es ≤ length b / 24 → length (entries_bytes es) ≡ 24 * length es
      all h = rw (take_all (length b / 24) es h) at (long (length b / 24))

      go : (t : Bool) → leb (24 * length es) (length b) ≡ t
          → over b (es ++ fs) ≡ take (pick t (24 * length es) (length b)) (over b es) ++ over (drop (pick t (24 * length es) (length b)) (over b es)) fs
      go true e =
          let l = leb-true (24 * length es) (length b) e in
          let h : length es ≤ length b / 24 = omega arith in
          let E = entries_bytes es in
          rw (over-fits b es h, take_at E (drop (24 * length es) b) (24 * length es) (all h), drop_at E (drop (24 * length es) b) (24 * length es) (all h)) (over_part b es fs h)
      go false e =
          let l = leb-false (24 * length es) (length b) e in
          let o = over_long in
          rw (take_all (length b) (over b es) (omega arith), drop_of_length-le (over b es) {i = length b} (omega arith), over_short [] fs (omega arith), append-nil (over b es))
          (over_full b es fs (omega arith))

-- ---- a walk over so many cells: after k of them, n have changed, and their entries are written as far as there are places
abbrev pub cell_of : ℕ → List ℕ → List ℕ
cell_of k x = take 16 (drop (16 * k) x)

module _ (call first : ℕ) (a b : List ℕ) where
  abbrev pub Walked : (p : List ℕ) (cells k n : ℕ) (q : List ℕ) → Type 0
  Walked p cells k n q = (k ≤ cells) × (n ≤ k) × (n ≡ length (changed call k first a b)) × (length q ≡ length p) × (q ≡ over p (changed call k first a b))

  pub walk_starts : (p : List ℕ) (cells : ℕ) → Walked p cells 0 0 p
  walk_starts p cells =
      let e = sym (none-changed call first a b) in
      (omega arith, omega arith, ap length e, refl, sym (over_none p) ∙ ap (over p) e)

  pub walk_ends : (p q : List ℕ) (cells k n : ℕ) → Walked p cells k n q → cells ≤ k → Found cells first call a b p n q
  walk_ends p q cells k n w h =
      let m = w.0 in
      let e : k ≡ cells = omega arith in
      let s = ap (λ i. changed call i first a b) e in
      record { counted = w.2 ∙ ap length s; written = w.4 ∙ ap (over p) s }

  -- ---- one cell more
  abbrev pub entry_of : ℕ → Entry
  entry_of k = record { cell = first + k; call = call; old = cell_of k a }

  pub cell_same : (k : ℕ) → same_bytes_of (cell_of k a) (cell_of k b) ≡ true → changed call (k + 1) first a b ≡ changed call k first a b
  cell_same k e = rw (changed-append call k 1 first a b, changed-one call (first + k) (drop (16 * k) a) (drop (16 * k) b), e) (append-nil (changed call k first a b))

  pub cell_changed : (k : ℕ) → same_bytes_of (cell_of k a) (cell_of k b) ≡ false → changed call (k + 1) first a b ≡ changed call k first a b ++ (entry_of k ∷ [])
  cell_changed k e = rw (changed-append call k 1 first a b, changed-one call (first + k) (drop (16 * k) a) (drop (16 * k) b), e)

  module _ (p q : List ℕ) (cells k n : ℕ) (w : Walked p cells k n q) (h : k < cells) where
    pub walk_same : same_bytes_of (cell_of k a) (cell_of k b) ≡ true → Walked p cells (k + 1) n q
    walk_same e =
        let m = w.1 in
        let s = sym (cell_same k e) in
        (omega arith, omega arith, w.2 ∙ ap length s, w.3, w.4 ∙ ap (over p) s)

    counted : same_bytes_of (cell_of k a) (cell_of k b) ≡ false → n + 1 ≡ length (changed call (k + 1) first a b)
    counted e = let c = w.2 in sym (ap length (cell_changed k e) ∙ length-append (changed call k first a b) (entry_of k ∷ []) ∙ omega arith)

    -- no place left
    pub walk_full : same_bytes_of (cell_of k a) (cell_of k b) ≡ false → length q < 24 * n + 24 → Walked p cells (k + 1) (n + 1) q
    walk_full e f =
        let m = w.1 in
        let c = w.2 in
        let l = w.3 in (
          omega arith,
          omega arith,
          counted e,
          l,
          w.4 ∙ rw (cell_changed k e) (sym (over_full p (changed call k first a b) (entry_of k ∷ []) (omega arith))),
        )

    -- an entry written; the 24 bytes come back as a part of the places
    written_over : (ys : List ℕ) → same_bytes_of (cell_of k a) (cell_of k b) ≡ false → 24 * n + 24 ≤ length q → 1 ≤ call → 16 * cells ≤ length a → ys ≡ entry_bytes (entry_of k)
        → take (24 * n) q ++ (ys ++ drop (24 * n + 24 - 24 * n) (drop (24 * n) q)) ≡ over p (changed call (k + 1) first a b)
    unfolding place_at
    written_over ys e f o l ey =
        let es = changed call k first a b in
        let c = w.2 in
        let i = w.3 in
        let long = changed_long call k first a b o (omega arith) in
        let m : 24 * n + 24 - 24 * n ≡ 24 = omega arith in
        let t : leb (24 * length es) (length p) ≡ true = le-leb (24 * length es) (length p) (omega arith) in
        let v = over_long p es long in
        let d : 24 ≤ length (drop (24 * length es) (over p es)) = rw (length-drop (24 * length es) (over p es)) (omega arith) in
        rw (cell_changed k e, over-append p es long (entry_of k ∷ []), t, over-one (drop (24 * length es) (over p es)) (entry_of k) d, w.4, ey, m, c)

    pub walk_writes : (ys : List ℕ) → same_bytes_of (cell_of k a) (cell_of k b) ≡ false → 24 * n + 24 ≤ length q → 1 ≤ call → 16 * cells ≤ length a → ys ≡ entry_bytes (entry_of k)
        → Walked p cells (k + 1) (n + 1) (take (24 * n) q ++ (ys ++ drop (24 * n + 24 - 24 * n) (drop (24 * n) q)))
    walk_writes ys e f o l ey =
        let m = w.1 in
        let r = written_over ys e f o l ey in
        (omega arith, omega arith, counted e, ap length r ∙ over_long p (changed call (k + 1) first a b) (changed_long call (k + 1) first a b o (omega arith)), r)

pub found_few : {m k call r : ℕ} {x y q ys : List ℕ} → Found m k call x y q r ys → r ≤ m
found_few {m} {k} {call} {r} {x} {y} f = rw f.counted (changed_few call m k x y)

-- ---- a walk over an image: m cells more
module _ (call : ℕ) (a b p q : List ℕ) (cells k m n : ℕ) (w : Walked call 0 a b p cells k n q) (h : k + m ≤ cells) where
  pub stretch_same : same_bytes_of (take (16 * m) (drop (16 * k) a)) (take (16 * m) (drop (16 * k) b)) ≡ true → Walked call 0 a b p cells (k + m) n q
  stretch_same e =
      let i = w.1 in
      let s : changed call k 0 a b ≡ changed call (k + m) 0 a b =
      sym (rw (changed-append call k m 0 a b, changed-none call m (0 + k) (drop (16 * k) a) (drop (16 * k) b) e) (append-nil (changed call k 0 a b))) in
      (h, omega arith, w.2 ∙ ap length s, w.3, w.4 ∙ ap (over p) s)

  -- the places from `at` on come back as a part
  pub stretch_found : (ys : List ℕ) (r at u v : ℕ) → 1 ≤ call → 16 * cells ≤ length a → at ≡ place_at n (length q) → u ≡ 16 * m → v ≡ 16 * m
      → Found m k call (take u (drop (16 * k) a)) (take v (drop (16 * k) b)) (take (length q - at) (drop at q)) r ys
      → Walked call 0 a b p cells (k + m) (n + r) (take at q ++ (ys ++ drop (length q - at) (drop at q)))
  stretch_found ys r at u v f l ea eu ev found =
      let es = changed call k 0 a b in
      let fs = changed call m k (drop (16 * k) a) (drop (16 * k) b) in
      let same : changed call m k (take u (drop (16 * k) a)) (take v (drop (16 * k) b)) ≡ fs = rw (eu, ev) (changed_front call m k (drop (16 * k) a) (drop (16 * k) b)) in
      let all : changed call (k + m) 0 a b ≡ es ++ fs = rw (zero-add k) at (changed-append call k m 0 a b) in
      let long = changed_long call k 0 a b f (omega arith) in
      let ey : ys ≡ over (drop at q) fs = found.written ∙ rw (rest_all at q, same) in
      let join : over p (es ++ fs) ≡ take at q ++ over (drop at q) fs = rw (ea, w.2, w.3, w.4) (over-append p es long fs) in
      let t : take at q ++ (ys ++ drop (length q - at) (drop at q)) ≡ over p (changed call (k + m) 0 a b) = rest_put at q (take at q) ys ∙ rw (ey, all, join) in
      let i = w.1 in
      let few = found_few found in (
        h,
        omega (arith, i, few),
        rw (all, length-append es fs, ← same, ← found.counted, w.2),
        ap length t ∙ over_long p (changed call (k + m) 0 a b) (changed_long call (k + m) 0 a b f (omega arith)),
        t,
      )
