-- The test along the bytes is the test of the definition, where each number of the list is a byte; and one turn of its loop.
use mathlib.Core.Path.{◌≡◌, refl, sym, ap, ap₂, ◌∙◌, subst}
use mathlib.Core.Bool.{Bool, true, false}
use mathlib.Core.List.{List, [], ◌∷◌, ◌++◌, append_assoc}
use Prim.Native.Nat.{ℕ, zero, suc, ◌+◌, ◌*◌, ◌-◌, ◌/◌, ◌%◌, ◌≤◌, ◌<◌}
use native.Mathlib.Omega.{arith}
use native.Mathlib.Numerals.{add-one}
use native.Mathlib.Nat.{zero-add}
use lib.Dec.{eqb, leb}
use lib.ListN.{length, get_or, take, drop, replicate, length-take, length-drop, take-append-drop, length-replicate, get_or-replicate}
use lib.Seq.{drop-cons, drop-drop, get_or-drop, get_or-take, drop_at, ext_get_or, length-take-le}
use borrow.Author.Tests.{eqb-true, eqb-false, leb-true, eq-eqb}
use Rattle.fields.specs.Logic.{◌and◌, and_l, and_r, and_i, true_and, false_and}
use Rattle.fields.specs.Chunks.{le_part, zeros_of}
use Rattle.fields.specs.Bytes.{le, le-drop}
use Rattle.fields.specs.Rules.{pick}
use Rattle.fields.specs.Same.{same_refl}
use Rattle.fields.specs.Zeros.{zeros, each, zero_here, zeros-at, zeros_from}
use Rattle.journal.specs.Journal.{Entry, Contents, head_bytes_of, entry_bytes, entries_bytes, layout, bytes_of, read_entry, read_entries, contents_of, ordered, valid, fits, good_journal}
use Rattle.journal.specs.Scan.{in_order_of, scan_entries, scan_head, scan}
use Rattle.journal.proofs.Written.{le_two, halves, order_out, length-bytes, sound, length_read}

both_ways : (a b : Bool) → (a ≡ true → b ≡ true) → (b ≡ true → a ≡ true) → a ≡ b
both_ways true b f g = sym (f refl)
both_ways false true f g = g refl
both_ways false false f g = refl

-- ---- runs of zeros
zeros_part : (b : List ℕ) (at n : ℕ) → at + n ≤ length b → zeros b at n ≡ true → take n (drop at b) ≡ replicate n 0
zeros_part b at n h z =
    let l : length (take n (drop at b)) ≡ n = length-take-le n (drop at b) (simp length-drop (omega arith)) in
    ext_get_or 0 (take n (drop at b)) (replicate n 0) (l ∙ sym (length-replicate n 0))
    (λ i k. let i-in : i < n = rw l at k in get_or-take n (drop at b) i 0 i-in ∙ get_or-drop at b i 0 ∙ zeros-at b n at i z i-in ∙ sym (get_or-replicate n i 0 0 i-in))

zeros_whole : (b : List ℕ) → zeros b 0 (length b) ≡ true → b ≡ replicate (length b) 0
zeros_whole b z =
    ext_get_or 0 b (replicate (length b) 0) (sym (length-replicate (length b) 0))
    (λ i k. rw zero-add at (zeros-at b (length b) 0 i z k) ∙ sym (get_or-replicate (length b) i 0 0 k))

zeros-replicate : (m : ℕ) → zeros (replicate m 0) 0 (length (replicate {A = ℕ} m 0)) ≡ true
zeros-replicate m = rw (length-replicate {A = ℕ} m 0) (zeros_from (replicate m 0) m 0 (λ i k. rw zero-add (get_or-replicate m i 0 0 k)))

-- ---- numbers of two bytes
low_half : (b : List ℕ) (i : ℕ) → ((i : ℕ) → get_or b i 0 < 256) → le 2 b i % 256 ≡ get_or b i 0
low_half b i h = let x = h i in let e = le_two b i in omega arith

high_half : (b : List ℕ) (i : ℕ) → ((i : ℕ) → get_or b i 0 < 256) → le 2 b i / 256 ≡ get_or b (suc i) 0
high_half b i h = let x = h i in let e = le_two b i in omega arith

drop-bytes : (b : List ℕ) (n : ℕ) → ((i : ℕ) → get_or b i 0 < 256) → (i : ℕ) → get_or (drop n b) i 0 < 256
drop-bytes b n h i = rw get_or-drop (h (n + i))

-- the first four bytes of a list
four : (b : List ℕ) → 4 ≤ length b → b ≡ get_or b 0 0 ∷ get_or b 1 0 ∷ get_or b 2 0 ∷ get_or b 3 0 ∷ drop 4 b
four b h =
    drop-cons b 0 0 (omega arith)
    ∙ ap (λ l. get_or b 0 0 ∷ l) (drop-cons b 1 0 (omega arith)
    ∙ ap (λ l. get_or b 1 0 ∷ l) (drop-cons b 2 0 (omega arith)
    ∙ ap (λ l. get_or b 2 0 ∷ l) (drop-cons b 3 0 (omega arith))))

-- ---- what passes the test is the bytes of what it says
first_entry : (b : List ℕ) → 24 ≤ length b → ((i : ℕ) → get_or b i 0 < 256) → zeros b 4 4 ≡ true → entry_bytes (read_entry b) ++ drop 24 b ≡ b
first_entry b h v z =
    let mid : replicate 4 0 ++ drop 8 b ≡ drop 4 b =
    ap₂ (λ p q. p ++ q) (sym (zeros_part b 4 4 (omega arith) z)) (sym (drop-drop 4 4 b)) ∙ take-append-drop 4 (drop 4 b) in
    let end : take 16 (drop 8 b) ++ drop 24 b ≡ drop 8 b = ap (λ l. take 16 (drop 8 b) ++ l) (sym (drop-drop 16 8 b)) ∙ take-append-drop 16 (drop 8 b) in
    rw (low_half b 0 v, high_half b 0 v, low_half b 2 v, high_half b 2 v, end)
    (ap (λ l. get_or b 0 0 ∷ get_or b 1 0 ∷ get_or b 2 0 ∷ get_or b 3 0 ∷ l) mid ∙ sym (four b (omega arith)))

exact_entries : (cells calls n last next : ℕ) (b : List ℕ) → 24 * n ≤ length b → ((i : ℕ) → get_or b i 0 < 256) → scan_entries cells calls n last next b ≡ true
    → entries_bytes (read_entries n b) ++ replicate (length b - 24 * n) 0 ≡ b
unfolding scan_entries entries_bytes read_entries
exact_entries cells calls zero last next b h v t = let e : length b ≡ length b - 24 * 0 = omega arith in sym (zeros_whole b t ∙ ap (λ n. replicate n 0) e)
exact_entries cells calls (suc n) last next b h v t =
    let small : length b - 24 * suc n ≡ length (drop 24 b) - 24 * n = simp length-drop (omega arith) in
    let rest = exact_entries cells calls n (le 2 b 2) (suc (le 2 b 0)) (drop 24 b) (simp length-drop (omega arith)) (drop-bytes b 24 v) (and_r _ _ t) in
    rw small
    (append_assoc (entry_bytes (read_entry b)) (entries_bytes (read_entries n (drop 24 b))) _
    ∙ ap (λ l. entry_bytes (read_entry b) ++ l) rest ∙ first_entry b (omega arith) v (and_r _ _ (and_l _ _ t)))

in_order : (cells calls n last next : ℕ) (b : List ℕ) → 24 * n ≤ length b → scan_entries cells calls n last next b ≡ true
    → ordered cells calls last next (read_entries n b) ≡ true
unfolding scan_entries in_order_of ordered read_entries
in_order cells calls zero last next b h t = refl
in_order cells calls (suc n) last next b h t =
    let o1 = and_l _ _ (and_l _ _ t) in
    let o2 = and_r _ _ o1 in
    let o3 = and_r _ _ o2 in
    let o4 = and_r _ _ o3 in
    let sixteen : length (take 16 (drop 8 b)) ≡ 16 = simp (length-take, length-drop) (omega arith) in
    and_i _ _ (and_l _ _ o1) (and_i _ _ (and_l _ _ o2) (and_i _ _ (and_l _ _ o3) (and_i _ _ (and_l _ _ o4) (and_i _ _ (and_r _ _ o4) (and_i _ _ (eq-eqb _ _ sixteen)
    (in_order cells calls n (le 2 b 2) (suc (le 2 b 0)) (drop 24 b) (simp length-drop (omega arith)) (and_r _ _ t)))))))

head_bytes : (j : List ℕ) → 24 ≤ length j → ((i : ℕ) → get_or j i 0 < 256) → leb (get_or j 0 0) 1 ≡ true → eqb (get_or j 1 0) 0 ≡ true
    → zeros j 6 18 ≡ true → head_bytes_of (eqb (get_or j 0 0) 1) (le 2 j 2) (le 2 j 4) ++ drop 24 j ≡ j
head_bytes j h v a b z =
    let tail : replicate 18 0 ++ drop 24 j ≡ drop 6 j =
    ap₂ (λ p q. p ++ q) (sym (zeros_part j 6 18 (omega arith) z)) (sym (drop-drop 18 6 j)) ∙ take-append-drop 18 (drop 6 j) in
    let five = drop-cons j 4 0 (omega arith) ∙ ap (λ l. get_or j 4 0 ∷ l) (drop-cons j 5 0 (omega arith)) in
    let six = rw (eqb-true (get_or j 1 0) 0 b) at (four j (omega arith) ∙ ap (λ l. get_or j 0 0 ∷ get_or j 1 0 ∷ get_or j 2 0 ∷ get_or j 3 0 ∷ l) five) in
    rw (low_half j 2 v, high_half j 2 v, low_half j 4 v, high_half j 4 v, flag (eqb (get_or j 0 0) 1) refl)
    (ap (λ l. get_or j 0 0 ∷ 0 ∷ get_or j 2 0 ∷ get_or j 3 0 ∷ get_or j 4 0 ∷ get_or j 5 0 ∷ l) tail ∙ sym six)
  where
    flag : (t : Bool) → eqb (get_or j 0 0) 1 ≡ t → pick t 1 0 ≡ get_or j 0 0
    flag true e = sym (eqb-true _ _ e)
    flag false e = let l = leb-true (get_or j 0 0) 1 a in let n = eqb-false (get_or j 0 0) 1 e in omega arith

scan_good : (cells : ℕ) (j : List ℕ) → ((i : ℕ) → get_or j i 0 < 256) → scan cells j ≡ true → good_journal cells j ≡ true
unfolding scan scan_head good_journal valid contents_of bytes_of layout
scan_good cells j v t =
    let head = and_l _ _ (and_r _ _ t) in
    let entries = and_r _ _ (and_r _ _ t) in
    let counts = and_l _ _ head in
    let filled = and_l _ _ (and_r _ _ head) in
    let big : 24 * suc (le 2 j 4) ≤ length j = leb-true _ _ (and_r _ _ counts) in
    let n = length_read (le 2 j 4) (drop 24 j) in
    let rest = exact_entries cells (le 2 j 2) (le 2 j 4) 0 0 (drop 24 j) (simp length-drop (omega arith)) (drop-bytes j 24 v) entries in
    let small : length j - 24 * suc (le 2 j 4) ≡ length (drop 24 j) - 24 * le 2 j 4 = simp length-drop (omega arith) in
    let whole = head_bytes j (omega arith) v (and_l _ _ filled) (and_l _ _ (and_r _ _ filled)) (and_r _ _ (and_r _ _ filled)) in
    rw (n, small, rest, whole)
    (and_i _ _ (and_l _ _ t)
    (and_i _ _ (and_i _ _ counts (and_i _ _ (in_order cells (le 2 j 2) (le 2 j 4) 0 0 (drop 24 j) (simp length-drop (omega arith)) entries) (and_r _ _ (and_r _ _ head))))
    (same_refl j)))

-- ---- and the bytes of what is valid pass the test
pad_pass : (e : Entry) (y z : List ℕ) → zeros ((entry_bytes e ++ y) ++ z) 4 4 ≡ true
unfolding zeros each zero_here ◌and◌
pad_pass e y z = refl

entries_pass : (cells calls last next : ℕ) (es : List Entry) (m : ℕ) → ordered cells calls last next es ≡ true
    → scan_entries cells calls (length es) last next (entries_bytes es ++ replicate m 0) ≡ true
unfolding scan_entries in_order_of entries_bytes ordered
entries_pass cells calls last next [] m h = zeros-replicate m
entries_pass cells calls last next (e ∷ es) m h =
    let o = order_out cells calls last next e es h in
    let h2 = and_r _ _ h in
    let h3 = and_r _ _ h2 in
    let h4 = and_r _ _ h3 in
    let b = (entry_bytes e ++ entries_bytes es) ++ replicate m 0 in
    let d : drop 16 ((e.old ++ entries_bytes es) ++ replicate m 0) ≡ entries_bytes es ++ replicate m 0 =
    rw append_assoc (drop_at e.old (entries_bytes es ++ replicate m 0) 16 o.0.sixteen) in
    rw (le_two b 0 ∙ halves e.cell, le_two b 2 ∙ halves e.call, d)
    (and_i _ _
    (and_i _ _ (and_i _ _ (and_l _ _ h) (and_i _ _ (and_l _ _ h2) (and_i _ _ (and_l _ _ h3) (and_i _ _ (and_l _ _ h4) (and_l _ _ (and_r _ _ h4))))))
    (pad_pass e (entries_bytes es) (replicate m 0)))
    (entries_pass cells calls e.call (suc e.cell) es m o.1))

calls_back : (len : ℕ) (p : Contents) → le 2 (bytes_of len p) 2 ≡ p.calls
unfolding bytes_of layout
calls_back len p = le_two (bytes_of len p) 2 ∙ halves p.calls

count_back : (len : ℕ) (p : Contents) → le 2 (bytes_of len p) 4 ≡ length p.entries
unfolding bytes_of layout
count_back len p = le_two (bytes_of len p) 4 ∙ halves (length p.entries)

rest_back : (len : ℕ) (p : Contents) → drop 24 (bytes_of len p) ≡ entries_bytes p.entries ++ replicate (len - 24 * suc (length p.entries)) 0
unfolding bytes_of layout
rest_back len p = refl

open_back : (len : ℕ) (p : Contents) → eqb (get_or (bytes_of len p) 0 0) 1 ≡ p.opened
unfolding bytes_of layout
open_back len p = go p.opened
  where
    go : (o : Bool) → eqb (pick o 1 0) 1 ≡ o
    go true = refl
    go false = refl

filled_pass : (len : ℕ) (p : Contents) → leb (get_or (bytes_of len p) 0 0) 1 and eqb (get_or (bytes_of len p) 1 0) 0 and zeros (bytes_of len p) 6 18 ≡ true
unfolding bytes_of layout zeros each zero_here ◌and◌
filled_pass len p = go p.opened
  where
    go : (o : Bool) → leb (pick o 1 0) 1 and true ≡ true
    go true = refl
    go false = refl

scan-bytes : (cells len : ℕ) (p : Contents) → fits len ≡ true → valid cells len p ≡ true → scan cells (bytes_of len p) ≡ true
unfolding scan scan_head valid
scan-bytes cells len p f v =
    let v2 = and_r _ _ v in
    rw (length-bytes cells len p v, calls_back len p, count_back len p, rest_back len p, open_back len p)
    (and_i _ _ f (and_i _ _ (and_i _ _ (and_l _ _ v) (and_i _ _ (filled_pass len p) (and_r _ _ v2)))
    (entries_pass cells p.calls 0 0 p.entries (len - 24 * suc (length p.entries)) (and_l _ _ v2))))

good_scan : (cells : ℕ) (j : List ℕ) → good_journal cells j ≡ true → scan cells j ≡ true
good_scan cells j g =
    let s = sound cells j g in
    subst (λ k. scan cells k ≡ true) s.exact (scan-bytes cells (length j) (contents_of j) s.long s.fine)

pub scan_is : (cells : ℕ) (j : List ℕ) → ((i : ℕ) → get_or j i 0 < 256) → scan cells j ≡ good_journal cells j
scan_is cells j v = both_ways _ _ (scan_good cells j v) (good_scan cells j)

-- ---- one turn of the loop over the entries
zeros-drop : (b : List ℕ) (n at m : ℕ) → zeros (drop n b) at m ≡ zeros b (n + at) m
unfolding zeros
zeros-drop b n at m = rw (drop-drop at n b)

-- b is the entry that the turn looks at
module _ (j : List ℕ) (cells calls count i last next cell call : ℕ) {b : List ℕ} (h : i < count) (eb : b ≡ take 24 (drop (24 * (i + 1)) j)) (ce : cell ≡ le 2 b 0) (ca : call ≡ le 2 b 2) where
  turn : scan_entries cells calls (count - i) last next (drop (24 * suc i) j)
      ≡ (in_order_of cells calls last next cell call and zeros (take 4 (drop 4 b)) 0 (length (take 4 (drop 4 b)))) and scan_entries cells calls (count - (i + 1)) call (cell + 1) (drop (24 * suc (i + 1)) j)
  unfolding scan_entries
  turn =
      let n : count - i ≡ suc (count - (i + 1)) = omega arith in
      let a : 24 * suc i ≡ 24 * (i + 1) = omega arith in
      let z : 24 * (i + 1) + 0 ≡ 24 * (i + 1) = omega arith in
      let m : 24 * (i + 1) + 24 ≡ 24 * suc (i + 1) = omega arith in
      let x : cell ≡ le 2 j (24 * (i + 1)) = ce ∙ rw (eb, le_part 2 24 (24 * (i + 1)) 0 j (omega arith), z) refl in
      let y : call ≡ le 2 j (24 * (i + 1) + 2) = ca ∙ rw eb (le_part 2 24 (24 * (i + 1)) 2 j (omega arith)) in
      let w : zeros (take 4 (drop 4 b)) 0 (length (take 4 (drop 4 b))) ≡ zeros j (24 * (i + 1) + 4) 4 = rw eb (zeros_of 4 24 (24 * (i + 1)) 4 j (omega arith)) in
      rw (n, a, le-drop 2 j (24 * (i + 1)) 0, le-drop 2 j (24 * (i + 1)) 2, zeros-drop j (24 * (i + 1)) 4 4, drop-drop 24 (24 * (i + 1)) j, z, m, ← x, ← y, ← w, add-one cell)

  pub turn_unordered : in_order_of cells calls last next cell call ≡ false → false ≡ scan_entries cells calls (count - i) last next (drop (24 * suc i) j)
  turn_unordered o = sym (turn ∙ rw (o, false_and, false_and))

  pub turn_unclear : in_order_of cells calls last next cell call ≡ true → zeros (take 4 (drop 4 b)) 0 (length (take 4 (drop 4 b))) ≡ false
      → false ≡ scan_entries cells calls (count - i) last next (drop (24 * suc i) j)
  turn_unclear o z = sym (turn ∙ rw (o, z, true_and, false_and))

  pub turn_goes : in_order_of cells calls last next cell call ≡ true → zeros (take 4 (drop 4 b)) 0 (length (take 4 (drop 4 b))) ≡ true
      → scan_entries cells calls (count - (i + 1)) call (cell + 1) (drop (24 * suc (i + 1)) j) ≡ scan_entries cells calls (count - i) last next (drop (24 * suc i) j)
  turn_goes o z = sym (turn ∙ rw (o, z, true_and, true_and))

pub turn_ends : (j : List ℕ) (cells calls count i last next : ℕ) → i ≤ count → count ≤ i → 24 * suc count ≤ length j
    → zeros j (24 * (count + 1)) (length j - 24 * (count + 1)) ≡ scan_entries cells calls (count - i) last next (drop (24 * suc i) j)
unfolding scan_entries
turn_ends j cells calls count i last next h k l =
    let n : count - i ≡ 0 = omega arith in
    let e : i ≡ count = omega arith in
    let a : 24 * (count + 1) ≡ 24 * suc count + 0 = omega arith in
    let m : length (drop (24 * suc count) j) ≡ length j - 24 * (count + 1) = simp length-drop (omega arith) in
    rw (n, e, m, zeros-drop j (24 * suc count) 0, a)

-- ---- one test after the other
pub head_room : (j : List ℕ) → scan_head j ≡ true → 24 * suc (le 2 j 4) ≤ length j
unfolding scan_head
head_room j t = leb-true _ _ (and_r _ _ (and_l _ _ t))

module _ (cells : ℕ) (j : List ℕ) (v : (i : ℕ) → get_or j i 0 < 256) where
  tests : good_journal cells j ≡ fits (length j) and scan_head j and scan_entries cells (le 2 j 2) (le 2 j 4) 0 0 (drop 24 j)
  unfolding scan
  tests = sym (scan_is cells j v)

  pub bad_length : fits (length j) ≡ false → false ≡ good_journal cells j
  bad_length e = sym (tests ∙ rw e (false_and _))

  pub bad_head : fits (length j) ≡ true → scan_head j ≡ false → false ≡ good_journal cells j
  bad_head e f = sym (tests ∙ rw (e, f, false_and) (true_and false))

  pub entries_decide : fits (length j) ≡ true → scan_head j ≡ true → scan_entries cells (le 2 j 2) (le 2 j 4) 0 0 (drop 24 j) ≡ good_journal cells j
  entries_decide e f = sym (tests ∙ rw (e, f) (true_and _ ∙ true_and _))
