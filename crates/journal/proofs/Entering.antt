-- Entering an operation: its changed cells behind the entries that there are, and what its three ways out leave.
use mathlib.Core.Path.{◌≡◌, refl, sym, ap, ◌∙◌}
use mathlib.Core.Logic.{inl}
use mathlib.Core.Bool.{Bool, true, false}
use mathlib.Core.List.{List, ◌++◌, append_assoc}
use Prim.Native.Nat.{ℕ, suc, ◌+◌, ◌*◌, ◌-◌, ◌/◌, ◌≤◌, ◌<◌}
use native.Mathlib.Numerals.{add-one}
use native.Mathlib.Omega.{arith}
use lib.ListN.{length, take, drop, length-append, length-take, length-drop, length-replicate, take-append-drop}
use lib.Seq.{take_all, take-append-add, drop-drop}
use borrow.Author.Tests.{lt-leb, le-leb}
use Rattle.fields.specs.Logic.{and_i, and_false, false_and}
use Rattle.fields.specs.Bytes.{put}
use Rattle.fields.specs.Rules.{pick}
use Rattle.journal.specs.Journal.{entries_bytes, layout, bytes_of, contents_of, ordered, changed, entered, room, journal_after}
use Rattle.journal.specs.Parts.{GoodOpen, Enters, Counted, places, over, Found}
use Rattle.journal.proofs.Written.{good_long, good_short, good_order, good_room}
use Rattle.journal.proofs.Cells.{changed_order, append_order}
use Rattle.journal.proofs.Backwards.{order_front}
use Rattle.journal.proofs.Layouts.{parts_long, nul, written, zeroed, counted}
use Rattle.journal.proofs.Outcomes.{laid_out}
use Rattle.journal.proofs.Stretches.{rest_all, rest_put, found_few}

-- ---- the changed cells behind the entries that there are
module _ (cells : ℕ) (old new j : List ℕ) (a : GoodOpen cells old new j) where
  all_order : ordered cells (suc (contents_of j).calls) 0 0 (entered cells old new (contents_of j)).entries ≡ true
  unfolding entered
  all_order =
      let p = contents_of j in
      let l = a.long_old in
      append_order cells p.calls 0 0 p.entries (changed (suc p.calls) cells 0 old new) (good_order cells j a.good) (omega arith)
      (λ last next m. changed_order cells (suc p.calls) cells 0 last next old new (omega arith) (omega arith) (inl (omega arith)) (omega arith) (omega arith))

  -- as many of the changed cells as there are places for, behind the entries
  part_order : (n : ℕ) → ordered cells (suc (contents_of j).calls) 0 0 ((contents_of j).entries ++ take n (changed (suc (contents_of j).calls) cells 0 old new)) ≡ true
  unfolding entered
  part_order n =
      let p = contents_of j in
      let more = changed (suc p.calls) cells 0 old new in
      order_front cells (suc p.calls) 0 0 (p.entries ++ take n more) (drop n more) (rw (append_assoc, take-append-drop n more) all_order)

  -- the places behind the entries come back as a part of the journal
  pub found_counted : (r n call at : ℕ) (ys : List ℕ) → n ≡ length (contents_of j).entries → call ≡ suc (contents_of j).calls → at ≡ 24 * suc n
      → Found cells 0 call old new (take (length j - at) (drop at j)) r ys → Counted cells old new j (n + r) (take at j ++ (ys ++ drop (length j - at) (drop at j)))
  unfolding entered places over
  found_counted r n call at ys en ec ea found =
      let p = contents_of j in
      let es = p.entries in
      let more = changed (suc p.calls) cells 0 old new in
      let P = length j / 24 - 1 in
      let few = good_room cells j a.good in
      let T = take (P - length es) more in
      let s : length es + (P - length es) ≡ P = omega arith in
      let cut : take P (es ++ more) ≡ es ++ T = ap (λ i. take i (es ++ more)) (sym s) ∙ take-append-add es more (P - length es) in
      let e : at ≡ 24 * suc (length es) = omega arith in
      let m : length (drop (24 * suc (length es)) j) / 24 ≡ P - length es = rw (length-drop (24 * suc (length es)) j) (omega arith) in
      let long = parts_long cells (suc p.calls) 0 0 es T (part_order (P - length es)) in
      let t : length T ≤ P - length es = rw (length-take (P - length es) more) (omega arith) in
      let w = written (length j) p.opened p.calls (length es) es T long.0 long.1 (omega arith) in
      let ey : ys ≡ entries_bytes T ++ drop (24 * length T) (drop (24 * suc (length es)) j) = found.written ∙ rw (rest_all at j, e, m, ec) in
      record {
        counted = rw (length-append es more, ← ec, ← found.counted, en);
        few = let f = found_few found in omega (arith, f, en);
        written = rest_put at j (take at j) ys ∙ rw (cut, e, ey, drop-drop (24 * length T) (24 * suc (length es)) j) (rw (← laid_out cells j a.good, long.1) at w);
      }

-- ---- the ways out
module _ (cells : ℕ) (old new j : List ℕ) (a : GoodOpen cells old new j) where
  -- 1,000 calls would be passed
  pub enter_calls : {k : ℕ} (t : Bool) → k ≡ pick t 34 0 → (k ≡ 0 → ⊥) → (t ≡ true → 1000 ≤ (contents_of j).calls) → Enters cells old new j k j
  unfolding room
  enter_calls false s n h = absurd (n s)
  enter_calls true s n h =
      let l = h refl in
      let e : room cells old new j ≡ false = rw (lt-leb (suc (contents_of j).calls) 1000 (omega arith)) (false_and _) in
      record { fitted = rw e s; written = rw e }

  -- more entries than there are places: those that were written are zeroed
  pub enter_full : (r : ℕ) (after : List ℕ) → Counted cells old new j r after → length j < 24 * (r + 1)
      → Enters cells old new j 34
      (take (24 * suc (length (contents_of j).entries)) after
      ++ (nul (24 * (length j / 24 - 1 - length (contents_of j).entries)) ++ drop (24 * suc (length j / 24 - 1)) after))
  unfolding room places entered
  enter_full r after q h =
      let p = contents_of j in
      let P = length j / 24 - 1 in
      let n = length p.entries in
      let more = changed (suc p.calls) cells 0 old new in
      let few = good_room cells j a.good in
      let big = good_long cells j a.good in
      let all : r ≡ length (p.entries ++ more) = q.counted in
      let both : length (p.entries ++ more) ≡ n + length more = length-append p.entries more in
      let e : room cells old new j ≡ false =
      rw (lt-leb (24 * suc (length (p.entries ++ more))) (length j) (omega arith)) (and_false _) in
      let s : n + (P - n) ≡ P = omega arith in
      let cut : take P (p.entries ++ more) ≡ p.entries ++ take (P - n) more = ap (λ i. take i (p.entries ++ more)) (sym s) ∙ take-append-add p.entries more (P - n) in
      let m : length (take (P - n) more) ≡ P - n = length-take (P - n) more ∙ omega arith in
      let long = parts_long cells (suc p.calls) 0 0 p.entries (take (P - n) more) (part_order cells old new j a (P - n)) in
      let z = zeroed (length j) p.opened p.calls n p.entries (take (P - n) more) long.0 long.1 (omega arith) in
      let t : 24 * suc n + length (nul (24 * (P - n))) ≡ 24 * suc P = rw (length-replicate {A = ℕ} (24 * (P - n)) 0) (omega arith) in
      let held : after ≡ layout (length j) p.opened p.calls n (p.entries ++ take (P - n) more) = q.written ∙ ap (layout (length j) p.opened p.calls n) cut in
      record { fitted = rw e; written = rw e (rw (m, t, ← held) at z ∙ sym (laid_out cells j a.good)) }

  -- all is written, and the counts last
  pub enter_done : (r c : ℕ) (after : List ℕ) → Counted cells old new j r after → 24 * (r + 1) ≤ length j → c ≡ (contents_of j).calls → c < 1000
      → Enters cells old new j 0 (put 2 (put 2 after 2 (c + 1)) 4 r)
  unfolding room places journal_after bytes_of entered
  enter_done r c after q h ec k =
      let p = contents_of j in
      let P = length j / 24 - 1 in
      let more = changed (suc p.calls) cells 0 old new in
      let short = good_short cells j a.good in
      let all : r ≡ length (p.entries ++ more) = q.counted in
      let e : room cells old new j ≡ true =
      and_i _ _ (le-leb (suc p.calls) 1000 (omega arith)) (le-leb (24 * suc (length (p.entries ++ more))) (length j) (omega arith)) in
      let cut : take P (p.entries ++ more) ≡ p.entries ++ more = take_all P (p.entries ++ more) (omega arith) in
      let held : after ≡ layout (length j) p.opened p.calls (length p.entries) (p.entries ++ more) = q.written ∙ ap (layout (length j) p.opened p.calls (length p.entries)) cut in
      record {
        fitted = rw e;
        written = rw e
            (ap (λ b. put 2 (put 2 b 2 (c + 1)) 4 r) held
            ∙ counted (length j) p.calls (length p.entries) (c + 1) r p.opened (p.entries ++ more) (omega arith) (omega arith)
            ∙ rw (a.opened, add-one c, ec, all));
      }
