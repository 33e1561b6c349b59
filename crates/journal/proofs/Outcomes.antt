-- What begin and undo leave, as their stores make it, is what the definitions say.
use mathlib.Core.Path.{◌≡◌, refl, sym, ap, ◌∙◌}
use mathlib.Core.Bool.{true, false}
use mathlib.Core.List.{List, [], ◌++◌}
use Prim.Native.Nat.{ℕ, suc, ◌+◌, ◌*◌, ◌-◌, ◌≤◌}
use native.Mathlib.Omega.{arith}
use lib.ListN.{length, take, drop, set, length-take, length-drop, length-replicate, take-append-drop}
use Rattle.fields.specs.Bytes.{put}
use Rattle.journal.specs.Journal.{layout, bytes_of, contents_of, good_journal, restore, of_call, except_call}
use Rattle.journal.specs.Step.{vault, reply, begun, undone, last_undone}
use Rattle.journal.specs.Parts.{Earlier}
use Rattle.journal.proofs.Written.{good_short, sound, good_order, good_room, good_calls}
use Rattle.journal.proofs.States.{closed, fresh, closed_contents, begun-closed, undone_open, state≡}
use Rattle.journal.proofs.Layouts.{parts_long, nul, zeroed, counted}

opens : (len : ℕ) → set (bytes_of len closed) 0 1 ≡ bytes_of len fresh
unfolding bytes_of layout
opens len = refl

pub begin_done : (cells : ℕ) (x j : List ℕ) → good_journal cells j ≡ true → (contents_of j).opened ≡ false → reply 0 [] (vault x (set j 0 1)) ≡ begun (vault x j)
begin_done cells x j g o =
    let p = closed_contents cells j g o in
    let e : set j 0 1 ≡ bytes_of (length j) fresh =
    ap (λ k. set k 0 1) (sym (sound cells j g).exact ∙ ap (bytes_of (length j)) p) ∙ opens (length j) in
    ap (λ k. reply 0 [] (vault x k)) e ∙ sym (begun-closed (vault x j) o)

-- undo with no call
pub undo_none : (x j : List ℕ) → (contents_of j).opened ≡ true → (contents_of j).calls ≡ 0 → undone (vault x j) ≡ reply 37 [] (vault x j)
unfolding last_undone
undo_none x j o e = undone_open (vault x j) 0 o e

module _ (cells : ℕ) (j : List ℕ) (g : good_journal cells j ≡ true) where
  -- a good journal, as a layout of its entries
  pub laid_out : j ≡ layout (length j) (contents_of j).opened (contents_of j).calls (length (contents_of j).entries) (contents_of j).entries
  unfolding bytes_of
  laid_out = sym (sound cells j g).exact

  -- the entries behind the first r zeroed
  pub first_left : (r : ℕ) → r ≤ length (contents_of j).entries
      → take (24 * suc r) j ++ (nul (24 * (length (contents_of j).entries - r)) ++ drop (24 * suc (length (contents_of j).entries)) j)
      ≡ layout (length j) (contents_of j).opened (contents_of j).calls (length (contents_of j).entries) (take r (contents_of j).entries)
  first_left r h =
      let es = (contents_of j).entries in
      let o = (contents_of j).opened in
      let c = (contents_of j).calls in
      let n = length es in
      let a : length (take r es) ≡ r = simp length-take (omega arith) in
      let b : length (drop r es) ≡ n - r = length-drop r es in
      let m : 24 * suc r + length (nul (24 * (n - r))) ≡ 24 * suc n = rw (length-replicate {A = ℕ} (24 * (n - r)) 0) (omega arith) in
      let room = good_room cells j g in
      let whole : j ≡ layout (length j) o c n (take r es ++ drop r es) = laid_out ∙ ap (layout (length j) o c n) (sym (take-append-drop r es)) in
      let long = parts_long cells c 0 0 (take r es) (drop r es) (rw (take-append-drop r es) (good_order cells j g)) in
      let z = zeroed (length j) o c n (take r es) (drop r es) long.0 long.1 (omega arith) in
      rw (a, b, m, ← whole) at z

  pub undo_done : (x x' j₁ : List ℕ) (c count r : ℕ) → (contents_of j).opened ≡ true → c ≡ (contents_of j).calls → (c ≡ 0 → ⊥) → count ≡ length (contents_of j).entries
      → Earlier c (contents_of j).entries r → x' ≡ restore (drop r (contents_of j).entries) x
      → j₁ ≡ take (24 * suc r) j ++ (nul (24 * (count - r)) ++ drop (24 * suc count) j)
      → reply 0 [] (vault x' (put 2 (put 2 j₁ 2 (c - 1)) 4 r)) ≡ undone (vault x j)
  unfolding bytes_of last_undone
  undo_done x x' j₁ c count r o ec nz en s ex ej =
      let es = (contents_of j).entries in
      let k : c ≡ suc (c - 1) = omega arith in
      let few = s.few in
      let most = good_calls cells j g in
      let room = good_room cells j g in
      let short = good_short cells j g in
      let a : length (take r es) ≡ r = simp length-take (omega arith) in
      let first : j₁ ≡ layout (length j) (contents_of j).opened (contents_of j).calls (length es) (take r es) = ej ∙ rw en (first_left r few) in
      let bytes : put 2 (put 2 j₁ 2 (c - 1)) 4 r ≡ layout (length j) true (c - 1) (length (take r es)) (take r es) =
      ap (λ b. put 2 (put 2 b 2 (c - 1)) 4 r) first ∙ counted (length j) (contents_of j).calls (length es) (c - 1) r (contents_of j).opened (take r es) (omega arith) (omega arith)
      ∙ rw (o, a) in
      ap (reply 0 []) (state≡ (ex ∙ ap (λ l. restore l x) (sym s.last ∙ ap (λ n. of_call n es) k)) (bytes ∙ ap (λ l. layout (length j) true (c - 1) (length l) l) (sym s.earlier ∙ ap (λ n. except_call n es) k)))
      ∙ sym (undone_open (vault x j) (suc (c - 1)) o (sym ec ∙ k))
