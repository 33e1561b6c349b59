-- An executed migration leaves the image good, and moves image and book alike.
use Rattle.std.specs.Prelude.{◌≡◌, refl, Bool, true, false, List, ℕ, ◌+◌, ◌-◌, ◌<◌, eqb, pos}
use Rattle.std.proofs.Common.{sym, ◌∙◌, eq-eqb, ne_eqb}
use Rattle.std.proofs.Math.Path.{ap, subst}
use Rattle.std.proofs.Math.Decide.{ℕ_discrete}
use native.Mathlib.Omega.{arith}
use Rattle.book.specs.Book.{Book, BookIs, change, net, migrates}
use Rattle.book.specs.Entries.{changed, settled}
use Rattle.book.specs.Integers.{integer_of, integer-net, integer-bias}
use Rattle.token.specs.Token.{vault_balance, transfer_rules, transfer_of, received, arrives}
use Rattle.token.specs.Laws.{transfer_free, transfer_to, transfer_from, debited_from}
use Rattle.storage.specs.Heads.{off, at_head, good_no_migration, flags-put}
use Rattle.storage.specs.Facts.{Good}
use Rattle.storage.specs.Writes.{elsewhere, default_range}
use Rattle.image.specs.Layout.{slot, bit, default_token, destination, toll, holding, initialised, has_migration}
use Rattle.amount.specs.Laws.{by_lt}
use Rattle.amount.specs.Biased.{bias}
use Rattle.fields.specs.Frame.{Only, only_then, over}
use Rattle.fields.specs.Rules.{AllFail, pick}
use Rattle.migration.specs.Migration.{migrate_number, migrate_holding, clear_migration}
use Rattle.migration.proofs.Laws.{held_none, held_some, held_range, migrate_moves}

-- ---- the migration's fields cleared
module _ (l : List ℕ) (g : Good l) (i : initialised l ≡ 1) where
  pub good_clear : Good (clear_migration l)
  unfolding clear_migration
  good_clear = good_no_migration l g i

  clear_only : Only 0 80 l (clear_migration l)
  unfolding clear_migration
  clear_only =
      only_then (at_head 2 l 0 _ (omega arith)) (only_then (at_head 1 _ 7 0 (omega arith)) (only_then (at_head 8 _ 56 0 (omega arith)) (at_head 8 _ 64 0 (omega arith))))

  clear_none : has_migration (clear_migration l) ≡ 0
  unfolding clear_migration
  clear_none =
      let t = off l g i 5 (omega arith) in
      let e = flags-put l _ g t.below in
      ap (λ (x : ℕ). bit x 5) (simp (elsewhere, e)) ∙ t.here

  clear_token : default_token (clear_migration l) ≡ default_token l
  unfolding clear_migration
  clear_token = simp elsewhere

  pub clear_booked : (b : Book) → BookIs b l → BookIs b (clear_migration l)
  clear_booked b m =
      settled b m (over 3680 16768 0 80 clear_only (omega arith)) clear_token (λ o. let z = clear_none in absurd (omega arith))

-- ---- what the vault holds after the whole of what it held is transferred
module _ (l : List ℕ) (t to n : ℕ) (g : Good l) (toh : to < 64) (e : n ≡ holding l (slot t) 1) (f : AllFail (transfer_rules l t 1 to n)) where
  -- to itself: all but the toll
  back : to ≡ 1 → holding (transfer_of l t 1 to n) (slot t) 1 ≡ bias + (n - toll l (slot t))
  unfolding received arrives
  back p =
      let (low, (high, (moving, (enough, (fits, _))))) = f in
      let r = transfer_to l t 1 to n g.long high (omega arith) toh fits in
      let d = debited_from l t 1 n g.long high (omega arith) (omega arith) in
      rw p (rw p at r ∙ ap (λ (k : ℕ). k + (n - toll l (slot t))) (d ∙ (ap (λ (k : ℕ). k + bias - n) (sym e) ∙ all_of n)))
    where
      all_of : (n : ℕ) → n + bias - n ≡ bias
      all_of n = omega arith

  away : (to ≡ 1 → ⊥) → holding (transfer_of l t 1 to n) (slot t) 1 ≡ bias
  away p =
      let (low, (high, _)) = f in
      let r = transfer_from l t 1 to n g.long high (omega arith) toh (λ q. p (sym q)) (omega arith) in
      omega arith

  moved_value : holding (transfer_of l t 1 to n) (slot t) 1 ≡ bias + pick (eqb to 1) (n - toll l (slot t)) 0
  moved_value = go (ℕ_discrete to 1)
    where
      go : Dec (to ≡ 1) → holding (transfer_of l t 1 to n) (slot t) 1 ≡ bias + pick (eqb to 1) (n - toll l (slot t)) 0
      go (yes p) = let h = back p in rw (eq-eqb to 1 p) (omega arith)
      go (no p) = let h = away p in rw (ne_eqb to 1 p) (omega arith)

pick-none : (b : Bool) (x : ℕ) → x ≡ 0 → 0 ≡ pick b x 0
pick-none true x e = sym e
pick-none false x e = refl

pick_pos : (b : Bool) (x : ℕ) → pos (pick b x 0) ≡ pick b (pos x) (pos 0)
pick_pos true x = refl
pick_pos false x = refl

-- ---- 22
module _ (l : List ℕ) (g : Good l) (i : initialised l ≡ 1) (o : has_migration l ≡ 1) (z : migrate_number l ≡ 0) where
  -- nothing where it is another's; what is left after the toll where it is the vault
  migrated-value : holding (migrate_holding l) (slot (default_token l)) 1 ≡ bias + pick (eqb (destination l) 1) (vault_balance l - toll l (slot (default_token l))) 0
  migrated-value =
      let k = (g.tokens (slot (default_token l)) (omega (arith, default_range l g i))).not_below in
      by_lt bias (vault_balance l) _
      (λ h.
      let (n, m) = held_some l h in
      rw m (moved_value l (default_token l) (destination l) (vault_balance l) g (g.fields i).destination refl (transfer_free l (default_token l) 1 (destination l) (vault_balance l) refl (sym n ∙ z))))
      (λ h.
      let y : vault_balance l ≡ bias + 0 = omega (arith, held_range l g i) in
      rw (held_none l h).1 (y ∙ ap (λ (k : ℕ). bias + k) (pick-none (eqb (destination l) 1) (vault_balance l - toll l (slot (default_token l))) (omega arith))))

  pub migrate_booked : (b : Book) → BookIs b l → BookIs (migrates b) (migrate_holding l)
  unfolding migrates net
  migrate_booked b m =
      let (low, high) = default_range l g i in
      let t = default_token l in
      subst (λ (a : ℕ). BookIs (change (λ h. pick (eqb b.destination 1) (net b a h) (pos 0)) a b) (migrate_holding l)) (sym m.default)
      (changed b m (migrate_moves l g i z) low high (λ h. pick (eqb b.destination 1) (net b t h) (pos 0))
      (rw (m.migrating o, m.tolled t low high, integer-net (vault_balance l) (toll l (slot t)))
      (ap integer_of migrated-value ∙ integer-bias _ ∙ pick_pos (eqb (destination l) 1) (vault_balance l - toll l (slot t)))))
