-- Demand 3 for the register.
use mathlib.Core.Path.{◌≡◌, refl}
use mathlib.Core.Bool.{Bool, true, false}
use mathlib.Core.List.{List}
use Prim.Native.Nat.{ℕ, ◌*◌}
use native.Mathlib.Omega.{arith}
use lib.Dec.{eqb}
use lib.ListN.{length, get_or, set, length-set}
use lib.Seq.{get_or-set_same, get_or-set_other}
use borrow.Author.Tests.{eqb-true}
use Rattle.history.specs.Register.{good_register, register_view, register_op, register_step, register_enter, RegisterMatch, RegisterHistory}
use Rattle.history.proofs.Theorem.{same_as_kept}

keeps : (x r e : List ℕ) → good_register x ≡ true → (register_op x r e).answer.number ≡ 0 → good_register (register_op x r e).image ≡ true
unfolding good_register register_op
keeps x r e g o = go (eqb (get_or r 0 0) 0) refl (eqb (get_or r 0 0) 24) refl
  where
    stored : eqb (length (set (set x 0 (get_or r 0 0)) 20 (get_or r 0 0))) 32 ≡ true
    stored = simp length-set g

    go : (a : Bool) → eqb (get_or r 0 0) 0 ≡ a → (b : Bool) → eqb (get_or r 0 0) 24 ≡ b → eqb (length (register_op x r e).image) 32 ≡ true
    go true ea b eb = rw ea g
    go false ea true eb = rw (ea, eb) g
    go false ea false eb = rw (ea, eb) stored

four : {A : Type 0} → ◌≡◌ {A = ℕ} 4 0 → A
four h = absurd (omega arith)

moved : (b : ℕ) (x r e : List ℕ) → good_register x ≡ true → (register_op x r e).answer.number ≡ 0 → register_view r ≡ false → RegisterMatch b x
    → RegisterMatch (register_enter b r (register_op x r e).answer) (register_op x r e).image
unfolding good_register register_op register_view register_enter RegisterMatch
moved b x r e g o v m = go (eqb (get_or r 0 0) 0) refl
  where
    long : length x ≡ 32
    long = eqb-true _ _ g

    go : (a : Bool) → eqb (get_or r 0 0) 0 ≡ a → get_or (register_op x r e).image 0 0 ≡ get_or r 0 0
    go true ea = four (rw ea at o)
    go false ea = rw (ea, v, get_or-set_other (set x 0 (get_or r 0 0)) 20 0 (get_or r 0 0) 0 (omega arith)) (get_or-set_same x 0 (get_or r 0 0) 0 (omega (arith, long)))

pub register_history : RegisterHistory
unfolding register_step RegisterMatch
register_history =
    record {
      all = λ s o cs.
          same_as_kept 2 good_register register_op register_view (record { as_long = long; keeps = keeps }) s o register_enter RegisterMatch (record { moved = moved }) (get_or s.image 0 0) refl cs;
    }
  where
    long : (x : List ℕ) → good_register x ≡ true → length x ≡ 16 * 2
    long x g = eqb-true (length x) 32 (unfold good_register in g)
