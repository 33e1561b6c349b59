-- The head of a record as a struct: each of its fields against the bytes, and what good form says of it.
use Rattle.std.specs.Prelude.{◌≡◌, refl, Bool, true, false, List, ℕ, ◌≤◌, ◌<◌, eqb}
use Rattle.std.proofs.Common.{ap, sym, ◌∙◌, arith, eqb-true}
use Rattle.std.proofs.lemmas.Bool.{eqb-false}
use Rattle.amount.specs.Biased.{biased, num}
use Rattle.record.specs.declared.Head.{Head}
use Rattle.record.specs.declared.operation.Operation.{Operation}
use Rattle.record.specs.declared.operation.Operation.TheVariants.{View}
use Rattle.record.specs.declared.operation.View.TheVariants.{Balance, EffectiveWithdrawLimit, GetTokenAccountBalance, IsTokenApproved, IsTokenCompliant}
use Rattle.record.specs.Numbers.{operation_number, operation_at, operation_at_number}
use Rattle.record.specs.Record.{operation_of, caller_of, token_of, other_of, flag_of, item_count_of, timestamp_of, sequence_of, signers_of, amount_of, time_to_live_of, fee_of, item_address}
use Rattle.record.specs.Form.{reads_caller, reads_token, reads_other, reads_flag, reads_items, is_view, member, form_number}
use Rattle.record.specs.Laws.{caller_below, token_below, other_below, flag_below, count_below, item_below}

-- an address is that of its byte where the byte is one, as it is of each field that the operation reads
pub record HeadOf (r : List ℕ) (h : Head) : Type 0 where
  pub operation : operation_number h.operation ≡ operation_of r
  pub caller : caller_of r < 64 → h.caller.number ≡ caller_of r
  pub token : token_of r < 64 → h.token.number ≡ token_of r
  pub other : other_of r < 64 → h.other.number ≡ other_of r
  pub flag : h.flag ≡ eqb (flag_of r) 1
  pub item_count : h.item_count ≡ item_count_of r
  pub timestamp : h.timestamp ≡ timestamp_of r
  pub sequence : h.sequence ≡ sequence_of r
  pub signers : h.signers ≡ signers_of r
  pub amount : biased h.amount ≡ amount_of r
  pub time_to_live : h.time_to_live ≡ time_to_live_of r
  pub fee : biased h.fee ≡ fee_of r

-- ---- the views
pub view_is_view : (v : _) → is_view (operation_number (View v)) ≡ true
unfolding is_view member
view_is_view Balance = refl
view_is_view EffectiveWithdrawLimit = refl
view_is_view GetTokenAccountBalance = refl
view_is_view IsTokenApproved = refl
view_is_view IsTokenCompliant = refl

pub other_is_no_view : (o : Operation) → ((v : _) → o ≡ View v → ⊥) → is_view (operation_number o) ≡ false
unfolding is_view member operation_at
other_is_no_view o h =
    let a = h Balance in
    let b = h EffectiveWithdrawLimit in
    let c = h GetTokenAccountBalance in
    let d = h IsTokenApproved in
    let e = h IsTokenCompliant in
    grind (arith, operation_at_number)

num_eqb : (n : ℕ) → n ≤ 1 → num (eqb n 1) ≡ n
num_eqb n h = go (eqb n 1) refl
  where
    go : (t : Bool) → eqb n 1 ≡ t → num t ≡ n
    go true e = sym (eqb-true n 1 e)
    go false e = let f = eqb-false n 1 e in omega arith

-- ---- o is the operation, and at a known one whether it reads a field computes
module _ (r : List ℕ) (h : Head) (o : Operation) (z : form_number r ≡ 0) (f : HeadOf r h) (e : h.operation ≡ o) where
  pub head_operation : operation_of r ≡ operation_number o
  head_operation = sym f.operation ∙ ap operation_number e

  pub head_caller : reads_caller (operation_number o) ≡ true → h.caller.number ≡ caller_of r
  head_caller t = f.caller (caller_below r (operation_number o) z head_operation t)

  pub head_token : reads_token (operation_number o) ≡ true → h.token.number ≡ token_of r
  head_token t = f.token (token_below r (operation_number o) z head_operation t)

  pub head_other : reads_other (operation_number o) ≡ true → h.other.number ≡ other_of r
  head_other t = f.other (other_below r (operation_number o) z head_operation t)

  pub head_flag : reads_flag (operation_number o) ≡ true → num h.flag ≡ flag_of r
  head_flag t = rw f.flag (num_eqb (flag_of r) (flag_below r (operation_number o) z head_operation t))

  pub head_count : reads_items (operation_number o) ≡ true → h.item_count ≤ 16
  head_count t = rw f.item_count (count_below r (operation_number o) z head_operation t)

  pub head_item : reads_items (operation_number o) ≡ true → (i : ℕ) → i < h.item_count → item_address r i < 64
  head_item t i k = item_below r (operation_number o) z head_operation t i (rw f.item_count at k)
