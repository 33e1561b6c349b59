-- What is written are the digits of the definition.
use Rattle.std.proofs.Common.{◌≡◌, Bool, true, false, sym, ◌∙◌, arith, Result, Ok, Err}
use Rattle.std.specs.Result.{is_ok, OnOk}
use Rattle.answer_line.proofs.Digits.{encoded}
use Rattle.answer_line.proofs.write_digits.Goals as goal

on_ok_holds : {T E P : Type 0} (r : Result T E) → is_ok r ≡ true → OnOk r P → P
on_ok_holds (Ok x) e p = p
on_ok_holds (Err y) e p = absurd (let w : ◌≡◌ {A = Bool} false true = e in cc)

pub returns : goal.returns
returns c = λ e.
    let r = c.encode_to_slice in
    on_ok_holds r.result (sym c.is_ok.ensures.value ∙ e) r.ensures.written ∙ encoded c.args.bytes.now (λ i. omega (arith, c.type_inv.bytes i))
