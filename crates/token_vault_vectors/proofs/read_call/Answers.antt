-- A head with a fault, a record that is cut short, or a call.
use Rattle.std.proofs.Common.{◌≡◌, ◌≤◌, ◌∙◌, length, take, rules, arith, length-take, length-take-le}
use Rattle.token_vault_vectors.proofs.Parsed.{head_faulty, record_cut, call_read}
use Rattle.token_vault_vectors.proofs.read_call.Goals as goal

pub returns-in_err-head : goal.returns-in_err-head
returns-in_err-head g c =
    let r = c.read_full-n in
    let i : length (take r.result r.new.buf) ≤ 8 = omega (arith, length-take-le r.result r.new.buf r.ensures.within) in
    head_faulty _ c.in_err-head.field-0.0 _ i r.ensures.bytes c.in_err-head.ensures.fault c.from_residual.ensures

pub returns-in_err-read_whole : goal.returns-in_err-read_whole
returns-in_err-read_whole g c =
    let r = c.read_full-n in
    let i : length (take r.result r.new.buf) ≤ 8 = omega (arith, length-take-le r.result r.new.buf r.ensures.within) in
    let e = c.in_ok-head.ensures in
    let k : length c.read_whole.new.buffer ≡ c.in_ok-head.head.record_length = search (rules, length-take c.in_ok-head.head.record_length c.args.«record».now) in
    record_cut _ _ _ e.fault (k ∙ e.head.record_length) i r.ensures.bytes c.in_err-read_whole.field-0.0 _ c.in_err-read_whole.ensures c.from_residual-in_err-read_whole.ensures

pub returns : goal.returns
returns g c =
    let r = c.read_full-n in
    let i : length (take r.result r.new.buf) ≤ 8 = omega (arith, length-take-le r.result r.new.buf r.ensures.within) in
    let e = c.in_ok-head.ensures in
    let k : length c.read_whole.new.buffer ≡ c.in_ok-head.head.record_length = search (rules, length-take c.in_ok-head.head.record_length c.args.«record».now) in
    call_read _ _ _ e.fault (k ∙ e.head.record_length) i r.ensures.bytes _ c.in_ok-read_whole.ensures e.head
