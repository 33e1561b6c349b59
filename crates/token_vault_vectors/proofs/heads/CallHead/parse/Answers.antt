-- The faults of a call's head from the test of what is needless on.
use Rattle.std.proofs.Common.{◌≡◌, arith}
use Rattle.fields.specs.Bytes.{le}
use Rattle.token_vault_vectors.proofs.Parsed.{needless, record_long, events_long, well_formed}
use Rattle.token_vault_vectors.proofs.heads.CallHead.parse.Goals as goal

pub returns-then-has_needless-clause-fault : goal.returns-then-has_needless-clause-fault
returns-then-has_needless-clause-fault c =
    let z : le 2 c.in-Ok.bytes.now 6 ≡ 0 = omega arith in
    needless _ _ c.in-Ok.ensures.1 _ c.in_ok-kind.ensures z _ _ c.get16-record_length.ensures c.get16-events_length.ensures _ c.has_needless.ensures c.if-has_needless.true

pub returns-then-record_length-gt512-clause-fault : goal.returns-then-record_length-gt512-clause-fault
returns-then-record_length-gt512-clause-fault c =
    let z : le 2 c.in-Ok.bytes.now 6 ≡ 0 = omega arith in
    record_long _ _ c.in-Ok.ensures.1 _ c.in_ok-kind.ensures z _ _ c.get16-record_length.ensures c.get16-events_length.ensures _ c.has_needless.ensures c.if-has_needless.false (omega arith)

pub returns-then-events_length-gt1024-clause-fault : goal.returns-then-events_length-gt1024-clause-fault
returns-then-events_length-gt1024-clause-fault c =
    let z : le 2 c.in-Ok.bytes.now 6 ≡ 0 = omega arith in
    events_long _ _ c.in-Ok.ensures.1 _ c.in_ok-kind.ensures z _ _ c.get16-record_length.ensures c.get16-events_length.ensures _ c.has_needless.ensures c.if-has_needless.false (omega arith) (omega arith)

pub returns-clause-fault : goal.returns-clause-fault
returns-clause-fault c =
    let z : le 2 c.in-Ok.bytes.now 6 ≡ 0 = omega arith in
    well_formed _ _ c.in-Ok.ensures.1 _ c.in_ok-kind.ensures z _ _ c.get16-record_length.ensures c.get16-events_length.ensures _ c.has_needless.ensures c.if-has_needless.false (omega arith) (omega arith)
