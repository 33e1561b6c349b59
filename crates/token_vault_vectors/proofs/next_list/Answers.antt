-- What was read of a head, and the list of one that was begun.
use Rattle.std.proofs.Common.{refl, [], arith, length-take-le}
use Rattle.token_vault_vectors.proofs.next_list.Goals as goal

pub returns-then-head_read-eq0 : goal.returns-then-head_read-eq0
returns-then-head_read-eq0 g c =
    let r = c.read_full-head_read in
    record {
      head = _;
      counted = length-take-le r.result r.new.buf r.ensures.within;
      within = omega arith;
      left = _;
      consumed = r.ensures.bytes;
      image = [];
      none = λ _. (refl, refl);
      listed = λ m. absurd (m c.if-head_read-eq0.true);
    }

pub returns : goal.returns
returns g c =
    let r = c.read_full-head_read in
    let e = length-take-le r.result r.new.buf r.ensures.within in
    record {
      head = _;
      counted = e;
      within = omega arith;
      left = _;
      consumed = r.ensures.bytes;
      image = _;
      none = λ z. absurd (c.if-head_read-eq0.false z);
      listed = λ _. rw e at c.with_journal-calls.ensures;
    }
