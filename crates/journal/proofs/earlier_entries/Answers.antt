-- `journal::earlier_entries`: the last entry of another call, or none.
use Rattle.std.proofs.Common.{◌≡◌, ◌+◌, ◌-◌, ℕ, List, ap, ◌∙◌, length, drop, length-take, length-drop, arith, rules}
use borrow.Author.Tests.{tests}
use Rattle.std.specs.Option.{MatchOption}
use Rattle.std.specs.Slice.Iter.{iter_rest}
use Rattle.fields.specs.Bytes.{le}
use Rattle.journal.proofs.Backwards.{last_yes, list_back, earlier_of}
use Rattle.journal.proofs.Written.{good_room}
use Rattle.journal.proofs.earlier_entries.Goals as goal

pub returns : goal.returns
returns c =
    let a = c.args in
    let g = c.requires.good_journal in
    let p = c.as_chunks in
    let n = a.counts.entries in
    let room = good_room g.cells a.journal.now g.good in
    let all : length (iter_rest c.iter.result) ≡ n = ap length c.iter.ensures.rest ∙ length-take (n + 1 - 1) (drop 1 p.result.0.now) ∙ omega (arith, length-drop 1 p.result.0.now) in
    let m : MatchOption c.rposition.result (c.map_or.result ≡ 0) (λ i. c.map_or.result ≡ i + 1) = search rules in
    earlier_of g.cells a.journal.now g.good a.counts.calls n c.requires.counts_of.0 c.requires.counts_of.1 p.ensures.front p.ensures.front_len c.rposition.result c.map_or.result
    (last_yes (λ (b : List ℕ). le 2 b 2 ≡ a.counts.calls → ⊥) (λ (b : List ℕ). le 2 b 2 ≡ a.counts.calls) n (list_back _ c.iter.ensures.rest) (λ x q k. search (rules, tests)) (λ x q k. search (rules, tests)) c.rposition.result _ all c.rposition.ensures.ran) m
