use Rattle.std.proofs.Common.{◌≡◌, length, map, sym, ap, ◌∙◌, arith}
use Rattle.std.proofs.lemmas.Iterator.Adapters.{YieldsList-from_vec}
use Rattle.std.proofs.lemmas.Iterator.Consumers.{YieldsList-end}
use Rattle.std.proofs.lemmas.List.{map-id}
use Rattle.site_cells.proofs.CellLemmas.{histories_are, history_at}
use Rattle.site_cells.proofs.closed.into_histories.Goals as goal
use Rattle.site_cells.proofs.closed.into_histories.Goals.{in-Some, in-None}

pub returns : goal.returns
returns c =
    let given = c.into_iter-value-iterator.ensures.into_iter_gives in
    let t = YieldsList-end
    (YieldsList-from_vec c.pop.new.self.items given.0 (given.1 ∙ c.pop.new.self.ok.0))
    c.loop-value.yielded c.loop-value.value-iterator c.loop-value.yielded_by c.next.result
    c.next.new.self c.in-None-value.is c.next.ensures.steps in
    let all : c.loop-value.yielded ≡ c.pop.new.self.items = sym (map-id c.loop-value.yielded) ∙ t.0 in
    let shards = c.loop-value.invariant ∙ ap (map history_at) all in
    elim c.match-pop.branch [
      | in-Some w ↦ λ names long.
          histories_are names c.args.values c.pop.new.self.items w.in-Some.value c.loop-value.shards
          c.match-pop.book (sym c.into_vec-values.ensures ∙ w.in-Some.ensures.items) shards
          (w.book-is ∙ w.book_of-book.ensures) long
      | in-None w ↦ λ names long.
          let none = w.in-None.ensures.cases.0 in
          let ok = c.into_vec-values.result.ok.0 in
          let same = ap length c.into_vec-values.ensures in
          absurd (omega (arith, none, ok, same, long))
    ]
