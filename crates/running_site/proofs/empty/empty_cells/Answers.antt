use Rattle.std.proofs.Common.{◌≡◌, [], ◌∷◌, ◌++◌, map, sym, ap, ◌∙◌, subst}
use Rattle.std.specs.Prelude.{All, None}
use Rattle.running_site.proofs.CloseLemmas.{all-of}
use Rattle.std.proofs.lemmas.Iterator.Adapters.{YieldsList-from_vec}
use Rattle.std.proofs.lemmas.Iterator.Consumers.{YieldsList-end}
use Rattle.std.proofs.lemmas.List.{map-id}
use Rattle.exchange_rules.specs.Cells.{log_of_book}
use Rattle.topic_book.specs.Cells.{cells_in}
use Rattle.stream_site.specs.Logs.{AreEmpty}
use Rattle.logged_cells.specs.Cells.{about_in, log_of_cell}
use Rattle.running_site.proofs.EmptyLemmas.{cells-empty}
use Rattle.running_site.proofs.empty.empty_cells.Goals as goal

pub returns-clause-abouts : goal.returns-clause-abouts
returns-clause-abouts g c =
    let items = c.in_ok-shard-items.shard-items in
    let given = c.into_iter-shard-iterator.ensures.into_iter_gives in
    let t = YieldsList-end (YieldsList-from_vec items.items given.0 (given.1 ∙ items.ok.0))
    c.loop-shard.yielded c.loop-shard.shard-iterator c.loop-shard.yielded_by c.next.result
    c.next.new.self c.in-None.is c.next.ensures.steps in
    let all : c.loop-shard.yielded ≡ items.items = sym (map-id c.loop-shard.yielded) ∙ t.0 in
    let empty = subst (λ n. AreEmpty c.args.limit n items.items) (ap cells_in c.as_slice.ensures)
    c.in_ok-shard-items.ensures in
    let both = cells-empty c.args.names.now c.args.limit c.loop-shard.cells c.loop-shard.yielded
    items.items c.alone-2.result c.loop-shard.invariant all empty c.alone-2.ensures.about
    (c.alone-2.ensures.entries ∙ ap log_of_book c.empty.ensures) c.alone-2.ensures.log in
    ap (map about_in) c.in_ok-push-2.ensures.ok ∙ both.0

pub returns-clause-empty : goal.returns-clause-empty
returns-clause-empty g c =
    let items = c.in_ok-shard-items.shard-items in
    let given = c.into_iter-shard-iterator.ensures.into_iter_gives in
    let t = YieldsList-end (YieldsList-from_vec items.items given.0 (given.1 ∙ items.ok.0))
    c.loop-shard.yielded c.loop-shard.shard-iterator c.loop-shard.yielded_by c.next.result
    c.next.new.self c.in-None.is c.next.ensures.steps in
    let all : c.loop-shard.yielded ≡ items.items = sym (map-id c.loop-shard.yielded) ∙ t.0 in
    let empty = subst (λ n. AreEmpty c.args.limit n items.items) (ap cells_in c.as_slice.ensures)
    c.in_ok-shard-items.ensures in
    let both = cells-empty c.args.names.now c.args.limit c.loop-shard.cells c.loop-shard.yielded
    items.items c.alone-2.result c.loop-shard.invariant all empty c.alone-2.ensures.about
    (c.alone-2.ensures.entries ∙ ap log_of_book c.empty.ensures) c.alone-2.ensures.log in
    ap (map log_of_cell) c.in_ok-push-2.ensures.ok ∙ both.1

pub returns-clause-alone : goal.returns-clause-alone
returns-clause-alone g c =
    let items = c.in_ok-shard-items.shard-items in
    let given = c.into_iter-shard-iterator.ensures.into_iter_gives in
    let t = YieldsList-end (YieldsList-from_vec items.items given.0 (given.1 ∙ items.ok.0))
    c.loop-shard.yielded c.loop-shard.shard-iterator c.loop-shard.yielded_by c.next.result
    c.next.new.self c.in-None.is c.next.ensures.steps in
    let all : c.loop-shard.yielded ≡ items.items = sym (map-id c.loop-shard.yielded) ∙ t.0 in
    let empty = subst (λ n. AreEmpty c.args.limit n items.items) (ap cells_in c.as_slice.ensures)
    c.in_ok-shard-items.ensures in
    let both = cells-empty c.args.names.now c.args.limit c.loop-shard.cells c.loop-shard.yielded
    items.items c.alone-2.result c.loop-shard.invariant all empty c.alone-2.ensures.about
    (c.alone-2.ensures.entries ∙ ap log_of_book c.empty.ensures) c.alone-2.ensures.log in
    subst (All (λ cell. cell.log ≡ None)) (sym c.in_ok-push-2.ensures.ok)
    (all-of (λ cell. cell.log ≡ None) (c.loop-shard.cells ++ c.alone-2.result ∷ []) both.2)
