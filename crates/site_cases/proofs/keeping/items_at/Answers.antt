use Rattle.std.proofs.Common.{◌<◌, List, sym, ap, ◌∙◌, subst}
use Rattle.std.specs.Prelude.{IfOk, IfSome}
use Rattle.std.specs.List.{AllByRecursion}
use Rattle.tuple_values.specs.declared.names.NameShards.{NameShards}
use Rattle.topic_book.specs.Fitness.{shards_of}
use Rattle.exchange_rules.specs.Cells.{Log}
use Rattle.exchange_rules.specs.Following.{Writer}
use Rattle.site_laws.specs.Duties.{IsItem}
use Rattle.running_site.specs.Passes.{layout_in, writer_of, IsPassOf}
use Rattle.site_cases.proofs.PassLemmas.{taken-at}
use Rattle.site_cases.proofs.keeping.items_at.Goals as goal

pub current_items-items-requires : goal.current_items-items-requires
current_items-items-requires g c =
    subst (λ n. 0 < shards_of n c.args.src.now)
    (sym (ap (λ s. s.names) c.visit-visit.ensures.site)) c.requires.known

pub returns-clause-own : goal.returns-clause-own
returns-clause-own g c =
    taken-at c.args.site.now c.end.new.pass c.take_record.new.self c.take_record.ensures.pass
    (subst (λ s. IsPassOf s.table.board.shared.table_id s.table.board.shared.key
    (layout_in s.names s.limit) c.end.new.pass)
    (c.current_items-items.ensures.home ∙ c.visit-visit.ensures.site) c.end.ensures.own)

pub returns-clause-items : goal.returns-clause-items
returns-clause-items g c dest =
    let P : List NameShards → List Log → Type 0 = λ names seen. IfOk c.current_items-items.result
    (λ items. IfSome items (AllByRecursion (IsItem names seen dest c.args.src.now))) in
    let v = c.visit-visit.result in
    let last = c.take_record.new.self in
    let names = ap (λ s. s.names) c.visit-visit.ensures.site in
    let seen = ap (λ (w : Writer). w.seen) c.take_record.ensures.rest
    ∙ ap (λ (w : Writer). w.seen) c.end.ensures.writer in
    subst (λ n. P n (writer_of last).seen) names
    (subst (P v.site.now.names) (sym seen) (c.current_items-items.ensures.items dest))
