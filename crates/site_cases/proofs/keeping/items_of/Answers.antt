use Rattle.std.proofs.Common.{◌<◌, sym, ap, subst}
use Rattle.std.specs.Prelude.{IfOk, IfSome}
use Rattle.std.specs.List.{AllByRecursion}
use Rattle.topic_book.specs.Fitness.{shards_of}
use Rattle.site_laws.specs.Duties.{IsItem}
use Rattle.running_site.specs.Passes.{writer_of}
use Rattle.site_cases.proofs.keeping.items_of.Goals as goal

pub items_at-requires-clause-known : goal.items_at-requires-clause-known
items_at-requires-clause-known g c =
    subst (λ n. 0 < shards_of n c.args.src.now)
    (sym (ap (λ s. s.names) c.in_ok-keep.ensures.site)) c.requires.known

pub returns-clause-items : goal.returns-clause-items
returns-clause-items g c dest =
    subst (λ n. IfOk c.items_at.result (λ items. IfSome items (AllByRecursion
    (IsItem n (writer_of c.items_at.new.pass).seen dest c.args.src.now))))
    (ap (λ s. s.names) c.in_ok-keep.ensures.site) (c.items_at.ensures.items dest)
