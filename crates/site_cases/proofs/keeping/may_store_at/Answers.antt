use Rattle.std.proofs.Common.{List, sym, ap, ◌∙◌, subst}
use Rattle.std.specs.Prelude.{IfOk, IsTrue}
use Rattle.tuple_values.specs.declared.names.NameShards.{NameShards}
use Rattle.once_core.specs.Allowed.{MayStore}
use Rattle.exchange_rules.specs.Cells.{Log}
use Rattle.exchange_rules.specs.Following.{Writer}
use Rattle.site_laws.specs.SiteCells.{histories_in}
use Rattle.running_site.specs.Passes.{layout_in, writer_of, IsPassOf}
use Rattle.site_cases.proofs.PassLemmas.{taken-at}
use Rattle.site_cases.proofs.keeping.may_store_at.Goals as goal

pub returns-clause-own : goal.returns-clause-own
returns-clause-own g c =
    taken-at c.args.site.now c.end.new.pass c.take_record.new.self c.take_record.ensures.pass
    (subst (λ s. IsPassOf s.table.board.shared.table_id s.table.board.shared.key
    (layout_in s.names s.limit) c.end.new.pass)
    (c.may_store_nowhere-may.ensures.home ∙ c.visit-visit.ensures.site) c.end.ensures.own)

pub returns-clause-allowed : goal.returns-clause-allowed
returns-clause-allowed g c =
    let P : List NameShards → List Log → Type 0 = λ names seen. IfOk c.may_store_nowhere-may.result
    (λ may. IsTrue may → MayStore names (histories_in names seen) c.args.key.now c.args.upto.now) in
    let v = c.visit-visit.result in
    let last = c.take_record.new.self in
    let names = ap (λ s. s.names) c.visit-visit.ensures.site in
    let seen = ap (λ (w : Writer). w.seen) c.take_record.ensures.rest
    ∙ ap (λ (w : Writer). w.seen) c.end.ensures.writer in
    subst (λ n. P n (writer_of last).seen) names
    (subst (P v.site.now.names) (sym seen) c.may_store_nowhere-may.ensures.allowed)
