use Rattle.std.proofs.Common.{◌≡◌, length, map, ap, sym, subst, ◌∙◌}
use Rattle.std.proofs.lemmas.List.{length-map}
use Rattle.std.specs.List.{AllZip}
use Rattle.std.specs.Prelude.{All, Contains}
use Rattle.exchange_rules.specs.Cells.{author_of}
use Rattle.stream_site.specs.Logs.{logs_in}
use Rattle.once_core.specs.Law.{IsLaw}
use Rattle.topic_book.specs.Cells.{cells_in}
use Rattle.running_site.specs.Passes.{new_writer, number_of, numbers_to, writer_of}
use Rattle.load_rules.specs.Topic.{load_names}
use Rattle.load_mix.specs.Workers.{IsWorked}
use Rattle.load_mix.proofs.FinishLemmas.{all-numbers, each-there, load-made}
use Rattle.load_mix.proofs.WorkerLemmas.{ended-at, made-at, worked-at}
use Rattle.load_mix.proofs.load.run_load.Goals as goal

pub with_roles-requires : goal.with_roles-requires
with_roles-requires g c =
    sym (length-map c.in_ok-site.passes writer_of) ∙ ap length c.in_ok-site.ensures.new

pub carry_out_of-requires-clause-own : goal.carry_out_of-requires-clause-own
carry_out_of-requires-clause-own g c κs within =
    made-at c.in_ok-site.site c.in_ok-workers.workers.items c.in_ok-site.passes
    c.in_ok-workers.ensures.inside c.in_ok-site.ensures.own

pub end_all-requires-clause-own : goal.end_all-requires-clause-own
end_all-requires-clause-own g c κs within =
    worked-at c.in_ok-site.site c.in_ok-plan.plan.n c.in_ok-workers.workers.items
    c.carry_out_of.new.workers.items c.carry_out_of.ensures

pub close-requires-clause-own : goal.close-requires-clause-own
close-requires-clause-own g c =
    ended-at c.in_ok-site.site c.carry_out_of.new.workers.items c.in_ok-passes.passes
    c.in_ok-passes.ensures

pub close-requires-clause-all : goal.close-requires-clause-all
close-requires-clause-all g c =
    let site = c.in_ok-site.site in
    each-there (map number_of c.in_ok-passes.passes) (numbers_to site.passes)
    (all-numbers c.in_ok-plan.plan.n site c.in_ok-names.names 8 c.in_ok-workers.workers.items
    c.carry_out_of.new.workers.items c.in_ok-passes.passes
    (c.in_ok-workers.ensures.writers ∙ c.in_ok-site.ensures.new) c.carry_out_of.ensures
    c.in_ok-passes.ensures
    ∙ ap numbers_to (sym c.in_ok-site.ensures.site.2))

pub returns : goal.returns
returns g c =
    let site = c.in_ok-site.site in
    let old = c.in_ok-workers.workers.items in
    let new = c.carry_out_of.new.workers.items in
    let hs = c.in_ok-close.field-0 in
    let made = c.in_ok-site.ensures.site in
    let end = c.in_ok-close.ensures in
    let same : site.names ≡ load_names = made.0 ∙ c.in_ok-names.ensures in
    load-made c.args.n site old new c.in_ok-passes.passes hs c.finished_loads_are_made.ensures
    c.ranges.n.fits c.in_ok-workers.ensures.roles
    (c.in_ok-workers.ensures.writers
    ∙ (c.in_ok-site.ensures.new
    ∙ ap (λ names. map (new_writer names) (numbers_to 8)) c.in_ok-names.ensures))
    (subst (λ n. AllZip (IsWorked n site) old new) c.in_ok-plan.ensures.count
    c.carry_out_of.ensures)
    c.in_ok-passes.ensures (subst (λ names. IsLaw names hs) same end.law)
    (end.counted ∙ ap cells_in same) end.seen
    (subst (λ count. All (All (λ entry. Contains (numbers_to count) (author_of entry)))
    (logs_in hs.shards hs.book)) made.2 end.signed)
