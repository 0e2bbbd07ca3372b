use Rattle.std.proofs.Common.{◌∙◌, ap, subst, sym}
use Rattle.std.specs.Prelude.{IfErr, IfOk}
use Rattle.exchange_rules.specs.Following.{Writer}
use Rattle.exchange_rules.specs.Rows.{Layout}
use Rattle.turn_table.specs.Calls.{known}
use Rattle.running_site.specs.Passes.{layout_in, writer_in, writer_of}
use Rattle.running_site.specs.Sites.{layout_at, IsPassAt}
use Rattle.running_site.proofs.CallLemmas.{at-site}
use Rattle.exchange_rules.specs.Following.{Begins, cleared}
use Rattle.expr_check.specs.Views.{tree_of}
use Rattle.root_runs.specs.Rooted.{IsRun}
use Rattle.root_runs.specs.Runs.{root_course}
use Rattle.running_site.specs.Passes.{IsPassIn}
use Rattle.pass_calls.proofs.SameLemmas.{rooted-same}
use Rattle.pass_calls.proofs.running.run_root.Goals as goal

pub visit-visit-requires : goal.visit-visit-requires
visit-visit-requires g c =
    let site = c.args.site.now in
    subst (IsPassIn site.table.board.shared.table_id site.table.board.shared.key (layout_at site))
    (sym c.set_now.ensures.pass) c.requires

pub returns-clause-own : goal.returns-clause-own
returns-clause-own g c =
    subst (λ s. IsPassAt s c.end.new.pass) (c.run_root-result.ensures.stays.home ∙
    c.visit-visit.ensures.site)
    c.end.ensures.own

pub returns-clause-number : goal.returns-clause-number
returns-clause-number g c =
    let v = c.visit-visit.result in
    let w = c.run_root-result.new.site in
    ap (λ (x : Writer). x.me) c.end.ensures.writer
    ∙ (rooted-same (layout_in v.site.now.names v.site.now.limit) (writer_in (known v.pass)
    v.marks.items v.own.items) (writer_in (known w.pass) w.marks.items w.own.items) (tree_of
    c.args.checked.now) c.run_root-result.result c.run_root-result.ensures.ok
    c.run_root-result.ensures.err ∙ ap (λ (x : Writer). x.me) (c.visit-visit.ensures.writer ∙
    c.set_now.ensures.writer))

pub returns-clause-ok : goal.returns-clause-ok
returns-clause-ok g c =
    let site = c.args.site.now in
    let v = c.visit-visit.result in
    let w = c.run_root-result.new.site in
    at-site (λ a b (l : Layout). IfOk c.run_root-result.result (IsRun l a b (tree_of
    c.args.checked.now)))
    (writer_of c.args.pass.now) (writer_in (known v.pass) v.marks.items v.own.items)
    (writer_in (known w.pass) w.marks.items w.own.items) (writer_of c.end.new.pass) (layout_at site)
    (layout_in v.site.now.names v.site.now.limit) (c.visit-visit.ensures.writer ∙
    c.set_now.ensures.writer)
    c.end.ensures.writer (ap layout_at c.visit-visit.ensures.site)
    c.run_root-result.ensures.ok

pub returns-clause-err : goal.returns-clause-err
returns-clause-err g c =
    let site = c.args.site.now in
    let v = c.visit-visit.result in
    let w = c.run_root-result.new.site in
    at-site (λ a b (l : Layout). IfErr c.run_root-result.result (λ _. Begins (cleared a) b
    (root_course l (tree_of c.args.checked.now))))
    (writer_of c.args.pass.now) (writer_in (known v.pass) v.marks.items v.own.items)
    (writer_in (known w.pass) w.marks.items w.own.items) (writer_of c.end.new.pass) (layout_at site)
    (layout_in v.site.now.names v.site.now.limit) (c.visit-visit.ensures.writer ∙
    c.set_now.ensures.writer)
    c.end.ensures.writer (ap layout_at c.visit-visit.ensures.site)
    c.run_root-result.ensures.err
