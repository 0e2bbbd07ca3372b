use Rattle.std.proofs.Common.{◌∙◌, ap, subst}
use Rattle.std.specs.Prelude.{IfErr, IfOk}
use Rattle.exchange_rules.specs.Following.{Begins, Writer, cleared}
use Rattle.exchange_rules.specs.Rows.{Layout}
use Rattle.expr_check.specs.Parts.{input_of}
use Rattle.expr_check.specs.Views.{tree_of}
use Rattle.daemon_steps.specs.Runs.{IsFollowed}
use Rattle.daemon_steps.specs.Steps.{once_course}
use Rattle.turn_table.specs.Calls.{known}
use Rattle.running_site.specs.Passes.{layout_in, writer_in, writer_of}
use Rattle.running_site.specs.Sites.{layout_at, IsPassAt}
use Rattle.running_site.proofs.CallLemmas.{at-site}
use Rattle.pass_calls.proofs.SameLemmas.{once-same}
use Rattle.pass_calls.proofs.running.run_once.Goals as goal

pub returns-clause-own : goal.returns-clause-own
returns-clause-own g c =
    subst (λ s. IsPassAt s c.end.new.pass) (c.run_once-result.ensures.stays.home ∙
    c.visit-visit.ensures.site)
    c.end.ensures.own

pub returns-clause-number : goal.returns-clause-number
returns-clause-number g c =
    let v = c.visit-visit.result in
    let w = c.run_once-result.new.site in
    ap (λ (x : Writer). x.me) c.end.ensures.writer
    ∙ (once-same (writer_in (known v.pass) v.marks.items v.own.items)
    (writer_in (known w.pass) w.marks.items w.own.items) _ c.run_once-result.result
    c.run_once-result.ensures.ok c.run_once-result.ensures.err
    ∙ ap (λ (x : Writer). x.me) c.visit-visit.ensures.writer)

pub returns-clause-ok : goal.returns-clause-ok
returns-clause-ok g c =
    let site = c.args.site.now in
    let v = c.visit-visit.result in
    let w = c.run_once-result.new.site in
    at-site (λ a b (l : Layout). IfOk c.run_once-result.result (IsFollowed a b (once_course l
    (input_of (tree_of c.args.checked.now)))))
    (writer_of c.args.pass.now) (writer_in (known v.pass) v.marks.items v.own.items)
    (writer_in (known w.pass) w.marks.items w.own.items) (writer_of c.end.new.pass) (layout_at site)
    (layout_in v.site.now.names v.site.now.limit) c.visit-visit.ensures.writer
    c.end.ensures.writer (ap layout_at c.visit-visit.ensures.site)
    c.run_once-result.ensures.ok

pub returns-clause-err : goal.returns-clause-err
returns-clause-err g c =
    let site = c.args.site.now in
    let v = c.visit-visit.result in
    let w = c.run_once-result.new.site in
    at-site (λ a b (l : Layout). IfErr c.run_once-result.result (λ _. Begins (cleared a) b
    (once_course l (input_of (tree_of c.args.checked.now)))))
    (writer_of c.args.pass.now) (writer_in (known v.pass) v.marks.items v.own.items)
    (writer_in (known w.pass) w.marks.items w.own.items) (writer_of c.end.new.pass) (layout_at site)
    (layout_in v.site.now.names v.site.now.limit) c.visit-visit.ensures.writer
    c.end.ensures.writer (ap layout_at c.visit-visit.ensures.site)
    c.run_once-result.ensures.err
