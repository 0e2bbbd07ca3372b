use Rattle.std.proofs.Common.{length, sym, ap, ◌∙◌, subst}
use Rattle.std.specs.Prelude.{None}
use Rattle.exchange_rules.specs.Calls.{Completed, HasAppended}
use Rattle.exchange_rules.specs.Courses.{ends}
use Rattle.exchange_rules.specs.Topics.{init_course, source_course, tops_of}
use Rattle.exchange_rules.proofs.AppendedLemmas.{appended_then, stopped_at, stopped_then}
use Rattle.stream_site.proofs.TestLemmas.{handed_on}
use Rattle.update_sink.proofs.BeginLemmas.{cut-of, tops-counted}
use Rattle.update_sink.proofs.taking.begin_now.Goals as goal

pub returns-in_err-cut-clause-course : goal.returns-in_err-cut-clause-course
returns-in_err-cut-clause-course g c =
    let w = g.T.Turns.writer c.args.site.now in
    let new = g.T.Turns.writer c.cut_source.new.site in
    let names = (g.T.Turns.layout c.args.site.now).names in
    let src = c.args.src.now in
    handed_on (Completed w new (init_course names src None None)) _ _ c.from_residual.ensures.1
    (stopped_then w new (source_course names src) (λ cut. ends (tops_of cut)) _
    c.in_err-cut.ensures.course)

pub returns-in_err-init-clause-course : goal.returns-in_err-init-clause-course
returns-in_err-init-clause-course g c =
    let w = g.T.Turns.writer c.args.site.now in
    let new = g.T.Turns.writer c.cut_source.new.site in
    let names = (g.T.Turns.layout c.args.site.now).names in
    let src = c.args.src.now in
    let done = appended_then w new (source_course names src) (ends c.in_ok-cut.cut)
    (λ cut. ends (tops_of cut)) 0 c.in_ok-cut.ensures.course in
    handed_on (Completed w new (init_course names src None None)) _ _
    c.from_residual-in_err-init.ensures.1
    (stopped_at 0 w new (init_course names src None None) (ends (tops_of c.in_ok-cut.cut)) done)

pub returns-clause-course : goal.returns-clause-course
returns-clause-course g c =
    let w = g.T.Turns.writer c.args.site.now in
    let new = g.T.Turns.writer c.cut_source.new.site in
    let names = (g.T.Turns.layout c.args.site.now).names in
    let src = c.args.src.now in
    let done = appended_then w new (source_course names src) (ends c.in_ok-cut.cut)
    (λ cut. ends (tops_of cut)) 0 c.in_ok-cut.ensures.course in
    subst (λ l. HasAppended w new (init_course names src None None) (ends l) 0)
    (sym c.in_ok-init.ensures) done

pub returns-clause-counted : goal.returns-clause-counted
returns-clause-counted g c =
    let w = g.T.Turns.writer c.args.site.now in
    let new = g.T.Turns.writer c.cut_source.new.site in
    let names = (g.T.Turns.layout c.args.site.now).names in
    let src = c.args.src.now in
    ap length c.in_ok-init.ensures
    ∙ tops-counted names new.seen src c.in_ok-cut.cut
    (cut-of w new names src c.in_ok-cut.cut c.in_ok-cut.ensures.course.reached)
