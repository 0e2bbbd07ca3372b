use Rattle.std.proofs.Common.{sym, ap, ◌∙◌, refl, subst}
use Rattle.std.specs.Prelude.{IsSome, Result, []}
use Rattle.std.specs.Option.{option_map_or}
use Rattle.exchange_rules.specs.Calls.{Completed}
use Rattle.exchange_rules.specs.Courses.{ends}
use Rattle.exchange_rules.specs.Topics.{source_course}
use Rattle.exchange_rules.specs.declared.fault.SiteFault.{SiteFault}
use Rattle.exchange_rules.proofs.AppendedLemmas.{stopped_at}
use Rattle.expr_types.specs.ExprTree.{TopicParts, operator_in}
use Rattle.expr_types.specs.Parts.{topic_in}
use Rattle.expr_types.specs.Rules.{rule_of}
use Rattle.source_streams.specs.Batches.{topic_items}
use Rattle.stream_site.proofs.TestLemmas.{handed_on}
use Rattle.update_sink.specs.Takes.{cut_in}
use Rattle.update_sink.specs.declared.taking.Taken.{Taken}
use Rattle.update_sink.proofs.taking.take_source.Goals as goal

pub returns-in_err-cut-clause-course : goal.returns-in_err-cut-clause-course
returns-in_err-cut-clause-course g c =
    let w = g.T.Turns.writer c.args.site.now in
    let new = g.T.Turns.writer c.cut_source.new.site in
    let course = source_course (g.T.Turns.layout c.args.site.now).names
    c.args.topic.now.collection.now in
    handed_on (λ (r : Result Taken SiteFault). Completed w new course (cut_in r)) _ _
    c.from_residual.ensures.1 c.in_err-cut.ensures.course

pub returns-in_err-tops-clause-course : goal.returns-in_err-tops-clause-course
returns-in_err-tops-clause-course g c =
    let w = g.T.Turns.writer c.args.site.now in
    let new = g.T.Turns.writer c.cut_source.new.site in
    let course = source_course (g.T.Turns.layout c.args.site.now).names
    c.args.topic.now.collection.now in
    handed_on (λ (r : Result Taken SiteFault). Completed w new course (cut_in r)) _ _
    c.from_residual-in_err-tops.ensures.1
    (stopped_at 0 w new course (ends c.in_ok-cut.cut) c.in_ok-cut.ensures.course)

pub topic_batch-requires : goal.topic_batch-requires
topic_batch-requires g c =
    subst (λ t. IsSome (topic_in (rule_of (operator_in t)).source)) (sym c.requires) refl

pub returns-in_err-items-clause-course : goal.returns-in_err-items-clause-course
returns-in_err-items-clause-course g c =
    let w = g.T.Turns.writer c.args.site.now in
    let new = g.T.Turns.writer c.cut_source.new.site in
    let course = source_course (g.T.Turns.layout c.args.site.now).names
    c.args.topic.now.collection.now in
    handed_on (λ (r : Result Taken SiteFault). Completed w new course (cut_in r)) _ _
    c.from_residual-in_err-items.ensures.1
    (stopped_at 0 w new course (ends c.in_ok-cut.cut) c.in_ok-cut.ensures.course)

pub returns-clause-items : goal.returns-clause-items
returns-clause-items g c =
    c.in_ok-items.ensures
    ∙ ap (λ t. option_map_or (λ (p : TopicParts). topic_items p c.in_ok-cut.cut c.args.before)
    (topic_in (rule_of (operator_in t)).source) []) c.requires
