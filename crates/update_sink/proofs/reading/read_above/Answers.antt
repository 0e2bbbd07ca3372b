use Rattle.std.proofs.Common.{sym, ap, ◌∙◌, subst}
use Rattle.std.specs.Prelude.{Ok, Err, None}
use Rattle.exchange_rules.specs.Calls.{Answered}
use Rattle.exchange_rules.specs.Rows.{Layout}
use Rattle.exchange_rules.specs.Following.{Answers}
use Rattle.exchange_rules.specs.Topics.{begin_course, read_course}
use Rattle.exchange_rules.specs.declared.run.TopicRead.{TopicRead}
use Rattle.exchange_rules.proofs.ReachLemmas.{reaches_none}
use Rattle.expr_check.specs.Roots.{topic_parts}
use Rattle.expr_check.specs.Views.{tree_of}
use Rattle.stream_site.proofs.TestLemmas.{handed_on}
use Rattle.update_sink.specs.Topics.{asked_by, asked_of, read_of}
use Rattle.update_sink.proofs.ReadLemmas.{may-read, read-done, read-told, read-wanting, text-readable, unbegun, uncut, unread}
use Rattle.update_sink.proofs.reading.read_above.Goals as goal

pub returns-in_err-key-clause-course : goal.returns-in_err-key-clause-course
returns-in_err-key-clause-course g c =
    let w = g.T.Turns.writer c.args.site.now in
    let names = (g.T.Turns.layout c.args.site.now).names in
    let p = topic_parts c.args.topic.now in
    let course = read_course names (asked_of p None) (read_of p) in
    handed_on (Answered w w course) _ _ c.from_residual.ensures.1
    (read-wanting w w w w names (asked_of p None) (read_of p) course (reaches_none w course))

pub begin_topic-requires-clause-readable : goal.begin_topic-requires-clause-readable
begin_topic-requires-clause-readable g c =
    text-readable (tree_of c.args.checked.now) (topic_parts c.args.topic.now) c.requires.topic
    c.expr-expr.ensures.planned

pub returns-in_err-before-clause-course : goal.returns-in_err-before-clause-course
returns-in_err-before-clause-course g c =
    let w = g.T.Turns.writer c.args.site.now in
    let new = g.T.Turns.writer c.begin_topic.new.site in
    let names = (g.T.Turns.layout c.args.site.now).names in
    let p = topic_parts c.args.topic.now in
    let key = c.in_ok-key.key in
    handed_on (Answered w new (read_course names (asked_of p None) (read_of p))) _ _
    c.from_residual-in_err-before.ensures.1
    (unbegun w new names p key c.in_ok-key.ensures _ c.in_err-before.ensures.course)

pub returns-in_err-taken-clause-course : goal.returns-in_err-taken-clause-course
returns-in_err-taken-clause-course g c =
    let w = g.T.Turns.writer c.args.site.now in
    let w1 = g.T.Turns.writer c.begin_topic.new.site in
    let new = g.T.Turns.writer c.take_source.new.site in
    let names = (g.T.Turns.layout c.args.site.now).names in
    let p = topic_parts c.args.topic.now in
    let key = c.in_ok-key.key in
    handed_on (Answered w new (read_course names (asked_of p None) (read_of p))) _ _
    c.from_residual-in_err-taken.ensures.1
    (uncut w w1 names p key c.in_ok-key.ensures new
    (g.T.Turns.layout c.begin_topic.new.site).names
    (ap (λ (x : Layout). x.names) c.in_ok-before.ensures.layout) c.in_ok-before.before
    c.in_ok-before.ensures.course _ c.in_err-taken.ensures.course)

pub returns-in_err-tuples-clause-course : goal.returns-in_err-tuples-clause-course
returns-in_err-tuples-clause-course g c =
    let w = g.T.Turns.writer c.args.site.now in
    let w1 = g.T.Turns.writer c.begin_topic.new.site in
    let new = g.T.Turns.writer c.take_source.new.site in
    let names = (g.T.Turns.layout c.args.site.now).names in
    let p = topic_parts c.args.topic.now in
    let key = c.in_ok-key.key in
    handed_on (Answered w new (read_course names (asked_of p None) (read_of p))) _ _
    c.from_residual-in_err-tuples.ensures.1
    (unread w w1 names p key c.in_ok-key.ensures new
    (g.T.Turns.layout c.begin_topic.new.site).names
    (ap (λ (x : Layout). x.names) c.in_ok-before.ensures.layout) c.in_ok-before.before
    c.in_ok-before.ensures.course c.in_ok-taken.taken.cut c.in_ok-taken.ensures.course)

pub returns-in_err-upto-clause-course : goal.returns-in_err-upto-clause-course
returns-in_err-upto-clause-course g c =
    let w = g.T.Turns.writer c.args.site.now in
    let w1 = g.T.Turns.writer c.begin_topic.new.site in
    let new = g.T.Turns.writer c.take_source.new.site in
    let names = (g.T.Turns.layout c.args.site.now).names in
    let p = topic_parts c.args.topic.now in
    let key = c.in_ok-key.key in
    handed_on (Answered w new (read_course names (asked_of p None) (read_of p))) _ _
    c.from_residual-in_err-upto.ensures.1
    (unread w w1 names p key c.in_ok-key.ensures new
    (g.T.Turns.layout c.begin_topic.new.site).names
    (ap (λ (x : Layout). x.names) c.in_ok-before.ensures.layout) c.in_ok-before.before
    c.in_ok-before.ensures.course c.in_ok-taken.taken.cut c.in_ok-taken.ensures.course)

pub store_topic_over-requires : goal.store_topic_over-requires
store_topic_over-requires g c =
    let w = g.T.Turns.writer c.args.site.now in
    let w1 = g.T.Turns.writer c.begin_topic.new.site in
    let w2 = g.T.Turns.writer c.take_source.new.site in
    let names = (g.T.Turns.layout c.args.site.now).names in
    let p = topic_parts c.args.topic.now in
    let key = c.in_ok-key.key in
    may-read w w1 names p key c.in_ok-key.ensures w2
    (g.T.Turns.layout c.begin_topic.new.site).names
    (ap (λ (x : Layout). x.names) c.in_ok-before.ensures.layout) c.in_ok-before.before
    c.in_ok-before.ensures.course c.in_ok-taken.taken.cut c.in_ok-taken.ensures.course w2
    (g.T.Turns.layout c.take_source.new.site).names
    (ap (λ (x : Layout). x.names) c.in_ok-taken.ensures.layout) c.in_ok-upto.upto
    (c.in_ok-upto.ensures ∙ c.in_ok-taken.ensures.tops)

pub returns-in_err-store_topic_over-clause-course
    : goal.returns-in_err-store_topic_over-clause-course
returns-in_err-store_topic_over-clause-course g c =
    let w = g.T.Turns.writer c.args.site.now in
    let w1 = g.T.Turns.writer c.begin_topic.new.site in
    let w2 = g.T.Turns.writer c.take_source.new.site in
    let new = g.T.Turns.writer c.store_topic_over.new.site in
    let names = (g.T.Turns.layout c.args.site.now).names in
    let p = topic_parts c.args.topic.now in
    let key = c.in_ok-key.key in
    handed_on (Answered w new (read_course names (asked_of p None) (read_of p))) _ _
    c.from_residual-in_err-store_topic_over.ensures.1
    (read-done w w1 names p key c.in_ok-key.ensures w2
    (g.T.Turns.layout c.begin_topic.new.site).names
    (ap (λ (x : Layout). x.names) c.in_ok-before.ensures.layout) c.in_ok-before.before
    c.in_ok-before.ensures.course c.in_ok-taken.taken.cut c.in_ok-taken.ensures.course new
    (g.T.Turns.layout c.take_source.new.site).names
    (ap (λ (x : Layout). x.names) c.in_ok-taken.ensures.layout) c.in_ok-upto.upto
    (c.in_ok-upto.ensures ∙ c.in_ok-taken.ensures.tops) (Err _)
    c.in_err-store_topic_over.ensures.course)

pub returns-clause-course : goal.returns-clause-course
returns-clause-course g c =
    let w = g.T.Turns.writer c.args.site.now in
    let w1 = g.T.Turns.writer c.begin_topic.new.site in
    let w2 = g.T.Turns.writer c.take_source.new.site in
    let new = g.T.Turns.writer c.store_topic_over.new.site in
    let names = (g.T.Turns.layout c.args.site.now).names in
    let p = topic_parts c.args.topic.now in
    let key = c.in_ok-key.key in
    let cut = c.in_ok-taken.taken.cut in
    let before = c.in_ok-taken.taken.before in
    let begun = subst (λ b. Answers w w1 (begin_course names (asked_by key p None)) (Ok b))
    (sym c.in_ok-taken.ensures.before) c.in_ok-before.ensures.course in
    subst (λ (x : TopicRead). Answered w new (read_course names (asked_of p None) (read_of p))
    (Ok x))
    (read-told p before c.in_ok-taken.taken.tops cut c.in_ok-tuples.tuples
    c.in_ok-taken.taken.items c.in_ok-taken.ensures.tops c.in_ok-tuples.ensures
    c.in_ok-taken.ensures.items)
    (read-done w w1 names p key c.in_ok-key.ensures w2
    (g.T.Turns.layout c.begin_topic.new.site).names
    (ap (λ (x : Layout). x.names) c.in_ok-before.ensures.layout) before begun cut
    c.in_ok-taken.ensures.course new
    (g.T.Turns.layout c.take_source.new.site).names
    (ap (λ (x : Layout). x.names) c.in_ok-taken.ensures.layout) c.in_ok-upto.upto
    (c.in_ok-upto.ensures ∙ c.in_ok-taken.ensures.tops) (Ok tt)
    c.in_ok-store_topic_over.ensures.course)
