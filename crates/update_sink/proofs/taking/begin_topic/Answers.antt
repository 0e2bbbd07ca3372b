use Rattle.std.proofs.Common.{◌≡◌, length, sym, ap, ◌∙◌, subst}
use Rattle.std.specs.Prelude.{option_map}
use Rattle.query_syntax.specs.Meaning.{IsReadable}
use Rattle.topic_book.specs.Fitness.{shards_of, IsOnCollections}
use Rattle.topic_book.specs.declared.topic.Binding.{Binding}
use Rattle.exchange_rules.specs.Bindings.{bind_course}
use Rattle.exchange_rules.specs.Calls.{Answered, HasAppended}
use Rattle.exchange_rules.specs.Courses.{ends}
use Rattle.exchange_rules.specs.Rows.{Layout}
use Rattle.exchange_rules.specs.Topics.{begin_course, binding_for, init_course}
use Rattle.stream_site.proofs.TestLemmas.{handed_on}
use Rattle.expr_check.specs.Roots.{topic_parts}
use Rattle.update_sink.specs.Topics.{asked_by}
use Rattle.update_sink.proofs.QuietLemmas.{begin-bound, begin-uninit, begin-unstated, begin-wanting}
use Rattle.update_sink.proofs.taking.begin_topic.Goals as goal

pub returns-in_err-state-clause-course : goal.returns-in_err-state-clause-course
returns-in_err-state-clause-course g c =
    let w = g.T.Turns.writer c.args.site.now in
    let new = g.T.Turns.writer c.topic_state_over.new.site in
    let names = (g.T.Turns.layout c.args.site.now).names in
    let t = asked_by c.args.key.now (topic_parts c.args.topic.now)
    (option_map (λ d. d.now) c.args.dest) in
    handed_on (Answered w new (begin_course names t)) _ _ c.from_residual.ensures.1
    (begin-unstated w w w new names t _ c.in_err-state.ensures.course)

pub returns-in_err-init-clause-course : goal.returns-in_err-init-clause-course
returns-in_err-init-clause-course g c =
    let l = g.T.Turns.layout c.args.site.now in
    let w = g.T.Turns.writer c.args.site.now in
    let w1 = g.T.Turns.writer c.topic_state_over.new.site in
    let new = g.T.Turns.writer c.init_of.new.site in
    let t = asked_by c.args.key.now (topic_parts c.args.topic.now)
    (option_map (λ d. d.now) c.args.dest) in
    handed_on (Answered w new (begin_course l.names t)) _ _
    c.from_residual-in_err-init.ensures.1
    (begin-uninit w w1 new new l.names t c.in_ok-state.state c.in_ok-state.ensures.course
    (g.T.Turns.layout c.topic_state_over.new.site).names _
    (ap (λ (x : Layout). x.names) c.in_ok-state.ensures.layout) c.in_err-init.ensures.course)

pub returns-in_err-binding-clause-course : goal.returns-in_err-binding-clause-course
returns-in_err-binding-clause-course g c =
    let l = g.T.Turns.layout c.args.site.now in
    let w = g.T.Turns.writer c.args.site.now in
    let w1 = g.T.Turns.writer c.topic_state_over.new.site in
    let w2 = g.T.Turns.writer c.init_of.new.site in
    let t = asked_by c.args.key.now (topic_parts c.args.topic.now)
    (option_map (λ d. d.now) c.args.dest) in
    handed_on (Answered w w2 (begin_course l.names t)) _ _
    c.from_residual-in_err-binding.ensures.1
    (begin-wanting w w1 w2 w2 l.names t c.in_ok-state.state c.in_ok-state.ensures.course
    c.in_ok-init.init
    (subst (λ (x : Layout). HasAppended w1 w2
    (init_course x.names t.src t.init c.in_ok-state.state) (ends c.in_ok-init.init) 0)
    c.in_ok-state.ensures.layout c.in_ok-init.ensures.course))

pub bind_topic_over-requires-clause-on : goal.bind_topic_over-requires-clause-on
bind_topic_over-requires-clause-on g c =
    let same = c.in_ok-init.ensures.layout ∙ c.in_ok-state.ensures.layout in
    let key = c.args.key.now in
    let t = asked_by c.args.key.now (topic_parts c.args.topic.now)
    (option_map (λ d. d.now) c.args.dest) in
    let counted : length c.in_ok-init.init
    ≡ shards_of (g.T.Turns.layout c.args.site.now).names t.src =
    c.in_ok-init.ensures.counted
    ∙ ap (λ (x : Layout). shards_of x.names t.src) c.in_ok-state.ensures.layout in
    let on : IsOnCollections (g.T.Turns.layout c.args.site.now).names key
    (binding_for t c.in_ok-init.init) = record {
      checkpoints = c.requires.checkpoints;
      src = c.requires.src;
      dest = c.requires.dest;
      counted = counted;
    } in
    subst (λ (x : Layout). IsOnCollections x.names key c.in_ok-binding.binding) (sym same)
    (subst (IsOnCollections (g.T.Turns.layout c.args.site.now).names key)
    (sym c.in_ok-binding.ensures) on)

pub bind_topic_over-requires-clause-readable : goal.bind_topic_over-requires-clause-readable
bind_topic_over-requires-clause-readable g c =
    subst (λ (b : Binding). IsReadable b.q) (sym c.in_ok-binding.ensures) c.requires.readable

pub returns-clause-course : goal.returns-clause-course
returns-clause-course g c =
    let l = g.T.Turns.layout c.args.site.now in
    let w = g.T.Turns.writer c.args.site.now in
    let w1 = g.T.Turns.writer c.topic_state_over.new.site in
    let w2 = g.T.Turns.writer c.init_of.new.site in
    let new = g.T.Turns.writer c.bind_topic_over.new.site in
    let t = asked_by c.args.key.now (topic_parts c.args.topic.now)
    (option_map (λ d. d.now) c.args.dest) in
    let same = c.in_ok-init.ensures.layout ∙ c.in_ok-state.ensures.layout in
    begin-bound w w1 w2 new l.names t c.in_ok-state.state c.in_ok-state.ensures.course
    c.in_ok-init.init
    (subst (λ (x : Layout). HasAppended w1 w2
    (init_course x.names t.src t.init c.in_ok-state.state) (ends c.in_ok-init.init) 0)
    c.in_ok-state.ensures.layout c.in_ok-init.ensures.course)
    c.in_ok-binding.binding c.bind_topic_over.result c.in_ok-binding.ensures
    (subst (λ (x : Layout). Answered w2 new
    (bind_course x.names t.key c.in_ok-binding.binding) c.bind_topic_over.result) same
    c.bind_topic_over.ensures.course)
