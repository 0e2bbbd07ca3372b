use Rattle.std.proofs.Common.{◌++◌, [], append_assoc, arith, refl, subst, sym, ◌∙◌}
use Rattle.std.specs.Prelude.{codes}
use Rattle.std.specs.Fmt.{decimal}
use Rattle.io_edge.specs.Edge.{Appends, AppendsPrefix}
use Rattle.stream_handler.proofs.WireLemmas.{appends_join, appends_none}
use Rattle.stream_commands.specs.Lines.{refused_line}
use Rattle.stream_commands.proofs.LineLemmas.{said_last, said_part}
use Rattle.stream_commands.proofs.ending.say_refused.Goals as goal

pub returns-in-Failed : goal.returns-in-Failed
returns-in-Failed g c =
    let old = g.E.Sink.written c.args.errors.now in
    let f0 = g.E.Sink.faults c.args.errors.now in
    said_part old old (g.E.Sink.written c.put.new.self) f0 f0 (g.E.Sink.faults c.put.new.self) []
    (codes "refused ") (decimal c.args.status ++ codes "\n") (refused_line c.args.status) refl
    (omega arith) (appends_none old) (c.in-Failed.ensures.cause.1 refl) c.in-Failed.ensures.gives

pub returns-in-Failed-put : goal.returns-in-Failed-put
returns-in-Failed-put g c =
    let old = g.E.Sink.written c.args.errors.now in
    let mid = g.E.Sink.written c.put.new.self in
    let new = g.E.Sink.written c.put-2.new.self in
    let number = c.as_bytes.ensures.value ∙ c.format.ensures.text in
    said_part old mid new (g.E.Sink.faults c.args.errors.now) (g.E.Sink.faults c.put.new.self)
    (g.E.Sink.faults c.put-2.new.self) (codes "refused ") (decimal c.args.status) (codes "\n")
    (refused_line c.args.status)
    (sym (append_assoc (codes "refused ") (decimal c.args.status) (codes "\n")))
    c.in_default.ensures.cause.0 c.in_default.ensures.gives
    (c.in-Failed-put.ensures.cause.1 refl)
    (subst (λ t. AppendsPrefix mid new t) number c.in-Failed-put.ensures.gives)

pub returns : goal.returns
returns g c =
    let old = g.E.Sink.written c.args.errors.now in
    let mid = g.E.Sink.written c.put.new.self in
    let next = g.E.Sink.written c.put-2.new.self in
    let number = c.as_bytes.ensures.value ∙ c.format.ensures.text in
    let first = codes "refused " ++ decimal c.args.status in
    said_last old next (g.E.Sink.written c.put-3.new.self) (g.E.Sink.faults c.args.errors.now)
    (g.E.Sink.faults c.put-2.new.self) (g.E.Sink.faults c.put-3.new.self) first (codes "\n")
    (refused_line c.args.status) c.put-3.result
    (sym (append_assoc (codes "refused ") (decimal c.args.status) (codes "\n")))
    (omega (arith, c.in_default.ensures.cause.0, c.in_default-put.ensures.cause.0))
    (appends_join old mid next (codes "refused ") (decimal c.args.status)
    c.in_default.ensures.gives
    (subst (λ t. Appends mid next t) number c.in_default-put.ensures.gives))
    c.put-3.ensures.gives c.put-3.ensures.cause
