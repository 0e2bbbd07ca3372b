use Rattle.std.proofs.Common.{◌∙◌, ap, subst, sym}
use Rattle.std.specs.Prelude.{Some}
use Rattle.command_words.specs.declared.command.Command.TheVariants.{Script}
use Rattle.turn_table.specs.Calls.{known}
use Rattle.running_site.specs.Passes.{layout_in, writer_in}
use Rattle.running_site.specs.Sites.{layout_at}
use Rattle.daemon_board.specs.Rising.{IsKept}
use Rattle.daemon_board.proofs.RisingLemmas.{empty-kept}
use Rattle.stream_handler.specs.Sessions.{wire}
use Rattle.stream_commands.specs.Endings.{HasRisen, IsEndingOf, Writes}
use Rattle.stream_commands.specs.Serving.{state_of}
use Rattle.stream_commands.proofs.BegunLemmas.{script_unbegun}
use Rattle.stream_commands.proofs.ScriptLemmas.{script_ending, script_writes, served_risen}
use Rattle.stream_commands.proofs.script.script.Goals as goal

pub returns-in_default-clause-writes : goal.returns-in_default-clause-writes
returns-in_default-clause-writes g c =
    script_unbegun c.args.names (g.I.Source.left c.args.input.now)
    (g.O.Sink.written c.args.output.now)

pub serve-end-requires-clause-lone : goal.serve-end-requires-clause-lone
serve-end-requires-clause-lone g c κs within =
    ap (λ s. s.passes) c.visit-visit.ensures.site ∙ c.in-Ok.ensures.site.2

pub serve-end-requires-clause-kept : goal.serve-end-requires-clause-kept
serve-end-requires-clause-kept g c κs within =
    subst (λ b. IsKept b.shown) (sym c.empty-board.ensures) empty-kept

pub returns-clause-writes : goal.returns-clause-writes
returns-clause-writes g c =
    let left = g.I.Source.left c.args.input.now in
    let written = g.O.Sink.written c.args.output.now in
    let v = c.visit-visit.result in
    let w = c.serve-end.new.site in
    let begun = c.in-Ok.ensures.site in
    let here = c.serve-end.ensures.home ∙ c.visit-visit.ensures.site in
    let own = c.watch.ensures.alone (ap (λ s. s.passes) here ∙ begun.2) in
    let new = wire c.serve-end.new.requests (g.I.Source.left c.serve-end.new.input)
    (g.I.Source.faults c.serve-end.new.input) (g.O.Sink.written c.serve-end.new.output)
    (g.O.Sink.faults c.serve-end.new.output) (state_of c.serve-end.new.board) in
    subst (λ e. Writes e (Some (Script c.args.names)) left
    (g.I.Source.left c.serve-end.new.input) written
    (g.O.Sink.written c.serve-end.new.output)) (sym c.ending_of.ensures)
    (script_writes c.args.names (layout_in v.site.now.names v.site.now.limit)
    (writer_in (known v.pass) v.marks.items v.own.items)
    (writer_in (known w.pass) w.marks.items w.own.items) c.empty-board.result
    c.serve-end.new.board c.begin-requests.result left
    (g.I.Source.faults c.args.input.now) written (g.O.Sink.faults c.args.output.now) new
    c.serve-end.result
    (ap layout_at c.visit-visit.ensures.site ∙ (λ i. layout_in (begun.0 i) (begun.1 i)))
    (c.visit-visit.ensures.writer ∙ c.in-Ok.ensures.new) c.empty-board.ensures
    c.begin-requests.ensures own.own c.serve-end.ensures.served)

pub returns-clause-ending : goal.returns-clause-ending
returns-clause-ending g c =
    subst (IsEndingOf (Script c.args.names)) (sym c.ending_of.ensures)
    (script_ending c.args.names c.serve-end.result)

pub returns-clause-risen : goal.returns-clause-risen
returns-clause-risen g c =
    let v = c.visit-visit.result in
    let w = c.serve-end.new.site in
    let old = wire c.begin-requests.result (g.I.Source.left c.args.input.now)
    (g.I.Source.faults c.args.input.now) (g.O.Sink.written c.args.output.now)
    (g.O.Sink.faults c.args.output.now) (state_of c.empty-board.result) in
    let new = wire c.serve-end.new.requests (g.I.Source.left c.serve-end.new.input)
    (g.I.Source.faults c.serve-end.new.input) (g.O.Sink.written c.serve-end.new.output)
    (g.O.Sink.faults c.serve-end.new.output) (state_of c.serve-end.new.board) in
    subst (λ e. HasRisen e (record {
      input_old = g.I.Source.faults c.args.input.now;
      input_new = g.I.Source.faults c.serve-end.new.input;
      output_old = g.O.Sink.faults c.args.output.now;
      output_new = g.O.Sink.faults c.serve-end.new.output;
    })) (sym c.ending_of.ensures)
    (served_risen (layout_in v.site.now.names v.site.now.limit) old new
    (writer_in (known v.pass) v.marks.items v.own.items)
    (writer_in (known w.pass) w.marks.items w.own.items) c.empty-board.result
    c.serve-end.new.board c.serve-end.result c.serve-end.ensures.served)
