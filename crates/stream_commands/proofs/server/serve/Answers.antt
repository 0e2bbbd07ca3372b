use Rattle.std.proofs.Common.{ap, refl, sym, subst, map}
use Rattle.std.specs.Prelude.{Some}
use Rattle.command_words.specs.declared.command.Command.TheVariants.{Serve}
use Rattle.running_site.specs.Passes.{layout_in}
use Rattle.site_server.specs.Doors.{doors}
use Rattle.site_server.specs.Ended.{IsEnded}
use Rattle.stream_commands.specs.DoorRows.{Row}
use Rattle.stream_commands.specs.Endings.{HasCounted}
use Rattle.stream_commands.specs.Servers.{LeavesRow, ending_by}
use Rattle.stream_commands.proofs.ServerLemmas.{leaves_by, row_counted}
use Rattle.stream_commands.proofs.server.serve.Goals as goal

pub returns-in-Ok-clause-left : goal.returns-in-Ok-clause-left
returns-in-Ok-clause-left g c =
    let kind =
    doors g.L.Door.told g.L.Door.faults g.L.Door.deaf g.L.In.Source.left g.L.In.Source.faults
    g.L.Out.Sink.written g.L.Out.Sink.faults in
    let tells = g.C.Clock.tells c.args.clock.now in
    let names = c.args.names in
    let old = c.args.row.now.doors in
    let served = c.in-Ok.field-0 in
    let row : Row g.row.L.Denot =
    record { doors = c.serve-served.new.row; ended = Some served.histories } in
    let over = subst (λ xs. IsEnded kind tells names c.serving_of-serving.result xs row.doors served)
    (ap (λ (r : Row _). r.doors) c.row.view_is) c.in-Ok.ensures.ok in
    let ended = subst (λ s. IsEnded kind tells names s old row.doors served)
    c.serving_of-serving.ensures over in
    subst (LeavesRow kind tells (Some (Serve c.args.settings names)) old row)
    (sym c.ending_by.ensures)
    (leaves_by kind tells old row (Some (Serve c.args.settings names)) served.failed
    (served.histories, refl, ended))

pub returns-in-Ok-clause-counted : goal.returns-in-Ok-clause-counted
returns-in-Ok-clause-counted g c =
    let kind =
    doors g.L.Door.told g.L.Door.faults g.L.Door.deaf g.L.In.Source.left g.L.In.Source.faults
    g.L.Out.Sink.written g.L.Out.Sink.faults in
    let tells = g.C.Clock.tells c.args.clock.now in
    let serving = c.serving_of-serving.result in
    let new = map g.L.Door.faults c.serve-served.new.row in
    subst (λ e. HasCounted e (map g.L.Door.faults c.args.row.now.doors) new) (sym c.ending_by.ensures)
    (subst (λ xs. HasCounted (ending_by c.in-Ok.field-0.failed) (map g.L.Door.faults xs) new)
    (ap (λ (r : Row _). r.doors) c.row.view_is)
    (row_counted kind tells (layout_in c.args.names serving.limit) serving.workers
    c.row.inside.doors c.serve-served.new.row c.in-Ok.field-0.failed c.in-Ok.ensures.ok.row))
