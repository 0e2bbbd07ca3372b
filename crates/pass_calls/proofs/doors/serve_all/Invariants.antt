use Rattle.std.proofs.Common.{◌<◌, ◌≡◌}
use Rattle.running_site.specs.Passes.{number_of, writer_of}
use Rattle.running_site.specs.Sites.{layout_at, IsPassAt}
use Rattle.stream_handler.specs.Boards.{board_state}
use Rattle.pass_calls.specs.Serving.{server, served_by, IsServed, Rises}
use Rattle.pass_calls.proofs.doors.serve_all.Given as goal

abbrev pub invariant-loop : goal.invariant-loop
invariant-loop g l =
    record {
      own : IsPassAt l.fn.site l.pass;
      number : number_of l.pass ≡ number_of l.fn.pass;
      now : l.pass.now ≡ l.fn.pass.now;
      served : IsServed (served_by (g.C.Clock.tells l.fn.clock) (layout_at l.fn.site)
          g.L.In.Source.left g.L.In.Source.faults g.L.Out.Sink.written g.L.Out.Sink.faults)
          (server (writer_of l.fn.pass) (board_state (g.D.Daemons.shown l.fn.board)
          (g.D.Daemons.answers l.fn.board)))
          (server (writer_of l.pass) (board_state (g.D.Daemons.shown l.board)
          (g.D.Daemons.answers l.board)))
          (g.L.Door.told l.fn.door) (g.L.Door.told l.door);
      few : l.failures < 100;
      rises : Rises 0 l.failures (g.L.Door.faults l.fn.door) (g.L.Door.faults l.door);
    }
