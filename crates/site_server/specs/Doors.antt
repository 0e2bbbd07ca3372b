-- Doors that a server serves, and how one was served by a worker (own).
use Rattle.std.specs.Prelude.{ℕ, List, Option, None}
use Rattle.exchange_rules.specs.Following.{Writer}
use Rattle.exchange_rules.specs.Rows.{Layout}
use Rattle.daemon_board.specs.Answers.{no_answers}
use Rattle.server_edge.specs.Doors.{Row}
use Rattle.stream_handler.specs.Boards.{board_state, BoardState}
use Rattle.stream_handler.specs.declared.ending.SessionEnd.{SessionEnd}
use Rattle.pass_calls.specs.Serving.{server, served_by, EndsDoor, HasFailed, IsServed}
use Rattle.pass_calls.specs.declared.doors.DoorRun.{DoorRun}

-- what is known of each door of a kind: the connections that it has left and those that came back,
-- where it tells them, how often it failed, and how often to listen; and of the two ends of its
-- connections: what a source has left and a sink has written, where they tell it, and how often
-- each failed
pub record Doors (D I O : Type 0) : Type 0 where
  pub told : D → Option (Row I O SessionEnd)
  pub faults : D → ℕ
  pub deaf : D → ℕ
  pub left : I → Option (List ℕ)
  pub reads : I → ℕ
  pub written : O → Option (List ℕ)
  pub writes : O → ℕ

abbrev pub doors : {D I O : Type 0} → (D → Option (Row I O SessionEnd)) → (D → ℕ) → (D → ℕ)
    → (I → Option (List ℕ)) → (I → ℕ) → (O → Option (List ℕ)) → (O → ℕ) → Doors D I O
doors told faults deaf left reads written writes = record {
  told = told;
  faults = faults;
  deaf = deaf;
  left = left;
  reads = reads;
  written = written;
  writes = writes;
}

-- a door was served by a worker that was this writer, over a board that tells nothing: where it
-- tells its connections, and no more had come back to it than it had given, those that it gave were
-- served to their ends, one after another, and came back; why the serving ended, and whether the
-- door failed in it
pub record IsDoorServed {D I O : Type 0} (kind : Doors D I O) (tells : ℕ → Type 0) (l : Layout)
    (w v : Writer) (old new : D) (run : DoorRun) : Type 0 where
  pub board : BoardState
  pub served : IsServed (served_by tells l kind.left kind.reads kind.written kind.writes)
      (server w (board_state None no_answers)) (server v board) (kind.told old) (kind.told new)
  pub ends : EndsDoor (kind.told new) (kind.faults old) (kind.faults new) (kind.deaf old)
      (kind.deaf new) run.end
  pub failed : HasFailed run.failed (kind.faults old) (kind.faults new)
