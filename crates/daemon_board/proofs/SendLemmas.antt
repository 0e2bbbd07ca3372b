-- A board of daemons may go to another thread, and so may the claim of a daemon.
use denote.Param.Send.{IsSend, sendable}
use denote.Param.SendFields.{as_row_send}
use Rattle.std.proofs.Crossing as heap
use Rattle.std.proofs.MapsCrossing as maps
use Rattle.expr_types.proofs.SendLemmas.{text_send}
use Rattle.expr_check.proofs.SendLemmas.{checked_send}
use Rattle.daemon_board.specs.contracts.board.Board as Board
use Rattle.daemon_board.specs.contracts.claim.Claim as Claim
use Rattle.daemon_board.specs.contracts.daemon.Daemon as Daemon

daemon_send : IsSend Daemon.the_row
daemon_send = search (checked_send, text_send, heap.crosses, sendable) depth 60 fits 20000

pub claim_send : IsSend Claim.the_row
claim_send = search (checked_send, heap.crosses, sendable) depth 60 fits 20000

inside_send : IsSend (Board.the_field).row
inside_send = search (daemon_send, maps.crosses, heap.crosses, sendable) depth 60 fits 20000

pub board_send : IsSend Board.the_row
board_send = as_row_send Board.the_field inside_send
