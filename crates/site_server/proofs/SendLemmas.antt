-- What a thread of a server carries out may go to it, and it may share the board with others.
use denote.RattleType.{RattleType}
use denote.Param.Send.{IsSend, IsSync, sendable}
use Rattle.std.specs.contracts.sync.Mutex as Mutex
use Rattle.std.proofs.Crossing as heap
use Rattle.atomic_table.proofs.shared.Seat.TheSendSync as seat
use Rattle.disk_edge.specs.contracts.memory_disk.MemoryDisk as MemoryDisk
use Rattle.logged_cells.specs.contracts.logged_cell.LoggedCell as LoggedCell
use Rattle.turn_table.specs.contracts.pass.Pass as TablePass
use Rattle.running_site.proofs.SendLemmas.{cell_send}
use Rattle.running_site.specs.contracts.pass.PassOf as PassOf
use Rattle.daemon_board.proofs.SendLemmas.{board_send}
use Rattle.daemon_board.specs.contracts.board.Board as Board
use Rattle.site_server.specs.contracts.item.ItemOf as ItemOf

-- a pass of a site, whatever is told of its cells and of their entries
table_pass_send : (A E : RattleType) → IsSend (TablePass.the_row (LoggedCell.the_row MemoryDisk.the_row) A E)
table_pass_send A E =
    search (cell_send, seat.the_send, heap.crosses, sendable) depth 60 fits 20000

pub pass_send : (A E : RattleType)
    → IsSend (PassOf.the_row (TablePass.the_row (LoggedCell.the_row MemoryDisk.the_row) A E))
pass_send A E = search (table_pass_send, heap.crosses, sendable) depth 60 fits 20000

-- an item, by what it holds
pub item_send : (L P : RattleType) → IsSend L → IsSend P → IsSend (ItemOf.the_row L P)
item_send L P l p = search sendable depth 60 fits 20000

-- a board behind its lock
pub board_sync : IsSync (Mutex.the_row Board.the_row)
board_sync = search (board_send, heap.crosses, sendable) depth 60 fits 20000
