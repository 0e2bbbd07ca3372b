-- A site with its cells may be shared by threads, and a cell may go to one.
use denote.Param.Send.{IsSend, IsSync, sendable}
use denote.Param.SendFields.{as_row_sync}
use Rattle.std.proofs.Crossing as heap
use Rattle.std.proofs.MapsCrossing as maps
use Rattle.atomic_table.proofs.shared.Shared.TheSendSync as shared
use Rattle.atomic_table.proofs.send_lease.SendLease.TheSendSync as lease
use Rattle.tuple_values.proofs.value.Tuple.TheLaws.TheKnot as tuples
use Rattle.tuple_values.specs.contracts.names.NameShards as NameShards
use Rattle.tuple_values.specs.contracts.sequence.Sequence as Sequence
use Rattle.tuple_values.specs.contracts.text.Text as Text
use Rattle.tuple_values.specs.contracts.value.Tuple as Tuple
use Rattle.shard_segments.specs.contracts.chunks.Chunks as Chunks
use Rattle.shard_segments.specs.contracts.slot.Document as Document
use Rattle.shard_segments.specs.contracts.slot.Slot as Slot
use Rattle.shard_versions.specs.contracts.log.Log as Log
use Rattle.shard_versions.specs.contracts.log.Made as Made
use Rattle.shard_versions.specs.contracts.log.Note as Note
use Rattle.shard_versions.specs.contracts.shard.ShardState as ShardState
use Rattle.shard_versions.specs.contracts.tree.Tree as Tree
use Rattle.topic_book.specs.contracts.book.BookState as BookState
use Rattle.topic_book.specs.contracts.topic.BookEntry as BookEntry
use Rattle.topic_book.specs.contracts.topics.Topic as Topic
use Rattle.exchange_rules.specs.contracts.log_entry.LogEntry as LogEntry
use Rattle.site_laws.specs.contracts.cell_about.CellAbout as CellAbout
use Rattle.site_laws.specs.contracts.sealing.Sealing as Sealing
use Rattle.site_cells.specs.contracts.cell_value.CellValue as CellValue
use Rattle.disk_edge.specs.contracts.change.Change as Change
use Rattle.disk_edge.specs.contracts.memory_disk.MemoryDisk as MemoryDisk
use Rattle.commit_log.specs.contracts.log.Log as DiskLog
use Rattle.logged_cells.specs.contracts.logged_cell.LoggedCell as LoggedCell
use Rattle.logged_cells.specs.contracts.logged_cell.Made as CellMade
use Rattle.logged_cells.specs.contracts.refusal.LoggedRefusal as LoggedRefusal
use Rattle.turn_table.specs.declared.cell_state.CellState as CellState
use Rattle.turn_table.specs.contracts.table.TurnTable as TurnTable
use Rattle.running_site.specs.contracts.site.SiteOf as SiteOf

-- texts and documents
text_send : IsSend Text.the_row
text_send = search (heap.crosses, sendable) depth 60 fits 20000

tuple_send : IsSend Tuple.the_row
tuple_send = search (tuples.crosses, heap.crosses, sendable) depth 60 fits 20000

text_sync : IsSync Text.the_row
text_sync = search (heap.crosses, sendable) depth 60 fits 20000

tuple_sync : IsSync Tuple.the_row
tuple_sync = search (tuples.crosses, heap.crosses, sendable) depth 60 fits 20000

-- what a shard is made of
document_send : IsSend Document.the_row
document_send = search (tuple_send, tuple_sync, heap.crosses, sendable) depth 60 fits 20000

document_sync : IsSync Document.the_row
document_sync = search (tuple_send, tuple_sync, heap.crosses, sendable) depth 60 fits 20000

slot_send : IsSend Slot.the_row
slot_send = search (document_send, heap.crosses, sendable) depth 60 fits 20000

slot_sync : IsSync Slot.the_row
slot_sync = search (document_sync, heap.crosses, sendable) depth 60 fits 20000

chunks_send : IsSend Chunks.the_row
chunks_send = search (slot_send, slot_sync, heap.crosses, sendable) depth 60 fits 20000

chunks_sync : IsSync Chunks.the_row
chunks_sync = search (slot_send, slot_sync, heap.crosses, sendable) depth 60 fits 20000

note_send : IsSend Note.the_row
note_send = search (text_send, heap.crosses, sendable) depth 60 fits 20000

note_sync : IsSync Note.the_row
note_sync = search (text_sync, heap.crosses, sendable) depth 60 fits 20000

made_send : IsSend Made.the_row
made_send = search (text_send, slot_send, heap.crosses, sendable) depth 60 fits 20000

made_sync : IsSync Made.the_row
made_sync = search (text_sync, slot_sync, heap.crosses, sendable) depth 60 fits 20000

log_send : IsSend (Log.the_field).row
log_send = search (note_send, chunks_send, heap.crosses, sendable) depth 60 fits 20000

log_sync : IsSync (Log.the_field).row
log_sync = search (note_sync, chunks_sync, heap.crosses, sendable) depth 60 fits 20000

tree_send : IsSend (Tree.the_field).row
tree_send = search (maps.crosses, heap.crosses, sendable) depth 60 fits 20000

tree_sync : IsSync (Tree.the_field).row
tree_sync = search (maps.crosses, heap.crosses, sendable) depth 60 fits 20000

-- a shard, a book, and a cell of a site
shard_send : IsSend (ShardState.the_field).row
shard_send = search (log_send, tree_send, made_send, heap.crosses, sendable) depth 60 fits 20000

shard_sync : IsSync (ShardState.the_field).row
shard_sync = search (log_sync, tree_sync, made_sync, heap.crosses, sendable) depth 60 fits 20000

entry_send : IsSend BookEntry.the_row
entry_send = search (text_send, heap.crosses, sendable) depth 60 fits 20000

entry_sync : IsSync BookEntry.the_row
entry_sync = search (text_sync, heap.crosses, sendable) depth 60 fits 20000

topic_send : IsSend Topic.the_row
topic_send = search (text_send, heap.crosses, sendable) depth 60 fits 20000

topic_sync : IsSync Topic.the_row
topic_sync = search (text_sync, heap.crosses, sendable) depth 60 fits 20000

book_send : IsSend (BookState.the_field).row
book_send = search (entry_send, topic_send, heap.crosses, sendable) depth 60 fits 20000

book_sync : IsSync (BookState.the_field).row
book_sync = search (entry_sync, topic_sync, heap.crosses, sendable) depth 60 fits 20000

value_send : IsSend (CellValue.the_field).row
value_send = search (shard_send, book_send, heap.crosses, sendable) depth 60 fits 20000

value_sync : IsSync (CellValue.the_field).row
value_sync = search (shard_sync, book_sync, heap.crosses, sendable) depth 60 fits 20000

-- a disk in memory, and a log on one
change_send : IsSend Change.the_row
change_send = search (heap.crosses, sendable) depth 60 fits 20000

change_sync : IsSync Change.the_row
change_sync = search (heap.crosses, sendable) depth 60 fits 20000

disk_send : IsSend MemoryDisk.the_row
disk_send = search (change_send, heap.crosses, sendable) depth 60 fits 20000

disk_sync : IsSync MemoryDisk.the_row
disk_sync = search (change_sync, heap.crosses, sendable) depth 60 fits 20000

disk_log_send : IsSend (DiskLog.the_row MemoryDisk.the_row)
disk_log_send = search (disk_send, heap.crosses, sendable) depth 60 fits 20000

disk_log_sync : IsSync (DiskLog.the_row MemoryDisk.the_row)
disk_log_sync = search (disk_sync, heap.crosses, sendable) depth 60 fits 20000

pub cell_send : IsSend (LoggedCell.the_row MemoryDisk.the_row)
cell_send = search (value_send, disk_log_send, heap.crosses, sendable) depth 60 fits 20000

pub cell_sync : IsSync (LoggedCell.the_row MemoryDisk.the_row)
cell_sync = search (value_sync, disk_log_sync, heap.crosses, sendable) depth 60 fits 20000

-- a site without logs
names_sync : IsSync (Sequence.the_row NameShards.the_row)
names_sync = search (text_sync, heap.crosses, sendable) depth 60 fits 20000

module _ (gh : CellState.Ghosts (LoggedCell.the_row MemoryDisk.the_row).Denot (CellAbout.the_row).Denot
    (LogEntry.the_row).Denot (Sealing.the_row).Denot (CellMade.the_row).Denot
    (LoggedRefusal.the_row).Denot) where
  table_sync
      : IsSync (TurnTable.the_field (LoggedCell.the_row MemoryDisk.the_row) CellAbout.the_row LogEntry.the_row Sealing.the_row CellMade.the_row LoggedRefusal.the_row gh).row
  table_sync =
      search (cell_send, cell_sync, shared.the_sync, lease.the_sync, heap.crosses, sendable)
      depth 60 fits 20000

  all_sync
      : IsSync (SiteOf.the_field (LoggedCell.the_row MemoryDisk.the_row) CellAbout.the_row LogEntry.the_row Sealing.the_row CellMade.the_row LoggedRefusal.the_row gh).row
  all_sync = search (table_sync, names_sync, heap.crosses, sendable) depth 60 fits 20000

  pub site_sync
      : IsSync (SiteOf.the_row (LoggedCell.the_row MemoryDisk.the_row) CellAbout.the_row LogEntry.the_row Sealing.the_row CellMade.the_row LoggedRefusal.the_row gh)
  site_sync =
      as_row_sync (SiteOf.the_field (LoggedCell.the_row MemoryDisk.the_row) CellAbout.the_row LogEntry.the_row Sealing.the_row CellMade.the_row LoggedRefusal.the_row gh)
      all_sync
