-- The refusals of the book, as those of a cell (own).
use Rattle.topic_book.specs.declared.fault.BookFault.{BookFault}
use Rattle.topic_book.specs.declared.fault.BookFault.TheVariants as fault
use Rattle.site_cells.specs.declared.cell_refusal.CellRefusal.{CellRefusal}
use Rattle.site_cells.specs.declared.cell_refusal.CellRefusal.TheVariants.{TopicBound, BookFull, OutOfMemory}

-- the book's refusal, as a cell's
abbrev pub refusal_of : BookFault → CellRefusal
refusal_of (fault.TopicBound kept) = TopicBound kept
refusal_of (fault.BookFull topics) = BookFull topics
refusal_of fault.OutOfMemory = OutOfMemory
