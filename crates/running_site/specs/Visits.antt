-- What is true of a pass at its site, with the turn that it has or with none (own).
use Rattle.std.specs.Prelude.{ℕ, false, ◌≡◌, ◌≢◌, ◌<◌, List, length, slice_get, Option, Some, None}
use Rattle.tuple_values.specs.declared.names.NameShards.{NameShards}
use Rattle.topic_book.specs.Cells.{cells_in}
use Rattle.topic_book.specs.Books.{binding_of, Book}
use Rattle.topic_book.specs.Fitness.{shards_of}
use Rattle.topic_book.specs.declared.topic.Binding.{Binding}
use Rattle.topic_book.specs.declared.topic.TopicKey.{TopicKey}
use Rattle.exchange_rules.specs.Cells.{book_in}
use Rattle.exchange_rules.specs.declared.log_entry.LogEntry.{LogEntry}
use Rattle.site_laws.specs.declared.cell_about.CellAbout.{CellAbout}
use Rattle.turn_table.specs.Calls.{fault_word, turn_about, turn_faults, turn_history}
use Rattle.turn_table.specs.Histories.{at}
use Rattle.turn_table.specs.Knowledge.{hand, IsFree}
use Rattle.turn_table.specs.declared.knowledge.Known.{Known}
use Rattle.turn_table.specs.declared.turn.Turn.{Turn}
use Rattle.logged_cells.specs.Cells.{about_in, faults_of, is_closed, log_of_cell, IsSettled}
use Rattle.logged_cells.specs.declared.logged_cell.LoggedCell.{LoggedCell}
use Rattle.running_site.specs.Passes.{IsKnowing, TablePass}

-- each topic that is bound in the book has an initial number for each shard of its source
abbrev pub AreCounted : List NameShards → Book → Type 0
AreCounted names book = (key : TopicKey) (b : Binding) → binding_of key book ≡ Some b
    → length b.init ≡ shards_of names b.src

module _ {D : Type 0} where
  -- this cell's turn is there
  abbrev pub HasTurn : Option (Turn (LoggedCell D)) → ℕ → Type 0
  HasTurn None cell = ⊥
  HasTurn (Some turn) cell = turn.cell ≡ cell

  -- the table's count of faults of the cell whose turn a pass has is that of the cell's disk
  abbrev pub IsNoted : (D → ℕ) → TablePass D → Option (Turn (LoggedCell D)) → Type 0
  IsNoted faults pass turn = (t : Turn (LoggedCell D)) → turn ≡ Some t
      → fault_word pass t.cell ≡ turn_faults (faults_of faults) t

  -- its log, if it has one, has just its entries, waits for nothing and isn't shut
  abbrev pub IsSound : (D → Option (List ℕ)) → (D → List ℕ → Type 0) → Option (Turn (LoggedCell D))
      → Type 0
  IsSound seen may_leave turn = (t : Turn (LoggedCell D)) → turn ≡ Some t
      → (cell : LoggedCell D) → t.value ≡ Some cell
      → IsSettled seen may_leave cell × (is_closed cell ≡ false)

  -- the one turn of a pass, which has looked in it; the topics that it has seen are counted by these collections
  pub record IsTurn (names : List NameShards) (k : Known CellAbout LogEntry) (turn : Turn (LoggedCell D))
      : Type 0 where
    pub within : turn.cell < length k.seen
    pub in_hand : hand k turn.cell ≡ Some (turn_history log_of_cell turn)
    pub others : (cell : ℕ) → cell ≢ turn.cell → hand k cell ≡ None
    pub whole : at k.seen turn.cell ≡ turn_history log_of_cell turn
    pub suits : turn_about about_in turn ≡ slice_get k.about turn.cell
    pub topics : turn.cell ≡ cells_in names
        → AreCounted names (book_in (turn_history log_of_cell turn))

  -- the pass has just this turn, or none
  pub record IsVisit (names : List NameShards) (limit : ℕ) (k : Known CellAbout LogEntry)
      (turn : Option (Turn (LoggedCell D))) : Type 0 where
    pub knowing : IsKnowing names limit k
    pub idle : turn ≡ None → IsFree k
    pub holding : (t : Turn (LoggedCell D)) → turn ≡ Some t → IsTurn names k t
