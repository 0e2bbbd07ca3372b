-- Deliveries and calls on topics, worked by hand: what a course leaves and answers alone.
use Rattle.std.proofs.Common.{◌≡◌, ℕ, List, [], ◌∷◌, ◌++◌, refl}
use Rattle.std.specs.Prelude.{Option, Some, None, Result, Ok, Err, codes}
use Rattle.tuple_values.specs.Document.{ByteList, Doc, text}
use Rattle.tuple_values.specs.declared.names.NameShards.{NameShards}
use Rattle.shard_versions.specs.declared.entry.Kind.{Kind}
use Rattle.shard_versions.specs.declared.entry.Kind.TheVariants.{Put, Sent, Mark}
use Rattle.shard_versions.specs.Deliveries as D
use Rattle.shard_versions.specs.Documents as M
use Rattle.topic_book.specs.Alike as A
use Rattle.topic_book.specs.Books as B
use Rattle.topic_book.specs.Cells as C
use Rattle.topic_book.specs.Fitness as F
use Rattle.topic_book.specs.declared.topic.TopicKey.{TopicKey}
use Rattle.topic_book.specs.declared.topic.Binding.{Binding}
use Rattle.topic_book.specs.declared.topic.BookEntry.TheVariants.{Bind, Store}
use Rattle.exchange_rules.specs.Bindings.{bind_course, store_course, topic_state_course}
use Rattle.exchange_rules.specs.Cells.{Log}
use Rattle.exchange_rules.specs.Courses.{run_alone}
use Rattle.exchange_rules.specs.Deliveries.{send_course}
use Rattle.exchange_rules.specs.Rows.{Layout}
use Rattle.exchange_rules.specs.declared.batch.BatchItem.{BatchItem}
use Rattle.exchange_rules.specs.declared.fault.SiteFault.{SiteFault}
use Rattle.exchange_rules.specs.declared.fault.SiteFault.TheVariants.{ShardFull, TopicBound}
use Rattle.exchange_rules.specs.declared.log_entry.LogEntry.TheVariants as logged

-- a source c and a destination d, each of one shard: cells 0 and 1, and the book's 2
abbrev names : List NameShards
names =
    record { name = codes "c"; shards = 1 } ∷ record { name = codes "d"; shards = 1 } ∷ []

-- with this limit on each shard
abbrev layout : ℕ → Layout
layout limit = record { names = names; limit = limit }

-- a document with this id
abbrev doc : ByteList → Doc
doc id = (codes "id", text id) ∷ []

-- an item of a batch
abbrev item : ByteList → ℕ → BatchItem
item id version = record { version = version; document = doc id }

-- an entry of the destination
abbrev entry : Kind → Log
entry kind = logged.Shard (record { by = 1; kind = kind }) ∷ []

-- version 2 of document 1 stands in the destination
abbrev before : List Log
before = [] ∷ (entry (Sent (codes "c") 2 (doc (codes "1"))) ++ entry Mark) ∷ [] ∷ []

-- of versions 1, 2 and 3 of document 1 the last is admitted, and one of two equal ones of document 2
mixed : run_alone 1 before (send_course (layout 1000) (codes "d") (codes "c")
    (item (codes "1") 1 ∷ item (codes "1") 2 ∷ item (codes "1") 3 ∷ item (codes "2") 1
    ∷ item (codes "2") 1 ∷ []))
    ≡ (
      [] ∷ (entry (Sent (codes "c") 2 (doc (codes "1"))) ++ entry Mark
          ++ entry (Sent (codes "c") 3 (doc (codes "1")))
          ++ entry (Sent (codes "c") 1 (doc (codes "2"))) ++ entry Mark) ∷ [] ∷ [],
      Ok (record { admitted = 2; refused = 3 }),
    )
unfolding C.cells_in C.cell_of F.shards_of M.id_of D.admitted D.admits D.sents
mixed = refl

-- nothing is appended where nothing is admitted
older : run_alone 1 before (send_course (layout 1000) (codes "d") (codes "c")
    (item (codes "1") 2 ∷ [])) ≡ (before, Ok (record { admitted = 0; refused = 1 }))
unfolding C.cells_in C.cell_of F.shards_of M.id_of D.admitted D.admits D.sents
older = refl

-- a delivery that doesn't fit with its Mark is refused
full : run_alone 1 before (send_course (layout 100) (codes "d") (codes "c")
    (item (codes "1") 3 ∷ [])) ≡ (before, Err (ShardFull (codes "d") 0 0))
unfolding C.cells_in C.cell_of F.shards_of M.id_of D.admitted D.admits D.sents
full = refl

-- a topic and what it is bound to
abbrev key : TopicKey
key = record { checkpoints = codes "ck"; id = codes "t" }

-- with this destination and this initial version
abbrev binding : Option ByteList → ℕ → Binding
binding dest init = record {
  src = codes "c";
  q = codes "*:*";
  fields = codes "id" ∷ [];
  dest = dest;
  init = init ∷ [];
}

-- the book with a Bind, and a Store of version 3 behind it
abbrev bound : List Log
bound =
    [] ∷ [] ∷ (logged.Book (Bind 1 key (binding (Some (codes "d")) 1))
    ∷ logged.Book (Store 1 key (3 ∷ [])) ∷ []) ∷ []

-- a topic that is bound alike is answered with its checkpoint
alike : run_alone 1 bound (bind_course names key (binding (Some (codes "d")) 0))
    ≡ (bound, Ok (3 ∷ []))
unfolding C.cells_in B.binding_of B.checkpoints B.checkpoints_at B.checkpoint A.is_alike
alike = refl

-- and one that is bound to others with those
differs : run_alone 1 bound (bind_course names key (binding None 0))
    ≡ (bound, Err (TopicBound (binding (Some (codes "d")) 1)))
unfolding C.cells_in B.binding_of B.checkpoints B.checkpoints_at B.checkpoint A.is_alike
differs = refl

-- a checkpoint that raises nothing isn't stored
lower : run_alone 1 bound (store_course {E = SiteFault} names key (2 ∷ [])) ≡ (bound, Ok tt)
unfolding C.cells_in B.raises B.checkpoint
lower = refl
