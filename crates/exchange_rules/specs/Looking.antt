-- Steps that are right behind a look at their cell (own).
use Rattle.std.specs.Prelude.{ℕ, ◌≡◌, Bool, List, [], ◌∷◌, Option, Some, None}
use Rattle.tuple_values.specs.Document.{ByteList}
use Rattle.tuple_values.specs.declared.write.Write.{Write}
use Rattle.shard_versions.specs.declared.cut.CutMark.{CutMark}
use Rattle.shard_versions.specs.declared.cut.OwnMark.{OwnMark}
use Rattle.topic_book.specs.declared.topic.TopicKey.{TopicKey}
use Rattle.topic_book.specs.declared.topic.Binding.{Binding}
use Rattle.exchange_rules.specs.Cells.{Log}
use Rattle.exchange_rules.specs.Courses.{Course, ends, looks, makes}
use Rattle.exchange_rules.specs.Accesses.{Access, a_look, a_step}
use Rattle.exchange_rules.specs.Bindings.{topic_state_course, bind_course, store_course}
use Rattle.exchange_rules.specs.Deliveries.{send_course}
use Rattle.exchange_rules.specs.declared.batch.BatchItem.{BatchItem}
use Rattle.exchange_rules.specs.declared.fault.SiteFault.{SiteFault}
use Rattle.exchange_rules.specs.Rows.{Layout, index_course, commit_course, cut_course}

-- each step of the course comes right after a look at its cell; the last look was at this one
abbrev pub LooksFirst : {A : Type 0} → Option ℕ → Course A → Type 0
LooksFirst last (ends a) = Unit {0}
LooksFirst last (looks cell see) = (log : Log) → LooksFirst (Some cell) (see log)
LooksFirst last (makes cell step rest) = (last ≡ Some cell) × LooksFirst None rest

-- the own mark begins where this mark of its cell ends
abbrev pub IsBehind : Option CutMark → OwnMark → Type 0
IsBehind None o = ⊥
IsBehind (Some m) o = (o.cell ≡ m.cell) × (o.from ≡ m.upto)

-- each own mark begins where the mark right before it, which is of its cell, ends; this is the
-- last one
abbrev pub AreBehind : Option CutMark → List Access → Type 0
AreBehind last [] = Unit {0}
AreBehind last (a_look m ∷ accesses) = AreBehind (Some m) accesses
AreBehind last (a_step o ∷ accesses) = IsBehind last o × AreBehind None accesses

-- updates, commits, cuts, deliveries and the calls on topics look first
pub record RowsLookFirst : Type 0 where
  pub index : (l : Layout) (collection : ByteList) (writes : List Write) (commit : Bool)
      → LooksFirst None (index_course l collection writes commit)
  pub commit : (l : Layout) (collection : ByteList)
      → LooksFirst None (commit_course l collection)
  pub cut : (l : Layout) (collections : List ByteList)
      → LooksFirst None (cut_course l.names [] collections)
  pub send : (l : Layout) (dest src : ByteList) (batch : List BatchItem)
      → LooksFirst None (send_course l dest src batch)
  pub state : (l : Layout) (key : TopicKey) → LooksFirst None (topic_state_course l.names key)
  pub bind : (l : Layout) (key : TopicKey) (b : Binding)
      → LooksFirst None (bind_course l.names key b)
  pub store : (l : Layout) (key : TopicKey) (upto : List ℕ)
      → LooksFirst None (store_course {E = SiteFault} l.names key upto)
