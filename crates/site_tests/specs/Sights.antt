-- What a pass has seen of a topic, and of a cut of its source (own).
use Rattle.std.specs.Prelude.{◌≡◌, [], ◌∷◌, List, Some}
use Rattle.tuple_values.specs.Document.{ByteList}
use Rattle.tuple_values.specs.declared.names.NameShards.{NameShards}
use Rattle.shard_versions.specs.declared.cut.CutPart.{CutPart}
use Rattle.topic_book.specs.Books.{binding_of}
use Rattle.topic_book.specs.declared.topic.Binding.{Binding}
use Rattle.topic_book.specs.declared.topic.TopicKey.{TopicKey}
use Rattle.exchange_rules.specs.Cells.{Log}
use Rattle.exchange_rules.specs.Following.{Answers, Grows, Writer}
use Rattle.exchange_rules.specs.Rows.{cut_course}
use Rattle.site_laws.specs.SiteCells.{histories_in}

-- in the book that was seen the topic has this source and this destination
pub record IsTopic (names : List NameShards) (seen : List Log) (key : TopicKey)
    (src dest : ByteList) : Type 0 where
  pub binding : Binding
  pub bound : binding_of key (histories_in names seen).book ≡ Some binding
  pub from : binding.src ≡ src
  pub to : binding.dest ≡ Some dest

-- a writer that had seen no more took the cut of the source
pub record IsCutOf (names : List NameShards) (seen : List Log) (src : ByteList)
    (cut : List CutPart) : Type 0 where
  pub before : Writer
  pub after : Writer
  pub taken : Answers before after (cut_course names [] (src ∷ [])) cut
  pub since : Grows after.seen seen
