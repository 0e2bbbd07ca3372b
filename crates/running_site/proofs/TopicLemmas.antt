-- Topics that a pass has seen, and entries that may follow them.
use Rattle.std.proofs.Common.{◌≡◌, ℕ, List, ◌++◌, length, refl, sym, ap, ◌∙◌, subst}
use Rattle.std.specs.Prelude.{Option, Some, None}
use Rattle.std.specs.List.{AllByRecursion}
use Rattle.tuple_values.specs.declared.names.NameShards.{NameShards}
use Rattle.topic_book.specs.Books.{binding_of, Book}
use Rattle.topic_book.specs.Fitness.{shards_of, IsFitEntry, IsOfTopic, MayFollow}
use Rattle.topic_book.specs.declared.topic.Binding.{Binding}
use Rattle.topic_book.specs.declared.topic.BookEntry.{BookEntry}
use Rattle.topic_book.specs.declared.topic.BookEntry.TheVariants as book
use Rattle.topic_book.specs.declared.topic.TopicKey.{TopicKey}
use Rattle.topic_book.proofs.BookLemmas.{binding-new, binding-stays}
use Rattle.once_core.specs.Allowed.{MayStore}
use Rattle.once_core.specs.declared.world.Histories.{Histories}
use Rattle.once_core.proofs.KeepingLemmas.{counted_init}
use Rattle.exchange_rules.specs.Cells.{Log}
use Rattle.site_laws.specs.Duties.{MayAppendEntry}
use Rattle.site_laws.specs.SiteCells.{histories_in}
use Rattle.running_site.specs.Visits.{AreCounted}

-- the topics of a fit book are counted
pub counted-fit : (names : List NameShards) (b : Book) → AllByRecursion (IsFitEntry names) b
    → AreCounted names b
counted-fit names b fit key binding bound = counted_init names b key binding fit bound

-- and so are they with more entries that are fit
pub counted-more : (names : List NameShards) (xs ys : Book) → AreCounted names xs
    → AllByRecursion (IsFitEntry names) ys → AreCounted names (xs ++ ys)
counted-more names xs ys counted fit key b bound = go (binding_of key xs) refl
  where
    go : (o : Option Binding) → binding_of key xs ≡ o → length b.init ≡ shards_of names b.src
    go (Some c) e =
        let both : Some c ≡ Some b = sym (binding-stays key c xs ys e) ∙ bound in
        let same : c ≡ b = cc in counted key b (e ∙ ap Some same)
    go None e = counted_init names ys key b fit (sym (binding-new key xs ys e) ∙ bound)

-- versions that may be stored are of a topic
pub of-topic : (names : List NameShards) (hs : Histories) (b : Book) (key : TopicKey)
    (upto : List ℕ) → MayStore names hs key upto → hs.book ≡ b → AreCounted names b
    → IsOfTopic (binding_of key b) upto
of-topic names hs b key upto m e counted =
    let bound : binding_of key b ≡ Some m.binding = ap (binding_of key) (sym e) ∙ m.bound in
    subst (λ o. IsOfTopic o upto) (sym bound) (m.counted ∙ sym (counted key m.binding bound))

-- an entry that may be added to the book may follow there
pub entry-follows : (names : List NameShards) (seen : List Log) (b : Book) (me : ℕ)
    (e : BookEntry) → (histories_in names seen).book ≡ b → AreCounted names b
    → MayAppendEntry names me seen e → MayFollow b e
entry-follows names seen b me (book.Bind by key c) same counted may =
    subst (λ x. binding_of key x ≡ None) same may.1.follows
entry-follows names seen b me (book.Store by key upto) same counted may =
    of-topic names (histories_in names seen) b key upto may.1.0 same counted
