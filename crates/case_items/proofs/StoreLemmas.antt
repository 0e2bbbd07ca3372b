-- Which versions may be stored of a topic that delivers nowhere, by what was seen.
use Rattle.std.proofs.Common.{◌≡◌, ℕ, Bool, true, false, List, length, refl, sym, ap, subst, ◌∙◌, Some}
use Rattle.std.specs.Bool.{Decides}
use Rattle.tuple_values.specs.Document.{ByteList}
use Rattle.tuple_values.specs.declared.names.NameShards.{NameShards}
use Rattle.topic_book.specs.Fitness.{shards_of}
use Rattle.topic_book.specs.declared.topic.Binding.{Binding}
use Rattle.topic_book.specs.declared.topic.TopicKey.{TopicKey}
use Rattle.once_core.specs.Allowed.{AreReached}
use Rattle.once_core.specs.declared.world.Histories.{Histories}
use Rattle.case_items.specs.Stores.{IsBoundNowhere, MayStoreNowhere}

-- a topic that delivers nowhere has this source alone
one-source : (names : List NameShards) (seen : Histories) (key : TopicKey) (src : ByteList)
    (upto : List ℕ) → IsBoundNowhere key src seen.book
    → (m : MayStoreNowhere names seen key upto) → m.binding.src ≡ src
one-source names seen key src upto b m =
    let both : Some m.binding ≡ Some b.binding = sym m.bound ∙ b.bound in
    let same : m.binding ≡ b.binding = cc in
    ap (λ (x : Binding). x.src) same ∙ b.from

-- where the topic isn't bound, or has a destination, nothing may be stored so
pub not-nowhere : (names : List NameShards) (seen : Histories) (key : TopicKey) (upto : List ℕ)
    → ((src : ByteList) → ¬ (IsBoundNowhere key src seen.book))
    → Decides false (MayStoreNowhere names seen key upto)
not-nowhere names seen key upto none = (
  λ e. let bad : false ≡ true = e in absurd (cc),
  λ m. absurd (none m.binding.src (record {
    binding = m.binding;
    bound = m.bound;
    from = refl;
    nowhere = m.nowhere;
  })),
)

-- where the versions are one for each shard of its source, they may be stored so just where each is
-- reached
pub counted-decided : (names : List NameShards) (seen : Histories) (key : TopicKey)
    (src : ByteList) (upto : List ℕ) (fine : Bool) → IsBoundNowhere key src seen.book
    → length upto ≡ shards_of names src → Decides fine (AreReached names seen src upto)
    → Decides fine (MayStoreNowhere names seen key upto)
counted-decided names seen key src upto fine b counted d = (
  λ yes. record {
    binding = b.binding;
    bound = b.bound;
    nowhere = b.nowhere;
    counted = subst (λ s. length upto ≡ shards_of names s) (sym b.from) counted;
    reached = subst (λ s. AreReached names seen s upto) (sym b.from) (d.0 yes);
  },
  λ m. d.1 (subst (λ s. AreReached names seen s upto) (one-source names seen key src upto b m)
      m.reached),
)
