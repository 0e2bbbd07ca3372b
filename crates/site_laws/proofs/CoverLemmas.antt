-- What was sent to a destination, shard by shard of it.
use Rattle.std.proofs.Common.{◌≡◌, ℕ, ◌<◌, ◌≤◌, max, List, [], ◌∷◌, ◌++◌, slice_index, refl, subst, arith}
use Rattle.std.specs.List.{AllByRecursion}
use Rattle.tuple_values.specs.Document.{ByteList, Doc}
use Rattle.tuple_values.specs.Keys.{shard_of}
use Rattle.tuple_values.specs.declared.names.NameShards.{NameShards}
use Rattle.shard_versions.specs.Deliveries.{sents, Reaches}
use Rattle.shard_versions.specs.Documents.{id_of}
use Rattle.shard_versions.specs.Histories.{History, current, top}
use Rattle.shard_versions.proofs.DeliveryLemmas.{reaches-grows}
use Rattle.shard_versions.proofs.ListLemmas.{each_weaker}
use Rattle.shard_versions.proofs.VersionLemmas.{current-old, versioned}
use Rattle.topic_book.specs.Fitness.{shards_of}
use Rattle.topic_book.specs.declared.topic.Binding.{Binding}
use Rattle.once_core.specs.Cells.{shard_history}
use Rattle.once_core.specs.Law.{takes, AreSent, IsSentIfTaken}
use Rattle.once_core.specs.declared.world.Histories.{Histories}
use Rattle.exchange_rules.specs.Cells.{Log}
use Rattle.site_laws.specs.Looks.{IsSeenSent, IsSentTo}
use Rattle.site_laws.specs.SiteCells.{histories_in}

module _ (names : List NameShards) (b : Binding) (dest : ByteList) where
  -- what was sent to the destination is at each shard of it
  pub sent-here : (hs : Histories) (there : ℕ) (h : History) (low high : ℕ)
      → AreSent names hs b dest h low high
      → AllByRecursion
      (IsSentTo names b dest there (shard_history names hs dest there) low high) (current h)
  unfolding AreSent
  sent-here hs there h low high a =
      each_weaker (IsSentIfTaken names hs b dest low high)
      (IsSentTo names b dest there (shard_history names hs dest there) low high)
      (λ p f is t l u. subst
      (λ s. Reaches p.0 (sents b.src (id_of p.1) (shard_history names hs dest s))) is (f t l u))
      (current h) a

  -- it stays as the destination grows
  pub sent-later : (there : ℕ) (h g more : History) (low high : ℕ)
      → AllByRecursion (IsSentTo names b dest there g low high) (current h)
      → AllByRecursion (IsSentTo names b dest there (g ++ more) low high) (current h)
  sent-later there h g more low high a =
      each_weaker (IsSentTo names b dest there g low high)
      (IsSentTo names b dest there (g ++ more) low high)
      (λ p f is t l u. reaches-grows p.0 b.src (id_of p.1) g more (f is t l u)) (current h) a

  -- it holds of the source as it grew, up to what was reached then
  pub sent-after : (there : ℕ) (h more g : History) (low high : ℕ) → high ≤ max (top h) low
      → AllByRecursion (IsSentTo names b dest there g low high) (current h)
      → AllByRecursion (IsSentTo names b dest there g low high) (current (h ++ more))
  sent-after there h more g low high le a =
      each_weaker (λ (p : ℕ × Doc). p.0 ≤ top h → IsSentTo names b dest there g low high p)
      (IsSentTo names b dest there g low high)
      (λ p f is t l u. f (omega (arith, le, l, u)) is t l u) (current (h ++ more))
      (current-old (IsSentTo names b dest there g low high) h more (versioned (h ++ more)) a)

  -- what holds at each shard of the destination holds of each document
  pub sent-everywhere : (seen : List Log) (low high : ℕ) (ps : List (ℕ × Doc))
      → 0 < shards_of names dest
      → ((there : ℕ) → there < shards_of names dest → AllByRecursion (IsSentTo names b dest there
      (shard_history names (histories_in names seen) dest there) low high) ps)
      → AllByRecursion (IsSeenSent names seen b dest low high) ps
  sent-everywhere seen low high [] some f = tt
  sent-everywhere seen low high (p ∷ ps) some f = (
    λ t l u.
        let below : shard_of (shards_of names dest) (id_of p.1) < shards_of names dest =
        omega arith in
        (f (shard_of (shards_of names dest) (id_of p.1)) below).0 refl t l u,
    sent-everywhere seen low high ps some (λ there lt. (f there lt).1),
  )
