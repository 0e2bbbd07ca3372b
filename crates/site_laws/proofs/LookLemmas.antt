-- What a look tells of the topics is true at it, and stays true.
use Rattle.std.proofs.Common.{◌≡◌, ℕ, ◌<◌, ◌≤◌, List, [], get_or, slice_index, Some, sym, ap, subst, ◌∙◌, arith, inl, inr}
use Rattle.std.proofs.lemmas.Bool.{cases_lt}
use Rattle.tuple_values.specs.declared.names.NameShards.{NameShards}
use Rattle.shard_versions.specs.Histories.{History}
use Rattle.topic_book.specs.Books.{binding_of, checkpoint}
use Rattle.topic_book.specs.Cells.{cells_in}
use Rattle.topic_book.specs.declared.topic.Binding.{Binding}
use Rattle.topic_book.proofs.BookLemmas.{binding-stays, checkpoint-append}
use Rattle.once_core.specs.Cells.{history_at}
use Rattle.once_core.specs.Law.{IsCovered}
use Rattle.once_core.specs.declared.world.Histories.{Histories}
use Rattle.once_core.proofs.GrowthLemmas.{covered_still, sent_within}
use Rattle.exchange_rules.specs.Cells.{Log, history_in}
use Rattle.site_laws.specs.Looks.{upto_of, IsLookCovered}
use Rattle.site_laws.specs.SiteCells.{histories_in, AreSeenOf, IsLawful}
use Rattle.site_laws.proofs.CellLemmas.{seen-grows, shard-at, shard-past}

-- what is covered up to a number is covered up to one that isn't greater
covered-within : (names : List NameShards) (hs : Histories) (b : Binding) (shard : ℕ)
    (h : History) (upto less : ℕ) → less ≤ upto → IsCovered names hs b shard h upto
    → IsCovered names hs b shard h less
covered-within names hs b shard h upto less le c = record {
  bounded = let d = c.bounded in omega (arith, le, d);
  sent = λ dest e.
      sent_within names hs b dest h (slice_index b.init shard) upto less le (c.sent dest e);
}

-- a cell that was seen whole has its history
seen-whole : (names : List NameShards) (seen logs : List Log) (cell : ℕ)
    → get_or seen cell [] ≡ get_or logs cell []
    → history_at (histories_in names seen) cell ≡ history_at (histories_in names logs) cell
seen-whole names seen logs cell same =
    let n = cells_in names in
    elim (cases_lt cell n) [
      | inl lt ↦ shard-at n seen cell lt ∙ (ap history_in same ∙ sym (shard-at n logs cell lt))
      | inr ge ↦ shard-past n seen cell ge ∙ sym (shard-past n logs cell ge)
    ]

-- what a look tells is true at it
pub look-covered : (names : List NameShards) (logs seen : List Log) (cell : ℕ)
    → IsLawful names logs → AreSeenOf seen logs → get_or seen cell [] ≡ get_or logs cell []
    → IsLookCovered names cell seen logs
look-covered names logs seen cell law w same key b shard is =
    let g = seen-grows names seen logs w in
    let s = histories_in names seen in
    let h = histories_in names logs in
    let bound : binding_of key h.book ≡ Some b =
    subst (λ x. binding_of key x ≡ Some b) (sym g.book.1)
    (binding-stays key b s.book g.book.0 is.bound) in
    let fewer : checkpoint key s.book shard ≤ checkpoint key h.book shard =
    omega (
      arith,
      ap (λ x. checkpoint key x shard) g.book.1
          ∙ checkpoint-append key s.book g.book.0 shard,
    ) in
    let all : IsCovered names h b shard (history_at h cell) (checkpoint key h.book shard) =
    subst (λ c. IsCovered names h b shard (history_at h c) (checkpoint key h.book shard)) is.here
    (law.law.covered key b bound shard is.below) in
    subst (λ x. IsCovered names h b shard x (checkpoint key s.book shard))
    (sym (seen-whole names seen logs cell same))
    (covered-within names h b shard (history_at h cell) (checkpoint key h.book shard)
    (checkpoint key s.book shard) fewer all)

-- and stays true as the logs grow
pub look-stays : (names : List NameShards) (cell : ℕ) (seen logs later : List Log)
    → IsLookCovered names cell seen logs → AreSeenOf logs later
    → IsLookCovered names cell seen later
look-stays names cell seen logs later covered w key b shard is =
    covered_still names (histories_in names logs) (histories_in names later)
    (seen-grows names logs later w) b shard (history_at (histories_in names seen) cell)
    (upto_of names seen key shard) (covered key b shard is)
