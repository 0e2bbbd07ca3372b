-- The cells of a load, and the text of its summary.
use Rattle.std.proofs.Common.{◌≡◌, ℕ, refl, sym, ap, ◌∙◌}
use Rattle.topic_book.specs.Cells.{cell_of}
use Rattle.once_core.specs.declared.world.Histories.{Histories}
use Rattle.load_rules.specs.Summary.{summary, summary_of, tally_in}
use Rattle.load_rules.specs.Topic.{dest_name, src_name}
use Rattle.load_rules.specs.Walks.{IsCount, tally_from}
use Rattle.load_rules.specs.declared.counts.Counts.{Counts}

-- the cells of the source begin with the first
src-cells : (hs : Histories) → tally_in hs src_name ≡ tally_from hs.shards 0
unfolding tally_in cell_of
src-cells hs = refl

-- those of the destination with the fifth
dest-cells : (hs : Histories) → tally_in hs dest_name ≡ tally_from hs.shards 4
unfolding tally_in cell_of
dest-cells hs = refl

-- equal numbers give the same text
same-text : (a b c d e k l m n o : ℕ) → a ≡ k → b ≡ l → c ≡ m → d ≡ n → e ≡ o
    → summary a b c d e ≡ summary k l m n o
same-text a b c d e k l m n o p q r s t =
    ap (λ x. summary x b c d e) p ∙ ap (λ x. summary k x c d e) q ∙ ap (λ x. summary k l x d e) r
    ∙ ap (λ x. summary k l m x e) s ∙ ap (λ x. summary k l m n x) t

-- the counts of both collections give the summary
pub summary-counted : (hs : Histories) (src dest : Counts)
    → IsCount (tally_from hs.shards 0) src → IsCount (tally_from hs.shards 4) dest
    → summary src.documents src.writes dest.documents dest.amounts dest.revisions ≡ summary_of hs
unfolding summary_of
summary-counted hs src dest s d =
    same-text _ _ _ _ _ _ _ _ _ _
    (s.documents ∙ sym (ap (λ t. t.documents) (src-cells hs)))
    (s.writes ∙ sym (ap (λ t. t.writes) (src-cells hs)))
    (d.documents ∙ sym (ap (λ t. t.documents) (dest-cells hs)))
    (d.amounts ∙ sym (ap (λ t. t.amounts) (dest-cells hs)))
    (d.revisions ∙ sym (ap (λ t. t.revisions) (dest-cells hs)))
