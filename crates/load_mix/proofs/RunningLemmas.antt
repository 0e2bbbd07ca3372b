-- Runs of a load's topic and looks, one after another: what was delivered stays so as more is seen.
use Rattle.std.proofs.Common.{◌≡◌, ℕ, zero, suc, List, [], ◌∷◌, ◌++◌, take, refl, sym, ap, ◌∙◌, subst}
use Rattle.std.specs.Prelude.{Contains}
use Rattle.std.specs.List.{AllByRecursion}
use Rattle.tuple_values.specs.Document.{Doc}
use Rattle.shard_versions.specs.Histories.{History, current}
use Rattle.shard_versions.specs.declared.entry.Entry.{Entry}
use Rattle.shard_versions.specs.declared.entry.Kind.{Kind}
use Rattle.shard_versions.specs.declared.entry.Kind.TheVariants.{Put, Del, Sent, Mark}
use Rattle.shard_versions.proofs.ListLemmas.{each_append, each_weaker}
use Rattle.topic_book.specs.declared.topic.BookEntry.{BookEntry}
use Rattle.once_core.specs.Cells.{shard_history}
use Rattle.once_core.specs.declared.world.Histories.{Histories}
use Rattle.once_core.proofs.GrowthLemmas.{Grows}
use Rattle.exchange_rules.specs.Bindings.{book_cell}
use Rattle.exchange_rules.specs.Cells.{Log, book_in, history_in}
use Rattle.exchange_rules.specs.Following.{Writer}
use Rattle.exchange_rules.specs.Following as following
use Rattle.exchange_rules.proofs.GrowthLemmas.{grows_at}
use Rattle.site_laws.specs.SiteCells.{histories_in}
use Rattle.site_laws.proofs.CellLemmas.{book-append, history-append, seen-grows}
use Rattle.topic_book.specs.Cells.{cell_of}
use Rattle.load_rules.specs.Loaded.{IsDelivered, IsDeliveredKind}
use Rattle.load_rules.specs.Topic.{load_names, src_name}
use Rattle.load_rules.specs.Worked.{HasRead, HasRun, IsOfTopic, dest_cell}
use Rattle.load_mix.proofs.AddLemmas.{added_join, added_none}

-- each first part of a list begins what goes on from it
begins : {X : Type 0} (u : ℕ) (h more : List X) → (v : ℕ) × (take v (h ++ more) ≡ take u h)
begins zero h more = (zero, refl)
begins (suc u) [] more = (zero, refl)
begins (suc u) (x ∷ h) more =
    let rest = begins u h more in (suc rest.0, ap (λ l. x ∷ l) rest.1)

module _ (hs ks : Histories) (g : Grows hs ks) where
  -- what was delivered from a document that was current is so of longer histories
  delivered-later : (version : ℕ) (sent : Doc) → IsDelivered hs version sent
      → IsDelivered ks version sent
  delivered-later version sent d =
      let h = shard_history load_names hs src_name d.shard in
      let longer = g.shards (cell_of load_names src_name d.shard) in
      let part = begins d.upto h longer.0 in
      record {
        shard = d.shard;
        within = d.within;
        upto = part.0;
        doc = d.doc;
        current = subst (λ l. Contains (current l) (version, d.doc))
            (sym (ap (take part.0) longer.1 ∙ part.1)) d.current;
        taken = d.taken;
        same_id = d.same_id;
        same_amount = d.same_amount;
        same_revision = d.same_revision;
      }

  kind-later : (k : Kind) → IsDeliveredKind hs k → IsDeliveredKind ks k
  kind-later (Put document) d = d
  kind-later (Del id) d = d
  kind-later (Sent from version document) d = (d.0, delivered-later version document d.1)
  kind-later Mark d = d

  -- each entry of a history
  all-later : (h : History) → AllByRecursion (λ e. IsDeliveredKind hs e.kind) h
      → AllByRecursion (λ e. IsDeliveredKind ks e.kind) h
  all-later h a =
      each_weaker (λ (e : Entry). IsDeliveredKind hs e.kind)
      (λ (e : Entry). IsDeliveredKind ks e.kind) (λ e. kind-later e.kind) h a

-- no run
pub run_none : (w : Writer) → HasRun w w
run_none w = record {
  steps = λ c. [];
  added = added_none w;
  delivered = λ shard lt. tt;
  booked = tt;
  elsewhere = λ c lt. refl;
}

-- runs, and then others
pub run_join : (old mid new : Writer) → HasRun old mid → HasRun mid new → HasRun old new
run_join old mid new x y =
    let g = seen-grows load_names mid.seen new.seen (grows_at mid.seen new.seen y.added.grown) in
    let ks = histories_in load_names new.seen in
    let P : Entry → Type 0 = λ e. IsDeliveredKind ks e.kind in
    record {
      steps = λ c. x.steps c ++ y.steps c;
      added = added_join x.steps y.steps old mid new x.added y.added;
      delivered = λ shard lt.
          let a = x.steps (dest_cell shard) in
          let b = y.steps (dest_cell shard) in
          subst (AllByRecursion P) (sym (history-append a b))
          (each_append P (history_in a) (history_in b)
          (all-later (histories_in load_names mid.seen) ks g (history_in a) (x.delivered shard lt))
          (y.delivered shard lt));
      booked =
          let a = x.steps (book_cell load_names) in
          let b = y.steps (book_cell load_names) in
          subst (AllByRecursion IsOfTopic) (sym (book-append a b))
          (each_append IsOfTopic (book_in a) (book_in b) x.booked y.booked);
      elsewhere = λ c lt.
          ap (λ l. l ++ y.steps c) (x.elsewhere c lt) ∙ y.elsewhere c lt;
    }

-- looks alone, and then others
pub read_join : (old mid new : Writer) → HasRead old mid → HasRead mid new → HasRead old new
read_join old mid new x y = added_join (λ c. []) (λ c. []) old mid new x y
