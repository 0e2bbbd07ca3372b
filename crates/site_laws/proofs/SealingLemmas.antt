-- What a writer appends at once keeps the law of a site, under its number.
use Rattle.std.proofs.Common.{◌≡◌, ℕ, ◌<◌, List, [], ◌∷◌, ◌++◌, All, get_or, set, length, map, refl, sym, ap, subst, ◌∙◌, inl, inr}
use Rattle.std.specs.List.{AllByRecursion}
use Rattle.std.proofs.lemmas.List.Elements.{All-cons, All-nil}
use Rattle.tuple_values.specs.declared.names.NameShards.{NameShards}
use Rattle.shard_versions.specs.Deliveries.{admitted, marked}
use Rattle.shard_versions.specs.declared.entry.Entry.{Entry}
use Rattle.shard_versions.proofs.DeliveryLemmas.{admitted-each, marked-each}
use Rattle.topic_book.specs.Cells.{cells_in}
use Rattle.topic_book.specs.declared.topic.BookEntry.{BookEntry}
use Rattle.topic_book.specs.declared.topic.BookEntry.TheVariants as book
use Rattle.exchange_rules.specs.Cells.{Log, author_of, history_in, log_of}
use Rattle.exchange_rules.specs.declared.log_entry.LogEntry.{LogEntry}
use Rattle.exchange_rules.specs.declared.log_entry.LogEntry.TheVariants as logged
use Rattle.site_laws.specs.Laws.{HasSeen, with_more}
use Rattle.site_laws.specs.Sealings.{entries_of, MayAppend}
use Rattle.site_laws.specs.SiteCells.{IsLawful}
use Rattle.site_laws.specs.declared.sealing.Sealing.{Sealing}
use Rattle.site_laws.specs.declared.sealing.Sealing.TheVariants as sealing
use Rattle.site_laws.proofs.KeepLemmas.{write-keeps, deliver-keeps, entry-keeps}

-- what may be appended keeps the law
pub sealing-keeps : (names : List NameShards) (me : ℕ) (logs seen : List Log) (cell : ℕ)
    (x : Sealing) → IsLawful names logs → HasSeen seen logs cell → MayAppend names me seen cell x
    → IsLawful names (with_more logs cell (entries_of x))
sealing-keeps names me logs seen cell (sealing.Shard step) law has may =
    elim may.1 [
      | inl w ↦ write-keeps names me logs seen cell step law has may.0 w
      | inr a ↦
          subst (λ s. IsLawful names (with_more logs cell (log_of s))) (sym a.is)
          (deliver-keeps names me logs seen cell a.items law has may.0 a.allowed)
    ]
sealing-keeps names me logs seen cell (sealing.Book e) law has may =
    subst (λ c. IsLawful names (with_more logs c (logged.Book e ∷ []))) (sym may.0)
    (entry-keeps names me logs seen e law (subst (HasSeen seen logs) may.0 has) may.1)

-- the log of entries under a number
step-signed : (me : ℕ) (step : List Entry) → AllByRecursion (λ e. e.by ≡ me) step
    → All (λ e. author_of e ≡ me) (log_of step)
step-signed me [] own = All-nil (λ e. author_of e ≡ me)
step-signed me (e ∷ step) own =
    All-cons (λ e. author_of e ≡ me) (logged.Shard e) (log_of step) own.0
    (step-signed me step own.1)

-- an entry of the book under a number
entry-signed : (me : ℕ) (e : LogEntry) → author_of e ≡ me → All (λ e. author_of e ≡ me) (e ∷ [])
entry-signed me e own =
    All-cons (λ e. author_of e ≡ me) e [] own (All-nil (λ e. author_of e ≡ me))

-- what may be appended carries the writer's number
pub sealing-signed : (names : List NameShards) (me : ℕ) (seen : List Log) (cell : ℕ) (x : Sealing)
    → MayAppend names me seen cell x → All (λ e. author_of e ≡ me) (entries_of x)
sealing-signed names me seen cell (sealing.Shard step) may =
    step-signed me step (elim may.1 [
      | inl w ↦ w.step_is.own
      | inr a ↦
          let h = history_in (get_or seen cell []) in
          subst (AllByRecursion (λ e. e.by ≡ me)) (sym a.is)
          (marked-each (λ e. e.by ≡ me) me (admitted h a.items) refl
          (admitted-each (λ e. e.by ≡ me) h a.items a.allowed.step_is.own))
    ])
sealing-signed names me seen cell (sealing.Book (book.Bind by key b)) may =
    entry-signed me (logged.Book (book.Bind by key b)) may.1.0
sealing-signed names me seen cell (sealing.Book (book.Store by key upto)) may =
    entry-signed me (logged.Book (book.Store by key upto)) may.1.0
