-- What a writer may append keeps the law of a site, by the core's law of events.
use Rattle.std.proofs.Common.{◌≡◌, ℕ, zero, suc, ◌+◌, ◌<◌, ◌≤◌, true, cond, List, [], ◌∷◌, ◌++◌, length, get_or, replicate, set, refl, sym, ap, subst, ◌∙◌, arith}
use Rattle.std.proofs.lemmas.List.{length-replicate, length-set}
use Rattle.tuple_values.specs.declared.names.NameShards.{NameShards}
use Rattle.shard_versions.specs.Deliveries.{admitted, marked}
use Rattle.shard_versions.specs.Histories.{History}
use Rattle.shard_versions.specs.declared.entry.Entry.{Entry}
use Rattle.topic_book.specs.Books.{raises}
use Rattle.topic_book.specs.Cells.{cells_in}
use Rattle.topic_book.specs.declared.topic.BookEntry.{BookEntry}
use Rattle.topic_book.specs.declared.topic.BookEntry.TheVariants as book
use Rattle.once_core.specs.Allowed.{IsStep, MayJoin}
use Rattle.once_core.specs.Cells.{history_at}
use Rattle.once_core.specs.Law.{IsLaw}
use Rattle.once_core.specs.Worlds.{grown, with_entry}
use Rattle.once_core.specs.declared.event.Event.TheVariants.{Write, Send, Bind, Store}
use Rattle.once_core.specs.declared.world.Histories.{Histories}
use Rattle.once_core.proofs.KeepingLemmas.{law_event, law_nothing}
use Rattle.exchange_rules.specs.Cells.{Log, history_in, book_in, log_of}
use Rattle.exchange_rules.specs.declared.log_entry.LogEntry.TheVariants as logged
use Rattle.exchange_rules.proofs.StepLemmas.{history_in-log_of}
use Rattle.site_laws.specs.Duties.{MayWrite, MayDeliver, MayAppendEntry}
use Rattle.site_laws.specs.Laws.{HasSeen, with_more}
use Rattle.site_laws.specs.SiteCells.{histories_in, shards_in, IsLawful}
use Rattle.site_laws.proofs.CellLemmas.{grown-there, with_entry-there, seen-grows, shard-at, shard-count}

-- a step that may be made over what was seen may be made where as many cells are
step-there : (names : List NameShards) (seen logs : List Log) (me c : ℕ) (step : List Entry)
    → c < cells_in names → cells_in names ≤ length logs
    → IsStep names (histories_in names seen) me c step
    → IsStep names (histories_in names logs) me c step
step-there names seen logs me c step lt le s =
    let e = shard-count (cells_in names) logs le in
    record { filled = s.filled; in_range = omega (arith, e, lt); fit = s.fit; own = s.own }

-- the law holds where the histories are these
lawful-of : (names : List NameShards) (logs : List Log) (c : ℕ) (more : Log) (hs : Histories)
    → length logs ≡ cells_in names + 1 → histories_in names (with_more logs c more) ≡ hs
    → IsLaw names hs → IsLawful names (with_more logs c more)
lawful-of names logs c more hs n e law = record {
  counted = length-set logs c (get_or logs c [] ++ more) ∙ n;
  law = subst (IsLaw names) (sym e) law;
}

-- a step at a shard
step-lawful : (names : List NameShards) (logs : List Log) (c : ℕ) (step : List Entry)
    → IsLawful names logs → c < cells_in names
    → IsLaw names (grown (histories_in names logs) c step)
    → IsLawful names (with_more logs c (log_of step))
step-lawful names logs c step law lt after =
    lawful-of names logs c (log_of step) (grown (histories_in names logs) c step) law.counted
    (grown-there names logs c (log_of step) lt
    ∙ ap (grown (histories_in names logs) c) (history_in-log_of step)) after

-- a step of writes keeps the law
pub write-keeps : (names : List NameShards) (me : ℕ) (logs seen : List Log) (c : ℕ)
    (step : List Entry) → IsLawful names logs → HasSeen seen logs c → c < cells_in names
    → MayWrite names me seen c step → IsLawful names (with_more logs c (log_of step))
write-keeps names me logs seen c step law has lt may =
    let counted = law.counted in
    let is = step-there names seen logs me c step lt (omega (arith, counted)) may.step_is in
    step-lawful names logs c step law lt
    (law_event names (histories_in names seen) (histories_in names logs) (Write me c step)
    (seen-grows names seen logs has.before) law.law (is, may.plain))

-- a delivery keeps the law
pub deliver-keeps : (names : List NameShards) (me : ℕ) (logs seen : List Log) (c : ℕ)
    (step : List Entry) → IsLawful names logs → HasSeen seen logs c → c < cells_in names
    → MayDeliver names me seen c step
    → IsLawful names (with_more logs c
    (log_of (marked me (admitted (history_in (get_or seen c [])) step))))
deliver-keeps names me logs seen c step law has lt may =
    let counted = law.counted in
    let hs = histories_in names logs in
    let is = step-there names seen logs me c step lt (omega (arith, counted)) may.step_is in
    let after : IsLaw names (grown hs c (marked me (admitted (history_at hs c) step))) =
    law_event names (histories_in names seen) hs (Send me c may.src step)
    (seen-grows names seen logs has.before) law.law (is, may.dispatch) in
    let here : history_at hs c ≡ history_in (get_or seen c []) =
    shard-at (cells_in names) logs c lt ∙ ap history_in (sym has.all) in
    step-lawful names logs c (marked me (admitted (history_in (get_or seen c [])) step)) law lt
    (subst (λ h. IsLaw names (grown hs c (marked me (admitted h step)))) here after)

-- an entry of the book keeps the law of histories
entry-law : (names : List NameShards) (me : ℕ) (logs seen : List Log) (e : BookEntry)
    → IsLawful names logs → HasSeen seen logs (cells_in names) → MayAppendEntry names me seen e
    → IsLaw names (with_entry (histories_in names logs) e)
entry-law names me logs seen (book.Bind by k b) law has may =
    let g = seen-grows names seen logs has.before in
    law_event names (histories_in names seen) (histories_in names logs) (Bind by k b) g law.law
    (subst (λ x. MayJoin names x (book.Bind by k b)) (ap book_in has.all) may.1)
entry-law names me logs seen (book.Store by k u) law has may =
    let g = seen-grows names seen logs has.before in
    let hs = histories_in names logs in
    let up : raises k hs.book u ≡ true =
    subst (λ x. raises k x u ≡ true) (ap book_in has.all) may.1.1 in
    let after : IsLaw names (cond (raises k hs.book u) (with_entry hs (book.Store by k u)) hs) =
    law_event names (histories_in names seen) hs (Store by k u) g law.law may.1.0 in
    subst (λ t. IsLaw names (cond t (with_entry hs (book.Store by k u)) hs)) up after

-- an entry of the book keeps the law
pub entry-keeps : (names : List NameShards) (me : ℕ) (logs seen : List Log) (e : BookEntry)
    → IsLawful names logs → HasSeen seen logs (cells_in names) → MayAppendEntry names me seen e
    → IsLawful names (with_more logs (cells_in names) (logged.Book e ∷ []))
entry-keeps names me logs seen e law has may =
    let counted = law.counted in
    lawful-of names logs (cells_in names) (logged.Book e ∷ [])
    (with_entry (histories_in names logs) e)
    law.counted (with_entry-there names logs e (omega (arith, counted)))
    (entry-law names me logs seen e law has may)

-- no history of a shard stands in cells with no entry
shards_in-nothing : (n m : ℕ) → n ≤ m → shards_in n (replicate m []) ≡ replicate n []
shards_in-nothing zero m le = refl
shards_in-nothing (suc n) zero le = absurd (omega arith)
shards_in-nothing (suc n) (suc m) le =
    ap (λ (l : List History). [] ∷ l) (shards_in-nothing n m (omega arith))

-- nothing is read in such a cell
nothing-at : (n cell : ℕ) → get_or {A = Log} (replicate n []) cell [] ≡ []
nothing-at zero cell = refl
nothing-at (suc n) zero = refl
nothing-at (suc n) (suc cell) = nothing-at n cell

-- the law holds where no cell has an entry
pub nothing-lawful : (names : List NameShards)
    → IsLawful names (replicate (cells_in names + 1) [])
nothing-lawful names =
    let n = cells_in names in
    let shards = shards_in-nothing n (n + 1) (omega arith) in
    let book = ap book_in (nothing-at (n + 1) n) in
    record {
      counted = simp length-replicate;
      law = subst (IsLaw names)
          (λ i. record { shards = sym shards i; book = sym book i }) (law_nothing names);
    }
