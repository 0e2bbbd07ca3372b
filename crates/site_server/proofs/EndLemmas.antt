-- The end of a server.
use Rattle.std.proofs.Common.{ℕ, ◌≡◌, ◌+◌, List, ap, map, subst, ◌∙◌}
use Rattle.std.specs.Prelude.{All, Contains}
use Rattle.std.specs.List.{AllByRecursion}
use Rattle.std.proofs.lemmas.List.Elements.{All-map}
use Rattle.tuple_values.specs.declared.names.NameShards.{NameShards}
use Rattle.once_core.specs.Law.{IsLaw}
use Rattle.exchange_rules.specs.Cells.{author_of, Log}
use Rattle.stream_site.specs.Logs.{logs_in}
use Rattle.running_site.specs.Passes.{layout_in, numbers_to, writer_of}
use Rattle.running_site.specs.Plain.{TablePass}
use Rattle.running_site.specs.declared.pass.PassOf.{PassOf}
use Rattle.site_server.specs.Doors.{Doors}
use Rattle.site_server.specs.Ended.{IsEnded, IsRowServedBy, IsSeenOf, Worked}
use Rattle.site_server.specs.declared.serving.Served.{Served}
use Rattle.site_server.specs.declared.serving.Serving.{Serving}
use Rattle.site_server.proofs.ListLemmas.{each-weaker, holds-there}

-- what each pass has seen begins the logs, and so does what each worker that ended as one has
workers-see : {D : Type 0} (logs : List Log) (passes : List (PassOf TablePass))
    (workers : List (Worked D)) → All (λ pass. IsSeenOf logs (writer_of pass)) passes
    → AllByRecursion (λ x. Contains (map writer_of passes) x.writer) workers
    → AllByRecursion (λ x. IsSeenOf logs x.writer) workers
workers-see logs passes workers seen among =
    each-weaker (λ x. Contains (map writer_of passes) x.writer) (λ x. IsSeenOf logs x.writer)
    (λ x there. holds-there (IsSeenOf logs) (map writer_of passes) x.writer
    (All-map (IsSeenOf logs) writer_of passes seen) there)
    workers among

-- collections and a limit, by those that a server was started with
layout-of : (names had : List NameShards) (limit at : ℕ) → had ≡ names → at ≡ limit
    → layout_in had at ≡ layout_in names limit
layout-of names had limit at e f = ap (λ n. layout_in n at) e ∙ ap (layout_in names) f

-- a row was served at a site that was closed
pub row-ended : {D I O : Type 0} (kind : Doors D I O) (tells : ℕ → Type 0)
    (names had : List NameShards) (s : Serving) (limit count : ℕ) (old new : List D)
    (served : Served) (passes given : List (PassOf TablePass))
    → had ≡ names → limit ≡ s.limit → count ≡ s.workers + s.runners → given ≡ passes
    → IsRowServedBy kind tells (layout_in had limit) s.workers old new served.failed
    (map writer_of passes)
    → IsLaw had served.histories
    → All (All (λ entry. Contains (numbers_to count) (author_of entry)))
    (logs_in served.histories.shards served.histories.book)
    → All (λ pass. IsSeenOf (logs_in served.histories.shards served.histories.book)
    (writer_of pass)) given
    → IsEnded kind tells names s old new served
row-ended kind tells names had s limit count old new served passes given e f n there row law signed
    seen =
    let logs = logs_in served.histories.shards served.histories.book in
    let by : IsRowServedBy kind tells (layout_in names s.limit) s.workers old new served.failed
    (map writer_of passes) =
    subst (λ l. IsRowServedBy kind tells l s.workers old new served.failed (map writer_of passes))
    (layout-of names had s.limit limit e f) row in record {
      row = by.row;
      law = subst (λ x. IsLaw x served.histories) e law;
      signed =
          subst (λ m. All (All (λ entry. Contains (numbers_to m) (author_of entry))) logs) n signed;
      seen =
          workers-see logs passes by.row.workers
          (subst (All (λ pass. IsSeenOf logs (writer_of pass))) there seen) by.among;
    }
