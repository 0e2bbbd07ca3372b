-- What an expression's course answers alone, where no cell has an entry.
use Rattle.std.proofs.Common.{◌≡◌, ℕ, zero, suc, ◌+◌, List, [], ◌∷◌, ◌++◌, get_or, refl, sym, ap, ◌∙◌, subst, append_assoc}
use Rattle.std.specs.Prelude.{None, Result, Ok, Err, IfOk, replicate}
use Rattle.std.proofs.lemmas.List.{append-nil}
use Rattle.tuple_values.specs.Document.{ByteList, Doc}
use Rattle.tuple_values.specs.declared.memory.Memory.{Memory}
use Rattle.tuple_values.specs.declared.names.NameShards.{NameShards}
use Rattle.shard_versions.specs.declared.cut.CutPart.{CutPart}
use Rattle.topic_book.specs.Cells.{cells_in, cell_of}
use Rattle.topic_book.specs.Fitness.{shards_of}
use Rattle.exchange_rules.specs.Calls.{Carried}
use Rattle.exchange_rules.specs.Cells.{Log, history_in}
use Rattle.exchange_rules.specs.Courses.{Course, ends, looks, makes, and_then, appended, run_alone}
use Rattle.exchange_rules.specs.Following.{Answers, Writer, counts}
use Rattle.exchange_rules.specs.Own.{IsAlone}
use Rattle.exchange_rules.specs.Rows.{Layout, part_of, cut_shards, cut_course}
use Rattle.exchange_rules.proofs.AloneLemmas.{answers_alone}
use Rattle.expr_types.specs.ExprTree.{ExprTree}
use Rattle.running_site.specs.Passes.{new_writer}
use Rattle.expr_check.specs.Walk.{collections_of}
use Rattle.expr_check.specs.declared.roots.Roots.TheVariants.{Plain as Reads}
use Rattle.expr_text.specs.Reading.{expression_of}
use Rattle.root_runs.specs.Lists.{list_over}
use Rattle.root_runs.specs.Runs.{list_course}
use Rattle.stream_handler.specs.Requests.{plain_course}
use Rattle.stream_handler.specs.declared.outcome.Outcome.{Outcome}
use Rattle.stream_handler.specs.declared.outcome.Outcome.TheVariants.{ResultSet}
use Rattle.stream_commands.specs.Replies.{empty_parts, empty_cut, evaluated, meaning, outcome_of, alone_outcome, layout, logs_at_start}

-- none of the logs has an entry
abbrev pub AreEmpty : List Log → Type 0
AreEmpty logs = (cell : ℕ) → get_or logs cell [] ≡ []

-- so many new logs have none
new_logs : (n : ℕ) → AreEmpty (replicate n (let log : Log = [] in log))
new_logs zero cell = refl
new_logs (suc n) zero = refl
new_logs (suc n) (suc cell) = new_logs n cell

-- one course and then another, alone
alone_then : {A B : Type 0} (me : ℕ) (logs : List Log) (p : Course A) (next : A → Course B)
    → run_alone me logs (and_then p next)
    ≡ run_alone me (run_alone me logs p).0 (next (run_alone me logs p).1)
alone_then me logs (ends a) next = refl
alone_then me logs (looks cell see) next = alone_then me logs (see (get_or logs cell [])) next
alone_then me logs (makes cell step rest) next =
    alone_then me (appended me logs cell step) rest next

-- looks at shards of one collection
shards_alone : (me : ℕ) (logs : List Log) → AreEmpty logs → (names : List NameShards)
    (c : ByteList) (shard left : ℕ) (cut : List CutPart)
    → run_alone me logs (cut_shards names c shard left cut)
    ≡ (logs, cut ++ empty_parts c shard left)
shards_alone me logs empty names c shard zero cut =
    ap (λ (x : List CutPart). (logs, x)) (sym (append-nil cut))
shards_alone me logs empty names c shard (suc left) cut =
    let part = part_of c shard [] in
    ap (λ (log : Log). run_alone me logs (cut_shards names c (shard + 1) left
    (cut ++ part_of c shard (history_in log) ∷ []))) (empty (cell_of names c shard))
    ∙ (shards_alone me logs empty names c (shard + 1) left (cut ++ part ∷ [])
    ∙ ap (λ (x : List CutPart). (logs, x))
    (append_assoc cut (part ∷ []) (empty_parts c (shard + 1) left)))

-- a cut
cut_alone : (me : ℕ) (logs : List Log) → AreEmpty logs → (names : List NameShards)
    (cut : List CutPart) (cs : List ByteList)
    → run_alone me logs (cut_course names cut cs) ≡ (logs, cut ++ empty_cut names cs)
cut_alone me logs empty names cut [] = ap (λ (x : List CutPart). (logs, x)) (sym (append-nil cut))
cut_alone me logs empty names cut (c ∷ cs) =
    let parts = empty_parts c 0 (shards_of names c) in
    alone_then me logs (cut_shards names c 0 (shards_of names c) cut)
    (λ cut. cut_course names cut cs)
    ∙ (ap (λ (r : List Log × List CutPart). run_alone me r.0 (cut_course names r.1 cs))
    (shards_alone me logs empty names c 0 (shards_of names c) cut)
    ∙ (cut_alone me logs empty names (cut ++ parts) cs
    ∙ ap (λ (x : List CutPart). (logs, x)) (append_assoc cut parts (empty_cut names cs))))

-- the tuples of an expression
list_alone : (me : ℕ) (logs : List Log) → AreEmpty logs → (l : Layout) (e : ExprTree)
    → run_alone me logs (list_course l e)
    ≡ (logs, list_over e (empty_cut l.names (collections_of e)))
list_alone me logs empty l e =
    alone_then me logs (cut_course l.names [] (collections_of e)) (λ cut. ends (list_over e cut))
    ∙ ap (λ (r : List Log × List CutPart). run_alone me r.0 (ends (list_over e r.1)))
    (cut_alone me logs empty l.names [] (collections_of e))

-- an expression
expression_alone : (me : ℕ) (logs : List Log) → AreEmpty logs → (l : Layout)
    (read : Result ExprTree ByteList)
    → (run_alone me logs (plain_course l read)).1 ≡ outcome_of (evaluated l.names read)
expression_alone me logs empty l (Err text) = refl
expression_alone me logs empty l (Ok e) =
    ap (λ (r : List Log × Outcome). r.1)
    (alone_then me logs (list_course l e) (λ docs. ends (ResultSet docs None))
    ∙ ap (λ (r : List Log × List Doc). run_alone me r.0 (ends (ResultSet r.1 None)))
    (list_alone me logs empty l e))

-- over collections that are empty it is what the bytes mean
alone_outcome-is : (names : List NameShards) (bytes : ByteList)
    → alone_outcome names bytes ≡ outcome_of (meaning names bytes)
alone_outcome-is names bytes =
    expression_alone 1 (logs_at_start names) (new_logs (cells_in names + 1)) (layout names)
    (expression_of Reads names bytes)

-- what was answered at a new site without another writer
answered_alone : (names : List NameShards) (bytes : ByteList) (o : Outcome) (old new : Writer)
    (l : Layout) → old ≡ new_writer names 1 → l ≡ layout names
    → ((had : List ℕ) → IsAlone 1 had new.seen)
    → Answers old new (plain_course l (expression_of Reads l.names bytes)) o
    → o ≡ alone_outcome names bytes
answered_alone names bytes o old new l is at alone a =
    let start = new_writer names 1 in
    let here = subst
    (λ (k : Layout). Answers start new (plain_course k (expression_of Reads k.names bytes)) o) at
    (subst (λ (w : Writer). Answers w new (plain_course l (expression_of Reads l.names bytes)) o) is
    a) in
    let e = answers_alone start new (plain_course (layout names) (expression_of Reads names bytes)) o
    (alone (counts start.seen)) here in
    sym (ap (λ (r : List Log × Outcome). r.1) e)

module _ (names : List NameShards) (bytes : ByteList) (r : Result Outcome Memory) (old new : Writer)
    (l : Layout) (is : old ≡ new_writer names 1) (at : l ≡ layout names)
    (alone : (had : List ℕ) → IsAlone 1 had new.seen)
    (c : Carried old new (plain_course l (expression_of Reads l.names bytes)) r) where
  -- the same where memory may be wanting
  pub carried_alone : IfOk r (λ o. o ≡ alone_outcome names bytes)
  carried_alone = by_answer r c
    where
      by_answer : (r : Result Outcome Memory)
          → Carried old new (plain_course l (expression_of Reads l.names bytes)) r
          → IfOk r (λ o. o ≡ alone_outcome names bytes)
      by_answer (Ok o) a = answered_alone names bytes o old new l is at alone a
      by_answer (Err e) b = tt

  -- and it is what the bytes mean
  pub carried_meant : IfOk r (λ o. o ≡ outcome_of (meaning names bytes))
  carried_meant = by_answer r c
    where
      by_answer : (r : Result Outcome Memory)
          → Carried old new (plain_course l (expression_of Reads l.names bytes)) r
          → IfOk r (λ o. o ≡ outcome_of (meaning names bytes))
      by_answer (Ok o) a =
          answered_alone names bytes o old new l is at alone a ∙ alone_outcome-is names bytes
      by_answer (Err e) b = tt
