-- What holds of all entries that a course appends holds of those that a writer appended by it.
use Rattle.std.proofs.Common.{◌≡◌, ℕ, ◌==◌, Bool, true, false, List, [], ◌∷◌, ◌++◌, length, get_or, drop, sym, ap, ◌∙◌, subst, arith, inl, inr, if◌then◌else◌, Result, Ok, Err}
use Rattle.std.specs.List.{AllByRecursion}
use Rattle.std.proofs.Math.Seq.{drop-append_seam}
use Rattle.std.proofs.lemmas.Bool.Decides.{eqb_tells}
use Rattle.std.proofs.lemmas.List.{take_all}
use Rattle.shard_versions.specs.declared.cut.OwnMark.{OwnMark}
use Rattle.shard_versions.proofs.ListLemmas.{each_append, each_left, each_right}
use Rattle.exchange_rules.specs.Accesses.{Access, a_look, a_step, at_mark, at_own, at_owns, between, had_after, own_of}
use Rattle.exchange_rules.specs.Cells.{Log, signed}
use Rattle.exchange_rules.specs.Courses.{Course, ends, looks, makes, and_then, and_ok, unless_refused}
use Rattle.exchange_rules.specs.Following.{Follows, Reaches, Writer, counts}
use Rattle.exchange_rules.specs.Own.{by_writer, step_at, steps_at}
use Rattle.exchange_rules.specs.declared.log_entry.LogEntry.{LogEntry}
use Rattle.exchange_rules.proofs.CountLemmas.{by_writer-append, follows_counted}
use Rattle.exchange_rules.proofs.GrowthLemmas.{count_at, grows_at}
use Rattle.load_rules.specs.Worked.{HasAdded}

-- what holds of all that some own marks say holds of what they say of a cell
pub each-at : (P : LogEntry → Type 0) (cell : ℕ) (seen : List Log) (own : List OwnMark)
    → AllByRecursion P (at_owns seen own) → AllByRecursion P (steps_at cell seen own)
each-at P cell seen [] a = tt
each-at P cell seen (o ∷ own) a =
    each_append P (step_at cell seen o) (steps_at cell seen own)
    (go (o.cell == cell) (each_left P (at_own seen o) (at_owns seen own) a))
    (each-at P cell seen own (each_right P (at_own seen o) (at_owns seen own) a))
  where
    go : (b : Bool) → AllByRecursion P (at_own seen o)
        → AllByRecursion P (if b then at_own seen o else [])
    go true all = all
    go false all = tt

module _ (P : ℕ → LogEntry → Type 0) where
  -- each entry of its steps is so at its cell
  abbrev pub IsEachAt : {A : Type 0} → Course A → Type 0
  IsEachAt (ends a) = Unit {0}
  IsEachAt (looks cell see) = (log : Log) → IsEachAt (see log)
  IsEachAt (makes cell step rest) =
      ((me : ℕ) → AllByRecursion (P cell) (signed me step)) × IsEachAt rest

  -- a step that is so at its cell
  step-so : (cell at : ℕ) (seen : List Log) (o : OwnMark) → o.cell ≡ at
      → AllByRecursion (P at) (at_own seen o) → AllByRecursion (P cell) (step_at cell seen o)
  step-so cell at seen o is all =
      elim (eqb_tells o.cell cell) [
        | inl w ↦
            subst (AllByRecursion (P cell))
            (sym (ap (λ t. if t then at_own seen o else []) w.0))
            (subst (λ n. AllByRecursion (P n) (at_own seen o)) (sym is ∙ w.1) all)
        | inr w ↦
            subst (AllByRecursion (P cell))
            (sym (ap (λ t. if t then at_own seen o else []) w.0)) tt
      ]

  -- whoever follows it appends only such entries
  pub each-followed : {A : Type 0} (me : ℕ) (seen : List Log) (had : List ℕ) (course : Course A)
      (accesses : List Access) (rest : Course A) (end : List ℕ) (cell : ℕ) → IsEachAt course
      → Follows me seen had course accesses rest end
      → AllByRecursion (P cell) (steps_at cell seen (own_of accesses))
  each-followed me seen had course [] rest end cell k f = tt
  each-followed me seen had (ends a) (access ∷ accesses) rest end cell k f = absurd f.0
  each-followed me seen had (looks at see) (a_step o ∷ accesses) rest end cell k f = absurd f.0
  each-followed me seen had (makes at step on) (a_look m ∷ accesses) rest end cell k f =
      absurd f.0
  each-followed me seen had (looks at see) (a_look m ∷ accesses) rest end cell k f =
      each-followed me seen (had_after had (a_look m)) (see (at_mark seen m)) accesses rest end
      cell (k (at_mark seen m)) f.1
  each-followed me seen had (makes at step on) (a_step o ∷ accesses) rest end cell k f =
      each_append (P cell) (step_at cell seen o) (steps_at cell seen (own_of accesses))
      (step-so cell at seen o f.0.cell_is
      (subst (AllByRecursion (P at)) (sym f.0.appended) (k.0 me)))
      (each-followed me seen (had_after had (a_step o)) on accesses rest end cell k.1 f.1)

  -- a course and then others
  pub at-then : {A B : Type 0} (course : Course A) (next : A → Course B) → IsEachAt course
      → ((a : A) → IsEachAt (next a)) → IsEachAt (and_then course next)
  at-then (ends a) next k n = n a
  at-then (looks cell see) next k n = λ log. at-then (see log) next (k log) n
  at-then (makes cell step rest) next k n = (k.0, at-then rest next k.1 n)

  -- unless the first is refused
  pub at-ok : {A B E : Type 0} (course : Course (Result A E)) (next : A → Course (Result B E))
      → IsEachAt course → ((a : A) → IsEachAt (next a)) → IsEachAt (and_ok course next)
  at-ok {A} {B} {E} course next k n = at-then course (unless_refused next) k go
    where
      go : (r : Result A E) → IsEachAt (unless_refused next r)
      go (Ok a) = n a
      go (Err e) = tt

  -- one of two
  pub at-either : {A : Type 0} (b : Bool) (c d : Course A) → IsEachAt c → IsEachAt d
      → IsEachAt (if b then c else d)
  at-either true c d k n = k
  at-either false c d k n = n
