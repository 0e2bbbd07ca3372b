-- The reading of a text with the place of its fault is the run of the machine.
use Rattle.std.proofs.Common.{◌≡◌, ℕ, zero, suc, ◌+◌, ◌<◌, List, [], ◌∷◌, length, take, Option}
use Rattle.std.proofs.Common.{Some, None, Result, Ok, Err, refl, ap, sym, ◌∙◌, arith, add-one}
use Rattle.std.specs.Prelude.{IfErr}
use Rattle.tuple_values.specs.Document.{ByteList}
use Rattle.query_syntax.specs.Machine.{Machine, start}
use Rattle.query_syntax.specs.Steps.{step}
use Rattle.query_syntax.specs.Tree.{ClauseTree}
use Rattle.query_syntax.specs.Reading.{run, asks, query_of, asked_at, read_from, read_of, Ends}
use Rattle.query_syntax.specs.Reading.{at_a_byte, at_the_end}
use Rattle.query_syntax.proofs.RunLemmas.{run-nothing}
use Rattle.query_syntax.specs.Fault.{Answers, Reads, IfPlaced}
use Rattle.query_syntax.specs.declared.query.Query.{Query}
use Rattle.query_syntax.specs.declared.fault.QueryFault.{QueryFault}
use Rattle.query_syntax.specs.declared.fault.QueryFault.TheVariants.{BadQuery, OutOfMemory}

-- bytes that are run to their end are read as the clauses there
read_from-run : (at : ℕ) (o : Option Machine) (bytes : ByteList) (m : Machine)
    → run o bytes ≡ Some m → read_from at o bytes ≡ asked_at (at + length bytes) (asks (Some m))
read_from-run at None bytes m e = absurd (cc)
read_from-run at (Some n) [] m e =
    ap (λ k. asked_at k (asks (Some n))) (omega arith) ∙ ap (λ o. asked_at (at + 0) (asks o)) e
read_from-run at (Some n) (b ∷ bytes) m e =
    read_from-run (at + 1) (step n b (b ∷ [])) bytes m e
    ∙ ap (λ k. asked_at k (asks (Some m))) (omega arith)

-- bytes at whose first one no query goes on are read as its place
read_from-none : (at : ℕ) (bytes : ByteList) → read_from (at + 1) None bytes ≡ Err at
read_from-none at bytes = ap Err (omega arith)

-- bytes that stick at a place are read as that place
read_from-sticks : (at k : ℕ) (o : Option Machine) (m : Machine) (bytes : ByteList)
    → k < length bytes → run o (take k bytes) ≡ Some m → run o (take (suc k) bytes) ≡ None
    → read_from at o bytes ≡ Err (at + k)
read_from-sticks at k None m bytes lt before stuck = absurd (cc)
read_from-sticks at k (Some n) m [] lt before stuck = absurd (omega arith)
read_from-sticks at zero (Some n) m (b ∷ bytes) lt before stuck =
    let none : step n b (b ∷ []) ≡ None = sym (run-nothing (step n b (b ∷ []))) ∙ stuck in
    ap (λ o. read_from (at + 1) o bytes) none ∙ read_from-none at bytes ∙ ap Err (omega arith)
read_from-sticks at (suc k) (Some n) m (b ∷ bytes) lt before stuck =
    read_from-sticks (at + 1) k (step n b (b ∷ [])) m bytes (omega arith) before stuck
    ∙ ap Err (omega arith)

-- a text at whose place no query goes on is read as that place
pub read_of-ends : (bytes : ByteList) (at : ℕ) → Ends bytes at → read_of bytes ≡ Err at
unfolding read_of
read_of-ends bytes at (at_a_byte s) =
    read_from-sticks 0 at (Some start) s.machine bytes s.within s.before
    (ap (λ n. run (Some start) (take n bytes)) (sym (add-one at)) ∙ s.stuck)
    ∙ ap Err (omega arith)
read_of-ends bytes at (at_the_end m is ran wanting) =
    read_from-run 0 (Some start) bytes m ran
    ∙ ap (asked_at (0 + length bytes)) wanting ∙ ap Err (omega (arith, is))

-- clauses that are said there
said_there : (at : ℕ) (w : Option (List ClauseTree)) (clauses : List ClauseTree)
    → w ≡ Some clauses → asked_at at w ≡ Ok clauses
said_there at None clauses e = absurd (cc)
said_there at (Some others) clauses e = cc

-- a text that says clauses is read as those
pub read_of-says : (bytes : ByteList) (clauses : List ClauseTree)
    → query_of bytes ≡ Some clauses → read_of bytes ≡ Ok clauses
unfolding read_of
read_of-says bytes clauses said = go (run (Some start) bytes) refl said
  where
    go : (o : Option Machine) → run (Some start) bytes ≡ o
        → asks o ≡ Some clauses
        → read_from 0 (Some start) bytes ≡ Ok clauses
    go None ran e = absurd (cc)
    go (Some m) ran e =
        read_from-run 0 (Some start) bytes m ran
        ∙ said_there (0 + length bytes) (asks (Some m)) clauses e

-- so a reader's answers are the reading of its text
pub answers_reading : (bytes : ByteList) (answer : Result Query QueryFault)
    → Answers (query_of bytes) answer → IfErr answer (λ fault. IfPlaced fault (Ends bytes))
    → Reads (read_of bytes) answer
answers_reading bytes (Ok q) said place = read_of-says bytes q.clauses said
answers_reading bytes (Err (BadQuery at)) said place = read_of-ends bytes at place
answers_reading bytes (Err OutOfMemory) said place = tt
