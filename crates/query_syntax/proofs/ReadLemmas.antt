-- What an answer by the machine says of the text.
use Rattle.std.proofs.Common.{◌≡◌, ℕ, ◌+◌, List, take, drop, Option, Some, None, ap, sym, ◌∙◌}
use Rattle.std.proofs.Common.{Result, Ok, Err, IfOk, IfErr, OnOk, take-append-drop}
use Rattle.tuple_values.specs.Document.{ByteList, Doc}
use Rattle.query_syntax.specs.Tree.{ClauseTree}
use Rattle.query_syntax.specs.Grammar.{IsQuery, IsPlace}
use Rattle.query_syntax.specs.Machine.{Machine, start}
use Rattle.query_syntax.specs.Reading.{run, asks, query_of, Sticks, Ends}
use Rattle.query_syntax.specs.Meaning.{IsReadable, text_matches, may_match}
use Rattle.query_syntax.specs.Matching.{matches}
use Rattle.query_syntax.specs.Fault.{IfPlaced, Answers}
use Rattle.query_syntax.specs.declared.query.Query.{Query}
use Rattle.query_syntax.specs.declared.fault.QueryFault.{QueryFault}
use Rattle.query_syntax.specs.declared.fault.QueryFault.TheVariants.{BadQuery, OutOfMemory}
use Rattle.query_syntax.proofs.RunLemmas.{run-append}
use Rattle.query_syntax.proofs.CompleteLemmas.{complete}
use Rattle.query_syntax.proofs.SoundLemmas.{sound}
use Rattle.query_syntax.proofs.PlaceLemmas.{ends_place}

-- what sticks says nothing
pub sticks_none : (bytes : ByteList) (at : ℕ) → Sticks bytes at → query_of bytes ≡ None
sticks_none bytes at s =
    ap asks
    (ap (run (Some start)) (sym (take-append-drop (at + 1) bytes))
    ∙ run-append (Some start) (take (at + 1) bytes) (drop (at + 1) bytes)
    ∙ ap (λ o. run o (drop (at + 1) bytes)) s.stuck)

-- the clauses at the end of a run are what the bytes say
pub query_of-end : (bytes : ByteList) (m : Machine) (clauses : Option (List ClauseTree))
    → run (Some start) bytes ≡ Some m → clauses ≡ asks (Some m) → query_of bytes ≡ clauses
query_of-end bytes m clauses is says = ap asks is ∙ sym says

-- bytes without a reading are no query
unread : (bytes : ByteList) → query_of bytes ≡ None → ¬ (IsReadable bytes)
unfolding IsReadable
unread bytes none (clauses, q) = let some = complete bytes clauses q in cc

-- an answer that is the computed one is what the bytes say
pub answers_ok : (bytes : ByteList) (result : Result Query QueryFault)
    → Answers (query_of bytes) result → IfOk result (λ query. IsQuery bytes query.clauses)
answers_ok bytes (Ok query) is = sound bytes query.clauses is
answers_ok bytes (Err fault) is = tt

-- which say nothing else
pub answers_only : (bytes : ByteList) (result : Result Query QueryFault)
    → Answers (query_of bytes) result
    → IfOk result (λ query. (other : List ClauseTree)
    → IsQuery bytes other → other ≡ query.clauses)
answers_only bytes (Ok query) is = λ other q. let same = complete bytes other q in cc
answers_only bytes (Err fault) is = tt

-- then the bytes can be read
pub answers_readable : (bytes : ByteList) (result : Result Query QueryFault)
    → Answers (query_of bytes) result → OnOk result (IsReadable bytes)
unfolding IsReadable
answers_readable bytes (Ok query) is = (query.clauses, sound bytes query.clauses is)
answers_readable bytes (Err fault) is = tt

-- and match what the answer matches
pub answers_meaning : (bytes : ByteList) (result : Result Query QueryFault)
    → Answers (query_of bytes) result
    → IfOk result (λ query. (doc : Doc) → text_matches bytes doc ≡ matches query.clauses doc)
unfolding text_matches
answers_meaning bytes (Ok query) is =
    λ doc. ap (λ (c : Option (List ClauseTree)). may_match c doc) is
answers_meaning bytes (Err fault) is = tt

-- and a refusal comes only where they can't be read
pub answers_bad : (bytes : ByteList) (result : Result Query QueryFault)
    → Answers (query_of bytes) result
    → IfErr result (λ fault. IfPlaced fault (λ _. ¬ (IsReadable bytes)))
answers_bad bytes (Ok query) is = tt
answers_bad bytes (Err (BadQuery at)) is = unread bytes is
answers_bad bytes (Err OutOfMemory) is = tt

-- a refusal where the run ends is at the place
pub answers_place : (bytes : ByteList) (result : Result Query QueryFault)
    → IfErr result (λ fault. IfPlaced fault (Ends bytes))
    → IfErr result (λ fault. IfPlaced fault (IsPlace bytes))
answers_place bytes (Ok query) is = tt
answers_place bytes (Err (BadQuery at)) is = ends_place bytes at is
answers_place bytes (Err OutOfMemory) is = tt
