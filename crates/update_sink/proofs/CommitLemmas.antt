-- How the commits of tuples go on, tuple by tuple.
use Rattle.std.proofs.Common.{◌≡◌, ℕ, suc, ◌<◌, ◌≤◌, ◌+◌, List, ◌∷◌, length, get_or, drop, sym, ap, subst, ◌∙◌, Bool, true, false, Option, Result, Ok, Err}
use Rattle.std.specs.Prelude.{if◌then◌else◌}
use Rattle.std.proofs.lemmas.List.{at_drop_more, at_drop_all}
use Rattle.tuple_values.specs.Document.{ByteList, Doc}
use Rattle.exchange_rules.specs.Calls.{Answered, Ended, IsEnded, IsStopped}
use Rattle.exchange_rules.specs.Courses.{Course, ends, and_then, unless_refused}
use Rattle.exchange_rules.specs.Following.{Writer, Reaches, Answers, Begins}
use Rattle.exchange_rules.specs.Rows.{Layout, commit_course}
use Rattle.exchange_rules.specs.Updates.{commits_before, commits_course, is_reached, weight}
use Rattle.exchange_rules.specs.declared.fault.SiteFault.{SiteFault}
use Rattle.exchange_rules.specs.declared.fault.SiteFault.TheVariants.{ShardFull, TopicBound, BookFull, LogFault, CellClosed, OutOfMemory}
use Rattle.exchange_rules.proofs.AppendedLemmas.{broken_on, barred_on}
use Rattle.exchange_rules.proofs.ReachLemmas.{reaches_join, reaches_then}

-- the commits of the tuples that are left, after so many before them, and the one at the end
abbrev pub left_over : Layout → ByteList → Option ℕ → Bool → ℕ → List Doc
    → Course (Result (Unit {0}) SiteFault)
left_over l dest size summaries before docs =
    commits_course l dest (suc (commits_before size before summaries docs))

module _ (start old new : Writer) (course : Course (Result (Unit {0}) SiteFault))
    (here there : Layout) (dest : ByteList) (same : there ≡ here) where
  -- a commit is followed by those that are left
  abbrev goes_on : (n : ℕ) → Result (Unit {0}) SiteFault → Course (Result (Unit {0}) SiteFault)
  goes_on n r = unless_refused (λ _. commits_course here dest n) r

  -- a commit, by where it was made
  moved : (r : Result (Unit {0}) SiteFault) → Answered old new (commit_course there dest) r
      → Answered old new (commit_course here dest) r
  moved r a = subst (λ (l : Layout). Answered old new (commit_course l dest) r) same a

  -- a commit was made
  pub committed : (n : ℕ) → Reaches start old course (commits_course here dest (suc n))
      → Answered old new (commit_course there dest) (Ok tt)
      → Reaches start new course (commits_course here dest n)
  committed n r a =
      reaches_join start old new course (commits_course here dest (suc n))
      (commits_course here dest n) r
      (reaches_then old new (commit_course here dest) (ends (Ok tt)) (goes_on n) (moved (Ok tt) a))

  -- a commit was refused
  refused : (n : ℕ) (fault : SiteFault)
      → Reaches start old course (commits_course here dest (suc n))
      → Answers old new (commit_course here dest) (Err fault)
      → Answers start new course (Err fault)
  refused n fault r a =
      reaches_join start old new course (commits_course here dest (suc n)) (ends (Err fault)) r
      (reaches_then old new (commit_course here dest) (ends (Err fault)) (goes_on n) a)

  -- or it stopped
  ended : (n stand : ℕ) → Reaches start old course (commits_course here dest (suc n))
      → IsStopped 0 old new (commit_course here dest) stand → Begins start new course
  ended n stand r stopped =
      let rest = and_then stopped.rest (goes_on n) in (
        rest,
        reaches_join start old new course (commits_course here dest (suc n)) rest r
            (reaches_then old new (commit_course here dest) stopped.rest (goes_on n)
            stopped.stood.reached),
      )

  -- whatever it was refused for
  pub commit_ended : (n : ℕ) (fault : SiteFault)
      → Reaches start old course (commits_course here dest (suc n))
      → Answered old new (commit_course there dest) (Err fault)
      → IsEnded start new course fault
  commit_ended n (ShardFull collection shard stand) r a =
      refused n (ShardFull collection shard stand) r
      (moved (Err (ShardFull collection shard stand)) a)
  commit_ended n (TopicBound kept) r a =
      refused n (TopicBound kept) r (moved (Err (TopicBound kept)) a)
  commit_ended n (BookFull topics) r a =
      refused n (BookFull topics) r (moved (Err (BookFull topics)) a)
  commit_ended n (LogFault cell stand) r a =
      let stopped = moved (Err (LogFault cell stand)) a in (
        ended n stand r stopped.0,
        broken_on start old new course (commits_course here dest (suc n)) cell r stopped.1,
      )
  commit_ended n (CellClosed cell stand) r a =
      let stopped = moved (Err (CellClosed cell stand)) a in (
        ended n stand r stopped.0,
        barred_on start old new course (commits_course here dest (suc n)) cell r stopped.1,
      )
  commit_ended n (OutOfMemory stand) r a = ended n stand r (moved (Err (OutOfMemory stand)) a)

-- the commits that are left, where the next tuple reaches so many
pub left_reached : (size : Option ℕ) (before count : ℕ) (summaries : Bool) (docs : List Doc)
    (k : ℕ) (doc : Doc) → k < length docs → doc ≡ get_or docs k doc
    → count ≡ before + weight summaries doc → is_reached size count ≡ true
    → commits_before size before summaries (drop k docs)
    ≡ suc (commits_before size 0 summaries (drop (k + 1) docs))
left_reached size before count summaries docs k doc lt is total reached =
    at_drop_more (commits_before size before summaries) docs k doc lt
    ∙ ap (λ d. commits_before size before summaries (d ∷ drop (k + 1) docs)) (sym is)
    ∙ ap (λ b. if b then suc (commits_before size 0 summaries (drop (k + 1) docs))
    else commits_before size (before + weight summaries doc) summaries (drop (k + 1) docs))
    (ap (is_reached size) (sym total) ∙ reached)

-- and where it doesn't
pub left_below : (size : Option ℕ) (before count : ℕ) (summaries : Bool) (docs : List Doc)
    (k : ℕ) (doc : Doc) → k < length docs → doc ≡ get_or docs k doc
    → count ≡ before + weight summaries doc → is_reached size count ≡ false
    → commits_before size before summaries (drop k docs)
    ≡ commits_before size count summaries (drop (k + 1) docs)
left_below size before count summaries docs k doc lt is total below =
    at_drop_more (commits_before size before summaries) docs k doc lt
    ∙ ap (λ d. commits_before size before summaries (d ∷ drop (k + 1) docs)) (sym is)
    ∙ ap (λ b. if b then suc (commits_before size 0 summaries (drop (k + 1) docs))
    else commits_before size (before + weight summaries doc) summaries (drop (k + 1) docs))
    (ap (is_reached size) (sym total) ∙ below)
    ∙ ap (λ n. commits_before size n summaries (drop (k + 1) docs)) (sym total)

-- no commit but the last is left where no tuple is
pub left_none : (size : Option ℕ) (before : ℕ) (summaries : Bool) (docs : List Doc) (k : ℕ)
    → length docs ≤ k → commits_before size before summaries (drop k docs) ≡ 0
left_none size before summaries docs k all =
    at_drop_all (commits_before size before summaries) docs k all

-- the last commit ends all
pub commit_last : (start old new : Writer) (course : Course (Result (Unit {0}) SiteFault))
    (here there : Layout) (dest : ByteList) (same : there ≡ here) (r : Result (Unit {0}) SiteFault)
    → Reaches start old course (commits_course here dest 1)
    → Answered old new (commit_course there dest) r → Ended start new course r
commit_last start old new course here there dest same (Ok done) r a =
    committed start old new course here there dest same 0 r a
commit_last start old new course here there dest same (Err fault) r a =
    commit_ended start old new course here there dest same 0 fault r a
