-- The courses of updates and commits of tuples (Solr Reference Guide, "Stream Decorator Reference",
-- update and commit).
use Rattle.std.specs.Prelude.{ℕ, ℤ, zero, suc, pos, negsuc, ◌+◌, Bool, true, false, List, [], ◌∷◌, codes, length, nat_lt, Option, Some, None, Result, Ok, Err, if◌then◌else◌}
use Rattle.tuple_values.specs.Document.{ByteList, Datum, Doc, long, text, group, value_at}
use Rattle.tuple_values.specs.declared.write.Write.{Write}
use Rattle.exchange_rules.specs.Batches.{Sunk, none_sunk, with_batch, told_summaries, stand_in, batches_of}
use Rattle.exchange_rules.specs.Courses.{Course, ends, and_then, and_ok}
use Rattle.exchange_rules.specs.Puts.{puts_of}
use Rattle.exchange_rules.specs.Rows.{Layout, index_course, commit_course}
use Rattle.exchange_rules.specs.declared.fault.SiteFault.{SiteFault}
use Rattle.exchange_rules.specs.declared.run.Ran.{Ran}
use Rattle.exchange_rules.specs.declared.run.RunFault.{RunFault}
use Rattle.exchange_rules.specs.declared.run.RunFault.TheVariants.{Site}

-- an update that stops with this fault, when so many writes of the batch at hand stand
abbrev pub ran_into : Sunk → ℕ → RunFault → Ran
ran_into s writes fault =
    record { summaries = s.summaries; stand = s.stand + writes; fault = Some fault }

-- what is done when a batch of so many tuples was written, or refused
abbrev pub after_batch : ℕ → Sunk → (Sunk → Course Ran) → Result ℕ SiteFault → Course Ran
after_batch tuples s next (Ok writes) = next (with_batch s tuples writes)
after_batch tuples s next (Err fault) = ends (ran_into s (stand_in fault) (Site fault))

-- a batch of so many tuples: it is an update with a commit, unless a tuple in it asks for no write
abbrev pub batch_course : Layout → ByteList → ℕ → Sunk → (Sunk → Course Ran)
    → Result (List Write) RunFault → Course Ran
batch_course l dest tuples s next (Ok writes) =
    and_then (index_course l dest writes true) (after_batch tuples s next)
batch_course l dest tuples s next (Err fault) = ends (ran_into s 0 fault)

-- the batches that are left, in order
abbrev pub batches_course : Layout → ByteList → Sunk → List (List Doc) → Course Ran
batches_course l dest s [] =
    ends (record { summaries = told_summaries s.summaries; stand = s.stand; fault = None })
batches_course l dest s (b ∷ batches) =
    batch_course l dest (length b) s (λ s. batches_course l dest s batches) (puts_of s.total b)

-- an update of tuples in batches of so many each
abbrev pub tuples_course : Layout → ByteList → ℕ → List Doc → Course Ran
tuples_course l dest size docs = batches_course l dest none_sunk (batches_of size docs)

-- so many commits of the collection
abbrev pub commits_course : Layout → ByteList → ℕ → Course (Result (Unit {0}) SiteFault)
commits_course l dest zero = ends (Ok tt)
commits_course l dest (suc n) = and_ok (commit_course l dest) (λ _. commits_course l dest n)

-- a number as a count; a negative one is 0
abbrev pub count_of : ℤ → ℕ
count_of (pos n) = n
count_of (negsuc n) = 0

-- the count that a value is, and 0 where it is none
abbrev pub counted : Option Datum → ℕ
counted None = 0
counted (Some (long n)) = count_of n
counted (Some (text bytes)) = 0
counted (Some (group rows)) = 0

-- for how many a tuple counts: a summary for its batch, any other tuple for one
abbrev pub weight : Bool → Doc → ℕ
weight true doc = counted (value_at (codes "batchIndexed") doc)
weight false doc = 1

-- whether so many tuples are reached; where no number is given none is
abbrev pub is_reached : Option ℕ → ℕ → Bool
is_reached None count = false
is_reached (Some zero) count = false
is_reached (Some (suc n)) count = nat_lt n count

-- how often these tuples reach so many, after so many before; each time it begins anew
abbrev pub commits_before : Option ℕ → ℕ → Bool → List Doc → ℕ
commits_before size before summaries [] = 0
commits_before size before summaries (doc ∷ docs) =
    if is_reached size (before + weight summaries doc)
    then suc (commits_before size 0 summaries docs)
    else commits_before size (before + weight summaries doc) summaries docs

-- the commits of tuples: one each time so many of them are reached, and one at the end
abbrev pub commit_round_course : Layout → ByteList → Option ℕ → Bool → List Doc
    → Course (Result (Unit {0}) SiteFault)
commit_round_course l dest size summaries docs =
    commits_course l dest (suc (commits_before size 0 summaries docs))
