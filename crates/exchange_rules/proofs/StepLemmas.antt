-- One step at a shard: what a look decides, and what stands of it.
use Rattle.std.proofs.Common.{◌≡◌, ℕ, zero, suc, ◌+◌, ◌<◌, Bool, true, false, List, [], ◌∷◌, length, get_or, map, refl, sym, ap, ◌∙◌, subst, arith, if◌then◌else◌}
use Rattle.std.specs.Prelude.{sum_by, Result, Ok, Err}
use Rattle.std.proofs.lemmas.List.Sums.{sum_by-cons}
use Rattle.shard_versions.specs.Histories.{History, is_pending}
use Rattle.shard_versions.specs.Sizes.{entries_bytes, kind_bytes}
use Rattle.shard_versions.specs.declared.entry.Entry.{Entry}
use Rattle.shard_versions.specs.declared.entry.Kind.{Kind}
use Rattle.shard_versions.specs.declared.entry.Kind.TheVariants.{Mark}
use Rattle.exchange_rules.specs.Cells.{Log, log_of, signed, write, history_in}
use Rattle.exchange_rules.specs.Courses.{Course, ends, looks, makes}
use Rattle.exchange_rules.specs.Following.{Writer}
use Rattle.exchange_rules.specs.Primitives.{LooksAt, made}
use Rattle.exchange_rules.specs.Calls.{HasAppended, IsStopped, Refused, Passed, IsFaultFor}
use Rattle.exchange_rules.specs.Steps.{is_full, fitting, step_course, write_course, commit_pending, commit_shard_course, commit_unless, kinds_of, entries_by, AreBy, writes_in}
use Rattle.exchange_rules.specs.declared.log_entry.LogEntry.TheVariants as logged
use Rattle.exchange_rules.specs.declared.fault.SiteFault.{SiteFault}
use Rattle.exchange_rules.specs.declared.fault.SiteFault.TheVariants.{ShardFull, TopicBound, BookFull, LogFault, CellClosed, OutOfMemory}
use Rattle.exchange_rules.proofs.AppendedLemmas.{appended_none, appended_same, stopped_at, passed_on}
use Rattle.exchange_rules.proofs.PrimitiveLemmas.{looks_from, made_from}

-- what a step is where it fits, and where it doesn't
fitting_is : (limit c : ℕ) (step : List Kind) (refusal : SiteFault) (h : History) (full : Bool)
    → is_full limit h step ≡ full
    → fitting limit c step refusal h
    ≡ (if full then ends (Err refusal) else makes c (map write step) (ends (Ok tt)))
fitting_is limit c step refusal h full e =
    ap (λ b. if b then ends (Err refusal) else makes c (map write step) (ends (Ok tt))) e

-- the step was appended
pub fitting_appended : (old new : Writer) (limit c : ℕ) (step : List Kind) (refusal : SiteFault)
    (h : History) → c < length old.seen → is_full limit h step ≡ false
    → new ≡ made old c (map write step)
    → HasAppended old new (fitting limit c step refusal h) (ends (Ok tt)) (writes_in step)
fitting_appended old new limit c step refusal h lt f m =
    subst (λ p. HasAppended old new p (ends (Ok tt)) (writes_in step))
    (sym (fitting_is limit c step refusal h false f))
    (made_from old new c step (ends (Ok tt)) lt m)

-- the step was refused, and nothing has changed
pub fitting_refused : (old new : Writer) (limit c : ℕ) (step : List Kind) (refusal : SiteFault)
    (h : History) → is_full limit h step ≡ true → new ≡ old
    → HasAppended old new (fitting limit c step refusal h) (ends (Err refusal)) 0
fitting_refused old new limit c step refusal h f e =
    subst (λ p. HasAppended old new p (ends (Err refusal)) 0)
    (sym (fitting_is limit c step refusal h true f))
    (appended_same old new (ends (Err refusal)) e)

-- where it is told, or memory is wanting to tell it
pub refused_for : (before : ℕ) (old new : Writer) (limit c : ℕ) (step : List Kind)
    (refusal : SiteFault) (h : History) (fault : SiteFault) → is_full limit h step ≡ true
    → new ≡ old → IsFaultFor refusal before fault
    → Refused before old new (fitting limit c step refusal h) fault
refused_for before old new limit c step refusal h (ShardFull collection shard n) f e t =
    (subst (λ x. HasAppended old new (fitting limit c step refusal h) (ends (Err x)) 0) (sym t)
    (fitting_refused old new limit c step refusal h f e)).reached
refused_for before old new limit c step refusal h (TopicBound kept) f e t =
    (subst (λ x. HasAppended old new (fitting limit c step refusal h) (ends (Err x)) 0) (sym t)
    (fitting_refused old new limit c step refusal h f e)).reached
refused_for before old new limit c step refusal h (BookFull topics) f e t =
    (subst (λ x. HasAppended old new (fitting limit c step refusal h) (ends (Err x)) 0) (sym t)
    (fitting_refused old new limit c step refusal h f e)).reached
refused_for before old new limit c step refusal h (LogFault cell n) f e t = absurd t
refused_for before old new limit c step refusal h (CellClosed cell n) f e t = absurd t
refused_for before old new limit c step refusal h (OutOfMemory n) f e t =
    subst (IsStopped before old new (fitting limit c step refusal h)) (sym t)
    (stopped_at before old new (fitting limit c step refusal h) (ends (Err refusal))
    (fitting_refused old new limit c step refusal h f e))

-- a part of a call that changed nothing for want of memory
pub nothing_done : {A : Type 0} (before : ℕ) (old new : Writer) (p : Course (Result A SiteFault))
    → new ≡ old → IsStopped before old new p before
nothing_done before old new p e = stopped_at before old new p p (appended_same old new p e)

-- what follows a look is what it decides on
pub look_passed : {A : Type 0} (before : ℕ) (old mid new : Writer) (c : ℕ)
    (see : Log → Course (Result A SiteFault)) (n : ℕ) (r : Result A SiteFault)
    → c < length old.seen → LooksAt old mid c
    → Passed before mid new (see (get_or mid.seen c [])) n r
    → Passed before old new (looks c see) n r
look_passed before old mid new c see n r lt l p =
    passed_on before old mid new (looks c see) (see (get_or mid.seen c [])) n r
    (looks_from old mid c see lt l) p

-- nothing is to be committed where no write is pending
pub commit_pending_none : (limit c : ℕ) (refusal : SiteFault) (h : History) → is_pending h ≡ false
    → commit_pending limit c refusal h ≡ ends (Ok tt)
commit_pending_none limit c refusal h e =
    ap (λ b. if b then fitting limit c (Mark ∷ []) refusal h else ends (Ok tt)) e

-- and a Mark where one is
pub commit_pending_some : (limit c : ℕ) (refusal : SiteFault) (h : History) → is_pending h ≡ true
    → commit_pending limit c refusal h ≡ fitting limit c (Mark ∷ []) refusal h
commit_pending_some limit c refusal h e =
    ap (λ b. if b then fitting limit c (Mark ∷ []) refusal h else ends (Ok tt)) e

-- a step is written where there is something to write
pub write_some : (limit c : ℕ) (step : List Kind) (refusal : SiteFault) → 0 < length step
    → write_course limit c step refusal ≡ step_course limit c step refusal
write_some limit c [] refusal lt = absurd (omega arith)
write_some limit c (k ∷ ks) refusal lt = refl

-- and not where there is none
pub write_none : (limit c : ℕ) (step : List Kind) (refusal : SiteFault) → length step ≡ 0
    → write_course limit c step refusal ≡ ends (Ok tt)
write_none limit c [] refusal e = refl
write_none limit c (k ∷ ks) refusal e = absurd (omega arith)

-- a shard is committed where nothing was written there
pub commit_none : (limit c writes : ℕ) (refusal : SiteFault) → writes ≡ 0
    → commit_unless limit c writes refusal ≡ commit_shard_course limit c refusal
commit_none limit c zero refusal e = refl
commit_none limit c (suc writes) refusal e = absurd (omega arith)

-- and not where there was a write
pub commit_some : (limit c writes : ℕ) (refusal : SiteFault) → 0 < writes
    → commit_unless limit c writes refusal ≡ ends (Ok tt)
commit_some limit c zero refusal lt = absurd (omega arith)
commit_some limit c (suc writes) refusal lt = refl

-- entries of this writer are their kinds, signed
pub log_of-signed : (me : ℕ) (es : List Entry) → AreBy me es
    → log_of es ≡ signed me (map write (kinds_of es))
log_of-signed me [] b = refl
log_of-signed me (e ∷ es) b =
    let rest = log_of-signed me es b.1 in
    ap (λ n. logged.Shard (record { by = n; kind = e.kind }) ∷ log_of es) b.0
    ∙ ap (λ x. logged.Shard (record { by = me; kind = e.kind }) ∷ x) rest

-- the counted bytes of entries are those of their kinds
pub entries_bytes-kinds : (es : List Entry) → entries_bytes es ≡ sum_by kind_bytes (kinds_of es)
entries_bytes-kinds [] = refl
entries_bytes-kinds (e ∷ es) =
    ap (λ n. kind_bytes e.kind + n) (entries_bytes-kinds es)
    ∙ sym (sum_by-cons kind_bytes e.kind (kinds_of es))

-- kinds as entries are those kinds
pub kinds_of-entries_by : (me : ℕ) (ks : List Kind) → kinds_of (entries_by me ks) ≡ ks
kinds_of-entries_by me [] = refl
kinds_of-entries_by me (k ∷ ks) = ap (λ x. k ∷ x) (kinds_of-entries_by me ks)

-- and the writer's
pub entries_by_are : (me : ℕ) (ks : List Kind) → AreBy me (entries_by me ks)
entries_by_are me [] = tt
entries_by_are me (k ∷ ks) = (refl, entries_by_are me ks)

-- the history that stands in a shard's cell
pub history_in-log_of : (h : History) → history_in (log_of h) ≡ h
history_in-log_of [] = refl
history_in-log_of (e ∷ h) = ap (λ x. e ∷ x) (history_in-log_of h)

-- nothing is done where no write is pending
pub commit_pending_nothing : (w : Writer) (limit c : ℕ) (refusal : SiteFault) (h : History)
    → is_pending h ≡ false → HasAppended w w (commit_pending limit c refusal h) (ends (Ok tt)) 0
commit_pending_nothing w limit c refusal h e =
    subst (λ p. HasAppended w w p (ends (Ok tt)) 0) (sym (commit_pending_none limit c refusal h e))
    (appended_none w (ends (Ok tt)))

-- a Mark where one is
pub commit_pending_passed : (before : ℕ) (old new : Writer) (limit c : ℕ) (refusal : SiteFault)
    (h : History) (step : List Entry) (n : ℕ) (r : Result (Unit {0}) SiteFault)
    → is_pending h ≡ true → step ≡ record { by = n; kind = Mark } ∷ []
    → Passed before old new (fitting limit c (kinds_of step) refusal h) (writes_in (kinds_of step))
    r → Passed before old new (commit_pending limit c refusal h) 0 r
commit_pending_passed before old new limit c refusal h step n r e is p =
    subst (λ x. Passed before old new x 0 r) (sym (commit_pending_some limit c refusal h e))
    (subst (λ (s : List Entry). Passed before old new (fitting limit c (kinds_of s) refusal h)
    (writes_in (kinds_of s)) r) is p)

-- a look that stopped before it began
pub look_none : {A : Type 0} (old new : Writer) (p : Course A) → new ≡ old
    → IsStopped 0 old new p 0
look_none old new p e = stopped_at 0 old new p p (appended_same old new p e)

-- or right after it
pub look_begun : {A : Type 0} (old mid : Writer) (c : ℕ) (see : Log → Course A)
    → c < length old.seen → LooksAt old mid c → IsStopped 0 old mid (looks c see) 0
look_begun old mid c see lt l =
    stopped_at 0 old mid (looks c see) (see (get_or mid.seen c [])) (looks_from old mid c see lt l)
