-- What the accesses that follow a course append to each cell.
use Rattle.std.proofs.Common.{◌≡◌, ◌≢◌, ℕ, zero, suc, ◌+◌, ◌<◌, ◌≤◌, ◌==◌, Bool, true, false, List, [], ◌∷◌, ◌++◌, map, refl, sym, ap, ◌∙◌, subst, arith, append-nil, inl, inr, ◌⊎◌, Result, Ok, Err, if◌then◌else◌}
use Rattle.std.proofs.lemmas.Bool.Decides.{eqb_tells}
use Rattle.shard_versions.specs.Histories.{History, is_pending}
use Rattle.shard_versions.specs.declared.cut.OwnMark.{OwnMark}
use Rattle.shard_versions.specs.declared.entry.Kind.{Kind}
use Rattle.shard_versions.specs.declared.entry.Kind.TheVariants.{Mark}
use Rattle.exchange_rules.specs.Accesses.{Access, a_look, a_step, at_mark, at_own, had_after, own_of}
use Rattle.exchange_rules.specs.Cells.{Log, Payload, history_in, signed, write}
use Rattle.exchange_rules.specs.Courses.{Course, ends, looks, makes, and_ok, and_then, unless_refused}
use Rattle.exchange_rules.specs.Following.{Follows}
use Rattle.exchange_rules.specs.Own.{step_at, steps_at}
use Rattle.exchange_rules.specs.Rows.{each_shard}
use Rattle.exchange_rules.specs.Steps.{commit_pending, commit_shard_course, commit_unless, fitting, is_full, step_course, write_course}
use Rattle.exchange_rules.specs.declared.fault.SiteFault.{SiteFault}
use Rattle.exchange_rules.proofs.ReachLemmas.{own_of-append}
use Rattle.load_mix.proofs.AddLemmas.{steps_at-append}

-- a course was followed to an answer that is no refusal, and then what follows it
pub record Passed {A B E : Type 0} (me : ℕ) (seen : List Log) (had : List ℕ)
    (p : Course (Result A E)) (next : A → Course (Result B E)) (accesses : List Access) (b : B)
    (end : List ℕ) : Type 0 where
  pub answer : A
  pub mid : List ℕ
  pub first : List Access
  pub last : List Access
  pub joined : accesses ≡ first ++ last
  pub began : Follows me seen had p first (ends (Ok answer)) mid
  pub went_on : Follows me seen mid (next answer) last (ends (Ok b)) end

-- where both were followed
pub passed-of : {A B E : Type 0} (me : ℕ) (seen : List Log) (had : List ℕ)
    (p : Course (Result A E)) (next : A → Course (Result B E)) (accesses : List Access) (b : B)
    (end : List ℕ) → Follows me seen had (and_ok p next) accesses (ends (Ok b)) end
    → Passed me seen had p next accesses b end
passed-of me seen had (ends (Ok a)) next accesses b end f = record {
  answer = a;
  mid = had;
  first = [];
  last = accesses;
  joined = refl;
  began = (refl, refl);
  went_on = f;
}
passed-of {A} {B} {E} me seen had (ends (Err refusal)) next [] b end f =
    let e : ◌≡◌ {A = Course (Result B E)} (ends (Ok b)) (ends (Err refusal)) = f.0 in absurd (cc)
passed-of me seen had (ends (Err refusal)) next (access ∷ accesses) b end f = absurd f.0
passed-of me seen had (looks c see) next [] b end f =
    let e : ends (Ok b) ≡ looks c (λ log. and_then (see log) (unless_refused next)) = f.0 in
    absurd (cc)
passed-of me seen had (makes c step rest) next [] b end f =
    let e : ends (Ok b) ≡ makes c step (and_then rest (unless_refused next)) = f.0 in absurd (cc)
passed-of me seen had (looks c see) next (a_step o ∷ accesses) b end f = absurd f.0
passed-of me seen had (makes c step rest) next (a_look m ∷ accesses) b end f = absurd f.0
passed-of me seen had (looks c see) next (a_look m ∷ accesses) b end f =
    let q = passed-of me seen (had_after had (a_look m)) (see (at_mark seen m)) next accesses b
    end f.1 in
    record {
      answer = q.answer;
      mid = q.mid;
      first = a_look m ∷ q.first;
      last = q.last;
      joined = ap (λ x. a_look m ∷ x) q.joined;
      began = (f.0, q.began);
      went_on = q.went_on;
    }
passed-of me seen had (makes c step rest) next (a_step o ∷ accesses) b end f =
    let q = passed-of me seen (had_after had (a_step o)) rest next accesses b end f.1 in
    record {
      answer = q.answer;
      mid = q.mid;
      first = a_step o ∷ q.first;
      last = q.last;
      joined = ap (λ x. a_step o ∷ x) q.joined;
      began = (f.0, q.began);
      went_on = q.went_on;
    }

-- what both parts appended to a cell
pub steps_at-joined : (c : ℕ) (seen : List Log) (accesses a b : List Access) → accesses ≡ a ++ b
    → steps_at c seen (own_of accesses)
    ≡ steps_at c seen (own_of a) ++ steps_at c seen (own_of b)
steps_at-joined c seen accesses a b e =
    ap (λ x. steps_at c seen (own_of x)) e
    ∙ (ap (steps_at c seen) (own_of-append a b) ∙ steps_at-append c seen (own_of a) (own_of b))

-- these own marks say that this was appended to the cell, and nothing to another
pub record IsOnly (seen : List Log) (cell : ℕ) (step : Log) (own : List OwnMark) : Type 0 where
  pub here : steps_at cell seen own ≡ step
  pub elsewhere : (c : ℕ) → c ≢ cell → steps_at c seen own ≡ []

-- where nothing was appended
only_none : (seen : List Log) (cell : ℕ) → IsOnly seen cell [] []
only_none seen cell = record { here = refl; elsewhere = λ c n. refl }

-- a course that has ended appends nothing
pub ended_only : {A : Type 0} (me : ℕ) (seen : List Log) (had : List ℕ) (cell : ℕ) (a b : A)
    (accesses : List Access) (end : List ℕ)
    → Follows me seen had (ends a) accesses (ends b) end → IsOnly seen cell [] (own_of accesses)
ended_only me seen had cell a b [] end f = only_none seen cell
ended_only me seen had cell a b (access ∷ accesses) end f = absurd f.0

-- a test of a number with itself
same_test : (n : ℕ) → (n == n) ≡ true
same_test n = elim (eqb_tells n n) [ inl w ↦ w.0 | inr w ↦ absurd (w.1 refl) ]

-- a test of two numbers that differ
other_test : (m n : ℕ) → m ≢ n → (m == n) ≡ false
other_test m n d = elim (eqb_tells m n) [ inl w ↦ absurd (d w.1) | inr w ↦ w.0 ]

-- a step is all that is appended
made_only : {A : Type 0} (me : ℕ) (seen : List Log) (had : List ℕ) (cell : ℕ)
    (step : List Payload) (a b : A) (accesses : List Access) (end : List ℕ)
    → Follows me seen had (makes cell step (ends a)) accesses (ends b) end
    → IsOnly seen cell (signed me step) (own_of accesses)
made_only {A} me seen had cell step a b [] end f =
    let e : ◌≡◌ {A = Course A} (ends b) (makes cell step (ends a)) = f.0 in absurd (cc)
made_only me seen had cell step a b (a_look m ∷ accesses) end f = absurd f.0
made_only me seen had cell step a b (a_step o ∷ access ∷ accesses) end f = absurd f.1.0
made_only me seen had cell step a b (a_step o ∷ []) end f = record {
  here = append-nil (step_at cell seen o)
      ∙ (ap (λ c. if c == cell then at_own seen o else []) f.0.cell_is
      ∙ (ap (λ t. if t then at_own seen o else []) (same_test cell) ∙ f.0.appended));
  elsewhere = λ c n. append-nil (step_at c seen o)
      ∙ (ap (λ x. if x == c then at_own seen o else []) f.0.cell_is
      ∙ ap (λ t. if t then at_own seen o else []) (other_test cell c (λ e. n (sym e))));
}

-- where a step fits, it is all that is appended
fitting_only : (me : ℕ) (seen : List Log) (had : List ℕ) (limit cell : ℕ) (step : List Kind)
    (refusal : SiteFault) (h : History) (accesses : List Access) (end : List ℕ)
    → Follows me seen had (fitting limit cell step refusal h) accesses (ends (Ok tt)) end
    → IsOnly seen cell (signed me (map write step)) (own_of accesses)
fitting_only me seen had limit cell step refusal h accesses end =
    go (is_full limit h step) accesses
  where
    go : (full : Bool) (accesses : List Access)
        → Follows {A = Result (Unit {0}) SiteFault} me seen had
        (if full then ends (Err refusal) else makes cell (map write step) (ends (Ok tt)))
        accesses (ends (Ok tt)) end
        → IsOnly seen cell (signed me (map write step)) (own_of accesses)
    go true [] f =
        let e : ◌≡◌ {A = Course (Result (Unit {0}) SiteFault)} (ends (Ok tt)) (ends (Err refusal)) =
        f.0 in absurd (cc)
    go true (access ∷ accesses) f = absurd f.0
    go false accesses f =
        made_only me seen had cell (map write step) (Ok tt) (Ok tt) accesses end f

-- a step at a shard, where there is any, is all that is appended
pub write_only : (me : ℕ) (seen : List Log) (had : List ℕ) (limit cell : ℕ) (step : List Kind)
    (refusal : SiteFault) (accesses : List Access) (end : List ℕ)
    → Follows me seen had (write_course limit cell step refusal) accesses (ends (Ok tt)) end
    → IsOnly seen cell (signed me (map write step)) (own_of accesses)
write_only me seen had limit cell [] refusal accesses end f =
    ended_only {A = Result (Unit {0}) SiteFault} me seen had cell (Ok tt) (Ok tt) accesses end f
write_only me seen had limit cell (k ∷ ks) refusal [] end f =
    let e : ◌≡◌ {A = Course (Result (Unit {0}) SiteFault)} (ends (Ok tt))
    (step_course limit cell (k ∷ ks) refusal) = f.0 in absurd (cc)
write_only me seen had limit cell (k ∷ ks) refusal (a_step o ∷ accesses) end f = absurd f.0
write_only me seen had limit cell (k ∷ ks) refusal (a_look m ∷ accesses) end f =
    fitting_only me seen (had_after had (a_look m)) limit cell (k ∷ ks) refusal
    (history_in (at_mark seen m)) accesses end f.1

-- the entries are none, or a Mark of this writer
abbrev pub IsMarking : ℕ → Log → Type 0
IsMarking me log = (log ≡ []) ⊎ (log ≡ signed me (map write (Mark ∷ [])))

-- only this was appended, and it is none or a Mark
pub record IsMarked (me : ℕ) (seen : List Log) (cell : ℕ) (own : List OwnMark) : Type 0 where
  pub log : Log
  pub marking : IsMarking me log
  pub only : IsOnly seen cell log own

-- a Mark at a shard, where a write is pending, is all that is appended
pending_marked : (me : ℕ) (seen : List Log) (had : List ℕ) (limit cell : ℕ) (refusal : SiteFault)
    (h : History) (accesses : List Access) (end : List ℕ)
    → Follows me seen had (commit_pending limit cell refusal h) accesses (ends (Ok tt)) end
    → IsMarked me seen cell (own_of accesses)
pending_marked me seen had limit cell refusal h accesses end = go (is_pending h)
  where
    go : (pending : Bool)
        → Follows {A = Result (Unit {0}) SiteFault} me seen had
        (if pending then fitting limit cell (Mark ∷ []) refusal h else ends (Ok tt))
        accesses (ends (Ok tt)) end
        → IsMarked me seen cell (own_of accesses)
    go true f = record {
      log = signed me (map write (Mark ∷ []));
      marking = inr refl;
      only = fitting_only me seen had limit cell (Mark ∷ []) refusal h accesses end f;
    }
    go false f = record {
      log = [];
      marking = inl refl;
      only = ended_only {A = Result (Unit {0}) SiteFault} me seen had cell (Ok tt) (Ok tt) accesses
          end f;
    }

-- a shard that was written to gets no Mark of its own
pub written_only : (me : ℕ) (seen : List Log) (had : List ℕ) (limit cell writes : ℕ)
    (refusal : SiteFault) (accesses : List Access) (end : List ℕ) → 0 < writes
    → Follows me seen had (commit_unless limit cell writes refusal) accesses (ends (Ok tt)) end
    → IsOnly seen cell [] (own_of accesses)
written_only me seen had limit cell zero refusal accesses end lt f = absurd (omega arith)
written_only me seen had limit cell (suc writes) refusal accesses end lt f =
    ended_only {A = Result (Unit {0}) SiteFault} me seen had cell (Ok tt) (Ok tt) accesses end f

-- and any other at most one
pub commit_marked : (me : ℕ) (seen : List Log) (had : List ℕ) (limit cell writes : ℕ)
    (refusal : SiteFault) (accesses : List Access) (end : List ℕ)
    → Follows me seen had (commit_unless limit cell writes refusal) accesses (ends (Ok tt)) end
    → IsMarked me seen cell (own_of accesses)
commit_marked me seen had limit cell (suc writes) refusal accesses end f = record {
  log = [];
  marking = inl refl;
  only = ended_only {A = Result (Unit {0}) SiteFault} me seen had cell (Ok tt) (Ok tt) accesses end
      f;
}
commit_marked me seen had limit cell zero refusal [] end f =
    let e : ◌≡◌ {A = Course (Result (Unit {0}) SiteFault)} (ends (Ok tt))
    (commit_shard_course limit cell refusal) = f.0 in absurd (cc)
commit_marked me seen had limit cell zero refusal (a_step o ∷ accesses) end f = absurd f.0
commit_marked me seen had limit cell zero refusal (a_look m ∷ accesses) end f =
    pending_marked me seen (had_after had (a_look m)) limit cell refusal
    (history_in (at_mark seen m)) accesses end f.1

-- what was appended fits this shard's cell, and nothing was to another
pub record IsStep (Fits : ℕ → Log → Type 0) (seen : List Log) (s : ℕ) (own : List OwnMark)
    : Type 0 where
  pub here : Fits s (steps_at s seen own)
  pub elsewhere : (c : ℕ) → c ≢ s → steps_at c seen own ≡ []

-- what was appended fits each of so many shards' cells from this one on, and nothing was to another
pub record AreSteps (Fits : ℕ → Log → Type 0) (seen : List Log) (s left : ℕ) (own : List OwnMark)
    : Type 0 where
  pub here : (x : ℕ) → s ≤ x → x < s + left → Fits x (steps_at x seen own)
  pub before : (c : ℕ) → c < s → steps_at c seen own ≡ []
  pub behind : (c : ℕ) → s + left ≤ c → steps_at c seen own ≡ []

-- one more shard
one_more : (Fits : ℕ → Log → Type 0) (seen : List Log) (s left : ℕ) (accesses a b : List Access)
    → accesses ≡ a ++ b → IsStep Fits seen s (own_of a) → AreSteps Fits seen (s + 1) left (own_of b)
    → AreSteps Fits seen s (suc left) (own_of accesses)
one_more Fits seen s left accesses a b e x y =
    let at = λ (c : ℕ). steps_at-joined c seen accesses a b e in
    let first = λ (c : ℕ). steps_at c seen (own_of a) in
    let last = λ (c : ℕ). steps_at c seen (own_of b) in
    record {
      here = λ c low high. elim (eqb_tells c s) [
        | inl w ↦
            let lt : s < s + 1 = omega arith in
            let all : steps_at s seen (own_of accesses) ≡ first s =
            at s ∙ (ap (λ l. first s ++ l) (y.before s lt) ∙ append-nil (first s)) in
            subst (λ n. Fits n (steps_at n seen (own_of accesses))) (sym w.1)
            (subst (Fits s) (sym all) x.here)
        | inr w ↦
            let n : c ≢ s = w.1 in
            let up : s + 1 ≤ c = omega arith in
            let down : c < s + 1 + left = omega arith in
            let all : steps_at c seen (own_of accesses) ≡ last c =
            at c ∙ ap (λ l. l ++ last c) (x.elsewhere c n) in
            subst (Fits c) (sym all) (y.here c up down)
      ];
      before = λ c lt.
          let n : c ≢ s = omega arith in
          let less : c < s + 1 = omega arith in
          at c ∙ (ap (λ l. l ++ last c) (x.elsewhere c n) ∙ y.before c less);
      behind = λ c le.
          let n : c ≢ s = omega arith in
          let more : s + 1 + left ≤ c = omega arith in
          at c ∙ (ap (λ l. l ++ last c) (x.elsewhere c n) ∙ y.behind c more);
    }

-- what is done at each of so many shards
pub each_steps : (Fits : ℕ → Log → Type 0) (me : ℕ) (seen : List Log)
    (at : ℕ → Course (Result (Unit {0}) SiteFault))
    (one : (s : ℕ) (had : List ℕ) (accesses : List Access) (end : List ℕ)
    → Follows me seen had (at s) accesses (ends (Ok tt)) end → IsStep Fits seen s (own_of accesses))
    (s left : ℕ) (had : List ℕ) (accesses : List Access) (end : List ℕ)
    → Follows me seen had (each_shard at s left) accesses (ends (Ok tt)) end
    → AreSteps Fits seen s left (own_of accesses)
each_steps Fits me seen at one s zero had (access ∷ accesses) end f = absurd f.0
each_steps Fits me seen at one s zero had [] end f = record {
  here = λ c low high. absurd (omega arith);
  before = λ c lt. refl;
  behind = λ c le. refl;
}
each_steps Fits me seen at one s (suc left) had accesses end f =
    let p = passed-of me seen had (at s) (λ _. each_shard at (s + 1) left) accesses tt end f in
    one_more Fits seen s left accesses p.first p.last p.joined
    (one s had p.first p.mid p.began)
    (each_steps Fits me seen at one (s + 1) left p.mid p.last end p.went_on)
