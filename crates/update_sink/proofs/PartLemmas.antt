-- What was done of the parts of a course that was followed to its answer.
use Rattle.std.proofs.Common.{◌≡◌, ℕ, ◌+◌, List, [], ◌∷◌, ◌++◌, get_or, set, take, drop, refl, sym, ap, ◌∙◌}
use Rattle.std.proofs.lemmas.List.{get_or-set_same, take-append-drop}
use Rattle.shard_versions.specs.declared.cut.CutMark.{CutMark}
use Rattle.shard_versions.specs.declared.cut.OwnMark.{OwnMark}
use Rattle.exchange_rules.specs.Accesses.{Access, a_look, a_step, at_mark, at_own, had_after, IsLook, IsOwn}
use Rattle.exchange_rules.specs.Cells.{Log, Payload, signed}
use Rattle.exchange_rules.specs.Courses.{Course, ends, looks, makes, and_then}
use Rattle.exchange_rules.specs.Following.{Follows}

-- the first part was followed to an answer, and then what follows it
pub record Parted {A B : Type 0} (me : ℕ) (seen : List Log) (had : List ℕ) (p : Course A)
    (next : A → Course B) (b : B) (end : List ℕ) : Type 0 where
  pub answer : A
  pub mid : List ℕ
  pub first : List Access
  pub last : List Access
  pub began : Follows me seen had p first (ends answer) mid
  pub went_on : Follows me seen mid (next answer) last (ends b) end

-- where both were followed
pub parted-of : {A B : Type 0} (me : ℕ) (seen : List Log) (had : List ℕ) (p : Course A)
    (next : A → Course B) (accesses : List Access) (b : B) (end : List ℕ)
    → Follows me seen had (and_then p next) accesses (ends b) end
    → Parted me seen had p next b end
parted-of me seen had (ends a) next accesses b end f = record {
  answer = a;
  mid = had;
  first = [];
  last = accesses;
  began = (refl, refl);
  went_on = f;
}
parted-of me seen had (looks c see) next [] b end f =
    let e : ends b ≡ looks c (λ log. and_then (see log) next) = f.0 in absurd (cc)
parted-of me seen had (makes c step rest) next [] b end f =
    let e : ends b ≡ makes c step (and_then rest next) = f.0 in absurd (cc)
parted-of me seen had (looks c see) next (a_step o ∷ accesses) b end f = absurd f.0
parted-of me seen had (makes c step rest) next (a_look m ∷ accesses) b end f = absurd f.0
parted-of me seen had (looks c see) next (a_look m ∷ accesses) b end f =
    let q = parted-of me seen (had_after had (a_look m)) (see (at_mark seen m)) next accesses b
    end f.1 in
    record {
      answer = q.answer;
      mid = q.mid;
      first = a_look m ∷ q.first;
      last = q.last;
      began = (f.0, q.began);
      went_on = q.went_on;
    }
parted-of me seen had (makes c step rest) next (a_step o ∷ accesses) b end f =
    let q = parted-of me seen (had_after had (a_step o)) rest next accesses b end f.1 in
    record {
      answer = q.answer;
      mid = q.mid;
      first = a_step o ∷ q.first;
      last = q.last;
      began = (f.0, q.began);
      went_on = q.went_on;
    }

-- a look was made, and then what it leads to
pub record Looked {A : Type 0} (me : ℕ) (seen : List Log) (had : List ℕ) (cell : ℕ)
    (see : Log → Course A) (a : A) (end : List ℕ) : Type 0 where
  pub mark : CutMark
  pub look : IsLook me seen had cell mark
  pub later : List Access
  pub went_on : Follows me seen (set had mark.cell mark.upto) (see (at_mark seen mark)) later
      (ends a) end

-- where a look was followed
pub looked-of : {A : Type 0} (me : ℕ) (seen : List Log) (had : List ℕ) (cell : ℕ)
    (see : Log → Course A) (accesses : List Access) (a : A) (end : List ℕ)
    → Follows me seen had (looks cell see) accesses (ends a) end
    → Looked me seen had cell see a end
looked-of me seen had cell see [] a end f = let e : ends a ≡ looks cell see = f.0 in absurd (cc)
looked-of me seen had cell see (a_step o ∷ accesses) a end f = absurd f.0
looked-of me seen had cell see (a_look m ∷ accesses) a end f =
    record { mark = m; look = f.0; later = accesses; went_on = f.1 }

-- a step was made, and then what follows it
pub record Made {A : Type 0} (me : ℕ) (seen : List Log) (had : List ℕ) (cell : ℕ)
    (step : List Payload) (rest : Course A) (a : A) (end : List ℕ) : Type 0 where
  pub mark : OwnMark
  pub own : IsOwn me seen had cell step mark
  pub later : List Access
  pub went_on : Follows me seen (set had mark.cell (mark.from + mark.count)) rest later (ends a)
      end

-- where a step was followed
pub made-of : {A : Type 0} (me : ℕ) (seen : List Log) (had : List ℕ) (cell : ℕ)
    (step : List Payload) (rest : Course A) (accesses : List Access) (a : A) (end : List ℕ)
    → Follows me seen had (makes cell step rest) accesses (ends a) end
    → Made me seen had cell step rest a end
made-of me seen had cell step rest [] a end f =
    let e : ends a ≡ makes cell step rest = f.0 in absurd (cc)
made-of me seen had cell step rest (a_look m ∷ accesses) a end f = absurd f.0
made-of me seen had cell step rest (a_step o ∷ accesses) a end f =
    record { mark = o; own = f.0; later = accesses; went_on = f.1 }

-- a course that has ended has its answer
pub ended-of : {A : Type 0} (me : ℕ) (seen : List Log) (had : List ℕ) (b : A)
    (accesses : List Access) (a : A) (end : List ℕ)
    → Follows me seen had (ends b) accesses (ends a) end → a ≡ b
ended-of me seen had b [] a end f = let e : ends a ≡ ends b = f.0 in cc
ended-of me seen had b (access ∷ accesses) a end f = absurd f.0

module _ (me : ℕ) (seen : List Log) (had : List ℕ) (cell : ℕ) (m : CutMark)
    (look : IsLook me seen had cell m) where
  -- what the look showed is of its cell
  pub look-is : at_mark seen m ≡ take m.upto (get_or seen cell [])
  look-is = ap (λ c. take m.upto (get_or seen c [])) look.cell_is

  -- and begins what was seen of it at the end
  pub look-begins : get_or seen cell []
      ≡ at_mark seen m ++ drop m.upto (get_or seen cell [])
  look-begins =
      sym (take-append-drop m.upto (get_or seen cell []))
      ∙ ap (λ l. l ++ drop m.upto (get_or seen cell [])) (sym look-is)

  -- a step after it is right behind what it showed
  pub step-behind : (step : List Payload) (o : OwnMark)
      → IsOwn me seen (set had m.cell m.upto) cell step o
      → get_or seen cell [] ≡ at_mark seen m
      ++ (signed me step ++ drop o.count (drop m.upto (get_or seen cell [])))
  step-behind step o own =
      let log = get_or seen cell [] in
      let behind = drop m.upto log in
      let from : o.from ≡ m.upto =
      own.from ∙ (ap (λ c. get_or (set had c m.upto) cell 0) look.cell_is
      ∙ get_or-set_same had cell m.upto 0 look.known) in
      let there : at_own seen o ≡ take o.count behind =
      ap (λ c. take o.count (drop o.from (get_or seen c []))) own.cell_is
      ∙ ap (λ n. take o.count (drop n log)) from in
      let step_is : take o.count behind ≡ signed me step = sym there ∙ own.appended in
      look-begins
      ∙ ap (λ l. at_mark seen m ++ l)
      (sym (take-append-drop o.count behind) ∙ ap (λ l. l ++ drop o.count behind) step_is)
