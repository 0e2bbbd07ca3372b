-- Courses one after another, and those of daemons.
use Rattle.std.proofs.Common.{◌≡◌, List, [], ◌∷◌, ◌++◌, refl, sym, ap, subst, ◌∙◌}
use Rattle.exchange_rules.specs.Courses.{Course, ends, looks, makes, and_then}
use Rattle.exchange_rules.specs.Following.{Writer, Reaches, Answers, Begins, cleared}
use Rattle.exchange_rules.specs.Rows.{Layout}
use Rattle.exchange_rules.proofs.ReachLemmas.{reaches_join, reaches_then}
use Rattle.daemon_board.specs.Tickets.{Ticket}
use Rattle.daemon_steps.specs.Steps.{step_course, steps_course}

-- nothing comes after a course
pub and_then-ends : {A : Type 0} (p : Course A) → and_then p ends ≡ p
and_then-ends (ends a) = refl
and_then-ends (looks cell see) = λ i. looks cell (λ log. and_then-ends (see log) i)
and_then-ends (makes cell step rest) = ap (makes cell step) (and_then-ends rest)

-- three courses, one after another
pub and_then-assoc : {A B C : Type 0} (p : Course A) (f : A → Course B) (g : B → Course C)
    → and_then (and_then p f) g ≡ and_then p (λ a. and_then (f a) g)
and_then-assoc (ends a) f g = refl
and_then-assoc (looks cell see) f g =
    λ i. looks cell (λ log. and_then-assoc (see log) f g i)
and_then-assoc (makes cell step rest) f g = ap (makes cell step) (and_then-assoc rest f g)

-- the daemons in front, and then those behind them
pub steps_course-append : (l : Layout) (front back : List Ticket)
    → steps_course l (front ++ back)
    ≡ and_then (steps_course l front)
    (λ done. and_then (steps_course l back) (λ others. ends (done ++ others)))
steps_course-append l [] back = sym (and_then-ends (steps_course l back))
steps_course-append l (t ∷ front) back =
    (λ i. and_then (step_course l t)
    (λ first. and_then (steps_course-append l front back i) (λ others. ends (first ∷ others))))
    ∙ (λ i. and_then (step_course l t) (λ first. inner first i))
    ∙ (λ i. and_then (step_course l t) (λ first. sym (outer first) i))
    ∙ sym (and_then-assoc (step_course l t)
    (λ first. and_then (steps_course l front) (λ others. ends (first ∷ others))) behind)
  where
    behind : List Ticket → Course (List Ticket)
    behind done = and_then (steps_course l back) (λ others. ends (done ++ others))

    inner : (first : Ticket)
        → and_then (and_then (steps_course l front) behind) (λ others. ends (first ∷ others))
        ≡ and_then (steps_course l front) (λ done. behind (first ∷ done))
    inner first =
        and_then-assoc (steps_course l front) behind (λ others. ends (first ∷ others))
        ∙ (λ i. and_then (steps_course l front) (λ done. and_then-assoc (steps_course l back)
        (λ others. ends (done ++ others)) (λ others. ends (first ∷ others)) i))

    outer : (first : Ticket)
        → and_then (and_then (steps_course l front) (λ others. ends (first ∷ others))) behind
        ≡ and_then (steps_course l front) (λ done. behind (first ∷ done))
    outer first =
        and_then-assoc (steps_course l front) (λ others. ends (first ∷ others)) behind

module _ (l : Layout) (back done : List Ticket) where
  -- this course of a daemon and then those of the daemons behind it, where these are done
  abbrev and_behind : Course Ticket → Course (List Ticket)
  and_behind course =
      and_then
      (and_then course (λ first. and_then (steps_course l back) (λ others. ends (first ∷ others))))
      (λ others. ends (done ++ others))

  -- what is done of the first one's course is done of them all
  behind_on : (old new : Writer) (p q : Course Ticket) → Reaches old new p q
      → Reaches old new (and_behind p) (and_behind q)
  behind_on old new p q h =
      reaches_then old new _ _ (λ others. ends (done ++ others))
      (reaches_then old new p q
      (λ first. and_then (steps_course l back) (λ others. ends (first ∷ others))) h)

  -- where the daemons in front are done, the course of the next one follows
  behind_front : (old new : Writer) (front : List Ticket) (t : Ticket)
      → Answers old new (steps_course l front) done
      → Reaches old new (steps_course l (front ++ t ∷ back)) (and_behind (step_course l t))
  behind_front old new front t carried =
      subst (λ p. Reaches old new p (and_behind (step_course l t)))
      (sym (steps_course-append l front (t ∷ back)))
      (reaches_then old new (steps_course l front) (ends done)
      (λ ran. and_then (steps_course l (t ∷ back)) (λ others. ends (ran ++ others))) carried)

  -- a beginning of the next daemon's course is a beginning of the whole
  pub begun_behind : (old middle new : Writer) (front : List Ticket) (t : Ticket)
      → Answers old middle (steps_course l front) done → Begins middle new (step_course l t)
      → Begins old new (steps_course l (front ++ t ∷ back))
  begun_behind old middle new front t carried b = (
    and_behind b.0,
    reaches_join old middle new (steps_course l (front ++ t ∷ back)) (and_behind (step_course l t))
        (and_behind b.0) (behind_front old middle front t carried)
        (behind_on middle new (step_course l t) b.0 b.1),
  )

-- one more daemon ran
pub carried_behind : (l : Layout) (old middle new : Writer) (front done : List Ticket)
    (t u : Ticket)
    → Answers old middle (steps_course l front) done → Answers middle new (step_course l t) u
    → Answers old new (steps_course l (front ++ t ∷ [])) (done ++ u ∷ [])
carried_behind l old middle new front done t u carried step =
    reaches_join old middle new (steps_course l (front ++ t ∷ []))
    (and_behind l [] done (step_course l t)) (ends (done ++ u ∷ []))
    (behind_front l [] done old middle front t carried)
    (behind_on l [] done middle new (step_course l t) (ends u) step)

-- the writer with what stood in its record before
abbrev pub with_record : Writer → Writer → Writer
with_record before w = record w { marks = before.marks ++ w.marks; own = before.own ++ w.own }

-- what began with an empty record goes on with the record that there was
pub reaches_on : {A : Type 0} (before new : Writer) (p q : Course A)
    → Reaches (cleared before) new p q → Reaches before (with_record before new) p q
reaches_on before new p q r = record {
  same = r.same;
  grown = r.grown;
  accesses = r.accesses;
  marks = ap (λ marks. before.marks ++ marks) r.marks;
  own = ap (λ own. before.own ++ own) r.own;
  looked = r.looked;
  faults = r.faults;
  followed = r.followed;
}
