-- A file is read in one way (own).
use Rattle.std.proofs.Common.{◌≡◌, ◌≢◌, ◌⊎◌, inl, inr, ⊎_elim, ℕ, ◌+◌, ◌-◌, ◌^◌, ◌<◌, ◌≤◌, List, [], ◌∷◌, ◌++◌, length, refl, sym, ◌∙◌, ap, subst, arith, append_assoc, length-append}
use Rattle.log_codec.proofs.StepLemmas.{body-one as spelled-one}
use Rattle.commit_log.specs.Frames.{at_rest, end_of, frame, frames, magic, sized}
use Rattle.log_codec.specs.Steps.{body_of, AreSpellable}
use Rattle.commit_log.specs.Steps.{bodies_of, AreSteps, IsStep, Step}
use Rattle.commit_log.specs.Files.{IsDamaged, IsFileOf, IsReadTo, IsUnread}
use Rattle.commit_log.specs.Stops.{file_of, AfterStop, Halfway}
use Rattle.commit_log.specs.Laws.{AStopKeepsTheSteps, DamageExcludes, OneDamage, OneReading, StopsAreHarmless}
use Rattle.commit_log.proofs.FrameLemmas.{end-push, frame-body, frame-one, frames-push, head-of, length-sized, past-magic, tail-of}

-- a step's body is shorter than 2^64 bytes
pub step-low : (step : Step) → IsStep step → length (body_of step) < 2 ^ 64
step-low step fits = fits.low

-- two steps with one body are one
pub body-one : (a b : Step) → IsStep a → IsStep b → body_of a ≡ body_of b → a ≡ b
body-one a b fa fb same = spelled-one a b fa.spelled fb.spelled same

pub bodies-push : (steps : List Step) (step : Step)
    → bodies_of (steps ++ step ∷ []) ≡ bodies_of steps ++ body_of step ∷ []
bodies-push [] step = refl
bodies-push (s ∷ steps) step = ap (λ (l : List (List ℕ)). body_of s ∷ l) (bodies-push steps step)

pub steps-push : (steps : List Step) (step : Step) → AreSteps steps → IsStep step
    → AreSteps (steps ++ step ∷ [])
steps-push [] step all fits = (fits, tt)
steps-push (s ∷ steps) step all fits = (all.0, steps-push steps step all.1 fits)

-- steps that end in one list are one list
pub frames-one : (a b : List Step) (x y : List ℕ) → AreSteps a → AreSteps b
    → frames (bodies_of a) ++ (0 ∷ x) ≡ frames (bodies_of b) ++ (0 ∷ y) → a ≡ b
frames-one [] [] x y fa fb same = refl
frames-one [] (b ∷ bs) x y fa fb same =
    let none : 0 ≡ 1 = ap (head-of 0) same in absurd (omega (arith, none))
frames-one (a ∷ us) [] x y fa fb same =
    let none : 1 ≡ 0 = ap (head-of 0) same in absurd (omega (arith, none))
frames-one (a ∷ us) (b ∷ bs) x y fa fb same =
    let both = frame-one (body_of a) (body_of b) (frames (bodies_of us)) (frames (bodies_of bs)) (0 ∷ x)
    (0 ∷ y) (step-low a fa.0) (step-low b fb.0) same in
    ap (λ (l : List Step). a ∷ l) (frames-one us bs x y fa.1 fb.1 both.1)
    ∙ ap (λ (h : Step). h ∷ bs) (body-one a b fa.0 fb.0 both.0)

-- where a place can't be read there is no list of steps
pub unread-none : (a b : List Step) (rest y : List ℕ) → AreSteps a → AreSteps b → IsUnread rest
    → frames (bodies_of a) ++ rest ≡ frames (bodies_of b) ++ (0 ∷ y) → ⊥
unread-none [] [] rest y fa fb unread same = unread.not_ended y same
unread-none [] (b ∷ bs) rest y fa fb unread same =
    unread.no_step b (frames (bodies_of bs) ++ (0 ∷ y)) fb.0
    (same ∙ append_assoc (frame (body_of b)) (frames (bodies_of bs)) (0 ∷ y))
unread-none (a ∷ us) [] rest y fa fb unread same =
    let none : 1 ≡ 0 = ap (head-of 0) same in omega (arith, none)
unread-none (a ∷ us) (b ∷ bs) rest y fa fb unread same =
    let both = frame-one (body_of a) (body_of b) (frames (bodies_of us)) (frames (bodies_of bs)) rest
    (0 ∷ y) (step-low a fa.0) (step-low b fb.0) same in
    unread-none us bs rest y fa.1 fb.1 unread both.1

-- two places that can't be read, behind steps of one file, are one
unread-one : (a b : List Step) (x y : List ℕ) → AreSteps a → AreSteps b → IsUnread x → IsUnread y
    → frames (bodies_of a) ++ x ≡ frames (bodies_of b) ++ y → a ≡ b
unread-one [] [] x y fa fb ux uy same = refl
unread-one [] (b ∷ bs) x y fa fb ux uy same =
    absurd (ux.no_step b (frames (bodies_of bs) ++ y) fb.0
    (same ∙ append_assoc (frame (body_of b)) (frames (bodies_of bs)) y))
unread-one (a ∷ us) [] x y fa fb ux uy same =
    absurd (uy.no_step a (frames (bodies_of us) ++ x) fa.0
    (sym same ∙ append_assoc (frame (body_of a)) (frames (bodies_of us)) x))
unread-one (a ∷ us) (b ∷ bs) x y fa fb ux uy same =
    let both = frame-one (body_of a) (body_of b) (frames (bodies_of us)) (frames (bodies_of bs)) x y
    (step-low a fa.0) (step-low b fb.0) same in
    ap (λ (l : List Step). a ∷ l) (unread-one us bs x y fa.1 fb.1 ux uy both.1)
    ∙ ap (λ (h : Step). h ∷ bs) (body-one a b fa.0 fb.0 both.0)

not-empty : (file x : List ℕ) → file ≡ magic ++ x → file ≡ [] → ⊥
not-empty file x is none = omega (arith, ap length is, ap length none)

-- steps of one file are one list
pub file-one : (file : List ℕ) (a b : List Step) → IsFileOf a file → IsFileOf b file → a ≡ b
file-one file a b fa fb = frames-one a b fa.rest fb.rest fa.fits fb.fits
    (past-magic (frames (bodies_of a) ++ (0 ∷ fa.rest)) (frames (bodies_of b) ++ (0 ∷ fb.rest))
    (sym fa.is ∙ fb.is))

pub one-reading : OneReading
one-reading file a b (inl na) (inl nb) = na.1 ∙ sym nb.1
one-reading file a b (inl na) (inr fb) = absurd
    (not-empty file (frames (bodies_of b) ++ (0 ∷ fb.rest)) fb.is na.0)
one-reading file a b (inr fa) (inl nb) = absurd
    (not-empty file (frames (bodies_of a) ++ (0 ∷ fa.rest)) fa.is nb.0)
one-reading file a b (inr fa) (inr fb) = file-one file a b fa fb

damage-excludes-file : (file : List ℕ) (at : ℕ) (steps : List Step) → IsDamaged file at
    → IsFileOf steps file → ⊥
damage-excludes-file file at steps (inl bad) f = bad.1.other (frames (bodies_of steps) ++ (0 ∷ f.rest)) f.is
damage-excludes-file file at steps (inr (before, rest, read, unread)) f =
    unread-none before steps rest f.rest read.fits f.fits unread
    (past-magic (frames (bodies_of before) ++ rest) (frames (bodies_of steps) ++ (0 ∷ f.rest))
    (sym read.is ∙ f.is))

damage-not-empty : (file : List ℕ) (at : ℕ) → IsDamaged file at → file ≡ [] → ⊥
damage-not-empty file at (inl bad) none = bad.1.not_empty none
damage-not-empty file at (inr (before, rest, read, unread)) none = not-empty file
    (frames (bodies_of before) ++ rest) read.is none

pub damage-excludes : DamageExcludes
damage-excludes file at steps bad (inl none) = damage-not-empty file at bad none.0
damage-excludes file at steps bad (inr f) = damage-excludes-file file at steps bad f

pub one-damage : OneDamage
one-damage file a b (inl na) (inl nb) = na.0 ∙ sym nb.0
one-damage file a b (inl na) (inr (before, rest, read, unread)) = absurd
    (na.1.other (frames (bodies_of before) ++ rest) read.is)
one-damage file a b (inr (before, rest, read, unread)) (inl nb) = absurd
    (nb.1.other (frames (bodies_of before) ++ rest) read.is)
one-damage file a b (inr (us, x, ru, ux)) (inr (bs, y, rb, uy)) =
    let same = unread-one us bs x y ru.fits rb.fits ux uy
    (past-magic (frames (bodies_of us) ++ x) (frames (bodies_of bs) ++ y) (sym ru.is ∙ rb.is)) in
    ru.place ∙ ap (λ (l : List Step). end_of (bodies_of l)) same ∙ sym rb.place

pub file-of-push : (steps : List Step) (step : Step)
    → file_of (steps ++ step ∷ []) ≡ at_rest (bodies_of steps ++ body_of step ∷ [])
file-of-push steps step = ap at_rest (bodies-push steps step)

pub kept : (steps : List Step) (step : Step) (file : List ℕ) → AreSteps steps → IsStep step
    → Halfway steps step file → IsFileOf steps file ⊎ IsFileOf (steps ++ step ∷ []) file
kept steps step file all fits (inl (rest, is)) = inl (record { rest = rest; is = is; fits = all })
kept steps step file all fits (inr is) = inr (record { rest = []; is = is ∙ sym (file-of-push steps step); fits = steps-push steps step all fits })

pub a-stop-keeps-the-steps : AStopKeepsTheSteps
a-stop-keeps-the-steps steps step file all fits half = ⊎_elim (λ f. inl (inr f)) (λ f. inr (inr f))
    (kept steps step file all fits half)

left-over : (steps : List Step) (step : Step) (file : List ℕ) → AfterStop steps step file
    → IsFileOf steps file ⊎ IsFileOf (steps ++ step ∷ []) file
left-over steps step file a = ⊎_elim (λ is. inl (record { rest = []; is = is; fits = a.fits }))
    (λ half. kept steps step file a.fits a.step_fits half) a.left

pub stops-are-harmless : StopsAreHarmless
stops-are-harmless steps step file a =
    let is = left-over steps step file a in (
      λ read stands. ⊎_elim (λ f. inl (one-reading file read steps stands (inr f)))
          (λ f. inr (one-reading file read (steps ++ step ∷ []) stands (inr f))) is,
      λ at bad. ⊎_elim (λ f. damage-excludes file at steps bad (inr f))
          (λ f. damage-excludes file at (steps ++ step ∷ []) bad (inr f)) is,
    )

-- what the reading of a file keeps
pub read-start : (file rest : List ℕ) → file ≡ magic ++ rest
    → IsReadTo file rest [] (length file - length rest)
read-start file rest is = record {
  is = is;
  place = omega
      (arith, ap length is, length-append magic rest);
  fits = tt;
}

pub read-within : (file rest : List ℕ) (steps : List Step) (at : ℕ) → IsReadTo file rest steps at
    → length rest ≤ length file
read-within file rest steps at r = omega (
  arith,
  ap length r.is,
  length-append magic
      (frames (bodies_of steps) ++ rest),
  length-append (frames (bodies_of steps)) rest,
)

pub read-next : (file rest after : List ℕ) (step : Step) (steps : List Step)
    → IsReadTo file rest steps (length file - length rest) → rest ≡ frame (body_of step) ++ after
    → IsStep step
    → IsReadTo file after (steps ++ step ∷ []) (length file - length after)
read-next file rest after step steps r split fits =
    let more : frames (bodies_of (steps ++ step ∷ [])) ≡ frames (bodies_of steps) ++ frame
    (body_of step) = ap frames (bodies-push steps step) ∙ frames-push (bodies_of steps) (body_of step) in
    let long : length rest ≡ 9 + length (body_of step) + length after = omega
    (arith, ap length split, length-append (frame (body_of step)) after, length-sized (body_of step)) in
    record {
      is = r.is ∙ ap (λ (l : List ℕ). magic ++ (frames (bodies_of steps) ++ l)) split
          ∙ ap (λ (l : List ℕ). magic ++ l) (sym
          (append_assoc (frames (bodies_of steps)) (frame (body_of step)) after)
          ∙ ap (λ (l : List ℕ). l ++ after) (sym more));
      place = omega (
        arith,
        r.place,
        long,
        read-within file rest steps
            (length file - length rest) r,
        end-push (bodies_of steps) (body_of step),
        ap end_of
            (bodies-push steps step),
      );
      fits = steps-push steps step r.fits fits;
    }

pub read-damaged : (file rest : List ℕ) (steps : List Step) (at : ℕ) → IsReadTo file rest steps at
    → IsUnread rest → IsDamaged file at
read-damaged file rest steps at r unread = inr (steps, rest, r, unread)

pub read-whole : (file rest after : List ℕ) (steps : List Step) (at : ℕ) → IsReadTo file rest steps at
    → rest ≡ 0 ∷ after → IsFileOf steps file
read-whole file rest after steps at r ends = record {
  rest = after;
  is = r.is
      ∙ ap (λ (l : List ℕ). magic ++ (frames (bodies_of steps) ++ l)) ends;
  fits = r.fits;
}

pub no-magic : (file : List ℕ) → 0 < length file → ((after : List ℕ) → file ≢ magic ++ after)
    → IsDamaged file 0
no-magic file some other = inl (refl, record { not_empty = λ none. omega (arith, ap length none); other = other })

-- what no step stands in
pub unread-body : (body after : List ℕ) → length body < 2 ^ 64
    → ((step : Step) → AreSpellable step → body ≢ body_of step) → IsUnread (frame body ++ after)
unread-body body after low none = record {
  not_ended = λ rest is. omega (arith, ap (head-of 0) is);
  no_step = λ step rest fits is. none step fits.spelled
      (frame-body body (body_of step) after rest low fits.low is);
}

pub unread-step : (tail : List ℕ) → ((body after : List ℕ) → length body < 2 ^ 64
    → tail ≢ sized body ++ after) → IsUnread (1 ∷ tail)
unread-step tail none = record {
  not_ended = λ after is. omega (arith, ap (head-of 0) is);
  no_step = λ step after fits is. none (body_of step) after (step-low step fits) (ap tail-of is);
}

pub unread-nothing : IsUnread []
unread-nothing = record {
  not_ended = λ after is. omega (arith, ap length is);
  no_step = λ step after fits is. omega (arith, ap length is);
}

pub unread-other : (x : ℕ) (tail : List ℕ) → x ≢ 0 → x ≢ 1 → IsUnread (x ∷ tail)
unread-other x tail n0 n1 = record {
  not_ended = λ after is. n0 (ap (head-of 0) is);
  no_step = λ step after fits is. n1 (ap (head-of 0) is);
}

-- a step whose body stands behind its length
pub stands-step : (body after tail : List ℕ) (step : Step) → tail ≡ sized body ++ after
    → length body < 2 ^ 64 → body ≡ body_of step → AreSpellable step
    → (1 ∷ tail ≡ frame (body_of step) ++ after) × IsStep step
stands-step body after tail step split low is spelled = (
  ap (λ (l : List ℕ). 1 ∷ l) (split ∙ ap (λ (b : List ℕ). sized b ++ after) is),
  record { spelled = spelled; low = subst (λ (b : List ℕ). length b < 2 ^ 64) is low },
)

-- a body that no step has
pub stands-unread : (body after tail : List ℕ) → tail ≡ sized body ++ after → length body < 2 ^ 64
    → ((step : Step) → AreSpellable step → body ≢ body_of step) → IsUnread (1 ∷ tail)
stands-unread body after tail split low none =
    subst (λ (l : List ℕ). IsUnread (1 ∷ l)) (sym split) (unread-body body after low none)
