-- A stream of requests goes on, and what was read before stays before.
use Rattle.std.proofs.Common.{◌≡◌, ℕ, Bool, true, false, List, [], ◌++◌, refl, sym, subst, append_assoc, append-nil, length}
use Rattle.std.specs.Prelude.{nat_lt}
use Rattle.tuple_values.specs.declared.names.NameShards.{NameShards}
use Rattle.form_request.specs.Readers.{HeldReads, ToldFits, TurnReads, message_after, told_after}
use Rattle.form_request.specs.Streams.{Held, Answers, StageAnswers, body_answer, fed, fed_by, front_answer}
use Rattle.form_request.specs.declared.heads.Front.{Front}
use Rattle.form_request.specs.declared.heads.Front.TheVariants.{Unfinished, Refused, Taken}
use Rattle.form_request.specs.declared.plan.Plan.{Plan}
use Rattle.form_request.specs.declared.plan.Stage.{Stage}
use Rattle.form_request.specs.declared.plan.Stage.TheVariants.{Head, Body, Stopped, Closed}
use Rattle.form_request.specs.declared.reading.After.{After}
use Rattle.form_request.specs.declared.reading.Message.{Message}
use Rattle.form_request.specs.declared.request.Step100.{Step100}
use Rattle.form_request.specs.declared.request.Step100.TheVariants as step
use Rattle.form_request.proofs.ReadingLemmas.{fed-fed, fed-nil, message_after-append, turn_reads}
use Rattle.stream_handler.specs.Passing.{IsToldOnce, Passes}

-- nothing was said of the message at which a stream stands that has told nothing
pub untold : (stage : Stage) → IsToldOnce stage false
untold Head = refl
untold (Body plan) = λ e. absurd (cc)
untold (Stopped status) = refl
untold Closed = refl

-- what is said once fits where the stream stands
fits_told : (stage : Stage) (told : Bool) → IsToldOnce stage told → ToldFits stage told
fits_told Head told once = once
fits_told (Body plan) told once = tt
fits_told (Stopped status) told once = tt
fits_told Closed told once = once

-- a stream that stays
pub passes_none : (names : List NameShards) (told : Bool) (held : Held)
    → IsToldOnce held.stage told → Passes names told held [] [] told held
passes_none names told held once =
    record { fits = once; reads = λ more later after reads. reads }

-- a piece doesn't change where the stream stands
fed_once : (stage : Stage) (bytes piece : List ℕ) (told : Bool) → IsToldOnce stage told
    → IsToldOnce (fed_by stage bytes piece).stage told
fed_once Head bytes piece told once = once
fed_once (Body plan) bytes piece told once = once
fed_once (Stopped status) bytes piece told once = once
fed_once Closed bytes piece told once = once

-- a piece more of it
pub passes_fed : (names : List NameShards) (told : Bool) (held : Held) (piece : List ℕ)
    → IsToldOnce held.stage told → Passes names told held piece [] told (fed held piece)
passes_fed names told held piece once = record {
  fits = fed_once held.stage held.bytes piece told once;
  reads = λ more later after reads.
      let P : Held → Type 0 = λ h. HeldReads names told h later after in
      subst P (fed-fed held piece more) reads;
}

-- one thing after another
pub passes_join : (names : List NameShards) (t u v : Bool) (old mid new : Held)
    (a b : List ℕ) (ms ns : List Message) → Passes names t old a ms u mid
    → Passes names u mid b ns v new → Passes names t old (a ++ b) (ms ++ ns) v new
passes_join names t u v old mid new a b ms ns p q = record {
  fits = q.fits;
  reads = λ more later after reads.
      let P : List ℕ → Type 0 = λ all. HeldReads names t (fed old all) ((ms ++ ns) ++ later) after in
      let Q : List Message → Type 0 = λ all. HeldReads names t (fed old (a ++ (b ++ more))) all after in
      subst P (sym (append_assoc a b more))
      (subst Q (sym (append_assoc ms ns later))
      (p.reads (b ++ more) (ns ++ later) after (q.reads more later after reads)));
}

-- what stands where a stream came to is what stands behind the messages
pub passes_end : (names : List NameShards) (t u : Bool) (old new : Held) (bytes : List ℕ)
    (ms : List Message) (after : After) → Passes names t old bytes ms u new
    → HeldReads names u new [] after → HeldReads names t (fed old bytes) ms after
passes_end names t u old new bytes ms after p ends =
    let P : Held → Type 0 = λ h. HeldReads names u h [] after in
    let Q : List ℕ → Type 0 = λ all. HeldReads names t (fed old all) ms after in
    let R : List Message → Type 0 = λ all. HeldReads names t (fed old (bytes ++ [])) all after in
    subst Q (append-nil bytes)
    (subst R (append-nil ms) (p.reads [] [] after (subst P (sym (fed-nil new)) ends)))

-- `100 Continue` is answered only where it wasn't said
abbrev pub IsUntold : Step100 → Bool → Type 0
IsUntold (step.Whole request) told = Unit {0}
IsUntold (step.Refused status) told = Unit {0}
IsUntold step.Continue told = told ≡ false
IsUntold step.Wants told = Unit {0}

-- and a request that closes leaves a stream that is closed
abbrev pub IsClosing : Step100 → Held → Type 0
IsClosing (step.Whole request) held = request.closes ≡ true → held.stage ≡ Closed
IsClosing (step.Refused status) held = Unit {0}
IsClosing step.Continue held = Unit {0}
IsClosing step.Wants held = Unit {0}

-- and a message that is refused leaves a stream that stays there
abbrev pub IsStopping : Step100 → Held → Type 0
IsStopping (step.Whole request) held = Unit {0}
IsStopping (step.Refused status) held = held.stage ≡ Stopped status
IsStopping step.Continue held = Unit {0}
IsStopping step.Wants held = Unit {0}

-- one answer of a stream that has told nothing twice
pub record IsAnswer (told : Bool) (given : Step100 × Held) : Type 0 where
  pub untold : IsUntold given.0 told
  pub once : IsToldOnce given.1.stage (told_after given.0 told)
  pub closing : IsClosing given.0 given.1
  pub stopping : IsStopping given.0 given.1

body_told : (plan : Plan) (bytes : List ℕ) (told : Bool) (asks less closes : Bool)
    → plan.asks ≡ asks → nat_lt (length bytes) plan.length ≡ less → plan.closes ≡ closes
    → IsToldOnce (Body plan) told → IsAnswer told (body_answer plan bytes)
body_told plan bytes told true less closes a l c once =
    rw a (record { untold = not_told; once = λ e. refl; closing = tt; stopping = tt })
  where
    not_told : told ≡ false
    not_told = by_told told refl
      where
        by_told : (t : Bool) → told ≡ t → told ≡ false
        by_told true e = absurd (cc (once e, a))
        by_told false e = e
body_told plan bytes told false true closes a l c once =
    rw (a, l) (record { untold = tt; once = λ e. refl; closing = tt; stopping = tt })
body_told plan bytes told false false true a l c once =
    rw (a, l, c) (record { untold = tt; once = refl; closing = λ e. refl; stopping = tt })
body_told plan bytes told false false false a l c once =
    rw (a, l, c) (record { untold = tt; once = refl; closing = λ e. absurd (cc (e, c)); stopping = tt })

front_told : (front : Front) (bytes : List ℕ) → IsAnswer false (front_answer front bytes)
front_told Unfinished bytes = record { untold = tt; once = refl; closing = tt; stopping = tt }
front_told (Refused status) bytes =
    record { untold = tt; once = refl; closing = tt; stopping = refl }
front_told (Taken plan place) bytes =
    body_told plan _ false plan.asks _ plan.closes refl refl refl (λ e. absurd (cc))

stage_told : (names : List NameShards) (stage : Stage) (bytes : List ℕ) (told : Bool)
    (given : Step100 × Held) → IsToldOnce stage told → StageAnswers stage names bytes given
    → IsAnswer told given
stage_told names Head bytes told given once answers =
    let P : Step100 × Held → Type 0 = λ g. IsAnswer told g in
    let Q : Bool → Type 0 = λ t. IsAnswer t (front_answer answers.0 bytes) in
    subst P (sym answers.2) (subst Q (sym once) (front_told answers.0 bytes))
stage_told names (Body plan) bytes told given once answers =
    let P : Step100 × Held → Type 0 = λ g. IsAnswer told g in
    subst P (sym answers) (body_told plan bytes told plan.asks _ plan.closes refl refl refl once)
stage_told names (Stopped status) bytes told given once answers =
    let P : Step100 × Held → Type 0 = λ g. IsAnswer told g in
    subst P (sym answers) (record { untold = tt; once = once; closing = tt; stopping = refl })
stage_told names Closed bytes told given once answers =
    let P : Step100 × Held → Type 0 = λ g. IsAnswer told g in
    subst P (sym answers) (record { untold = tt; once = once; closing = tt; stopping = tt })

-- one answer leads the stream on past the message that it gives
pub record IsTurned (names : List NameShards) (told : Bool) (old : Held) (answer : Step100) (new : Held)
    : Type 0 where
  pub answered : IsAnswer told (answer, new)
  pub passes : Passes names told old [] (message_after answer told []) (told_after answer told) new
  pub turn : TurnReads names told old (answer, new)

pub turned : (names : List NameShards) (told : Bool) (old new : Held) (answer known : Step100)
    → IsToldOnce old.stage told → Answers names old answer new → answer ≡ known
    → IsTurned names told old known new
turned names told old new answer known once answers is =
    let P : Step100 → Type 0 = λ a. Answers names old a new in
    let now = subst P is answers in
    let t = turn_reads names told old.stage old.bytes (known, new) (fits_told old.stage told once) now in
    let a = stage_told names old.stage old.bytes told (known, new) once now in
    record {
      answered = a;
      passes = record {
        fits = a.once;
        reads = λ more later after reads.
            let Q : List Message → Type 0 = λ ms. HeldReads names told (fed old more) ms after in
            subst Q (sym (message_after-append known told later)) (t.reads more later after reads);
      };
      turn = t;
    }
