-- A step of the code is a step of the stream.
use Rattle.std.proofs.Common.{◌≡◌, ℕ, ◌+◌, ◌-◌, ◌<◌, ◌≤◌, true, false, List, ◌++◌, length, take, drop, refl, sym, ap, subst, ◌∙◌, arith, length-drop, take_all, drop-drop, inl, inr}
use Rattle.std.specs.Prelude.{nat_lt}
use Rattle.std.proofs.lemmas.Bool.{lt-ltb}
use Rattle.std.proofs.lemmas.Bool.Decides.{nat_tests, leb_tells}
use Rattle.std.proofs.lemmas.List.{drop_all, take-append-le, drop-append-le}
use Rattle.std.proofs.Math.Seq.{take-append-add}
use Rattle.tuple_values.specs.declared.names.NameShards.{NameShards}
use Rattle.form_request.specs.Heads.{FrontIs, front_of, head_limit}
use Rattle.form_request.specs.Searches.{IsSearched}
use Rattle.form_request.specs.Stages.{is_end}
use Rattle.form_request.specs.Streams.{Held, fed_by, body_answer, request_of, behind}
use Rattle.form_request.specs.Turning.{TurnedIs, IsTurn}
use Rattle.form_request.specs.declared.heads.Front.TheVariants.{Refused, Taken}
use Rattle.form_request.specs.declared.plan.Plan.{Plan}
use Rattle.form_request.specs.declared.plan.Stage.{Stage}
use Rattle.form_request.specs.declared.plan.Stage.TheVariants.{Head, Body, Stopped, Closed}
use Rattle.form_request.specs.declared.request.Request.{Request}
use Rattle.form_request.specs.declared.request.Step100.{Step100}
use Rattle.form_request.specs.declared.request.Step100.TheVariants as step
use Rattle.form_request.specs.declared.search.Search.{Search}
use Rattle.form_request.specs.declared.turning.Turned.{Turned}
use Rattle.form_request.proofs.SearchLemmas.{fresh, IsSearched-fresh, IsSearched-append}

-- a step with a search from the start
abbrev pub turned_fresh : Step100 → Stage → ℕ → Turned
turned_fresh answer stage taken =
    record { answer = answer; stage = stage; taken = taken; search = fresh }

turned : (bytes : List ℕ) (given : Step100 × Held) (answer : Step100) (stage : Stage) (taken : ℕ)
    → (answer, record { stage = stage; bytes = drop taken bytes }) ≡ given → taken ≤ length bytes
    → TurnedIs bytes given (turned_fresh answer stage taken)
turned bytes given answer stage taken is within = record {
  given_is = is;
  within = within;
  searched = IsSearched-fresh (front_of (drop taken bytes));
}

module _ (plan : Plan) (bytes : List ℕ) where
  -- `100 Continue` is still to be said
  pub turned_asks : plan.asks ≡ true
      → TurnedIs bytes (body_answer plan bytes) (turned_fresh step.Continue (Body (record plan { asks = false })) 0)
  turned_asks asks =
      turned bytes (body_answer plan bytes) step.Continue (Body (record plan { asks = false })) 0
      (rw asks refl) (omega arith)

  -- the body isn't whole
  pub turned_lacks : plan.asks ≡ false → length bytes < plan.length
      → TurnedIs bytes (body_answer plan bytes) (turned_fresh step.Wants (Body plan) 0)
  turned_lacks asks lacks =
      turned bytes (body_answer plan bytes) step.Wants (Body plan) 0
      (rw (asks, lt-ltb (length bytes) plan.length lacks) refl) (omega arith)

  -- the request is whole
  whole : (rest : Held) → plan.asks ≡ false → plan.length ≤ length bytes
      → (request : Request) → request ≡ request_of plan (take plan.length bytes)
      → rest ≡ behind plan (drop plan.length bytes)
      → (step.Whole request, rest) ≡ body_answer plan bytes
  whole rest asks fits request is left =
      rw (asks, not_less) (cc (is, left))
    where
      not_less : nat_lt (length bytes) plan.length ≡ false
      not_less = grind (arith, nat_tests)

  -- and closes, or not
  pub turned_closes : plan.asks ≡ false → plan.length ≤ length bytes
      → (request : Request) → request ≡ request_of plan (take plan.length bytes) → plan.closes ≡ true
      → TurnedIs bytes (body_answer plan bytes) (turned_fresh (step.Whole request) Closed (length bytes))
  turned_closes asks fits request is closes =
      turned bytes (body_answer plan bytes) (step.Whole request) Closed (length bytes)
      (whole (record { stage = Closed; bytes = drop (length bytes) bytes }) asks fits request is
      (rw closes (ap (λ (left : List ℕ). let held : Held = record { stage = Closed; bytes = left } in held)
      (drop_all (length bytes) bytes (omega arith)))))
      (omega arith)

  pub turned_goes_on : plan.asks ≡ false → plan.length ≤ length bytes
      → (request : Request) → request ≡ request_of plan (take plan.length bytes) → plan.closes ≡ false
      → TurnedIs bytes (body_answer plan bytes) (turned_fresh (step.Whole request) Head plan.length)
  turned_goes_on asks fits request is closes =
      turned bytes (body_answer plan bytes) (step.Whole request) Head plan.length
      (whole (record { stage = Head; bytes = drop plan.length bytes }) asks fits request is (rw closes refl)) fits

-- a refusal takes all bytes
pub turn_refused : (names : List NameShards) (bytes : List ℕ) (status : ℕ) → FrontIs names bytes (Refused status)
    → IsTurn names Head bytes (turned_fresh (step.Refused status) (Stopped status) (length bytes))
turn_refused names bytes status is = record {
  answers = (
    Refused status,
    is,
    ap (λ (left : List ℕ). let given : Step100 × Held = (step.Refused status, record { stage = Stopped status; bytes = left }) in given)
        (drop_all (length bytes) bytes (omega arith)),
  );
  within = omega arith;
  searched = IsSearched-fresh (front_of (drop (length bytes) bytes));
}

-- a step behind a head is one at its front
pub turn_taken : (names : List NameShards) (bytes : List ℕ) (plan : Plan) (place : ℕ) (next : Turned)
    → FrontIs names bytes (Taken plan place)
    → TurnedIs (drop place bytes) (body_answer plan (drop place bytes)) next
    → IsTurn names Head bytes (record next { taken = next.taken + place })
turn_taken names bytes plan place next is turns =
    let fits : place ≤ length bytes = is.3.1 in
    let later : drop next.taken (drop place bytes) ≡ drop (next.taken + place) bytes =
    drop-drop next.taken place bytes ∙ ap (λ n. drop n bytes) (omega arith) in
    let P : List ℕ → Type 0 = λ left. IsSearched (front_of left) next.search in
    record {
      answers = (
        Taken plan place,
        is,
        ap (λ (left : List ℕ). let given : Step100 × Held = (next.answer, record { stage = next.stage; bytes = left }) in given)
            (sym later)
            ∙ turns.given_is,
      );
      within = omega (arith, turns.within, length-drop place bytes, fits);
      searched = subst P later turns.searched;
    }

-- a step behind a head
pub turn_body : (names : List NameShards) (bytes : List ℕ) (plan : Plan) (next : Turned)
    → TurnedIs bytes (body_answer plan bytes) next → IsTurn names (Body plan) bytes next
turn_body names bytes plan next turns =
    record { answers = turns.given_is; within = turns.within; searched = turns.searched }

-- what is held once a piece has come behind it
pub held_fed : (buf kept buf_new piece : List ℕ) (from start : ℕ) → start ≤ length kept
    → drop start kept ≡ drop from buf → buf_new ≡ kept ++ piece
    → drop start buf_new ≡ drop from buf ++ piece
held_fed buf kept buf_new piece from start within same now =
    ap (drop start) now ∙ drop-append-le start kept piece within ∙ ap (λ left. left ++ piece) same

-- what was searched stays so
pub searched_fed : (bytes piece : List ℕ) (at : Search) → IsSearched (front_of bytes) at
    → IsSearched (front_of (bytes ++ piece)) at
unfolding head_limit
searched_fed bytes piece at searched =
    elim (leb_tells (length bytes) 16384) [
      | inl few ↦
          let whole : take 16384 bytes ≡ bytes = take_all 16384 bytes few.1 in
          let P : List ℕ → Type 0 = λ front. IsSearched front at in
          let more = take (16384 - length bytes) piece in
          let count : 16384 ≡ length bytes + (16384 - length bytes) = omega (arith, few.1) in
          let longer : take 16384 (bytes ++ piece) ≡ bytes ++ more =
          ap (λ n. take n (bytes ++ piece)) count
          ∙ take-append-add bytes piece (16384 - length bytes) in
          subst P (sym longer) (IsSearched-append bytes more at (subst P whole searched))
      | inr many ↦
          let P : List ℕ → Type 0 = λ front. IsSearched front at in
          subst P (sym (take-append-le 16384 bytes piece (omega (arith, many.1)))) searched
    ]

-- a stream that is not over takes the piece
pub fed_open : (stage : Stage) (bytes piece : List ℕ) → is_end stage ≡ false
    → (let held : Held = record { stage = stage; bytes = bytes ++ piece } in held) ≡ fed_by stage bytes piece
fed_open Head bytes piece open_still = refl
fed_open (Body plan) bytes piece open_still = refl
fed_open (Stopped status) bytes piece open_still = absurd (cc)
fed_open Closed bytes piece open_still = absurd (cc)

-- nothing changes behind the last message that is read
pub fed_over : (stage : Stage) (bytes piece : List ℕ) → is_end stage ≡ true
    → (let held : Held = record { stage = stage; bytes = bytes } in held) ≡ fed_by stage bytes piece
fed_over Head bytes piece over = absurd (cc)
fed_over (Body plan) bytes piece over = absurd (cc)
fed_over (Stopped status) bytes piece over = refl
fed_over Closed bytes piece over = refl
