-- What a stream reads as doesn't depend on how it is cut.
use Rattle.std.proofs.Common.{◌≡◌, ℕ, ◌+◌, ◌-◌, ◌<◌, ◌≤◌, ◌||◌, Bool, true, false, cond, List, [], ◌∷◌, ◌++◌, length, take, drop, slice_range, Some, refl, sym, ap, subst, ◌∙◌, arith, length-append, length-drop, take_all, append-nil, append_assoc, inl, inr, get_or}
use Rattle.std.specs.List.{flat_map}
use Rattle.std.proofs.lemmas.Grind.{flat_map-append}
use Rattle.std.specs.Prelude.{nat_lt, min}
use Rattle.std.proofs.lemmas.Bool.{ltb-true}
use Rattle.std.proofs.lemmas.Bool.Decides.{nat_tests, leb_tells}
use Rattle.std.proofs.lemmas.List.{take-append-le, drop-append-le, take_more}
use Rattle.std.proofs.Math.Seq.{take-append-add}
use Rattle.httparse.specs.Grammar.{ReadsRequest}
use Rattle.tuple_values.specs.declared.names.NameShards.{NameShards}
use Rattle.form_request.specs.Ends.{head_length, blank_len, line_count}
use Rattle.form_request.specs.Heads.{Verdict, unfinished, overlong, overfull, unreadable, readable, VerdictIs, FrontIs, HasNoHead, IsFrontWithin, front_is, front_by, front_of, head_at, head_limit}
use Rattle.form_request.specs.Judging.{judgement, parts_of}
use Rattle.form_request.specs.Readings.{Reads, BodyReads}
use Rattle.form_request.specs.Readers.{ToldFits, told_after, message_after, rank, turns_left, HeldReads, EndsOrFalls, TurnReads, Leads, HasRead}
use Rattle.form_request.specs.declared.reading.Reader.{Reader}
use Rattle.form_request.specs.Streams.{Held, begun, fed, fed_by, body_answer, front_answer, request_of, StageAnswers}
use Rattle.form_request.specs.declared.heads.Front.{Front}
use Rattle.form_request.specs.declared.heads.Front.TheVariants.{Unfinished, Refused, Taken}
use Rattle.form_request.specs.declared.plan.Plan.{Plan}
use Rattle.form_request.specs.declared.plan.Stage.{Stage}
use Rattle.form_request.specs.declared.plan.Stage.TheVariants.{Head, Body, Stopped, Closed}
use Rattle.form_request.specs.declared.reading.Message.{Message}
use Rattle.form_request.specs.declared.reading.After.{After}
use Rattle.form_request.specs.declared.reading.After.TheVariants.{Rest}
use Rattle.form_request.specs.declared.request.Step100.{Step100}
use Rattle.form_request.specs.declared.request.Step100.TheVariants as step
use Rattle.form_request.proofs.EndLemmas.{head_end}
use Rattle.form_request.proofs.HeadLemmas.{IsFrontWithin-more}

-- a part of the first bytes is the same where more follow
slice_range-append : (xs ys : List ℕ) (start end : ℕ) → start ≤ end → end ≤ length xs
    → slice_range (xs ++ ys) start end ≡ slice_range xs start end
slice_range-append xs ys start end ordered fits =
    let short : end - start ≤ length (drop start xs) = omega (arith, length-drop start xs, ordered, fits) in
    ap (take (end - start)) (drop-append-le start xs ys (omega arith))
    ∙ take-append-le (end - start) (drop start xs) ys short

-- the bytes in which a head is looked for only grow
front_of-append : (bytes more : List ℕ) → (x : List ℕ) × (front_of (bytes ++ more) ≡ front_of bytes ++ x)
unfolding head_limit
front_of-append bytes more =
    elim (leb_tells (length bytes) 16384) [
      | inl few ↦
          let count : 16384 ≡ length bytes + (16384 - length bytes) = omega (arith, few.1) in (
            take (16384 - length bytes) more,
            ap (λ n. take n (bytes ++ more)) count
                ∙ take-append-add bytes more (16384 - length bytes)
                ∙ ap (λ (xs : List ℕ). xs ++ take (16384 - length bytes) more) (sym (take_all 16384 bytes few.1)),
          )
      | inr many ↦
          ([], take-append-le 16384 bytes more (omega (arith, many.1)) ∙ sym (append-nil (take 16384 bytes)))
    ]

-- a whole head stays where it is, whatever follows
record Moved (bytes more : List ℕ) (place : ℕ) : Type 0 where
  ends : head_length (front_of (bytes ++ more)) ≡ Some place
  same : head_at (bytes ++ more) place ≡ head_at bytes place

moved : (bytes more : List ℕ) (place : ℕ) → head_length (front_of bytes) ≡ Some place → Moved bytes more place
moved bytes more place ends =
    let longer = front_of-append bytes more in
    let end = head_end (front_of bytes) place ends in
    record {
      ends = ap head_length longer.1 ∙ end.end longer.0;
      same =
          ap (λ (f : List ℕ). slice_range f (blank_len f) place) longer.1
          ∙ ap (λ n. slice_range (front_of bytes ++ longer.0) n place) (end.blank longer.0)
          ∙ slice_range-append (front_of bytes) longer.0 (blank_len (front_of bytes)) place end.below end.fits;
    }

-- what stands at the front, once it is decided, stays so
pub FrontIs-append : (names : List NameShards) (bytes more : List ℕ) (front : Front)
    → FrontIs names bytes front → (front ≡ Unfinished → ⊥) → FrontIs names (bytes ++ more) front
FrontIs-append names bytes more front is other = by_verdict is.0 is.1 is.2
  where
    within : IsFrontWithin (length (bytes ++ more)) front
    within = IsFrontWithin-more (length bytes) (length (bytes ++ more)) front
        (omega (arith, length-append bytes more)) is.3

    by_verdict : (v : Verdict) → VerdictIs bytes v → front ≡ front_is names bytes v
        → FrontIs names (bytes ++ more) front
    by_verdict unfinished v eq = absurd (other eq)
    by_verdict overlong v eq = (
      overlong,
      (
        ap head_length (take-append-le head_limit bytes more v.1) ∙ v.0,
        omega (arith, v.1, length-append bytes more),
      ),
      eq,
      within,
    )
    by_verdict overfull v eq =
        let m = moved bytes more v.0 v.1 in
        let P : List ℕ → Type 0 = λ head. 66 < line_count head in
        (overfull, (v.0, m.ends, subst P (sym m.same) v.2), eq, within)
    by_verdict unreadable v eq =
        let m = moved bytes more v.0 v.1 in
        let P : List ℕ → Type 0 = λ head. line_count head ≤ 66 in
        let Q : List ℕ → Type 0 = λ head. HasNoHead head in
        (unreadable, (v.0, m.ends, subst P (sym m.same) v.2, subst Q (sym m.same) v.3), eq, within)
    by_verdict (readable head place) v eq =
        let m = moved bytes more place v.0 in
        let P : List ℕ → Type 0 = λ bytes. line_count bytes ≤ 66 in
        let Q : List ℕ → Type 0 = λ bytes. ReadsRequest bytes head [] in (
          readable head place,
          (m.ends, subst P (sym m.same) v.1, subst Q (sym m.same) v.2),
          eq ∙ ap (λ (bytes : List ℕ). front_by (judgement names (parts_of head) (length bytes)) place) (sym m.same),
          within,
        )

-- behind a head that stands at the front, the messages of the bytes are those of its body
reads_from_body : (names : List NameShards) (bytes : List ℕ) (plan : Plan) (place : ℕ)
    → FrontIs names bytes (Taken plan place) → (messages : List Message) (after : After)
    → BodyReads plan.asks plan names (drop place bytes) messages after → Reads names bytes messages after
reads_from_body names bytes plan place is [] after reads = (Taken plan place, is, reads)
reads_from_body names bytes plan place is (m ∷ messages) after reads = (Taken plan place, is, reads)

or_false : (b : Bool) → (b || false) ≡ b
or_false true = refl
or_false false = refl

or_true : (b : Bool) → (b || true) ≡ true
or_true true = refl
or_true false = refl

-- the stream in a body
abbrev in_body : Plan → List ℕ → Held
in_body plan bytes = record { stage = Body plan; bytes = bytes }

abbrev at_head : List ℕ → Held
at_head bytes = record { stage = Head; bytes = bytes }

-- what a body reads as, by whether `100 Continue` is said of it
BodyReads-told : (a b : Bool) (plan : Plan) (names : List NameShards) (bytes : List ℕ)
    (messages : List Message) (after : After) → a ≡ b
    → BodyReads a plan names bytes messages after → BodyReads b plan names bytes messages after
BodyReads-told a b plan names bytes messages after same reads =
    let P : Bool → Type 0 = λ t. BodyReads t plan names bytes messages after in subst P same reads

-- so is one of which the answer is cleared
BodyReads-asked : (a : Bool) (plan : Plan) (names : List NameShards) (bytes : List ℕ)
    (messages : List Message) (after : After)
    → BodyReads a (record plan { asks = false }) names bytes messages after
    → BodyReads a plan names bytes messages after
BodyReads-asked a plan names bytes [] after reads = reads
BodyReads-asked a plan names bytes (m ∷ messages) after reads = reads

not_less : (a b : ℕ) → nat_lt a b ≡ false → b ≤ a
not_less a b h = grind (arith, nat_tests)

-- an answer behind a head
module _ (names : List NameShards) (told : Bool) (plan : Plan) (bytes : List ℕ) where
  reads_asks : plan.asks ≡ true
      → TurnReads names told (in_body plan bytes) (step.Continue, in_body (record plan { asks = false }) bytes)
  reads_asks asks = record {
    reads = λ more later after reads.
        BodyReads-told true (told || plan.asks) plan names (bytes ++ more) later after
        (sym (ap (λ b. told || b) asks ∙ or_true told))
        (BodyReads-asked true plan names (bytes ++ more) later after reads);
    fits = tt;
    ends =
        let r : rank (Body plan) ≡ 2 = ap (λ (b : Bool). cond b 2 1) asks in
        omega (arith, r);
  }

  reads_lacks : plan.asks ≡ false → length bytes < plan.length
      → TurnReads names told (in_body plan bytes) (step.Wants, in_body plan bytes)
  reads_lacks asks lacks = record {
    reads = λ more later after reads. reads;
    fits = tt;
    ends = (lacks, ap (Rest (plan.size + min plan.length (length bytes))) (sym (ap (λ b. told || b) asks ∙ or_false told)));
  }

  module _ (asks : plan.asks ≡ false) (fits : plan.length ≤ length bytes) where
    longer : (more : List ℕ) → plan.length ≤ length (bytes ++ more)
    longer more = omega (arith, length-append bytes more, fits)

    message : Message
    message = record { asks = told; request = request_of plan (take plan.length bytes) }

    message_is : (more : List ℕ)
        → message ≡ record { asks = told || plan.asks; request = request_of plan (take plan.length (bytes ++ more)) }
    unfolding message
    message_is more =
        ap (λ (a : Bool). let m : Message = record { asks = a; request = request_of plan (take plan.length bytes) } in m)
        (sym (ap (λ b. told || b) asks ∙ or_false told))
        ∙ ap (λ (body : List ℕ). let m : Message = record { asks = told || plan.asks; request = request_of plan body } in m)
        (sym (take-append-le plan.length bytes more fits))

    reads_closes : plan.closes ≡ true
        → TurnReads names told (in_body plan bytes)
        (step.Whole (request_of plan (take plan.length bytes)), record { stage = Closed; bytes = [] })
    unfolding message
    reads_closes closes = record {
      reads = λ more later after reads. (longer more, message_is more, rw closes reads);
      fits = refl;
      ends =
          let r : rank (Body plan) ≡ 1 = ap (λ (b : Bool). cond b 2 1) asks in
          omega (arith, r);
    }

    reads_goes_on : plan.closes ≡ false
        → TurnReads names told (in_body plan bytes)
        (step.Whole (request_of plan (take plan.length bytes)), at_head (drop plan.length bytes))
    unfolding message
    reads_goes_on closes = record {
      reads = λ more later after reads.
          let P : List ℕ → Type 0 = λ rest. Reads names rest later after in (
            longer more,
            message_is more,
            rw closes (subst P (sym (drop-append-le plan.length bytes more fits)) reads),
          );
      fits = refl;
      ends =
          let r : rank (Body plan) ≡ 1 = ap (λ (b : Bool). cond b 2 1) asks in
          omega (arith, r, length-drop plan.length bytes);
    }

-- what is answered behind a head reads as the body does
pub body_reads : (names : List NameShards) (told : Bool) (plan : Plan) (bytes : List ℕ)
    → TurnReads names told (in_body plan bytes) (body_answer plan bytes)
body_reads names told plan bytes =
    by_tests plan.asks (nat_lt (length bytes) plan.length) plan.closes refl refl refl
  where
    by_tests : (a l c : Bool) → plan.asks ≡ a → nat_lt (length bytes) plan.length ≡ l → plan.closes ≡ c
        → TurnReads names told (in_body plan bytes)
        (cond a (step.Continue, in_body (record plan { asks = false }) bytes)
        (cond l (step.Wants, in_body plan bytes) (
          step.Whole (request_of plan (take plan.length bytes)),
          cond c (record { stage = Closed; bytes = [] }) (at_head (drop plan.length bytes)),
        )))
    by_tests true l c asks less closes = reads_asks names told plan bytes asks
    by_tests false true c asks less closes =
        reads_lacks names told plan bytes asks (ltb-true (length bytes) plan.length less)
    by_tests false false true asks less closes =
        reads_closes names told plan bytes asks (not_less (length bytes) plan.length less) closes
    by_tests false false false asks less closes =
        reads_goes_on names told plan bytes asks (not_less (length bytes) plan.length less) closes

rank-le : (plan : Plan) → rank (Body plan) ≤ 2
rank-le plan = by_test plan.asks
  where
    by_test : (b : Bool) → cond b 2 1 ≤ 2
    by_test true = omega arith
    by_test false = omega arith

-- an answer that brings one stream nearer its end brings one that is farther nearer, too
EndsOrFalls-farther : (names : List NameShards) (told : Bool) (a b : Held) (answer : Step100) (new : Held)
    → turns_left a ≤ turns_left b → EndsOrFalls names told a answer new → EndsOrFalls names told b answer new
EndsOrFalls-farther names told a b (step.Whole request) new farther ends = omega arith
EndsOrFalls-farther names told a b (step.Refused status) new farther ends = ends
EndsOrFalls-farther names told a b step.Continue new farther ends = omega arith
EndsOrFalls-farther names told a b step.Wants new farther ends = ends

-- an answer at the front, behind a head that stands there, reads as the bytes do
taken_reads : (names : List NameShards) (bytes : List ℕ) (plan : Plan) (place : ℕ)
    → FrontIs names bytes (Taken plan place)
    → TurnReads names false (at_head bytes) (body_answer plan (drop place bytes))
taken_reads names bytes plan place is =
    let given = body_answer plan (drop place bytes) in
    let turn = body_reads names false plan (drop place bytes) in
    record {
      reads = λ more later after reads.
          let P : List ℕ → Type 0 =
          λ rest. BodyReads plan.asks plan names rest (message_after given.0 false later) after in
          reads_from_body names (bytes ++ more) plan place
          (FrontIs-append names bytes more (Taken plan place) is (λ e. cc))
          (message_after given.0 false later) after
          (subst P (sym (drop-append-le place bytes more is.3.1)) (turn.reads more later after reads));
      fits = turn.fits;
      ends = EndsOrFalls-farther names false (in_body plan (drop place bytes)) (at_head bytes) given.0 given.1
          (omega (arith, rank-le plan, length-drop place bytes, is.3.0, is.3.1)) turn.ends;
    }

-- an answer at the front reads as the bytes do
front_reads : (names : List NameShards) (told : Bool) (bytes : List ℕ) (front : Front) → told ≡ false
    → FrontIs names bytes front → TurnReads names told (at_head bytes) (front_answer front bytes)
front_reads names told bytes Unfinished fits is = record {
  reads = λ more later after reads. reads;
  fits = fits;
  ends = (Unfinished, is, ap (Rest (length bytes - blank_len bytes)) fits);
}
front_reads names told bytes (Refused status) fits is = record {
  reads = λ more later after reads.
      let P : List Message → Type 0 = λ messages. Reads names (bytes ++ more) messages after in
      subst P (sym reads.0)
      (Refused status, FrontIs-append names bytes more (Refused status) is (λ e. cc), reads.1);
  fits = tt;
  ends = (refl, refl);
}
front_reads names told bytes (Taken plan place) fits is =
    let P : Bool → Type 0 = λ t. TurnReads names t (at_head bytes) (body_answer plan (drop place bytes)) in
    subst P (sym fits) (taken_reads names bytes plan place is)

-- what a stream answers, with what it reads as then, is what it reads as
pub turn_reads : (names : List NameShards) (told : Bool) (stage : Stage) (bytes : List ℕ) (given : Step100 × Held)
    → ToldFits stage told → StageAnswers stage names bytes given
    → TurnReads names told (record { stage = stage; bytes = bytes }) given
turn_reads names told Head bytes given fits answers =
    let P : Step100 × Held → Type 0 = λ g. TurnReads names told (at_head bytes) g in
    subst P (sym answers.2) (front_reads names told bytes answers.0 fits answers.1)
turn_reads names told (Body plan) bytes given fits answers =
    let P : Step100 × Held → Type 0 = λ g. TurnReads names told (in_body plan bytes) g in
    subst P (sym answers) (body_reads names told plan bytes)
turn_reads names told (Stopped status) bytes given fits answers =
    let held : Held = record { stage = Stopped status; bytes = bytes } in
    let P : Step100 × Held → Type 0 = λ g. TurnReads names told held g in
    subst P (sym answers)
    (record { reads = λ more later after reads. reads; fits = tt; ends = (refl, refl) })
turn_reads names told Closed bytes given fits answers =
    let held : Held = record { stage = Closed; bytes = bytes } in
    let P : Step100 × Held → Type 0 = λ g. TurnReads names told held g in
    subst P (sym answers)
    (record { reads = λ more later after reads. reads; fits = fits; ends = (refl, ap (Rest 0) fits) })

-- a message in front of others is one list of them
pub message_after-append : (answer : Step100) (told : Bool) (later : List Message)
    → message_after answer told [] ++ later ≡ message_after answer told later
message_after-append (step.Whole request) told later = refl
message_after-append (step.Refused status) told later = refl
message_after-append step.Continue told later = refl
message_after-append step.Wants told later = refl

-- a reader after one answer
pub Leads-turn : (names : List NameShards) (old new : Reader) (answer : Step100)
    → TurnReads names old.told old.requests (answer, new.requests)
    → new.told ≡ told_after answer old.told
    → new.messages ≡ old.messages ++ message_after answer old.told []
    → Leads names [] old new
Leads-turn names old new answer turn told messages = record {
  added = message_after answer old.told [];
  messages = messages;
  fits = let P : Bool → Type 0 = λ t. ToldFits new.requests.stage t in subst P (sym told) turn.fits;
  reads = λ more later after reads.
      let P : Bool → Type 0 = λ t. HeldReads names t (fed new.requests more) later after in
      let Q : List Message → Type 0 = λ ms. HeldReads names old.told (fed old.requests more) ms after in
      subst Q (sym (message_after-append answer old.told later))
      (turn.reads more later after (subst P told reads));
}

-- a reader that does nothing
pub Leads-same : (names : List NameShards) (reader : Reader) → ToldFits reader.requests.stage reader.told
    → Leads names [] reader reader
Leads-same names reader fits = record {
  added = [];
  messages = sym (append-nil reader.messages);
  fits = fits;
  reads = λ more later after reads. reads;
}

-- one piece behind another is one piece
pub fed-fed : (held : Held) (piece more : List ℕ) → fed (fed held piece) more ≡ fed held (piece ++ more)
fed-fed held piece more = by_stage held.stage held.bytes
  where
    by_stage : (stage : Stage) (bytes : List ℕ)
        → fed (fed_by stage bytes piece) more ≡ fed_by stage bytes (piece ++ more)
    by_stage Head bytes = ap at_head (append_assoc bytes piece more)
    by_stage (Body plan) bytes = ap (in_body plan) (append_assoc bytes piece more)
    by_stage (Stopped status) bytes = refl
    by_stage Closed bytes = refl

-- a piece doesn't change where the stream stands
fed-stage : (held : Held) (piece : List ℕ) → (fed held piece).stage ≡ held.stage
fed-stage held piece = by_stage held.stage held.bytes
  where
    by_stage : (stage : Stage) (bytes : List ℕ) → (fed_by stage bytes piece).stage ≡ stage
    by_stage Head bytes = refl
    by_stage (Body plan) bytes = refl
    by_stage (Stopped status) bytes = refl
    by_stage Closed bytes = refl

-- an empty piece changes nothing
pub fed-nil : (held : Held) → fed held [] ≡ held
fed-nil held = by_stage held.stage held.bytes
  where
    by_stage : (stage : Stage) (bytes : List ℕ)
        → fed_by stage bytes [] ≡ (let h : Held = record { stage = stage; bytes = bytes } in h)
    by_stage Head bytes = ap at_head (append-nil bytes)
    by_stage (Body plan) bytes = ap (in_body plan) (append-nil bytes)
    by_stage (Stopped status) bytes = refl
    by_stage Closed bytes = refl

-- a reader after more, and then more
pub Leads-then : (names : List NameShards) (piece : List ℕ) (a b c : Reader)
    → Leads names piece a b → Leads names [] b c → Leads names piece a c
Leads-then names piece a b c first second = record {
  added = first.added ++ second.added;
  messages = second.messages ∙ ap (λ (ms : List Message). ms ++ second.added) first.messages
      ∙ append_assoc a.messages first.added second.added;
  fits = second.fits;
  reads = λ more later after reads.
      let Q : List Message → Type 0 = λ ms. HeldReads names a.told (fed a.requests (piece ++ more)) ms after in
      subst Q (sym (append_assoc first.added second.added later))
      (first.reads more (second.added ++ later) after (second.reads more later after reads));
}

-- a reader of which a piece has come
pub Leads-fed : (names : List NameShards) (piece : List ℕ) (a b : Reader)
    → ToldFits a.requests.stage a.told → b.requests ≡ fed a.requests piece → b.told ≡ a.told
    → b.messages ≡ a.messages → Leads names piece a b
Leads-fed names piece a b fits requests told messages = record {
  added = [];
  messages = messages ∙ sym (append-nil a.messages);
  fits =
      let P : Stage → Type 0 = λ s. ToldFits s b.told in
      let Q : Bool → Type 0 = λ t. ToldFits a.requests.stage t in
      subst P (sym (ap (λ (h : Held). h.stage) requests ∙ fed-stage a.requests piece)) (subst Q (sym told) fits);
  reads = λ more later after reads.
      let P : Held → Type 0 = λ h. HeldReads names a.told h later after in
      let Q : Bool → Type 0 = λ t. HeldReads names t (fed b.requests more) later after in
      subst P (ap (λ (h : Held). fed h more) requests ∙ fed-fed a.requests piece more) (subst Q told reads);
}

-- a reader that has read bytes and takes a piece has read both
pub HasRead-more : (names : List NameShards) (bytes piece : List ℕ) (a b : Reader) → HasRead names bytes a
    → Leads names piece a b → HasRead names (bytes ++ piece) b
HasRead-more names bytes piece a b was leads = record {
  fits = leads.fits;
  reads = λ more later after reads.
      let earlier = was.reads (piece ++ more) (leads.added ++ later) after (leads.reads more later after reads) in
      let P : List ℕ → Type 0 = λ all. Reads names all (b.messages ++ later) after in
      let Q : List Message → Type 0 = λ ms. Reads names (bytes ++ (piece ++ more)) ms after in
      subst P (sym (append_assoc bytes piece more))
      (subst Q (sym (ap (λ (ms : List Message). ms ++ later) leads.messages
      ∙ append_assoc a.messages leads.added later)) earlier);
}

-- a reader at the end of what has come has read all
pub Reads-end : (names : List NameShards) (bytes : List ℕ) (reader : Reader) (after : After)
    → HasRead names bytes reader → HeldReads names reader.told reader.requests [] after
    → Reads names bytes reader.messages after
Reads-end names bytes reader after was ends =
    let P : Held → Type 0 = λ h. HeldReads names reader.told h [] after in
    let Q : List ℕ → Type 0 = λ all. Reads names all reader.messages after in
    let R : List Message → Type 0 = λ ms. Reads names (bytes ++ []) ms after in
    subst Q (append-nil bytes)
    (subst R (append-nil reader.messages) (was.reads [] [] after (subst P (sym (fed-nil reader.requests)) ends)))

-- an answer of a reader's stream, as the one that it is
pub reader_turn : (names : List NameShards) (old : Reader) (answer known : Step100) (new : Held)
    → ToldFits old.requests.stage old.told → StageAnswers old.requests.stage names old.requests.bytes (answer, new)
    → answer ≡ known → TurnReads names old.told old.requests (known, new)
reader_turn names old answer known new fits answers is =
    let P : Step100 → Type 0 = λ a. TurnReads names old.told old.requests (a, new) in
    subst P is (turn_reads names old.told old.requests.stage old.requests.bytes (answer, new) fits answers)

-- a reader that has read bytes and comes to the end of them
pub Reads-drained : (names : List NameShards) (bytes : List ℕ) (a b : Reader) (after : After)
    → HasRead names bytes a → Leads names [] a b → HeldReads names b.told b.requests [] after
    → Reads names bytes b.messages after
Reads-drained names bytes a b after was leads ends =
    let P : List ℕ → Type 0 = λ all. Reads names all b.messages after in
    subst P (append-nil bytes) (Reads-end names (bytes ++ []) b after (HasRead-more names bytes [] a b was leads) ends)

-- the bytes of pieces, with one more
pub pieces-more : (pieces : List (List ℕ)) (place : ℕ) (other : List ℕ) → place < length pieces
    → flat_map (λ (p : List ℕ). p) (take place pieces) ++ get_or pieces place other
    ≡ flat_map (λ (p : List ℕ). p) (take (place + 1) pieces)
pieces-more pieces place other inside =
    let same : List ℕ → List ℕ = λ p. p in
    sym (ap (flat_map same) (take_more pieces place other inside)
    ∙ flat_map-append same (take place pieces) (get_or pieces place other ∷ [])
    ∙ ap (λ (rest : List ℕ). flat_map same (take place pieces) ++ rest) (append-nil (get_or pieces place other)))

-- a reader of which nothing has come
pub HasRead-begun : (names : List NameShards) (reader : Reader) → reader.requests ≡ begun → reader.messages ≡ []
    → reader.told ≡ false → HasRead names [] reader
HasRead-begun names reader requests messages told = record {
  fits =
      let P : Held → Type 0 = λ h. ToldFits h.stage reader.told in subst P (sym requests) told;
  reads = λ more later after reads.
      let P : Held → Type 0 = λ h. HeldReads names reader.told (fed h more) later after in
      let Q : List Message → Type 0 = λ ms. Reads names more (ms ++ later) after in
      subst Q (sym messages) (subst P requests reads);
}
