-- Where one answer of a stream of requests leads a connection that waits.
use Rattle.std.proofs.Common.{◌≡◌, ◌≢◌, ℕ, ◌≤◌, Bool, true, false, List, [], ◌∷◌, ◌++◌, Option, Some, None, refl, sym, ap, subst, arith, append-nil, inl, ◌∙◌}
use Rattle.tuple_values.specs.Document.{ByteList}
use Rattle.tuple_values.specs.declared.names.NameShards.{NameShards}
use Rattle.io_edge.specs.Edge.{Appends}
use Rattle.form_request.specs.Readers.{HeldReads, message_after, told_after}
use Rattle.form_request.specs.Streams.{Held, fed, held_count}
use Rattle.form_request.specs.declared.plan.Stage.{Stage}
use Rattle.form_request.specs.declared.plan.Stage.TheVariants as stage
use Rattle.form_request.specs.declared.reading.After.TheVariants.{Rest}
use Rattle.form_request.specs.declared.request.Request.{Request}
use Rattle.form_request.specs.declared.request.Step100.{Step100}
use Rattle.form_request.specs.declared.request.Step100.TheVariants as step
use Rattle.stream_handler.specs.Passing.{IsToldOnce, Passes, front_text, said}
use Rattle.stream_handler.specs.Refusals.{refusal_reply}
use Rattle.stream_handler.specs.Sessions.{Wire, wire, Came, Counts, IsLost, IsUnfinished, Passed, WireEnds}
use Rattle.stream_handler.specs.Waiting.{Continues, IsHalted, IsWaiting, IsWhole, Reads, ReadsCount, Refuses, TurnsTo, WritesCount, turn_of}
use Rattle.stream_handler.specs.declared.ending.End.{End}
use Rattle.stream_handler.specs.declared.ending.End.TheVariants as end
use Rattle.stream_handler.proofs.PassLemmas.{IsTurned, passes_end, passes_fed, passes_join, passes_none, untold}
use Rattle.stream_handler.proofs.WireLemmas.{appends_join, appends_none, appends_still, came_join, came_none, came_still, counts_join, counts_same, rose_since}

-- at the start nothing is read and nothing said
pub waits_none : (names : List NameShards) (w : Wire) → IsWaiting names w w false
waits_none names w = record {
  counts = counts_same w;
  passed = record {
    bytes = [];
    came = came_none w.left;
    passes = passes_none names false w.held (untold w.held.stage);
  };
  written = appends_none w.written;
}

-- what belongs to the message where a stream stands begins with what was said of it
pub said_first : (s : Stage) (told : Bool) → IsToldOnce s told
    → (rest : ByteList) × (front_text s told ≡ said told ++ rest)
said_first stage.Head told once = ([], sym (append-nil (said told)))
said_first (stage.Body plan) told once = ([], sym (append-nil (said told)))
said_first (stage.Stopped status) told once =
    (refusal_reply status, ap (λ t. said t ++ refusal_reply status) (sym once))
said_first stage.Closed told once = ([], sym (append-nil (said told)))

-- a refusal belongs to a message of which nothing was said
refusal_first : (s : Stage) (told : Bool) (status : ℕ) → IsToldOnce s told → s ≡ stage.Stopped status
    → (told ≡ false) × (front_text s told ≡ refusal_reply status)
refusal_first s told status once e =
    (subst (λ x. IsToldOnce x told) e once, ap (λ x. front_text x told) e)

-- a message of which it was said isn't refused
told_first : (s : Stage) → IsToldOnce s true → front_text s true ≡ said true
told_first stage.Head once = absurd (cc)
told_first (stage.Body plan) once = refl
told_first (stage.Stopped status) once = absurd (cc)
told_first stage.Closed once = absurd (cc)

-- a text of one byte or more
abbrev IsText : List ℕ → Type 0
IsText [] = ⊥
IsText (byte ∷ text) = Unit {0}

-- where `100 Continue` is said, something is
said_due : said true ≢ []
said_due = λ e. subst IsText e tt

-- something is said where a message is refused
refusal_due : (status : ℕ) → refusal_reply status ≢ []
unfolding refusal_reply
refusal_due status = λ e. subst IsText e tt

module _ (names : List NameShards) (start old : Wire) (told : Bool) (w : IsWaiting names start old told) where
  -- where it stops now, more of the source may be lost
  pub lost_here : (new : Wire) (lost : List ℕ) → new.held ≡ old.held → Came old.left new.left lost
      → new.written ≡ old.written → IsLost names start new []
  lost_here new lost held came written = record {
    bytes = w.passed.bytes;
    lost = lost;
    told = told;
    came = came_join start.left old.left new.left w.passed.bytes lost w.passed.came came;
    passes = subst (λ h. Passes names false start.held w.passed.bytes [] told h) (sym held)
        w.passed.passes;
    written = appends_still start.written old.written new.written (said told) w.written written;
  }

  -- want of memory
  pub halted_memory : (new : Wire) (lost : List ℕ) → Counts old new → new.held ≡ old.held
      → Came old.left new.left lost → new.written ≡ old.written → IsHalted names start new end.OutOfMemory
  halted_memory new lost counts held came written = record {
    counts = counts_join start old new w.counts counts;
    ends = inl (lost_here new lost held came written);
  }

  module _ (answer : Step100) (held : Held) (t : IsTurned names told old.held answer held) where
    -- what the stream has passed with this answer
    pub passed_turn : (left : Option (List ℕ)) (reads : ℕ) (written : Option (List ℕ)) (writes : ℕ)
        → left ≡ old.left → Passed names start (wire held left reads written writes old.board)
        (message_after answer told []) (told_after answer told)
    passed_turn left reads written writes same =
        let p = passes_join names false told (told_after answer told) start.held old.held held w.passed.bytes []
        [] (message_after answer told []) w.passed.passes t.passes in
        record {
          bytes = w.passed.bytes;
          came = came_still start.left old.left left w.passed.bytes w.passed.came same;
          passes = subst (λ b. Passes names false start.held b (message_after answer told [])
              (told_after answer told) held) (append-nil w.passed.bytes) p;
        }

-- a request is whole
pub turned_whole : (names : List NameShards) (start old : Wire) (told : Bool)
    → IsWaiting names start old told → (request : Request) (held : Held)
    → IsTurned names told old.held (step.Whole request) held
    → IsWhole names start (wire held old.left old.reads old.written old.writes old.board) request
turned_whole names start old told w request held t = record {
  counts = record { reads = w.counts.reads; writes = w.counts.writes };
  asks = told;
  passed = passed_turn names start old told w (step.Whole request) held t old.left old.reads old.written
      old.writes refl;
  written = w.written;
  behind = t.answered.closing;
}

-- a message is refused
pub turned_refused : (names : List NameShards) (start old : Wire) (told : Bool)
    → IsWaiting names start old told → (status : ℕ) (held : Held)
    → IsTurned names told old.held (step.Refused status) held
    → (written : Option (List ℕ)) (writes : ℕ) (e : End) → Refuses status old.written written e
    → WritesCount old.writes writes (Some e)
    → IsHalted names start (wire held old.left old.reads written writes old.board) e
turned_refused names start old told w status held t written writes e says counts =
    record { counts = since; ends = by_end e says counts }
  where
    since : Counts start (wire held old.left old.reads written writes old.board)
    since = record {
      reads = w.counts.reads;
      writes = omega (arith, w.counts.writes, counts.stays);
    }

    now : Wire
    now = wire held old.left old.reads written writes old.board

    p : Passed names start now [] told
    p = passed_turn names start old told w (step.Refused status) held t old.left old.reads written writes refl

    first : (told ≡ false) × (front_text held.stage told ≡ refusal_reply status)
    first = refusal_first held.stage told status p.passes.fits t.answered.stopping

    before : Appends start.written old.written []
    before = subst (λ t. Appends start.written old.written (said t)) first.0 w.written

    by_end : (e : End) → Refuses status old.written written e → WritesCount old.writes writes (Some e)
        → WireEnds names start now [] e
    by_end end.Ended says counts = absurd says
    by_end end.Closed says counts = absurd says
    by_end (end.Cut n) says counts = absurd says
    by_end (end.Refused s) says counts =
        let past = subst (λ t. Passed names start now [] t) first.0 p in
        let all = appends_join start.written old.written written [] (refusal_reply status) before says.1 in
        subst (λ s. Passed names start now [] false × (held.stage ≡ stage.Stopped s)
        × Appends start.written written (refusal_reply s))
        (sym says.0) (past, t.answered.stopping, all)
    by_end end.ReadFault says counts = absurd says
    by_end end.WriteFault says counts = (
      rose_since start.writes old.writes writes w.counts.writes (counts.cause refl),
      inl (record {
        told = told;
        passed = p;
        part = says.0;
        rest = says.1;
        due = λ e. refusal_due status (sym first.1 ∙ e);
        is = first.1 ∙ says.2;
        written = appends_join start.written old.written written [] says.0 before says.3;
      }),
    )
    by_end end.OutOfMemory says counts = inl (record {
      bytes = p.bytes;
      lost = [];
      told = told;
      came = subst (λ b. Came start.left old.left b) (sym (append-nil p.bytes)) p.came;
      passes = p.passes;
      written = appends_still start.written old.written written (said told) w.written says;
    })

-- `100 Continue` is asked for
pub turned_continue : (names : List NameShards) (start old : Wire) (told : Bool)
    → IsWaiting names start old told → (held : Held) → IsTurned names told old.held step.Continue held
    → (written : Option (List ℕ)) (writes : ℕ) (r : Option End) → Continues old.written written r
    → WritesCount old.writes writes r
    → TurnsTo names start (wire held old.left old.reads written writes old.board) (turn_of r)
turned_continue names start old told w held t written writes r says counts = by_end r says counts
  where
    P : Option End → Type 0
    P = λ r. TurnsTo names start (wire held old.left old.reads written writes old.board) (turn_of r)

    now : Wire
    now = wire held old.left old.reads written writes old.board

    p : Passed names start now [] true
    p = passed_turn names start old told w step.Continue held t old.left old.reads written writes refl

    before : Appends start.written old.written []
    before = subst (λ t. Appends start.written old.written (said t)) t.answered.untold w.written

    since : old.writes ≤ writes → Counts start now
    since le = record { reads = w.counts.reads; writes = omega (arith, w.counts.writes, le) }

    by_end : (r : Option End) → Continues old.written written r → WritesCount old.writes writes r → P r
    by_end None says counts = (
      true,
      record {
        counts = since counts.stays;
        passed = p;
        written = appends_join start.written old.written written [] (said true) before says;
      },
    )
    by_end (Some e) says counts =
        let part = says.1 in
        let fault : IsHalted names start now end.WriteFault = record {
          counts = since counts.stays;
          ends = (
            rose_since start.writes old.writes writes w.counts.writes (counts.cause (ap Some says.0)),
            inl (record {
              told = true;
              passed = p;
              part = part.0;
              rest = part.1;
              due = λ e. said_due (sym (told_first held.stage p.passes.fits) ∙ e);
              is = told_first held.stage p.passes.fits ∙ part.2;
              written = appends_join start.written old.written written [] part.0 before part.3;
            }),
          );
        } in
        subst (λ x. IsHalted names start now x) (sym says.0) fault

-- more is to be read
pub turned_wants : (names : List NameShards) (start old : Wire) (told : Bool)
    → IsWaiting names start old told → (held new : Held) → IsTurned names told old.held step.Wants held
    → (left : Option (List ℕ)) (reads : ℕ) (r : Option End) → Reads held new old.left left r
    → ReadsCount old.reads reads r
    → TurnsTo names start (wire new left reads old.written old.writes old.board) (turn_of r)
turned_wants names start old told w held new t left reads r says counts = by_end r says counts
  where
    P : Option End → Type 0
    P = λ r. TurnsTo names start (wire new left reads old.written old.writes old.board) (turn_of r)

    now : Wire
    now = wire new left reads old.written old.writes old.board

    mid : Wire
    mid = wire held old.left old.reads old.written old.writes old.board

    p : Passed names start mid [] told
    p = passed_turn names start old told w step.Wants held t old.left old.reads old.written old.writes refl

    waits : IsWaiting names start mid told
    waits = record {
      counts = record { reads = w.counts.reads; writes = w.counts.writes };
      passed = p;
      written = w.written;
    }

    since : old.reads ≤ reads → Counts start now
    since le = record { reads = omega (arith, w.counts.reads, le); writes = w.counts.writes }

    unfinished : (n : ℕ) → left ≡ old.left → new ≡ held → held_count held ≡ n → IsUnfinished names start now [] n
    unfinished n same stays count = record {
      asks = told;
      stands = record {
        bytes = p.bytes;
        came = came_still start.left old.left left p.bytes p.came same;
        reads = passes_end names false told start.held held p.bytes [] (Rest n told) p.passes
            (subst (λ k. HeldReads names told held [] (Rest k told)) count t.turn.ends);
      };
      written = w.written;
    }

    by_end : (r : Option End) → Reads held new old.left left r → ReadsCount old.reads reads r → P r
    by_end None says counts =
        let q = passes_join names false told told start.held held (fed held says.0) p.bytes says.0 [] []
        p.passes (passes_fed names told held says.0 p.passes.fits) in (
          told,
          record {
            counts = since counts.stays;
            passed = record {
              bytes = p.bytes ++ says.0;
              came = came_join start.left old.left left p.bytes says.0 p.came says.1;
              passes = subst (λ h. Passes names false start.held (p.bytes ++ says.0) [] told h) (sym says.2) q;
            };
            written = w.written;
          },
        )
    by_end (Some end.Ended) says counts = record {
      counts = since counts.stays;
      ends = (says.0, unfinished 0 says.1 says.2 says.3);
    }
    by_end (Some end.Closed) says counts = absurd says
    by_end (Some (end.Cut n)) says counts = record {
      counts = since counts.stays;
      ends = (says.0, says.4, unfinished n says.1 says.2 says.3);
    }
    by_end (Some (end.Refused s)) says counts = absurd says
    by_end (Some end.ReadFault) says counts = record {
      counts = since counts.stays;
      ends = (
        rose_since start.reads old.reads reads w.counts.reads (counts.cause refl),
        (held_count held, unfinished (held_count held) says.0 says.1 refl),
      );
    }
    by_end (Some end.WriteFault) says counts = absurd says
    by_end (Some end.OutOfMemory) says counts =
        halted_memory names start mid told waits now says.0
        (record { reads = counts.stays; writes = omega arith }) says.2 says.1 refl
