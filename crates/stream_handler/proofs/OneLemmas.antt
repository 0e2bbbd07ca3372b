-- One message of a connection, from its request to its reply.
use Rattle.std.proofs.Common.{◌≡◌, ◌≢◌, ℕ, ◌≤◌, Bool, true, false, List, [], ◌∷◌, ◌++◌, Option, Some, None, refl, sym, ap, subst, ◌∙◌, arith, append-nil, inl, inr, append_assoc}
use Rattle.tuple_values.specs.declared.names.NameShards.{NameShards}
use Rattle.io_edge.specs.Edge.{Appends}
use Rattle.exchange_rules.specs.Following.{Writer, cleared}
use Rattle.exchange_rules.specs.Rows.{Layout}
use Rattle.form_request.specs.declared.request.Request.{Request}
use Rattle.stream_handler.specs.Boards.{BoardState}
use Rattle.stream_handler.specs.Exchanges.{Answer, BoardsAlong, reply_to}
use Rattle.stream_handler.specs.Outcomes.{framing_of, reply_of}
use Rattle.stream_handler.specs.Passing.{said}
use Rattle.stream_handler.specs.Serving.{BreaksOff, IsCarriedOut, IsLeftOff, IsReplied, IsWritten, IsWrittenInPart, sunk}
use Rattle.stream_handler.specs.Sessions.{Wire, wire, Counts, IsAnsweredInPart, IsOneEnd, IsOneServed, IsOver, IsUnanswered, Passed, WireEnds, most_requests, nothing, record_of}
use Rattle.stream_handler.specs.Waiting.{IsHalted, IsWhole}
use Rattle.stream_handler.specs.declared.ending.End.{End}
use Rattle.stream_handler.specs.declared.ending.End.TheVariants as end
use Rattle.stream_handler.specs.declared.ending.OneEnd.{OneEnd}
use Rattle.stream_handler.specs.declared.ending.OneEnd.TheVariants.{Served, Last, Over}
use Rattle.stream_handler.specs.declared.exchange.Exchange.{Exchange}
use Rattle.stream_handler.specs.declared.outcome.Outcome.{Outcome}
use Rattle.stream_handler.proofs.ServeLemmas.{exchanged_none, exchanged_one}
use Rattle.stream_handler.proofs.WireLemmas.{appends_join, appends_still, rose_since}

-- a list with something at its end is not empty
not_empty : (before : List Answer) (a : Answer) → [] ≡ before ++ a ∷ [] → ⊥
not_empty [] a e = absurd (cc)
not_empty (b ∷ before) a e = absurd (cc)

-- a connection of which no message was answered isn't closed
not_closed : (names : List NameShards) (old new : Wire) (e : End) → WireEnds names old new [] e
    → e ≢ end.Closed
unfolding most_requests
not_closed names old new end.Ended q = λ x. cc
not_closed names old new end.Closed q =
    elim q.2 [
      | inl c ↦ absurd (not_empty c.0 c.1 c.2)
      | inr c ↦ absurd (omega (arith, c))
    ]
not_closed names old new (end.Cut n) q = λ x. cc
not_closed names old new (end.Refused s) q = λ x. cc
not_closed names old new end.ReadFault q = λ x. cc
not_closed names old new end.WriteFault q = λ x. cc
not_closed names old new end.OutOfMemory q = λ x. cc

-- no message is whole
pub over_none : (tells : ℕ → Type 0) (l : Layout) (names : List NameShards) (old new : Wire)
    (w v : Writer) (e : End)
    → names ≡ l.names → v ≡ cleared w → new.board ≡ old.board → IsHalted names old new e
    → IsUnanswered tells l old new w v e
over_none tells l names old new w v e same clear still h =
    let h' = subst (λ n. IsHalted n old new e) same h in
    record {
      unclosed = not_closed l.names old new e h'.ends;
      over = subst (λ v. IsOver tells l old new w v [] (record_of v) e) (sym clear) (record {
        counts = h'.counts;
        ends = inl (record {
          ends = h'.ends;
          exchanged = exchanged_none tells l w;
          boards = still;
          recorded = refl;
        });
      });
    }

module _ (tells : ℕ → Type 0) (l : Layout) (start mid : Wire) (w v : Writer) (request : Request)
    (whole : IsWhole l.names start mid request) (written : Option (List ℕ)) (writes : ℕ)
    (board : BoardState) where
  -- the connection once the reply was tried
  abbrev pub now : Wire
  now = wire mid.held mid.left mid.reads written writes board

  abbrev pub answer_of : ℕ → Exchange → Outcome → Answer
  answer_of time x o = record {
    message = record { asks = whole.asks; request = request };
    now = time;
    exchange = x;
    outcome = o;
  }

  passed : Passed l.names start now (record { asks = whole.asks; request = request } ∷ []) false
  passed = record {
    bytes = whole.passed.bytes;
    came = whole.passed.came;
    passes = whole.passed.passes;
  }

  since : mid.writes ≤ writes → Counts start now
  since le = record {
    reads = whole.counts.reads;
    writes = omega (arith, whole.counts.writes, le);
  }

  -- what is written of a message that is answered
  one_reply : (time : ℕ) (x : Exchange) (o : Outcome)
      → said whole.asks ++ reply_of (framing_of request) x.millis o ≡ reply_to (answer_of time x o) ++ []
  one_reply time x o = sym (append-nil (reply_to (answer_of time x o)))

  left_nothing : (x : Exchange) (o : Outcome)
      → IsCarriedOut tells l (cleared w) v start.board board request x o
      → record_of v ≡ nothing
  left_nothing x o c = ap record_of c.rest

  -- what the board said to it
  one_board : (x : Exchange) (o : Outcome)
      → (c : IsCarriedOut tells l (cleared w) v start.board board request x o)
      → BoardsAlong tells l start.board (answer_of c.now x o ∷ []) board
  one_board x o c = (board, c.began, c.board, refl)

  served : (x : Exchange) (last : Bool) → request.closes ≡ last
      → (last ≡ true → request.closes ≡ true)
      → IsWritten tells l (cleared w) v start.board board request
      (sunk mid.written written mid.writes writes) x
      → IsOneServed tells l start now w v x last
  served x last is closes s = record {
    answer = answer_of s.carried.now x s.outcome;
    exchange = refl;
    closes = is;
    behind = λ e. whole.behind (closes e);
    served = record {
      counts = since s.stays;
      passed = passed;
      written = subst (λ t. Appends start.written written t) (one_reply s.carried.now x s.outcome)
          (appends_join start.written mid.written written (said whole.asks)
          (reply_of (framing_of request) x.millis s.outcome) whole.written s.written);
      exchanged = exchanged_one tells l w v start.board board
          (record { asks = whole.asks; request = request }) x s.outcome
          (carried x s.outcome s.carried);
      boards = one_board x s.outcome s.carried;
      recorded = left_nothing x s.outcome s.carried;
    };
  }
    where
      carried : (x : Exchange) (o : Outcome)
          → IsCarriedOut tells l (cleared w) v start.board board request x o
          → IsCarriedOut tells l w v start.board board request x o
      carried x o c = record {
        now = c.now;
        began = c.began;
        end = c.end;
        carried = c.carried;
        board = c.board;
        rest = c.rest;
        marks = c.marks;
        own = c.own;
        lasted = c.lasted;
      }

  -- a beginning was carried out
  left_off : IsLeftOff l (cleared w) v start.board board request (sunk mid.written written mid.writes writes)
      → IsOver tells l start now w v [] (record_of v) end.OutOfMemory
  left_off s = record {
    counts = since (omega (arith, s.fails));
    ends = inr (
      refl,
      record {
        message = record { asks = whole.asks; request = request };
        passed = passed;
        written = appends_still start.written mid.written written (said whole.asks) whole.written s.written;
        mid = cleared w;
        exchanged = exchanged_none tells l w;
        same = s.begun.begun.1.same;
        grown = s.begun.begun.1.grown;
        accesses = s.begun.begun.1.accesses;
        marks = s.begun.begun.1.marks;
        own = s.begun.begun.1.own;
        looked = s.begun.begun.1.looked;
        told = s.begun.told;
        left = s.begun.begun.0;
        followed = s.begun.begun.1.followed;
        boards = s.begun.board;
      },
    );
  }

  -- why it is broken off
  breaks : (e : End) → BreaksOff e mid.writes writes → BreaksOff e start.writes writes
  breaks end.Ended c = absurd c
  breaks end.Closed c = absurd c
  breaks (end.Cut held) c = absurd c
  breaks (end.Refused status) c = absurd c
  breaks end.ReadFault c = absurd c
  breaks end.WriteFault rose =
      rose_since start.writes mid.writes writes whole.counts.writes rose
  breaks end.OutOfMemory free = free

  -- the reply was written in part
  in_part : (x : Exchange) (e : End)
      → IsWrittenInPart tells l (cleared w) v start.board board request
      (sunk mid.written written mid.writes writes) x e
      → IsAnsweredInPart tells l start now w v x e
  in_part x e s = record {
    counts = since s.stays;
    cause = breaks e s.cause;
    answer = answer_of s.carried.now x s.outcome;
    exchange = refl;
    cut = record {
      before = [];
      last = answer_of s.carried.now x s.outcome;
      answers_are = refl;
      passed = passed;
      part = said whole.asks ++ s.written.0;
      rest = s.written.1;
      is = ap (λ r. said whole.asks ++ r) s.written.2
          ∙ sym (append_assoc (said whole.asks) s.written.0 s.written.1);
      written = appends_join start.written mid.written written (said whole.asks) s.written.0
          whole.written s.written.3;
    };
    exchanged = exchanged_one tells l w v start.board board
        (record { asks = whole.asks; request = request }) x s.outcome (record {
          now = s.carried.now;
          began = s.carried.began;
          end = s.carried.end;
          carried = s.carried.carried;
          board = s.carried.board;
          rest = s.carried.rest;
          marks = s.carried.marks;
          own = s.carried.own;
          lasted = s.carried.lasted;
        });
    boards = one_board x s.outcome s.carried;
    recorded = left_nothing x s.outcome s.carried;
  }

  -- how the message was served
  pub one_end : (r : OneEnd)
      → IsReplied tells l (cleared w) v start.board board request
      (sunk mid.written written mid.writes writes) r
      → IsOneEnd tells l start now w v r
  one_end (Served x) s = served x false s.0 (λ e. absurd (cc)) s.1
  one_end (Last x) s = served x true s.0 (λ e. s.0) s.1
  one_end (Over e None) s =
      subst (λ e. IsUnanswered tells l start now w v e) (sym s.0)
      (record { unclosed = λ x. cc; over = left_off s.1 })
  one_end (Over e (Some x)) s = in_part x e s

-- the same, where names, layout and writer are what the site says of them
pub one_end_of : (tells : ℕ → Type 0) (l m : Layout) (names : List NameShards) (start mid : Wire)
    (w u v : Writer) (request : Request) (written : Option (List ℕ)) (writes : ℕ)
    (board : BoardState) (r : OneEnd)
    → names ≡ m.names → m ≡ l → u ≡ cleared w → IsWhole names start mid request
    → IsReplied tells m u v start.board board request (sunk mid.written written mid.writes writes) r
    → IsOneEnd tells l start (wire mid.held mid.left mid.reads written writes board) w v r
one_end_of tells l m names start mid w u v request written writes board r named same clear whole s =
    let sunk' = sunk mid.written written mid.writes writes in
    let whole' = subst (λ n. IsWhole n start mid request)
    (named ∙ ap (λ (k : Layout). k.names) same) whole in
    let s' = subst (λ k. IsReplied tells k (cleared w) v start.board board request sunk' r) same
    (subst (λ u. IsReplied tells m u v start.board board request sunk' r) clear s) in
    one_end tells l start mid w v request whole' written writes board r s'
