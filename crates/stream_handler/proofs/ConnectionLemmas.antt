-- A connection, message by message to its end.
use Rattle.io_edge.specs.Edge.{Appends}
use Rattle.std.proofs.Common.{◌≡◌, ◌≢◌, ℕ, ◌+◌, ◌<◌, ◌≤◌, length-append, Bool, true, false, List, [], ◌∷◌, ◌++◌, length, refl, sym, ap, subst, ◌∙◌, arith, append-nil, inl, inr}
use Rattle.std.proofs.lemmas.List.{map-append}
use Rattle.std.specs.Prelude.{Option, Some, None}
use Rattle.shard_versions.specs.declared.cut.CutMark.{CutMark}
use Rattle.shard_versions.specs.declared.cut.OwnMark.{OwnMark}
use Rattle.shard_versions.specs.declared.cut.Record.{Record}
use Rattle.exchange_rules.specs.Following.{Writer, cleared}
use Rattle.exchange_rules.specs.Rows.{Layout}
use Rattle.exchange_rules.proofs.GrowthLemmas.{grows_same}
use Rattle.form_request.specs.Streams.{Held}
use Rattle.tuple_values.specs.declared.names.NameShards.{NameShards}
use Rattle.stream_handler.specs.Boards.{BoardState}
use Rattle.stream_handler.specs.Exchanges.{Answer, exchanges_of, replies_of}
use Rattle.stream_handler.specs.Sessions.{Wire, Came, AreOpen, IsAnsweredInPart, IsBounded, IsCutOff, IsOneEnd, IsUnanswered, IsWithin, EndsBy, WireEnds, Exchanged, IsOneServed, IsOver, IsServed, IsSession, most_requests, nothing, record_of, wire}
use Rattle.stream_handler.specs.Serving.{BreaksOff, end_of, exchanges_in}
use Rattle.stream_handler.specs.declared.ending.End.{End}
use Rattle.stream_handler.specs.declared.ending.End.TheVariants as end
use Rattle.stream_handler.specs.declared.ending.OneEnd.{OneEnd}
use Rattle.stream_handler.specs.declared.ending.OneEnd.TheVariants.{Served, Last, Over}
use Rattle.stream_handler.specs.declared.exchange.Exchange.{Exchange}
use Rattle.stream_handler.proofs.PassLemmas.{passes_none, untold}
use Rattle.stream_handler.proofs.ServeLemmas.{cut_join, over_join, served_join}
use Rattle.stream_handler.proofs.WireLemmas.{appends_none, came_none, counts_same}

-- nothing was served yet
pub served_none : (tells : ℕ → Type 0) (l : Layout) (wire : Wire) (w : Writer)
    → record_of w ≡ nothing
    → IsServed tells l wire wire w w []
served_none tells l wire w fresh = record {
  counts = counts_same wire;
  passed = record {
    bytes = [];
    came = came_none wire.left;
    passes = passes_none l.names false wire.held (untold wire.held.stage);
  };
  written = appends_none wire.written;
  exchanged = record {
    same = refl;
    grown = grows_same w.seen;
    sound = refl;
    looked = λ cell. omega arith;
  };
  boards = refl;
  recorded = fresh;
}

-- want of memory between two messages
pub over_here : (tells : ℕ → Type 0) (l : Layout) (old new : Wire) (w v : Writer)
    (answers : List Answer) → IsServed tells l old new w v answers
    → IsOver tells l old new w v answers (record_of v) end.OutOfMemory
over_here tells l old new w v answers s = record {
  counts = s.counts;
  ends = inl (record {
    ends = inl (record {
      bytes = s.passed.bytes;
      lost = [];
      told = false;
      came = subst (λ b. Came old.left new.left b) (sym (append-nil s.passed.bytes)) s.passed.came;
      passes = s.passed.passes;
      written = subst (λ t. Appends old.written new.written t) (sym (append-nil (replies_of answers)))
          s.written;
    });
    exchanged = s.exchanged;
    boards = s.boards;
    recorded = s.recorded;
  });
}

-- as many as a connection has
over_full : (tells : ℕ → Type 0) (l : Layout) (old new : Wire) (w v : Writer)
    (answers : List Answer)
    → IsServed tells l old new w v answers → length answers ≡ most_requests
    → IsOver tells l old new w v answers (record_of v) end.Closed
over_full tells l old new w v answers s full = record {
  counts = s.counts;
  ends = inl (record {
    ends = (s.passed, s.written, inr full);
    exchanged = s.exchanged;
    boards = s.boards;
    recorded = s.recorded;
  });
}

most_is : most_requests ≡ 10000
unfolding most_requests
most_is = refl

-- the exchanges with one more
pub exchanges_more : (exchanges : List Exchange) (answers : List Answer) (a : Answer) (x : Exchange)
    → exchanges ≡ exchanges_of answers → a.exchange ≡ x
    → exchanges ++ x ∷ [] ≡ exchanges_of (answers ++ a ∷ [])
exchanges_more exchanges answers a x e is =
    ap (λ (xs : List Exchange). xs ++ x ∷ []) e
    ∙ ap (λ y. exchanges_of answers ++ y ∷ []) (sym is)
    ∙ sym (map-append (λ (b : Answer). b.exchange) answers (a ∷ []))

-- one more was served
pub served_more : (tells : ℕ → Type 0) (l : Layout) (old mid new : Wire) (u v w : Writer)
    (answers : List Answer) (x : Exchange) (last : Bool) → IsServed tells l old mid u v answers
    → (s : IsOneServed tells l mid new v w x last)
    → IsServed tells l old new u w (answers ++ s.answer ∷ [])
served_more tells l old mid new u v w answers x last p s =
    served_join tells l old mid new u v w answers (s.answer ∷ []) p s.served

-- one more was served, and closes
abbrev pub over_closed : (tells : ℕ → Type 0) (l : Layout) (old mid new : Wire) (u v w : Writer)
    (answers : List Answer) (exchanges : List Exchange) (x : Exchange)
    → exchanges ≡ exchanges_of answers
    → IsServed tells l old mid u v answers → IsOneServed tells l mid new v w x true
    → IsSession tells l old new u w (exchanges ++ x ∷ []) (record_of w) end.Closed
over_closed tells l old mid new u v w answers exchanges x e p s =
    let all = served_more tells l old mid new u v w answers x true p s in
    record {
      answers = answers ++ s.answer ∷ [];
      exchanges_are = exchanges_more exchanges answers s.answer x e s.exchange;
      over = record {
        counts = all.counts;
        ends = inl (record {
          ends = (all.passed, all.written, inl (answers, s.answer, refl, s.closes, s.behind refl));
          exchanged = all.exchanged;
          boards = all.boards;
          recorded = all.recorded;
        });
      };
    }

-- it was over, with no more exchanges
abbrev pub over_none : (tells : ℕ → Type 0) (l : Layout) (old mid new : Wire) (u v w : Writer)
    (answers : List Answer) (exchanges : List Exchange) (e : End) → exchanges ≡ exchanges_of answers
    → IsServed tells l old mid u v answers
    → IsUnanswered tells l mid new v w e → IsSession tells l old new u w exchanges (record_of w) e
over_none tells l old mid new u v w answers exchanges e is p o = record {
  answers = answers;
  exchanges_are = is;
  over = subst (λ a. IsOver tells l old new u w a (record_of w) e) (append-nil answers)
      (over_join tells l old mid new u v w answers [] (record_of w) e p o.unclosed o.over);
}

-- what breaks a reply off is no close
pub not_closing : (e : End) (failed fails : ℕ) → BreaksOff e failed fails → e ≢ end.Closed
not_closing end.Ended failed fails c = absurd c
not_closing end.Closed failed fails c = absurd c
not_closing (end.Cut held) failed fails c = absurd c
not_closing (end.Refused status) failed fails c = absurd c
not_closing end.ReadFault failed fails c = absurd c
not_closing end.WriteFault failed fails c = λ e. cc
not_closing end.OutOfMemory failed fails c = λ e. cc

-- a reply in part ends a connection
pub part_over : (tells : ℕ → Type 0) (l : Layout) (old new : Wire) (w v : Writer) (x : Exchange)
    (e : End) → (s : IsAnsweredInPart tells l old new w v x e)
    → IsOver tells l old new w v (s.answer ∷ []) (record_of v) e
part_over tells l old new w v x e s = record {
  counts = s.counts;
  ends = inl (record {
    ends = by_cause e s.cause;
    exchanged = s.exchanged;
    boards = s.boards;
    recorded = s.recorded;
  });
}
  where
    by_cause : (e : End) → BreaksOff e old.writes new.writes
        → WireEnds l.names old new (s.answer ∷ []) e
    by_cause end.Ended c = absurd c
    by_cause end.Closed c = absurd c
    by_cause (end.Cut held) c = absurd c
    by_cause (end.Refused status) c = absurd c
    by_cause end.ReadFault c = absurd c
    by_cause end.WriteFault rose = (rose, inr s.cut)
    by_cause end.OutOfMemory free = inr s.cut

-- it was over, with one more
abbrev pub over_one : (tells : ℕ → Type 0) (l : Layout) (old mid new : Wire) (u v w : Writer)
    (answers : List Answer) (exchanges : List Exchange) (x : Exchange) (e : End)
    → exchanges ≡ exchanges_of answers
    → IsServed tells l old mid u v answers → IsAnsweredInPart tells l mid new v w x e
    → IsSession tells l old new u w (exchanges ++ x ∷ []) (record_of w) e
over_one tells l old mid new u v w answers exchanges x e is p s = record {
  answers = answers ++ s.answer ∷ [];
  exchanges_are = exchanges_more exchanges answers s.answer x is s.exchange;
  over = over_join tells l old mid new u v w answers (s.answer ∷ []) (record_of w) e p
      (not_closing e mid.writes new.writes s.cause) (part_over tells l mid new v w x e s);
}

-- exchanges don't depend on what a writer's record holds
pub exchanged_of : (tells : ℕ → Type 0) (l : Layout) (w v : Writer) (answers : List Answer)
    → Exchanged tells l (cleared w) v answers
    → Exchanged tells l w (cleared v) answers
exchanged_of tells l w v answers x =
    record { same = x.same; grown = x.grown; sound = x.sound; looked = x.looked }

-- a connection that began with an empty record, and left its record
abbrev pub session_cleared : (tells : ℕ → Type 0) (l : Layout) (old new : Wire) (w v : Writer)
    (exchanges : List Exchange) (rest : Record) (e : End)
    → IsSession tells l old new (cleared w) v exchanges rest e
    → IsSession tells l old new w (cleared v) exchanges rest e
session_cleared tells l old new w v exchanges rest e s = record {
  answers = s.answers;
  exchanges_are = s.exchanges_are;
  over = record { counts = s.over.counts; ends = ends s.over.ends };
}
  where
    ends : EndsBy tells l old new (cleared w) v s.answers rest e
        → EndsBy tells l old new w (cleared v) s.answers rest e
    ends (inl i) = inl (record {
      ends = i.ends;
      exchanged = exchanged_of tells l w v s.answers i.exchanged;
      boards = i.boards;
      recorded = i.recorded;
    })
    ends (inr (is, b)) = inr (
      is,
      record {
        message = b.message;
        passed = b.passed;
        written = b.written;
        mid = cleared b.mid;
        exchanged = exchanged_of tells l w b.mid s.answers b.exchanged;
        same = b.same;
        grown = b.grown;
        accesses = b.accesses;
        marks = b.marks;
        own = b.own;
        looked = b.looked;
        told = b.told;
        left = b.left;
        followed = b.followed;
        boards = b.boards;
      },
    )

-- a whole connection, between the two times at which the record is taken
pub session_of : {tells : ℕ → Type 0} {l m : Layout} {held start : Held} {left : Option (List ℕ)}
    {reads : ℕ}
    {written : Option (List ℕ)} {writes : ℕ} {board : BoardState} {new : Wire} {w u v z : Writer}
    {exchanges items : List Exchange} {rest : Record} {e : End} → m ≡ l → held ≡ start → u ≡ cleared w
    → z ≡ cleared v → exchanges ≡ items → rest ≡ record_of v
    → IsBounded tells m (wire held left reads written writes board) new u v items (record_of v) e
    → IsBounded tells l (wire start left reads written writes board) new w z exchanges rest e
session_of same begins fresh left are told s =
    let a = rw (same, begins, fresh) at s in
    rw (left, are, told)
    (record { session = session_cleared _ _ _ _ _ _ _ _ _ a.session; within = a.within })

-- fewer were answered than a connection has
are_few : (n c : ℕ) → n ≡ c → c < 10000 → n < most_requests
are_few n c e less = omega (arith, e, less, most_is)

-- with one more they are no more
are_fitting : (answers : List Answer) (a : Answer) → length answers < most_requests
    → length (answers ++ a ∷ []) ≤ most_requests
are_fitting answers a less = omega (arith, less, length-append answers (a ∷ []))

-- whatever ends it then
within_few : (names : List NameShards) (old new : Wire) (answers : List Answer) (e : End)
    → length answers < most_requests → AreOpen answers → IsWithin names old new answers e
within_few names old new answers end.Ended less opens = (less, opens)
within_few names old new answers end.Closed less opens = omega (arith, less)
within_few names old new answers (end.Cut held) less opens = (less, opens)
within_few names old new answers (end.Refused status) less opens = (less, opens)
within_few names old new answers end.ReadFault less opens = (less, opens)
within_few names old new answers end.WriteFault less opens = inl (less, opens)
within_few names old new answers end.OutOfMemory less opens = inl (less, opens)

-- a reply that is broken off ends a connection with as many requests as it may have
within_cut : (names : List NameShards) (old new : Wire) (answers : List Answer) (e : End)
    (failed fails : ℕ) → BreaksOff e failed fails → length answers ≤ most_requests
    → IsCutOff names old new answers → IsWithin names old new answers e
within_cut names old new answers end.Ended failed fails c fits cut = absurd c
within_cut names old new answers end.Closed failed fails c fits cut = absurd c
within_cut names old new answers (end.Cut held) failed fails c fits cut = absurd c
within_cut names old new answers (end.Refused status) failed fails c fits cut = absurd c
within_cut names old new answers end.ReadFault failed fails c fits cut = absurd c
within_cut names old new answers end.WriteFault failed fails c fits cut = inr (cut, fits)
within_cut names old new answers end.OutOfMemory failed fails c fits cut = inr (cut, fits)

-- one more that doesn't close
open_more : (answers : List Answer) (a : Answer) → AreOpen answers
    → a.message.request.closes ≡ false → AreOpen (answers ++ a ∷ [])
open_more [] a opens is = (is, tt)
open_more (b ∷ answers) a opens is = (opens.0, open_more answers a opens.1 is)

-- a record is known by its two lists
pub record_is : (r : Record) (v : Writer) → r.marks ≡ v.marks → r.own ≡ v.own → r ≡ record_of v
record_is r v m o =
    ap (λ (marks : List CutMark). let x : Record = record { marks = marks; own = r.own } in x) m
    ∙ ap (λ (own : List OwnMark). let x : Record = record { marks = v.marks; own = own } in x) o

-- a connection goes on: so many messages were answered, with these exchanges, and none closes
pub record GoesOn (tells : ℕ → Type 0) (l m : Layout) (old new : Wire) (w v : Writer)
    (exchanges : List Exchange) (count : ℕ) : Type 0 where
  pub same : m ≡ l
  pub answers : List Answer
  pub exchanges_are : exchanges ≡ exchanges_of answers
  pub counted : length answers ≡ count
  pub are_open : AreOpen answers
  pub served : IsServed tells l old new w v answers

-- it goes on, or is over
abbrev pub LeadsTo : (ℕ → Type 0) → Layout → Layout → Wire → Wire → Writer → Writer → List Exchange
    → ℕ → Option End → Type 0
LeadsTo tells l m old new w v exchanges count None =
    GoesOn tells l m old new w v exchanges count
LeadsTo tells l m old new w v exchanges count (Some e) =
    IsBounded tells l old new w v exchanges (record_of v) e

-- at its start
pub goes_at_start : {tells : ℕ → Type 0} {l : Layout} {start : Wire} {w : Writer}
    {exchanges : List Exchange}
    → exchanges ≡ [] → record_of w ≡ nothing → GoesOn tells l l start start w w exchanges 0
goes_at_start {tells} {l} {start} {w} none fresh = record {
  same = refl;
  answers = [];
  exchanges_are = none;
  counted = refl;
  are_open = tt;
  served = served_none tells l start w fresh;
}

-- where memory is wanting
pub ends_of_memory : {tells : ℕ → Type 0} {l m : Layout} {old new : Wire} {w v : Writer}
    {xs ys : List Exchange} {count : ℕ}
    → GoesOn tells l m old new w v xs count → count < 10000 → ys ≡ xs
    → IsBounded tells l old new w v ys (record_of v) end.OutOfMemory
ends_of_memory {tells} {l} {m} {old} {new} {w} {v} p few same = record {
  session = record {
    answers = p.answers;
    exchanges_are = same ∙ p.exchanges_are;
    over = over_here tells l old new w v p.answers p.served;
  };
  within = within_few l.names old new p.answers end.OutOfMemory (are_few _ _ p.counted few)
      p.are_open;
}

-- with as many as it may have
pub ends_when_full : {tells : ℕ → Type 0} {l m : Layout} {old new : Wire} {w v : Writer}
    {xs : List Exchange} {count : ℕ}
    → GoesOn tells l m old new w v xs count → count ≡ 10000
    → IsBounded tells l old new w v xs (record_of v) end.Closed
ends_when_full {tells} {l} {m} {old} {new} {w} {v} p is =
    let full = p.counted ∙ is ∙ sym most_is in
    record {
      session = record {
        answers = p.answers;
        exchanges_are = p.exchanges_are;
        over = over_full tells l old new w v p.answers p.served full;
      };
      within = omega (arith, full);
    }

module _ (tells : ℕ → Type 0) (l m : Layout) (old mid new : Wire) (u v w : Writer)
    (xs : List Exchange) (n : ℕ) (p : GoesOn tells l m old mid u v xs n)
    (few : length p.answers < most_requests) where
  -- one message further
  led : (one : OneEnd) → IsOneEnd tells l mid new v w one
      → LeadsTo tells l l old new u w (xs ++ exchanges_in one) (n + 1) (end_of one)
  led (Served x) s = record {
    same = refl;
    answers = p.answers ++ s.answer ∷ [];
    exchanges_are = exchanges_more xs p.answers s.answer x p.exchanges_are s.exchange;
    counted = omega (arith, length-append p.answers (s.answer ∷ []), p.counted);
    are_open = open_more p.answers s.answer p.are_open s.closes;
    served = served_more tells l old mid new u v w p.answers x false p.served s;
  }
  led (Last x) s = record {
    session = over_closed tells l old mid new u v w p.answers xs x p.exchanges_are p.served s;
    within = are_fitting p.answers s.answer few;
  }
  led (Over e None) s =
      rw append-nil (record {
        session = over_none tells l old mid new u v w p.answers xs e p.exchanges_are p.served s;
        within = within_few l.names old new p.answers e few p.are_open;
      })
  led (Over e (Some x)) s = record {
    session = over_one tells l old mid new u v w p.answers xs x e p.exchanges_are p.served s;
    within = within_cut l.names old new (p.answers ++ s.answer ∷ []) e mid.writes new.writes s.cause
        (are_fitting p.answers s.answer few)
        (cut_join l.names old mid new p.answers (s.answer ∷ []) p.served.passed p.served.written s.cut);
  }

-- one more message was served: the connection goes on, or is over
pub leads_to : {tells : ℕ → Type 0} {l m k : Layout} {old mid : Wire} (new : Wire) {u v : Writer}
    (w : Writer) {xs ys zs : List Exchange} {n : ℕ} (one : OneEnd) {kept : Option End}
    (r : Option End)
    → GoesOn tells l m old mid u v xs n → n < 10000 → ys ≡ xs → IsOneEnd tells m mid new v w one
    → k ≡ m
    → zs ≡ ys ++ exchanges_in one → kept ≡ end_of one → kept ≡ r
    → LeadsTo tells l k old new u w zs (n + 1) r
leads_to new w one r p less room s same is end are =
    let t = rw p.same at s in
    rw (same ∙ p.same, is, room, sym are ∙ end)
    (led _ _ _ _ _ _ _ _ _ _ _ p (are_few _ _ p.counted less) one t)
