-- The serving of an input, message by message, with the daemons' runs behind each.
use Rattle.std.proofs.Common.{◌≡◌, ◌∙◌, Bool, false, true, List, [], ◌∷◌, ◌++◌, refl, sym, subst, inl, inr}
use Rattle.std.specs.Prelude.{Option, Some, None}
use Rattle.std.proofs.lemmas.Grind.{flat_map-append}
use Rattle.std.proofs.lemmas.List.{map-append}
use Rattle.io_edge.specs.Edge.{Appends}
use Rattle.exchange_rules.specs.Following.{Writer}
use Rattle.exchange_rules.specs.Rows.{Layout}
use Rattle.site_laws.specs.SiteCells.{IsLawful}
use Rattle.daemon_board.specs.Boards.{Told}
use Rattle.daemon_board.specs.Rising.{IsKept}
use Rattle.daemon_board.specs.Tickets.{tickets_of}
use Rattle.daemon_steps.specs.Stepped.{IsCutShort, IsStepped}
use Rattle.stream_handler.specs.Asks.{ask_of}
use Rattle.stream_handler.specs.Boards.{BoardState, Says}
use Rattle.stream_handler.specs.Exchanges.{Answer, BoardsAlong, messages_of, replies_of, reply_to}
use Rattle.stream_handler.specs.Sessions.{Wire, Exchanged, IsOneOver, IsOneServed, Passed}
use Rattle.stream_handler.specs.declared.ending.End.{End}
use Rattle.stream_handler.specs.declared.ending.End.TheVariants as end
use Rattle.stream_handler.specs.declared.exchange.Exchange.{Exchange}
use Rattle.stream_handler.proofs.PassLemmas.{passes_none, untold}
use Rattle.stream_handler.proofs.ServeLemmas.{passed_join}
use Rattle.stream_handler.proofs.WireLemmas.{appends_join, appends_none, came_none, counts_join, counts_same}
use Rattle.stream_commands.specs.Serving.{HasRound, HasRun, HasServed, IsAnsweredTo, IsCarriedOn, TellsZero, state_of}
use Rattle.stream_commands.proofs.BoardLemmas.{said_kept}
use Rattle.stream_commands.proofs.RoundLemmas.{rounds_join}

-- the connection with another board
abbrev pub at_board : Wire → Told → Wire
at_board new b = record new { board = state_of b }

-- nothing was served yet
pub carried_none : (l : Layout) (old : Wire) (w : Writer) (b : Told) → old.board ≡ state_of b
    → IsCarriedOn l old old w w b b []
carried_none l old w b is = record {
  counts = counts_same old;
  passed = record {
    bytes = [];
    came = came_none old.left;
    passes = passes_none l.names false old.held (untold old.held.stage);
  };
  written = appends_none old.written;
  rounds = (refl, refl);
  board = is;
}

-- some messages and then others
pub carried_join : (l : Layout) (old mid new : Wire) (u v w : Writer) (b c d : Told)
    (xs ys : List Answer)
    → IsCarriedOn l old mid u v b c xs → IsCarriedOn l mid new v w c d ys
    → IsCarriedOn l old new u w b d (xs ++ ys)
carried_join l old mid new u v w b c d xs ys p q = record {
  counts = counts_join old mid new p.counts q.counts;
  passed = subst (λ ms. Passed l.names old new ms false)
      (sym (map-append (λ (a : Answer). a.message) xs ys))
      (passed_join l.names old mid new xs ys p.passed p.written (messages_of ys) false q.passed);
  written = subst (λ t. Appends old.written new.written t) (sym (flat_map-append reply_to xs ys))
      (appends_join old.written mid.written new.written (replies_of xs) (replies_of ys) p.written
      q.written);
  rounds = rounds_join l u v w b c d xs ys p.rounds q.rounds;
  board = q.board;
}

-- and then to the end
pub served_join : (l : Layout) (old mid new : Wire) (u v w : Writer) (b c d : Told)
    (xs : List Answer) (e : End) → IsCarriedOn l old mid u v b c xs → HasServed l mid new v w c d e
    → HasServed l old new u w b d e
served_join l old mid new u v w b c d xs e p s = record {
  answers = xs ++ s.answers;
  mid = s.mid;
  turned = s.turned;
  board = s.board;
  served = carried_join l old mid s.mid u v s.turned b c s.board xs s.answers p s.served;
  stops = s.stops;
  told = s.told;
}

-- what the board said to one message, at 0
board_said : (l : Layout) (before after : BoardState) (a : Answer)
    → BoardsAlong TellsZero l before (a ∷ []) after
    → Says 0 (ask_of l.names a.message.request) before after a.outcome
board_said l before after a b =
    subst (λ n. Says n (ask_of l.names a.message.request) before after a.outcome) b.1
    (subst (λ x. Says a.now (ask_of l.names a.message.request) before x a.outcome) (sym b.3) b.2)

-- one message was answered
pub one_answered : (l : Layout) (before : BoardState) (w v : Writer) (b c : Told) (a : Answer)
    → before ≡ state_of b → Exchanged TellsZero l w v (a ∷ [])
    → BoardsAlong TellsZero l before (a ∷ []) (state_of c)
    → IsAnsweredTo l w v b c a
one_answered l before w v b c a is x along = record {
  exchanged = x;
  said = subst (λ s. Says 0 (ask_of l.names a.message.request) s (state_of c) a.outcome) is
      (board_said l before (state_of c) a along);
}

module _ (l : Layout) (old new : Wire) (w mid v : Writer) (before asked after : Told) (x : Exchange)
    (last : Bool) (from : old.board ≡ state_of before) (to : new.board ≡ state_of after)
    (one : IsOneServed TellsZero l old (at_board new asked) w mid x last) where
  -- it was answered, and the daemons ran
  carried_one : IsStepped l mid v (tickets_of asked.shown) (tickets_of after.shown)
      → IsLawful l.names v.seen → IsCarriedOn l old new w v before after (one.answer ∷ [])
  carried_one stepped lawful = record {
    counts = record { reads = one.served.counts.reads; writes = one.served.counts.writes };
    passed = record {
      bytes = one.served.passed.bytes;
      came = one.served.passed.came;
      passes = one.served.passed.passes;
    };
    written = one.served.written;
    rounds = (
      v,
      after,
      record {
        mid = mid;
        asked = asked;
        answered = one_answered l old.board w mid before asked one.answer from
            one.served.exchanged one.served.boards;
        stepped = stepped;
        lawful = lawful;
      },
      (refl, refl),
    );
    board = to;
  }

  -- it was answered, and the daemons lacked memory
  cut_one : IsCutShort l mid v (tickets_of asked.shown) (tickets_of after.shown)
      → HasServed l old new w v before after end.OutOfMemory
  cut_one cut = record {
    answers = [];
    mid = old;
    turned = w;
    board = before;
    served = carried_none l old w before from;
    stops = inr (inr (record {
      ends = refl;
      mid = mid;
      asked = asked;
      exchange = x;
      last = last;
      one = one;
      cut = cut;
    }));
    told = to;
  }

-- what the board is after a message
pub one_kept : {l : Layout} {old new : Wire} {w v : Writer} {x : Exchange} {last : Bool}
    (before asked : Told) → old.board ≡ state_of before → new.board ≡ state_of asked
    → IsOneServed TellsZero l old new w v x last → IsKept before.shown → IsKept asked.shown
one_kept {l} {old} {new} before asked from to one kept =
    let a = one.answer in
    said_kept before asked a.outcome (ask_of l.names a.message.request) kept
    (subst (λ s. Says 0 (ask_of l.names a.message.request) (state_of before) s a.outcome) to
    (subst (λ s. Says 0 (ask_of l.names a.message.request) s new.board a.outcome) from
    (board_said l old.board new.board a one.served.boards)))

module _ (l : Layout) (old new : Wire) (w mid v : Writer) (before asked after : Told) (x : Exchange)
    (from : old.board ≡ state_of before) (to : new.board ≡ state_of after) where
  -- a message was served, and it goes on
  pub round_on : (k : Layout) (found : Option End) → k ≡ l
      → IsOneServed TellsZero l old (at_board new asked) w mid x false
      → IsLawful k.names v.seen
      → HasRun k mid v (tickets_of asked.shown) (tickets_of after.shown) None found
      → HasRound l old new w v before after found
  round_on k found same one lawful (inl ran) =
      subst (λ e. HasRound l old new w v before after e) (sym ran.1) (
        one.answer,
        carried_one l old new w mid v before asked after x false from to one
            (subst (λ m. IsStepped m mid v (tickets_of asked.shown) (tickets_of after.shown)) same
            ran.0) (subst (λ m. IsLawful m.names v.seen) same lawful),
      )
  round_on k found same one lawful (inr ran) =
      subst (λ e. HasRound l old new w v before after e) (sym ran.1)
      (cut_one l old new w mid v before asked after x false from to one
      (subst (λ m. IsCutShort m mid v (tickets_of asked.shown) (tickets_of after.shown)) same
      ran.0))

  -- one that closes was served
  pub round_last : (k : Layout) (found : Option End) → k ≡ l
      → IsOneServed TellsZero l old (at_board new asked) w mid x true
      → IsLawful k.names v.seen
      → HasRun k mid v (tickets_of asked.shown) (tickets_of after.shown) (Some end.Closed) found
      → HasRound l old new w v before after found
  round_last k found same one lawful (inl ran) =
      subst (λ e. HasRound l old new w v before after e) (sym ran.1) (record {
        answers = one.answer ∷ [];
        mid = new;
        turned = v;
        board = after;
        served = carried_one l old new w mid v before asked after x true from to one
            (subst (λ m. IsStepped m mid v (tickets_of asked.shown) (tickets_of after.shown)) same
            ran.0) (subst (λ m. IsLawful m.names v.seen) same lawful);
        stops = inl (record {
          wire = refl;
          writer = refl;
          board = refl;
          why = inl (refl, one.behind refl);
        });
        told = to;
      })
  round_last k found same one lawful (inr ran) =
      subst (λ e. HasRound l old new w v before after e) (sym ran.1)
      (cut_one l old new w mid v before asked after x true from to one
      (subst (λ m. IsCutShort m mid v (tickets_of asked.shown) (tickets_of after.shown)) same
      ran.0))

-- a message wasn't answered whole
pub round_over : (l : Layout) (old new : Wire) (w v : Writer) (before after : Told) (e : End)
    (unfinished : Option Exchange) → old.board ≡ state_of before → new.board ≡ state_of after
    → IsOneOver TellsZero l old new w v unfinished e → HasServed l old new w v before after e
round_over l old new w v before after e unfinished from to one = record {
  answers = [];
  mid = old;
  turned = w;
  board = before;
  served = carried_none l old w before from;
  stops = inr (inl (unfinished, one));
  told = to;
}

-- the messages are too many to be counted
pub served_stopped : (l : Layout) (old new : Wire) (w v : Writer) (before after : Told)
    (answers : List Answer) → IsCarriedOn l old new w v before after answers
    → HasServed l old new w v before after end.OutOfMemory
served_stopped l old new w v before after answers p = record {
  answers = answers;
  mid = new;
  turned = v;
  board = after;
  served = p;
  stops = inl (record { wire = refl; writer = refl; board = refl; why = inr refl });
  told = p.board;
}

module _ {l m : Layout} {old mid new : Wire} {u v w : Writer} {b c d : Told} {answers : List Answer}
    (same : m ≡ l) (p : IsCarriedOn l old mid u v b c answers) where
  -- one more message was served
  pub round_more : {k : Layout} → k ≡ m → IsKept d.shown
      → HasRound m mid new v w c d None
      → (more : List Answer) × (k ≡ l) × IsKept d.shown × IsCarriedOn l old new u w b d more
  round_more stays kept round =
      let one = subst (λ n. HasRound n mid new v w c d None) same round in (
        answers ++ one.0 ∷ [],
        stays ∙ same,
        kept,
        carried_join l old mid new u v w b c d answers (one.0 ∷ []) p one.1,
      )

  -- and then no more
  pub served_more : {e : End} → HasRound m mid new v w c d (Some e) → HasServed l old new u w b d e
  served_more {e} round =
      served_join l old mid new u v w b c d answers e p
      (subst (λ n. HasRound n mid new v w c d (Some e)) same round)
