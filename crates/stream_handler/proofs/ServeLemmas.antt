-- Exchanges of a connection, one after another.
use Rattle.std.proofs.Common.{◌≡◌, ◌⊎◌, ℕ, ◌+◌, ◌≢◌, ◌==◌, Bool, false, List, [], ◌∷◌, ◌++◌, get_or, refl, sym, ap, subst, ◌∙◌, arith, append_assoc, append-nil, inl, inr}
use Rattle.std.proofs.lemmas.Grind.{flat_map-append}
use Rattle.std.proofs.lemmas.List.{map-append}
use Rattle.tuple_values.specs.declared.names.NameShards.{NameShards}
use Rattle.io_edge.specs.Edge.{Appends}
use Rattle.shard_versions.specs.declared.cut.CutMark.{CutMark}
use Rattle.shard_versions.specs.declared.cut.Record.{Record}
use Rattle.exchange_rules.specs.Accesses.{looks_at, marks_of}
use Rattle.exchange_rules.specs.Cells.{Log}
use Rattle.exchange_rules.specs.Courses.{ends}
use Rattle.exchange_rules.specs.Following.{Follows, Grows, Writer, cleared, counts}
use Rattle.exchange_rules.specs.Rows.{Layout}
use Rattle.exchange_rules.proofs.FollowLemmas.{follows_still}
use Rattle.exchange_rules.proofs.GrowthLemmas.{grows_join, grows_same}
use Rattle.exchange_rules.proofs.ReachLemmas.{count_by-append}
use Rattle.form_request.specs.declared.reading.After.{After}
use Rattle.form_request.specs.declared.reading.Message.{Message}
use Rattle.stream_handler.specs.Boards.{BoardState}
use Rattle.stream_handler.specs.Exchanges.{Answer, AreSound, BoardsAlong, IsSound, looks_of, messages_of, replies_of, reply_to}
use Rattle.stream_handler.specs.Passing.{Passes, said}
use Rattle.stream_handler.specs.Requests.{request_course}
use Rattle.stream_handler.specs.Serving.{IsCarriedOut}
use Rattle.stream_handler.specs.Sessions.{Wire, Came, Counts, Exchanged, IsBegun, IsCutOff, IsLost, IsStuck, IsOver, IsServed, IsUnfinished, Passed, Stands, WireEnds}
use Rattle.stream_handler.specs.declared.ending.End.{End}
use Rattle.stream_handler.specs.declared.ending.End.TheVariants as end
use Rattle.stream_handler.specs.declared.exchange.Exchange.{Exchange}
use Rattle.stream_handler.specs.declared.outcome.Outcome.{Outcome}
use Rattle.stream_handler.proofs.PassLemmas.{passes_join}
use Rattle.stream_handler.proofs.SoundLemmas.{sound_of}
use Rattle.form_request.specs.Readers.{HeldReads}
use Rattle.form_request.specs.Streams.{fed}
use Rattle.form_request.specs.declared.reading.After.TheVariants.{Rest}
use Rattle.stream_handler.specs.Refusals.{refusal_reply}
use Rattle.stream_handler.proofs.WireLemmas.{appends_join, came_join, counts_join, rose_since}

-- exchanges stay sound over all that is seen later
pub sound_still : (tells : ℕ → Type 0) (l : Layout) (me : ℕ) (s t : List Log) (had end : List ℕ)
    (xs : List Answer) → Grows s t
    → AreSound tells l me s had xs end → AreSound tells l me t had xs end
sound_still tells l me s t had end [] g i = i
sound_still tells l me s t had end (a ∷ xs) g i =
    let one : IsSound tells a.now me t had (request_course l a.outcome a.message.request)
    a.exchange a.outcome i.0 =
    sound_of tells a.now l me t had a.message.request a.exchange a.outcome i.0 i.1.accesses
    i.1.marks i.1.own i.1.began i.1.lasted
    (follows_still me s t had (request_course l a.outcome a.message.request) i.1.accesses
    (ends a.outcome) i.0 g i.1.followed) in
    (i.0, one, sound_still tells l me s t i.0 end xs g i.2)

-- some and then others
sound_join : (tells : ℕ → Type 0) (l : Layout) (me : ℕ) (s : List Log) (had mid end : List ℕ)
    (xs ys : List Answer)
    → AreSound tells l me s had xs mid → AreSound tells l me s mid ys end
    → AreSound tells l me s had (xs ++ ys) end
sound_join tells l me s had mid end [] ys i j = subst (λ h. AreSound tells l me s h ys end) i j
sound_join tells l me s had mid end (a ∷ xs) ys i j =
    (i.0, i.1, sound_join tells l me s i.0 mid end xs ys i.2 j)

-- what a board said to some and then to others
pub boards_join : (tells : ℕ → Type 0) (l : Layout) (a b c : BoardState) (xs ys : List Answer)
    → BoardsAlong tells l a xs b
    → BoardsAlong tells l b ys c → BoardsAlong tells l a (xs ++ ys) c
boards_join tells l a b c [] ys p q = subst (λ x. BoardsAlong tells l x ys c) p q
boards_join tells l a b c (x ∷ xs) ys p q =
    (p.0, p.1, p.2, boards_join tells l p.0 b c xs ys p.3 q)

-- none
pub exchanged_none : (tells : ℕ → Type 0) (l : Layout) (w : Writer)
    → Exchanged tells l w (cleared w) []
exchanged_none tells l w = record {
  same = refl;
  grown = grows_same w.seen;
  sound = refl;
  looked = λ cell. omega arith;
}

-- one
pub exchanged_one : (tells : ℕ → Type 0) (l : Layout) (w v : Writer) (before after : BoardState)
    (message : Message) (x : Exchange) (o : Outcome)
    → (c : IsCarriedOut tells l w v before after message.request x o)
    → Exchanged tells l w v
    (record { message = message; now = c.now; exchange = x; outcome = o } ∷ [])
exchanged_one tells l w v before after message x o c = subst P (sym c.rest) done
  where
    P : Writer → Type 0
    P = λ v. Exchanged tells l w v
        (record { message = message; now = c.now; exchange = x; outcome = o } ∷ [])

    marks : x.marks ≡ marks_of c.carried.accesses
    marks = c.marks ∙ c.carried.marks

    done : P (cleared c.end)
    done = record {
      same = c.carried.same;
      grown = c.carried.grown;
      sound = (
        counts c.end.seen,
        sound_of tells c.now l w.me c.end.seen (counts w.seen) message.request x o
            (counts c.end.seen) c.carried.accesses marks (c.own ∙ c.carried.own) c.began c.lasted
            c.carried.followed,
        refl,
      );
      looked = λ cell.
          c.carried.looked cell
          ∙ ap (λ m. get_or w.looks cell 0 + looks_at cell m) (sym (append-nil x.marks ∙ marks));
    }

-- some and then others
pub exchanged_join : (tells : ℕ → Type 0) (l : Layout) (u v w : Writer) (xs ys : List Answer)
    → Exchanged tells l u v xs
    → Exchanged tells l v w ys → Exchanged tells l u w (xs ++ ys)
exchanged_join tells l u v w xs ys p q = record {
  same = q.same ∙ p.same;
  grown = grows_join u.seen v.seen w.seen p.grown q.grown;
  sound = sound_join tells l u.me w.seen (counts u.seen) (counts v.seen) (counts w.seen) xs ys
      (sound_still tells l u.me v.seen w.seen (counts u.seen) (counts v.seen) xs q.grown p.sound)
      (subst (λ me. AreSound tells l me w.seen (counts v.seen) ys (counts w.seen)) p.same q.sound);
  looked = λ cell.
      let both : looks_at cell (looks_of (xs ++ ys)) ≡ looks_at cell (looks_of xs) + looks_at cell (looks_of ys) =
      ap (looks_at cell) (flat_map-append (λ (a : Answer). a.exchange.marks) xs ys)
      ∙ count_by-append (λ (m : CutMark). m.cell == cell) (looks_of xs) (looks_of ys) in
      omega (arith, p.looked cell, q.looked cell, both);
}

messages_join : (xs ys : List Answer) → messages_of (xs ++ ys) ≡ messages_of xs ++ messages_of ys
messages_join xs ys = map-append (λ (a : Answer). a.message) xs ys

replies_join : (xs ys : List Answer) → replies_of (xs ++ ys) ≡ replies_of xs ++ replies_of ys
replies_join xs ys = flat_map-append reply_to xs ys

module _ (names : List NameShards) (old mid new : Wire) (xs ys : List Answer)
    (p : Passed names old mid (messages_of xs) false)
    (done : Appends old.written mid.written (replies_of xs)) where
  -- and then what is passed behind them
  pub passed_join : (ms : List Message) (told : Bool) → Passed names mid new ms told
      → Passed names old new (messages_of xs ++ ms) told
  passed_join ms told q = record {
    bytes = p.bytes ++ q.bytes;
    came = came_join old.left mid.left new.left p.bytes q.bytes p.came q.came;
    passes = passes_join names false false told old.held mid.held new.held p.bytes q.bytes
        (messages_of xs) ms p.passes q.passes;
  }

  stands_join : (after : After) → Stands names mid new (messages_of ys) after
      → Stands names old new (messages_of (xs ++ ys)) after
  stands_join after q = record {
    bytes = p.bytes ++ q.bytes;
    came = came_join old.left mid.left new.left p.bytes q.bytes p.came q.came;
    reads = subst (λ ms. HeldReads names false (fed old.held (p.bytes ++ q.bytes)) ms after)
        (sym (messages_join xs ys)) (p.passes.reads q.bytes (messages_of ys) after q.reads);
  }

  pub written_more : (zs : List Answer) (text : List ℕ)
      → Appends mid.written new.written (replies_of zs ++ text)
      → Appends old.written new.written (replies_of (xs ++ zs) ++ text)
  written_more zs text a =
      subst (λ t. Appends old.written new.written t)
      (sym (append_assoc (replies_of xs) (replies_of zs) text)
      ∙ ap (λ r. r ++ text) (sym (replies_join xs zs)))
      (appends_join old.written mid.written new.written (replies_of xs) (replies_of zs ++ text) done a)

  all_passed : (told : Bool) → Passed names mid new (messages_of ys) told
      → Passed names old new (messages_of (xs ++ ys)) told
  all_passed told q = subst (λ ms. Passed names old new ms told) (sym (messages_join xs ys))
      (passed_join (messages_of ys) told q)

  stuck_join : IsStuck names mid new ys → IsStuck names old new (xs ++ ys)
  stuck_join q = record {
    told = q.told;
    passed = all_passed q.told q.passed;
    part = q.part;
    rest = q.rest;
    due = q.due;
    is = q.is;
    written = written_more ys q.part q.written;
  }

  lost_join : IsLost names mid new ys → IsLost names old new (xs ++ ys)
  lost_join q = record {
    bytes = p.bytes ++ q.bytes;
    lost = q.lost;
    told = q.told;
    came = subst (λ b. Came old.left new.left b) (sym (append_assoc p.bytes q.bytes q.lost))
        (came_join old.left mid.left new.left p.bytes (q.bytes ++ q.lost) p.came q.came);
    passes = subst (λ ms. Passes names false old.held (p.bytes ++ q.bytes) ms q.told new.held)
        (sym (messages_join xs ys))
        (passes_join names false false q.told old.held mid.held new.held p.bytes q.bytes
        (messages_of xs) (messages_of ys) p.passes q.passes);
    written = written_more ys (said q.told) q.written;
  }

  pub cut_join : IsCutOff names mid new ys → IsCutOff names old new (xs ++ ys)
  cut_join q = record {
    before = xs ++ q.before;
    last = q.last;
    answers_are = ap (λ zs. xs ++ zs) q.answers_are ∙ sym (append_assoc xs q.before (q.last ∷ []));
    passed = all_passed false q.passed;
    part = q.part;
    rest = q.rest;
    is = q.is;
    written = written_more q.before q.part q.written;
  }

  broken_join : IsStuck names mid new ys ⊎ IsCutOff names mid new ys
      → IsStuck names old new (xs ++ ys) ⊎ IsCutOff names old new (xs ++ ys)
  broken_join (inl k) = inl (stuck_join k)
  broken_join (inr k) = inr (cut_join k)

  unfinished_join : (n : ℕ) → IsUnfinished names mid new ys n → IsUnfinished names old new (xs ++ ys) n
  unfinished_join n q = record {
    asks = q.asks;
    stands = stands_join (Rest n q.asks) q.stands;
    written = written_more ys (said q.asks) q.written;
  }

  -- a connection that ended behind the second ones ended behind all
  pub wire_join : (e : End) → Counts old mid → e ≢ end.Closed → WireEnds names mid new ys e
      → WireEnds names old new (xs ++ ys) e
  wire_join end.Ended c other q = (q.0, unfinished_join 0 q.1)
  wire_join end.Closed c other q = absurd (other refl)
  wire_join (end.Cut n) c other q = (q.0, q.1, unfinished_join n q.2)
  wire_join (end.Refused s) c other q =
      (all_passed false q.0, q.1, written_more ys (refusal_reply s) q.2)
  wire_join end.ReadFault c other q =
      (rose_since old.reads mid.reads new.reads c.reads q.0, (q.1.0, unfinished_join q.1.0 q.1.1))
  wire_join end.WriteFault c other q =
      (rose_since old.writes mid.writes new.writes c.writes q.0, broken_join q.1)
  wire_join end.OutOfMemory c other (inl q) = inl (lost_join q)
  wire_join end.OutOfMemory c other (inr q) = inr (cut_join q)

-- some were served and then others
pub served_join : (tells : ℕ → Type 0) (l : Layout) (old mid new : Wire) (u v w : Writer)
    (xs ys : List Answer)
    → IsServed tells l old mid u v xs → IsServed tells l mid new v w ys
    → IsServed tells l old new u w (xs ++ ys)
served_join tells l old mid new u v w xs ys p q = record {
  counts = counts_join old mid new p.counts q.counts;
  passed = subst (λ ms. Passed l.names old new ms false) (sym (messages_join xs ys))
      (passed_join l.names old mid new xs ys p.passed p.written (messages_of ys) false q.passed);
  written = subst (λ t. Appends old.written new.written t) (sym (replies_join xs ys))
      (appends_join old.written mid.written new.written (replies_of xs) (replies_of ys) p.written q.written);
  exchanged = exchanged_join tells l u v w xs ys p.exchanged q.exchanged;
  boards = boards_join tells l old.board mid.board new.board xs ys p.boards q.boards;
  recorded = q.recorded;
}

-- some were served, and then it was over
pub over_join : (tells : ℕ → Type 0) (l : Layout) (old mid new : Wire) (u v w : Writer)
    (xs ys : List Answer) (rest : Record) (e : End)
    → IsServed tells l old mid u v xs → e ≢ end.Closed → IsOver tells l mid new v w ys rest e
    → IsOver tells l old new u w (xs ++ ys) rest e
over_join tells l old mid new u v w xs ys rest e p other q = record {
  counts = counts_join old mid new p.counts q.counts;
  ends = elim q.ends [
    | inl s ↦ inl (record {
      ends = wire_join l.names old mid new xs ys p.passed p.written e p.counts other s.ends;
      exchanged = exchanged_join tells l u v w xs ys p.exchanged s.exchanged;
      boards = boards_join tells l old.board mid.board new.board xs ys p.boards s.boards;
      recorded = s.recorded;
    })
    | inr b ↦ inr (b.0, begun b.1)
  ];
}
  where
    begun : IsBegun tells l mid new v w ys rest → IsBegun tells l old new u w (xs ++ ys) rest
    begun b = record {
      message = b.message;
      passed = subst (λ ms. Passed l.names old new ms false)
          (sym (append_assoc (messages_of xs) (messages_of ys) (b.message ∷ []))
          ∙ ap (λ ms. ms ++ b.message ∷ []) (sym (messages_join xs ys)))
          (passed_join l.names old mid new xs ys p.passed p.written (messages_of ys ++ b.message ∷ []) false b.passed);
      written = written_more l.names old mid new xs ys p.passed p.written ys (said b.message.asks) b.written;
      mid = b.mid;
      exchanged = exchanged_join tells l u v b.mid xs ys p.exchanged b.exchanged;
      same = b.same;
      grown = b.grown;
      accesses = b.accesses;
      marks = b.marks;
      own = b.own;
      looked = b.looked;
      told = b.told;
      left = b.left;
      followed = subst (λ me. Follows me w.seen (counts b.mid.seen)
          (request_course l b.told b.message.request) b.accesses b.left (counts w.seen))
          p.exchanged.same b.followed;
      boards = boards_join tells l old.board mid.board new.board xs ys p.boards b.boards;
    }
