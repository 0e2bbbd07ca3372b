-- What a script has written, by what was served of its input.
use Rattle.std.proofs.Common.{◌≡◌, ◌≢◌, ◌⊎◌, ℕ, false, List, [], ◌∷◌, ◌++◌, take, refl, sym, ap, ◌∙◌, subst, arith, append_assoc, append-nil, length-append, inl, inr}
use Rattle.std.specs.Prelude.{Option, Some, None}
use Rattle.std.proofs.lemmas.Grind.{flat_map-append}
use Rattle.std.proofs.lemmas.List.{map-append, take-append-le}
use Rattle.tuple_values.specs.Document.{ByteList}
use Rattle.tuple_values.specs.declared.names.NameShards.{NameShards}
use Rattle.io_edge.specs.Edge.{Appends, Rose}
use Rattle.command_words.specs.declared.command.Command.TheVariants.{Script}
use Rattle.exchange_rules.specs.Cells.{Log}
use Rattle.exchange_rules.specs.Following.{Writer}
use Rattle.exchange_rules.specs.Own.{IsAlone}
use Rattle.exchange_rules.specs.Rows.{Layout}
use Rattle.exchange_rules.proofs.AloneLemmas.{shown_old}
use Rattle.exchange_rules.proofs.GrowthLemmas.{grows_join, grows_same}
use Rattle.site_laws.specs.SiteCells.{IsLawful}
use Rattle.site_laws.proofs.KeepLemmas.{nothing-lawful}
use Rattle.form_request.specs.Readers.{HeldReads}
use Rattle.form_request.specs.Readings.{Reads, nothing}
use Rattle.form_request.specs.Streams.{Held, begun, fed, fed_by}
use Rattle.form_request.specs.declared.plan.Stage.{Stage}
use Rattle.form_request.specs.declared.plan.Stage.TheVariants as stage
use Rattle.form_request.specs.declared.reading.After.{After}
use Rattle.form_request.specs.declared.reading.After.TheVariants.{Refusal, Rest}
use Rattle.form_request.specs.declared.reading.Message.{Message}
use Rattle.running_site.specs.Passes.{new_writer}
use Rattle.daemon_board.specs.Boards.{Told, empty_board}
use Rattle.daemon_board.specs.Tickets.{tickets_of}
use Rattle.stream_handler.specs.Exchanges.{Answer, BoardsAlong, messages_of, replies_of, reply_to}
use Rattle.stream_handler.specs.Outcomes.{framing_of, reply_of}
use Rattle.stream_handler.specs.Passing.{front_text, said}
use Rattle.stream_handler.specs.Sessions.{Wire, wire, Came, EndsBy, IsCutOff, IsLost, IsOneOver, IsStuck, IsEmptied, IsUnfinished, Passed, WireEnds, record_of}
use Rattle.stream_handler.specs.declared.ending.End.{End}
use Rattle.stream_handler.specs.declared.ending.End.TheVariants as end
use Rattle.stream_handler.specs.declared.exchange.Exchange.{Exchange}
use Rattle.stream_handler.specs.declared.outcome.Outcome.{Outcome}
use Rattle.stream_handler.specs.Serving.{BreaksOff}
use Rattle.stream_handler.proofs.ServeLemmas.{cut_join, passed_join, wire_join}
use Rattle.stream_handler.proofs.WaitLemmas.{said_first}
use Rattle.stream_handler.proofs.WireLemmas.{appends_join, rose_since}
use Rattle.stream_commands.specs.Boards.{no_tickets}
use Rattle.stream_commands.specs.Endings.{HasRisen, IsEndingOf, Writes, WritesFor}
use Rattle.stream_commands.specs.Replies.{layout, logs_at_start}
use Rattle.stream_commands.specs.Rounds.{AreLawful, AreLawfulBefore, after_messages, answered_alone, logs_after}
use Rattle.stream_commands.specs.Scripts.{IsScriptBegun, IsScriptInPart, IsScriptRead, IsScriptRun, replies_alone, replies_over, tail_text}
use Rattle.stream_commands.specs.Serving.{HasServed, IsAnsweredTo, IsAtRest, IsCarriedOn, IsCutInRuns, StopsBy, TellsZero, ending_of, state_of}
use Rattle.stream_commands.proofs.RoundLemmas.{HasGrown, answer_alone, answered_grown, cleared_grown, grown_join, known, one_reply, replies_behind, reply_alone, rounds_grown, rounds_lawful}
use Rattle.stream_commands.proofs.ServingLemmas.{one_answered}

-- all that came is all that there was
whole_came : (all bytes : List ℕ) (new : Option (List ℕ)) → Came (Some all) new bytes → IsEmptied new
    → bytes ≡ all
whole_came all bytes new came empty =
    let none : IsEmptied (Some came.0) = subst IsEmptied came.2 empty in
    sym (came.1 ∙ (ap (λ r. bytes ++ r) none ∙ append-nil bytes))

-- none of what came was lost
none_lost : (all : List ℕ) (left : Option (List ℕ)) (bytes : List ℕ) → Came (Some all) left bytes
    → Came (Some all) left (bytes ++ [])
none_lost all left bytes came = subst (Came (Some all) left) (sym (append-nil bytes)) came

-- nothing is read behind a message that closes
closed_reads : (names : List NameShards) (s : Stage) (bytes more : List ℕ) → s ≡ stage.Closed
    → HeldReads names false (fed_by s bytes more) [] nothing
closed_reads names s bytes more e =
    subst (λ s. HeldReads names false (fed_by s bytes more) [] nothing) (sym e) (refl, refl)

-- nor behind one that is refused
stopped_reads : (names : List NameShards) (s : Stage) (bytes more : List ℕ) (status : ℕ)
    → s ≡ stage.Stopped status → HeldReads names false (fed_by s bytes more) [] (Refusal status)
stopped_reads names s bytes more status e =
    subst (λ s. HeldReads names false (fed_by s bytes more) [] (Refusal status)) (sym e) (refl, refl)

-- where the law holds after some messages, it held before each of them and of one more
before_last : (names : List NameShards) (messages : List Message) (m : Message)
    → AreLawful names messages → AreLawfulBefore names (messages ++ m ∷ [])
before_last names messages m lawful upto lt =
    let long = length-append messages (m ∷ []) in
    subst (λ ms. IsLawful names (logs_after names ms))
    (sym (take-append-le upto messages (m ∷ []) (omega (arith, lt, long)))) (lawful upto)

module _ (names : List NameShards) (all : List ℕ) (reads : ℕ) (written : Option (List ℕ)) (writes : ℕ)
    (new : Wire) (answers : List Answer)
    (replies : replies_of answers ≡ replies_over names (messages_of answers))
    (before : AreLawfulBefore names (messages_of answers)) where
  abbrev pub old : Wire
  old = wire begun (Some all) reads written writes (state_of empty_board)

  -- what stands behind the messages is the same where more follows
  past : (after : After) → (p : Passed names old new (messages_of answers) false)
      → ((more : List ℕ) → HeldReads names false (fed new.held more) [] after)
      → Reads names all (messages_of answers) after
  past after p stays =
      subst (λ a. Reads names a (messages_of answers) after) (sym p.came.1)
      (subst (λ ms. Reads names (p.bytes ++ p.came.0) ms after) (append-nil (messages_of answers))
      (p.passes.reads p.came.0 [] after (stays p.came.0)))

  -- nor where none does
  here : (after : After) → (p : Passed names old new (messages_of answers) false)
      → ((more : List ℕ) → HeldReads names false (fed new.held more) [] after)
      → Reads names p.bytes (messages_of answers) after
  here after p stays =
      subst (λ b. Reads names b (messages_of answers) after) (append-nil p.bytes)
      (subst (λ ms. Reads names (p.bytes ++ []) ms after) (append-nil (messages_of answers))
      (p.passes.reads [] [] after (stays [])))

  run_of : (after : After) (read : List ℕ) → AreLawful names (messages_of answers)
      → Came (Some all) new.left read
      → Reads names all (messages_of answers) after → Reads names read (messages_of answers) after
      → Appends written new.written (replies_of answers ++ tail_text after)
      → IsScriptRun names all new.left after written new.written
  run_of after read lawful came whole part app = record {
    messages = messages_of answers;
    holds = whole;
    read = read;
    came = came;
    reads = part;
    written = subst (λ t. Appends written new.written (t ++ tail_text after)) replies app;
    lawful = lawful;
  }

  -- a stream that stays where it is
  run_past : (after : After) → AreLawful names (messages_of answers)
      → (p : Passed names old new (messages_of answers) false)
      → ((more : List ℕ) → HeldReads names false (fed new.held more) [] after)
      → Appends written new.written (replies_of answers ++ tail_text after)
      → IsScriptRun names all new.left after written new.written
  run_past after lawful p stays app =
      run_of after p.bytes lawful p.came (past after p stays) (here after p stays) app

  unfinished : (held : ℕ) → AreLawful names (messages_of answers) → IsEmptied new.left
      → (q : IsUnfinished names old new answers held)
      → IsScriptRun names all new.left (Rest held q.asks) written new.written
  unfinished held lawful empty q =
      run_of (Rest held q.asks) q.stands.bytes lawful q.stands.came
      (subst (λ b. Reads names b (messages_of answers) (Rest held q.asks))
      (whole_came all q.stands.bytes new.left q.stands.came empty) q.stands.reads) q.stands.reads
      q.written

  -- where it was not read to its end
  read_part : (held : ℕ) → AreLawful names (messages_of answers)
      → IsUnfinished names old new answers held
      → IsScriptRead names all new.left written new.written
  read_part held lawful q = record {
    messages = messages_of answers;
    after = Rest held q.asks;
    read = q.stands.bytes;
    came = q.stands.came;
    reads = q.stands.reads;
    written = subst (λ t. Appends written new.written (t ++ said q.asks)) replies q.written;
    lawful = lawful;
  }

  abbrev stuck_part : IsStuck names old new answers
      → IsScriptBegun names all new.left written new.written
  stuck_part q = record {
    read = q.passed.bytes;
    lost = [];
    came = none_lost all new.left q.passed.bytes q.passed.came;
    messages = messages_of answers;
    text = front_text new.held.stage q.told;
    behind = inr (q.told, new.held, q.passed.passes, refl);
    front = replies_of answers ++ q.part;
    rest = q.rest;
    written = q.written;
    begins = ap (λ t. t ++ front_text new.held.stage q.told) (sym replies)
        ∙ (ap (λ t. replies_of answers ++ t) q.is ∙ sym (append_assoc (replies_of answers) q.part q.rest));
    lawful = before;
  }

  lost_part : IsLost names old new answers → IsScriptBegun names all new.left written new.written
  lost_part q =
      let more = said_first new.held.stage q.told q.passes.fits in
      record {
        read = q.bytes;
        lost = q.lost;
        came = q.came;
        messages = messages_of answers;
        text = front_text new.held.stage q.told;
        behind = inr (q.told, new.held, q.passes, refl);
        front = replies_of answers ++ said q.told;
        rest = more.0;
        written = q.written;
        begins = ap (λ t. t ++ front_text new.held.stage q.told) (sym replies)
            ∙ (ap (λ t. replies_of answers ++ t) more.1
            ∙ sym (append_assoc (replies_of answers) (said q.told) more.0));
        lawful = before;
      }

  -- the replies end with the last one, of which a part is written
  last_reply : (q : IsCutOff names old new answers)
      → replies_over names (messages_of answers) ≡ (replies_of q.before ++ q.part) ++ q.rest
  last_reply q =
      sym replies
      ∙ (ap replies_of q.answers_are
      ∙ (flat_map-append reply_to q.before (q.last ∷ [])
      ∙ (ap (λ t. replies_of q.before ++ t) (append-nil (reply_to q.last) ∙ q.is)
      ∙ sym (append_assoc (replies_of q.before) q.part q.rest))))

  abbrev cut_part : IsCutOff names old new answers
      → IsScriptBegun names all new.left written new.written
  cut_part q =
      let text = front_text new.held.stage false in
      record {
        read = q.passed.bytes;
        lost = [];
        came = none_lost all new.left q.passed.bytes q.passed.came;
        messages = messages_of answers;
        text = text;
        behind = inr (false, new.held, q.passed.passes, refl);
        front = replies_of q.before ++ q.part;
        rest = q.rest ++ text;
        written = q.written;
        begins = ap (λ t. t ++ text) (last_reply q)
            ∙ append_assoc (replies_of q.before ++ q.part) q.rest text;
        lawful = before;
      }

  broken_part : IsStuck names old new answers ⊎ IsCutOff names old new answers
      → IsScriptInPart names all new.left written new.written
  broken_part (inl k) = (stuck_part k, refl)
  broken_part (inr k) = (cut_part k, refl)

  -- how a script ended that wasn't closed, by what was served
  pub wire_writes : (e : End) → e ≢ end.Closed → AreLawful names (messages_of answers)
      → WireEnds names old new answers e
      → WritesFor (ending_of e) (Some (Script names)) all new.left written new.written
  wire_writes end.Ended other lawful q = (q.1.asks, unfinished 0 lawful q.0 q.1)
  wire_writes end.Closed other lawful q = absurd (other refl)
  wire_writes (end.Cut held) other lawful q =
      (held, q.2.asks, q.1, unfinished held lawful q.0 q.2)
  wire_writes (end.Refused status) other lawful q =
      run_past (Refusal status) lawful q.0
      (λ more. stopped_reads names new.held.stage new.held.bytes more status q.1) q.2
  wire_writes end.ReadFault other lawful q = read_part q.1.0 lawful q.1.1
  wire_writes end.WriteFault other lawful q = broken_part q.1
  wire_writes end.OutOfMemory other lawful (inl q) = lost_part q
  wire_writes end.OutOfMemory other lawful (inr q) = cut_part q

  -- a script that was served to the end of a message, and no further
  pub between_part : Passed names old new (messages_of answers) false
      → Appends written new.written (replies_of answers)
      → IsScriptBegun names all new.left written new.written
  between_part p app =
      let text = front_text new.held.stage false in
      record {
        read = p.bytes;
        lost = [];
        came = none_lost all new.left p.bytes p.came;
        messages = messages_of answers;
        text = text;
        behind = inr (false, new.held, p.passes, refl);
        front = replies_of answers;
        rest = text;
        written = app;
        begins = ap (λ t. t ++ text) (sym replies);
        lawful = before;
      }

  -- one whose last message closes
  pub closed_run : AreLawful names (messages_of answers) → new.held.stage ≡ stage.Closed
      → Passed names old new (messages_of answers) false
      → Appends written new.written (replies_of answers)
      → IsScriptRun names all new.left nothing written new.written
  closed_run lawful closed p app =
      run_past nothing lawful p
      (λ more. closed_reads names new.held.stage new.held.bytes more closed)
      (subst (λ t. Appends written new.written t) (sym (append-nil (replies_of answers))) app)

  -- where memory was wanting inside a request
  pub begun_part : (m : Message) (reply : ByteList) → AreLawful names (messages_of answers)
      → replies_over names (messages_of answers ++ m ∷ [])
      ≡ replies_of answers ++ (said m.asks ++ reply)
      → Passed names old new (messages_of answers ++ m ∷ []) false
      → Appends written new.written (replies_of answers ++ said m.asks)
      → IsScriptBegun names all new.left written new.written
  begun_part m reply lawful more p app =
      let text = front_text new.held.stage false in
      record {
        read = p.bytes;
        lost = [];
        came = none_lost all new.left p.bytes p.came;
        messages = messages_of answers ++ m ∷ [];
        text = text;
        behind = inr (false, new.held, p.passes, refl);
        front = replies_of answers ++ said m.asks;
        rest = reply ++ text;
        written = app;
        begins = ap (λ t. t ++ text)
            (more ∙ sym (append_assoc (replies_of answers) (said m.asks) reply))
            ∙ append_assoc (replies_of answers ++ said m.asks) reply text;
        lawful = before_last names (messages_of answers) m lawful;
      }

-- a script over a new site and a new board, where one writer is alone
module _ (names : List NameShards) (all : List ℕ) (reads : ℕ) (written : Option (List ℕ))
    (writes : ℕ) (new : Wire) (v : Writer) (alone : (had : List ℕ) → IsAlone 1 had v.seen) where
  abbrev pub began : Wire
  began = wire begun (Some all) reads written writes (state_of empty_board)

  abbrev pub starter : Writer
  starter = new_writer names 1

  -- what is to be shown of a script with this end
  abbrev pub Wrote : End → Type 0
  Wrote e = WritesFor (ending_of e) (Some (Script names)) all new.left written new.written

  module _ (mid : Wire) (w : Writer) (b : Told) (answers : List Answer)
      (p : IsCarriedOn (layout names) began mid starter w empty_board b answers)
      (grown : HasGrown w v) where
    since : HasGrown starter w
    since = rounds_grown (layout names) starter w empty_board b answers p.rounds

    -- the logs that these messages left
    abbrev logs : List Log
    logs = known (layout names) v.seen alone w

    -- behind these messages others are answered over what those left
    behind : (more : List Message) → replies_over names (messages_of answers ++ more)
        ≡ replies_of answers
        ++ replies_alone (layout names) logs (tickets_of b.shown) more
    behind more =
        ap (λ logs. replies_alone (layout names) logs no_tickets (messages_of answers ++ more))
        (sym (shown_old (logs_at_start names) v.seen
        (grows_join (logs_at_start names) w.seen v.seen since.grown grown.grown)))
        ∙ replies_behind (layout names) v.seen alone starter w empty_board b answers more refl
        grown.grown p.rounds

    replies_here : replies_of answers ≡ replies_over names (messages_of answers)
    replies_here =
        sym (append-nil (replies_of answers))
        ∙ (sym (behind [])
        ∙ ap (replies_over names) (append-nil (messages_of answers)))

    -- the law holds after each of these messages
    lawful_here : AreLawful names (messages_of answers)
    lawful_here upto =
        let same = shown_old (logs_at_start names) v.seen
        (grows_join (logs_at_start names) w.seen v.seen since.grown grown.grown) in
        subst (λ logs. IsLawful names
        (after_messages (layout names) logs no_tickets (take upto (messages_of answers))).0) same
        (rounds_lawful (layout names) v.seen alone starter w empty_board b answers refl grown.grown
        p.rounds (subst (IsLawful names) (sym same) (nothing-lawful names)) upto)

    -- it held before each of them
    before_here : AreLawfulBefore names (messages_of answers)
    before_here upto lt = lawful_here upto

    -- and of one more
    before_more : (a : Answer) → AreLawfulBefore names (messages_of (answers ++ a ∷ []))
    before_more a =
        subst (AreLawfulBefore names)
        (sym (map-append (λ (x : Answer). x.message) answers (a ∷ [])))
        (before_last names (messages_of answers) a.message lawful_here)

    -- one more message was answered
    replies_more : (u : Writer) (c : Told) (a : Answer) → HasGrown u v
        → IsAnsweredTo (layout names) w u b c a
        → replies_of (answers ++ a ∷ []) ≡ replies_over names (messages_of (answers ++ a ∷ []))
    replies_more u c a later x =
        let one : replies_alone (layout names) logs (tickets_of b.shown) (a.message ∷ [])
        ≡ reply_to a ++ [] =
        ap (λ (r : List Log × Outcome). reply_alone (layout names) v.seen alone a.message r.1 ++ [])
        (answer_alone (layout names) v.seen alone w u b c a since.same later.grown x)
        ∙ ap (λ (t : ByteList). t ++ [])
        (sym (one_reply (layout names) v.seen alone w u a x.exchanged)) in
        flat_map-append reply_to answers (a ∷ [])
        ∙ (ap (λ (t : ByteList). replies_of answers ++ t) (sym one)
        ∙ (sym (behind (a.message ∷ []))
        ∙ ap (replies_over names)
        (sym (map-append (λ (x : Answer). x.message) answers (a ∷ [])))))

    -- nothing more was done
    at_rest : (after : Told) (e : End) → IsAtRest mid new w v b after e → Wrote e
    at_rest after e r = by r.why
      where
        passed : Passed names began new (messages_of answers) false
        passed = subst (λ m. Passed names began m (messages_of answers) false) (sym r.wire) p.passed

        app : Appends written new.written (replies_of answers)
        app = subst (λ (m : Wire). Appends written m.written (replies_of answers)) (sym r.wire)
            p.written

        by : ((e ≡ end.Closed) × (new.held.stage ≡ stage.Closed)) ⊎ (e ≡ end.OutOfMemory) → Wrote e
        by (inl c) =
            let run =
            closed_run names all reads written writes new answers replies_here before_here
            lawful_here c.1 passed app in
            subst Wrote (sym c.0) (false, run)
        by (inr is) = subst Wrote (sym is)
            (between_part names all reads written writes new answers replies_here before_here
            passed app)

    -- it was over before a message was whole
    ended : (e : End) → e ≢ end.Closed → WireEnds names mid new [] e → Wrote e
    ended e other q =
        wire_writes names all reads written writes new answers replies_here before_here e other
        lawful_here (subst (λ xs. WireEnds names began new xs e) (append-nil answers)
        (wire_join names began mid new answers [] p.passed p.written e p.counts other q))

    -- memory was wanting inside a request
    broke : (m : Message) → Passed names mid new (m ∷ []) false
        → Appends mid.written new.written (said m.asks) → Wrote end.OutOfMemory
    broke m passed app =
        let o = (answered_alone (layout names) logs (tickets_of b.shown) m).1 in
        let reply = reply_of (framing_of m.request) 0 o in
        begun_part names all reads written writes new answers replies_here before_here m
        (reply ++ []) lawful_here (behind (m ∷ [])
        ∙ ap (λ (t : ByteList). replies_of answers ++ t) (append_assoc (said m.asks) reply []))
        (passed_join names began mid new answers [] p.passed p.written (m ∷ []) false passed)
        (appends_join written mid.written new.written (replies_of answers) (said m.asks) p.written
        app)

    abbrev cut_in : (c : Told) (a : Answer) → IsAnsweredTo (layout names) w v b c a
        → IsCutOff names mid new (a ∷ []) → Wrote end.OutOfMemory
    cut_in c a x cut =
        cut_part names all reads written writes new (answers ++ a ∷ [])
        (replies_more v c a (record { same = refl; grown = grows_same v.seen }) x) (before_more a)
        (cut_join names began mid new answers (a ∷ []) p.passed p.written cut)

    -- the reply to one more message is written in part
    cut_off : (c : Told) (a : Answer) (e : End) → IsAnsweredTo (layout names) w v b c a
        → BreaksOff e mid.writes new.writes → IsCutOff names mid new (a ∷ []) → Wrote e
    cut_off c a end.Ended x why cut = absurd why
    cut_off c a end.Closed x why cut = absurd why
    cut_off c a (end.Cut held) x why cut = absurd why
    cut_off c a (end.Refused status) x why cut = absurd why
    cut_off c a end.ReadFault x why cut = absurd why
    cut_off c a end.WriteFault x rose cut = (cut_in c a x cut, refl)
    cut_off c a end.OutOfMemory x free cut = cut_in c a x cut

    -- memory was wanting when the daemons ran behind one more message
    cut_in_runs : (u : Writer) (c : Told) (a : Answer) → HasGrown u v
        → IsAnsweredTo (layout names) w u b c a → Passed names mid new (a.message ∷ []) false
        → Appends mid.written new.written (replies_of (a ∷ [])) → Wrote end.OutOfMemory
    cut_in_runs u c a later x passed app =
        between_part names all reads written writes new (answers ++ a ∷ [])
        (replies_more u c a later x) (before_more a)
        (subst (λ ms. Passed names began new ms false)
        (sym (map-append (λ (y : Answer). y.message) answers (a ∷ [])))
        (passed_join names began mid new answers (a ∷ []) p.passed p.written (a.message ∷ []) false
        passed))
        (subst (λ t. Appends written new.written t)
        (sym (flat_map-append reply_to answers (a ∷ [])))
        (appends_join written mid.written new.written (replies_of answers) (replies_of (a ∷ []))
        p.written app))

  -- why no more was served
  module _ (mid : Wire) (w : Writer) (b after : Told) (answers : List Answer)
      (p : IsCarriedOn (layout names) began mid starter w empty_board b answers)
      (told : new.board ≡ state_of after) where
    over_writes : (e : End) (unfinished : Option Exchange)
        → IsOneOver TellsZero (layout names) mid new w v unfinished e → Wrote e
    over_writes e None o = by o.over.ends
      where
        by : EndsBy TellsZero (layout names) mid new w v [] (record_of v) e → Wrote e
        by (inl s) =
            ended mid w b answers p (answered_grown (layout names) w v [] s.exchanged) e o.unclosed
            s.ends
        by (inr (is, s)) =
            subst Wrote (sym is)
            (broke mid w b answers p
            (grown_join w s.mid v (answered_grown (layout names) w s.mid [] s.exchanged)
            (record { same = s.same; grown = s.grown })) s.message s.passed s.written)
    over_writes e (Some x) o =
        cut_off mid w b answers p
        (answered_grown (layout names) w v (o.answer ∷ []) o.exchanged) after o.answer e
        (one_answered (layout names) mid.board w v b after o.answer p.board o.exchanged
        (subst (λ s. BoardsAlong TellsZero (layout names) mid.board (o.answer ∷ []) s) told
        o.boards))
        o.cause o.cut

    runs_write : (e : End) → IsCutInRuns (layout names) mid new w v after e → Wrote e
    runs_write e r =
        let a = r.one.answer in
        let on = cleared_grown r.mid v r.cut.end
        (record { same = r.cut.begun.1.same; grown = r.cut.begun.1.grown }) r.cut.rest in
        subst Wrote (sym r.ends)
        (cut_in_runs mid w b answers p
        (grown_join w r.mid v
        (answered_grown (layout names) w r.mid (a ∷ []) r.one.served.exchanged) on)
        r.mid r.asked a on
        (one_answered (layout names) mid.board w r.mid b r.asked a p.board r.one.served.exchanged
        r.one.served.boards)
        (record {
          bytes = r.one.served.passed.bytes;
          came = r.one.served.passed.came;
          passes = r.one.served.passed.passes;
        }) r.one.served.written)

    stops_write : (e : End) → StopsBy (layout names) mid new w v b after e → Wrote e
    stops_write e (inl r) =
        at_rest mid w b answers p
        (subst (HasGrown w) (sym r.writer) (record { same = refl; grown = grows_same w.seen }))
        after e r
    stops_write e (inr (inl o)) = over_writes e o.0 o.1
    stops_write e (inr (inr r)) = runs_write e r

  session_writes : (after : Told) (e : End)
      → HasServed (layout names) began new starter v empty_board after e → Wrote e
  session_writes after e s =
      stops_write s.mid s.turned s.board after s.answers s.served s.told e s.stops

-- what was served at a new site, with a new board, without another writer
pub script_writes : (names : List NameShards) (l : Layout) (w v : Writer) (board after : Told)
    (held : Held) (left : Option (List ℕ)) (reads : ℕ) (written : Option (List ℕ)) (writes : ℕ)
    (new : Wire) (e : End) → l ≡ layout names → w ≡ new_writer names 1 → board ≡ empty_board
    → held ≡ begun → ((had : List ℕ) → IsAlone 1 had v.seen)
    → HasServed l (wire held left reads written writes (state_of board)) new w v board after e
    → Writes (ending_of e) (Some (Script names)) left new.left written new.written
script_writes names l w v board after held None reads written writes new e at is empty start alone s = tt
script_writes names l w v board after held (Some all) reads written writes new e at is empty start alone s =
    let wire_at : Held → Told → Wire = λ h c. wire h (Some all) reads written writes (state_of c) in
    let first = new_writer names 1 in
    let here = subst (λ k. HasServed k (wire_at held board) new w v board after e) at s in
    let there = subst
    (λ u. HasServed (layout names) (wire_at held board) new u v board after e) is here in
    session_writes names all reads written writes new v alone after e
    (subst (λ c. HasServed (layout names) (wire_at begun c) new first v c after e) empty
    (subst (λ h. HasServed (layout names) (wire_at h board) new first v board after e)
    start there))

-- how a script ends
pub script_ending : (names : List NameShards) (e : End) → IsEndingOf (Script names) (ending_of e)
script_ending names end.Ended = tt
script_ending names end.Closed = tt
script_ending names (end.Cut held) = tt
script_ending names (end.Refused status) = tt
script_ending names end.ReadFault = tt
script_ending names end.WriteFault = tt
script_ending names end.OutOfMemory = tt

-- what is to be told of the counts of failures where a script ends so
abbrev pub Rises : Wire → Wire → End → Type 0
Rises old new e =
    HasRisen (ending_of e) (record {
      input_old = old.reads;
      input_new = new.reads;
      output_old = old.writes;
      output_new = new.writes;
    })

-- a fault is told where its count rose
pub served_risen : (l : Layout) (old new : Wire) (w v : Writer) (before after : Told) (e : End)
    → HasServed l old new w v before after e → Rises old new e
served_risen l old new w v before after e s = by_stops s.stops
  where
    by_wire : (e : End) → WireEnds l.names s.mid new [] e → Rises old new e
    by_wire end.Ended q = tt
    by_wire end.Closed q = tt
    by_wire (end.Cut held) q = tt
    by_wire (end.Refused status) q = tt
    by_wire end.ReadFault q = rose_since old.reads s.mid.reads new.reads s.served.counts.reads q.0
    by_wire end.WriteFault q =
        rose_since old.writes s.mid.writes new.writes s.served.counts.writes q.0
    by_wire end.OutOfMemory q = tt

    by_ends : EndsBy TellsZero l s.mid new s.turned v [] (record_of v) e → Rises old new e
    by_ends (inl i) = by_wire e i.ends
    by_ends (inr b) = subst (Rises old new) (sym b.0) tt

    by_cause : (e : End) → BreaksOff e s.mid.writes new.writes → Rises old new e
    by_cause end.Ended c = absurd c
    by_cause end.Closed c = absurd c
    by_cause (end.Cut held) c = absurd c
    by_cause (end.Refused status) c = absurd c
    by_cause end.ReadFault c = absurd c
    by_cause end.WriteFault rose =
        rose_since old.writes s.mid.writes new.writes s.served.counts.writes rose
    by_cause end.OutOfMemory free = tt

    by_over : (unfinished : Option Exchange)
        → IsOneOver TellsZero l s.mid new s.turned v unfinished e
        → Rises old new e
    by_over None o = by_ends o.over.ends
    by_over (Some x) o = by_cause e o.cause

    by_why : ((e ≡ end.Closed) × (new.held.stage ≡ stage.Closed)) ⊎ (e ≡ end.OutOfMemory)
        → Rises old new e
    by_why (inl c) = subst (Rises old new) (sym c.0) tt
    by_why (inr is) = subst (Rises old new) (sym is) tt

    by_stops : StopsBy l s.mid new s.turned v s.board after e → Rises old new e
    by_stops (inl r) = by_why r.why
    by_stops (inr (inl o)) = by_over o.0 o.1
    by_stops (inr (inr r)) = subst (Rises old new) (sym r.ends) tt
