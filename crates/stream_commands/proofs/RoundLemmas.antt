-- What messages are answered between which daemons run, where one writer is alone.
use Rattle.std.proofs.Common.{◌≡◌, ℕ, zero, suc, List, [], ◌∷◌, ◌++◌, take, refl, sym, ap, subst, ◌∙◌, append_assoc, arith}
use Rattle.tuple_values.specs.Document.{ByteList}
use Rattle.exchange_rules.specs.Accesses.{Access}
use Rattle.exchange_rules.specs.Cells.{Log}
use Rattle.exchange_rules.specs.Courses.{Course, ends, run_alone}
use Rattle.exchange_rules.specs.Following.{Follows, Grows, Writer, cleared, counts}
use Rattle.exchange_rules.specs.Own.{IsAlone}
use Rattle.exchange_rules.specs.Rows.{Layout}
use Rattle.exchange_rules.proofs.AloneLemmas.{follows_alone, shown, shown_old}
use Rattle.exchange_rules.proofs.FollowLemmas.{follows_still}
use Rattle.exchange_rules.proofs.GrowthLemmas.{grows_join, grows_same}
use Rattle.site_laws.specs.SiteCells.{IsLawful}
use Rattle.form_request.specs.declared.reading.Message.{Message}
use Rattle.daemon_board.specs.Boards.{Told}
use Rattle.daemon_board.specs.Tickets.{Ticket, Tickets, tickets_of, with_tickets}
use Rattle.daemon_steps.specs.Steps.{steps_course}
use Rattle.daemon_steps.specs.Stepped.{IsStepped}
use Rattle.server_edge.specs.Clocks.{Took}
use Rattle.stream_handler.specs.Asks.{ask_of}
use Rattle.stream_handler.specs.Exchanges.{Answer, messages_of, replies_of, reply_to}
use Rattle.stream_handler.specs.Outcomes.{framing_of, reply_of}
use Rattle.stream_handler.specs.Passing.{said}
use Rattle.stream_handler.specs.Requests.{request_course}
use Rattle.stream_handler.specs.Sessions.{Exchanged}
use Rattle.stream_handler.specs.declared.outcome.Outcome.{Outcome}
use Rattle.stream_commands.specs.Rounds.{after_daemons, after_message, after_messages, answered_alone, asked_alone}
use Rattle.stream_commands.specs.Scripts.{replies_alone}
use Rattle.stream_commands.specs.Serving.{AreRounds, IsAnsweredTo, IsRound, TellsZero}
use Rattle.stream_commands.proofs.BoardLemmas.{course_told, said_alone}

-- by a clock that tells 0 alone nothing takes any time
pub took_none : (start millis : ℕ) → Took TellsZero start millis → millis ≡ 0
took_none start millis t = let none : t.end ≡ 0 = t.told in omega (arith, t.lasted, none)

-- the same writer, which has seen no less
pub record HasGrown (w v : Writer) : Type 0 where
  pub same : v.me ≡ w.me
  pub grown : Grows w.seen v.seen

pub grown_join : (u v w : Writer) → HasGrown u v → HasGrown v w → HasGrown u w
grown_join u v w p q = record {
  same = q.same ∙ p.same;
  grown = grows_join u.seen v.seen w.seen p.grown q.grown;
}

pub answered_grown : (l : Layout) (w v : Writer) (answers : List Answer)
    → Exchanged TellsZero l w v answers
    → HasGrown w v
answered_grown l w v answers x = record { same = x.same; grown = x.grown }

-- a writer that left its record empty
pub cleared_grown : (w v end : Writer) → HasGrown (cleared w) end → cleared v ≡ cleared end
    → HasGrown w v
cleared_grown w v end p e = record {
  same = ap (λ (x : Writer). x.me) e ∙ p.same;
  grown = subst (Grows w.seen) (sym (ap (λ (x : Writer). x.seen) e)) p.grown;
}

stepped_grown : (l : Layout) (w v : Writer) (b c : Tickets) → IsStepped l w v b c → HasGrown w v
stepped_grown l w v b c s =
    cleared_grown w v s.end (record { same = s.carried.same; grown = s.carried.grown })
    (ap cleared s.rest)

pub round_grown : (l : Layout) (w v : Writer) (b c : Told) (a : Answer) → IsRound l w v b c a
    → HasGrown w v
round_grown l w v b c a r =
    grown_join w r.mid v (answered_grown l w r.mid (a ∷ []) r.answered.exchanged)
    (stepped_grown l r.mid v (tickets_of r.asked.shown) (tickets_of c.shown) r.stepped)

pub rounds_grown : (l : Layout) (w v : Writer) (b c : Told) (answers : List Answer)
    → AreRounds l w b answers v c → HasGrown w v
rounds_grown l w v b c [] r =
    subst (HasGrown w) (sym r.0) (record { same = refl; grown = grows_same w.seen })
rounds_grown l w v b c (a ∷ answers) r =
    grown_join w r.0 v (round_grown l w r.0 b r.1 a r.2)
    (rounds_grown l r.0 v r.1 c answers r.3)

-- some rounds and then others
pub rounds_join : (l : Layout) (u v w : Writer) (b c d : Told) (xs ys : List Answer)
    → AreRounds l u b xs v c → AreRounds l v c ys w d → AreRounds l u b (xs ++ ys) w d
rounds_join l u v w b c d [] ys p q =
    subst (λ x. AreRounds l x b ys w d) p.0 (subst (λ x. AreRounds l v x ys w d) p.1 q)
rounds_join l u v w b c d (a ∷ xs) ys p q =
    (p.0, p.1, p.2, rounds_join l p.0 v w p.1 c d xs ys p.3 q)

-- what the daemons of a round saw
round_mid : (l : Layout) (v : Writer) (b c : Told) (a : Answer) {w : Writer}
    → (r : IsRound l w v b c a) → HasGrown r.mid v
round_mid l v b c a r =
    stepped_grown l r.mid v (tickets_of r.asked.shown) (tickets_of c.shown) r.stepped

module _ (l : Layout) (seen : List Log) (alone : (had : List ℕ) → IsAlone 1 had seen) where
  -- the logs that a writer knows
  abbrev pub known : Writer → List Log
  known w = shown (counts w.seen) seen

  -- a course that such a writer followed to this answer
  ran_alone : {A : Type 0} (me : ℕ) (middle : List Log) (had end : List ℕ) (course : Course A)
      (accesses : List Access) (a : A) → me ≡ 1 → Grows middle seen
      → Follows me middle had course accesses (ends a) end
      → run_alone 1 (shown had seen) course ≡ (shown end seen, a)
  ran_alone me middle had end course accesses a one grown f =
      follows_alone 1 seen had course accesses (ends a) end (alone had)
      (follows_still 1 middle seen had course accesses (ends a) end grown
      (subst (λ m. Follows m middle had course accesses (ends a) end) one f))

  -- a message was answered
  exchanged_alone : (w v : Writer) (a : Answer) → w.me ≡ 1 → Grows v.seen seen
      → Exchanged TellsZero l w v (a ∷ [])
      → run_alone 1 (known w) (request_course l a.outcome a.message.request) ≡ (known v, a.outcome)
  exchanged_alone w v a one grown x =
      ran_alone w.me v.seen (counts w.seen) (counts v.seen)
      (request_course l a.outcome a.message.request) x.sound.1.accesses a.outcome one grown
      (subst (λ end. Follows w.me v.seen (counts w.seen)
      (request_course l a.outcome a.message.request) x.sound.1.accesses (ends a.outcome) end)
      (sym x.sound.2) x.sound.1.followed)

  -- the board said what it says as a function of its tickets
  pub answer_alone : (w v : Writer) (b c : Told) (a : Answer) → w.me ≡ 1 → Grows v.seen seen
      → IsAnsweredTo l w v b c a
      → answered_alone l (known w) (tickets_of b.shown) a.message ≡ (known v, a.outcome)
  answer_alone w v b c a one grown x =
      let s = said_alone b c a.outcome (ask_of l.names a.message.request) x.said in
      let told = (asked_alone l (tickets_of b.shown) a.message).1 in
      ap (run_alone 1 (known w)) (sym (course_told l a.outcome told a.message.request s.told))
      ∙ exchanged_alone w v a one grown x.exchanged

  -- the logs and the board with other tickets
  abbrev left_with : Tickets → List Log → List Ticket → List Log × Tickets
  left_with b logs tickets = (logs, with_tickets b tickets)

  -- the daemons ran
  stepped_alone : (w v : Writer) (b c : Tickets) → w.me ≡ 1 → Grows v.seen seen
      → IsStepped l w v b c → after_daemons l (known w) b ≡ (known v, c)
  stepped_alone w v b c one grown s =
      let end_is : s.end.seen ≡ v.seen = sym (ap (λ (x : Writer). x.seen) s.rest) in
      let ran = ran_alone w.me s.end.seen (counts w.seen) (counts s.end.seen)
      (steps_course l b.tickets) s.carried.accesses c.tickets one
      (subst (λ x. Grows x seen) (sym end_is) grown) s.carried.followed in
      ap (λ (r : List Log × List Ticket). left_with b r.0 r.1) ran
      ∙ (ap (λ (x : List Log). left_with b (shown (counts x) seen) c.tickets) end_is
      ∙ ap (λ (n : ℕ). left_with (record c { put = n }) (known v) c.tickets) (sym s.put))

  -- a message was answered, and then the daemons ran
  round_alone : (w v : Writer) (b c : Told) (a : Answer) → w.me ≡ 1 → Grows v.seen seen
      → (r : IsRound l w v b c a)
      → after_message l (known w) (tickets_of b.shown) a.message ≡ (known v, tickets_of c.shown)
  round_alone w v b c a one grown r =
      let s = said_alone b r.asked a.outcome (ask_of l.names a.message.request) r.answered.said in
      let stepped = round_mid l v b c a r in
      let answered = answered_grown l w r.mid (a ∷ []) r.answered.exchanged in
      let asked = (asked_alone l (tickets_of b.shown) a.message).0 in
      ap (λ (x : List Log × Outcome). after_daemons l x.0 asked)
      (answer_alone w r.mid b r.asked a one (grows_join r.mid.seen v.seen seen stepped.grown grown)
      r.answered)
      ∙ (ap (after_daemons l (known r.mid)) (sym s.tickets)
      ∙ stepped_alone r.mid v (tickets_of r.asked.shown) (tickets_of c.shown) (answered.same ∙ one)
      grown r.stepped)

  -- the law holds of what each first part of these messages leaves
  pub rounds_lawful : (w v : Writer) (b c : Told) (answers : List Answer) → w.me ≡ 1
      → Grows v.seen seen → AreRounds l w b answers v c → IsLawful l.names (known w) → (upto : ℕ)
      → IsLawful l.names
      (after_messages l (known w) (tickets_of b.shown) (take upto (messages_of answers))).0
  rounds_lawful w v b c [] one grown r law zero = law
  rounds_lawful w v b c [] one grown r law (suc n) = law
  rounds_lawful w v b c (a ∷ answers) one grown r law zero = law
  rounds_lawful w v b c (a ∷ answers) one grown r law (suc n) =
      let first = round_grown l w r.0 b r.1 a r.2 in
      let later = rounds_grown l r.0 v r.1 c answers r.3 in
      let seen_on = grows_join r.0.seen v.seen seen later.grown grown in
      subst (λ (x : List Log × Tickets). IsLawful l.names
      (after_messages l x.0 x.1 (take n (messages_of answers))).0)
      (sym (round_alone w r.0 b r.1 a one seen_on r.2))
      (rounds_lawful r.0 v r.1 c answers (first.same ∙ one) grown r.3
      (subst (IsLawful l.names) (sym (shown_old r.0.seen seen seen_on)) r.2.lawful) n)

  -- the reply to a message, at the time 0
  abbrev pub reply_alone : Message → Outcome → ByteList
  reply_alone m o = said m.asks ++ reply_of (framing_of m.request) 0 o

  pub one_reply : (w v : Writer) (a : Answer) → Exchanged TellsZero l w v (a ∷ [])
      → reply_to a ≡ reply_alone a.message a.outcome
  one_reply w v a x =
      ap (λ n. said a.message.asks ++ reply_of (framing_of a.message.request) n a.outcome)
      (took_none a.now a.exchange.millis x.sound.1.lasted)

  -- behind some messages, others are answered over what those left
  pub replies_behind : (w v : Writer) (b c : Told) (answers : List Answer) (more : List Message)
      → w.me ≡ 1 → Grows v.seen seen → AreRounds l w b answers v c
      → replies_alone l (known w) (tickets_of b.shown) (messages_of answers ++ more)
      ≡ replies_of answers ++ replies_alone l (known v) (tickets_of c.shown) more
  replies_behind w v b c [] more one grown r =
      ap (λ (x : Writer). replies_alone l (known x) (tickets_of b.shown) more) (sym r.0)
      ∙ ap (λ (x : Told). replies_alone l (known v) (tickets_of x.shown) more) (sym r.1)
  replies_behind w v b c (a ∷ answers) more one grown r =
      let first = round_grown l w r.0 b r.1 a r.2 in
      let later = rounds_grown l r.0 v r.1 c answers r.3 in
      let seen_on = grows_join r.0.seen v.seen seen later.grown grown in
      let mid = round_mid l r.0 b r.1 a r.2 in
      let behind = messages_of answers ++ more in
      let reply = reply_alone a.message a.outcome in
      let rest = replies_alone l (known v) (tickets_of c.shown) more in
      ap (λ (x : List Log × Outcome). reply_alone a.message x.1
      ++ replies_alone l (after_message l (known w) (tickets_of b.shown) a.message).0
      (after_message l (known w) (tickets_of b.shown) a.message).1 behind)
      (answer_alone w r.2.mid b r.2.asked a one
      (grows_join r.2.mid.seen r.0.seen seen mid.grown seen_on) r.2.answered)
      ∙ (ap (λ (x : List Log × Tickets). reply ++ replies_alone l x.0 x.1 behind)
      (round_alone w r.0 b r.1 a one seen_on r.2)
      ∙ (ap (λ (x : ByteList). reply ++ x)
      (replies_behind r.0 v r.1 c answers more (first.same ∙ one) grown r.3)
      ∙ (sym (append_assoc reply (replies_of answers) rest)
      ∙ ap (λ (x : ByteList). (x ++ replies_of answers) ++ rest)
      (sym (one_reply w r.2.mid a r.2.answered.exchanged)))))
