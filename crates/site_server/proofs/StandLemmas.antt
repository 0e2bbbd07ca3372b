-- What a worker of a server did, over the histories with which its site was closed.
use Rattle.std.proofs.Common.{◌≡◌, ◌≢◌, ℕ, zero, suc, ◌+◌, ◌≤◌, ◌==◌, false, List, [], ◌∷◌, ◌++◌, length, get_or, take, drop, replicate, refl, sym, ap, subst, ◌∙◌, inl, inr, append_assoc, append-nil, if◌then◌else◌}
use Rattle.std.specs.Prelude.{All, Some, None}
use Rattle.std.specs.List.{AllByRecursion, flat_map}
use Rattle.std.proofs.Math.Seq.{take-append_seam, drop-append_seam}
use Rattle.std.proofs.lemmas.Bool.Decides.{eqb_tells}
use Rattle.std.proofs.lemmas.List.Elements.{All-head, All-tail}
use Rattle.tuple_values.specs.declared.names.NameShards.{NameShards}
use Rattle.exchange_rules.specs.Accesses.{Access, a_look, a_step, between, IsLook, IsOwn, had_after}
use Rattle.exchange_rules.specs.Cells.{Log, Payload, author_of}
use Rattle.exchange_rules.specs.Courses.{Course, ends, looks, makes}
use Rattle.exchange_rules.specs.Following.{Follows, Grows, IsNext, Writer, counts, rest_after}
use Rattle.exchange_rules.specs.Own.{by_writer, steps_at}
use Rattle.exchange_rules.specs.Rows.{Layout}
use Rattle.exchange_rules.proofs.CountLemmas.{IsCounted, by_writer-append, follows_counted}
use Rattle.exchange_rules.proofs.FollowLemmas.{own_within}
use Rattle.exchange_rules.proofs.GrowthLemmas.{Continues, count_at, grows_at, grows_join, grows_same, length_still, part_still, take_still}
use Rattle.exchange_rules.proofs.RecordedLemmas.{counted_join, counted_none}
use Rattle.turn_table.specs.Histories.{Adds}
use Rattle.site_cells.specs.Cells.{no_logs}
use Rattle.daemon_board.specs.Answers.{no_answers}
use Rattle.server_edge.specs.declared.door.Back.{Back}
use Rattle.stream_handler.specs.Boards.{board_state}
use Rattle.stream_handler.specs.Exchanges.{Answer, AreSound, IsSound, exchanges_of, owns_of}
use Rattle.stream_handler.specs.Requests.{request_course}
use Rattle.stream_handler.specs.Sessions.{Wire, EndsBy}
use Rattle.stream_handler.specs.declared.ending.SessionEnd.{SessionEnd}
use Rattle.stream_handler.specs.declared.exchange.Exchange.{Exchange}
use Rattle.stream_handler.proofs.SoundLemmas.{sound_counted, sound_of}
use Rattle.running_site.specs.Passes.{new_writer}
use Rattle.pass_calls.specs.Serving.{server, served_by, AreServed, IsServed, Server, Serving}
use Rattle.site_server.specs.Doors.{Doors}
use Rattle.site_server.specs.Standing.{found_by, EndStandsIn, ServedAreFound}

-- each log of the first row begins that of the same cell in the second
abbrev pub Begin : List Log → List Log → Type 0
Begin s t = (c : ℕ) → Continues (get_or s c []) (get_or t c [])

-- so do the logs that grew into it
begin_grown : (s t u : List Log) → Grows s t → Begin t u → Begin s u
begin_grown s t u g b c =
    let p = grows_at s t g c in
    let q = b c in
    (p.0 ++ q.0, q.1 ∙ (ap (λ x. x ++ q.0) p.1 ∙ append_assoc (get_or s c []) p.0 q.0))

-- a look is one over the rows that they begin
look_over : (me : ℕ) (s t : List Log) (had : List ℕ) (c : ℕ) (m : _) → Begin s t
    → IsLook me s had c m → IsLook me t had c m
look_over me s t had c m b l =
    let same = take_still (get_or s c []) (get_or t c []) m.upto (b c) l.within in
    record {
      cell_is = l.cell_is;
      known = l.known;
      since = l.since;
      within = length_still (get_or s c []) (get_or t c []) m.upto (b c) l.within;
      others = subst (λ (h : Log). AllByRecursion (λ n. author_of n ≢ me) (drop (get_or had c 0) h))
          (sym same) l.others;
    }

-- so is a step
step_over : (me : ℕ) (s t : List Log) (had : List ℕ) (c : ℕ) (step : List Payload) (o : _)
    → Begin s t → IsOwn me s had c step o → IsOwn me t had c step o
step_over me s t had c step o b l = record {
  cell_is = l.cell_is;
  known = l.known;
  from = l.from;
  count = l.count;
  within = length_still (get_or s c []) (get_or t c []) (o.from + o.count) (b c) l.within;
  appended = part_still (get_or s o.cell []) (get_or t o.cell []) o.from o.count (b o.cell)
      (own_within me s had c step o l)
      ∙ l.appended;
}

-- what a course does next stays
next_over : {A : Type 0} (me : ℕ) (s t : List Log) (had : List ℕ) (p : Course A) (access : Access)
    → Begin s t → IsNext me s had p access → IsNext me t had p access
next_over me s t had (ends a) access b n = absurd n
next_over me s t had (looks c f) (a_look m) b n = look_over me s t had c m b n
next_over me s t had (looks c f) (a_step o) b n = absurd n
next_over me s t had (makes c step p) (a_look m) b n = absurd n
next_over me s t had (makes c step p) (a_step o) b n = step_over me s t had c step o b n

-- and so does what is left of it
rest_over : {A : Type 0} (me : ℕ) (s t : List Log) (had : List ℕ) (p : Course A) (access : Access)
    → Begin s t → IsNext me s had p access → rest_after t p access ≡ rest_after s p access
rest_over me s t had (ends a) access b n = absurd n
rest_over me s t had (looks c f) (a_look m) b n =
    ap f (take_still (get_or s m.cell []) (get_or t m.cell []) m.upto (b m.cell)
    (subst (λ x. m.upto ≤ length (get_or s x [])) (sym n.cell_is) n.within))
rest_over me s t had (looks c f) (a_step o) b n = absurd n
rest_over me s t had (makes c step p) (a_look m) b n = absurd n
rest_over me s t had (makes c step p) (a_step o) b n = refl

-- accesses that follow a course over logs follow it over those that they begin
follows_over : {A : Type 0} (me : ℕ) (s t : List Log) (had : List ℕ) (p : Course A)
    (accesses : List Access) (q : Course A) (end : List ℕ) → Begin s t
    → Follows me s had p accesses q end → Follows me t had p accesses q end
follows_over me s t had p [] q end b f = f
follows_over me s t had p (access ∷ accesses) q end b f =
    let after = had_after had access in
    let on = subst (λ x. Follows me s after x accesses q end)
    (sym (rest_over me s t had p access b f.0)) f.1 in (
      next_over me s t had p access b f.0,
      follows_over me s t after (rest_after t p access) accesses q end b on,
    )

-- so exchanges are sound over them
sound_over : (tells : ℕ → Type 0) (l : Layout) (me : ℕ) (s t : List Log) (had end : List ℕ)
    (xs : List Answer) → Begin s t
    → AreSound tells l me s had xs end → AreSound tells l me t had xs end
sound_over tells l me s t had end [] b i = i
sound_over tells l me s t had end (a ∷ xs) b i =
    let one : IsSound tells a.now me t had (request_course l a.outcome a.message.request)
    a.exchange a.outcome i.0 =
    sound_of tells a.now l me t had a.message.request a.exchange a.outcome i.0 i.1.accesses
    i.1.marks i.1.own i.1.began i.1.lasted
    (follows_over me s t had (request_course l a.outcome a.message.request) i.1.accesses
    (ends a.outcome) i.0 b i.1.followed) in
    (i.0, one, sound_over tells l me s t i.0 end xs b i.2)

module _ (tells : ℕ → Type 0) (l : Layout) (old new : Wire) (w v : Writer) (answers : List Answer)
    (note : SessionEnd) where
  abbrev Ends : Type 0
  Ends = EndsBy tells l old new w v answers note.rest note.end

  -- however a connection ended, the worker keeps its number
  ends_same : Ends → v.me ≡ w.me
  ends_same (inl s) = s.exchanged.same
  ends_same (inr x) = x.1.same ∙ x.1.exchanged.same

  -- and has seen no less
  ends_grown : Ends → Grows w.seen v.seen
  ends_grown (inl s) = s.exchanged.grown
  ends_grown (inr x) = grows_join w.seen x.1.mid.seen v.seen x.1.exchanged.grown x.1.grown

  module _ (me : ℕ) (logs : List Log) where
    -- what was done stands in logs which what the worker has seen begins
    ends_stand : w.me ≡ me → Begin v.seen logs → (x : Ends)
        → EndStandsIn tells l old new w v answers note me logs x
    ends_stand same b (inl s) =
        subst (λ n. AreSound tells l n logs (counts w.seen) answers (counts v.seen)) same
        (sound_over tells l w.me v.seen logs (counts w.seen) (counts v.seen) answers b
        s.exchanged.sound)
    ends_stand same b (inr x) =
        let y = x.1 in
        let mid = counts y.mid.seen in
        let p = request_course l y.told y.message.request in (
          subst (λ n. AreSound tells l n logs (counts w.seen) answers mid) same
              (sound_over tells l w.me y.mid.seen logs (counts w.seen) mid answers
              (begin_grown y.mid.seen v.seen logs y.grown b) y.exchanged.sound),
          subst (λ n. Follows n logs mid p y.accesses y.left (counts v.seen)) same
              (follows_over w.me v.seen logs mid p y.accesses y.left (counts v.seen) b y.followed),
        )

    -- what stands there is just the own steps of the exchanges and of the rest
    ends_counted : (x : Ends) → EndStandsIn tells l old new w v answers note me logs x → (c : ℕ)
        → IsCounted me logs (counts w.seen) (counts v.seen)
        (owns_of (exchanges_of answers) ++ note.rest.own) c
    ends_counted (inl s) sound c =
        let owns = owns_of (exchanges_of answers) in
        subst (λ (own : List _). IsCounted me logs (counts w.seen) (counts v.seen) own c)
        (sym (append-nil owns)
        ∙ ap (λ (own : List _). owns ++ own) (sym (ap (λ r. r.own) s.recorded)))
        (sound_counted tells l me logs (counts w.seen) (counts v.seen) answers c sound)
    ends_counted (inr x) stands c =
        let y = x.1 in
        let mid = counts y.mid.seen in
        let end = counts v.seen in
        let p = request_course l y.told y.message.request in
        let behind : IsCounted me logs mid end note.rest.own c =
        subst (λ (own : List _). IsCounted me logs mid end own c) (sym y.own)
        (follows_counted me logs mid p y.accesses y.left end c stands.1) in
        let before = sound_counted tells l me logs (counts w.seen) mid answers c stands.0 in
        counted_join me logs (counts w.seen) mid end (owns_of (exchanges_of answers))
        note.rest.own c before behind

module _ {D I O : Type 0} (kind : Doors D I O) (tells : ℕ → Type 0) (l : Layout) (me : ℕ)
    (logs : List Log) where
  abbrev Did : Serving Server I O SessionEnd
  Did = served_by tells l kind.left kind.reads kind.written kind.writes

  abbrev Found : Serving Server I O SessionEnd
  Found = found_by kind tells l me logs

  -- in one connection the worker keeps its number
  did_same : (w v : Server) (c : I × O) (b : Back I O SessionEnd) → Did w v c b
      → v.writer.me ≡ w.writer.me
  did_same w v c b h =
      let s = h.0.1.session in
      ends_same tells l _ _ w.writer v.writer s.answers b.note s.over.ends

  -- and has seen no less
  did_grown : (w v : Server) (c : I × O) (b : Back I O SessionEnd) → Did w v c b
      → Grows w.writer.seen v.writer.seen
  did_grown w v c b h =
      let s = h.0.1.session in
      ends_grown tells l _ _ w.writer v.writer s.answers b.note s.over.ends

  -- what it did stands in the logs
  did_found : (w v : Server) (c : I × O) (b : Back I O SessionEnd) → w.writer.me ≡ me
      → Begin v.writer.seen logs → Did w v c b → Found w v c b
  did_found w v c b same begin h =
      let s = h.0.1.session in (
        h,
        ends_stand tells l _ _ w.writer v.writer s.answers b.note me logs same begin
            s.over.ends,
      )

  -- and what the worker appended is just its own steps
  found_counted : (w v : Server) (c : I × O) (b : Back I O SessionEnd) → Found w v c b → (cell : ℕ)
      → IsCounted me logs (counts w.writer.seen) (counts v.writer.seen)
      (owns_of b.note.exchanges ++ b.note.rest.own) cell
  found_counted w v c b f cell =
      let s = f.0.0.1.session in
      subst (λ (xs : List Exchange). IsCounted me logs (counts w.writer.seen) (counts v.writer.seen)
      (owns_of xs ++ b.note.rest.own) cell) (sym s.exchanges_are)
      (ends_counted tells l _ _ w.writer v.writer s.answers b.note me logs s.over.ends
      f.1 cell)

  -- the same of connections, one after another
  all_grown : (w : Server) (given : List (I × O)) (backs : List (Back I O SessionEnd)) (v : Server)
      → AreServed Did w given backs v → Grows w.writer.seen v.writer.seen
  all_grown w [] [] v h =
      subst (λ (u : Server). Grows w.writer.seen u.writer.seen) (sym h) (grows_same w.writer.seen)
  all_grown w [] (b ∷ backs) v h = absurd h
  all_grown w (c ∷ given) [] v h = absurd h
  all_grown w (c ∷ given) (b ∷ backs) v h =
      grows_join w.writer.seen h.0.writer.seen v.writer.seen (did_grown w h.0 c b h.1)
      (all_grown h.0 given backs v h.2)

  all_found : (w : Server) (given : List (I × O)) (backs : List (Back I O SessionEnd)) (v : Server)
      → w.writer.me ≡ me → Begin v.writer.seen logs
      → AreServed Did w given backs v → AreServed Found w given backs v
  all_found w [] [] v same begin h = h
  all_found w [] (b ∷ backs) v same begin h = absurd h
  all_found w (c ∷ given) [] v same begin h = absurd h
  all_found w (c ∷ given) (b ∷ backs) v same begin h =
      let mid = h.0 in
      let first : Begin mid.writer.seen logs =
      begin_grown mid.writer.seen v.writer.seen logs (all_grown mid given backs v h.2) begin in (
        mid,
        did_found w mid c b same first h.1,
        all_found mid given backs v (did_same w mid c b h.1 ∙ same) begin h.2,
      )

  -- at a cell the entries of the worker are just what the own steps that came back say
  abbrev Counted : Server → List (Back I O SessionEnd) → Server → ℕ → Type 0
  Counted w backs v cell =
      IsCounted me logs (counts w.writer.seen) (counts v.writer.seen)
      (flat_map (λ b. owns_of b.note.exchanges ++ b.note.rest.own) backs) cell

  all_counted : (w : Server) (given : List (I × O)) (backs : List (Back I O SessionEnd))
      (v : Server) → AreServed Found w given backs v → (cell : ℕ) → Counted w backs v cell
  all_counted w [] [] v h cell =
      subst (λ (u : Server). Counted w [] u cell) (sym h)
      (counted_none me logs (counts w.writer.seen) cell)
  all_counted w [] (b ∷ backs) v h cell = absurd h
  all_counted w (c ∷ given) [] v h cell = absurd h
  all_counted w (c ∷ given) (b ∷ backs) v h cell =
      counted_join me logs (counts w.writer.seen) (counts h.0.writer.seen) (counts v.writer.seen)
      (owns_of b.note.exchanges ++ b.note.rest.own) _ cell (found_counted w h.0 c b h.1 cell)
      (all_counted h.0 given backs v h.2 cell)

-- cells of no entry
no_entry : (n c : ℕ) → get_or (replicate {A = Log} n []) c [] ≡ []
no_entry zero c = refl
no_entry (suc n) zero = refl
no_entry (suc n) (suc c) = no_entry n c

-- a new worker has seen none
none_yet : (names : List NameShards) (c : ℕ) → get_or (counts (no_logs names)) c 0 ≡ 0
none_yet names c =
    count_at (no_logs names) c ∙ ap (λ (h : Log). length h) (no_entry _ c)

-- numbers that differ fail their test
differs : (a b : ℕ) → a ≢ b → (a == b) ≡ false
differs a b n = elim (eqb_tells a b) [ inl w ↦ absurd (n w.1) | inr w ↦ w.0 ]

-- others' entries aren't the writer's
others_none : (me : ℕ) (h : Log) → All (λ entry. author_of entry ≢ me) h → by_writer me h ≡ []
others_none me [] a = refl
others_none me (e ∷ h) a =
    ap (λ t. if t then e ∷ by_writer me h else by_writer me h)
    (differs (author_of e) me (All-head (λ entry. author_of entry ≢ me) e h a))
    ∙ others_none me h (All-tail (λ entry. author_of entry ≢ me) e h a)

-- where only others' entries are behind what was seen, all own ones were seen
own_whole : (me : ℕ) (names : List NameShards) (seen logs : List Log) (own : List _) (c : ℕ)
    → Adds (λ entry. author_of entry ≢ me) (get_or seen c []) (get_or logs c [])
    → IsCounted me logs (counts (no_logs names)) (counts seen) own c
    → by_writer me (get_or logs c []) ≡ steps_at c logs own
own_whole me names seen logs own c a k =
    let s = get_or seen c [] in
    let h = get_or logs c [] in
    let start = get_or (counts (no_logs names)) c 0 in
    let stop = get_or (counts seen) c 0 in
    let part : between start stop h ≡ s =
    ap (λ n. between n stop h) (none_yet names c)
    ∙ (ap (λ n. take n h) (count_at seen c)
    ∙ (ap (λ (x : Log). take (length s) x) a.1 ∙ take-append_seam s a.0)) in
    let whole : by_writer me h ≡ by_writer me s =
    ap (λ (x : Log). by_writer me x) a.1
    ∙ (by_writer-append me s a.0
    ∙ (ap (λ (x : Log). by_writer me s ++ x) (others_none me a.0 a.2)
    ∙ append-nil (by_writer me s))) in
    whole ∙ (ap (λ (x : Log). by_writer me x) (sym part) ∙ k.counted)

-- and behind what was seen there is none
done_behind : (me : ℕ) (seen logs : List Log) (c : ℕ)
    → Adds (λ entry. author_of entry ≢ me) (get_or seen c []) (get_or logs c [])
    → All (λ entry. author_of entry ≢ me) (drop (get_or (counts seen) c 0) (get_or logs c []))
done_behind me seen logs c a =
    let s = get_or seen c [] in
    subst (λ (x : Log). All (λ entry. author_of entry ≢ me) x)
    (sym (drop-append_seam s a.0)
    ∙ (ap (λ (x : Log). drop (length s) x) (sym a.1)
    ∙ ap (λ n. drop n (get_or logs c [])) (sym (count_at seen c)))) a.2

-- what a worker did is found in the histories
pub served_found : (D I O : Type 0) (tells : ℕ → Type 0) → ServedAreFound D I O tells
served_found D I O tells kind l logs number x r worked seen told even =
    let d = worked.served in
    let w = server (new_writer l.names number) (board_state None no_answers) in
    let v = server x.writer d.board in
    let s : IsServed (Did kind tells l number logs) w v (Some r) (kind.told x.new) =
    subst (λ o. IsServed (Did kind tells l number logs) w v o (kind.told x.new)) told d.served in
    let row = s.2 even in
    let begin : Begin x.writer.seen logs = λ c. ((seen c).0, (seen c).1) in
    let found : AreServed (Found kind tells l number logs) w row.given row.backs v =
    all_found kind tells l number logs w row.given row.backs v refl begin row.served in
    let others : (c : ℕ)
    → Adds (λ entry. author_of entry ≢ number) (get_or x.writer.seen c []) (get_or logs c []) =
    λ c. subst (λ n. Adds (λ entry. author_of entry ≢ n) (get_or x.writer.seen c [])
    (get_or logs c [])) worked.numbered (seen c) in
    record {
      row = s.0;
      is = s.1;
      board = d.board;
      served = record {
        given = row.given;
        backs = row.backs;
        left = row.left;
        counted = row.counted;
        came = row.came;
        served = found;
      };
      steps = λ c.
          own_whole number l.names x.writer.seen logs _ c (others c)
          (all_counted kind tells l number logs w row.given row.backs v found c);
      done = λ c. done_behind number x.writer.seen logs c (others c);
    }
