-- What an update of the source with a commit adds to its cells.
use Rattle.std.proofs.Common.{◌≡◌, ℕ, ◌<◌, ◌≤◌, true, false, List, [], ◌∷◌, ◌++◌, length, map, refl, sym, ap, ◌∙◌, subst, arith, append_assoc, append-nil, inl, inr, Result, Ok}
use Rattle.tuple_values.specs.Document.{ByteList}
use Rattle.tuple_values.specs.declared.write.Write.{Write}
use Rattle.shard_versions.specs.Histories.{is_pending}
use Rattle.shard_versions.specs.declared.cut.OwnMark.{OwnMark}
use Rattle.shard_versions.specs.declared.entry.Kind.{Kind}
use Rattle.topic_book.specs.Cells.{cell_of}
use Rattle.topic_book.specs.Fitness.{shards_of}
use Rattle.exchange_rules.specs.Accesses.{Access, own_of}
use Rattle.exchange_rules.specs.Cells as cell
use Rattle.exchange_rules.specs.Cells.{Log, history_in, signed}
use Rattle.exchange_rules.specs.Courses.{and_ok, ends}
use Rattle.exchange_rules.specs.Following.{Answers, Follows, Writer, counts}
use Rattle.exchange_rules.specs.Own.{steps_at}
use Rattle.exchange_rules.specs.Rows.{Layout, commit_at, finish_course, index_course, shares_of, write_at, writes_course}
use Rattle.exchange_rules.specs.Steps.{closed, routed}
use Rattle.exchange_rules.specs.declared.fault.SiteFault.{SiteFault}
use Rattle.load_rules.specs.Loaded.{writes_in}
use Rattle.load_rules.specs.Topic.{load_names, src_name}
use Rattle.load_rules.proofs.CellLemmas.{load_layout, src-is, src-shards}
use Rattle.load_mix.specs.Puts.{HasPut}
use Rattle.load_rules.specs.Worked.{src_cell}
use Rattle.load_mix.proofs.CourseLemmas.{IsMarking, IsOnly, IsStep, commit_marked, each_steps, ended_only, passed-of, steps_at-joined, write_only, written_only}
use Rattle.load_mix.proofs.HistoryLemmas.{AreWrites, history_in-append, history_in-signed, pending-append, pending-closed, pending-mark, pending-none, routed-append, routed_writes, writes_in-append, writes_in-closed}
use Rattle.load_mix.proofs.AddLemmas.{added_join, added_none, added_reached}

-- the entries are the shard's share, with its Mark
abbrev pub IsShare : ℕ → (ℕ → List Kind) → ℕ → Log → Type 0
IsShare me share s log = log ≡ signed me (map cell.write (closed true (share s)))

-- the entries are none or a Mark, and none where the shard has a share
abbrev pub IsFinish : ℕ → (ℕ → List Kind) → ℕ → Log → Type 0
IsFinish me share s log = IsMarking me log × (0 < length (share s) → log ≡ [])

module _ (l : Layout) (collection : ByteList)
    (first : (s : ℕ) → cell_of l.names collection s ≡ s) where
  -- the step of a shard's share
  write_step : (me : ℕ) (seen : List Log) (share : ℕ → List Kind) (s : ℕ) (had : List ℕ)
      (accesses : List Access) (end : List ℕ)
      → Follows me seen had (write_at l collection share true s) accesses (ends (Ok tt)) end
      → IsStep (IsShare me share) seen s (own_of accesses)
  write_step me seen share s had accesses end f =
      let at = cell_of l.names collection s in
      let there = write_only me seen had l.limit at (closed true (share s)) _ accesses end f in
      let step : Log = signed me (map cell.write (closed true (share s))) in
      let o = subst (λ c. IsOnly seen c step (own_of accesses)) (first s) there in
      record { here = o.here; elsewhere = o.elsewhere }

  -- what a commit does of a shard
  finish_step : (me : ℕ) (seen : List Log) (share : ℕ → List Kind) (stand s : ℕ) (had : List ℕ)
      (accesses : List Access) (end : List ℕ)
      → Follows me seen had (commit_at l collection (λ x. length (share x)) stand s) accesses
      (ends (Ok tt)) end → IsStep (IsFinish me share) seen s (own_of accesses)
  finish_step me seen share stand s had accesses end f =
      let at = cell_of l.names collection s in
      let own = own_of accesses in
      let m = commit_marked me seen had l.limit at (length (share s)) _ accesses end f in
      let o = subst (λ c. IsOnly seen c m.log own) (first s) m.only in
      record {
        here = (
          subst (IsMarking me) (sym o.here) m.marking,
          λ lt. (subst (λ c. IsOnly seen c [] own) (first s)
              (written_only me seen had l.limit at (length (share s)) _ accesses end lt f)).here,
        );
        elsewhere = o.elsewhere;
      }

  -- what an update with a commit appends at each shard: its share, and what a commit does
  pub record IsUpdate (me : ℕ) (seen : List Log) (writes : List Write) (own : List OwnMark)
      : Type 0 where
    pub shares : ℕ → Log
    pub finishes : ℕ → Log
    pub both : (c : ℕ) → steps_at c seen own ≡ shares c ++ finishes c
    pub shared : (s : ℕ) → s < shards_of l.names collection
        → IsShare me (shares_of l collection writes) s (shares s)
    pub finished : (s : ℕ) → s < shards_of l.names collection
        → IsFinish me (shares_of l collection writes) s (finishes s)
    pub no_share : (c : ℕ) → shards_of l.names collection ≤ c → shares c ≡ []
    pub no_finish : (c : ℕ) → shards_of l.names collection ≤ c → finishes c ≡ []

  -- where it was followed to its answer
  pub update_steps : (me : ℕ) (seen : List Log) (had : List ℕ) (writes : List Write) (n : ℕ)
      (accesses : List Access) (end : List ℕ)
      → Follows me seen had (index_course l collection writes true) accesses (ends (Ok n)) end
      → IsUpdate me seen writes (own_of accesses)
  update_steps me seen had writes n accesses end f =
      let share = shares_of l collection writes in
      let count = length writes in
      let shards = shards_of l.names collection in
      let p = passed-of me seen had (writes_course l collection share true)
      (λ _. and_ok (finish_course l collection share count true) (λ _. ends (Ok count)))
      accesses n end f in
      let q = passed-of me seen p.mid (finish_course l collection share count true)
      (λ _. ends (Ok count)) p.last n end p.went_on in
      let a = each_steps (IsShare me share) me seen (write_at l collection share true)
      (write_step me seen share) 0 shards had p.first p.mid p.began in
      let b = each_steps (IsFinish me share) me seen
      (commit_at l collection (λ x. length (share x)) count)
      (finish_step me seen share count) 0 shards p.mid q.first q.mid q.began in
      let shared = λ (c : ℕ). steps_at c seen (own_of p.first) in
      let finished = λ (c : ℕ). steps_at c seen (own_of q.first) in
      let ended = λ (c : ℕ). ended_only {A = Result ℕ SiteFault} me seen q.mid c (Ok count) (Ok n)
      q.last end q.went_on in
      record {
        shares = shared;
        finishes = finished;
        both = λ c. steps_at-joined c seen accesses p.first p.last p.joined
            ∙ ap (λ x. shared c ++ x)
            (steps_at-joined c seen p.last q.first q.last q.joined
            ∙ (ap (λ x. finished c ++ x) (ended c).here ∙ append-nil (finished c)));
        shared = λ s lt. a.here s (omega arith) (omega arith);
        finished = λ s lt. b.here s (omega arith) (omega arith);
        no_share = λ c le. a.behind c (omega arith);
        no_finish = λ c le. b.behind c (omega arith);
      }

-- a share and what a commit does of it: its writes, of which none is pending
pub record IsClosed (ks : List Kind) (log : Log) : Type 0 where
  pub written : writes_in (history_in log) ≡ ks
  pub closed : is_pending (history_in log) ≡ false

-- where there is no share, none or a Mark
marking_closed : (me : ℕ) (log : Log) → IsMarking me log → IsClosed [] log
marking_closed me log (inl e) = record {
  written = ap (λ x. writes_in (history_in x)) e;
  closed = ap (λ x. is_pending (history_in x)) e ∙ pending-none;
}
marking_closed me log (inr e) = record {
  written = ap (λ x. writes_in (history_in x)) e;
  closed = ap (λ x. is_pending (history_in x)) e ∙ pending-mark me;
}

-- a share with its Mark
share_closed : (me : ℕ) (ks : List Kind) (log : Log) → AreWrites ks
    → log ≡ signed me (map cell.write (closed true ks)) → IsClosed ks log
share_closed me ks log w e =
    let h = ap history_in e ∙ history_in-signed me (closed true ks) in
    record {
      written = ap writes_in h ∙ writes_in-closed me ks w;
      closed = ap is_pending h ∙ pending-closed me ks;
    }

-- both together
both_closed : (me : ℕ) (share : ℕ → List Kind) (s : ℕ) (a b : Log) → AreWrites (share s)
    → IsShare me share s a → IsFinish me share s b → IsClosed (share s) (a ++ b)
both_closed me share s a b w x y = go (share s) w x y.0 y.1
  where
    go : (ks : List Kind) → AreWrites ks → a ≡ signed me (map cell.write (closed true ks))
        → IsMarking me b → (0 < length ks → b ≡ []) → IsClosed ks (a ++ b)
    go [] w x m n = subst (λ l. IsClosed [] (l ++ b)) (sym x) (marking_closed me b m)
    go (k ∷ ks) w x m n =
        subst (IsClosed (k ∷ ks)) (sym (ap (λ l. a ++ l) (n (omega arith)) ∙ append-nil a))
        (share_closed me (k ∷ ks) a w x)

-- an update of the source that was followed to its answer
pub put_answered : (old new : Writer) (limit : ℕ) (writes : List Write) (n : ℕ)
    → Answers old new (index_course (load_layout limit) src_name writes true) (Ok n)
    → HasPut writes old new
put_answered old new limit writes n r =
    let l = load_layout limit in
    let shards = shards_of load_names src_name in
    let own = own_of r.accesses in
    let u = update_steps l src_name src-is old.me new.seen (counts old.seen) writes n r.accesses
    (counts new.seen) r.followed in
    let share = shares_of l src_name writes in
    let steps = λ (c : ℕ). steps_at c new.seen own in
    let each : (s : ℕ) → s < 4 → IsClosed (routed 4 s writes) (steps s) = λ s lt.
    let within : s < shards = subst (λ k. s < k) (sym src-shards) lt in
    subst (λ k. IsClosed (routed k s writes) (steps s)) src-shards
    (subst (IsClosed (share s)) (sym (u.both s))
    (both_closed old.me share s (u.shares s) (u.finishes s) (routed_writes shards s writes)
    (u.shared s within) (u.finished s within))) in
    record {
      steps = steps;
      added = added_reached old new (index_course l src_name writes true) (ends (Ok n)) r;
      written = λ s lt. (each s lt).written;
      closed = λ s lt. (each s lt).closed;
      elsewhere = λ c le.
          let outside : shards ≤ c = subst (λ k. k ≤ c) (sym src-shards) le in
          u.both c ∙ (ap (λ x. x ++ u.finishes c) (u.no_share c outside) ∙ u.no_finish c outside);
    }

-- nothing was put where nothing was done
pub put_none : (w : Writer) → HasPut [] w w
put_none w = record {
  steps = λ c. [];
  added = added_none w;
  written = λ s lt. refl;
  closed = λ s lt. pending-none;
  elsewhere = λ c le. refl;
}

-- two updates put both lists of writes
pub put_join : (a b : List Write) (old mid new : Writer) → HasPut a old mid → HasPut b mid new
    → HasPut (a ++ b) old new
put_join a b old mid new x y =
    let both = λ (c : ℕ). history_in-append (x.steps c) (y.steps c) in
    record {
      steps = λ c. x.steps c ++ y.steps c;
      added = added_join x.steps y.steps old mid new x.added y.added;
      written = λ s lt. ap writes_in (both s)
          ∙ (writes_in-append (history_in (x.steps s)) (history_in (y.steps s))
          ∙ (ap (λ h. h ++ writes_in (history_in (y.steps s))) (x.written s lt)
          ∙ (ap (λ h. routed 4 s a ++ h) (y.written s lt) ∙ sym (routed-append 4 s a b))));
      closed = λ s lt. ap is_pending (both s)
          ∙ pending-append (history_in (x.steps s)) (history_in (y.steps s)) (x.closed s lt)
          (y.closed s lt);
      elsewhere = λ c le.
          ap (λ h. h ++ y.steps c) (x.elsewhere c le) ∙ y.elsewhere c le;
    }

-- of these writes, which were given so far, all were put but the last ones, which are these
pub record HasPutBut (rest given : List Write) (old new : Writer) : Type 0 where
  pub front : List Write
  pub put : HasPut front old new
  pub parts : given ≡ front ++ rest

-- at the start
pub but_none : (w : Writer) → HasPutBut [] [] w w
but_none w = record { front = []; put = put_none w; parts = refl }

-- one more is given
pub but_more : (rest given : List Write) (w : Write) (old new : Writer)
    → HasPutBut rest given old new → HasPutBut (rest ++ w ∷ []) (given ++ w ∷ []) old new
but_more rest given w old new b = record {
  front = b.front;
  put = b.put;
  parts = ap (λ x. x ++ w ∷ []) b.parts ∙ append_assoc b.front rest (w ∷ []);
}

-- the last ones are put, too
pub but_put : (rest given : List Write) (old mid new : Writer) → HasPutBut rest given old mid
    → HasPut rest mid new → HasPut given old new
but_put rest given old mid new b p =
    subst (λ ws. HasPut ws old new) (sym b.parts)
    (put_join b.front rest old mid new b.put p)

-- and then none is left
pub but_all : (rest given none : List Write) (w : Write) (batch : List Write) (old mid new : Writer)
    → batch ≡ rest ++ w ∷ [] → none ≡ [] → HasPutBut rest given old mid → HasPut batch mid new
    → HasPutBut none (given ++ w ∷ []) old new
but_all rest given none w batch old mid new e n b p =
    let more : List Write = given ++ w ∷ [] in
    let put = but_put (rest ++ w ∷ []) more old mid new (but_more rest given w old mid b)
    (subst (λ ws. HasPut ws mid new) e p) in
    record {
      front = more;
      put = put;
      parts = sym (ap (λ x. more ++ x) n ∙ append-nil more);
    }
