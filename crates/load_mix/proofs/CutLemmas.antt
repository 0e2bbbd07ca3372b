-- What the run of a load's topic saw of its source, and how its topic is bound.
use Rattle.std.proofs.Common.{◌≡◌, ℕ, zero, suc, ◌+◌, ◌<◌, ◌≤◌, List, [], ◌∷◌, ◌++◌, length, get_or, set, take, slice_index, refl, sym, ap, ◌∙◌, subst, arith, append_assoc, append-nil, Result, Ok, Err}
use Rattle.std.specs.Prelude.{IfOk}
use Rattle.tuple_values.specs.Document.{ByteList}
use Rattle.tuple_values.specs.declared.names.NameShards.{NameShards}
use Rattle.shard_versions.specs.Histories.{top}
use Rattle.shard_versions.specs.declared.cut.CutMark.{CutMark}
use Rattle.shard_versions.specs.declared.cut.CutPart.{CutPart}
use Rattle.topic_book.specs.Cells.{cell_of}
use Rattle.topic_book.specs.Fitness.{shards_of}
use Rattle.exchange_rules.specs.Accesses.{Access, a_look, at_mark, IsLook}
use Rattle.exchange_rules.specs.Batches.{Sunk, none_sunk}
use Rattle.exchange_rules.specs.Bindings.{bind_course, store_course, topic_state_course}
use Rattle.exchange_rules.specs.Cells.{Log, history_in}
use Rattle.exchange_rules.specs.Courses.{Course, ends, looks, and_then, and_ok, unless_refused}
use Rattle.exchange_rules.specs.Following.{Follows, Answers, Writer, counts}
use Rattle.exchange_rules.specs.Rows.{Layout, cut_course, cut_shards, part_of}
use Rattle.exchange_rules.specs.Topics.{Asked, begin_course, binding_for, bound_then, cut_then_store, init_course, run_course, sends_course, source_course, stopped_by, tops_of}
use Rattle.exchange_rules.specs.declared.batch.BatchItem.{BatchItem}
use Rattle.exchange_rules.specs.declared.fault.SiteFault.{SiteFault}
use Rattle.exchange_rules.specs.declared.run.TopicFault.{TopicFault}
use Rattle.exchange_rules.specs.declared.run.TopicRun.{TopicRun}
use Rattle.exchange_rules.proofs.CountLemmas.{follows_counted}
use Rattle.update_sink.specs.Topics.{run_of}
use Rattle.update_sink.proofs.BeginLemmas.{IsBegun, begun-of}
use Rattle.update_sink.proofs.EachLemmas.{EndsIn, ended-in, ends-then}
use Rattle.update_sink.proofs.PartLemmas.{Parted, ended-of, looked-of, parted-of}

-- the part shows entries of the source's shard, from the first on, and at least so many
pub record IsSincePart (names : List NameShards) (seen : List Log) (had : List ℕ) (src : ByteList)
    (shard : ℕ) (p : CutPart) : Type 0 where
  pub upto : ℕ
  pub since : get_or had (cell_of names src shard) 0 ≤ upto
  pub within : upto ≤ length (get_or seen (cell_of names src shard) [])
  pub is : p ≡ part_of src shard
      (history_in (take upto (get_or seen (cell_of names src shard) [])))

-- so do these parts of its shards, from this one on
abbrev pub AreSinceParts : List NameShards → List Log → List ℕ → ByteList → ℕ → List CutPart
    → Type 0
AreSinceParts names seen had src shard [] = Unit {0}
AreSinceParts names seen had src shard (p ∷ ps) =
    IsSincePart names seen had src shard p × AreSinceParts names seen had src (shard + 1) ps

-- at least as many as this are at least as few
abbrev pub IsLess : List ℕ → List ℕ → Type 0
IsLess low high = (cell : ℕ) → get_or low cell 0 ≤ get_or high cell 0

since-less : (names : List NameShards) (seen : List Log) (low high : List ℕ) (src : ByteList)
    (shard : ℕ) (ps : List CutPart) → IsLess low high → AreSinceParts names seen high src shard ps
    → AreSinceParts names seen low src shard ps
since-less names seen low high src shard [] less a = tt
since-less names seen low high src shard (p ∷ ps) less a =
    let first = a.0 in
    let fewer = less (cell_of names src shard) in
    let since = first.since in (
      record {
        upto = first.upto;
        since = omega (arith, fewer, since);
        within = first.within;
        is = first.is;
      },
      since-less names seen low high src (shard + 1) ps less a.1,
    )

-- whoever follows a course has seen no less of a cell
follows-less : {A : Type 0} (me : ℕ) (seen : List Log) (had : List ℕ) (course : Course A)
    (accesses : List Access) (rest : Course A) (end : List ℕ)
    → Follows me seen had course accesses rest end → IsLess had end
follows-less me seen had course accesses rest end f cell =
    (follows_counted me seen had course accesses rest end cell f).risen

-- nor has whoever looks
look-less : (me : ℕ) (seen : List Log) (had : List ℕ) (cell : ℕ) (m : CutMark)
    → IsLook me seen had cell m → IsLess had (set had m.cell m.upto)
look-less me seen had cell m look =
    let see : Log → Course (Unit {0}) = λ log. ends tt in
    let f : Follows me seen had (looks cell see) (a_look m ∷ []) (see (at_mark seen m))
    (set had m.cell m.upto) = (look, (refl, refl)) in
    follows-less me seen had (looks cell see) (a_look m ∷ []) (see (at_mark seen m))
    (set had m.cell m.upto) f

-- what is behind a cut after looks at so many shards
record AreCut (names : List NameShards) (seen : List Log) (had : List ℕ) (src : ByteList)
    (shard left : ℕ) (cut result : List CutPart) : Type 0 where
  parts : List CutPart
  is : result ≡ cut ++ parts
  counted : length parts ≡ left
  seen_so : AreSinceParts names seen had src shard parts

-- after looks at shards, one after another
shards-cut : (me : ℕ) (seen : List Log) (had : List ℕ) (names : List NameShards) (src : ByteList)
    (shard left : ℕ) (cut result : List CutPart) (accesses : List Access) (end : List ℕ)
    → Follows me seen had (cut_shards names src shard left cut) accesses (ends result) end
    → AreCut names seen had src shard left cut result
shards-cut me seen had names src shard zero cut result accesses end f = record {
  parts = [];
  is = ended-of me seen had cut accesses result end f ∙ sym (append-nil cut);
  counted = refl;
  seen_so = tt;
}
shards-cut me seen had names src shard (suc left) cut result accesses end f =
    let cell = cell_of names src shard in
    let see : Log → Course (List CutPart) = λ log.
    cut_shards names src (shard + 1) left
    (cut ++ part_of src shard (history_in log) ∷ []) in
    let l = looked-of me seen had cell see accesses result end f in
    let part = part_of src shard (history_in (at_mark seen l.mark)) in
    let now = set had l.mark.cell l.mark.upto in
    let rest = shards-cut me seen now names src (shard + 1) left (cut ++ part ∷ []) result l.later
    end l.went_on in
    record {
      parts = part ∷ rest.parts;
      is = rest.is ∙ append_assoc cut (part ∷ []) rest.parts;
      counted = ap suc rest.counted;
      seen_so = (
        record {
          upto = l.mark.upto;
          since = l.look.since;
          within = l.look.within;
          is = ap (λ c. part_of src shard (history_in (take l.mark.upto (get_or seen c []))))
              l.look.cell_is;
        },
        since-less names seen had now src (shard + 1) rest.parts
            (look-less me seen had cell l.mark l.look) rest.seen_so,
      );
    }

-- the cut has a part for each shard of the source, which shows at least so many entries
pub record IsSinceCut (names : List NameShards) (seen : List Log) (had : List ℕ) (src : ByteList)
    (cut : List CutPart) : Type 0 where
  pub counted : length cut ≡ shards_of names src
  pub parts : AreSinceParts names seen had src 0 cut

-- after a cut of the source
since-cut : (me : ℕ) (seen : List Log) (had : List ℕ) (names : List NameShards) (src : ByteList)
    (cut : List CutPart) (accesses : List Access) (end : List ℕ)
    → Follows me seen had (source_course names src) accesses (ends cut) end
    → IsSinceCut names seen had src cut
since-cut me seen had names src cut accesses end f =
    let n = shards_of names src in
    let p = parted-of me seen had (cut_shards names src 0 n []) (λ cut. cut_course names cut [])
    accesses cut end f in
    let all = shards-cut me seen had names src 0 n [] p.answer p.first p.mid p.began in
    let same : cut ≡ p.answer = ended-of me seen p.mid p.answer p.last cut end p.went_on in
    let is : cut ≡ all.parts = same ∙ all.is in
    record {
      counted = ap length is ∙ all.counted;
      parts = subst (AreSinceParts names seen had src 0) (sym is) all.seen_so;
    }

-- a topic that begins at a number is bound from there
begun-at : (me : ℕ) (seen : List Log) (had : List ℕ) (names : List NameShards) (t : Asked)
    (before : List ℕ) (accesses : List Access) (end : List ℕ)
    → Follows me seen had (begin_course names t) accesses (ends (Ok before)) end
    → (init : List ℕ) × IsBegun names seen t.key (binding_for t init) before
begun-at me seen had names t before accesses end f =
    let p = parted-of me seen had (topic_state_course names t.key)
    (λ state. and_then (init_course names t.src t.init state) (λ init.
    bind_course names t.key (binding_for t init))) accesses (Ok before) end f in
    let q = parted-of me seen p.mid (init_course names t.src t.init p.answer)
    (λ init. bind_course names t.key (binding_for t init)) p.last (Ok before) end p.went_on in (
      q.answer,
      begun-of me seen q.mid names t.key (binding_for t q.answer) before q.last end q.went_on,
    )

-- what a run of a topic saw
pub record IsSeenRun (names : List NameShards) (old new : Writer) (t : Asked) (run : TopicRun)
    : Type 0 where
  pub before : List ℕ
  pub init : List ℕ
  pub begun : IsBegun names new.seen t.key (binding_for t init) before
  pub cut : IsSinceCut names new.seen (counts old.seen) t.src run.cut

module _ (l : Layout) (t : Asked) (dest : ByteList)
    (batches : List ℕ → List CutPart → List (List BatchItem)) where
  -- what follows a cut
  abbrev Follow : List ℕ → List CutPart → Course (Result TopicRun TopicFault)
  Follow =
      cut_then_store l.names t
      (λ before cut. sends_course l dest t.src none_sunk (batches before cut)) run_of

  -- it tells this cut
  abbrev Tells : List CutPart → Result TopicRun TopicFault → Type 0
  Tells cut r = IfOk r (λ run. run.cut ≡ cut)

  follow-tells : (before : List ℕ) (cut : List CutPart) → EndsIn (Tells cut) (Follow before cut)
  follow-tells before cut =
      ends-then (Tells cut) (sends_course l dest t.src none_sunk (batches before cut))
      (unless_refused (λ a. and_ok (store_course l.names t.key (tops_of cut)) (λ _.
      ends (Ok (run_of before cut a))))) sent
    where
      stored : (a : Sunk) (r : Result (Unit {0}) TopicFault)
          → EndsIn (Tells cut) (unless_refused (λ _. ends (Ok (run_of before cut a))) r)
      stored a (Ok u) = refl
      stored a (Err e) = tt

      sent : (r : Result Sunk TopicFault) → EndsIn (Tells cut)
          (unless_refused (λ a. and_ok (store_course l.names t.key (tops_of cut)) (λ _.
          ends (Ok (run_of before cut a)))) r)
      sent (Ok a) =
          ends-then (Tells cut) (store_course l.names t.key (tops_of cut))
          (unless_refused (λ _. ends (Ok (run_of before cut a)))) (stored a)
      sent (Err e) = tt

  -- where it was followed to what it tells
  pub run-seen : (old new : Writer) (run : TopicRun)
      → Answers old new (run_course l t dest batches run_of) (Ok run)
      → IsSeenRun l.names old new t run
  run-seen old new run r = go p.answer p.began p.went_on
    where
      had : List ℕ
      had = counts old.seen

      end : List ℕ
      end = counts new.seen

      p : Parted old.me new.seen had (begin_course l.names t)
          (bound_then l.names t (stopped_by none_sunk) Follow) (Ok run) end
      p = parted-of old.me new.seen had (begin_course l.names t)
          (bound_then l.names t (stopped_by none_sunk) Follow) r.accesses (Ok run) end r.followed

      go : (b : Result (List ℕ) SiteFault)
          → Follows old.me new.seen had (begin_course l.names t) p.first (ends b) p.mid
          → Follows old.me new.seen p.mid (bound_then l.names t (stopped_by none_sunk) Follow b)
          p.last (ends (Ok run)) end
          → IsSeenRun l.names old new t run
      go (Err fault) b w =
          let bad : Ok run ≡ Err (stopped_by none_sunk fault) =
          ended-of old.me new.seen p.mid (Err (stopped_by none_sunk fault)) p.last (Ok run) end w in
          absurd (cc)
      go (Ok before) b w =
          let q = parted-of old.me new.seen p.mid (source_course l.names t.src)
          (λ cut. Follow before cut) p.last (Ok run) end w in
          let begun = begun-at old.me new.seen had l.names t before p.first p.mid b in
          let cut = since-cut old.me new.seen p.mid l.names t.src q.answer q.first q.mid q.began in
          let told : run.cut ≡ q.answer =
          ended-in (Tells q.answer) old.me new.seen q.mid (Follow before q.answer) q.last (Ok run)
          end (follow-tells before q.answer) q.went_on in
          let less = follows-less old.me new.seen had (begin_course l.names t) p.first
          (ends (Ok before)) p.mid b in
          record {
            before = before;
            init = begun.0;
            begun = begun.1;
            cut = subst (IsSinceCut l.names new.seen had t.src) (sym told) (record {
              counted = cut.counted;
              parts = since-less l.names new.seen had p.mid t.src 0 q.answer less cut.parts;
            });
          }

-- the top of a part is that of the entries which it shows
pub record IsSinceTop (names : List NameShards) (seen : List Log) (had : List ℕ) (src : ByteList)
    (shard reached : ℕ) : Type 0 where
  pub upto : ℕ
  pub since : get_or had (cell_of names src shard) 0 ≤ upto
  pub within : upto ≤ length (get_or seen (cell_of names src shard) [])
  pub is : reached ≡ top (history_in (take upto (get_or seen (cell_of names src shard) [])))

tops-since : (names : List NameShards) (seen : List Log) (had : List ℕ) (src : ByteList)
    (first k : ℕ) (ps : List CutPart) → AreSinceParts names seen had src first ps → k < length ps
    → IsSinceTop names seen had src (first + k) (slice_index (tops_of ps) k)
tops-since names seen had src first k [] a lt = absurd (omega arith)
tops-since names seen had src first zero (p ∷ ps) a lt =
    let e : first + 0 ≡ first = omega arith in
    subst (λ s. IsSinceTop names seen had src s p.snapshot.top) (sym e) (record {
      upto = a.0.upto;
      since = a.0.since;
      within = a.0.within;
      is = ap (λ (x : CutPart). x.snapshot.top) a.0.is;
    })
tops-since names seen had src first (suc k) (p ∷ ps) a lt =
    let e : (first + 1) + k ≡ first + suc k = omega arith in
    subst (λ s. IsSinceTop names seen had src s (slice_index (tops_of ps) k)) e
    (tops-since names seen had src (first + 1) k ps a.1 (omega arith))

-- so are the tops of a cut
pub top-since : (names : List NameShards) (seen : List Log) (had : List ℕ) (src : ByteList)
    (cut : List CutPart) (shard : ℕ) → IsSinceCut names seen had src cut
    → shard < shards_of names src
    → IsSinceTop names seen had src shard (slice_index (tops_of cut) shard)
top-since names seen had src cut shard c lt =
    let e : 0 + shard ≡ shard = omega arith in
    let counted = c.counted in
    subst (λ s. IsSinceTop names seen had src s (slice_index (tops_of cut) shard)) e
    (tops-since names seen had src 0 shard cut c.parts (omega (arith, counted, lt)))
