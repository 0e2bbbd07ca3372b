-- What was delivered stands in what was seen of the destination.
use Rattle.std.proofs.Common.{◌≡◌, ℕ, zero, suc, ◌+◌, ◌-◌, ◌<◌, ◌≤◌, ◌&&◌, Bool, true, false, cond, ltb, List, [], ◌∷◌, ◌++◌, length, get_or, set, drop, map, bytes_eq, eq-eqb, refl, sym, ap, ◌∙◌, subst, arith, append_assoc, append-nil, Result, Ok, Err, inl, inr}
use Rattle.std.specs.Prelude.{filter, if◌then◌else◌}
use Rattle.std.specs.List.{AllByRecursion}
use Rattle.std.proofs.lemmas.Bool.{cases_eq, ltb-false}
use Rattle.std.proofs.lemmas.List.{map-append}
use Rattle.std.proofs.lemmas.Slice.Eq.{bytes_eq-Decides}
use Rattle.tuple_values.specs.Document.{ByteList}
use Rattle.tuple_values.specs.Keys.{shard_of}
use Rattle.tuple_values.specs.declared.names.NameShards.{NameShards}
use Rattle.shard_versions.specs.Deliveries.{Reaches, admits_kind, admits, admitted, are_below, sent_version, sents}
use Rattle.shard_versions.specs.Documents.{id_of}
use Rattle.shard_versions.specs.Fitness.{is_routed}
use Rattle.shard_versions.specs.Histories.{History}
use Rattle.shard_versions.specs.declared.entry.Entry.{Entry}
use Rattle.shard_versions.specs.declared.entry.Kind.{Kind}
use Rattle.shard_versions.specs.declared.entry.Kind.TheVariants.{Put, Del, Sent, Mark}
use Rattle.shard_versions.specs.declared.cut.CutMark.{CutMark}
use Rattle.shard_versions.specs.declared.cut.OwnMark.{OwnMark}
use Rattle.shard_versions.proofs.DeliveryLemmas.{reaches-grows, sents-append}
use Rattle.shard_versions.proofs.ListLemmas.{each_weaker}
use Rattle.topic_book.specs.Cells.{cell_of, cells_in}
use Rattle.topic_book.specs.Fitness.{shards_of}
use Rattle.once_core.specs.Cells.{shard_history}
use Rattle.exchange_rules.specs.Accesses.{Access, at_mark, IsLook, IsOwn}
use Rattle.exchange_rules.specs.Cells.{Log, history_in, signed, write}
use Rattle.exchange_rules.specs.Courses.{Course, ends, makes, unless_refused}
use Rattle.exchange_rules.specs.Deliveries.{admitted_kinds, deliver_course, send_admitted, send_at, send_course, send_shards, send_step, sent_kind, sent_kinds, sent_share}
use Rattle.exchange_rules.specs.Following.{Follows}
use Rattle.exchange_rules.specs.Rows.{Layout}
use Rattle.exchange_rules.specs.Steps.{closed, entries_by, fitting, is_full, kinds_of}
use Rattle.exchange_rules.specs.declared.batch.BatchItem.{BatchItem}
use Rattle.exchange_rules.specs.declared.batch.Sent.{Sent as SentCount}
use Rattle.exchange_rules.specs.declared.fault.SiteFault.{SiteFault}
use Rattle.exchange_rules.specs.declared.fault.SiteFault.TheVariants.{ShardFull}
use Rattle.exchange_rules.proofs.CellLemmas.{cell_of-within}
use Rattle.exchange_rules.proofs.StepLemmas.{kinds_of-entries_by}
use Rattle.site_laws.specs.SiteCells.{histories_in}
use Rattle.site_laws.proofs.CellLemmas.{history-append, shard-at}
use Rattle.update_sink.specs.Given.{IsThereNow}
use Rattle.update_sink.proofs.PartLemmas.{Looked, Parted, ended-of, look-begins, looked-of, made-of, parted-of, step-behind}

-- versions of which one isn't below a number reach it
reached-not_below : (v : ℕ) (ws : List ℕ) → are_below v ws ≡ false → Reaches v ws
reached-not_below v [] e = absurd (cc)
reached-not_below v (w ∷ ws) e = go (ltb w v) refl e (reached-not_below v ws)
  where
    go : (b : Bool) → ltb w v ≡ b → (b && are_below v ws) ≡ false
        → (are_below v ws ≡ false → Reaches v ws) → Reaches v (w ∷ ws)
    go true is e more = inr (more e)
    go false is e more = inl (ltb-false w v is)

-- versions reach a number behind others
reaches-right : (v : ℕ) (xs ys : List ℕ) → Reaches v ys → Reaches v (xs ++ ys)
reaches-right v [] ys r = r
reaches-right v (x ∷ xs) ys r = inr (reaches-right v xs ys r)

-- where it is a delivery, this version or a later one was delivered
abbrev HasReached : History → Kind → Type 0
HasReached h (Put doc) = Unit {0}
HasReached h (Del id) = Unit {0}
HasReached h (Sent src version doc) = Reaches version (sents src (id_of doc) h)
HasReached h Mark = Unit {0}

-- histories of the same kinds deliver the same
sents-kinds : (src id : ByteList) (g h : History) → kinds_of g ≡ kinds_of h
    → sents src id g ≡ sents src id h
unfolding sents
sents-kinds src id [] [] e = refl
sents-kinds src id [] (y ∷ h) e = absurd (cc)
sents-kinds src id (x ∷ g) [] e = absurd (cc)
sents-kinds src id (x ∷ g) (y ∷ h) e =
    let first : x.kind ≡ y.kind = cc in
    let rest : kinds_of g ≡ kinds_of h = cc in
    ap (λ k. sent_version src id k ++ sents src id g) first
    ∙ ap (λ l. sent_version src id y.kind ++ l) (sents-kinds src id g h rest)

-- so they reach the same
reached-kinds : (g h : History) (k : Kind) → kinds_of g ≡ kinds_of h → HasReached g k
    → HasReached h k
reached-kinds g h (Put doc) e r = tt
reached-kinds g h (Del id) e r = tt
reached-kinds g h (Sent src v doc) e r =
    subst (Reaches v) (sents-kinds src (id_of doc) g h e) r
reached-kinds g h Mark e r = tt

-- what was reached stays so
reached-grows : (h more : History) (k : Kind) → HasReached h k → HasReached (h ++ more) k
reached-grows h more (Put doc) r = tt
reached-grows h more (Del id) r = tt
reached-grows h more (Sent src v doc) r = reaches-grows v src (id_of doc) h more r
reached-grows h more Mark r = tt

-- a delivery reaches its own version
reached-self : (h : History) (x : Entry) (k : Kind) (more : History) → x.kind ≡ k
    → HasReached (h ++ (x ∷ more)) k
unfolding sents
reached-self h x (Put doc) more e = tt
reached-self h x (Del id) more e = tt
reached-self h x Mark more e = tt
reached-self h x (Sent src v doc) more e =
    let i = id_of doc in
    let same : (bytes_eq src src && bytes_eq i i) ≡ true =
    ap (λ b. b && bytes_eq i i) ((bytes_eq-Decides src src).1 refl)
    ∙ (bytes_eq-Decides i i).1 refl in
    let here : sent_version src i x.kind ≡ v ∷ [] =
    ap (sent_version src i) e ∙ ap (λ b. if b then v ∷ [] else []) same in
    subst (Reaches v) (sym (sents-append src i h (x ∷ more)))
    (reaches-right v (sents src i h) (sent_version src i x.kind ++ sents src i more)
    (subst (λ l. Reaches v (l ++ sents src i more)) (sym here) (inl (omega arith))))

-- so does what a history doesn't admit
reached-refused : (h : History) (k : Kind) → admits_kind h k ≡ false → HasReached h k
unfolding admits
reached-refused h (Put doc) e = tt
reached-refused h (Del id) e = tt
reached-refused h (Sent src v doc) e = reached-not_below v (sents src (id_of doc) h) e
reached-refused h Mark e = tt

-- each of the entries is reached once those are behind that the history admits
admitted-reached : (h xs : List Entry)
    → AllByRecursion (λ (e : Entry). HasReached (h ++ admitted h xs) e.kind) xs
unfolding admitted
admitted-reached h [] = tt
admitted-reached h (x ∷ xs) =
    go (admits_kind h x.kind) refl (admitted-reached (h ++ x ∷ []) xs) (admitted-reached h xs)
  where
    go : (b : Bool) → admits_kind h x.kind ≡ b
        → AllByRecursion (λ (e : Entry).
        HasReached ((h ++ x ∷ []) ++ admitted (h ++ x ∷ []) xs) e.kind) xs
        → AllByRecursion (λ (e : Entry). HasReached (h ++ admitted h xs) e.kind) xs
        → AllByRecursion (λ (e : Entry).
        HasReached (h ++ cond b (x ∷ admitted (h ++ x ∷ []) xs) (admitted h xs)) e.kind) (x ∷ xs)
    go true e kept skipped =
        let more = admitted (h ++ x ∷ []) xs in (
          reached-self h x x.kind more refl,
          subst (λ l. AllByRecursion (λ (e : Entry). HasReached l e.kind) xs)
              (append_assoc h (x ∷ []) more) kept,
        )
    go false e kept skipped =
        (reached-grows h (admitted h xs) x.kind (reached-refused h x.kind e), skipped)

-- the same of kinds
kinds-reached : (h more : History) (ks : List Kind)
    → kinds_of more ≡ admitted_kinds h ks → AllByRecursion (HasReached (h ++ more)) ks
kinds-reached h more ks e = go ks (admitted-reached h (entries_by 0 ks))
  where
    all : kinds_of (h ++ admitted h (entries_by 0 ks)) ≡ kinds_of (h ++ more)
    all = map-append (λ (x : Entry). x.kind) h (admitted h (entries_by 0 ks))
        ∙ (ap (λ l. kinds_of h ++ l) (sym e) ∙ sym (map-append (λ (x : Entry). x.kind) h more))

    go : (rest : List Kind)
        → AllByRecursion (λ (x : Entry).
        HasReached (h ++ admitted h (entries_by 0 ks)) x.kind) (entries_by 0 rest)
        → AllByRecursion (HasReached (h ++ more)) rest
    go [] a = tt
    go (k ∷ rest) a =
        (reached-kinds (h ++ admitted h (entries_by 0 ks)) (h ++ more) k all a.0, go rest a.1)

-- the history of a step as its writer's entries
history-signed : (me : ℕ) (ks : List Kind)
    → history_in (signed me (map write ks)) ≡ entries_by me ks
history-signed me [] = refl
history-signed me (k ∷ ks) =
    ap (λ l. record { by = me; kind = k } ∷ l) (history-signed me ks)

-- what was reached by a history of the same front is reached by a longer one
each-grows : (h more : History) (ks : List Kind) → AllByRecursion (HasReached h) ks
    → AllByRecursion (HasReached (h ++ more)) ks
each-grows h more ks a =
    each_weaker (HasReached h) (HasReached (h ++ more)) (λ k r. reached-grows h more k r) ks a

module _ (me : ℕ) (seen : List Log) (cell limit : ℕ) (refusal : SiteFault) where
  -- the history that was seen of the cell
  abbrev there : History
  there = history_in (get_or seen cell [])

  -- where some are admitted, they are appended
  some-reached : (had : List ℕ) (m : CutMark) → IsLook me seen had cell m → (ks : List Kind)
      (k : Kind) (more : List Kind)
      → admitted_kinds (history_in (at_mark seen m)) ks ≡ k ∷ more
      → (accesses : List Access) (n : ℕ) (end : List ℕ)
      → Follows me seen (set had m.cell m.upto)
      (send_admitted limit cell refusal (history_in (at_mark seen m)) (k ∷ more)) accesses
      (ends (Ok n)) end
      → AllByRecursion (HasReached there) ks
  some-reached had m look ks k more e accesses n end f =
      go q.answer q.first q.began q.went_on
    where
      h : History
      h = history_in (at_mark seen m)

      step : List Kind
      step = closed true (k ∷ more)

      next : Unit {0} → Course (Result ℕ SiteFault)
      next done = ends (Ok (length (k ∷ more)))

      after : List ℕ
      after = set had m.cell m.upto

      q : Parted me seen after (fitting limit cell step refusal h) (unless_refused next) (Ok n) end
      q = parted-of me seen after (fitting limit cell step refusal h) (unless_refused next)
          accesses (Ok n) end f

      appended : (o : OwnMark) → IsOwn me seen after cell (map write step) o
          → AllByRecursion (HasReached there) ks
      appended o own =
          let behind = step-behind me seen had cell m look (map write step) o own in
          let rest = drop o.count (drop m.upto (get_or seen cell [])) in
          let new = entries_by me (k ∷ more) in
          let mark = entries_by me (Mark ∷ []) in
          let signed_so : history_in (signed me (map write step)) ≡ new ++ mark =
          history-signed me step
          ∙ map-append (λ (x : Kind). record { by = me; kind = x }) (k ∷ more) (Mark ∷ []) in
          let whole : there ≡ (h ++ new) ++ (mark ++ history_in rest) =
          ap history_in behind
          ∙ (history-append (at_mark seen m) (signed me (map write step) ++ rest)
          ∙ (ap (λ l. h ++ l) (history-append (signed me (map write step)) rest
          ∙ (ap (λ l. l ++ history_in rest) signed_so
          ∙ append_assoc new mark (history_in rest)))
          ∙ sym (append_assoc h new (mark ++ history_in rest)))) in
          subst (λ l. AllByRecursion (HasReached l) ks) (sym whole)
          (each-grows (h ++ new) (mark ++ history_in rest) ks
          (kinds-reached h new ks (kinds_of-entries_by me (k ∷ more) ∙ sym e)))

      fine : Result (Unit {0}) SiteFault
      fine = Ok tt

      fitted : Course (Result (Unit {0}) SiteFault)
      fitted = makes cell (map write step) (ends fine)

      full : (b : Bool) (first : List Access) (mid : List ℕ)
          → Follows me seen after (if b then ends (Err refusal) else fitted) first (ends fine) mid
          → AllByRecursion (HasReached there) ks
      full true first mid g =
          absurd (let e : fine ≡ Err refusal =
          ended-of me seen after (Err refusal) first fine mid g in cc)
      full false first mid g =
          let x = made-of me seen after cell (map write step) (ends fine) first fine mid g in
          appended x.mark x.own

      go : (r : Result (Unit {0}) SiteFault) (first : List Access)
          → Follows me seen after (fitting limit cell step refusal h) first (ends r) q.mid
          → Follows me seen q.mid (unless_refused next r) q.last (ends (Ok n)) end
          → AllByRecursion (HasReached there) ks
      go (Ok done) first g later = full (is_full limit h step) first q.mid g
      go (Err fault) first g later =
          absurd (let e : Ok n ≡ Err fault =
          ended-of me seen q.mid (Err fault) q.last (Ok n) end later in cc)

  -- each of the entries is reached where a delivery was answered
  deliver-reached : (had : List ℕ) (ks : List Kind) (accesses : List Access) (n : ℕ)
      (end : List ℕ)
      → Follows me seen had (deliver_course limit cell refusal ks) accesses (ends (Ok n)) end
      → AllByRecursion (HasReached there) ks
  deliver-reached had ks accesses n end f = go (admitted_kinds h ks) refl l.went_on
    where
      see : Log → Course (Result ℕ SiteFault)
      see log = send_admitted limit cell refusal (history_in log)
          (admitted_kinds (history_in log) ks)

      l : Looked me seen had cell see (Ok n) end
      l = looked-of me seen had cell see accesses (Ok n) end f

      h : History
      h = history_in (at_mark seen l.mark)

      rest : History
      rest = history_in (drop l.mark.upto (get_or seen cell []))

      go : (out : List Kind) → admitted_kinds h ks ≡ out
          → Follows me seen (set had l.mark.cell l.mark.upto)
          (send_admitted limit cell refusal h out) l.later (ends (Ok n)) end
          → AllByRecursion (HasReached there) ks
      go [] e g =
          let whole : there ≡ (h ++ []) ++ rest =
          ap history_in (look-begins me seen had cell l.mark l.look)
          ∙ (history-append (at_mark seen l.mark) (drop l.mark.upto (get_or seen cell []))
          ∙ ap (λ x. x ++ rest) (sym (append-nil h))) in
          subst (λ x. AllByRecursion (HasReached x) ks) (sym whole)
          (each-grows (h ++ []) rest ks (kinds-reached h [] ks (sym e)))
      go (k ∷ more) e g =
          some-reached had l.mark l.look ks k more e l.later n end g

  -- the same where there may be nothing to deliver
  step-reached : (had : List ℕ) (ks : List Kind) (accesses : List Access) (n : ℕ) (end : List ℕ)
      → Follows me seen had (send_step limit cell refusal ks) accesses (ends (Ok n)) end
      → AllByRecursion (HasReached there) ks
  step-reached had [] accesses n end f = tt
  step-reached had (k ∷ ks) accesses n end f =
      deliver-reached had (k ∷ ks) accesses n end f

-- so at each of so many shards
shards-reached : (me : ℕ) (seen : List Log) (had : List ℕ) (l : Layout) (dest : ByteList)
    (share : ℕ → List Kind) (admitted shard left : ℕ) (accesses : List Access) (n : ℕ)
    (end : List ℕ)
    → Follows me seen had (send_shards l dest share admitted shard left) accesses (ends (Ok n)) end
    → (s : ℕ) → shard ≤ s → s < shard + left
    → AllByRecursion (HasReached (history_in (get_or seen (cell_of l.names dest s) []))) (share s)
shards-reached me seen had l dest share admitted shard zero accesses n end f s le lt =
    absurd (omega arith)
shards-reached me seen had l dest share admitted shard (suc left) accesses n end f s le lt =
    go q.answer q.began q.went_on (λ more mid last later s le lt.
    shards-reached me seen mid l dest share (admitted + more) (shard + 1) left last n end later s
    le lt)
  where
    next : ℕ → Course (Result ℕ SiteFault)
    next more = send_shards l dest share (admitted + more) (shard + 1) left

    q : Parted me seen had (send_at l dest share admitted shard) (unless_refused next) (Ok n) end
    q = parted-of me seen had (send_at l dest share admitted shard) (unless_refused next)
        accesses (Ok n) end f

    go : (r : Result ℕ SiteFault)
        → Follows me seen had (send_at l dest share admitted shard) q.first (ends r) q.mid
        → Follows me seen q.mid (unless_refused next r) q.last (ends (Ok n)) end
        → ((more : ℕ) (mid : List ℕ) (last : List Access)
        → Follows me seen mid (next more) last (ends (Ok n)) end
        → (s : ℕ) → shard + 1 ≤ s → s < (shard + 1) + left
        → AllByRecursion (HasReached (history_in (get_or seen (cell_of l.names dest s) [])))
        (share s))
        → AllByRecursion (HasReached (history_in (get_or seen (cell_of l.names dest s) [])))
        (share s)
    go (Err fault) g later behind =
        absurd (let e : Ok n ≡ Err fault =
        ended-of me seen q.mid (Err fault) q.last (Ok n) end later in cc)
    go (Ok more) g later behind = elim (cases_eq s shard) [
      | inl same ↦
          subst (λ x.
          AllByRecursion (HasReached (history_in (get_or seen (cell_of l.names dest x) [])))
          (share x)) (sym same)
          (step-reached me seen (cell_of l.names dest shard) l.limit (ShardFull dest shard admitted)
          had (share shard) q.first more q.mid g)
      | inr apart ↦
          behind more q.mid q.last later s (omega arith) (omega arith)
    ]

-- what holds of those that pass of a longer list holds of those of a shorter one
filter-tail : {X : Type 0} (P : X → Type 0) (p : X → Bool) (x : X) (xs : List X)
    → AllByRecursion P (filter p (x ∷ xs)) → AllByRecursion P (filter p xs)
filter-tail P p x xs a = go (p x) a
  where
    go : (b : Bool) → AllByRecursion P (cond b (x ∷ filter p xs) (filter p xs))
        → AllByRecursion P (filter p xs)
    go true a = a.1
    go false a = a

-- and of its first, where that passes
filter-head : {X : Type 0} (P : X → Type 0) (p : X → Bool) (x : X) (xs : List X) → p x ≡ true
    → AllByRecursion P (filter p (x ∷ xs)) → P x
filter-head P p x xs e a =
    let here : AllByRecursion P (x ∷ filter p xs) =
    subst (λ b. AllByRecursion P (cond b (x ∷ filter p xs) (filter p xs))) e a in here.0

-- each item of a batch is there where its shares are
items-there : (names : List NameShards) (seen : List Log) (dest src : ByteList)
    (batch : List BatchItem) → 0 < shards_of names dest
    → ((s : ℕ) → s < shards_of names dest
    → AllByRecursion (HasReached (history_in (get_or seen (cell_of names dest s) [])))
    (sent_share src batch (shards_of names dest) s))
    → AllByRecursion (IsThereNow names seen dest src) batch
items-there names seen dest src [] some f = tt
items-there names seen dest src (i ∷ batch) some f =
    let n = shards_of names dest in
    let id = id_of i.document in
    let below : shard_of n id < n = omega arith in
    let routed : is_routed n (shard_of n id) (sent_kind src i) ≡ true =
    eq-eqb (shard_of n id) (shard_of n id) refl in
    let cell = cell_of names dest (shard_of n id) in
    let there : history_in (get_or seen cell [])
    ≡ shard_history names (histories_in names seen) dest (shard_of n id) =
    sym (shard-at (cells_in names) seen cell (cell_of-within names dest (shard_of n id) below)) in (
      subst (λ h. Reaches i.version (sents src id h)) there
          (filter-head (HasReached (history_in (get_or seen cell [])))
          (is_routed n (shard_of n id)) (sent_kind src i) (sent_kinds src batch) routed
          (f (shard_of n id) below)),
      items-there names seen dest src batch some
          (λ s lt. filter-tail (HasReached (history_in (get_or seen (cell_of names dest s) [])))
          (is_routed n s) (sent_kind src i) (sent_kinds src batch) (f s lt)),
    )

-- after a batch was delivered each of its items is there
pub sent-there : (me : ℕ) (seen : List Log) (had : List ℕ) (l : Layout) (dest src : ByteList)
    (batch : List BatchItem) (accesses : List Access) (sent : SentCount) (end : List ℕ)
    → 0 < shards_of l.names dest
    → Follows me seen had (send_course l dest src batch) accesses (ends (Ok sent)) end
    → AllByRecursion (IsThereNow l.names seen dest src) batch
sent-there me seen had l dest src batch accesses sent end some f = go q.answer q.began q.went_on
  where
    n : ℕ
    n = shards_of l.names dest

    share : ℕ → List Kind
    share = sent_share src batch n

    next : ℕ → Course (Result SentCount SiteFault)
    next k = ends (Ok (record { admitted = k; refused = length batch - k }))

    q : Parted me seen had (send_shards l dest share 0 0 n) (unless_refused next) (Ok sent) end
    q = parted-of me seen had (send_shards l dest share 0 0 n) (unless_refused next) accesses
        (Ok sent) end f

    go : (r : Result ℕ SiteFault)
        → Follows me seen had (send_shards l dest share 0 0 n) q.first (ends r) q.mid
        → Follows me seen q.mid (unless_refused next r) q.last (ends (Ok sent)) end
        → AllByRecursion (IsThereNow l.names seen dest src) batch
    go (Err fault) g later =
        absurd (let e : Ok sent ≡ Err fault =
        ended-of me seen q.mid (Err fault) q.last (Ok sent) end later in cc)
    go (Ok k) g later =
        items-there l.names seen dest src batch some (λ s lt.
        shards-reached me seen had l dest share 0 0 n q.first k q.mid g s (omega arith)
        (omega arith))
