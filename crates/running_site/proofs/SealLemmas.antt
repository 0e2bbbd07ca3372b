-- A pass that appended in its turn.
use Rattle.std.proofs.Common.{◌≡◌, cond, inl, inr, slice_index, ℕ, ◌+◌, ◌<◌, true, List, [], ◌∷◌, ◌++◌, length, map, set, refl, sym, ap, ◌∙◌, subst, arith, length-append, length-set}
use Rattle.std.specs.Prelude.{IfErr, IfSome, OnOk, Option, Some, None, Result, Ok, Err, is_some, slice_get}
use Rattle.std.specs.List.{AllByRecursion}
use Rattle.std.proofs.lemmas.List.{get_or-set_other, length-map}
use Rattle.tuple_values.specs.declared.names.NameShards.{NameShards}
use Rattle.shard_versions.specs.declared.cut.CutMark.{CutMark}
use Rattle.shard_versions.specs.declared.cut.OwnMark.{OwnMark}
use Rattle.shard_versions.specs.declared.entry.Entry.{Entry}
use Rattle.topic_book.specs.Cells.{cells_in}
use Rattle.topic_book.specs.Fitness.{IsFitEntry}
use Rattle.topic_book.specs.declared.topic.BookEntry.{BookEntry}
use Rattle.topic_book.specs.declared.topic.BookEntry.TheVariants as book
use Rattle.exchange_rules.specs.Cells.{Log, Payload, book_in, payload_of, signed, write}
use Rattle.exchange_rules.specs.Primitives.{broken_at, made}
use Rattle.exchange_rules.specs.Steps.{kinds_of}
use Rattle.exchange_rules.specs.declared.log_entry.LogEntry.{LogEntry}
use Rattle.exchange_rules.specs.declared.log_entry.LogEntry.TheVariants as logged
use Rattle.exchange_rules.proofs.StepLemmas.{log_of-signed}
use Rattle.site_laws.specs.Duties.{MayAppendEntry}
use Rattle.site_laws.specs.Looks.{last_seen}
use Rattle.site_laws.specs.Sealings.{entries_of, MayAppend}
use Rattle.site_laws.specs.declared.cell_about.CellAbout.{CellAbout}
use Rattle.site_laws.specs.declared.sealing.Sealing.{Sealing}
use Rattle.site_laws.specs.declared.sealing.Sealing.TheVariants as sealing
use Rattle.site_laws.proofs.CellLemmas.{book-append}
use Rattle.stream_site.proofs.TopicLemmas.{entry_fit}
use Rattle.turn_table.specs.Calls as turns
use Rattle.turn_table.specs.Calls.{turn_about, turn_history}
use Rattle.turn_table.specs.Histories.{at}
use Rattle.turn_table.specs.Knowledge.{hand, has_risen, noted, sealed}
use Rattle.turn_table.specs.declared.knowledge.Known.{Known}
use Rattle.turn_table.specs.declared.turn.Turn.{Turn}
use Rattle.logged_cells.specs.Cells.{about_in, log_of_cell}
use Rattle.site_cells.specs.Values.{CanReserve, IsOverLimit, IsRefused}
use Rattle.site_cells.specs.declared.cell_refusal.CellRefusal.TheVariants.{OutOfMemory, ShardFull}
use Rattle.site_cells.specs.declared.cell_value.CellValue.{CellValue}
use Rattle.site_cells.specs.declared.cell_value.CellValue.TheVariants as value
use Rattle.logged_cells.specs.declared.logged_cell.LoggedCell.{LoggedCell}
use Rattle.running_site.specs.Passes.{sight_in, writer_in, IsKnowing}
use Rattle.running_site.specs.Seals.{broken_once, made_by, writes_of, IsSealed, IsUnsealedIn, LeavesWriter}
use Rattle.running_site.specs.declared.refusal.SealRefusal.{SealRefusal}
use Rattle.running_site.specs.declared.refusal.SealRefusal.TheVariants.{NoRoom, Broken}
use Rattle.running_site.specs.Visits.{AreCounted, IsTurn, IsVisit}
use Rattle.running_site.proofs.FitLemmas.{sealed-fit}
use Rattle.running_site.proofs.KnownLemmas.{are-were, one_more_is, seen-more, were-are}
use Rattle.running_site.proofs.SignedLemmas.{sealed-signed}
use Rattle.running_site.proofs.TopicLemmas.{counted-more}
use Rattle.running_site.proofs.ValueLemmas.{step-by}

-- what holds of each value that is there
pub if-there : {C : Type 0} (P : C → Type 0) (o : Option C) → ((y : C) → o ≡ Some y → P y)
    → IfSome o P
if-there P None f = tt
if-there P (Some y) f = f y refl

-- what holds of a value holds of what follows from it
pub if-also : {C : Type 0} (P Q : C → Type 0) (o : Option C)
    → ((y : C) → o ≡ Some y → P y → Q y) → IfSome o P → IfSome o Q
if-also P Q None f h = tt
if-also P Q (Some y) f h = f y refl h

-- the value that is there
pub from-there : {C : Type 0} (P : C → Type 0) (o : Option C) (y : C) → o ≡ Some y → IfSome o P
    → P y
from-there P o y e h = subst (λ x. IfSome x P) e h

-- where a value is there, what holds of it holds
pub of-there : {C : Type 0} (P : C → Type 0) (Q : Type 0) (o : Option C) → is_some o ≡ true
    → ((y : C) → o ≡ Some y → P y → Q) → IfSome o P → Q
of-there P Q None some f h = absurd (cc)
of-there P Q (Some y) some f h = f y refl h

-- a shard is full of what passes its limit
pub over-refused : (v : CellValue) (x : Sealing) → IsOverLimit v x → IsRefused v x ShardFull
over-refused (value.Shard s) (sealing.Shard step) over = over
over-refused (value.Shard s) (sealing.Book e) over = absurd over
over-refused (value.Book b) (sealing.Shard step) over = absurd over
over-refused (value.Book b) (sealing.Book e) over = absurd over

-- memory may be wanting for whatever doesn't pass it
pub memory-refused : (v : CellValue) (x : Sealing) → CanReserve v x → ¬ IsOverLimit v x
    → IsRefused v x OutOfMemory
memory-refused (value.Shard s) (sealing.Shard step) can under = under
memory-refused (value.Shard s) (sealing.Book e) can under = can
memory-refused (value.Book b) (sealing.Shard step) can under = can
memory-refused (value.Book b) (sealing.Book (book.Bind by key c)) can under = tt
memory-refused (value.Book b) (sealing.Book (book.Store by key upto)) can under = refl

module _ {D : Type 0} where
  -- a turn with another value of the same log
  pub turned-visit : (names : List NameShards) (limit : ℕ) (k : Known CellAbout LogEntry)
      (t u : Turn (LoggedCell D)) → IsVisit names limit k (Some t) → u.cell ≡ t.cell
      → turn_history log_of_cell u ≡ turn_history log_of_cell t
      → turn_about about_in u ≡ turn_about about_in t → IsVisit names limit k (Some u)
  turned-visit names limit k t u v cell log about =
      let x = v.holding t refl in
      let turn : IsTurn names k u = record {
        within = subst (λ n. n < length k.seen) (sym cell) x.within;
        in_hand = ap (hand k) cell ∙ (x.in_hand ∙ ap Some (sym log));
        others = λ c apart. x.others c (λ e. apart (e ∙ sym cell));
        whole = ap (at k.seen) cell ∙ (x.whole ∙ sym log);
        suits = about ∙ (x.suits ∙ ap (slice_get k.about) (sym cell));
        topics = λ is. subst (λ l. AreCounted names (book_in l)) (sym log)
            (x.topics (sym cell ∙ is));
      } in
      record {
        knowing = v.knowing;
        idle = λ e. absurd (cc);
        holding = λ w e. let same : u ≡ w = cc in subst (IsTurn names k) same turn;
      }

  -- the pass that noted a fault of the cell's disk has its turn still
  pub broken-visit : (names : List NameShards) (limit : ℕ) (k k2 : Known CellAbout LogEntry)
      (cell : ℕ) (o : Option (Turn (LoggedCell D))) → k2 ≡ broken_once cell k → IsVisit names limit k o
      → IsVisit names limit k2 o
  broken-visit names limit k k2 cell o is v = subst (λ x. IsVisit names limit x o) (sym is) (record {
    knowing = record {
      about = v.knowing.about;
      begun = v.knowing.begun;
      listed = v.knowing.listed;
      signed = v.knowing.signed;
      since = v.knowing.since;
      fit = v.knowing.fit;
    };
    idle = v.idle;
    holding = λ t e.
        let x = v.holding t e in
        record {
          within = x.within;
          in_hand = x.in_hand;
          others = x.others;
          whole = x.whole;
          suits = x.suits;
          topics = x.topics;
        };
  })

-- what was noted is one fault more
pub noted-once : (cell word faults : ℕ) (k : Known CellAbout LogEntry) → has_risen word faults ≡ true
    → noted cell word faults k ≡ broken_once cell k
noted-once cell word faults k risen =
    ap (λ b. record k {
      broke = set k.broke cell (slice_index k.broke cell + cond b 1 0);
    }) risen

-- a writer whose pass noted a fault
pub broken-writer : (k : Known CellAbout LogEntry) (marks : List CutMark) (own : List OwnMark)
    (cell : ℕ) → cell < length k.broke
    → writer_in (broken_once cell k) marks own ≡ broken_at (writer_in k marks own) cell
broken-writer k marks own cell lt = λ i. record {
  me = k.number;
  seen = k.seen;
  marks = marks;
  own = own;
  looks = k.looks;
  faults = record { barred = k.barred; broke = one_more_is cell k.broke lt i };
}

-- the book's entries in what may be appended are on the collections
topics-more : (names : List NameShards) (me : ℕ) (seen : List Log) (cell : ℕ) (x : Sealing)
    → MayAppend names me seen cell x → cell ≡ cells_in names
    → AllByRecursion (IsFitEntry names) (book_in (entries_of x))
topics-more names me seen cell (sealing.Shard step) may is =
    let lt = may.0 in absurd (omega (arith, lt, is))
topics-more names me seen cell (sealing.Book e) may is = (entry_fit names seen me e may.1, tt)

module _ {D : Type 0} (names : List NameShards) (limit : ℕ) (k k2 : Known CellAbout LogEntry)
    (t u : Turn (LoggedCell D)) (x : Sealing) (v : IsVisit names limit k (Some t))
    (cell : ℕ) (here : t.cell ≡ cell) (same : u.cell ≡ t.cell)
    (grown : turn_history log_of_cell u ≡ turn_history log_of_cell t ++ entries_of x)
    (after : k2 ≡ sealed t.cell (turn_history log_of_cell u) k) where
  abbrev old : IsTurn names k t
  old = v.holding t refl

  abbrev now : Log
  now = at k.seen cell ++ entries_of x

  -- what the pass has seen then
  seen-now : turn_history log_of_cell u ≡ now
  seen-now =
      grown ∙ ap (λ l. l ++ entries_of x) (sym old.whole ∙ ap (at k.seen) here)

  known-is : k2 ≡ sealed cell now k
  known-is = after ∙ (λ i. sealed (here i) (seen-now i) k)

  -- the sealing is appended, with its mark
  pub is-sealed : (from count : ℕ) (own more : List OwnMark)
      → from ≡ length (turn_history log_of_cell t)
      → from + count ≡ length (turn_history log_of_cell u)
      → more ≡ own ++ record { cell = cell; from = from; count = count } ∷ []
      → IsSealed k k2 own more cell x
  is-sealed from count own more start end marked =
      let long = ap length grown in
      let both = length-append (turn_history log_of_cell t) (entries_of x) in
      let from_is : from ≡ length (at k.seen cell) =
      start ∙ ap length (sym old.whole ∙ ap (at k.seen) here) in
      let count_is : count ≡ length (entries_of x) = omega (arith, start, end, long, both) in
      record {
        known_is = known-is;
        mark = marked
            ∙ (λ i. own ++ record { cell = cell; from = from_is i; count = count_is i } ∷ []);
      }

  -- the pass has its turn still
  pub sealed-visit : MayAppend names k.number k.seen cell x
      → hand k2 u.cell ≡ Some (turn_history log_of_cell u)
      → at k2.seen u.cell ≡ turn_history log_of_cell u
      → turn_about about_in u ≡ turn_about about_in t → IsVisit names limit k2 (Some u)
  sealed-visit may holds whole about =
      let within = old.within in
      let lt : cell < length k.seen = subst (λ n. n < length k.seen) here within in
      let longer : length k2.seen ≡ length k.seen =
      ap (λ (z : Known CellAbout LogEntry). length z.seen) known-is
      ∙ length-set k.seen cell now in
      let knowing : IsKnowing names limit (sealed cell now k) = record {
        about = v.knowing.about;
        begun = v.knowing.begun;
        listed = v.knowing.listed;
        signed = sealed-signed names k.numbers k.number k.seen cell x v.knowing.listed
            v.knowing.signed may lt;
        since = λ c looked.
            are-were (last_seen (sight_in k) c) (set k.seen cell now)
            (seen-more (last_seen (sight_in k) c) k.seen cell (entries_of x) lt
            (were-are (last_seen (sight_in k) c) k.seen (v.knowing.since c looked)));
        fit = sealed-fit names k.number k.seen cell x v.knowing.fit may lt;
      } in
      let turn : IsTurn names k2 u = record {
        within = omega (arith, longer, within, same);
        in_hand = holds;
        others = λ c apart.
            ap (λ (z : Known CellAbout LogEntry). hand z c) after
            ∙ (get_or-set_other k.hand t.cell c (Some (turn_history log_of_cell u)) None
            (λ e. apart (e ∙ sym same))
            ∙ old.others c (λ e. apart (e ∙ sym same)));
        whole = whole;
        suits = about ∙ (old.suits ∙ (λ i. slice_get (about-back i) (sym same i)));
        topics = λ is.
            let at_book : t.cell ≡ cells_in names = sym same ∙ is in
            subst (λ l. AreCounted names (book_in l)) (sym grown)
            (subst (AreCounted names)
            (sym (book-append (turn_history log_of_cell t) (entries_of x)))
            (counted-more names (book_in (turn_history log_of_cell t))
            (book_in (entries_of x)) (old.topics at_book)
            (topics-more names k.number k.seen cell x may (sym here ∙ at_book))));
      } in
      record {
        knowing = subst (IsKnowing names limit) (sym known-is) knowing;
        idle = λ e. absurd (cc);
        holding = λ w e. let one : u ≡ w = cc in subst (IsTurn names k2) one turn;
      }
    where
      about-back : k.about ≡ k2.about
      about-back = ap (λ (z : Known CellAbout LogEntry). z.about)
          (sym after)

-- the writer after a sealing of these payloads
pub sealed-made : (k k2 : Known CellAbout LogEntry) (marks : List CutMark)
    (own more : List OwnMark) (cell : ℕ) (x : Sealing) (payloads : List Payload)
    → IsSealed k k2 own more cell x → entries_of x ≡ signed k.number payloads
    → writer_in k2 marks more ≡ made (writer_in k marks own) cell payloads
sealed-made k k2 marks own more cell x payloads s e =
    let size : length (signed k.number payloads) ≡ length payloads = simp length-map in
    let count : length (entries_of x) ≡ length payloads = ap length e ∙ size in
    (λ i. writer_in (s.known_is i) marks (s.mark i))
    ∙ (λ i. record {
      me = k.number;
      seen = set k.seen cell (at k.seen cell ++ e i);
      marks = marks;
      own = own ++ record {
        cell = cell;
        from = length (at k.seen cell);
        count = count i;
      } ∷ [];
      looks = k.looks;
      faults = record { barred = k.barred; broke = k.broke };
    })

-- a pass that kept its turn has sealed what it had
pub sealed-as : {A : Type 0} (r : Result A SealRefusal) (k mid k2 : Known CellAbout LogEntry)
    (own more : List OwnMark) (cell : ℕ) (x : Sealing) → OnOk r (k2 ≡ mid)
    → OnOk r (IsSealed k mid own more cell x) → OnOk r (IsSealed k k2 own more cell x)
sealed-as (Ok a) k mid k2 own more cell x same s =
    subst (λ z. IsSealed k z own more cell x) (sym same) s
sealed-as (Err f) k mid k2 own more cell x same s = tt

-- a sealing whose log failed, as what the writer is then
pub unsealed-writer : {D : Type 0} (t u : Turn (LoggedCell D)) (k k2 : Known CellAbout LogEntry)
    (marks marks2 : List CutMark) (own more : List OwnMark) (cell : ℕ) (x : Sealing)
    (r : SealRefusal) → marks2 ≡ marks → cell < length k.broke
    → IsUnsealedIn t u k k2 own more cell x r
    → LeavesWriter (writer_in k marks own) (made_by k marks own cell x) cell (writes_of x)
    (writer_in k2 marks2 more) r
unsealed-writer t u k k2 marks marks2 own more cell x (NoRoom f) m lt is =
    λ i. writer_in (is.1 i) (m i) (is.2 i)
unsealed-writer t u k k2 marks marks2 own more cell x (Broken n) m lt (inl none) =
    inl (none.0, (λ i. writer_in (none.1 i) (m i) (none.2 i)) ∙ broken-writer k marks own cell lt)
unsealed-writer t u k k2 marks marks2 own more cell x (Broken n) m lt (inr all) =
    inr (
      all.0,
      (λ i. writer_in (all.1.known_is i) (m i) (all.1.mark i))
          ∙ broken-writer (sealed cell (at k.seen cell ++ entries_of x) k) marks
          (own ++ record {
            cell = cell;
            from = length (at k.seen cell);
            count = length (entries_of x);
          } ∷ []) cell lt,
    )

pub unsealed-writers : {D A : Type 0} (t u : Turn (LoggedCell D)) (k k2 : Known CellAbout LogEntry)
    (marks marks2 : List CutMark) (own more : List OwnMark) (cell : ℕ) (x : Sealing)
    (r : Result A SealRefusal) → marks2 ≡ marks → cell < length k.broke
    → IfErr r (IsUnsealedIn t u k k2 own more cell x)
    → IfErr r (LeavesWriter (writer_in k marks own) (made_by k marks own cell x) cell (writes_of x)
    (writer_in k2 marks2 more))
unsealed-writers t u k k2 marks marks2 own more cell x (Ok a) m lt is = tt
unsealed-writers t u k k2 marks marks2 own more cell x (Err f) m lt is =
    unsealed-writer t u k k2 marks marks2 own more cell x f m lt is

-- what a pass that sealed is, as what its writer made
pub made_by-made : (k : Known CellAbout LogEntry) (marks : List CutMark) (own : List OwnMark)
    (cell : ℕ) (x : Sealing) (payloads : List Payload) → entries_of x ≡ signed k.number payloads
    → made_by k marks own cell x ≡ made (writer_in k marks own) cell payloads
made_by-made k marks own cell x payloads e =
    sealed-made k (sealed cell (at k.seen cell ++ entries_of x) k) marks own _ cell x payloads
    (record { known_is = refl; mark = refl }) e

-- the writer where nothing has changed
pub writer-same : (k k2 : Known CellAbout LogEntry) (marks marks2 : List CutMark)
    (own own2 : List OwnMark) → k2 ≡ k → marks2 ≡ marks → own2 ≡ own
    → writer_in k2 marks2 own2 ≡ writer_in k marks own
writer-same k k2 marks marks2 own own2 e f g = λ i. writer_in (e i) (f i) (g i)

-- the payloads of a step
pub step-signed : (names : List NameShards) (me : ℕ) (seen : List Log) (cell : ℕ)
    (step : List Entry) → MayAppend names me seen cell (sealing.Shard step)
    → entries_of (sealing.Shard step) ≡ signed me (map write (kinds_of step))
step-signed names me seen cell step may =
    log_of-signed me step (step-by names me seen cell step may)

-- and of an entry of the book
pub entry-signed : (names : List NameShards) (me : ℕ) (seen : List Log) (e : BookEntry)
    → MayAppendEntry names me seen e
    → entries_of (sealing.Book e) ≡ signed me (payload_of e ∷ [])
entry-signed names me seen (book.Bind by key b) may =
    ap (λ n. logged.Book (book.Bind n key b) ∷ []) may.0
entry-signed names me seen (book.Store by key upto) may =
    ap (λ n. logged.Book (book.Store n key upto) ∷ []) may.0

module _ {D : Type 0} where
  -- the log of the value in a turn
  pub log-there : (t : Turn (LoggedCell D)) (y : LoggedCell D) → t.value ≡ Some y
      → log_of_cell y ≡ turn_history log_of_cell t
  log-there t y there = ap (turns.history_in log_of_cell) (sym there)
