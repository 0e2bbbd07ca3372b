-- What lies in the cell whose turn a pass has, by what the pass has seen of it.
use Rattle.std.proofs.Common.{◌≡◌, ◌↔◌, ℕ, ◌<◌, true, List, [], get_or, refl, sym, ap, ◌∙◌, subst, inl, inr}
use Rattle.std.specs.Prelude.{Some, option_map, slice_get}
use Rattle.std.specs.List.{AllByRecursion}
use Rattle.tuple_values.specs.declared.names.NameShards.{NameShards}
use Rattle.shard_versions.specs.Deliveries.{admitted}
use Rattle.shard_versions.specs.Fitness.{is_storable_kind, AreStorable}
use Rattle.shard_versions.specs.Shards.{Shard}
use Rattle.shard_versions.specs.declared.entry.Entry.{Entry}
use Rattle.shard_versions.proofs.DeliveryLemmas.{admitted-each, marked-each}
use Rattle.topic_book.specs.Cells.{cells_in}
use Rattle.topic_book.specs.States.{Kept}
use Rattle.exchange_rules.specs.Cells.{Log, book_in, history_in}
use Rattle.exchange_rules.specs.Steps.{AreBy}
use Rattle.exchange_rules.specs.declared.log_entry.LogEntry.{LogEntry}
use Rattle.exchange_rules.proofs.StepLemmas.{history_in-log_of}
use Rattle.site_laws.specs.Sealings.{MayAppend}
use Rattle.site_laws.specs.declared.cell_about.CellAbout.{CellAbout}
use Rattle.site_laws.specs.declared.sealing.Sealing.{Sealing}
use Rattle.site_laws.specs.declared.sealing.Sealing.TheVariants as sealing
use Rattle.site_laws.proofs.WriteLemmas.{fit-storable}
use Rattle.stream_site.proofs.ShardLemmas.{full_is}
use Rattle.turn_table.specs.Calls as turns
use Rattle.turn_table.specs.Histories.{at}
use Rattle.turn_table.specs.declared.knowledge.Known.{Known}
use Rattle.turn_table.specs.declared.turn.Turn.{Turn}
use Rattle.site_cells.specs.Cells.{abouts_of}
use Rattle.logged_cells.specs.Cells.{about_in, log_of_cell}
use Rattle.site_cells.specs.Values.{about_book, about_of, about_shard, log_in, CanReserve, IsOver, IsRefused, IsStepRefusal, IsTaken}
use Rattle.site_cells.specs.declared.cell_refusal.CellRefusal.{CellRefusal}
use Rattle.site_cells.specs.declared.cell_refusal.CellRefusal.TheVariants.{ShardFull, TopicBound, BookFull, OutOfMemory}
use Rattle.site_cells.specs.declared.cell_value.CellValue.{CellValue}
use Rattle.site_cells.specs.declared.cell_value.CellValue.TheVariants as value
use Rattle.logged_cells.specs.declared.logged_cell.LoggedCell.{LoggedCell}
use Rattle.site_cells.proofs.CellLemmas.{book_in-log_of_book}
use Rattle.running_site.specs.Seals.{IsFitting, IsFull, IsRefusal}
use Rattle.running_site.specs.Visits.{AreCounted, IsTurn, IsVisit}
use Rattle.running_site.proofs.KnownLemmas.{about-book, about-shard}
use Rattle.running_site.proofs.TopicLemmas.{entry-follows}

-- the value is a shard with this limit and history
pub record IsShard (limit : ℕ) (log : Log) (v : CellValue) : Type 0 where
  pub shard : Shard
  pub is : v ≡ value.Shard shard
  pub limit_is : shard.limit ≡ limit
  pub seen : history_in log ≡ shard.entries

-- the value is the book with these entries
pub record IsBook (names : List NameShards) (log : Log) (v : CellValue) : Type 0 where
  pub book : Kept
  pub is : v ≡ value.Book book
  pub seen : book_in log ≡ book.entries
  pub counted : AreCounted names book.entries

-- a value of which this is fixed is a shard
shard-of : (names told : List NameShards) (limit : ℕ) (log : Log) (v : CellValue)
    → about_of told v ≡ about_shard names limit → log ≡ log_in v → IsShard limit log v
shard-of names told limit log (value.Shard s) e l = record {
  shard = s;
  is = refl;
  limit_is = ap (λ (a : CellAbout). a.limit) e;
  seen = ap history_in l ∙ history_in-log_of s.entries;
}
shard-of names told limit log (value.Book b) e l =
    absurd (let no = ap (λ (a : CellAbout). a.is_book) e in cc)

-- and one of which that is is the book
book-of : (names told : List NameShards) (log : Log) (v : CellValue)
    → about_of told v ≡ about_book names → log ≡ log_in v
    → AreCounted names (book_in log) → IsBook names log v
book-of names told log (value.Shard s) e l counted =
    absurd (let no = ap (λ (a : CellAbout). a.is_book) e in cc)
book-of names told log (value.Book b) e l counted =
    let seen : book_in log ≡ b.entries = ap book_in l ∙ book_in-log_of_book b.entries in
    record {
      book = b;
      is = refl;
      seen = seen;
      counted = subst (AreCounted names) seen counted;
    }

-- two values in options
same-inside : {A : Type 0} (a b : A) → Some a ≡ Some b → a ≡ b
same-inside a b e = cc

-- two shards, and two books
pub same-shard : (a b : Shard) → value.Shard a ≡ value.Shard b → a.entries ≡ b.entries
same-shard a b e = ap (λ (s : Shard). s.entries) (let same : a ≡ b = cc in same)

pub same-book : (a b : Kept) → value.Book a ≡ value.Book b → a.entries ≡ b.entries
same-book a b e = ap (λ (s : Kept). s.entries) (let same : a ≡ b = cc in same)

module _ {D : Type 0} (names : List NameShards) (limit : ℕ) (k : Known CellAbout LogEntry)
    (t : Turn (LoggedCell D)) (v : IsVisit names limit k (Some t)) (cell : ℕ) (here : t.cell ≡ cell)
    (y : LoggedCell D) (there : t.value ≡ Some y) where
  abbrev turn : IsTurn names k t
  turn = v.holding t refl

  -- what is fixed of the cell
  about-there : slice_get (abouts_of names limit) cell ≡ Some (about_in y)
  about-there =
      (λ i. slice_get (sym v.knowing.about i) (sym here i))
      ∙ (sym turn.suits ∙ ap (option_map about_in) there)

  -- what was seen of it is its log
  seen-there : at k.seen cell ≡ log_in y.value
  seen-there =
      ap (at k.seen) (sym here) ∙ (turn.whole ∙ ap (turns.history_in log_of_cell) there)

  -- a shard's cell has a shard
  pub shard-there : cell < cells_in names → IsShard limit (at k.seen cell) y.value
  shard-there lt =
      shard-of names y.names.value limit (at k.seen cell) y.value
      (same-inside (about_in y) (about_shard names limit)
      (sym about-there
      ∙ about-shard (cells_in names) (about_shard names limit) (about_book names) cell lt))
      seen-there

  -- and the book's cell the book
  pub book-there : cell ≡ cells_in names → IsBook names (at k.seen cell) y.value
  book-there is =
      let fixed : slice_get (abouts_of names limit) cell ≡ Some (about_book names) =
      ap (slice_get (abouts_of names limit)) is
      ∙ about-book (cells_in names) (about_shard names limit) (about_book names) in
      book-of names y.names.value (at k.seen cell) y.value
      (same-inside (about_in y) (about_book names) (sym about-there ∙ fixed)) seen-there
      (subst (λ l. AreCounted names (book_in l))
      (sym turn.whole ∙ ap (at k.seen) here) (turn.topics (here ∙ is)))

-- a step that may be appended is the writer's own
pub step-by : (names : List NameShards) (me : ℕ) (seen : List Log) (cell : ℕ) (step : List Entry)
    → MayAppend names me seen cell (sealing.Shard step) → AreBy me step
step-by names me seen cell step may = elim may.1 [
  | inl w ↦ w.step_is.own
  | inr a ↦
      let h = history_in (get_or seen cell []) in
      subst (AreBy me) (sym a.is)
      (marked-each (λ e. e.by ≡ me) me (admitted h a.items) refl
      (admitted-each (λ e. e.by ≡ me) h a.items a.allowed.step_is.own))
]

-- and can be stored
step-storable : (names : List NameShards) (me : ℕ) (seen : List Log) (cell : ℕ)
    (step : List Entry) → MayAppend names me seen cell (sealing.Shard step) → AreStorable step
unfolding AreStorable
step-storable names me seen cell step may = elim may.1 [
  | inl w ↦ fit-storable names cell step may.0 w.step_is.fit
  | inr a ↦
      let h = history_in (get_or seen cell []) in
      let P : Entry → Type 0 = λ e. is_storable_kind e.kind ≡ true in
      subst (AllByRecursion P) (sym a.is)
      (marked-each P me (admitted h a.items) refl
      (admitted-each P h a.items (fit-storable names cell a.items may.0 a.allowed.step_is.fit)))
]

-- room may be asked for what may be appended
pub can-reserve : (names : List NameShards) (limit me : ℕ) (seen : List Log) (cell : ℕ)
    (v : CellValue) (x : Sealing) → (cell < cells_in names → IsShard limit (at seen cell) v)
    → (cell ≡ cells_in names → IsBook names (at seen cell) v) → MayAppend names me seen cell x
    → CanReserve v x
can-reserve names limit me seen cell v (sealing.Shard step) shard book may =
    let s = shard may.0 in
    subst (λ w. CanReserve w (sealing.Shard step)) (sym s.is)
    (step-storable names me seen cell step may)
can-reserve names limit me seen cell v (sealing.Book e) shard book may =
    let b = book may.0 in
    let seen_book : book_in (at seen (cells_in names)) ≡ b.book.entries =
    ap (λ c. book_in (at seen c)) (sym may.0) ∙ b.seen in
    subst (λ w. CanReserve w (sealing.Book e)) (sym b.is)
    (entry-follows names seen b.book.entries me e seen_book b.counted may.1)

-- by whether the counted bytes pass the limit
over-is : (limit : ℕ) (log : Log) (v : CellValue) (s : IsShard limit log v) (step : List Entry)
    → IsOver s.shard step ↔ IsFull limit (history_in log) step
over-is limit log v s step =
    full_is limit s.shard.limit s.shard.entries (history_in log) step s.limit_is s.seen

-- a step that was given room fits, and an entry may be added
pub taken-fits : (names : List NameShards) (limit me : ℕ) (seen : List Log) (cell : ℕ)
    (v : CellValue) (x : Sealing) → (cell < cells_in names → IsShard limit (at seen cell) v)
    → (cell ≡ cells_in names → IsBook names (at seen cell) v) → MayAppend names me seen cell x
    → IsTaken v x → IsFitting limit (at seen cell) x
taken-fits names limit me seen cell v (sealing.Shard step) shard book may taken =
    let s = shard may.0 in
    let fits = subst (λ w. IsTaken w (sealing.Shard step)) s.is taken in
    λ full. fits ((over-is limit (at seen cell) v s step).1 full)
taken-fits names limit me seen cell v (sealing.Book e) shard book may taken =
    let b = book may.0 in
    let open_to = subst (λ w. IsTaken w (sealing.Book e)) b.is taken in
    subst (λ l. IsTaken (value.Book (record b.book { entries = l })) (sealing.Book e))
    (sym b.seen) open_to

-- why a step was refused, by another way to say that it doesn't fit
step-refusal : (P Q : Type 0) (r : CellRefusal) → P ↔ Q → IsStepRefusal P r → IsStepRefusal Q r
step-refusal P Q ShardFull f p = f.0 p
step-refusal P Q (TopicBound kept) f p = p
step-refusal P Q (BookFull topics) f p = p
step-refusal P Q OutOfMemory f p = λ q. p (f.1 q)

-- why there was no room
pub refused-by : (names : List NameShards) (limit me : ℕ) (seen : List Log) (cell : ℕ)
    (v : CellValue) (x : Sealing) (r : CellRefusal)
    → (cell < cells_in names → IsShard limit (at seen cell) v)
    → (cell ≡ cells_in names → IsBook names (at seen cell) v) → MayAppend names me seen cell x
    → IsRefused v x r → IsRefusal limit (at seen cell) x r
refused-by names limit me seen cell v (sealing.Shard step) r shard book may refused =
    let s = shard may.0 in
    step-refusal (IsOver s.shard step) (IsFull limit (history_in (at seen cell)) step) r
    (over-is limit (at seen cell) v s step)
    (subst (λ w. IsRefused w (sealing.Shard step) r) s.is refused)
refused-by names limit me seen cell v (sealing.Book e) r shard book may refused =
    let b = book may.0 in
    subst (λ l. IsRefused (value.Book (record b.book { entries = l })) (sealing.Book e) r)
    (sym b.seen) (subst (λ w. IsRefused w (sealing.Book e) r) b.is refused)
