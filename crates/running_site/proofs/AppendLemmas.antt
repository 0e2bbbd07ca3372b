-- What a pass can append in its turn, or why it can't.
use Rattle.std.proofs.Common.{◌≡◌, ◌↔◌, ℕ, false, List, inl, inr, refl, sym, subst}
use Rattle.std.specs.Prelude.{IfErr, IfSome, OnOk, Some, Result, Ok, Err, IsErrOf}
use Rattle.tuple_values.specs.declared.names.NameShards.{NameShards}
use Rattle.topic_book.specs.Books.{Book}
use Rattle.topic_book.specs.States.{IsCauseOf, IsOpenTo}
use Rattle.topic_book.specs.declared.topic.BookEntry.{BookEntry}
use Rattle.shard_versions.specs.declared.entry.Entry.{Entry}
use Rattle.exchange_rules.specs.Cells.{Log, book_in, history_in}
use Rattle.exchange_rules.specs.Following.{Writer}
use Rattle.exchange_rules.specs.Steps.{is_full, kinds_of, writes_in}
use Rattle.stream_site.proofs.TestLemmas.{not_true}
use Rattle.exchange_rules.specs.declared.log_entry.LogEntry.{LogEntry}
use Rattle.stream_site.specs.Refusals.{IsUnadded, IsUnsealed, StaysWith, StaysWithEntry}
use Rattle.stream_site.specs.declared.refusal.EntryRefusal.{EntryRefusal}
use Rattle.stream_site.specs.declared.refusal.StepRefusal.{StepRefusal}
use Rattle.stream_site.specs.declared.refusal.StepRefusal.TheVariants as step
use Rattle.site_laws.specs.Sealings.{MayAppend}
use Rattle.site_laws.specs.declared.cell_about.CellAbout.{CellAbout}
use Rattle.site_laws.specs.declared.sealing.Sealing.{Sealing}
use Rattle.site_laws.specs.declared.sealing.Sealing.TheVariants as sealing
use Rattle.turn_table.specs.Histories.{at}
use Rattle.turn_table.specs.declared.knowledge.Known.{Known}
use Rattle.turn_table.specs.declared.turn.Turn.{Turn}
use Rattle.logged_cells.specs.Cells.{value_of}
use Rattle.site_cells.specs.Values.{CanReserve, IsEntryRefusal, IsRefused, IsStepRefusal, IsTaken}
use Rattle.site_cells.specs.declared.cell_refusal.CellRefusal.{CellRefusal}
use Rattle.site_cells.specs.declared.cell_refusal.CellRefusal.TheVariants.{ShardFull, TopicBound, BookFull, OutOfMemory}
use Rattle.logged_cells.specs.declared.logged_cell.LoggedCell.{LoggedCell}
use Rattle.running_site.specs.Seals as seals
use Rattle.running_site.specs.Seals.{book_fault_of, step_refusal_of, unsealed_entry_of, unsealed_of, IsBookRefusal, IsFitting, IsForBook, IsForShard, IsFull, IsRefusal, IsRefusalOf, IsShardRefusal, LeavesWriter, StaysIn}
use Rattle.running_site.specs.declared.refusal.SealRefusal.{SealRefusal}
use Rattle.running_site.specs.declared.refusal.SealRefusal.TheVariants.{NoRoom, Broken}
use Rattle.running_site.specs.Visits.{IsVisit}
use Rattle.running_site.proofs.SealLemmas.{if-there, of-there}
use Rattle.running_site.proofs.ValueLemmas.{book-there, can-reserve, refused-by, shard-there, taken-fits}

module _ {D : Type 0} (names : List NameShards) (limit : ℕ) (k : Known CellAbout LogEntry)
    (t : Turn (LoggedCell D)) (v : IsVisit names limit k (Some t)) (cell : ℕ) (here : t.cell ≡ cell)
    (x : Sealing) (may : MayAppend names k.number k.seen cell x) where
  -- room may be asked for
  pub append-can : IfSome t.value (λ y. CanReserve (value_of y) x)
  append-can = if-there (λ y. CanReserve (value_of y) x) t.value
      (λ y there. can-reserve names limit k.number k.seen cell y.value x
      (shard-there names limit k t v cell here y there)
      (book-there names limit k t v cell here y there) may)

  -- what was given room fits
  fits-there : IfSome t.value (λ y. IsTaken (value_of y) x) → IsFitting limit (at k.seen cell) x
  fits-there taken =
      of-there (λ y. IsTaken (value_of y) x) (IsFitting limit (at k.seen cell) x) t.value t.there
      (λ y there h. taken-fits names limit k.number k.seen cell y.value x
      (shard-there names limit k t v cell here y there)
      (book-there names limit k t v cell here y there) may h) taken

  pub append-fits : {A : Type 0} (r : Result A SealRefusal)
      → OnOk r (IfSome t.value (λ y. IsTaken (value_of y) x))
      → OnOk r (IsFitting limit (at k.seen cell) x)
  append-fits (Ok a) taken = fits-there taken
  append-fits (Err f) taken = tt

  -- and what wasn't has its cause
  cause-there : (f : SealRefusal) → IfSome t.value (λ y. seals.IsCauseOf (value_of y) x f)
      → IsRefusalOf limit (at k.seen cell) x f
  cause-there (NoRoom f) refused =
      of-there (λ y. IsRefused (value_of y) x f) (IsRefusal limit (at k.seen cell) x f) t.value
      t.there
      (λ y there h. refused-by names limit k.number k.seen cell y.value x f
      (shard-there names limit k t v cell here y there)
      (book-there names limit k t v cell here y there) may h) refused
  cause-there (Broken writes) taken = fits-there taken

  pub append-cause : {A : Type 0} (r : Result A SealRefusal)
      → IfErr r (λ f. IfSome t.value (λ y. seals.IsCauseOf (value_of y) x f))
      → IfErr r (λ f. IsRefusalOf limit (at k.seen cell) x f)
  append-cause (Ok a) refused = tt
  append-cause (Err f) refused = cause-there f refused

-- a step's refusal is a shard's
step-is-shard : (P : Type 0) (r : CellRefusal) → IsStepRefusal P r → IsShardRefusal r
step-is-shard P ShardFull p = tt
step-is-shard P (TopicBound kept) p = p
step-is-shard P (BookFull topics) p = p
step-is-shard P OutOfMemory p = tt

pub step-for-shard : (limit : ℕ) (log : Log) (items : List Entry) (r : SealRefusal)
    → IsRefusalOf limit log (sealing.Shard items) r → IsForShard r
step-for-shard limit log items (NoRoom r) p = step-is-shard (IsFull limit (history_in log) items) r p
step-for-shard limit log items (Broken writes) p = tt

-- it tells exactly whether the shard is full
step-tells : {A : Type 0} (P : Type 0) (r : CellRefusal) → IsStepRefusal P r
    → IsErrOf {T = A} (Err (step_refusal_of r)) step.ShardFull ↔ P
step-tells P ShardFull p = (λ _. p, λ _. refl)
step-tells P (TopicBound kept) p = absurd p
step-tells P (BookFull topics) p = absurd p
step-tells P OutOfMemory p = (λ is. absurd (cc), λ q. absurd (p q))

pub unsealed-tells : {A : Type 0} (limit : ℕ) (log : Log) (items : List Entry) (r : SealRefusal)
    (f : StepRefusal) → f ≡ unsealed_of r → IsRefusalOf limit log (sealing.Shard items) r
    → IsErrOf {T = A} (Err f) step.ShardFull ↔ IsFull limit (history_in log) items
unsealed-tells {A = A} limit log items r f e p =
    subst (λ g. IsErrOf {T = A} (Err g) step.ShardFull ↔ IsFull limit (history_in log) items) (sym e)
    (go r p)
  where
    go : (r : SealRefusal) → IsRefusalOf limit log (sealing.Shard items) r
        → IsErrOf {T = A} (Err (unsealed_of r)) step.ShardFull
        ↔ IsFull limit (history_in log) items
    go (NoRoom r) p = step-tells (IsFull limit (history_in log) items) r p
    go (Broken writes) p = (λ is. absurd (cc), λ q. absurd (p q))

-- the turn stays, or has been given back
pub stays-step : (H F : Type 0) (r : SealRefusal) (f : StepRefusal) → f ≡ unsealed_of r
    → StaysIn H F r → StaysWith H F f
stays-step H F r f e s = subst (StaysWith H F) (sym e) (go r s)
  where
    go : (r : SealRefusal) → StaysIn H F r → StaysWith H F (unsealed_of r)
    go (NoRoom ShardFull) s = s
    go (NoRoom (TopicBound kept)) s = s
    go (NoRoom (BookFull topics)) s = s
    go (NoRoom OutOfMemory) s = s
    go (Broken writes) s = s

-- what is left of a step that isn't acknowledged
pub unsealed-is : (limit : ℕ) (log : Log) (items : List Entry) (old after : Writer) (cell : ℕ)
    (new : Writer) (r : SealRefusal) (f : StepRefusal) → f ≡ unsealed_of r
    → IsRefusalOf limit log (sealing.Shard items) r
    → LeavesWriter old after cell (writes_in (kinds_of items)) new r
    → IsUnsealed (is_full limit (history_in log) (kinds_of items) ≡ false) old after cell
    (writes_in (kinds_of items)) new f
unsealed-is limit log items old after cell new r f e p l =
    subst (IsUnsealed (is_full limit (history_in log) (kinds_of items) ≡ false) old after cell
    (writes_in (kinds_of items)) new) (sym e) (go r p l)
  where
    go : (r : SealRefusal) → IsRefusalOf limit log (sealing.Shard items) r
        → LeavesWriter old after cell (writes_in (kinds_of items)) new r
        → IsUnsealed (is_full limit (history_in log) (kinds_of items) ≡ false) old after cell
        (writes_in (kinds_of items)) new (unsealed_of r)
    go (NoRoom ShardFull) p l = l
    go (NoRoom (TopicBound kept)) p l = l
    go (NoRoom (BookFull topics)) p l = l
    go (NoRoom OutOfMemory) p l = l
    go (Broken writes) p l = (not_true _ p, l)

-- an entry's refusal is the book's
entry-is-book : (b : Book) (e : BookEntry) (r : CellRefusal) → IsEntryRefusal b e r
    → IsBookRefusal r
entry-is-book b e ShardFull p = p
entry-is-book b e (TopicBound kept) p = tt
entry-is-book b e (BookFull topics) p = tt
entry-is-book b e OutOfMemory p = tt

pub entry-for-book : (limit : ℕ) (log : Log) (e : BookEntry) (r : SealRefusal)
    → IsRefusalOf limit log (sealing.Book e) r → IsForBook r
entry-for-book limit log e (NoRoom r) p = entry-is-book (book_in log) e r p
entry-for-book limit log e (Broken writes) p = tt

-- the turn stays, or has been given back
pub stays-entry : (H F : Type 0) (r : SealRefusal) (f : EntryRefusal) → f ≡ unsealed_entry_of r
    → StaysIn H F r → StaysWithEntry H F f
stays-entry H F r f e s = subst (StaysWithEntry H F) (sym e) (go r s)
  where
    go : (r : SealRefusal) → StaysIn H F r → StaysWithEntry H F (unsealed_entry_of r)
    go (NoRoom f) s = s
    go (Broken writes) s = s

-- and has its cause
entry-cause : (b : Book) (e : BookEntry) (r : CellRefusal) → IsEntryRefusal b e r
    → IsCauseOf b e (book_fault_of r)
entry-cause b e ShardFull p = absurd p
entry-cause b e (TopicBound kept) p = p
entry-cause b e (BookFull topics) p = p
entry-cause b e OutOfMemory p = p

-- what is left of an entry that isn't acknowledged
pub unadded-is : (limit : ℕ) (log : Log) (e : BookEntry) (old after : Writer) (cell : ℕ)
    (new : Writer) (r : SealRefusal) (f : EntryRefusal) → f ≡ unsealed_entry_of r
    → IsRefusalOf limit log (sealing.Book e) r → LeavesWriter old after cell 0 new r
    → IsUnadded (IsOpenTo (book_in log) e) (book_in log) e old after cell new f
unadded-is limit log e old after cell new r f is p l =
    subst (IsUnadded (IsOpenTo (book_in log) e) (book_in log) e old after cell new) (sym is)
    (go r p l)
  where
    go : (r : SealRefusal) → IsRefusalOf limit log (sealing.Book e) r
        → LeavesWriter old after cell 0 new r
        → IsUnadded (IsOpenTo (book_in log) e) (book_in log) e old after cell new
        (unsealed_entry_of r)
    go (NoRoom r) p l = (entry-cause (book_in log) e r p, l)
    go (Broken writes) p (inl none) = (p, inl (refl, none.1))
    go (Broken writes) p (inr all) = (p, inr (refl, all.1))

-- what is left in the writer, once the turn was kept or given back
pub left-as : {A : Type 0} (r : Result A SealRefusal) (old after : Writer) (cell writes : ℕ)
    (mid new : Writer) → new ≡ mid → IfErr r (LeavesWriter old after cell writes mid)
    → IfErr r (LeavesWriter old after cell writes new)
left-as r old after cell writes mid new e =
    subst (λ w. IfErr r (LeavesWriter old after cell writes w)) (sym e)
