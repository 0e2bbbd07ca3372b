-- Whose entries a pass has seen.
use Rattle.std.proofs.Common.{◌≡◌, ℕ, zero, suc, ◌+◌, ◌<◌, List, [], ◌++◌, length, get_or, replicate, set, refl, sym, ap, ◌∙◌, subst, inl, inr}
use Rattle.std.specs.Prelude.{All, Contains}
use Rattle.std.proofs.lemmas.Bool.{cases_eq}
use Rattle.std.proofs.lemmas.List.{get_or-set_other, get_or-set_same, get_or_default}
use Rattle.std.proofs.lemmas.List.Elements.{All-append, All-nil, All-weaker}
use Rattle.tuple_values.specs.declared.names.NameShards.{NameShards}
use Rattle.topic_book.specs.Cells.{cells_in}
use Rattle.exchange_rules.specs.Cells.{Log, author_of}
use Rattle.exchange_rules.specs.declared.log_entry.LogEntry.{LogEntry}
use Rattle.site_laws.specs.Sealings.{entries_of, MayAppend}
use Rattle.site_laws.specs.declared.cell_about.CellAbout.{CellAbout}
use Rattle.site_laws.specs.declared.sealing.Sealing.{Sealing}
use Rattle.site_laws.proofs.SealingLemmas.{sealing-signed}
use Rattle.turn_table.specs.Histories.{at}
use Rattle.turn_table.specs.Steps.{AddsOthers}
use Rattle.turn_table.specs.declared.knowledge.Known.{Known}
use Rattle.site_cells.specs.Cells.{no_logs}
use Rattle.running_site.specs.Passes.{AreSeenSigned, IsListed}

-- no log of a site that starts has an entry
pub none-at : (count cell : ℕ) → get_or (replicate count (let l : Log = [] in l)) cell [] ≡ []
none-at zero cell = refl
none-at (suc count) zero = refl
none-at (suc count) (suc cell) = none-at count cell

-- a number that stands in a list is one of its numbers
pub listed-of : (numbers : List ℕ) (n : ℕ) → Contains numbers n → IsListed numbers n
listed-of numbers n (i, low, is) apart = apart i n low is

-- what was seen of no entry
pub fresh-signed : (numbers : List ℕ) (count : ℕ) → AreSeenSigned numbers (replicate count [])
fresh-signed numbers count cell =
    let P : LogEntry → Type 0 = λ entry. IsListed numbers (author_of entry) in
    subst (All P) (sym (none-at count cell)) (All-nil P)

-- where a cell is seen anew
pub set-signed : (numbers : List ℕ) (seen : List Log) (cell : ℕ) (log : Log)
    → cell < length seen → AreSeenSigned numbers seen
    → All (λ entry. IsListed numbers (author_of entry)) log
    → AreSeenSigned numbers (set seen cell log)
set-signed numbers seen cell log within signed new c =
    let P : LogEntry → Type 0 = λ entry. IsListed numbers (author_of entry) in
    elim (cases_eq c cell) [
      | inl same ↦
          let log_is : get_or (set seen cell log) c [] ≡ log =
          ap (λ n. get_or (set seen cell log) n []) same
          ∙ get_or-set_same seen cell log [] within in
          subst (All P) (sym log_is) new
      | inr apart ↦
          subst (All P) (sym (get_or-set_other seen cell c log [] apart)) (signed c)
    ]

-- where no cell had an entry at the start, a look finds those of the table's passes alone
pub look-signed : (names : List NameShards) (k : Known CellAbout LogEntry) (cell : ℕ) (log : Log)
    → k.start ≡ no_logs names → AddsOthers author_of k cell log
    → All (λ entry. IsListed k.numbers (author_of entry)) log
look-signed names k cell log begun (others, later) =
    let P : LogEntry → Type 0 = λ entry. IsListed k.numbers (author_of entry) in
    let none : at k.start cell ≡ [] =
    ap (λ l. get_or l cell []) begun ∙ none-at (cells_in names + 1) cell in
    let is : log ≡ later.0 = later.1 ∙ ap (λ l. l ++ later.0) none in
    subst (All P) (sym is)
    (All-weaker (λ entry. Contains k.numbers (author_of entry)) P
    (λ entry. listed-of k.numbers (author_of entry)) later.0 later.2)

-- a pass has seen entries of the table's passes alone also behind what it appended
pub sealed-signed : (names : List NameShards) (numbers : List ℕ) (me : ℕ) (seen : List Log)
    (cell : ℕ) (x : Sealing) → IsListed numbers me → AreSeenSigned numbers seen
    → MayAppend names me seen cell x → cell < length seen
    → AreSeenSigned numbers (set seen cell (get_or seen cell [] ++ entries_of x))
sealed-signed names numbers me seen cell x listed signed may within =
    let log = get_or seen cell [] in
    let P : LogEntry → Type 0 = λ entry. IsListed numbers (author_of entry) in
    set-signed numbers seen cell (log ++ entries_of x) within signed
    (All-append P log (entries_of x) (signed cell)
    (All-weaker (λ entry. author_of entry ≡ me) P
    (λ entry e. subst (IsListed numbers) (sym e) listed) (entries_of x)
    (sealing-signed names me seen cell x may)))

-- each number of a list stands in it
pub all-listed : (numbers : List ℕ) → All (Contains numbers) numbers
all-listed numbers i d low = (i, low, get_or_default numbers i (get_or numbers i d) d low)
