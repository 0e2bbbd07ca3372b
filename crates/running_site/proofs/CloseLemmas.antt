-- What a closed site gives.
use Rattle.std.proofs.Common.{◌≡◌, ◌≢◌, ℕ, zero, suc, ◌+◌, ◌<◌, List, [], ◌∷◌, ◌++◌, length, get_or, map, replicate, refl, sym, ap, ◌∙◌, subst, arith}
use Rattle.std.specs.Prelude.{All, Contains, IfOk, Result, Ok, Err}
use Rattle.std.specs.List.{AllByRecursion}
use Rattle.std.proofs.lemmas.List.{get_or_default, length-map}
use Rattle.tuple_values.specs.declared.names.NameShards.{NameShards}
use Rattle.atomic_table.specs.Seated.{TableId}
use Rattle.topic_book.specs.Cells.{cells_in}
use Rattle.once_core.specs.Law.{IsLaw}
use Rattle.once_core.specs.declared.world.Histories.{Histories}
use Rattle.exchange_rules.specs.Cells.{Log, author_of, book_in, history_in, log_of, log_of_book}
use Rattle.exchange_rules.specs.Rows.{Layout}
use Rattle.exchange_rules.proofs.StepLemmas.{history_in-log_of}
use Rattle.site_laws.specs.Sealings.{names_told}
use Rattle.site_laws.specs.SiteCells.{histories_in, shards_in, IsLawful}
use Rattle.site_laws.specs.declared.cell_about.CellAbout.{CellAbout}
use Rattle.site_laws.proofs.CellLemmas.{shard-count}
use Rattle.stream_site.specs.Logs.{logs_in}
use Rattle.turn_table.specs.Calls.{known, table_of}
use Rattle.turn_table.specs.Histories.{GrewBy}
use Rattle.turn_table.specs.Knowledge.{IsFree}
use Rattle.turn_table.specs.declared.rule.Opening.{Opening}
use Rattle.site_cells.specs.Cells.{abouts_of, no_logs}
use Rattle.logged_cells.specs.Cells.{about_in, log_of_cell, value_of}
use Rattle.site_cells.specs.Values.{about_book, about_of, about_shard, log_in}
use Rattle.site_cells.specs.declared.cell_value.CellValue.{CellValue}
use Rattle.site_cells.specs.declared.cell_value.CellValue.TheVariants as value
use Rattle.logged_cells.specs.declared.logged_cell.LoggedCell.{LoggedCell}
use Rattle.site_cells.proofs.CellLemmas.{book_in-log_of_book}
use Rattle.running_site.specs.Passes.{number_of, numbers_to, writer_of, writer_where, IsOpened, IsPassOf, TablePass}
use Rattle.running_site.specs.Records.{inside_of, passes_in}
use Rattle.running_site.specs.declared.pass.PassOf.{PassOf}
use Rattle.running_site.proofs.KnownLemmas.{each_of, names_of}
use Rattle.running_site.proofs.NumberLemmas.{numbers-long}

-- what holds of all holds of each item
pub all-of : {X : Type 0} (P : X → Type 0) (xs : List X) → AllByRecursion P xs → All P xs
all-of P [] a k d lt = absurd (omega (arith, lt))
all-of P (x ∷ xs) a zero d lt = a.0
all-of P (x ∷ xs) a (suc k) d lt = all-of P xs a.1 k d (omega (arith, lt))

module _ {D : Type 0} (table : TableId) (start : Opening (LoggedCell D)) (l : Layout) where
  -- what is known of the passes of the table
  pub record AreInside (passes : List (PassOf (TablePass D))) : Type 0 where
    pub own : AllByRecursion (λ (p : TablePass D). table_of p ≡ table) (passes_in passes)
    pub free : AllByRecursion (λ (p : TablePass D). IsFree (known p)) (passes_in passes)
    pub numbers : map (λ (p : TablePass D). (known p).number) (passes_in passes)
        ≡ map number_of passes

  -- each is there
  inside : (passes : List (PassOf (TablePass D))) → AllByRecursion (IsPassOf table start l) passes
      → AreInside passes
  inside [] a = record { own = tt; free = tt; numbers = refl }
  inside (pass ∷ passes) a =
      let here = a.0 in
      let rest = inside passes a.1 in
      let P : List (TablePass D) → Type 0 = λ ps. AllByRecursion (λ (p : TablePass D). table_of p ≡ table)
      (ps ++ passes_in passes) in
      let Q : List (TablePass D) → Type 0 = λ ps. AllByRecursion (λ (p : TablePass D). IsFree (known p))
      (ps ++ passes_in passes) in
      let back = ap inside_of (sym here.there) in
      let same : (known here.inside).number ≡ number_of pass =
      ap (λ o. (writer_where o pass.marks.items pass.own.items).me) (sym here.there) in
      record {
        own = subst P back (here.table_is, rest.own);
        free = subst Q back (here.free, rest.free);
        numbers = subst (λ ps. map (λ (p : TablePass D). (known p).number) (ps ++ passes_in passes)
            ≡ number_of pass ∷ map number_of passes) back
            (λ i. same i ∷ rest.numbers i);
      }

  pub all-inside : (passes : List (PassOf (TablePass D))) → All (IsPassOf table start l) passes
      → AreInside passes
  all-inside passes a = inside passes (each_of (IsPassOf table start l) passes a)

  -- what each pass has seen
  module _ (logs : List Log) where
    abbrev Seen : ℕ → List Log → Type 0
    Seen number seen = GrewBy (λ entry. author_of entry ≢ number) seen logs

    seen-each : (passes : List (PassOf (TablePass D))) → AllByRecursion (IsPassOf table start l) passes
        → AllByRecursion (λ (p : TablePass D). Seen (known p).number (known p).seen)
        (passes_in passes)
        → AllByRecursion (λ pass. Seen (number_of pass) (writer_of pass).seen) passes
    seen-each [] a s = tt
    seen-each (pass ∷ passes) a s =
        let here = a.0 in
        let both = subst (λ o. AllByRecursion
        (λ (p : TablePass D). Seen (known p).number (known p).seen)
        (inside_of o ++ passes_in passes)) here.there s in (
          subst (λ o. Seen (writer_where o pass.marks.items pass.own.items).me
              (writer_where o pass.marks.items pass.own.items).seen) (sym here.there) both.0,
          seen-each passes a.1 both.1,
        )

    pub seen-all : (passes : List (PassOf (TablePass D))) → All (IsPassOf table start l) passes
        → All (λ (p : TablePass D). Seen (known p).number (known p).seen) (passes_in passes)
        → All (λ pass. Seen (number_of pass) (writer_of pass).seen) passes
    seen-all passes a s =
        all-of (λ pass. Seen (number_of pass) (writer_of pass).seen) passes
        (seen-each passes (each_of (IsPassOf table start l) passes a)
        (each_of (λ (p : TablePass D). Seen (known p).number (known p).seen) (passes_in passes) s))

module _ {D : Type 0} where
  -- the cells with which the site started, by any of its passes
  pub opened-by : (table : TableId) (start : Opening (LoggedCell D)) (l : Layout)
      (passes : List (PassOf (TablePass D))) → 0 < length passes
      → All (IsPassOf table start l) passes → IsOpened l.names l.limit start.cells.value
  opened-by table start l [] lt a = absurd (omega (arith, lt))
  opened-by table start l (p ∷ passes) lt a = (a 0 p (omega arith)).opened

-- where each of some numbers is a pass's, there is one
pub some-pass : (n : ℕ) (numbers : List ℕ) → 0 < n
    → All (λ number. Contains numbers number) (numbers_to n) → 0 < length numbers
some-pass n numbers lt a =
    let l = numbers-long n in
    let has = a 0 0 (omega (arith, l, lt)) in
    let below = has.1 in omega (arith, below)

-- a shard's log is that of its history
shard-log : (names told : List NameShards) (limit : ℕ) (v : CellValue)
    → about_of told v ≡ about_shard names limit → log_of (history_in (log_in v)) ≡ log_in v
shard-log names told limit (value.Shard s) e = ap log_of (history_in-log_of s.entries)
shard-log names told limit (value.Book b) e =
    absurd (let no = ap (λ (a : CellAbout). a.is_book) e in cc)

-- and the book's that of the book
book-log : (names told : List NameShards) (v : CellValue)
    → about_of told v ≡ about_book names → log_of_book (book_in (log_in v)) ≡ log_in v
book-log names told (value.Shard s) e =
    absurd (let no = ap (λ (a : CellAbout). a.is_book) e in cc)
book-log names told (value.Book b) e = ap log_of_book (book_in-log_of_book b.entries)

module _ {D : Type 0} where
  -- the logs of the cells are those of their histories
  logs-are : (names : List NameShards) (limit n : ℕ) (cells : List (LoggedCell D))
      → map about_in cells ≡ replicate n (about_shard names limit) ++ about_book names ∷ []
      → logs_in (shards_in n (map log_of_cell cells))
      (book_in (get_or (map log_of_cell cells) n [])) ≡ map log_of_cell cells
  logs-are names limit zero [] e = absurd (cc)
  logs-are names limit zero (c ∷ []) e =
      let here : about_in c ≡ about_book names = cc in
      ap (λ log. log ∷ []) (book-log names c.names.value c.value here)
  logs-are names limit zero (c ∷ d ∷ cells) e = absurd (cc)
  logs-are names limit (suc n) [] e = absurd (cc)
  logs-are names limit (suc n) (c ∷ cells) e =
      let here : about_in c ≡ about_shard names limit = cc in
      let rest : map about_in cells
      ≡ replicate n (about_shard names limit) ++ about_book names ∷ [] = cc in
      (λ i. shard-log names c.names.value limit c.value here i
      ∷ logs-are names limit n cells rest i)

-- nothing is read in a cell with no entry
nothing-at : (n cell : ℕ) → get_or {A = Log} (replicate n []) cell [] ≡ []
nothing-at zero cell = refl
nothing-at (suc n) zero = refl
nothing-at (suc n) (suc cell) = nothing-at n cell

module _ {D : Type 0} (names : List NameShards) (limit count : ℕ) (cells : List (LoggedCell D)) (hs : Histories)
    (told : List CellAbout) (opened : List Log) (numbers : List ℕ)
    (told_is : told ≡ abouts_of names limit) (opened_is : opened ≡ no_logs names)
    (numbers_are : numbers ≡ numbers_to count)
    (lawful : IsLawful (names_told told) (map log_of_cell cells))
    (about : map about_in cells ≡ told)
    (ends : (ns : List NameShards) → length cells ≡ cells_in ns + 1
    → hs ≡ histories_in ns (map log_of_cell cells)) where
  abbrev logs : List Log
  logs = map log_of_cell cells

  law : IsLawful names logs
  law = subst (λ ns. IsLawful ns logs) (ap names_told told_is ∙ names_of names limit) lawful

  hs-is : hs ≡ histories_in names logs
  hs-is =
      let long : length logs ≡ length cells = simp length-map in
      ends names (sym long ∙ law.counted)

  -- the core's law holds
  pub closed-law : IsLaw names hs
  closed-law = subst (IsLaw names) (sym hs-is) law.law

  -- there is a history for each shard
  pub closed-counted : length hs.shards ≡ cells_in names
  closed-counted =
      let n = law.counted in
      ap (λ (h : Histories). length h.shards) hs-is
      ∙ shard-count (cells_in names) logs (omega (arith, n))

  -- the cells' logs are theirs
  pub closed-logs : logs_in hs.shards hs.book ≡ logs
  closed-logs =
      ap (λ (h : Histories). logs_in h.shards h.book) hs-is
      ∙ logs-are names limit (cells_in names) cells (about ∙ told_is)

  -- each entry carries a pass's number
  pub closed-signed : GrewBy (λ entry. Contains numbers (author_of entry)) opened logs
      → All (All (λ entry. Contains (numbers_to count) (author_of entry)))
      (logs_in hs.shards hs.book)
  closed-signed grew =
      let P : List ℕ → Log → Type 0 = λ ns. All (λ entry. Contains ns (author_of entry)) in
      subst (All (P (numbers_to count))) (sym closed-logs)
      (λ cell d lt.
      let g = grew cell in
      let none : get_or opened cell [] ≡ [] =
      ap (λ (l : List Log). get_or l cell []) opened_is ∙ nothing-at (cells_in names + 1) cell in
      let whole : get_or logs cell d ≡ g.0 =
      get_or_default logs cell d [] lt ∙ (g.1 ∙ ap (λ log. log ++ g.0) none) in
      subst (P (numbers_to count)) (sym whole) (subst (λ ns. P ns g.0) numbers_are g.2))

-- what follows of an answer
pub ok-also : {A E : Type 0} (P Q : A → Type 0) (r : Result A E) → ((a : A) → P a → Q a)
    → IfOk r P → IfOk r Q
ok-also P Q (Ok a) f p = f a p
ok-also P Q (Err e) f p = tt

module _ {D : Type 0} where
  -- the logs of cells are those of what they hold
  logs-of : (cells : List (LoggedCell D)) → map log_in (map value_of cells) ≡ map log_of_cell cells
  logs-of [] = refl
  logs-of (c ∷ cells) = ap (λ l. log_in c.value ∷ l) (logs-of cells)

  -- the histories in what cells hold are those of the cells
  pub ends-in : {E : Type 0} (r : Result Histories E) (values : List CellValue) (cells : List (LoggedCell D))
      → values ≡ map value_of cells
      → IfOk r (λ hs. (ns : List NameShards) → length values ≡ cells_in ns + 1
      → hs ≡ histories_in ns (map log_in values))
      → IfOk r (λ hs. (ns : List NameShards) → length cells ≡ cells_in ns + 1
      → hs ≡ histories_in ns (map log_of_cell cells))
  ends-in (Ok hs) values cells e f = λ ns long.
      let size : length (map value_of cells) ≡ length cells = simp length-map in
      f ns (ap length e ∙ (size ∙ long))
      ∙ ap (histories_in ns) (ap (map log_in) e ∙ logs-of cells)
  ends-in (Err x) values cells e f = tt
