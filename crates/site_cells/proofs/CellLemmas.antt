-- The logs of cells, as histories.
use Rattle.std.proofs.Common.{◌≡◌, ℕ, zero, suc, ◌+◌, List, [], ◌∷◌, ◌++◌, length, get_or, map, refl, sym, ap, ◌∙◌, subst, arith, length-append}
use Rattle.tuple_values.specs.declared.names.NameShards.{NameShards}
use Rattle.shard_versions.specs.Histories.{History}
use Rattle.topic_book.specs.Books.{Book}
use Rattle.topic_book.specs.Cells.{cells_in}
use Rattle.once_core.specs.declared.world.Histories.{Histories}
use Rattle.exchange_rules.specs.Cells.{book_in, history_in, log_of, log_of_book}
use Rattle.site_laws.specs.SiteCells.{histories_in, shards_in}
use Rattle.site_cells.specs.Values.{log_in}
use Rattle.site_cells.specs.declared.cell_value.CellValue.{CellValue}

-- the book's log has no history of a shard
pub history_in-log_of_book : (b : Book) → history_in (log_of_book b) ≡ []
history_in-log_of_book [] = refl
history_in-log_of_book (e ∷ b) = history_in-log_of_book b

-- and a shard's log no book
pub book_in-log_of : (h : History) → book_in (log_of h) ≡ []
book_in-log_of [] = refl
book_in-log_of (e ∷ h) = book_in-log_of h

-- the book's log is the book
pub book_in-log_of_book : (b : Book) → book_in (log_of_book b) ≡ b
book_in-log_of_book [] = refl
book_in-log_of_book (e ∷ b) = ap (λ x. e ∷ x) (book_in-log_of_book b)

-- the history in a cell
abbrev pub history_at : CellValue → History
history_at value = history_in (log_in value)

-- those of all cells but the last
shards_front : (n : ℕ) (front : List CellValue) (last : CellValue) → length front ≡ n
    → shards_in n (map log_in (front ++ last ∷ [])) ≡ map history_at front
shards_front zero [] last e = refl
shards_front (suc n) [] last e = absurd (omega (arith, e))
shards_front zero (c ∷ front) last e = absurd (omega (arith, e))
shards_front (suc n) (c ∷ front) last e =
    ap (λ (l : List History). history_at c ∷ l) (shards_front n front last (omega (arith, e)))

-- and the log of the last
log_last : (n : ℕ) (front : List CellValue) (last : CellValue) → length front ≡ n
    → get_or (map log_in (front ++ last ∷ [])) n [] ≡ log_in last
log_last zero [] last e = refl
log_last (suc n) [] last e = absurd (omega (arith, e))
log_last zero (c ∷ front) last e = absurd (omega (arith, e))
log_last (suc n) (c ∷ front) last e = log_last n front last (omega (arith, e))

-- the histories in cells of which the last is the book's
pub histories_are : (names : List NameShards) (cells front : List CellValue) (last : CellValue)
    (shards : List History) (b : Book) → cells ≡ front ++ last ∷ []
    → shards ≡ map history_at front → b ≡ book_in (log_in last)
    → length cells ≡ cells_in names + 1
    → (let hs : Histories = record { shards = shards; book = b } in
    hs ≡ histories_in names (map log_in cells))
histories_are names cells front last shards b is s e long =
    let n = cells_in names in
    let both = length-append front (last ∷ []) in
    let size : length front ≡ n = let l = ap length is in omega (arith, both, l, long) in
    let logs = map log_in (front ++ last ∷ []) in
    let shards' : shards ≡ shards_in n logs = s ∙ sym (shards_front n front last size) in
    let book' : b ≡ book_in (get_or logs n []) = e ∙ ap book_in (sym (log_last n front last size)) in
    subst (λ cs. record { shards = shards; book = b } ≡ histories_in names (map log_in cs))
    (sym is) (λ i. record { shards = shards' i; book = book' i })
