-- The histories that stand in cells, as a cell's log grows.
use Rattle.std.proofs.Common.{◌≡◌, ℕ, zero, suc, ◌+◌, ◌<◌, ◌≤◌, List, [], ◌∷◌, ◌++◌, length, get_or, set, refl, sym, ap, ◌∙◌, arith, inl, inr}
use Rattle.std.proofs.lemmas.List.{get_or-set_same, get_or-set_other}
use Rattle.std.proofs.lemmas.Bool.{cases_lt}
use Rattle.tuple_values.specs.declared.names.NameShards.{NameShards}
use Rattle.shard_versions.specs.Histories.{History}
use Rattle.shard_versions.proofs.VersionLemmas.{versioned}
use Rattle.topic_book.specs.Books.{Book}
use Rattle.topic_book.specs.Cells.{cells_in}
use Rattle.topic_book.specs.declared.topic.BookEntry.{BookEntry}
use Rattle.once_core.specs.Cells.{history_at}
use Rattle.once_core.specs.Worlds.{grown, with_entry}
use Rattle.once_core.proofs.GrowthLemmas.{Grows}
use Rattle.exchange_rules.specs.Cells.{Log, history_in, book_in}
use Rattle.exchange_rules.specs.declared.log_entry.LogEntry.TheVariants as logged
use Rattle.site_laws.specs.Laws.{with_more}
use Rattle.site_laws.specs.SiteCells.{shards_in, histories_in, AreSeenOf}

-- a shard's history in two parts of a log
pub history-append : (a b : Log) → history_in (a ++ b) ≡ history_in a ++ history_in b
history-append [] b = refl
history-append (logged.Shard e ∷ a) b = ap (λ (l : History). e ∷ l) (history-append a b)
history-append (logged.Book e ∷ a) b = history-append a b

-- and the book
pub book-append : (a b : Log) → book_in (a ++ b) ≡ book_in a ++ book_in b
book-append [] b = refl
book-append (logged.Shard e ∷ a) b = book-append a b
book-append (logged.Book e ∷ a) b = ap (λ (l : Book). e ∷ l) (book-append a b)

-- the history that stands in a shard's cell
pub shard-at : (n : ℕ) (logs : List Log) (c : ℕ) → c < n
    → get_or (shards_in n logs) c [] ≡ history_in (get_or logs c [])
shard-at zero logs c lt = absurd (omega arith)
shard-at (suc n) [] c lt = refl
shard-at (suc n) (x ∷ logs) zero lt = refl
shard-at (suc n) (x ∷ logs) (suc c) lt = shard-at n logs c (omega arith)

-- behind the shards none stands
pub shard-past : (n : ℕ) (logs : List Log) (c : ℕ) → n ≤ c → get_or (shards_in n logs) c [] ≡ []
shard-past zero logs c le = refl
shard-past (suc n) [] c le = refl
shard-past (suc n) (x ∷ logs) zero le = absurd (omega arith)
shard-past (suc n) (x ∷ logs) (suc c) le = shard-past n logs c (omega arith)

-- a shard's cell is set
shard-set : (n : ℕ) (logs : List Log) (c : ℕ) (v : Log) → c < n
    → shards_in n (set logs c v) ≡ set (shards_in n logs) c (history_in v)
shard-set zero logs c v lt = absurd (omega arith)
shard-set (suc n) [] c v lt = refl
shard-set (suc n) (x ∷ logs) zero v lt = refl
shard-set (suc n) (x ∷ logs) (suc c) v lt =
    ap (λ (l : List History). history_in x ∷ l) (shard-set n logs c v (omega arith))

-- a cell behind them is set
pub shard-same : (n : ℕ) (logs : List Log) (c : ℕ) (v : Log) → n ≤ c
    → shards_in n (set logs c v) ≡ shards_in n logs
shard-same zero logs c v le = refl
shard-same (suc n) [] c v le = refl
shard-same (suc n) (x ∷ logs) zero v le = absurd (omega arith)
shard-same (suc n) (x ∷ logs) (suc c) v le =
    ap (λ (l : List History). history_in x ∷ l) (shard-same n logs c v (omega arith))

-- as many as are asked for, where there are so many cells
pub shard-count : (n : ℕ) (logs : List Log) → n ≤ length logs → length (shards_in n logs) ≡ n
shard-count zero logs le = refl
shard-count (suc n) [] le = absurd (omega arith)
shard-count (suc n) (x ∷ logs) le = ap suc (shard-count n logs (omega arith))

-- a shard that was seen is among those that were
pub shard-below : (n : ℕ) (logs : List Log) (c : ℕ) → c < n → c < length logs
    → c < length (shards_in n logs)
shard-below zero logs c a b = absurd (omega arith)
shard-below (suc n) [] c a b = absurd (omega arith)
shard-below (suc n) (x ∷ logs) zero a b = omega arith
shard-below (suc n) (x ∷ logs) (suc c) a b =
    let lt = shard-below n logs c (omega arith) (omega arith) in omega (arith, lt)

-- what was seen grows into what is
pub seen-grows : (names : List NameShards) (seen logs : List Log) → AreSeenOf seen logs
    → Grows (histories_in names seen) (histories_in names logs)
seen-grows names seen logs w =
    let n = cells_in names in
    record {
      shards = λ c. elim (cases_lt c n) [
        | inl lt ↦ (
          history_in (w c).0,
          shard-at n logs c lt
              ∙ (ap history_in (w c).1
              ∙ (history-append (get_or seen c []) (w c).0
              ∙ ap (λ h. h ++ history_in (w c).0) (sym (shard-at n seen c lt)))),
        )
        | inr ge ↦ (
          [],
          shard-past n logs c ge ∙ ap (λ h. h ++ []) (sym (shard-past n seen c ge)),
        )
      ];
      versioned = λ c. versioned (history_at (histories_in names logs) c);
      book = (book_in (w n).0, ap book_in (w n).1 ∙ book-append (get_or seen n []) (w n).0);
    }

-- a step at a shard
pub grown-there : (names : List NameShards) (logs : List Log) (c : ℕ) (more : Log)
    → c < cells_in names
    → histories_in names (with_more logs c more)
    ≡ grown (histories_in names logs) c (history_in more)
unfolding grown
grown-there names logs c more lt =
    let n = cells_in names in
    let v = get_or logs c [] ++ more in
    let s : shards_in n (set logs c v)
    ≡ set (shards_in n logs) c (get_or (shards_in n logs) c [] ++ history_in more) =
    shard-set n logs c v lt
    ∙ ap (set (shards_in n logs) c) (history-append (get_or logs c []) more
    ∙ ap (λ h. h ++ history_in more) (sym (shard-at n logs c lt))) in
    let b : book_in (get_or (set logs c v) n []) ≡ book_in (get_or logs n []) =
    ap book_in (get_or-set_other logs c n v [] (λ e. omega arith)) in
    λ i. record { shards = s i; book = b i }

-- an entry of the book
pub with_entry-there : (names : List NameShards) (logs : List Log) (e : BookEntry)
    → cells_in names < length logs
    → histories_in names (with_more logs (cells_in names) (logged.Book e ∷ []))
    ≡ with_entry (histories_in names logs) e
with_entry-there names logs e lt =
    let n = cells_in names in
    let v = get_or logs n [] ++ logged.Book e ∷ [] in
    let s : shards_in n (set logs n v) ≡ shards_in n logs = shard-same n logs n v (omega arith) in
    let b : book_in (get_or (set logs n v) n []) ≡ book_in (get_or logs n []) ++ e ∷ [] =
    ap book_in (get_or-set_same logs n v [] lt)
    ∙ book-append (get_or logs n []) (logged.Book e ∷ []) in
    λ i. record { shards = s i; book = b i }
