-- The entries of one writer among those of several, in the logs that shards and a book are.
use Rattle.std.proofs.Common.{◌≡◌, ◌≢◌, ℕ, zero, suc, ◌<◌, ◌≤◌, ◌==◌, Bool, true, false, List, [], ◌∷◌, ◌++◌, length, get_or, map, take, drop, refl, sym, ap, subst, ◌∙◌, arith, inl, inr, append-nil, if◌then◌else◌}
use Rattle.std.specs.Prelude.{All, Contains, filter}
use Rattle.std.specs.List.{AllByRecursion}
use Rattle.std.proofs.lemmas.Bool.{eq-eqb}
use Rattle.std.proofs.lemmas.Bool.Decides.{eqb_tells}
use Rattle.std.proofs.lemmas.List.{append_cancel_left, take-append-drop}
use Rattle.std.proofs.lemmas.List.Elements.{filter-append, recursion_from_All}
use Rattle.shard_versions.specs.Histories.{History}
use Rattle.shard_versions.specs.declared.entry.Entry.{Entry}
use Rattle.topic_book.specs.Books.{Book}
use Rattle.topic_book.specs.declared.topic.BookEntry.{BookEntry}
use Rattle.exchange_rules.specs.Cells.{Log, author_of, book_in, history_in, log_of, log_of_book}
use Rattle.exchange_rules.specs.Own.{by_writer}
use Rattle.exchange_rules.specs.declared.log_entry.LogEntry.{LogEntry}
use Rattle.exchange_rules.specs.declared.log_entry.LogEntry.TheVariants as logged
use Rattle.stream_site.specs.Logs.{logs_in}
use Rattle.load_rules.specs.Loaded.{by_author}

-- what follows from it holds of each item too
pub each-so : {X : Type 0} (P Q : X → Type 0) → ((x : X) → P x → Q x) → (xs : List X)
    → AllByRecursion P xs → AllByRecursion Q xs
each-so P Q f [] a = tt
each-so P Q f (x ∷ xs) a = (f x a.0, each-so P Q f xs a.1)

-- what holds of each image holds of what it is of
each-image : {X Y : Type 0} (P : Y → Type 0) (f : X → Y) (xs : List X)
    → AllByRecursion P (map f xs) → AllByRecursion (λ x. P (f x)) xs
each-image P f [] a = tt
each-image P f (x ∷ xs) a = (a.0, each-image P f xs a.1)

-- what is in a list is in one with one more before it
pub behind-one : {X : Type 0} (y : X) (xs : List X) (x : X) → Contains xs x → Contains (y ∷ xs) x
behind-one y xs x there = (suc there.0, omega (arith, there.1), there.2)

-- the first of what is kept
kept-first : {X : Type 0} (P : X → Type 0) (t : Bool) (x : X) (xs : List X) → t ≡ true
    → AllByRecursion P (if t then x ∷ xs else xs) → P x
kept-first P true x xs e a = a.0
kept-first P false x xs e a = absurd (cc)

-- the rest of it
kept-rest : {X : Type 0} (P : X → Type 0) (t : Bool) (x : X) (xs : List X)
    → AllByRecursion P (if t then x ∷ xs else xs) → AllByRecursion P xs
kept-rest P true x xs a = a.1
kept-rest P false x xs a = a

-- what is kept, where what passes is such a thing
kept-so : {X : Type 0} (P : X → Type 0) (t : Bool) (x : X) (xs : List X) → (t ≡ true → P x)
    → AllByRecursion P xs → AllByRecursion P (if t then x ∷ xs else xs)
kept-so P true x xs f a = (f refl, a)
kept-so P false x xs f a = a

-- numbers that pass their test are equal
passes : (a b : ℕ) → (a == b) ≡ true → a ≡ b
passes a b e = elim (eqb_tells a b) [ inl w ↦ w.1 | inr w ↦ absurd (let f = w.0 in cc) ]

-- what holds of each author's items holds of all, where each item has such an author
pub by-each : {X : Type 0} (by : X → ℕ) (P : X → Type 0) (N : ℕ → Type 0) (xs : List X)
    → ((a : ℕ) → N a → AllByRecursion P (filter (λ x. by x == a) xs))
    → AllByRecursion (λ x. N (by x)) xs → AllByRecursion P xs
by-each by P N [] f s = tt
by-each by P N (x ∷ xs) f s = (
  kept-first P (by x == by x) x (filter (λ y. by y == by x) xs) (eq-eqb (by x) (by x) refl)
      (f (by x) s.0),
  by-each by P N xs (λ a n.
      kept-rest P (by x == a) x (filter (λ y. by y == a) xs) (f a n)) s.1,
)

-- an author's items are of that author
pub of-author : {X : Type 0} (by : X → ℕ) (a : ℕ) (xs : List X)
    → AllByRecursion (λ x. by x ≡ a) (filter (λ x. by x == a) xs)
of-author by a [] = tt
of-author by a (x ∷ xs) =
    kept-so (λ y. by y ≡ a) (by x == a) x (filter (λ y. by y == a) xs) (passes (by x) a)
    (of-author by a xs)

-- where an author has none, each is of another
pub of-others : {X : Type 0} (by : X → ℕ) (a : ℕ) (xs : List X)
    → filter (λ x. by x == a) xs ≡ [] → AllByRecursion (λ x. by x ≢ a) xs
of-others by a [] e = tt
of-others {X} by a (x ∷ xs) e =
    elim (eqb_tells (by x) a) [
      | inl w ↦
          let one : x ∷ rest ≡ [] = subst (λ t. (if t then x ∷ rest else rest) ≡ []) w.0 e in
          absurd (cc)
      | inr w ↦ (
        w.1,
        of-others by a xs (subst (λ t. (if t then x ∷ rest else rest) ≡ []) w.0 e),
      )
    ]
  where
    rest : List X
    rest = filter (λ y. by y == a) xs

-- where each is of another, an author has none
of-none : {X : Type 0} (by : X → ℕ) (a : ℕ) (xs : List X) → AllByRecursion (λ x. by x ≢ a) xs
    → filter (λ x. by x == a) xs ≡ []
of-none by a [] n = refl
of-none {X} by a (x ∷ xs) n =
    elim (eqb_tells (by x) a) [
      | inl w ↦ absurd (n.0 w.1)
      | inr w ↦ ap (λ t. if t then x ∷ rest else rest) w.0 ∙ of-none by a xs n.1
    ]
  where
    rest : List X
    rest = filter (λ y. by y == a) xs

-- others' entries aren't the writer's
pub others-none : (me : ℕ) (log : Log) → All (λ entry. author_of entry ≢ me) log
    → by_writer me log ≡ []
others-none me log a =
    of-none author_of me log (recursion_from_All (λ e. author_of e ≢ me) log a)

-- behind none there is none
append-none : {X : Type 0} (xs ys : List X) → xs ++ ys ≡ [] → ys ≡ []
append-none [] ys e = e
append-none (x ∷ xs) ys e = absurd (cc)

-- where nothing was added there is nothing more
pub added-none : {X : Type 0} (xs ys : List X) → xs ++ ys ≡ xs → ys ≡ []
added-none xs ys e = append_cancel_left xs ys [] (e ∙ sym (append-nil xs))

-- where none passes, none does behind a place
none-behind : {X : Type 0} (p : X → Bool) (n : ℕ) (xs : List X) → filter p xs ≡ []
    → filter p (drop n xs) ≡ []
none-behind p n xs e =
    append-none (filter p (take n xs)) (filter p (drop n xs))
    (sym (filter-append p (take n xs) (drop n xs)) ∙ (ap (filter p) (take-append-drop n xs) ∙ e))

-- nor behind a front and more
pub none-past : {X : Type 0} (p : X → Bool) (n : ℕ) (front more : List X) → length front ≤ n
    → filter p more ≡ [] → filter p (drop n (front ++ more)) ≡ []
none-past p n [] more le e = none-behind p n more e
none-past p zero (x ∷ front) more le e = absurd (omega arith)
none-past p (suc n) (x ∷ front) more le e = none-past p n front more (omega arith) e

-- the history of a shard's log, and the book of the book's
pub history-back : (h : History) → history_in (log_of h) ≡ h
history-back [] = refl
history-back (e ∷ h) = ap (λ (l : History). e ∷ l) (history-back h)

pub book-back : (book : Book) → book_in (log_of_book book) ≡ book
book-back [] = refl
book-back (e ∷ book) = ap (λ (l : Book). e ∷ l) (book-back book)

-- the number of the writer of an entry of the book
abbrev pub booked_by : BookEntry → ℕ
booked_by e = author_of (logged.Book e)

-- a test keeps a shard's entry, or not
kept-entry : (t : Bool) (e : Entry) (log : Log) (h : History) → history_in log ≡ h
    → history_in (if t then logged.Shard e ∷ log else log) ≡ (if t then e ∷ h else h)
kept-entry true e log h is = ap (λ (l : History). e ∷ l) is
kept-entry false e log h is = is

-- or one of the book
kept-booked : (t : Bool) (e : BookEntry) (log : Log) (book : Book) → book_in log ≡ book
    → book_in (if t then logged.Book e ∷ log else log) ≡ (if t then e ∷ book else book)
kept-booked true e log book is = ap (λ (l : Book). e ∷ l) is
kept-booked false e log book is = is

-- one writer's entries of a shard are those of its log
pub history-by : (me : ℕ) (h : History) → history_in (by_writer me (log_of h)) ≡ by_author me h
history-by me [] = refl
history-by me (e ∷ h) =
    kept-entry (e.by == me) e (by_writer me (log_of h)) (by_author me h) (history-by me h)

-- and those of the book
pub book-by : (me : ℕ) (book : Book)
    → book_in (by_writer me (log_of_book book)) ≡ filter (λ e. booked_by e == me) book
book-by me [] = refl
book-by me (e ∷ book) =
    kept-booked (booked_by e == me) e (by_writer me (log_of_book book))
    (filter (λ x. booked_by x == me) book) (book-by me book)

-- the log of a shard's cell
pub shard-log : (shards : List History) (book : Book) (c : ℕ) → c < length shards
    → get_or (logs_in shards book) c [] ≡ log_of (get_or shards c [])
shard-log [] book c lt = absurd (omega arith)
shard-log (h ∷ shards) book zero lt = refl
shard-log (h ∷ shards) book (suc c) lt = shard-log shards book c (omega arith)

-- and of the book's
pub book-log : (shards : List History) (book : Book)
    → get_or (logs_in shards book) (length shards) [] ≡ log_of_book book
book-log [] book = refl
book-log (h ∷ shards) book = book-log shards book

-- there is one log more than shards
logs-counted : (shards : List History) (book : Book)
    → length (logs_in shards book) ≡ suc (length shards)
logs-counted [] book = refl
logs-counted (h ∷ shards) book = ap suc (logs-counted shards book)

-- what holds of each entry of all logs holds of those of a shard
pub shard-each : (P : LogEntry → Type 0) (shards : List History) (book : Book) (c : ℕ)
    → c < length shards → All (All P) (logs_in shards book)
    → AllByRecursion (λ e. P (logged.Shard e)) (get_or shards c [])
shard-each P shards book c lt a =
    let n = logs-counted shards book in
    let here : All P (log_of (get_or shards c [])) =
    subst (All P) (shard-log shards book c lt) (a c [] (omega (arith, n))) in
    each-image P logged.Shard (get_or shards c [])
    (recursion_from_All P (log_of (get_or shards c [])) here)

-- and of those of the book
pub book-each : (P : LogEntry → Type 0) (shards : List History) (book : Book)
    → All (All P) (logs_in shards book) → AllByRecursion (λ e. P (logged.Book e)) book
book-each P shards book a =
    let n = logs-counted shards book in
    let here : All P (log_of_book book) =
    subst (All P) (book-log shards book) (a (length shards) [] (omega (arith, n))) in
    each-image P logged.Book book (recursion_from_All P (log_of_book book) here)
