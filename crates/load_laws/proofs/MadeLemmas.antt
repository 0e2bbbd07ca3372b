-- Where all writers of a load have finished, it was made.
use Rattle.std.proofs.Common.{◌≡◌, ◌≢◌, ℕ, suc, ◌<◌, ◌≤◌, ◌==◌, min, true, false, List, [], ◌∷◌, ◌++◌, Some, length, get_or, map, take, drop, refl, sym, ap, subst, ◌∙◌, arith, inl, inr, append-nil, cond}
use Rattle.std.specs.Prelude.{Contains, filter}
use Rattle.std.specs.List.{AllByRecursion}
use Rattle.std.proofs.lemmas.Bool.{cases_lt}
use Rattle.std.proofs.lemmas.List.{drop-append-le, drop-map, take-append-le, take-map, take_all, take_at}
use Rattle.std.proofs.lemmas.List.Elements.{All-contains}
use Rattle.tuple_values.specs.Document.{Doc}
use Rattle.shard_versions.specs.Histories.{History, current, is_pending, top}
use Rattle.shard_versions.specs.declared.entry.Kind.{Kind}
use Rattle.shard_versions.specs.declared.entry.Kind.TheVariants.{Put, Del, Sent, Mark}
use Rattle.topic_book.specs.Books.{Book, binding_of, checkpoint, same_key}
use Rattle.topic_book.specs.declared.topic.Binding.{Binding}
use Rattle.topic_book.specs.declared.topic.BookEntry.TheVariants.{Bind, Store}
use Rattle.topic_book.proofs.BookLemmas.{binding-stays, checkpoint-append}
use Rattle.once_core.specs.Cells.{history_at, shard_history}
use Rattle.once_core.specs.declared.world.Histories.{Histories}
use Rattle.exchange_rules.specs.Bindings.{book_cell}
use Rattle.exchange_rules.specs.Cells.{Log, author_of, book_in, history_in, log_of, log_of_book}
use Rattle.exchange_rules.specs.Following.{Writer}
use Rattle.exchange_rules.specs.Own.{by_writer}
use Rattle.exchange_rules.proofs.CountLemmas.{by_writer-append}
use Rattle.exchange_rules.proofs.GrowthLemmas.{take_still}
use Rattle.exchange_rules.specs.declared.log_entry.LogEntry.TheVariants as logged
use Rattle.turn_table.specs.Histories.{Adds, GrewBy}
use Rattle.site_laws.specs.SiteCells.{histories_in}
use Rattle.site_laws.proofs.CellLemmas.{book-append, history-append, shard-at}
use Rattle.stream_site.specs.Logs.{logs_in}
use Rattle.load_rules.specs.Finished.{AreFinished, FinishedLoadsAreMade, IsEndOf, IsFinished, load_roles}
use Rattle.load_rules.specs.Loaded.{IsDelivered, IsDeliveredKind, IsIndexed, IsIndexerEntry, by_author, writes_in}
use Rattle.load_rules.specs.Topic.{dest_name, load_binding, load_key, load_names, src_name}
use Rattle.load_rules.specs.Worked.{IsOfTopic, dest_cell, own_at, src_cell}
use Rattle.load_rules.specs.declared.role.Role.TheVariants.{Reader}
use Rattle.load_rules.proofs.CellLemmas.{book-is, dest-is, src-is}
use Rattle.load_laws.proofs.EndedLemmas.{HasPassed, HasSent, HasWritten, ended-sent, ended-silent, ended-written, indexer-at, one-at, place-of, quiet-at}
use Rattle.load_laws.proofs.OwnLemmas.{book-back, book-by, book-each, book-log, booked_by, by-each, each-so, history-back, history-by, of-author, of-others, others-none, shard-each, shard-log}

-- of a first part that may be longer than the front
front-still : {X : Type 0} (n : ℕ) (front more : List X)
    → take (min n (length front)) (front ++ more) ≡ take n front
front-still n front more = elim (cases_lt n (length front)) [
  | inl lt ↦
      let m : min n (length front) ≡ n = omega arith in
      ap (λ k. take k (front ++ more)) m ∙ take-append-le n front more (omega arith)
  | inr ge ↦
      let m : min n (length front) ≡ length front = omega arith in
      ap (λ k. take k (front ++ more)) m
      ∙ (take_at front more (length front) refl ∙ sym (take_all n front ge))
]

-- the first history begins the second
abbrev pub Fronts : History → History → Type 0
Fronts front whole = (more : History) × (whole ≡ front ++ more)

-- a delivery stays one as the source's histories grow
delivered-on : (old new : Histories) (version : ℕ) (sent : Doc)
    → ((shard : ℕ) → shard < 4
    → Fronts (shard_history load_names old src_name shard)
    (shard_history load_names new src_name shard))
    → IsDelivered old version sent → IsDelivered new version sent
delivered-on old new version sent on d =
    let front = shard_history load_names old src_name d.shard in
    let g = on d.shard d.within in
    let same : take (min d.upto (length front)) (shard_history load_names new src_name d.shard)
    ≡ take d.upto front =
    ap (take (min d.upto (length front))) g.1 ∙ front-still d.upto front g.0 in
    record {
      shard = d.shard;
      within = d.within;
      upto = min d.upto (length front);
      doc = d.doc;
      current = subst (λ (h : History). Contains (current h) (version, d.doc)) (sym same) d.current;
      taken = d.taken;
      same_id = d.same_id;
      same_amount = d.same_amount;
      same_revision = d.same_revision;
    }

-- and so does its kind
kind-on : (old new : Histories)
    → ((shard : ℕ) → shard < 4
    → Fronts (shard_history load_names old src_name shard)
    (shard_history load_names new src_name shard))
    → (kind : Kind) → IsDeliveredKind old kind → IsDeliveredKind new kind
kind-on old new on (Put document) d = absurd d
kind-on old new on (Del id) d = absurd d
kind-on old new on (Sent from version document) d =
    (d.0, delivered-on old new version document on d.1)
kind-on old new on Mark d = tt

-- in a book of the topic alone it is bound as the load binds it
bound-so : (book : Book) (b : Binding) → AllByRecursion IsOfTopic book
    → binding_of load_key book ≡ Some b → b ≡ load_binding
unfolding binding_of
bound-so [] b all e = absurd (cc)
bound-so (Bind by key c ∷ book) b all e =
    go (same_key load_key key) e (bound-so book b all.1) all.0.1
  where
    go : (t : _) → cond t (Some c) (binding_of load_key book) ≡ Some b
        → (binding_of load_key book ≡ Some b → b ≡ load_binding) → c ≡ load_binding
        → b ≡ load_binding
    go true e f same = let is : c ≡ b = cc in sym is ∙ same
    go false e f same = f e
bound-so (Store by key upto ∷ book) b all e = bound-so book b all.1 e

-- a writer whose logs were seen in those that end all
module _ (hs : Histories) (counted : length hs.shards ≡ 9) (w : Writer)
    (seen : GrewBy (λ entry. author_of entry ≢ w.me) w.seen (logs_in hs.shards hs.book)) where
  -- its own entries in the log of a cell are those that it has seen
  own-whole : (cell : ℕ) → by_writer w.me (get_or (logs_in hs.shards hs.book) cell [])
      ≡ own_at w cell
  own-whole cell =
      let a = seen cell in
      ap (by_writer w.me) a.1
      ∙ (by_writer-append w.me (get_or w.seen cell []) a.0
      ∙ (ap (λ (l : Log). own_at w cell ++ l) (others-none w.me a.0 a.2)
      ∙ append-nil (own_at w cell)))

  -- a shard's log goes on from what was seen
  shard-on : (cell : ℕ) → cell < 9
      → Adds (λ entry. author_of entry ≢ w.me) (get_or w.seen cell []) (log_of (history_at hs cell))
  shard-on cell lt =
      let a = seen cell in
      (a.0, sym (shard-log hs.shards hs.book cell (omega (arith, counted))) ∙ a.1, a.2)

  -- and the book's
  book-on : (more : Log)
      × (log_of_book hs.book ≡ get_or w.seen (book_cell load_names) [] ++ more)
  book-on =
      let a = seen (book_cell load_names) in
      let is : book_cell load_names ≡ length hs.shards = book-is ∙ sym counted in
      let here : get_or (logs_in hs.shards hs.book) (book_cell load_names) []
      ≡ log_of_book hs.book =
      ap (λ c. get_or (logs_in hs.shards hs.book) c []) is ∙ book-log hs.shards hs.book in
      (a.0, sym here ∙ a.1)

  -- its entries in a shard's history are those that it has seen
  shard-own : (cell : ℕ) → cell < 9
      → by_author w.me (history_at hs cell) ≡ history_in (own_at w cell)
  shard-own cell lt =
      let here = shard-log hs.shards hs.book cell (omega (arith, counted)) in
      sym (history-by w.me (history_at hs cell))
      ∙ ap history_in (ap (by_writer w.me) (sym here) ∙ own-whole cell)

  -- and those in the book
  book-own : filter (λ e. booked_by e == w.me) hs.book
      ≡ book_in (own_at w (book_cell load_names))
  book-own =
      let is : length hs.shards ≡ book_cell load_names = counted ∙ sym book-is in
      let here : log_of_book hs.book
      ≡ get_or (logs_in hs.shards hs.book) (book_cell load_names) [] =
      sym (book-log hs.shards hs.book)
      ∙ ap (λ c. get_or (logs_in hs.shards hs.book) c []) is in
      sym (book-by w.me hs.book)
      ∙ ap book_in (ap (by_writer w.me) here ∙ own-whole (book_cell load_names))

  -- a shard's history goes on from what was seen
  history-on : (cell : ℕ) → cell < 9
      → Fronts (history_at (histories_in load_names w.seen) cell) (history_at hs cell)
  history-on cell lt =
      let a = shard-on cell lt in
      let low : cell < book_cell load_names = omega (arith, book-is) in (
        history_in a.0,
        sym (history-back (history_at hs cell))
            ∙ (ap history_in a.1
            ∙ (history-append (get_or w.seen cell []) a.0
            ∙ ap (λ (h : History). h ++ history_in a.0)
            (sym (shard-at (book_cell load_names) w.seen cell low)))),
      )

  -- and the book
  whole-book : (more : Book) × (hs.book ≡ (histories_in load_names w.seen).book ++ more)
  whole-book =
      let a = book-on in (
        book_in a.0,
        sym (book-back hs.book)
            ∙ (ap book_in a.1
            ∙ book-append (get_or w.seen (book_cell load_names) []) a.0),
      )

  -- the source's shards go on
  source-on : (shard : ℕ) → shard < 4
      → Fronts (shard_history load_names (histories_in load_names w.seen) src_name shard)
      (shard_history load_names hs src_name shard)
  source-on shard lt = history-on (src_cell shard) (omega (arith, src-is shard))

  -- what it sent to a shard of the destination is delivered
  own-delivered : HasSent w → (shard : ℕ) → shard < 4
      → AllByRecursion (λ e. IsDeliveredKind hs e.kind)
      (by_author w.me (shard_history load_names hs dest_name shard))
  own-delivered sent shard lt =
      let cell = dest_cell shard in
      let old = histories_in load_names w.seen in
      subst (AllByRecursion (λ e. IsDeliveredKind hs e.kind))
      (sym (shard-own cell (omega (arith, dest-is shard))))
      (each-so (λ e. IsDeliveredKind old e.kind) (λ e. IsDeliveredKind hs e.kind)
      (λ e. kind-on old hs source-on e.kind) (history_in (own_at w cell))
      (sent.delivered shard lt))

  -- what it put into the book is of the topic
  own-booked : HasSent w → AllByRecursion IsOfTopic (filter (λ e. booked_by e == w.me) hs.book)
  own-booked sent = subst (AllByRecursion IsOfTopic) (sym book-own) sent.booked

  -- the checkpoint that it has seen is at most the last one
  checkpoint-on : (shard : ℕ)
      → checkpoint load_key (histories_in load_names w.seen).book shard
      ≤ checkpoint load_key hs.book shard
  checkpoint-on shard =
      let book = (histories_in load_names w.seen).book in
      let more = whole-book in
      let up = checkpoint-append load_key book more.0 shard in
      subst (λ b. checkpoint load_key book shard ≤ checkpoint load_key b shard) (sym more.1)
      (omega (arith, up))

  -- behind what the checkpoint has reached it has no entry
  own-behind : (indexer shard : ℕ) → shard < 4 → w.me ≡ suc indexer → (p : HasPassed w shard)
      → by_author (suc indexer) (drop p.upto (history_at hs (src_cell shard))) ≡ []
  own-behind indexer shard lt is p =
      let cell = src_cell shard in
      let h = history_at hs cell in
      let on = shard-on cell (omega (arith, src-is shard)) in
      let seen_so = get_or w.seen cell [] in
      let cut : drop p.upto (log_of h) ≡ drop p.upto seen_so ++ on.0 =
      ap (drop p.upto) on.1 ∙ drop-append-le p.upto seen_so on.0 p.within in
      let none : by_writer w.me (drop p.upto (log_of h)) ≡ [] =
      ap (by_writer w.me) cut
      ∙ (by_writer-append w.me (drop p.upto seen_so) on.0
      ∙ (ap (λ (l : Log). l ++ by_writer w.me on.0) p.behind
      ∙ others-none w.me on.0 on.2)) in
      ap (λ me. by_author me (drop p.upto h)) (sym is)
      ∙ (sym (history-by w.me (drop p.upto h))
      ∙ ap history_in (ap (by_writer w.me) (sym (drop-map logged.Shard p.upto h)) ∙ none))

  -- where an indexer wrote its documents, they are in the histories
  own-indexed : (n indexer shard : ℕ) → shard < 4 → w.me ≡ suc indexer → HasWritten n indexer w
      → IsIndexed n indexer shard (checkpoint load_key hs.book shard)
      (shard_history load_names hs src_name shard)
  own-indexed n indexer shard lt is x =
      let cell = src_cell shard in
      let h = history_at hs cell in
      let p = x.passed shard lt in
      let there : cell < 9 = omega (arith, src-is shard) in
      let mine : by_author (suc indexer) h ≡ history_in (own_at w cell) =
      ap (λ me. by_author me h) (sym is) ∙ shard-own cell there in
      let seen_so = get_or w.seen cell [] in
      let on = shard-on cell there in
      let front : history_in (take p.upto seen_so) ≡ take p.upto h =
      ap history_in (sym (take_still seen_so (log_of h) p.upto (on.0, on.1) p.within)
      ∙ take-map logged.Shard p.upto h)
      ∙ history-back (take p.upto h) in
      record {
        written = ap writes_in mine ∙ x.written shard lt;
        closed = ap is_pending mine ∙ x.closed shard lt;
        upto = p.upto;
        behind = of-others (λ e. e.by) (suc indexer) (drop p.upto h)
            (own-behind indexer shard lt is p);
        reached =
            let low : top (take p.upto h)
            ≤ checkpoint load_key (histories_in load_names w.seen).book shard =
            subst (λ f. top f ≤ checkpoint load_key (histories_in load_names w.seen).book shard)
            front p.reached in
            let up = checkpoint-on shard in
            omega (arith, low, up);
      }

-- what is known of a number that is one of the writers'
record HasAuthor (n : ℕ) (writers : List Writer) (hs : Histories) (number : ℕ) : Type 0 where
  place : ℕ
  within : place < 8
  is : number ≡ suc place
  writer : Writer
  numbered : writer.me ≡ number
  seen : GrewBy (λ entry. author_of entry ≢ writer.me) writer.seen (logs_in hs.shards hs.book)
  finished : IsFinished n (get_or load_roles place Reader) writer

-- the writers of a load have finished, and the histories end all logs
module _ (n : ℕ) (writers : List Writer) (hs : Histories)
    (done : AreFinished n 1 load_roles writers) (end : IsEndOf writers hs) where
  -- the writers' numbers
  abbrev IsNumber : ℕ → Type 0
  IsNumber number = Contains (map (λ w. w.me) writers) number

  -- what each writer has seen begins the logs
  seen-by : (w : Writer) → Contains writers w
      → GrewBy (λ entry. author_of entry ≢ w.me) w.seen (logs_in hs.shards hs.book)
  seen-by w there =
      All-contains (λ w. GrewBy (λ entry. author_of entry ≢ w.me) w.seen
      (logs_in hs.shards hs.book)) writers w end.seen there

  -- there is a writer of each number
  author-at : (number : ℕ) → IsNumber number → HasAuthor n writers hs number
  author-at number there =
      let p = place-of n 1 load_roles writers number there.0 done there.1 there.2 in
      let one = one-at n 1 load_roles writers p.place done p.within in
      record {
        place = p.place;
        within = p.within;
        is = omega (arith, p.is);
        writer = one.writer;
        numbered = one.numbered ∙ sym p.is;
        seen = seen-by one.writer one.there;
        finished = one.finished;
      }

  -- an indexer's documents are in the histories
  made-indexed : (indexer shard : ℕ) → indexer < 4 → shard < 4
      → IsIndexed n indexer shard (checkpoint load_key hs.book shard)
      (shard_history load_names hs src_name shard)
  made-indexed indexer shard few lt =
      let one = one-at n 1 load_roles writers indexer done (omega arith) in
      let is : one.writer.me ≡ suc indexer = omega (arith, one.numbered) in
      let finished = subst (λ role. IsFinished n role one.writer) (indexer-at indexer few)
      one.finished in
      own-indexed hs end.counted one.writer (seen-by one.writer one.there) n indexer shard lt is
      (ended-written n indexer one.writer finished)

  -- entries of the source that a writer made are those of an indexer
  author-alone : (number shard : ℕ) → shard < 4 → IsNumber number
      → AllByRecursion IsIndexerEntry
      (by_author number (shard_history load_names hs src_name shard))
  author-alone number shard lt there =
      let a = author-at number there in
      let cell = src_cell shard in
      let h = history_at hs cell in
      let low : cell < 4 = omega (arith, src-is shard) in
      elim (cases_lt a.place 4) [
        | inl few ↦
            each-so (λ e. e.by ≡ number) IsIndexerEntry
            (λ e by written. (a.place, few, by ∙ a.is)) (by_author number h)
            (of-author (λ e. e.by) number h)
        | inr many ↦
            let silent = ended-silent n (get_or load_roles a.place Reader) a.writer
            (quiet-at a.place many a.within) a.finished in
            let none : by_author number h ≡ [] =
            ap (λ me. by_author me h) (sym a.numbered)
            ∙ (shard-own hs end.counted a.writer a.seen cell (omega arith)
            ∙ ap history_in (silent cell low)) in
            subst (AllByRecursion IsIndexerEntry) (sym none) tt
      ]

  -- nobody else wrote to the source
  made-alone : (shard : ℕ) → shard < 4
      → AllByRecursion IsIndexerEntry (shard_history load_names hs src_name shard)
  made-alone shard lt =
      by-each (λ e. e.by) IsIndexerEntry IsNumber (shard_history load_names hs src_name shard)
      (λ number there. author-alone number shard lt there)
      (shard-each (λ entry. IsNumber (author_of entry)) hs.shards hs.book (src_cell shard)
      (omega (arith, end.counted, src-is shard)) end.signed)

  -- the destination has only what the topic gives
  made-delivered : (shard : ℕ) → shard < 4
      → AllByRecursion (λ e. IsDeliveredKind hs e.kind)
      (shard_history load_names hs dest_name shard)
  made-delivered shard lt =
      let h = shard_history load_names hs dest_name shard in
      by-each (λ e. e.by) (λ e. IsDeliveredKind hs e.kind) IsNumber h
      (λ number there.
      let a = author-at number there in
      subst (λ me. AllByRecursion (λ e. IsDeliveredKind hs e.kind) (by_author me h)) a.numbered
      (own-delivered hs end.counted a.writer a.seen
      (ended-sent n (get_or load_roles a.place Reader) a.writer a.finished) shard lt))
      (shard-each (λ entry. IsNumber (author_of entry)) hs.shards hs.book (dest_cell shard)
      (omega (arith, end.counted, dest-is shard)) end.signed)

  -- the book has only what is of the topic
  made-booked : AllByRecursion IsOfTopic hs.book
  made-booked =
      by-each booked_by IsOfTopic IsNumber hs.book
      (λ number there.
      let a = author-at number there in
      subst (λ me. AllByRecursion IsOfTopic (filter (λ e. booked_by e == me) hs.book)) a.numbered
      (own-booked hs end.counted a.writer a.seen
      (ended-sent n (get_or load_roles a.place Reader) a.writer a.finished)))
      (book-each (λ entry. IsNumber (author_of entry)) hs.shards hs.book end.signed)

  -- the topic is bound
  made-bound : binding_of load_key hs.book ≡ Some load_binding
  made-bound =
      let one = one-at n 1 load_roles writers 0 done (omega arith) in
      let x = ended-written n 0 one.writer one.finished in
      let book = (histories_in load_names one.writer.seen).book in
      let more = whole-book hs end.counted one.writer (seen-by one.writer one.there) in
      let bound : binding_of load_key hs.book ≡ Some x.binding =
      ap (binding_of load_key) more.1
      ∙ binding-stays load_key x.binding book more.0 x.bound in
      bound ∙ ap Some (bound-so hs.book x.binding made-booked bound)

-- where all writers of a load have finished, it was made
pub finished-made : FinishedLoadsAreMade
finished-made n writers hs few done end = record {
  few = few;
  law = end.law;
  indexed = made-indexed n writers hs done end;
  alone = made-alone n writers hs done end;
  delivered = made-delivered n writers hs done end;
  bound = made-bound n writers hs done end;
}
