-- What is left of each writer of a load when it has finished.
use Rattle.std.proofs.Common.{◌≡◌, ℕ, zero, suc, ◌+◌, ◌<◌, ◌≤◌, false, List, [], ◌∷◌, ◌++◌, Some, length, get_or, map, take, drop, refl, sym, ap, subst, ◌∙◌, arith, append-nil}
use Rattle.std.specs.Prelude.{Contains, filter}
use Rattle.std.specs.List.{AllByRecursion}
use Rattle.shard_versions.specs.Fitness.{is_routed}
use Rattle.shard_versions.specs.Histories.{is_pending, top}
use Rattle.shard_versions.specs.declared.entry.Kind.TheVariants.{Put}
use Rattle.topic_book.specs.Books.{binding_of, checkpoint}
use Rattle.topic_book.specs.Cells.{cell_of, cells_in}
use Rattle.topic_book.specs.declared.topic.Binding.{Binding}
use Rattle.exchange_rules.specs.Bindings.{book_cell}
use Rattle.exchange_rules.specs.Cells.{Log, book_in, history_in}
use Rattle.exchange_rules.specs.Following.{Writer}
use Rattle.exchange_rules.specs.Own.{by_writer}
use Rattle.exchange_rules.proofs.CountLemmas.{by_writer-append}
use Rattle.exchange_rules.proofs.GrowthLemmas.{grows_at}
use Rattle.site_laws.specs.SiteCells.{histories_in}
use Rattle.load_rules.proofs.CellLemmas.{book-is, dest-is, src-is}
use Rattle.load_rules.specs.Documents.{indexed_documents}
use Rattle.load_rules.specs.Finished.{AreFinished, IsFinished, IsNew, load_roles}
use Rattle.load_rules.specs.Loaded.{IsDeliveredKind, writes_in}
use Rattle.load_rules.specs.Topic.{load_key, load_names}
use Rattle.load_rules.specs.Worked.{HasAdded, HasDelivered, HasIndexed, HasReached, HasRead, HasRun, IsOfTopic, dest_cell, own_at, src_cell}
use Rattle.load_rules.specs.declared.role.Role.{Role}
use Rattle.load_rules.specs.declared.role.Role.TheVariants.{Indexer, Reader, Runner}
use Rattle.load_laws.proofs.OwnLemmas.{added-none, behind-one, none-past}

-- the writer appended nothing to the source
abbrev pub IsSilent : Writer → Type 0
IsSilent w = (cell : ℕ) → cell < 4 → own_at w cell ≡ []

-- to the destination it appended what the topic gives, and to the book what is of the topic
pub record HasSent (w : Writer) : Type 0 where
  pub delivered : (shard : ℕ) → shard < 4
      → AllByRecursion (λ e. IsDeliveredKind (histories_in load_names w.seen) e.kind)
      (history_in (own_at w (dest_cell shard)))
  pub booked : AllByRecursion IsOfTopic (book_in (own_at w (book_cell load_names)))

-- the topic's checkpoint has reached the top of a first part of what was seen of a shard of the
-- source, behind which the writer has no entry
pub record HasPassed (w : Writer) (shard : ℕ) : Type 0 where
  pub upto : ℕ
  pub within : upto ≤ length (get_or w.seen (src_cell shard) [])
  pub reached : top (history_in (take upto (get_or w.seen (src_cell shard) [])))
      ≤ checkpoint load_key (histories_in load_names w.seen).book shard
  pub behind : by_writer w.me (drop upto (get_or w.seen (src_cell shard) [])) ≡ []

-- the writer wrote an indexer's documents, which the topic has reached, and the topic is bound
pub record HasWritten (n indexer : ℕ) (w : Writer) : Type 0 where
  pub written : (shard : ℕ) → shard < 4
      → writes_in (history_in (own_at w (src_cell shard)))
      ≡ filter (is_routed 4 shard) (map Put (indexed_documents n indexer))
  pub closed : (shard : ℕ) → shard < 4
      → is_pending (history_in (own_at w (src_cell shard))) ≡ false
  pub passed : (shard : ℕ) → shard < 4 → HasPassed w shard
  pub binding : Binding
  pub bound : binding_of load_key (histories_in load_names w.seen).book ≡ Some binding

-- who appended nothing sent nothing else
none-sent : (w : Writer) → IsNew w → HasSent w
none-sent w none = record {
  delivered = λ shard lt.
      subst (λ (l : Log).
      AllByRecursion (λ e. IsDeliveredKind (histories_in load_names w.seen) e.kind) (history_in l))
      (sym (none (dest_cell shard))) tt;
  booked = subst (λ (l : Log). AllByRecursion IsOfTopic (book_in l))
      (sym (none (book_cell load_names))) tt;
}

-- behind no entries its own are those that it added
own-steps : (steps : ℕ → Log) (old new : Writer) (cell : ℕ) → HasAdded steps old new
    → own_at old cell ≡ [] → own_at new cell ≡ steps cell
own-steps steps old new cell added none =
    added.own cell ∙ ap (λ (l : Log). l ++ steps cell) none

-- where it added none they stay
own-still : (steps : ℕ → Log) (old new : Writer) (cell : ℕ) → HasAdded steps old new
    → steps cell ≡ [] → own_at new cell ≡ own_at old cell
own-still steps old new cell added none =
    added.own cell
    ∙ (ap (λ (l : Log). own_at old cell ++ l) none ∙ append-nil (own_at old cell))

-- a run sends what it is to send, where nothing was sent before
run-sent : (old new : Writer) → ((cell : ℕ) → 4 ≤ cell → own_at old cell ≡ []) → HasRun old new
    → HasSent new
run-sent old new none run = record {
  delivered = λ shard lt.
      let cell = dest_cell shard in
      let high : 4 ≤ cell = omega (arith, dest-is shard) in
      subst (λ (l : Log).
      AllByRecursion (λ e. IsDeliveredKind (histories_in load_names new.seen) e.kind)
      (history_in l))
      (sym (own-steps run.steps old new cell run.added (none cell high)))
      (run.delivered shard lt);
  booked =
      let cell = book_cell load_names in
      let high : 4 ≤ cell = omega (arith, book-is) in
      subst (λ (l : Log). AllByRecursion IsOfTopic (book_in l))
      (sym (own-steps run.steps old new cell run.added (none cell high))) run.booked;
}

-- and nothing to the source
run-silent : (old new : Writer) → IsNew old → HasRun old new → IsSilent new
run-silent old new none run cell lt =
    own-steps run.steps old new cell run.added (none cell) ∙ run.elsewhere cell lt

-- who only read is as new
read-new : (old new : Writer) → IsNew old → HasRead old new → IsNew new
read-new old new none read cell = own-steps (λ cell. []) old new cell read (none cell)

-- each writer has sent what it is to send
pub ended-sent : (n : ℕ) (role : Role) (w : Writer) → IsFinished n role w → HasSent w
ended-sent n (Indexer k) w f =
    let x : HasIndexed n k f.first f.mid = f.worked in
    let d : HasDelivered f.mid w = f.ended in
    run-sent f.mid w (λ cell high.
    own-steps x.steps f.first f.mid cell x.added (f.is_new cell) ∙ x.elsewhere cell high) d.run
ended-sent n Reader w f =
    let e : w ≡ f.mid = f.ended in
    subst HasSent (sym e) (none-sent f.mid (read-new f.first f.mid f.is_new f.worked))
ended-sent n Runner w f =
    let e : w ≡ f.mid = f.ended in
    subst HasSent (sym e) (run-sent f.first f.mid (λ cell high. f.is_new cell) f.worked)

-- a role in which nothing is written
abbrev pub IsQuiet : Role → Type 0
IsQuiet (Indexer k) = ⊥
IsQuiet Reader = Unit {0}
IsQuiet Runner = Unit {0}

-- who has such a role wrote nothing
pub ended-silent : (n : ℕ) (role : Role) (w : Writer) → IsQuiet role → IsFinished n role w
    → IsSilent w
ended-silent n (Indexer k) w quiet f = absurd quiet
ended-silent n Reader w quiet f =
    let e : w ≡ f.mid = f.ended in
    subst IsSilent (sym e)
    (λ cell lt. read-new f.first f.mid f.is_new f.worked cell)
ended-silent n Runner w quiet f =
    let e : w ≡ f.mid = f.ended in
    subst IsSilent (sym e) (run-silent f.first f.mid f.is_new f.worked)

-- what a delivery has reached, behind which its writer has no entry
passed-of : (old new : Writer) (shard : ℕ) → HasRun old new → shard < 4 → HasReached old new shard
    → HasPassed new shard
passed-of old new shard run lt r =
    let cell = src_cell shard in
    let front = get_or old.seen cell [] in
    let more = grows_at old.seen new.seen run.added.grown cell in
    let low : cell < 4 = omega (arith, src-is shard) in
    let still : own_at new cell ≡ own_at old cell =
    own-still run.steps old new cell run.added (run.elsewhere cell low) in
    let whole : own_at new cell ≡ by_writer new.me front ++ by_writer new.me more.0 =
    ap (by_writer new.me) more.1 ∙ by_writer-append new.me front more.0 in
    let same : own_at old cell ≡ by_writer new.me front =
    ap (λ m. by_writer m front) (sym run.added.same) in
    let none : by_writer new.me more.0 ≡ [] =
    added-none (by_writer new.me front) (by_writer new.me more.0)
    (sym whole ∙ (still ∙ same)) in
    record {
      upto = r.upto;
      within = r.within;
      reached = r.reached;
      behind = ap (λ (l : Log). by_writer new.me (drop r.upto l)) more.1
          ∙ none-past _ r.upto front more.0 r.since none;
    }

-- an indexer has written its documents
pub ended-written : (n k : ℕ) (w : Writer) → IsFinished n (Indexer k) w → HasWritten n k w
ended-written n k w f =
    let x : HasIndexed n k f.first f.mid = f.worked in
    let d : HasDelivered f.mid w = f.ended in
    let own : (shard : ℕ) → shard < 4 → own_at w (src_cell shard) ≡ x.steps (src_cell shard) =
    λ shard lt.
    let cell = src_cell shard in
    let low : cell < 4 = omega (arith, src-is shard) in
    own-still d.run.steps f.mid w cell d.run.added (d.run.elsewhere cell low)
    ∙ own-steps x.steps f.first f.mid cell x.added (f.is_new cell) in
    record {
      written = λ shard lt. ap (λ (l : Log). writes_in (history_in l)) (own shard lt)
          ∙ x.written shard lt;
      closed = λ shard lt. ap (λ (l : Log). is_pending (history_in l)) (own shard lt)
          ∙ x.closed shard lt;
      passed = λ shard lt. passed-of f.mid w shard d.run lt (d.reached shard lt);
      binding = d.binding;
      bound = d.bound;
    }

-- one of the writers, with this number, has finished in this role
pub record HasOne (n : ℕ) (writers : List Writer) (number : ℕ) (role : Role) : Type 0 where
  pub writer : Writer
  pub there : Contains writers writer
  pub numbered : writer.me ≡ number
  pub finished : IsFinished n role writer

-- at each place there is one
pub one-at : (n number : ℕ) (roles : List Role) (writers : List Writer) (place : ℕ)
    → AreFinished n number roles writers → place < length roles
    → HasOne n writers (number + place) (get_or roles place Reader)
one-at n number [] writers place f lt = absurd (omega arith)
one-at n number (role ∷ roles) [] place f lt = absurd f
one-at n number (role ∷ roles) (w ∷ writers) zero f lt = record {
  writer = w;
  there = (zero, omega arith, refl);
  numbered = let e : number ≡ number + 0 = omega arith in f.0 ∙ e;
  finished = f.1;
}
one-at n number (role ∷ roles) (w ∷ writers) (suc place) f lt =
    let r = one-at n (suc number) roles writers place f.2 (omega arith) in
    let e : suc number + place ≡ number + suc place = omega arith in
    record {
      writer = r.writer;
      there = behind-one w writers r.writer r.there;
      numbered = r.numbered ∙ e;
      finished = r.finished;
    }

-- the number is that of a place, counted from this first one
pub record HasPlace (number a count : ℕ) : Type 0 where
  pub place : ℕ
  pub within : place < count
  pub is : a ≡ number + place

-- a number of one of the writers is
pub place-of : (n number : ℕ) (roles : List Role) (writers : List Writer) (a k : ℕ)
    → AreFinished n number roles writers → k < length (map (λ w. w.me) writers)
    → get_or (map (λ w. w.me) writers) k a ≡ a
    → HasPlace number a (length roles)
place-of n number [] [] a k f lt e = absurd (omega arith)
place-of n number [] (w ∷ writers) a k f lt e = absurd f
place-of n number (role ∷ roles) [] a k f lt e = absurd f
place-of n number (role ∷ roles) (w ∷ writers) a zero f lt e = record {
  place = 0;
  within = omega arith;
  is = let z : number ≡ number + 0 = omega arith in sym e ∙ (f.0 ∙ z);
}
place-of n number (role ∷ roles) (w ∷ writers) a (suc k) f lt e =
    let r = place-of n (suc number) roles writers a k f.2 (omega arith) e in
    record {
      place = suc r.place;
      within = omega (arith, r.within);
      is = omega (arith, r.is);
    }

-- the indexers are the first four of the writers
pub indexer-at : (k : ℕ) → k < 4 → get_or load_roles k Reader ≡ Indexer k
indexer-at zero lt = refl
indexer-at (suc zero) lt = refl
indexer-at (suc (suc zero)) lt = refl
indexer-at (suc (suc (suc zero))) lt = refl
indexer-at (suc (suc (suc (suc k)))) lt = absurd (omega arith)

-- the others write nothing
pub quiet-at : (k : ℕ) → 4 ≤ k → k < 8 → IsQuiet (get_or load_roles k Reader)
quiet-at zero le lt = absurd (omega arith)
quiet-at (suc zero) le lt = absurd (omega arith)
quiet-at (suc (suc zero)) le lt = absurd (omega arith)
quiet-at (suc (suc (suc zero))) le lt = absurd (omega arith)
quiet-at (suc (suc (suc (suc zero)))) le lt = tt
quiet-at (suc (suc (suc (suc (suc zero))))) le lt = tt
quiet-at (suc (suc (suc (suc (suc (suc zero)))))) le lt = tt
quiet-at (suc (suc (suc (suc (suc (suc (suc zero))))))) le lt = tt
quiet-at (suc (suc (suc (suc (suc (suc (suc (suc k)))))))) le lt = absurd (omega arith)
