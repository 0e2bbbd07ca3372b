-- The reading of a text is the one by the grammar, for all bytes.
use Rattle.std.proofs.Common.{◌≡◌, ⊎_elim, ℕ, suc, ◌+◌, ◌-◌, ◌<◌, ◌≤◌, [], ◌∷◌, ◌++◌, ◌↔◌}
use Rattle.std.proofs.Common.{List, length, take, drop, Option, Some, None, Ok, Err, refl}
use Rattle.std.proofs.Common.{ap, ◌∙◌, subst, arith, append_assoc, add-one}
use Rattle.std.proofs.lemmas.Bool.{cases_lt}
use Rattle.std.proofs.Math.Seq.{take-add}
use Rattle.tuple_values.specs.Document.{ByteList}
use Rattle.query_syntax.specs.Tree.{ClauseTree}
use Rattle.query_syntax.specs.Grammar.{IsQuery, GoesOn, IsPlace}
use Rattle.query_syntax.specs.Machine.{Machine, start}
use Rattle.query_syntax.specs.Steps.{step}
use Rattle.query_syntax.specs.Reading.{run, asks, query_of, read_of, Ends, at_a_byte}
use Rattle.query_syntax.specs.Reading.{at_the_end}
use Rattle.query_syntax.specs.Meaning.{IsReadable}
use Rattle.query_syntax.specs.Agreement.{IsFault, Agrees}
use Rattle.query_syntax.proofs.CompleteLemmas.{complete}
use Rattle.query_syntax.proofs.SoundLemmas.{sound}
use Rattle.query_syntax.proofs.PlaceLemmas.{ends_place}
use Rattle.query_syntax.proofs.ReadingLemmas.{read_of-says, read_of-ends}

-- ---- the place is one

-- a front of what goes on goes on
shorter : (front rest : ByteList) → GoesOn (front ++ rest) → GoesOn front
shorter front rest (more, clauses, q) =
    (rest ++ more, clauses, subst (λ t. IsQuery t clauses) (append_assoc front rest more) q)

-- no front goes on that is longer than the longest
longest_of : (bytes : ByteList) (at k : ℕ) → IsPlace bytes at → k ≤ length bytes
    → GoesOn (take k bytes) → k ≤ at
longest_of bytes at k p le goes = ⊎_elim
    (λ (less : at < k).
    let is : k ≡ (at + 1) + (k - (at + 1)) = omega arith in
    let split : take k bytes ≡ take (at + 1) bytes ++ take (k - (at + 1)) (drop (at + 1) bytes) =
    ap (λ n. take n bytes) is ∙ take-add (at + 1) (k - (at + 1)) bytes in
    absurd (p.longest (omega (arith, le))
    (shorter (take (at + 1) bytes) (take (k - (at + 1)) (drop (at + 1) bytes))
    (subst GoesOn split goes))))
    (λ (within : k ≤ at). within)
    (cases_lt at k)

-- so there is one place
place_one : (bytes : ByteList) (a b : ℕ) → IsPlace bytes a → IsPlace bytes b → a ≡ b
place_one bytes a b p q =
    let up = longest_of bytes a b p q.within q.front in
    let down = longest_of bytes b a q p.within p.front in
    omega (arith, up, down)

-- ---- where a run sticks

-- a run from a machine that takes not all bytes sticks at one of them
record SticksFrom (m : Machine) (bytes : ByteList) : Type 0 where
  at : ℕ
  within : at < length bytes
  end : Machine
  before : run (Some m) (take at bytes) ≡ Some end
  stuck : run (Some m) (take (suc at) bytes) ≡ None

-- it does
sticks_from : (m : Machine) (bytes : ByteList) → run (Some m) bytes ≡ None → SticksFrom m bytes
sticks_from m [] none = absurd (cc)
sticks_from m (b ∷ bytes) none =
    go (step m b (b ∷ [])) refl none (λ next n. sticks_from next bytes n)
  where
    go : (o : Option Machine) → step m b (b ∷ []) ≡ o → run o bytes ≡ None
        → ((next : Machine) → run (Some next) bytes ≡ None → SticksFrom next bytes)
        → SticksFrom m (b ∷ bytes)
    go None is n more = record {
      at = 0;
      within = omega arith;
      end = m;
      before = refl;
      stuck = ap (λ o. run o []) is;
    }
    go (Some next) is n more =
        let s = more next n in
        record {
          at = suc s.at;
          within = omega (arith, s.within);
          end = s.end;
          before = ap (λ o. run o (take s.at bytes)) is ∙ s.before;
          stuck = ap (λ o. run o (take (suc s.at) bytes)) is ∙ s.stuck;
        }

-- ---- what a reading is

-- the bytes say clauses, and that is their reading; or no query goes on at a place, which is it
data Way (bytes : ByteList) : Type 0 where
  says : (clauses : List ClauseTree) → query_of bytes ≡ Some clauses → Way bytes
  ends : (at : ℕ) → Ends bytes at → Way bytes

-- each is one of them
way : (bytes : ByteList) → Way bytes
way bytes = go (run (Some start) bytes) refl
  where
    asked : (m : Machine) → run (Some start) bytes ≡ Some m → (w : Option (List ClauseTree))
        → asks (Some m) ≡ w → Way bytes
    asked m ran None is = ends (length bytes) (at_the_end m refl ran is)
    asked m ran (Some clauses) is = says clauses (ap asks ran ∙ is)

    go : (o : Option Machine) → run (Some start) bytes ≡ o → Way bytes
    go None none =
        let s = sticks_from start bytes none in
        ends s.at (at_a_byte (record {
          within = s.within;
          machine = s.end;
          before = s.before;
          stuck = ap (λ n. run (Some start) (take n bytes)) (add-one s.at) ∙ s.stuck;
        }))
    go (Some m) ran = asked m ran (asks (Some m)) refl

-- where no query goes on the bytes are none
ends_unread : (bytes : ByteList) (at : ℕ) → Ends bytes at → ¬ (IsReadable bytes)
unfolding IsReadable
ends_unread bytes at e (clauses, q) =
    let place = read_of-ends bytes at e in
    let said = read_of-says bytes clauses (complete bytes clauses q) in cc

-- what is said is read
readable : (bytes : ByteList) (clauses : List ClauseTree) → query_of bytes ≡ Some clauses
    → IsReadable bytes
unfolding IsReadable
readable bytes clauses is = (clauses, sound bytes clauses is)

-- the reading is clauses exactly where the bytes say them
said_by : (bytes : ByteList) (clauses : List ClauseTree) → Way bytes
    → (read_of bytes ≡ Ok clauses) ↔ IsQuery bytes clauses
said_by bytes clauses (says others is) =
    let there = read_of-says bytes others is in (
      λ e. let same : others ≡ clauses = cc in
          sound bytes clauses (is ∙ ap Some same),
      λ q. read_of-says bytes clauses (complete bytes clauses q),
    )
said_by bytes clauses (ends at e) =
    let there = read_of-ends bytes at e in (
      λ is. absurd (cc),
      λ q. read_of-says bytes clauses (complete bytes clauses q),
    )

-- and a place exactly where it is that of their fault
placed_by : (bytes : ByteList) (at : ℕ) → Way bytes → (read_of bytes ≡ Err at) ↔ IsFault bytes at
placed_by bytes at (says clauses is) =
    let there = read_of-says bytes clauses is in (
      λ e. absurd (cc),
      λ fault. absurd (fault.unreadable (readable bytes clauses is)),
    )
placed_by bytes at (ends other e) =
    let there = read_of-ends bytes other e in (
      λ is. let same : other ≡ at = cc in
          record {
            unreadable = ends_unread bytes other e;
            place = subst (IsPlace bytes) same (ends_place bytes other e);
          },
      λ fault. there ∙ ap Err (place_one bytes other at (ends_place bytes other e) fault.place),
    )

-- the reading of a text agrees with the grammar
pub read_of-agrees : Agrees read_of
read_of-agrees = record {
  clauses = λ bytes clauses. said_by bytes clauses (way bytes);
  faults = λ bytes at. placed_by bytes at (way bytes);
}
