-- What each kind of step tells the pass that makes it (own).
use Rattle.std.specs.Prelude.{ℕ, ◌+◌, ◌*◌, ◌≡◌, ◌≢◌, ◌⊎◌, ◌<◌, Bool, false, List, [], ◌∷◌, Contains, length, slice_get, slice_index, slice_set, Option, Some, None}
use Rattle.atomic_table.specs.Table.{Me, State, Step, rest}
use Rattle.turn_table.specs.declared.knowledge.Known.{Known}
use Rattle.turn_table.specs.declared.knowledge.View.{View}
use Rattle.turn_table.specs.Histories.{at, Adds, ArePrefixes, GrewBy}
use Rattle.turn_table.specs.Knowledge.{asof, barred, gave, hand, lone, looked, missed, noted, sealed, took}
use Rattle.turn_table.specs.Rule.{Kept}

-- what follows the old seen list carries other numbers than the pass's own, and what follows the
-- history at the start carries numbers of passes of the table
abbrev pub AddsOthers : {A E : Type 0} → (E → ℕ) → Known A E → ℕ → List E → Type 0
AddsOthers writer k cell entries = Adds (λ entry. writer entry ≢ k.number) (at k.seen cell) entries
    × Adds (λ entry. Contains k.numbers (writer entry)) (at k.start cell) entries

-- of a table with one pass, a look finds what the pass had seen, or what was there at the start
abbrev pub IsLawOfOnePass : (A : Type 0) {E : Type 0} → (E → ℕ) → Type 0
IsLawOfOnePass A {E} writer = (k : Known A E) (cell : ℕ) (entries : List E)
    → k.numbers ≡ k.number ∷ [] → AddsOthers writer k cell entries
    → (entries ≡ at k.seen cell) ⊎ (entries ≡ at k.start cell)

module _ {C A E : Type 0} (about : C → A) (history : C → List E) (writer : E → ℕ)
    (law : List A → List (List E) → Type 0)
    (tells : List A → ℕ → List (List E) → List (List E) → Type 0) (settled : C → Type 0)
    (is_shut : C → Bool) (fault_count : C → ℕ) where
  -- this state keeps the rule of the table for which the pass was made
  abbrev pub IsKeptFor : Known A E → State (Option C) (View A E) → Type 0
  IsKeptFor k =
      Kept about history writer law tells settled is_shut fault_count k.about k.start k.numbers

  -- a moment of the pass's table at which the turn word of the cell was 1
  pub record WasTaken (k : Known A E) (cell : ℕ) : Type 0 where
    pub state : State (Option C) (View A E)
    pub kept : IsKeptFor k state
    pub taken : slice_index state.words (3 * cell + 1) ≡ 1

  -- a moment of the pass's table at which the turn word of the cell was 2
  pub record WasShut (k : Known A E) (cell : ℕ) : Type 0 where
    pub state : State (Option C) (View A E)
    pub kept : IsKeptFor k state
    pub shut : slice_index state.words (3 * cell + 1) ≡ 2

  -- the pass's table at a look: its histories meet the law, what was seen begins them, the cell
  -- was seen whole, and what each look has told holds of them
  pub record Glimpse (cell : ℕ) (k : Known A E) : Type 0 where
    pub state : State (Option C) (View A E)
    pub kept : IsKeptFor k state
    pub seen : ArePrefixes k.seen kept.histories
    pub whole : at k.seen cell ≡ at kept.histories cell
    pub told : (other : ℕ) → 0 < slice_index k.looks other
        → tells k.about other (asof k other) kept.histories
    pub since : (other : ℕ) → 0 < slice_index k.looks other
        → ArePrefixes (asof k other) k.seen

  -- a moment of the pass's table: its histories meet the law, what the pass has seen begins them,
  -- and what follows is by other passes
  pub record Watched (k : Known A E) : Type 0 where
    pub state : State (Option C) (View A E)
    pub kept : IsKeptFor k state
    pub seen : GrewBy (λ entry. writer entry ≢ k.number) k.seen kept.histories

  -- nothing changes
  abbrev pub Watches : Step (Option C) → Me (Option C) (View A E) → ℕ → Me (Option C) (View A E)
      → Type 0
  Watches st me found after = (f : List ℕ) (k : Known A E) → me.0 ≡ lone f k
      → (after ≡ me) × Watched k

  -- a try found the turn word 0, and took the turn with the value; or it found 1, or 2
  abbrev pub Tries : Step (Option C) → Me (Option C) (View A E) → ℕ → Me (Option C) (View A E)
      → Type 0
  Tries st me found after = (cell : ℕ) (f : List ℕ) (k : Known A E) → st.word ≡ 3 * cell + 1
      → me.0 ≡ lone f k
      → (found ≡ 0 → (hand k cell ≡ None) × (value : C)
      × (slice_get k.about cell ≡ Some (about value))
      × (after.1 ≡ (cell, Some value) ∷ me.1)
      × (after.0 ≡ lone (slice_set f cell (fault_count value)) (took cell (history value) k))
      × settled value × (is_shut value ≡ false))
      × (found ≡ 1 → (after ≡ (lone f (missed cell k), me.1)) × WasTaken k cell)
      × (found ≢ 0 → found ≢ 1 → (after ≡ (lone f (barred cell k), me.1)) × WasShut k cell)

  -- a look found the length of the history in hand, which the pass has now seen
  abbrev pub Sees : Step (Option C) → Me (Option C) (View A E) → ℕ → Me (Option C) (View A E)
      → Type 0
  Sees st me found after = (cell : ℕ) (f : List ℕ) (k : Known A E) (entries : List E)
      → st.word ≡ 3 * cell + 2 → me.0 ≡ lone f k → hand k cell ≡ Some entries
      → (after ≡ (lone f (looked cell entries k), me.1)) × (found ≡ length entries)
      × AddsOthers writer k cell entries × Glimpse cell (looked cell entries k)

-- a seal: the history in hand becomes that of the value that lies in the slot
abbrev pub Seals : {C A E : Type 0} → (C → List E) → Step (Option C)
    → Me (Option C) (View A E) → ℕ → Me (Option C) (View A E) → Type 0
Seals {C} {A} {E} history st me found after = (cell : ℕ) (f : List ℕ) (k : Known A E) (value : C)
    → st.word ≡ 3 * cell + 2 → me.0 ≡ lone f k → me.1 ≡ (cell, Some value) ∷ rest me.1
    → after ≡ (lone f (sealed cell (history value) k), me.1)

-- a count of faults is written over the fault word that the pass knows, with the turn held
abbrev pub Notes : {C A E : Type 0} → Step (Option C) → Me (Option C) (View A E) → ℕ
    → Me (Option C) (View A E) → Type 0
Notes {C} {A} {E} st me found after = (cell : ℕ) (f : List ℕ) (k : Known A E) (entries : List E)
    → st.word ≡ 3 * cell + 3 → me.0 ≡ lone f k → hand k cell ≡ Some entries
    → after ≡ (
      lone (slice_set f cell st.first) (noted cell (slice_index f cell) st.first k),
      me.1,
    )

-- a turn is given back, and the slot with it
abbrev pub Gives : {C A E : Type 0} → Step (Option C) → Me (Option C) (View A E) → ℕ
    → Me (Option C) (View A E) → Type 0
Gives {C} {A} {E} st me found after = (cell : ℕ) (f : List ℕ) (k : Known A E)
    → st.word ≡ 3 * cell + 1 → me.0 ≡ lone f k → after ≡ (lone f (gave cell k), rest me.1)
