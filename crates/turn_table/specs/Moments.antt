-- The law between any two steps, and what words and slots are then (own).
use Rattle.std.specs.Prelude.{ℕ, ◌+◌, ◌*◌, ◌≡◌, ◌⊎◌, ◌<◌, Bool, List, length, map, slice_index, Option}
use Rattle.atomic_table.specs.Table.{State}
use Rattle.turn_table.specs.declared.knowledge.View.{View}
use Rattle.turn_table.specs.Histories.{at}
use Rattle.turn_table.specs.declared.rule.Opening.{Opening}
use Rattle.turn_table.specs.Rule.{IsClosed, IsHeld, IsOpen}

module _ {C A E : Type 0} (about : C → A) (history : C → List E)
    (law : List A → List (List E) → Type 0) (settled : C → Type 0) (is_shut : C → Bool)
    (fault_count : C → ℕ) where
  -- the table between two steps: its histories meet the law; a turn word is 1 where one pass
  -- holds the turn, which has the history in hand, 2 where the value is at home and shut, and
  -- else 0, with the value at home, settled and not shut; a length word is the length of the
  -- history; a fault word is the count of faults of the value at home
  pub record IsMoment (abouts : List A) (s : State (Option C) (View A E)) : Type 0 where
    pub histories : List (List E)
    pub lawful : law abouts histories
    pub wide : length s.words ≡ 3 * length histories + 1
    pub deep : length s.homes ≡ length histories
    pub length_word : (cell : ℕ) → cell < length histories
        → slice_index s.words (3 * cell + 2) ≡ length (at histories cell)
    pub turn_word : (cell : ℕ) → cell < length histories
        → ((slice_index s.words (3 * cell + 1) ≡ 0)
        × IsOpen about history settled is_shut fault_count abouts s.homes (at histories cell)
        (slice_index s.words (3 * cell + 3)) cell
        × ¬ IsHeld s.views cell)
        ⊎ (((slice_index s.words (3 * cell + 1) ≡ 1) × IsHeld s.views cell)
        ⊎ ((slice_index s.words (3 * cell + 1) ≡ 2)
        × IsClosed about history settled is_shut fault_count abouts s.homes (at histories cell)
        (slice_index s.words (3 * cell + 3)) cell
        × ¬ IsHeld s.views cell))
    pub one_holder : (cell : ℕ) (h h' : IsHeld s.views cell)
        → (h.seat ≡ h'.seat) × (h.place ≡ h'.place)
    pub in_hand : (cell : ℕ) (h : IsHeld s.views cell) → h.history ≡ at histories cell

  -- each state of a table that keeps this rule is such a moment, whatever the table started with
  abbrev pub IsLawBetweenSteps : (Opening C → State (Option C) (View A E) → Type 0) → Type 0
  IsLawBetweenSteps rule = (opening : Opening C) (s : State (Option C) (View A E))
      → rule opening s → IsMoment (map about opening.cells.value) s
