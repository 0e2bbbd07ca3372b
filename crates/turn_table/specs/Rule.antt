-- What holds of the table of turns between any two steps (own).
-- Word 0 serves the seats. The turn word of a cell c is the word 3 c + 1, its length word the
-- word 3 c + 2, its fault word the word 3 c + 3, and its slot the slot c.
use Rattle.std.specs.Prelude.{ℕ, ◌+◌, ◌*◌, ◌≡◌, ◌≢◌, ◌⊎◌, ◌<◌, Bool, true, false, List, Contains, length, slice_get, slice_index, Option, Some}
use mathlib.Core.Option.{some}
use mathlib.Core.Option as place
use lib.ListN.{get_elem?}
use Rattle.atomic_table.specs.Table.{State}
use Rattle.turn_table.specs.declared.knowledge.Known.{Known}
use Rattle.turn_table.specs.declared.knowledge.View.{View}
use Rattle.turn_table.specs.Histories.{at, ArePrefixes, GrewBy}
use Rattle.turn_table.specs.Knowledge.{asof, hand, passes_of, IsWide}

module _ {A E : Type 0} where
  -- some pass, which some seat has, holds the turn of the cell
  pub record IsHeld (views : List (View A E)) (cell : ℕ) : Type 0 where
    pub seat : ℕ
    pub view : View A E
    pub place : ℕ
    pub pass : Known A E
    pub history : List E
    pub seated : get_elem? views seat ≡ some view
    pub placed : get_elem? (passes_of view) place ≡ some pass
    pub holds : hand pass cell ≡ Some history

  -- the seat has the pass with this number
  pub record HasPass (views : List (View A E)) (seat number : ℕ) : Type 0 where
    pub view : View A E
    pub place : ℕ
    pub pass : Known A E
    pub seated : get_elem? views seat ≡ some view
    pub placed : get_elem? (passes_of view) place ≡ some pass
    pub named : pass.number ≡ number

module _ {C A E : Type 0} (about : C → A) (history : C → List E) (fault_count : C → ℕ) where
  -- the cell's value lies in its slot, and has this history and this count of faults
  abbrev pub IsHome : List A → List (place.Option (Option C)) → List E → ℕ → ℕ → Type 0
  IsHome abouts homes entries faults cell = (value : C)
      × (get_elem? homes cell ≡ some (some (Some value)))
      × (slice_get abouts cell ≡ Some (about value)) × (history value ≡ entries)
      × (fault_count value ≡ faults)

module _ {C A E : Type 0} (about : C → A) (history : C → List E) (settled : C → Type 0)
    (is_shut : C → Bool) (fault_count : C → ℕ) where
  -- the value lies in its slot, settled and not shut
  abbrev pub IsOpen : List A → List (place.Option (Option C)) → List E → ℕ → ℕ → Type 0
  IsOpen abouts homes entries faults cell =
      (home : IsHome about history fault_count abouts homes entries faults cell)
      × settled home.0 × (is_shut home.0 ≡ false)

  -- the value lies in its slot, shut
  abbrev pub IsClosed : List A → List (place.Option (Option C)) → List E → ℕ → ℕ → Type 0
  IsClosed abouts homes entries faults cell =
      (home : IsHome about history fault_count abouts homes entries faults cell)
      × (is_shut home.0 ≡ true)

  -- the words, the slot and the views fit the cell's history
  pub record IsCell (abouts : List A) (histories : List (List E)) (words : List ℕ)
      (homes : List (place.Option (Option C))) (views : List (View A E)) (cell : ℕ)
      : Type 0 where
    pub long : slice_index words (3 * cell + 2) ≡ length (at histories cell)
    pub turn : ((slice_index words (3 * cell + 1) ≡ 0)
        × IsOpen abouts homes (at histories cell) (slice_index words (3 * cell + 3)) cell)
        ⊎ (((slice_index words (3 * cell + 1) ≡ 1) × IsHeld views cell)
        ⊎ ((slice_index words (3 * cell + 1) ≡ 2)
        × IsClosed abouts homes (at histories cell) (slice_index words (3 * cell + 3)) cell))

module _ {A E : Type 0} (writer : E → ℕ)
    (tells : List A → ℕ → List (List E) → List (List E) → Type 0) where
  -- what is true of one pass, which this seat has, with these fault words
  pub record IsPass (abouts : List A) (start : List (List E)) (numbers : List ℕ)
      (histories : List (List E)) (owner holder : ℕ → ℕ) (words faults : List ℕ)
      (seat : ℕ) (k : Known A E) : Type 0 where
    pub about_is : k.about ≡ abouts
    pub start_is : k.start ≡ start
    pub numbers_are : k.numbers ≡ numbers
    pub listed : Contains numbers k.number
    pub mine : owner k.number ≡ seat
    pub seen : GrewBy (λ entry. writer entry ≢ k.number) k.seen histories
    pub hands : (cell : ℕ) (entries : List E) → hand k cell ≡ Some entries
        → (cell < length histories) × (holder cell ≡ k.number)
        × (slice_index words (3 * cell + 1) ≡ 1) × (at histories cell ≡ entries)
    pub noted : (cell : ℕ) (entries : List E) → hand k cell ≡ Some entries
        → slice_index words (3 * cell + 3) ≡ slice_index faults cell
    pub told : (cell : ℕ) → 0 < slice_index k.looks cell
        → tells abouts cell (asof k cell) histories
    pub since : (cell : ℕ) → 0 < slice_index k.looks cell → ArePrefixes (asof k cell) k.seen
    pub wide : IsWide k (length histories)

module _ {C A E : Type 0} (about : C → A) (history : C → List E) (writer : E → ℕ)
    (law : List A → List (List E) → Type 0)
    (tells : List A → ℕ → List (List E) → List (List E) → Type 0) (settled : C → Type 0)
    (is_shut : C → Bool) (fault_count : C → ℕ) where
  -- the rule: there are histories that meet the law, and words, slots and views fit them
  pub record Kept (abouts : List A) (start : List (List E)) (numbers : List ℕ)
      (s : State (Option C) (View A E)) : Type 0 where
    pub histories : List (List E)
    -- the seat that has the pass with a number
    pub owner : ℕ → ℕ
    -- the number of the pass that holds the turn of a cell
    pub holder : ℕ → ℕ
    pub lawful : law abouts histories
    pub wide : length s.words ≡ 3 * length histories + 1
    pub deep : length s.homes ≡ length histories
    pub each_cell : (cell : ℕ) → cell < length histories
        → IsCell about history settled is_shut fault_count abouts histories s.words s.homes
        s.views cell
    pub each_pass : (seat place : ℕ) (view : View A E) (k : Known A E)
        → get_elem? s.views seat ≡ some view → get_elem? (passes_of view) place ≡ some k
        → IsPass writer tells abouts start numbers histories owner holder s.words view.faults
        seat k
    pub apart : (seat place other : ℕ) (view : View A E) (k l : Known A E)
        → get_elem? s.views seat ≡ some view → get_elem? (passes_of view) place ≡ some k
        → get_elem? (passes_of view) other ≡ some l → k.number ≡ l.number → place ≡ other
    pub all_found : (number : ℕ) → Contains numbers number
        → HasPass s.views (owner number) number
    pub counted : length start ≡ length histories
    pub grown : GrewBy (λ entry. Contains numbers (writer entry)) start histories
