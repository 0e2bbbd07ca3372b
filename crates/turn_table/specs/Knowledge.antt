-- What a pass knows, and how a step of its own changes that (own).
use Rattle.std.specs.Prelude.{ℕ, ◌+◌, ◌^◌, ◌≡◌, ◌||◌, Bool, true, false, cond, nat_le, nat_lt, List, [], ◌∷◌, length, replicate, slice_index, slice_index_or, slice_set, Option, Some, None}
use Rattle.turn_table.specs.declared.knowledge.Known.{Known}
use Rattle.turn_table.specs.declared.knowledge.View.{View}

-- this count of faults is more than the word, or the word is the last of 64 bits
abbrev pub has_risen : ℕ → ℕ → Bool
has_risen word faults = nat_lt word faults || nat_le (2 ^ 64) (word + 1)

module _ {A E : Type 0} where
  -- the history in hand of a cell, where the pass holds its turn
  abbrev pub hand : Known A E → ℕ → Option (List E)
  hand k cell = slice_index_or k.hand cell None

  -- what the pass had seen at its last look at the cell
  abbrev pub asof : Known A E → ℕ → List (List E)
  asof k cell = slice_index_or k.asof cell []

  -- the pass holds no turn
  abbrev pub IsFree : Known A E → Type 0
  IsFree k = (cell : ℕ) → hand k cell ≡ None

  -- each list has so many places
  pub record IsWide (k : Known A E) (count : ℕ) : Type 0 where
    pub seen : length k.seen ≡ count
    pub hand : length k.hand ≡ count
    pub met : length k.met ≡ count
    pub looks : length k.looks ≡ count
    pub asof : length k.asof ≡ count
    pub barred : length k.barred ≡ count
    pub broke : length k.broke ≡ count

  -- a pass that has seen nothing of so many cells, of a table that started with these histories
  -- and makes passes with these numbers
  abbrev pub fresh : List A → List (List E) → List ℕ → ℕ → ℕ → Known A E
  fresh about start numbers count number = record {
    about = about;
    start = start;
    numbers = numbers;
    number = number;
    seen = replicate count [];
    hand = replicate count None;
    met = replicate count 0;
    looks = replicate count 0;
    asof = replicate count [];
    barred = replicate count 0;
    broke = replicate count 0;
  }

  -- the pass took the turn of the cell, with this history
  abbrev pub took : ℕ → List E → Known A E → Known A E
  took cell history k = record k { hand = slice_set k.hand cell (Some history) }

  -- the pass found the turn of the cell taken
  abbrev pub missed : ℕ → Known A E → Known A E
  missed cell k = record k { met = slice_set k.met cell (slice_index k.met cell + 1) }

  -- the pass found the cell shut
  abbrev pub barred : ℕ → Known A E → Known A E
  barred cell k = record k { barred = slice_set k.barred cell (slice_index k.barred cell + 1) }

  -- the pass has found the turn of the cell taken so often
  abbrev pub waited : ℕ → ℕ → Known A E → Known A E
  waited cell count k = record k { met = slice_set k.met cell count }

  -- the pass looked at the cell, which has this history
  abbrev pub looked : ℕ → List E → Known A E → Known A E
  looked cell history k = record k {
    seen = slice_set k.seen cell history;
    looks = slice_set k.looks cell (slice_index k.looks cell + 1);
    asof = slice_set k.asof cell (slice_set k.seen cell history);
  }

  -- the pass sealed at the cell, which now has this history
  abbrev pub sealed : ℕ → List E → Known A E → Known A E
  sealed cell history k = record k {
    seen = slice_set k.seen cell history;
    hand = slice_set k.hand cell (Some history);
  }

  -- the pass gave the turn of the cell back
  abbrev pub gave : ℕ → Known A E → Known A E
  gave cell k = record k { hand = slice_set k.hand cell None }

  -- the pass wrote this count of faults over the cell's fault word
  abbrev pub noted : ℕ → ℕ → ℕ → Known A E → Known A E
  noted cell word faults k = record k {
    broke = slice_set k.broke cell
        (slice_index k.broke cell + cond (has_risen word faults) 1 0);
  }

  -- the passes that a seat has
  abbrev pub passes_of : View A E → List (Known A E)
  passes_of view = cond view.used (view.pass ∷ view.more) []

  -- the view of a seat with one pass, which knows these fault words
  abbrev pub lone : List ℕ → Known A E → View A E
  lone faults k = record { used = true; pass = k; more = []; faults = faults }

  -- the fault words of a pass that holds no turn
  abbrev pub blank : Known A E → List ℕ
  blank k = replicate (length k.hand) 0

  -- the view of a seat with these passes
  abbrev pub dealt : List (Known A E) → View A E
  dealt [] = record { used = false; pass = fresh [] [] [] 0 0; more = []; faults = [] }
  dealt (k ∷ ks) = record { used = true; pass = k; more = ks; faults = [] }
