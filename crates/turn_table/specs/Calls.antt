-- What the clauses of the calls read (own).
use Rattle.std.specs.Prelude.{ℕ, List, [], slice_index, Option, Some, None, option_map}
use Rattle.atomic_table.specs.Seated.{TableId}
use Rattle.turn_table.specs.declared.knowledge.Known.{Known}
use Rattle.turn_table.specs.declared.pass.Pass.{Pass}
use Rattle.turn_table.specs.declared.turn.Turn.{Turn}

-- what the pass knows
abbrev pub known : {C A E : Type 0} → Pass C A E → Known A E
known pass = pass.seat.me.0.pass

-- the table for which the pass was made
abbrev pub table_of : {C A E : Type 0} → Pass C A E → TableId
table_of pass = pass.seat.table_id

-- the fault words of the cells whose turns the pass holds
abbrev pub fault_words : {C A E : Type 0} → Pass C A E → List ℕ
fault_words pass = pass.seat.me.0.faults

-- the fault word of a cell whose turn the pass holds
abbrev pub fault_word : {C A E : Type 0} → Pass C A E → ℕ → ℕ
fault_word pass cell = slice_index (fault_words pass) cell

-- the history of the value, or no entry where there is no value
abbrev pub history_in : {C E : Type 0} → (C → List E) → Option C → List E
history_in history None = []
history_in history (Some value) = history value

-- the history of the cell whose turn it is
abbrev pub turn_history : {C E : Type 0} → (C → List E) → Turn C → List E
turn_history history turn = history_in history turn.value

-- what is fixed of the cell whose turn it is
abbrev pub turn_about : {C A : Type 0} → (C → A) → Turn C → Option A
turn_about about turn = option_map about turn.value

-- the count of faults of the value, or 0 where there is no value
abbrev pub faults_in : {C : Type 0} → (C → ℕ) → Option C → ℕ
faults_in fault_count None = 0
faults_in fault_count (Some value) = fault_count value

-- the count of faults of the cell whose turn it is
abbrev pub turn_faults : {C : Type 0} → (C → ℕ) → Turn C → ℕ
turn_faults fault_count turn = faults_in fault_count turn.value
