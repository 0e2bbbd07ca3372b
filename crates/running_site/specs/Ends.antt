-- What closed histories are by what the passes have seen (own).
use Rattle.std.specs.Prelude.{ℕ, ◌≡◌, ◌≢◌, List, [], All, Contains, get_or, map}
use Rattle.exchange_rules.specs.Cells.{author_of, Log}
use Rattle.turn_table.specs.Histories.{GrewBy}
use Rattle.running_site.specs.Passes.{number_of, numbers_to, writer_of, TablePass}
use Rattle.running_site.specs.declared.pass.PassOf.{PassOf}

module _ {D : Type 0} where
  -- what each pass has seen begins the logs, behind which no entry carries its number, and each
  -- entry carries one of the numbers of so many passes
  pub record IsEnd (passes : List (PassOf (TablePass D))) (count : ℕ) (logs : List Log) : Type 0 where
    pub seen : All (λ pass.
        GrewBy (λ entry. author_of entry ≢ number_of pass) (writer_of pass).seen logs) passes
    pub signed : All (All (λ entry. Contains (numbers_to count) (author_of entry))) logs

-- all passes that were made have just one end
abbrev pub IsOneEnd : Type 0 → Type 0
IsOneEnd D = (passes : List (PassOf (TablePass D))) (count : ℕ)
    → All (λ number. Contains (map number_of passes) number) (numbers_to count)
    → (logs others : List Log) → IsEnd passes count logs → IsEnd passes count others
    → (cell : ℕ) → get_or logs cell [] ≡ get_or others cell []
