-- What a pass has seen that is alone at its site (own).
use Rattle.std.specs.Prelude.{ℕ, ◌≡◌, [], All, get_or}
use Rattle.atomic_table.specs.Seated.{TableId}
use Rattle.exchange_rules.specs.Cells.{author_of}
use Rattle.exchange_rules.specs.Rows.{Layout}
use Rattle.turn_table.specs.declared.rule.Opening.{Opening}
use Rattle.logged_cells.specs.declared.logged_cell.LoggedCell.{LoggedCell}
use Rattle.running_site.specs.Passes.{number_of, numbers_to, writer_of, IsPassOf, TablePass}
use Rattle.running_site.specs.declared.pass.PassOf.{PassOf}

-- each entry that the only pass of a site has seen is its own
abbrev pub IsLawOfOnePass : Type 0 → Type 0
IsLawOfOnePass D = (table : TableId) (key : Opening (LoggedCell D)) (l : Layout) (pass : PassOf (TablePass D))
    → IsPassOf table key l pass → key.numbers.value ≡ numbers_to 1 → (cell : ℕ)
    → All (λ entry. author_of entry ≡ number_of pass) (get_or (writer_of pass).seen cell [])
