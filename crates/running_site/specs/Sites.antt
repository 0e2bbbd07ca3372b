-- What is said of a pass at its site (own).
use Rattle.exchange_rules.specs.Rows.{Layout}
use Rattle.logged_cells.specs.declared.logged_cell.LoggedCell.{LoggedCell}
use Rattle.running_site.specs.Passes.{layout_in, IsPassOf, TablePass}
use Rattle.running_site.specs.declared.pass.PassOf.{PassOf}
use Rattle.running_site.specs.declared.site.SiteOf.{SiteOf}

-- the collections of a site, and the limit on each of its shards
abbrev pub layout_at : {D A B C E F : Type 0} → SiteOf (LoggedCell D) A B C E F → Layout
layout_at site = layout_in site.names site.limit

-- the pass was made for this site, and has no turn
abbrev pub IsPassAt : {D A B C E F : Type 0} → SiteOf (LoggedCell D) A B C E F → PassOf (TablePass D)
    → Type 0
IsPassAt site pass = IsPassOf site.table.board.shared.table_id site.table.board.shared.key
    (layout_at site) pass
