-- The cells of a site: one for each shard, and last the book's (own).
use Rattle.std.specs.Prelude.{ℕ, ◌+◌, ◌++◌, ◌∷◌, [], List, replicate}
use Rattle.tuple_values.specs.declared.names.NameShards.{NameShards}
use Rattle.topic_book.specs.Cells.{cells_in}
use Rattle.exchange_rules.specs.Cells.{Log}
use Rattle.site_laws.specs.declared.cell_about.CellAbout.{CellAbout}
use Rattle.site_cells.specs.Values.{about_book, about_shard}

-- what is fixed of each cell of a site with these collections and this limit
abbrev pub abouts_of : List NameShards → ℕ → List CellAbout
abouts_of names limit =
    replicate (cells_in names) (about_shard names limit) ++ about_book names ∷ []

-- no cell has an entry
abbrev pub no_logs : List NameShards → List Log
no_logs names = replicate (cells_in names + 1) []
