-- How a parallel splits its work (Solr Reference Guide, "Stream Decorator Reference", parallel).
use Rattle.std.specs.Prelude.{ℕ, List}
use Rattle.sort_spec.specs.declared.term.SortTerm.{SortTerm}

-- among how many workers, and by which sort what they give is merged
pub record Split : Type 0 where
  pub workers : ℕ
  pub sort : List SortTerm
