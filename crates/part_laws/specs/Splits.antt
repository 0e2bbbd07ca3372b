-- What is so of the inputs of parallels in expressions without a fault (own).
use Rattle.std.specs.Prelude.{◌≡◌, ◌<◌, ◌≤◌, [], IsSome, true}
use Rattle.sort_spec.specs.Sorting.{IsAscending}
use Rattle.sort_spec.specs.Terms.{less}
use Rattle.expr_types.specs.Limits.{worker_limit}
use Rattle.expr_types.specs.Lists.{list_of}
use Rattle.expr_types.specs.Plain.{IsPlain}
use Rattle.expr_types.specs.Rules.{Collections}
use Rattle.expr_check.specs.Partitions.{holds_keys}
use Rattle.expr_check.specs.Parts.{PartTree, parallels_of}
use Rattle.expr_check.specs.Walk.{keys_of}

-- the work of a parallel may be split among its workers: its input only reads, holds no parallel
-- and has partition keys, there is a worker and there are no more than 16, and the sort, in which
-- the input gives its tuples whatever the documents are, has a term of each key
pub record IsSplit (p : PartTree) : Type 0 where
  pub plain : IsPlain p.input
  pub unsplit : parallels_of p.input ≡ []
  pub keyed : IsSome (keys_of p.input)
  pub some : 0 < p.split.workers
  pub few : p.split.workers ≤ worker_limit
  pub held : holds_keys p.split.sort (keys_of p.input) ≡ true
  pub ascends : (docs : Collections) → IsAscending (less p.split.sort) (list_of docs p.input)
