-- How many clauses of each role a list has (own).
use Rattle.std.specs.Prelude.{ℕ, ◌≡◌, List, count_by, if◌then◌else◌}
use Rattle.query_syntax.specs.Matching.{same_role}
use Rattle.query_syntax.specs.declared.query.Role.{Role}
use Rattle.query_syntax.specs.declared.query.Role.TheVariants.{Required, Prohibited, Optional}
use Rattle.query_syntax.specs.declared.query.Clause.{Clause}
use Rattle.query_syntax.specs.declared.counts.Counts.{Counts}

-- the count that is kept for a role
abbrev pub count_for : Role → Counts → ℕ
count_for Required counts = counts.required
count_for Prohibited counts = counts.prohibited
count_for Optional counts = counts.optional

-- one where the role is the other one, and none else
abbrev pub one_of : Role → Role → ℕ
one_of role other = if same_role role other then 1 else 0

-- how many of the clauses have the role
abbrev pub count_in : Role → List Clause → ℕ
count_in role clauses = count_by (λ c. same_role c.role role) clauses

-- the counts are those of the clauses
abbrev pub AreCounted : Counts → List Clause → Type 0
AreCounted counts clauses = (role : Role) → count_for role counts ≡ count_in role clauses
