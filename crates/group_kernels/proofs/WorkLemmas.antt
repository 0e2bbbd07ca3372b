-- A list with its first so many as a group.
use Rattle.std.proofs.Common.{◌≡◌, ℕ, List, [], ◌∷◌, Some, None, take, refl, ap}
use Rattle.std.specs.Prelude.{slice_get, codes}
use Rattle.tuple_values.specs.Document.{Doc, group, rows_of, put}
use Rattle.expr_types.specs.Groups.{with_group}

-- where there is a first
pub with_group-some : (n : ℕ) (docs : List Doc) (first : Doc) → slice_get docs 0 ≡ Some first
    → with_group n docs ≡ put (codes "group") (group (rows_of (take n docs))) first
with_group-some n [] first e = absurd (cc)
with_group-some n (doc ∷ docs) first e =
    let same : doc ≡ first = cc in
    ap (put (codes "group") (group (rows_of (take n (doc ∷ docs))))) same

-- and where there is none
pub with_group-none : (n : ℕ) (docs : List Doc) → slice_get docs 0 ≡ None
    → with_group n docs ≡ []
with_group-none n [] e = refl
with_group-none n (doc ∷ docs) e = absurd (cc)

-- what putting a group needs
pub ruleset group_steps = (with_group-some, with_group-none)
