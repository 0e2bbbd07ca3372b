-- What a list of clauses holds: its clauses are smaller, and tests go over it from the front.
use Rattle.std.proofs.Common.{◌≡◌, ℕ, zero, suc, ◌+◌, ◌<◌, List, [], ◌∷◌, length, get_or, drop}
use Rattle.std.proofs.Common.{Bool, ◌++◌, ap, sym, map}
use Rattle.std.proofs.lemmas.List.{map-append}
use Rattle.std.proofs.Common.{true, false, refl, arith, ◌∙◌, ◌||◌, ◌&&◌, add-one}
use mathlib.Core.Bool.{beq}
use Rattle.std.specs.Prelude.{slice_index_or}
use Rattle.tuple_values.specs.Document.{Doc}
use Rattle.query_syntax.specs.Tree.{what_depth, clauses_depth, ClauseTree, trees_of}
use Rattle.query_syntax.specs.Items.{role_beside, require_last}
use Rattle.query_syntax.specs.Views.{what_tree, clause_tree, clause_trees}
use Rattle.query_syntax.specs.Matching.{some_clause, same_role, agrees, what_matches}
use Rattle.query_syntax.specs.declared.query.Role.{Role}
use Rattle.query_syntax.specs.declared.query.Clause.{Clause}

-- what a clause asks for is smaller than the clauses
pub clause_smaller : (clauses : List Clause) (k : ℕ) (c : Clause) → k < length clauses
    → c ≡ get_or clauses k c
    → what_depth (clause_tree c).what < clauses_depth (clause_trees clauses)
clause_smaller [] k c lt is = absurd (omega arith)
clause_smaller (b ∷ clauses) zero c lt is = rw is (omega arith)
clause_smaller (b ∷ clauses) (suc k) c lt is =
    omega (arith, clause_smaller clauses k c (omega arith) is)

-- some clause from a place on matches or fails: the one there, or some later one
pub some_clause-step : (clauses : List ClauseTree) (k : ℕ) (c : ClauseTree) (role : Role)
    (hit : Bool) (doc : Doc) → k < length clauses → c ≡ slice_index_or clauses k c
    → some_clause (trees_of (drop k clauses)) role hit doc
    ≡ ((same_role c.role role && agrees (what_matches c.what doc) hit)
    || some_clause (trees_of (drop (suc k) clauses)) role hit doc)
some_clause-step [] k c role hit doc lt is = absurd (omega arith)
some_clause-step (b ∷ clauses) zero c role hit doc lt is = rw is refl
some_clause-step (b ∷ clauses) (suc k) c role hit doc lt is =
    some_clause-step clauses k c role hit doc (omega arith) is

-- the one at this place is such a clause, so some one from here on is
pub some_clause-here : (clauses : List ClauseTree) (k : ℕ) (c : ClauseTree) (role : Role)
    (hit : Bool) (doc : Doc) → k < length clauses → c ≡ slice_index_or clauses k c
    → same_role c.role role ≡ true → agrees (what_matches c.what doc) hit ≡ true
    → some_clause (trees_of (drop k clauses)) role hit doc ≡ true
some_clause-here clauses k c role hit doc lt is same does =
    some_clause-step clauses k c role hit doc lt is ∙ rw (same, does) refl

-- it isn't, so it's for those behind it
pub some_clause-behind : (clauses : List ClauseTree) (k : ℕ) (c : ClauseTree) (role : Role)
    (hit : Bool) (doc : Doc) → k < length clauses → c ≡ slice_index_or clauses k c
    → (same_role c.role role && agrees (what_matches c.what doc) hit) ≡ false
    → some_clause (trees_of (drop k clauses)) role hit doc
    ≡ some_clause (trees_of (drop (k + 1) clauses)) role hit doc
some_clause-behind clauses k c role hit doc lt is other =
    some_clause-step clauses k c role hit doc lt is ∙ rw (other, add-one) refl

-- to agree is to be the same
pub agrees-beq : (value wanted : Bool) → agrees value wanted ≡ beq value wanted
agrees-beq true true = refl
agrees-beq true false = refl
agrees-beq false true = refl
agrees-beq false false = refl

-- a clause of the role, whose match is the wanted one, is such a clause
pub agrees-found : (found value hit matched : Bool) → found ≡ value → beq found hit ≡ matched
    → agrees value hit ≡ matched
agrees-found found value hit matched is same = agrees-beq value hit ∙ rw (← is) same

-- one whose match isn't the wanted one is none
pub agrees-missed : (role found value hit : Bool) → found ≡ value → beq found hit ≡ false
    → (role && agrees value hit) ≡ false
agrees-missed true found value hit is same = agrees-found found value hit false is same
agrees-missed false found value hit is same = refl

-- ---- the last clause

-- the last clause of some
pub require_last-append : (cs : List ClauseTree) (c : ClauseTree)
    → require_last (cs ++ c ∷ []) ≡ cs ++ record { role = role_beside c.role; what = c.what } ∷ []
require_last-append [] c = refl
require_last-append (d ∷ []) c = refl
require_last-append (d ∷ e ∷ cs) c =
    ap (λ (x : List ClauseTree). d ∷ x) (require_last-append (e ∷ cs) c)

-- the clauses with the last one anew
pub require_last-new : (old rest : List Clause) (new : List ClauseTree) (c : Clause) (role : Role)
    → old ≡ rest ++ c ∷ []
    → new ≡ clause_trees rest ++ clause_tree (record { role = role; what = c.what }) ∷ []
    → role ≡ role_beside c.role → new ≡ require_last (clause_trees old)
require_last-new old rest new c role old_is new_is role_is =
    new_is
    ∙ ap (λ (r : Role). clause_trees rest ++ record { role = r; what = what_tree c.what } ∷ [])
    role_is
    ∙ sym (ap (λ (l : List Clause). require_last (clause_trees l)) old_is
    ∙ ap require_last (map-append clause_tree rest (c ∷ []))
    ∙ require_last-append (map clause_tree rest) (clause_tree c))
