-- What the counts of a list's clauses say of it.
use Rattle.std.proofs.Common.{◌≡◌, ℕ, ◌+◌, List, [], ◌∷◌, ◌++◌, Bool, true, false}
use Rattle.std.proofs.Common.{cond, ltb, lt-ltb, ◌||◌, ◌&&◌, refl, ap, ◌∙◌, arith}
use Rattle.std.proofs.lemmas.List.Sums.{sum_by-append, sum_by-cons}
use Rattle.tuple_values.specs.Document.{Doc}
use Rattle.query_syntax.specs.Counts.{one_of, count_in}
use Rattle.query_syntax.specs.Matching.{has_role, some_clause, same_role, agrees, what_matches}
use Rattle.query_syntax.specs.Tree.{ClauseTrees, no_clauses, a_clause, trees_of}
use Rattle.query_syntax.specs.Views.{clause_trees}
use Rattle.query_syntax.specs.declared.query.Role.{Role}
use Rattle.query_syntax.specs.declared.query.Clause.{Clause}

-- one more clause at the end
pub count_in-push : (role : Role) (clauses : List Clause) (c : Clause)
    → count_in role (clauses ++ c ∷ []) ≡ count_in role clauses + one_of c.role role
count_in-push role clauses c =
    sum_by-append (λ d. cond (same_role d.role role) 1 0) clauses (c ∷ [])
    ∙ ap (λ n. count_in role clauses + n)
    (sum_by-cons (λ (d : Clause). cond (same_role d.role role) 1 0) c [])
    ∙ omega arith

-- one and more are more than none
some_here : (n : ℕ) → ltb 0 (1 + n) ≡ true
some_here n = lt-ltb 0 (1 + n) (omega arith)

-- none and more are just these
zero-plus : (n : ℕ) → 0 + n ≡ n
zero-plus n = omega arith

-- some clause has the role exactly where they are more than none
pub has_role-count : (role : Role) (clauses : List Clause)
    → ltb 0 (count_in role clauses) ≡ has_role (trees_of (clause_trees clauses)) role
has_role-count role [] = refl
has_role-count role (c ∷ clauses) =
    ap (ltb 0) (sum_by-cons (λ d. cond (same_role d.role role) 1 0) c clauses)
    ∙ go (same_role c.role role) (has_role-count role clauses)
  where
    go : (b : Bool)
        → ltb 0 (count_in role clauses) ≡ has_role (trees_of (clause_trees clauses)) role
        → ltb 0 (cond b 1 0 + count_in role clauses)
        ≡ (b || has_role (trees_of (clause_trees clauses)) role)
    go true later = some_here (count_in role clauses)
    go false later = ap (ltb 0) (zero-plus (count_in role clauses)) ∙ later

-- no clause of a role is none that matches or fails
pub some_clause-none : (clauses : ClauseTrees) (role : Role) (hit : Bool) (doc : Doc)
    → has_role clauses role ≡ false → some_clause clauses role hit doc ≡ false
some_clause-none no_clauses role hit doc none = refl
some_clause-none (a_clause other what clauses) role hit doc none =
    go (same_role other role) none (λ h. some_clause-none clauses role hit doc h)
  where
    go : (b : Bool) → (b || has_role clauses role) ≡ false
        → (has_role clauses role ≡ false → some_clause clauses role hit doc ≡ false)
        → ((b && agrees (what_matches what doc) hit) || some_clause clauses role hit doc) ≡ false
    go true h later = absurd (cc)
    go false h later = later h
