-- Trees of clauses as lists of tokens, by which a proof tells them apart (own).
use Rattle.std.specs.Prelude.{ℕ, zero, suc, ◌≡◌, List, [], ◌∷◌, refl}
use Rattle.std.proofs.Common.{ap, ◌∙◌}
use Rattle.std.specs.Coded.{Coded, code_by, coded×, coded_ℕ, coded_bool, coded_list, coded_option}
use Rattle.tuple_values.specs.Document.{ByteList}
use Rattle.query_syntax.specs.Tree.{WhatTree, everything, on_field, nested, ClauseTrees, no_clauses}
use Rattle.query_syntax.specs.Tree.{a_clause, ClauseTree}
use Rattle.query_syntax.specs.PartCodes.{TestParts, test_parts, test_of, test_back}
use Rattle.query_syntax.specs.PartCodes.{role_number, role_from, role_back}
use Rattle.query_syntax.specs.declared.query.Role.{Role}
use Rattle.query_syntax.specs.declared.query.Test.{Test}
use Rattle.query_syntax.specs.declared.query.Test.TheVariants.{Present}

-- the parts of a tree: what it is, a role, a name and a test
abbrev pub Token : Type 0
Token = ℕ × (ℕ × (ByteList × TestParts))

-- a token without a test
abbrev pub bare_token : ℕ → ℕ → Token
bare_token kind role = (kind, (role, ([], test_parts Present)))

-- the tokens of a tree before others
abbrev mutual
  pub what_tokens : WhatTree → List Token → List Token
  what_tokens everything r = bare_token 0 0 ∷ r
  what_tokens (on_field name test) r = (1, (0, (name, test_parts test))) ∷ r
  what_tokens (nested clauses) r = bare_token 2 0 ∷ trees_tokens clauses r

  pub trees_tokens : ClauseTrees → List Token → List Token
  trees_tokens no_clauses r = bare_token 3 0 ∷ r
  trees_tokens (a_clause role what clauses) r =
      bare_token 4 (role_number role) ∷ what_tokens what (trees_tokens clauses r)

-- what was read so far, from the back
pub record Stacks : Type 0 where
  pub whats : List WhatTree
  pub lists : List ClauseTrees

-- the first of a list, or a default
abbrev pub first_of_list : {X : Type 0} → X → List X → X
first_of_list d [] = d
first_of_list d (x ∷ xs) = x

-- a list without its first
abbrev pub rest_of : {X : Type 0} → List X → List X
rest_of [] = []
rest_of (x ∷ xs) = xs

-- the stacks with one more thing that a clause asks for
abbrev pub with_what : WhatTree → Stacks → Stacks
with_what w s = record { whats = w ∷ s.whats; lists = s.lists }

-- the stacks with one more token, from the back
abbrev pub stack_token : ℕ → ℕ → ByteList → TestParts → Stacks → Stacks
stack_token zero role name test s = with_what everything s
stack_token (suc zero) role name test s = with_what (on_field name (test_of test)) s
stack_token (suc (suc zero)) role name test s =
    record {
      whats = nested (first_of_list no_clauses s.lists) ∷ s.whats;
      lists = rest_of s.lists;
    }
stack_token (suc (suc (suc zero))) role name test s =
    record { whats = s.whats; lists = no_clauses ∷ s.lists }
stack_token (suc (suc (suc (suc k)))) role name test s =
    record {
      whats = rest_of s.whats;
      lists = a_clause (role_from role)
          (first_of_list everything s.whats) (first_of_list no_clauses s.lists) ∷ rest_of s.lists;
    }

-- the stacks of a list of tokens
abbrev pub stacked : List Token → Stacks
stacked [] = record { whats = []; lists = [] }
stacked (t ∷ ts) = stack_token t.0 t.1.0 t.1.1.0 t.1.1.1 (stacked ts)

-- the stacks with one more list
abbrev pub with_list : ClauseTrees → Stacks → Stacks
with_list l s = record { whats = s.whats; lists = l ∷ s.lists }

-- which are read again
mutual
  pub what_read : (w : WhatTree) (r : List Token)
      → stacked (what_tokens w r) ≡ with_what w (stacked r)
  what_read everything r = refl
  what_read (on_field name test) r =
      ap (λ (t : Test). with_what (on_field name t) (stacked r)) (test_back test)
  what_read (nested clauses) r =
      ap (stack_token 2 0 [] (test_parts Present)) (trees_read clauses r)

  pub trees_read : (l : ClauseTrees) (r : List Token)
      → stacked (trees_tokens l r) ≡ with_list l (stacked r)
  trees_read no_clauses r = refl
  trees_read (a_clause role what clauses) r =
      ap (stack_token 4 (role_number role) [] (test_parts Present))
      (what_read what (trees_tokens clauses r) ∙ ap (with_what what) (trees_read clauses r))
      ∙ ap (λ (q : Role). with_list (a_clause q what clauses) (stacked r)) (role_back role)

-- a token has a code
abbrev pub token_code : Coded Token
token_code =
    coded× coded_ℕ (coded× coded_ℕ (coded× (coded_list coded_ℕ)
    (coded× coded_ℕ
    (coded× (coded_list coded_ℕ)
    (coded× (coded_option (coded_list coded_ℕ))
    (coded× coded_bool
    (coded× (coded_option (coded_list coded_ℕ)) coded_bool)))))))

-- what a clause asks for by its tokens
abbrev pub what_code : Coded WhatTree
what_code = code_by (List Token) (coded_list token_code) (λ w. what_tokens w [])
    (λ ts. first_of_list everything (stacked ts).whats)
    (λ w. ap (λ (s : Stacks). first_of_list everything s.whats) (what_read w []))

-- a clause by its role and what it asks for
abbrev pub clause_code : Coded ClauseTree
clause_code = code_by (ℕ × WhatTree) (coded× coded_ℕ what_code)
    (λ c. (role_number c.role, c.what))
    (λ p. record { role = role_from p.0; what = p.1 })
    (λ c. ap (λ (r : Role). record { role = r; what = c.what }) (role_back c.role))

-- and lists of them
abbrev pub clauses_code : Coded (List ClauseTree)
clauses_code = coded_list clause_code
