-- Open lists, the last opened first (own).
use Rattle.std.specs.Prelude.{◌≡◌, ℕ, List, [], ◌∷◌, Option, Some, None}
use Rattle.std.proofs.Common.{refl, ap, ◌∙◌}
use Rattle.std.specs.Coded.{Coded, code_by, coded×, coded_ℕ, coded_list, coded_option}
use Rattle.tuple_values.specs.Document.{ByteList}
use Rattle.query_syntax.specs.Codes.{clauses_code}
use Rattle.query_syntax.specs.PartCodes.{role_number, role_from, role_back}
use Rattle.query_syntax.specs.Tree.{ClauseTree}
use Rattle.query_syntax.specs.declared.query.Role.{Role}
use Rattle.query_syntax.specs.declared.open_lists.Outside.{Outside}
use Rattle.query_syntax.specs.declared.open_lists.Outside.TheVariants.{Same, Other}
use Rattle.query_syntax.specs.declared.open_lists.OpenList.{OpenList}

-- the field outside as one that may be there
abbrev pub outside_option : Outside → Option (Option ByteList)
outside_option Same = None
outside_option (Other field) = Some field

-- and back
abbrev pub outside_from : Option (Option ByteList) → Outside
outside_from None = Same
outside_from (Some field) = Other field

-- which gives it again
abbrev pub outside_back : (o : Outside) → outside_from (outside_option o) ≡ o
outside_back Same = refl
outside_back (Other field) = refl

-- an open list by its parts
abbrev pub open_list_code : Coded OpenList
open_list_code =
    code_by (ℕ × (List ClauseTree × Option (Option ByteList)))
    (coded× coded_ℕ (coded× clauses_code (coded_option (coded_option (coded_list coded_ℕ)))))
    (λ o. (role_number o.role, (o.clauses, outside_option o.outside)))
    (λ p. record { role = role_from p.0; clauses = p.1.0; outside = outside_from p.1.1 })
    (λ o. ap (λ (r : Role). record {
      role = r;
      clauses = o.clauses;
      outside = outside_from (outside_option o.outside);
    }) (role_back o.role)
    ∙ ap (λ (x : Outside). record { role = o.role; clauses = o.clauses; outside = x })
    (outside_back o.outside))

-- so lists of them have a code
abbrev pub open_lists_code : Coded (List OpenList)
open_lists_code = coded_list open_list_code

-- the list that was opened last is taken off, if there is one
abbrev pub Pops : List OpenList → Option OpenList → List OpenList → Type 0
Pops [] popped new = (popped ≡ None) × (new ≡ [])
Pops (o ∷ outer) popped new = (popped ≡ Some o) × (new ≡ outer)
