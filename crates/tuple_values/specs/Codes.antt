-- Documents as lists of tokens, by which a proof tells them apart (own).
use Rattle.std.specs.Prelude.{ℕ, zero, suc, ℤ, pos, ◌≡◌, List, [], ◌∷◌, refl}
use Rattle.std.proofs.Common.{ap, ◌∙◌}
use Rattle.std.specs.Coded.{Coded, code_by, coded×, coded_ℕ, coded_ℤ, coded_list}
use Rattle.tuple_values.specs.Document.{Datum, long, text, group, Rows, no_rows, row, Fields, no_fields, field, Doc}

pub data Token : Type 0 where
  a_long : ℤ → Token
  a_text : List ℕ → Token
  a_group : Token
  a_blank : Token
  a_field : List ℕ → Token
  a_none : Token
  a_more : Token

abbrev mutual
  pub datum_tokens : Datum → List Token → List Token
  datum_tokens (long n) r = a_long n ∷ r
  datum_tokens (text t) r = a_text t ∷ r
  datum_tokens (group rs) r = a_group ∷ rows_tokens rs r

  pub rows_tokens : Rows → List Token → List Token
  rows_tokens no_rows r = a_none ∷ r
  rows_tokens (row fs rs) r = a_more ∷ fields_tokens fs (rows_tokens rs r)

  pub fields_tokens : Fields → List Token → List Token
  fields_tokens no_fields r = a_blank ∷ r
  fields_tokens (field n v fs) r = a_field n ∷ datum_tokens v (fields_tokens fs r)

-- what was read so far, from the back
pub record Stacks : Type 0 where
  pub vals : List Datum
  pub rows : List Rows
  pub fields : List Fields

abbrev pub first_of_list : {X : Type 0} → X → List X → X
first_of_list d [] = d
first_of_list d (x ∷ xs) = x

abbrev pub rest_of : {X : Type 0} → List X → List X
rest_of [] = []
rest_of (x ∷ xs) = xs

abbrev pub stack_token : Token → Stacks → Stacks
stack_token (a_long n) s = record { vals = long n ∷ s.vals; rows = s.rows; fields = s.fields }
stack_token (a_text t) s = record { vals = text t ∷ s.vals; rows = s.rows; fields = s.fields }
stack_token a_group s = record { vals = group (first_of_list no_rows s.rows) ∷ s.vals; rows = rest_of s.rows; fields = s.fields }
stack_token a_none s = record { vals = s.vals; rows = no_rows ∷ s.rows; fields = s.fields }
stack_token a_more s = record { vals = s.vals; rows = row (first_of_list no_fields s.fields) (first_of_list no_rows s.rows) ∷ rest_of s.rows; fields = rest_of s.fields }
stack_token a_blank s = record { vals = s.vals; rows = s.rows; fields = no_fields ∷ s.fields }
stack_token (a_field n) s = record { vals = rest_of s.vals; rows = s.rows; fields = field n (first_of_list (text []) s.vals) (first_of_list no_fields s.fields) ∷ rest_of s.fields }

abbrev pub stacked : List Token → Stacks
stacked [] = record { vals = []; rows = []; fields = [] }
stacked (t ∷ ts) = stack_token t (stacked ts)

mutual
  pub datum_read : (v : Datum) (r : List Token) → stacked (datum_tokens v r) ≡ record { vals = v ∷ (stacked r).vals; rows = (stacked r).rows; fields = (stacked r).fields }
  datum_read (long n) r = refl
  datum_read (text t) r = refl
  datum_read (group rs) r = ap (stack_token a_group) (rows_read rs r)

  pub rows_read : (rs : Rows) (r : List Token) → stacked (rows_tokens rs r) ≡ record { vals = (stacked r).vals; rows = rs ∷ (stacked r).rows; fields = (stacked r).fields }
  rows_read no_rows r = refl
  rows_read (row fs rs) r =
      ap (stack_token a_more) (fields_read fs (rows_tokens rs r)
      ∙ ap (λ (s : Stacks). record { vals = s.vals; rows = s.rows; fields = fs ∷ s.fields }) (rows_read rs r))

  pub fields_read : (fs : Fields) (r : List Token) → stacked (fields_tokens fs r) ≡ record { vals = (stacked r).vals; rows = (stacked r).rows; fields = fs ∷ (stacked r).fields }
  fields_read no_fields r = refl
  fields_read (field n v fs) r =
      ap (stack_token (a_field n)) (datum_read v (fields_tokens fs r)
      ∙ ap (λ (s : Stacks). record { vals = v ∷ s.vals; rows = s.rows; fields = s.fields }) (fields_read fs r))

abbrev pub token_parts : Token → ℕ × ℤ × List ℕ
token_parts (a_long n) = (0, n, [])
token_parts (a_text t) = (1, pos 0, t)
token_parts a_group = (2, pos 0, [])
token_parts a_blank = (3, pos 0, [])
token_parts (a_field n) = (4, pos 0, n)
token_parts a_none = (5, pos 0, [])
token_parts a_more = (6, pos 0, [])

abbrev pub token_from : ℕ → ℤ → List ℕ → Token
token_from zero n t = a_long n
token_from (suc zero) n t = a_text t
token_from (suc (suc zero)) n t = a_group
token_from (suc (suc (suc zero))) n t = a_blank
token_from (suc (suc (suc (suc zero)))) n t = a_field t
token_from (suc (suc (suc (suc (suc zero))))) n t = a_none
token_from (suc (suc (suc (suc (suc (suc k)))))) n t = a_more

abbrev pub token_back : (t : Token) → token_from (token_parts t).0 (token_parts t).1 (token_parts t).2 ≡ t
token_back (a_long n) = refl
token_back (a_text t) = refl
token_back a_group = refl
token_back a_blank = refl
token_back (a_field n) = refl
token_back a_none = refl
token_back a_more = refl

abbrev pub token_code : Coded Token
token_code = code_by (ℕ × (ℤ × List ℕ)) (coded× coded_ℕ (coded× coded_ℤ (coded_list coded_ℕ))) (λ t. ((token_parts t).0, ((token_parts t).1, (token_parts t).2))) (λ p. token_from p.0 p.1.0 p.1.1) token_back

abbrev pub datum_code : Coded Datum
datum_code = code_by (List Token) (coded_list token_code) (λ v. datum_tokens v []) (λ ts. first_of_list (text []) (stacked ts).vals) (λ v. ap (λ (s : Stacks). first_of_list (text []) s.vals) (datum_read v []))

abbrev pub rows_code : Coded Rows
rows_code = code_by (List Token) (coded_list token_code) (λ v. rows_tokens v []) (λ ts. first_of_list no_rows (stacked ts).rows) (λ v. ap (λ (s : Stacks). first_of_list no_rows s.rows) (rows_read v []))

abbrev pub doc_code : Coded Doc
doc_code = coded_list (coded× (coded_list coded_ℕ) datum_code)

abbrev pub docs_code : Coded (List Doc)
docs_code = coded_list doc_code
