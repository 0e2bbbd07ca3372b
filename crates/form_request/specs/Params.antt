-- Parameters of a query or of a form (the URL Standard, section 5.1; the choice of the first is own).
use Rattle.std.specs.Prelude.{ℕ, List, [], ◌∷◌, map, Option, None, Some, bytes_eq, if◌then◌else◌}
use Rattle.std.specs.Str.Lossy.{utf8_lossy}
use Rattle.form_urlencoded.specs.Form.{raw_pairs, decode}
use Rattle.form_request.specs.declared.request.Param.{Param}

-- the text of an encoded name or value, with U+FFFD for what isn't UTF-8
abbrev pub decoded : List ℕ → List ℕ
decoded bytes = utf8_lossy (decode bytes)

-- an encoded pair as a parameter
abbrev pub param_of : List ℕ × List ℕ → Param
param_of pair = record { name = decoded pair.0; value = decoded pair.1 }

-- encoded pairs as parameters
abbrev pub params_of_pairs : List (List ℕ × List ℕ) → List Param
params_of_pairs pairs = map param_of pairs

-- the parameters of a text, in order
abbrev pub params_of : List ℕ → List Param
params_of text = params_of_pairs (raw_pairs text)

-- the value of the first parameter of this name
abbrev pub first_value : List ℕ → List Param → Option (List ℕ)
first_value name [] = None
first_value name (p ∷ params) =
    if bytes_eq p.name name then Some p.value else first_value name params
