-- What streams stand for (own).
use Rattle.std.specs.Prelude.{ℕ, suc, Bool, true, false, ◌+◌, length, List, [], ◌∷◌, map, refl}
use Rattle.std.specs.Coded.{Coded, code_by, coded×, coded_ℕ, coded_bool}
use Rattle.tuple_values.specs.Document.{Doc}
use Rattle.tuple_values.specs.Codes.{docs_code}
use Rattle.kernel_laws.specs.Rests.{Rests}

-- a stream is the list that is still to come, how deep it nests, and whether memory was wanting
abbrev pub Flow : Type 0
Flow = List Doc × ℕ × Bool

abbrev pub flow_code : Coded Flow
flow_code =
    code_by (List Doc × (ℕ × Bool)) (coded× docs_code (coded× coded_ℕ coded_bool))
    (λ f. (f.0, (f.1, f.2))) (λ p. (p.0, p.1.0, p.1.1)) (λ f. refl)

-- how deep it nests
abbrev pub depth_of : Flow → ℕ
depth_of f = f.1

-- the lists that several streams still give
abbrev pub rests_of : List Flow → Rests
rests_of flows = map (λ f. f.0) flows

-- how many tuples are to come of the inputs
abbrev pub to_come : List Flow → ℕ
to_come [] = 0
to_come (f ∷ fs) = length f.0 + to_come fs

-- how many inputs have not ended
abbrev pub unended : List Bool → ℕ
unended [] = 0
unended (true ∷ es) = unended es
unended (false ∷ es) = suc (unended es)
