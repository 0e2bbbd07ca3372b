-- Open calls, the last opened first (own).
use Rattle.std.specs.Prelude.{◌≡◌, List, [], ◌∷◌, Option, Some, None}
use Rattle.std.proofs.Common.{refl}
use Rattle.std.specs.Coded.{Coded, code_by, coded×, coded_ℕ, coded_list, coded_option}
use Rattle.expr_reader.specs.Codes.{args_code}
use Rattle.expr_reader.specs.Tree.{ByteList, ArgTree}
use Rattle.expr_reader.specs.declared.open_calls.OpenCall.{OpenCall}

-- an open call by its parts
abbrev pub open_call_code : Coded OpenCall
open_call_code = code_by (ByteList × (List ArgTree × Option ByteList))
    (coded× (coded_list coded_ℕ) (coded× args_code (coded_option (coded_list coded_ℕ))))
    (λ o. (o.name, (o.args, o.key)))
    (λ p. record { name = p.0; args = p.1.0; key = p.1.1 }) (λ o. refl)

-- so lists of them have a code
abbrev pub open_calls_code : Coded (List OpenCall)
open_calls_code = coded_list open_call_code

-- the call that was opened last is taken off, if there is one
abbrev pub Pops : List OpenCall → Option OpenCall → List OpenCall → Type 0
Pops [] popped new = (popped ≡ None) × (new ≡ [])
Pops (o ∷ outer) popped new = (popped ≡ Some o) × (new ≡ outer)
