use Rattle.std.proofs.Common.{◌≡◌, take, true}
use Rattle.std.specs.Str.{all_ascii_digits}
use Rattle.std.specs.Str.Parse.{digits_value}
use Rattle.form_request.proofs.fields.read_number.Given as goal

-- the bytes so far are digits, and the number is theirs
abbrev pub invariant-loop-digit : goal.invariant-loop-digit
invariant-loop-digit l =
    (all_ascii_digits (take l.digit-index l.value) ≡ true)
    × (l.number ≡ digits_value 10 (take l.digit-index l.value))
