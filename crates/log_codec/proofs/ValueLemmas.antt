-- Values and fields are read in one way.
use Rattle.std.proofs.Common.{◌≡◌, sym, ◌∙◌, ap, arith}
use Rattle.std.specs.Int.{w64, cast_signed, cast_unsigned}
use Rattle.std.proofs.Math.Facts.{Fits-of_z}
use Rattle.std.proofs.lemmas.Int.{to_z-of_z}
use Rattle.tuple_values.specs.Document.{long, text, group}
use Rattle.log_codec.specs.Codes.{spelled_text, IsReadInOneWay, IsText}
use Rattle.log_codec.specs.Documents.{spelled_field, spelled_value, IsSpellableField, IsSpellableValue}
use Rattle.log_codec.proofs.CodeLemmas.{number-one, text-one}
use Rattle.log_codec.proofs.PairLemmas.{head_of, tail_of, pair-one}

-- values are read in one way
pub value-one : IsReadInOneWay IsSpellableValue spelled_value
value-one (long a) (long b) x y fa fb same =
    let both = number-one (cast_unsigned w64 a) (cast_unsigned w64 b) x y (Fits-of_z fa).fits (Fits-of_z fb).fits (ap tail_of same) in
    (ap long (sym (to_z-of_z w64 a fa) ∙ ap (cast_signed w64) both.0 ∙ to_z-of_z w64 b fb), both.1)
value-one (long a) (text b) x y fa fb same =
    let none : 1 ≡ 2 = ap head_of same in absurd (omega (arith, none))
value-one (long a) (group b) x y fa fb same = absurd fb
value-one (text a) (long b) x y fa fb same =
    let none : 2 ≡ 1 = ap head_of same in absurd (omega (arith, none))
value-one (text a) (text b) x y fa fb same =
    let both = text-one a b x y fa fb (ap tail_of same) in
    (ap text both.0, both.1)
value-one (text a) (group b) x y fa fb same = absurd fb
value-one (group a) b x y fa fb same = absurd fa

-- fields are read in one way
pub field-one : IsReadInOneWay IsSpellableField spelled_field
field-one = pair-one IsText IsSpellableValue spelled_text spelled_value text-one value-one
