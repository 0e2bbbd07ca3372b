-- Tests and roles as numbers, texts and bounds, by which a proof tells them apart (own).
use Rattle.std.specs.Prelude.{ℕ, zero, suc, ◌≡◌, [], Bool, false, Option, None, refl}
use Rattle.std.specs.Coded.{Coded, code_by, coded×, coded_ℕ, coded_bool, coded_list, coded_option}
use Rattle.tuple_values.specs.Document.{ByteList}
use Rattle.query_syntax.specs.declared.query.Role.{Role}
use Rattle.query_syntax.specs.declared.query.Role.TheVariants.{Required, Prohibited, Optional}
use Rattle.query_syntax.specs.declared.query.Test.{Test}
use Rattle.query_syntax.specs.declared.query.Test.TheVariants.{Word, Prefix, Present, Range}

-- a test in numbers, texts and bounds
abbrev pub TestParts : Type 0
TestParts = ℕ × (ByteList × (Option ByteList × (Bool × (Option ByteList × Bool))))

-- a test as its kind, its text and its bounds
abbrev pub test_parts : Test → TestParts
test_parts (Word w) = (0, (w, (None, (false, (None, false)))))
test_parts (Prefix w) = (1, (w, (None, (false, (None, false)))))
test_parts Present = (2, ([], (None, (false, (None, false)))))
test_parts (Range low low_in high high_in) = (3, ([], (low, (low_in, (high, high_in)))))

-- and back
abbrev pub test_from : ℕ → ByteList → Option ByteList → Bool → Option ByteList → Bool → Test
test_from zero w low low_in high high_in = Word w
test_from (suc zero) w low low_in high high_in = Prefix w
test_from (suc (suc zero)) w low low_in high high_in = Present
test_from (suc (suc (suc k))) w low low_in high high_in = Range low low_in high high_in

-- the test of the parts
abbrev pub test_of : TestParts → Test
test_of p = test_from p.0 p.1.0 p.1.1.0 p.1.1.1.0 p.1.1.1.1.0 p.1.1.1.1.1

-- which gives the test again
abbrev pub test_back : (t : Test) → test_of (test_parts t) ≡ t
test_back (Word w) = refl
test_back (Prefix w) = refl
test_back Present = refl
test_back (Range low low_in high high_in) = refl

-- so tests have a code
abbrev pub test_code : Coded Test
test_code = code_by TestParts
    (coded× coded_ℕ
    (coded× (coded_list coded_ℕ)
    (coded× (coded_option (coded_list coded_ℕ))
    (coded× coded_bool
    (coded× (coded_option (coded_list coded_ℕ)) coded_bool)))))
    test_parts test_of test_back

-- a role as a number
abbrev pub role_number : Role → ℕ
role_number Required = 0
role_number Prohibited = 1
role_number Optional = 2

-- and back
abbrev pub role_from : ℕ → Role
role_from zero = Required
role_from (suc zero) = Prohibited
role_from (suc (suc k)) = Optional

-- which gives the role again
abbrev pub role_back : (r : Role) → role_from (role_number r) ≡ r
role_back Required = refl
role_back Prohibited = refl
role_back Optional = refl
