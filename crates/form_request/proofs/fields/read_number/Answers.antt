use Rattle.std.proofs.Common.{◌<◌, Bool, sym, subst, ◌∙◌, arith, get_or}
use Rattle.std.specs.Bool.{OnTrue}
use Rattle.std.specs.Char.{digit_value}
use Rattle.std.proofs.lemmas.Int.Digits.{digits_value_more}
use Rattle.form_request.proofs.LengthLemmas.{digits-small, digit-value, all_ascii_digits-more, number_of-other}
use Rattle.form_request.proofs.fields.read_number.Goals as goal

pub overflow_mul-number : goal.overflow_mul-number
overflow_mul-number c =
    omega (
      arith,
      c.loop-digit.invariant.1,
      digits-small c.args.value.now c.loop-digit.digit-index (omega arith) c.loop-digit.invariant.0,
    )

pub overflow_add-number : goal.overflow_add-number
overflow_add-number c =
    let P : Bool → Type 0 = λ b. OnTrue b (digit_value (get_or c.args.value.now c.loop-digit.digit-index 0) < 10) in
    let digit = digit-value (get_or c.args.value.now c.loop-digit.digit-index 0)
    (subst P c.if-not-is_ascii_digit.false c.is_ascii_digit.ensures.bound) in
    omega (
      arith,
      c.loop-digit.invariant.1,
      digit.1,
      digits-small c.args.value.now c.loop-digit.digit-index (omega arith) c.loop-digit.invariant.0,
    )

pub loop-digit-preserved : goal.loop-digit-preserved
loop-digit-preserved c =
    let is = sym c.is_ascii_digit.ensures.value ∙ c.if-not-is_ascii_digit.false in
    let P : Bool → Type 0 = λ b. OnTrue b (digit_value (get_or c.args.value.now c.loop-digit.digit-index 0) < 10) in
    let digit = digit-value (get_or c.args.value.now c.loop-digit.digit-index 0)
    (subst P c.if-not-is_ascii_digit.false c.is_ascii_digit.ensures.bound) in (
      all_ascii_digits-more _ _ c.loop-digit-test.true c.loop-digit.invariant.0 is,
      omega (
        arith,
        c.loop-digit.invariant.1,
        digit.0,
        digits_value_more 10 c.args.value.now c.loop-digit.digit-index c.loop-digit-test.true,
      ),
    )

pub returns-then-not-is_ascii_digit : goal.returns-then-not-is_ascii_digit
returns-then-not-is_ascii_digit c =
    number_of-other c.args.value.now c.loop-digit.digit-index c.loop-digit-test.true
    (sym c.is_ascii_digit.ensures.value ∙ c.if-not-is_ascii_digit.true)
