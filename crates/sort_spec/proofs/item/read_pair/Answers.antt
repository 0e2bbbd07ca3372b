use Rattle.std.proofs.Common.{◌≡◌, ◌<◌, ◌∙◌, ap, sym, arith}
use Rattle.std.specs.List.{slice_range}
use Rattle.std.proofs.lemmas.Result.{err_from_is_err_and}
use Rattle.std.proofs.lemmas.Str.{IsCharBoundary-start}
use Rattle.tuple_values.specs.Document.{ByteList}
use Rattle.sort_spec.specs.Reading.{said, mapped}
use Rattle.sort_spec.specs.declared.pair.OnPair.{OnPair}
use Rattle.sort_spec.proofs.PieceLemmas.{pair_two, pair_one, refused}
use Rattle.sort_spec.proofs.item.read_pair.Goals as goal

pub range-requires-clause-end_boundary : goal.range-requires-clause-end_boundary
range-requires-clause-end_boundary c =
    c.end_of-end.ensures.boundary
    (c.end_of-start.ensures.boundary (IsCharBoundary-start c.args.piece.now c.utf8.piece))

pub returns-in_err-right-clause-computed : goal.returns-in_err-right-clause-computed
returns-in_err-right-clause-computed c =
    let p =
    err_from_is_err_and c.from_residual-in_err-right.result
    c.from_residual-in_err-right.ensures.1 in
    let start = c.end_of-start.result in
    let end = c.end_of-end.result in
    let some : start < end = grind arith in
    let read =
    pair_two c.args.piece.now start end c.end_of-start.ensures.end c.end_of-end.ensures.end some
    c.end_of-end.ensures.within
    (sym c.begins_with_equals.ensures.value ∙ c.if-begins_with_equals.true) in
    rw (p.1, p.2) (refused _ _ _ c.in_err-right.field-0.0 read c.in_err-right.ensures.computed)

pub returns-then-begins_with_equals-clause-computed :
    goal.returns-then-begins_with_equals-clause-computed
returns-then-begins_with_equals-clause-computed c =
    let start = c.end_of-start.result in
    let end = c.end_of-end.result in
    let some : start < end = grind arith in
    let left : c.in_ok-left.left ≡ slice_range c.args.piece.now start end =
    c.in_ok-left.ensures ∙ c.range.ensures.value in
    let pair : ByteList → OnPair = λ name. record { left = name; right = c.in_ok-right.right } in
    pair_two c.args.piece.now start end c.end_of-start.ensures.end c.end_of-end.ensures.end some
    c.end_of-end.ensures.within
    (sym c.begins_with_equals.ensures.value ∙ c.if-begins_with_equals.true)
    ∙ ap (mapped _) c.in_ok-right.ensures.computed
    ∙ ap (λ name. said (pair name)) (sym left)

pub returns-in_err-close-clause-computed : goal.returns-in_err-close-clause-computed
returns-in_err-close-clause-computed c =
    let p =
    err_from_is_err_and c.from_residual-in_err-close.result
    c.from_residual-in_err-close.ensures.1 in
    let start = c.end_of-start.result in
    let end = c.end_of-end.result in
    let some : start < end = grind arith in
    let read =
    pair_one c.args.piece.now start end c.end_of-start.ensures.end c.end_of-end.ensures.end some
    c.end_of-end.ensures.within
    (sym c.begins_with_equals.ensures.value ∙ c.if-begins_with_equals.false) in
    rw (p.1, p.2) (refused _ _ _ c.in_err-close.field-0.0 read c.in_err-close.ensures.computed)

pub returns-clause-computed : goal.returns-clause-computed
returns-clause-computed c =
    let start = c.end_of-start.result in
    let end = c.end_of-end.result in
    let some : start < end = grind arith in
    let left : c.in_ok-left.left ≡ slice_range c.args.piece.now start end =
    c.in_ok-left.ensures ∙ c.range.ensures.value in
    let right : c.in_ok-right-2.right ≡ slice_range c.args.piece.now start end =
    c.in_ok-right-2.ensures ∙ left in
    pair_one c.args.piece.now start end c.end_of-start.ensures.end c.end_of-end.ensures.end some
    c.end_of-end.ensures.within
    (sym c.begins_with_equals.ensures.value ∙ c.if-begins_with_equals.false)
    ∙ ap (mapped _) c.in_ok-close.ensures.computed
    ∙ ap (λ (name : ByteList).
    said (record { left = name; right = slice_range c.args.piece.now start end })) (sym left)
    ∙ ap (λ (name : ByteList). said (record { left = c.in_ok-left.left; right = name })) (sym right)
