use Rattle.std.proofs.Common.{ap, sym, ◌∙◌, arith, ◌≤◌, length, ◌-◌}
use Rattle.form_request.specs.Ends.{head_length}
use Rattle.form_request.proofs.HeadLemmas.{FrontIs-found, FrontIs-fewer, FrontIs-overlong, length-front_of, length-front_of-le, length-slice, IsFrontWithin-more}
use Rattle.form_request.proofs.heads.read_front.Goals as goal

pub front_at-requires-clause-small : goal.front_at-requires-clause-small
front_at-requires-clause-small c =
    let front = c.searched_part-front.result.now in
    omega (
      arith,
      length-front_of c.args.bytes.now,
      ap length c.searched_part-front.ensures,
      length-slice front c.head_end-end.result.0.blank (c.in-Some.place - c.head_end-end.result.0.blank),
    )

pub returns-in-None-clause-front : goal.returns-in-None-clause-front
returns-in-None-clause-front c =
    FrontIs-fewer _ c.args.bytes.now
    (sym c.in-None.is ∙ c.head_end-end.ensures.end ∙ ap head_length c.searched_part-front.ensures)
    c.if-bytes-lt-HEAD_LIMIT.true

pub returns-in-None-2-clause-front : goal.returns-in-None-2-clause-front
returns-in-None-2-clause-front c =
    FrontIs-overlong _ c.args.bytes.now
    (sym c.in-None-2.is ∙ c.head_end-end.ensures.end ∙ ap head_length c.searched_part-front.ensures)
    c.if-bytes-lt-HEAD_LIMIT.false

pub returns-in_ok-found-in-Some-clause-front : goal.returns-in_ok-found-in-Some-clause-front
returns-in_ok-found-in-Some-clause-front c =
    let end = rw c.in-Some.is at c.head_end-end.ensures.found in
    let bytes = c.args.bytes.now in
    let fits : c.in-Some.place ≤ length bytes =
    omega (arith, end.1, ap length c.searched_part-front.ensures, length-front_of-le bytes) in
    FrontIs-found _ bytes c.searched_part-front.result.now _ c.in-Some.place _
    c.searched_part-front.ensures (sym c.head_end-end.ensures.end ∙ c.in-Some.is) end.3
    c.in_ok-found-in-Some.ensures.gives
    (IsFrontWithin-more c.in-Some.place (length bytes) c.in_ok-found-in-Some.found fits
    c.in_ok-found-in-Some.ensures.within)
