use Rattle.std.proofs.Common.{arith, length-take}
use Rattle.form_request.proofs.HeadLemmas.{front_of-short, front_of-long}
use Rattle.form_request.proofs.heads.searched_part.Goals as goal

pub returns-then-bytes-le-HEAD_LIMIT : goal.returns-then-bytes-le-HEAD_LIMIT
returns-then-bytes-le-HEAD_LIMIT c = front_of-short c.args.bytes.now c.if-bytes-le-HEAD_LIMIT.true

pub slice_bounds-result-end : goal.slice_bounds-result-end
slice_bounds-result-end c =
    omega (arith, c.if-bytes-le-HEAD_LIMIT.false, length-take 16384 c.args.bytes.now)

pub returns : goal.returns
returns c = front_of-long c.args.bytes.now
