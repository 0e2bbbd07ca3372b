use Rattle.std.proofs.Common.{◌+◌, drop, arith, length-drop}
use Rattle.std.specs.Prelude.{◌≡◌}
use Rattle.std.specs.List.{common_prefix_len}
use Rattle.std.proofs.lemmas.List.Sums.{common_prefix_len-le}
use Rattle.sort_spec.specs.Scan.{same_letter}
use Rattle.sort_spec.proofs.scan.letters_at.Goals as goal

pub returns-after-loop-k-clause-count : goal.returns-after-loop-k-clause-count
returns-after-loop-k-clause-count c =
    let k = c.loop-k.k in
    let text = drop (c.args.from + k) c.as_bytes-bytes.result.now in
    let word = drop k c.args.word.now in
    let most = common_prefix_len-le same_letter text word in
    let front = drop c.args.from c.as_bytes-bytes.result.now in
    let all : k ≡ common_prefix_len same_letter front c.args.word.now =
    omega (arith, c.loop-k.invariant.same, most.1, length-drop k c.args.word.now) in
    rw (← c.as_bytes-bytes.ensures.value) all
