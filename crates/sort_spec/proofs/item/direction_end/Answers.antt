use Rattle.std.proofs.Common.{◌≡◌, length, drop, arith, ap, ◌∙◌}
use Rattle.std.specs.List.{common_prefix_len}
use Rattle.sort_spec.specs.Reading.{closed}
use Rattle.sort_spec.specs.Scan.{same_letter}
use Rattle.sort_spec.specs.Texts.{direction_word}
use Rattle.sort_spec.proofs.PieceLemmas.{word_at}
use Rattle.sort_spec.proofs.item.direction_end.Goals as goal

pub returns-clause-computed : goal.returns-clause-computed
returns-clause-computed c =
    let piece = c.args.piece.now in
    let word = direction_word c.args.descending in
    let count = c.letters_at-count.result in
    let stands : count ≡ common_prefix_len same_letter (drop c.args.from piece) word =
    c.letters_at-count.ensures.count
    ∙ ap (common_prefix_len same_letter (drop c.args.from piece)) c.direction_word-word.ensures in
    let all : count ≡ length word = omega (arith, ap length c.direction_word-word.ensures) in
    rw (word_at word (closed (tt {0})) piece c.args.from count stands all)
    c.close.ensures.computed
