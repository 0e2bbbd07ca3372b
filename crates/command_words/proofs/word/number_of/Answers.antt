use Rattle.std.proofs.Common.{arith, rules}
use Rattle.command_words.proofs.WordLemmas.{number_unread}
use Rattle.command_words.proofs.word.number_of.Goals as goal

pub returns-in-Err : goal.returns-in-Err
returns-in-Err c =
    number_unread c.args.least c.args.most c.args.digits.now (omega arith)
    c.in-Err.ensures.value.0 (search rules)
