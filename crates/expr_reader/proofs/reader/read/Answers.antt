use Rattle.std.proofs.Common.{◌-◌, take, drop, length, length-drop, subst}
use Rattle.std.proofs.Common.{arith}
use Rattle.std.proofs.lemmas.List.{take_all}
use Rattle.expr_reader.specs.Machine.{machine}
use Rattle.expr_reader.specs.Fault.{Answers}
use Rattle.expr_reader.proofs.ReadLemmas.{read_is}
use Rattle.expr_reader.proofs.reader.read.Goals as goal

pub returns : goal.returns
returns c =
    let bytes = c.args.bytes.now in
    let text = c.text_of-text.result.now in
    let ran = rw c.in_default.is at c.in_ok-fault.ensures in
    let is = read_is bytes text (take (length bytes - length text) (drop (length text) bytes))
    (machine c.run.new.reading) c.requires c.text_of-text.ensures
    (take_all _ _ (omega (arith, length-drop (length text) bytes))) ran in
    subst (λ r. Answers r c.finish.result) is c.finish.ensures
