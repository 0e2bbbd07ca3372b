-- What bytes are told, by the law of the reader of expressions.
use Rattle.std.proofs.Common.{◌≡◌, ap, refl}
use Rattle.std.specs.Prelude.{Result, Ok, Err}
use Rattle.tuple_values.specs.Document.{ByteList}
use Rattle.expr_reader.specs.Agreement.{Agrees as AreReadings}
use Rattle.expr_reader.specs.Reading.{read_of}
use Rattle.expr_reader.specs.Tree.{CallTree}
use Rattle.expr_reader.specs.declared.fault.ExprFault.{ExprFault}
use Rattle.expr_reader.specs.declared.fault.ExprFault.TheVariants.{TooLarge, Syntax, OutOfMemory}
use Rattle.expr_text.specs.Agreement.{IsText, says, is_large, fails, Agrees}
use Rattle.expr_text.specs.Reading.{expression_of, plan_told}

-- what bytes are by how they were read
kind : AreReadings read_of → (bytes : ByteList) (read : Result CallTree ExprFault)
    → read_of bytes ≡ read → IsText bytes
kind law bytes (Ok tree) h = says tree ((law.expressions bytes tree).0 h)
kind law bytes (Err TooLarge) h = is_large ((law.large bytes).0 h)
kind law bytes (Err (Syntax at)) h = fails at ((law.faults bytes at).0 h)
kind law bytes (Err OutOfMemory) h = absurd (law.no_memory bytes h)

-- what bytes are told goes by what they are
pub told : AreReadings read_of → Agrees expression_of
told law = record {
  calls = λ roots names bytes tree w. ap (plan_told roots names) ((law.expressions bytes tree).1 w);
  large = λ roots names bytes h. ap (plan_told roots names) ((law.large bytes).1 h);
  faults = λ roots names bytes at h. ap (plan_told roots names) ((law.faults bytes at).1 h);
  all = λ bytes. kind law bytes (read_of bytes) refl;
}
