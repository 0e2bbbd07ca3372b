use Rattle.std.specs.List.{flat_map}
use Rattle.log_codec.specs.Codes.{spelled_text, AreSoMany, IsAtFront, IsText}
use Rattle.log_codec.proofs.lists.read_texts.Given as goal

-- so many texts were read
abbrev pub invariant-loop : goal.invariant-loop
invariant-loop l = IsAtFront (AreSoMany IsText l.counter) (flat_map spelled_text) l.bytes l.texts l.rest
