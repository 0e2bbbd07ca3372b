use Rattle.std.specs.List.{flat_map}
use Rattle.log_codec.specs.Codes.{spelled_number, AreSoMany, IsAtFront, IsNumber}
use Rattle.log_codec.proofs.lists.read_numbers.Given as goal

-- so many numbers were read
abbrev pub invariant-loop : goal.invariant-loop
invariant-loop l =
    IsAtFront (AreSoMany IsNumber l.counter) (flat_map spelled_number) l.bytes l.numbers.items l.rest
