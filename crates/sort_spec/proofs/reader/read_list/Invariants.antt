use Rattle.std.proofs.Common.{◌≡◌, ◌+◌, ◌++◌, length}
use denote.Text.{Utf8}
use denote.Shadow.{shadow}
use Rattle.sort_spec.specs.Reading.{behind, mapped, listed}
use Rattle.sort_spec.proofs.reader.read_list.Given as goal

-- the items so far, and the place where the rest begins
abbrev pub invariant-loop-piece : goal.invariant-loop-piece
invariant-loop-piece g l =
    shadow (Utf8 l.rest)
    × (l.at + length l.rest ≡ length l.text)
    × (listed g.I.Item.reading l.text
    ≡ behind l.at (mapped (λ values. l.items ++ values) (listed g.I.Item.reading l.rest)))

abbrev pub decreases-loop-piece : goal.decreases-loop-piece
decreases-loop-piece g l = length l.rest
