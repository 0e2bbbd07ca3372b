use Rattle.std.proofs.Common.{◌≡◌, take}
use Rattle.std.specs.Prelude.{option_map, string_bytes}
use Rattle.expr_types.specs.Rows.{joined_texts, texts_of}
use Rattle.row_kernels.proofs.joining.joined.Given as goal

-- the texts of the fields so far are joined
abbrev pub invariant-loop-name : goal.invariant-loop-name
invariant-loop-name l =
    option_map string_bytes l.joined
    ≡ joined_texts l.delim (texts_of l.tuple (take l.name-index l.name-items))
