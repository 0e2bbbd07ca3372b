-- Names of keys, one after another.
use Rattle.std.proofs.Common.{◌≡◌, List, [], ◌∷◌, ◌++◌, Option, Some, None, refl, ap, sym}
use Rattle.std.proofs.lemmas.List.{append-nil}
use Rattle.std.proofs.Common.{append_assoc}
use Rattle.tuple_values.specs.Document.{ByteList}
use Rattle.expr_check.specs.Partitions.{with_first}

-- names before others, where those are there
abbrev pub with_all : List ByteList → Option (List ByteList) → Option (List ByteList)
with_all names None = None
with_all names (Some more) = Some (names ++ more)

-- no name before others is all of them
pub with_all-none : (names : Option (List ByteList)) → with_all [] names ≡ names
with_all-none None = refl
with_all-none (Some names) = refl

-- one more name
pub with_all-more : (names : List ByteList) (name : ByteList) (rest : Option (List ByteList))
    → with_all names (with_first (Some name) rest) ≡ with_all (names ++ (name ∷ [])) rest
with_all-more names name None = refl
with_all-more names name (Some rest) = ap Some (sym (append_assoc names (name ∷ []) rest))

-- all names
pub with_all-end : (names : List ByteList) → with_all names (Some []) ≡ Some names
with_all-end names = ap Some (append-nil names)

-- what finds the new names of keys needs
pub ruleset renamed_steps = (with_all-none, with_all-more, with_all-end)
