-- Passes with their records (own).
use Rattle.std.specs.Prelude.{ℕ, ◌++◌, ◌∷◌, [], List, Option, None, Some}
use Rattle.shard_versions.specs.declared.cut.CutMark.{CutMark}
use Rattle.shard_versions.specs.declared.cut.OwnMark.{OwnMark}
use Rattle.running_site.specs.Passes.{TablePass}
use Rattle.running_site.specs.declared.pass.PassOf.{PassOf}

module _ {D : Type 0} where
  -- what a pass has: its pass of the table, its record, and its time
  abbrev pub content : PassOf (TablePass D) → Option (TablePass D) × List CutMark × List OwnMark × ℕ
  content pass = (pass.pass, pass.marks.items, pass.own.items, pass.now)

  -- this pass of the table with an empty record, at the time 0
  abbrev pub recorded : (TablePass D) → Option (TablePass D) × List CutMark × List OwnMark × ℕ
  recorded pass = (Some pass, [], [], 0)

  -- the pass of the table, where it is there
  abbrev pub inside_of : Option (TablePass D) → List (TablePass D)
  inside_of None = []
  inside_of (Some pass) = pass ∷ []

  -- the passes of the table
  abbrev pub passes_in : List (PassOf (TablePass D)) → List (TablePass D)
  passes_in [] = []
  passes_in (pass ∷ passes) = inside_of pass.pass ++ passes_in passes
