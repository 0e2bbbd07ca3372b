-- What a search gives is what its parts say, and what it holds is what was to come.
use Rattle.std.proofs.Common.{◌≡◌, ℕ, List, [], ◌∷◌, ◌++◌, map, Option, Some, None, ap, sym, ◌∙◌}
use Rattle.std.specs.Prelude.{IfSome, IfNone, option_to_list}
use Rattle.std.specs.Option.{option_map_or}
use Rattle.tuple_values.specs.Document.{ByteList, Doc}
use Rattle.query_syntax.specs.declared.query.Query.{Query}
use Rattle.sort_spec.specs.declared.term.SortTerm.{SortTerm}
use Rattle.shard_versions.specs.declared.cut.CutPart.{CutPart}
use Rattle.expr_types.specs.ExprTree.{ExprTree, operator_in}
use Rattle.expr_types.specs.ExprTree.{expr_tree, expr_step}
use Rattle.expr_types.specs.Parts.{parts_of}
use Rattle.expr_types.specs.declared.expr.Expr.TheVariants as expr
use Rattle.expr_types.specs.declared.expr.Expr.TheFolds.{fold-roll-Expr}
use Rattle.expr_types.specs.declared.expr.Expr.TheOpen.{Expr-F}
use Rattle.source_streams.specs.Reads.{searched, found_in}
use Rattle.source_streams.specs.declared.part.Part.{Part}

pub searched-parts : (collection : ByteList) (q : Query) (fl : List ByteList) (by : List SortTerm)
    (rows : Option ℕ) (keys : Option (List ByteList)) (cut : List CutPart) (part : Part)
    → searched (expr.Search collection q fl by rows keys) cut part
    ≡ found_in (record {
      collection = collection;
      q = q.clauses;
      fl = fl;
      sort = by;
      rows = rows;
      partition_keys = keys;
    }) cut part
searched-parts collection q fl by rows keys cut part =
    ap (λ (t : ExprTree). option_map_or (λ p. found_in p cut part) (parts_of (operator_in t)) [])
    (ap expr_tree (sym (expr.rolls-Search collection q fl by rows keys))
    ∙ fold-roll-Expr ExprTree expr_step (Expr-F.Search collection q fl by rows keys))

-- the next one, and then what is to come after it
pub next_and_others : {T : Type 0} (doc : T → Doc) (next : Option T) (before after : List Doc)
    → IfSome next (λ item. before ≡ doc item ∷ after)
    → IfNone next ((before ≡ []) × (after ≡ []))
    → map doc (option_to_list next) ++ after ≡ before
next_and_others doc None before after some none = none.1 ∙ sym none.0
next_and_others doc (Some item) before after some none = sym some
