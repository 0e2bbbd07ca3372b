use Rattle.std.proofs.Common.{◌≡◌, ℕ, ◌+◌, subst, sym, arith}
use Rattle.std.specs.List.{prefix_len}
use Rattle.std.specs.Str.{IsCharBoundary}
use Rattle.std.proofs.lemmas.Grind.{common_steps}
use Rattle.std.proofs.lemmas.Str.{IsCharBoundary-start}
use Rattle.sort_spec.specs.Grammar.{is_blank}
use Rattle.sort_spec.specs.declared.scan.Kind.TheVariants.{Blank}
use Rattle.sort_spec.proofs.ScanLemmas.{run_boundary}
use Rattle.expr_plan.proofs.words.blank_end.Goals as goal

pub returns-else-is_blank-clause-boundary : goal.returns-else-is_blank-clause-boundary
returns-else-is_blank-clause-boundary c =
    let text = c.args.text.now in
    let run : c.loop-at.at ≡ prefix_len is_blank text = grind (arith, common_steps) in
    let end : c.loop-at.at ≡ 0 + prefix_len is_blank text = omega (arith, run) in
    let P : ℕ → Type 0 = λ k. IsCharBoundary text k in
    subst P (sym end)
    (run_boundary Blank text 0 c.utf8.text (IsCharBoundary-start text c.utf8.text))
