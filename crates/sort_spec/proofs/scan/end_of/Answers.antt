use Rattle.std.proofs.Common.{◌≡◌, ℕ, ◌+◌, drop, subst, sym, arith}
use Rattle.std.specs.List.{prefix_len}
use Rattle.std.specs.Str.{IsCharBoundary}
use Rattle.std.proofs.lemmas.Grind.{common_steps}
use Rattle.sort_spec.specs.Scan.{is_of}
use Rattle.sort_spec.proofs.ScanLemmas.{run_boundary}
use Rattle.sort_spec.proofs.scan.end_of.Goals as goal

pub returns-else-holds-clause-boundary : goal.returns-else-holds-clause-boundary
returns-else-holds-clause-boundary c =
    let text = c.args.text.now in
    let end : c.loop-at.at ≡ c.args.from + prefix_len (is_of c.args.kind) (drop c.args.from text) =
    grind (arith, common_steps) in
    let P : ℕ → Type 0 = λ k. IsCharBoundary text k in
    λ begins. subst P (sym end) (run_boundary c.args.kind text c.args.from c.utf8.text begins)
