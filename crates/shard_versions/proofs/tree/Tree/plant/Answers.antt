use Rattle.std.proofs.Common.{sym, ◌∙◌, ap, cond, eqb, ◌+◌}
use Rattle.shard_versions.specs.Trees.{first_of}
use Rattle.shard_versions.proofs.TreeLemmas.{on_ok-tested, first-planted}
use Rattle.shard_versions.proofs.tree.Tree.plant.Goals as goal

pub returns-clause-roots : goal.returns-clause-roots
returns-clause-roots c =
    let u = on_ok-tested c.insert.result c.insert.ensures.updates (sym c.if-prove.ensures.value) in
    λ other. first-planted c.args.self.now.roots c.insert.new.self c.args.tag (c.len-number.result + 1) other u
    ∙ ap (λ n. cond (eqb c.args.tag other) (n + 1) (first_of c.args.self.now other))
    (c.len-number.ensures ∙ c.args.self.now.nodes.ok.0)
