use Rattle.std.proofs.Common.{◌∙◌}
use Rattle.site_server.proofs.ItemLemmas.{served-now}
use Rattle.site_server.proofs.ListLemmas.{written}
use Rattle.site_server.proofs.serving.carry_out.Goals as goal

pub returns-clause-each : goal.returns-clause-each
returns-clause-each g c =
    served-now _ _ c.args.site.now c.as_mut_slice-items.result.now c.serve_items.new.items _ _
    c.as_mut_slice-items.ensures.value
    (written c.args.items.now.len c.serve_items.new.items _
    (c.serve_items.ensures.count ∙ c.as_mut_slice-items.ensures.len))
    c.serve_items.ensures.each
