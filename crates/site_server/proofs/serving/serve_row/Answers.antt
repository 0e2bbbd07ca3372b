use Rattle.std.proofs.Common.{◌≡◌, ◌+◌, ◌++◌, ap, length, map, subst, sym, ◌∙◌, arith}
use Rattle.std.specs.Prelude.{All}
use Rattle.running_site.specs.Passes.{number_of}
use Rattle.running_site.specs.Sites.{IsPassAt}
use Rattle.site_server.specs.Items.{IsItemAt}
use Rattle.site_server.specs.Rows.{doors_in, pass_in}
use Rattle.site_server.proofs.ItemLemmas.{are-served, items-at, numbers-after, own-after, passes-for}
use Rattle.site_server.proofs.NumberLemmas.{length-new, new-from, numbers-new}
use Rattle.site_server.proofs.WorkedLemmas.{row-served}
use Rattle.site_server.proofs.serving.serve_row.Goals as goal

pub carry_out-requires-after_bounds : goal.carry_out-requires-after_bounds
carry_out-requires-after_bounds g c κs within =
    subst (All (IsItemAt c.args.site.now)) (sym c.add_items.ensures.items)
    (items-at c.args.site.now c.args.serving.now.workers c.into_vec-left.result.items
    c.args.passes.items c.requires.own)

pub returns-clause-own : goal.returns-clause-own
returns-clause-own g c =
    let site = c.args.site.now in
    let after = c.carry_out.new.items.items in
    let before = c.add_items.new.items.items in
    let carried = c.carry_out.ensures in
    let served = are-served _ _ site before after carried.count carried.each in
    subst (All (IsPassAt site))
    (sym (c.part_items-failed.ensures.passes
    ∙ ap (λ l. l ++ map pass_in after) c.requires.empty.2))
    (own-after _ _ site before after served)

pub returns-clause-numbers : goal.returns-clause-numbers
returns-clause-numbers g c =
    let site = c.args.site.now in
    let doors = c.into_vec-left.result.items in
    let passes = c.args.passes.items in
    let after = c.carry_out.new.items.items in
    let before = c.add_items.new.items.items in
    let carried = c.carry_out.ensures in
    let served = are-served _ _ site before after carried.count carried.each in
    ap (map number_of)
    (c.part_items-failed.ensures.passes ∙ ap (λ l. l ++ map pass_in after) c.requires.empty.2)
    ∙ (numbers-after _ _ site before after served
    ∙ (ap (λ l. map number_of (map pass_in l)) c.add_items.ensures.items
    ∙ (ap (map number_of) (passes-for c.args.serving.now.workers doors passes)
    ∙ numbers-new site.names passes _ c.requires.new)))

pub returns-clause-served : goal.returns-clause-served
returns-clause-served g c =
    let site = c.args.site.now in
    let n = c.args.serving.now.workers in
    let count = c.args.serving.now.workers + c.args.serving.now.runners in
    let doors = c.into_vec-left.result.items in
    let passes = c.args.passes.items in
    let after = c.carry_out.new.items.items in
    let before = c.add_items.new.items.items in
    let same : doors ≡ c.args.row.now = c.into_vec-left.ensures ∙ c.replace.ensures.value in
    let long : length passes ≡ count = length-new site.names passes count c.requires.new in
    row-served _ _ site n c.args.row.now doors c.from_vec.result passes
    c.part_items-failed.new.passes.items before after c.part_items-failed.result
    (omega (arith, ap length same)) (omega (arith, long))
    (new-from site.names passes count c.requires.new) c.add_items.ensures.items
    (are-served _ _ site before after c.carry_out.ensures.count c.carry_out.ensures.each) same
    (c.from_vec.ensures
    ∙ (c.put_behind.ensures
    ∙ (ap (λ l. l ++ c.add_items.new.row.items)
    (c.part_items-failed.ensures.doors ∙ ap (λ l. l ++ doors_in after) c.requires.empty.1)
    ∙ ap (λ l. doors_in after ++ l) c.add_items.ensures.row)))
    c.part_items-failed.ensures.failed
    (c.part_items-failed.ensures.passes ∙ ap (λ l. l ++ map pass_in after) c.requires.empty.2)
