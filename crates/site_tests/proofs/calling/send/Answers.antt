use Rattle.std.proofs.Common.{◌≡◌, sym, subst}
use Rattle.std.specs.Prelude.{IfSome}
use Rattle.std.specs.List.{AllByRecursion}
use Rattle.site_laws.specs.Duties.{IsItem}
use Rattle.exchange_rules.proofs.GrowthLemmas.{grows_same}
use Rattle.running_site.specs.Passes.{writer_of}
use Rattle.running_site.specs.Sites.{layout_at}
use Rattle.case_items.specs.Items.{made_items, AreShown}
use Rattle.update_sink.specs.Given.{IsThereNow}
use Rattle.site_tests.proofs.SightLemmas.{items-sent}
use Rattle.site_tests.proofs.calling.send.Goals as goal

pub send-requires-clause-true_items : goal.send-requires-clause-true_items
send-requires-clause-true_items g c =
    let two = c.are_two.ensures c.if-not-are_two.false in
    let seen = (writer_of c.args.pass.now).seen in
    let dest = c.args.route.now.dest in
    let src = c.args.route.now.src in
    let shown = subst (λ n. AreShown n seen src c.args.cut.now) (sym c.names.ensures)
    c.requires.shown in
    let items = subst (λ o. IfSome o (AllByRecursion (IsItem c.names.result.now seen dest src)))
    c.in-Some.is (c.in_ok-items.ensures.items seen dest shown) in
    record {
      known = two.0;
      elsewhere = two.2;
      items = subst (λ n. AllByRecursion (IsItem n seen dest src) c.in-Some.items)
          c.names.ensures items;
    }

pub returns-then-not-are_two-clause-grown : goal.returns-then-not-are_two-clause-grown
returns-then-not-are_two-clause-grown g c = grows_same (writer_of c.args.pass.now).seen

pub returns-in_err-items-clause-grown : goal.returns-in_err-items-clause-grown
returns-in_err-items-clause-grown g c = grows_same (writer_of c.args.pass.now).seen

pub returns-in_default-clause-grown : goal.returns-in_default-clause-grown
returns-in_default-clause-grown g c = grows_same (writer_of c.args.pass.now).seen

pub returns-clause-there : goal.returns-clause-there
returns-clause-there g c =
    let two = c.are_two.ensures c.if-not-are_two.false in
    let old = writer_of c.args.pass.now in
    let new = writer_of c.send.new.pass in
    let dest = c.args.route.now.dest in
    let src = c.args.route.now.src in
    let made = subst (λ o. IfSome o (λ b. b ≡ made_items src c.args.cut.now)) c.in-Some.is
    c.in_ok-items.ensures.made in
    subst (AllByRecursion (IsThereNow c.args.site.now.names new.seen dest src)) made
    (items-sent old new (layout_at c.args.site.now) dest src c.in-Some.items _ two.0
    c.in_ok-send.ensures.course)
