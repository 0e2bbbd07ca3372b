use Rattle.std.proofs.Common.{refl, sym, ap, subst}
use Rattle.std.specs.Prelude.{IfSome}
use Rattle.std.specs.List.{AllByRecursion}
use Rattle.site_laws.specs.Duties.{IsItem, MaySend}
use Rattle.running_site.specs.Passes.{writer_of}
use Rattle.site_cases.proofs.NameLemmas.{apart}
use Rattle.site_cases.proofs.case.send_to.Goals as goal

pub send-requires-clause-true_items : goal.send-requires-clause-true_items
send-requires-clause-true_items g c =
    let names = c.args.fixture.now.site.names in
    let seen = (writer_of c.items_of.new.fixture.pass).seen in
    let dest = c.args.dest.now in
    let src = c.args.src.now in
    subst (λ n. MaySend n seen dest src c.in-Some.batch)
    (sym (ap (λ s. s.names) c.in_ok-batch.ensures.site))
    (record {
      known = c.if-not-knows.ensures.0 refl;
      elsewhere = apart src dest c.as_str.result.now c.as_str-else-not-knows-2.result.now c.eq.result
          c.as_str.ensures c.as_str-else-not-knows-2.ensures c.eq.ensures c.if-eq.false;
      items = subst (λ o. IfSome o (AllByRecursion (IsItem names seen dest src))) c.in-Some.is
          (c.in_ok-batch.ensures.items dest);
    })
