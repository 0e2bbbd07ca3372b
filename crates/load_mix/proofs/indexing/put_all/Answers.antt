use Rattle.std.proofs.Common.{◌≡◌, [], ◌∷◌, ◌++◌, refl, sym, ◌∙◌, subst}
use Rattle.std.proofs.lemmas.Iterator.Adapters.{YieldsList-from_vec}
use Rattle.std.proofs.lemmas.Iterator.Consumers.{YieldsList-end}
use Rattle.std.proofs.lemmas.List.{map-id}
use Rattle.std.proofs.lemmas.Result.{on_ok_weaker}
use Rattle.exchange_rules.specs.Steps.{AreStorableWrites}
use Rattle.running_site.specs.Passes.{number_of, writer_of}
use Rattle.load_mix.specs.Puts.{HasPut}
use Rattle.load_mix.proofs.PutLemmas.{HasPutBut, but_all, but_none, but_put}
use Rattle.load_mix.proofs.indexing.put_all.Goals as goal

pub loop-write-init : goal.loop-write-init
loop-write-init g c =
    let w = writer_of c.args.pass.now in
    record {
      own = c.requires.own;
      number = refl;
      storable = subst AreStorableWrites (sym c.new-batch.ensures) tt;
      put = subst (λ b. HasPutBut b [] w w) (sym c.new-batch.ensures) (but_none w);
    }

pub loop-write-preserved-in-Continue-branch-2 : goal.loop-write-preserved-in-Continue-branch-2
loop-write-preserved-in-Continue-branch-2 g c =
    let old = writer_of c.args.pass.now in
    let mid = writer_of c.loop-write.pass in
    let new = writer_of c.put.new.pass in
    let batch = c.loop-write.batch in
    let given = c.loop-write.yielded in
    let full = c.replace-full.result in
    let left = c.replace-full.new.dest in
    let none : left ≡ [] = ◌∙◌ {a = left} c.replace-full.ensures.after c.new.ensures in
    let whole : full ≡ batch ++ c.in-Some.write ∷ [] =
    ◌∙◌ {a = full} c.replace-full.ensures.value c.in_ok-push.ensures.ok in
    record {
      own = c.in_ok-put.ensures.own;
      number = ◌∙◌ {a = number_of c.put.new.pass} c.in_ok-put.ensures.number
          c.loop-write.invariant.number;
      storable = subst AreStorableWrites (sym none) tt;
      put = but_all batch given left c.in-Some.write full old mid new whole none
          c.loop-write.invariant.put c.in_ok-put.ensures.done;
    }

pub returns-clause-done : goal.returns-clause-done
returns-clause-done g c =
    let old = writer_of c.args.pass.now in
    let mid = writer_of c.loop-write.pass in
    let new = writer_of c.put-2.new.pass in
    let batch = c.loop-write.batch in
    let given = c.loop-write.yielded in
    let items = c.into_vec-write-items.result in
    let gives = c.into_iter-write-iterator.ensures.into_iter_gives in
    let t = YieldsList-end (YieldsList-from_vec items.items gives.0 (gives.1 ∙ items.ok.0)) given
    c.loop-write.write-iterator c.loop-write.yielded_by c.next.result c.next.new.self c.in-None.is
    c.next.ensures.steps in
    let all : given ≡ c.args.writes =
    sym (map-id given) ∙ (t.0 ∙ c.into_vec-write-items.ensures) in
    on_ok_weaker c.put-2.result
    (λ p. subst (λ ws. HasPut ws old new) all
    (but_put batch given old mid new c.loop-write.invariant.put p))
    c.put-2.ensures.done
