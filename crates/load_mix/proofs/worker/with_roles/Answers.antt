use Rattle.std.proofs.Common.{◌≡◌, ◌++◌, ◌∷◌, [], List, ap, length, map, sym, ◌∙◌, arith}
use Rattle.std.specs.Prelude.{false}
use Rattle.std.proofs.lemmas.List.{length_push}
use Rattle.running_site.specs.Passes.{writer_of}
use Rattle.load_mix.specs.Workers.{Worker, inside_in, inside_of, role_at, role_in, roles_to, writer_at}
use Rattle.load_mix.proofs.WorkerLemmas.{all_roles, map-push, roles-push}
use Rattle.load_mix.proofs.worker.with_roles.Goals as goal

pub loop-pass-preserved : goal.loop-pass-preserved
loop-pass-preserved c =
    let so_far = c.loop-pass.yielded in
    let pass = c.in-Some.pass in
    let made = c.loop-pass.made.items in
    let one : Worker = record {
      pass = c.set_now.new.self;
      role = c.role_at.result;
      is_done =
          false;
    } in
    let now : c.push.new.self.items ≡ made ++ one ∷ [] = c.in_ok-push.ensures.items in
    record {
      len = omega (arith, length_push so_far pass, c.in_ok-push.ensures.len);
      roles = ap (map role_in) now
          ∙ (map-push role_in made one
          ∙ (ap (λ l. l ++ c.role_at.result ∷ []) c.loop-pass.invariant.roles
          ∙ (ap (λ r. roles_to (length so_far) ++ r ∷ [])
          (c.role_at.ensures ∙ ap role_at (c.len.ensures ∙ c.loop-pass.invariant.len))
          ∙ sym (roles-push so_far pass))));
      inside = ap (map inside_in) now
          ∙ (map-push inside_in made one
          ∙ (ap (λ l. l ++ c.set_now.new.self.pass ∷ []) c.loop-pass.invariant.inside
          ∙ (ap (λ p. map inside_of so_far ++ p ∷ []) c.set_now.ensures.pass
          ∙ sym (map-push inside_of so_far pass))));
      writers = ap (map writer_at) now
          ∙ (map-push writer_at made one
          ∙ (ap (λ l. l ++ writer_of c.set_now.new.self ∷ []) c.loop-pass.invariant.writers
          ∙ (ap (λ w. map writer_of so_far ++ w ∷ []) c.set_now.ensures.writer
          ∙ sym (map-push writer_of so_far pass))));
    }
