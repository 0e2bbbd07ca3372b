-- The passes so far have workers.
use Rattle.std.proofs.Common.{◌≡◌, length, map}
use Rattle.std.specs.Prelude.{vec_len}
use Rattle.running_site.specs.Passes.{writer_of}
use Rattle.load_mix.specs.Workers.{inside_in, inside_of, role_in, roles_to, writer_at}
use Rattle.load_mix.proofs.worker.with_roles.Given as goal

abbrev pub invariant-loop-pass : goal.invariant-loop-pass
invariant-loop-pass l = record {
  len : vec_len l.made ≡ length l.yielded;
  roles : map role_in l.made.items ≡ roles_to (length l.yielded);
  inside : map inside_in l.made.items ≡ map inside_of l.yielded;
  writers : map writer_at l.made.items ≡ map writer_of l.yielded;
}
