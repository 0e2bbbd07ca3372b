use Rattle.std.proofs.Common.{◌≡◌, ◌≤◌, length, vec_capacity, vec_len}
use Rattle.site_server.specs.Rows.{behind, items_for}
use Rattle.site_server.proofs.row.add_items.Given as goal

-- the passes so far have items
abbrev pub invariant-loop-pass : goal.invariant-loop-pass
invariant-loop-pass g l =
    record {
      items : l.items.items ≡ items_for l.fn.workers l.fn.row.items l.yielded;
      left : (l.left, l.row.items) ≡ behind l.fn.workers l.fn.row.items l.yielded;
      capacity : vec_capacity l.items ≡ vec_capacity l.fn.items;
      len : vec_len l.items ≡ length l.yielded;
      rest : vec_len l.row ≤ vec_len l.fn.row;
    }
