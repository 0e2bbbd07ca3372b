use Rattle.std.proofs.Common.{◌≡◌, ◌++◌, ◌+◌, ◌≤◌, length, map, vec_capacity, vec_len}
use Rattle.std.specs.List.{list_any}
use Rattle.site_server.specs.Rows.{doors_in, failed_in, pass_in}
use Rattle.site_server.proofs.row.part_items.Given as goal

-- the items so far are parted
abbrev pub invariant-loop-item : goal.invariant-loop-item
invariant-loop-item g l =
    record {
      doors : l.doors.items ≡ l.fn.doors.items ++ doors_in l.yielded;
      passes : l.passes.items ≡ l.fn.passes.items ++ map pass_in l.yielded;
      failed : l.failed ≡ list_any failed_in l.yielded;
      room : vec_capacity l.doors ≡ vec_capacity l.fn.doors;
      place : vec_capacity l.passes ≡ vec_capacity l.fn.passes;
      long : vec_len l.doors ≤ vec_len l.fn.doors + length l.yielded;
    }
