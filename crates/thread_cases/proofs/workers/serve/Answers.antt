use Rattle.std.proofs.Common.{refl, sym, ◌∙◌, subst}
use Rattle.running_site.specs.Passes.{IsPassIn, writer_of}
use Rattle.running_site.specs.Sites.{layout_at}
use Rattle.thread_cases.proofs.workers.serve.Goals as goal

pub returns : goal.returns
returns g c =
    let site = c.args.site.now in record {
      own =
          subst (IsPassIn site.table.board.shared.table_id site.table.board.shared.key
          (layout_at site)) (sym c.take_record.ensures.pass)
          c.carry_out-worker.ensures.own;
      number = c.take_record.ensures.number ∙ c.carry_out-worker.ensures.number;
      task = refl;
      last = writer_of c.carry_out-worker.new.pass;
      work = c.carry_out-worker.ensures.work;
      gained = c.take_record.result;
      recorded = refl;
      marks = c.take_record.ensures.marks;
      steps = c.take_record.ensures.own;
      rest = c.take_record.ensures.rest;
    }
