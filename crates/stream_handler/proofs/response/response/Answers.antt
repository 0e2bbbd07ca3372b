use Rattle.std.proofs.Common.{◌≡◌, ◌++◌, IfOk, refl, subst}
use Rattle.tuple_values.specs.Document.{ByteList}
use Rattle.stream_handler.specs.Responses.{response}
use Rattle.stream_handler.proofs.response.response.Goals as goal

pub returns : goal.returns
returns c =
    let body = c.args.body in
    let whole : c.push_fields.new.out ++ body ≡ response c.args.status c.args.closes body =
    rw (
      c.in_ok-push_fields.ensures,
      c.in_ok-push_status_line.ensures,
      c.new-head.ensures,
      c.len.ensures,
    ) refl in
    subst (λ (w : ByteList). IfOk c.behind.result (λ bytes. bytes ≡ w)) whole c.behind.ensures
