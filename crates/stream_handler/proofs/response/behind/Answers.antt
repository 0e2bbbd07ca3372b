use Rattle.std.proofs.Common.{◌≡◌, ℕ, ◌-◌, ◌++◌, length, take, drop, ap, ◌∙◌, arith}
use Rattle.std.proofs.Math.Seq.{drop-append_seam, take-append_seam}
use Rattle.std.proofs.lemmas.List.{length-append}
use Rattle.tuple_values.specs.Document.{ByteList}
use Rattle.stream_handler.proofs.response.behind.Goals as goal

-- what follows a list of so many elements with it, brought to its front
to_front : (body head : ByteList) (n : ℕ) → n ≡ length (body ++ head)
    → drop (n - length head) (body ++ head) ++ take (n - length head) (body ++ head)
    ≡ head ++ body
to_front body head n is =
    let long = length-append body head in
    let at : n - length head ≡ length body = omega (arith, is, long) in
    ap (λ k. drop k (body ++ head) ++ take k (body ++ head)) at
    ∙ (λ i. drop-append_seam body head i ++ take-append_seam body head i)

pub returns : goal.returns
returns c =
    let body = c.args.body in
    let head = c.args.head.now in
    let joined : c.extend_from_slice.new.self.items ≡ body ++ head =
    c.in_ok-extend_from_slice.ensures.items
    ∙ (λ i. c.into_vec-bytes.ensures i ++ c.as_slice.ensures i) in
    let n = c.extend_from_slice.new.self.len in
    rw (c.from_vec.ensures, c.rotate_right.ensures.items, joined, c.len.ensures)
    (to_front body head n (c.extend_from_slice.new.self.ok.0 ∙ ap length joined))
