-- A response that is written as it is made.
use Rattle.std.proofs.Common.{◌≡◌, ℕ, true, false, List, [], ◌++◌, Option, Some, None, refl, sym, ap, subst, ◌∙◌, append_assoc, append-nil}
use Rattle.std.specs.List.{concat}
use Rattle.tuple_values.specs.Document.{ByteList}
use Rattle.io_edge.specs.Edge.{Appends, AppendsPrefix}
use Rattle.stream_handler.specs.Chunkings.{Adds}
use Rattle.stream_handler.specs.Replies.{IsPartWritten, Puts, WritesReply, WritesSome}
use Rattle.stream_handler.specs.Serving.{BreaksOff}
use Rattle.stream_handler.specs.Waiting.{WritesCount}
use Rattle.stream_handler.specs.declared.ending.End.{End}
use Rattle.stream_handler.specs.declared.ending.End.TheVariants as end
use Rattle.stream_handler.proofs.WireLemmas.{appends_join, appends_none, appends_part}

-- what is put is written
pub put_writes : (bytes : ByteList) (old new : Option (List ℕ)) (r : Option End)
    → Puts bytes old new r → WritesReply bytes old new r
put_writes bytes old new None p = p
put_writes bytes old new (Some e) p =
    subst (λ e. WritesReply bytes old new (Some e)) (sym p.0) p.1

-- bytes that are many are put, and none are kept
pub put_some : (before after : ByteList) (old new : Option (List ℕ)) (r : Option End)
    → Puts before old new r → after ≡ [] → WritesSome before after old new r
put_some before after old new None p none =
    (before, sym (ap (λ t. before ++ t) none ∙ append-nil before), p)
put_some before after old new (Some e) p none = p

-- bytes that are few are kept
pub kept_some : (bytes : ByteList) (w : Option (List ℕ)) → WritesSome bytes bytes w w None
kept_some bytes w = ([], refl, appends_none w)

module _ (all : ByteList) (old mid : Option (List ℕ)) where
  -- nothing is made yet
  pub part_none : mid ≡ old → IsPartWritten all old mid [] all
  part_none same = ([], refl, subst (λ m. Appends old m []) (sym same) (appends_none old))

  module _ (made : ByteList) (before : List ByteList)
      (part : IsPartWritten all old mid made (concat before)) where
    -- the next is made
    pub part_made : (after : List ByteList) (more : ByteList) → Adds before true after made more
        → IsPartWritten all old mid more (concat after)
    part_made after more a = (
      part.0,
      part.1
          ∙ ap (λ t. part.0 ++ t)
          (ap (λ (items : List ByteList). made ++ concat items) a.1
          ∙ sym (append_assoc made a.0 (concat after))
          ∙ ap (λ t. t ++ concat after) (sym a.2)),
      part.2,
    )

    -- all is made, and what was made last is put
    pub part_over : (after : List ByteList) (more : ByteList) (new : Option (List ℕ))
        (r : Option End) → Adds before false after made more → Puts more mid new r
        → WritesReply all old new r
    part_over after more new r a p =
        put_writes all old new r (by_end r (subst (λ t. Puts t mid new r) a.2 p))
      where
        is : all ≡ part.0 ++ made
        is =
            part.1
            ∙ ap (λ (items : List ByteList). part.0 ++ (made ++ concat items)) a.0
            ∙ ap (λ t. part.0 ++ t) (append-nil made)

        by_end : (r : Option End) → Puts made mid new r → Puts all old new r
        by_end None p =
            subst (Appends old new) (sym is) (appends_join old mid new part.0 made part.2 p)
        by_end (Some e) p =
            (p.0, subst (AppendsPrefix old new) (sym is) (appends_part old mid new part.0 made part.2 p.1))

  module _ (made left : ByteList) (part : IsPartWritten all old mid made left) where
    -- what is many was put
    pub part_put : (kept : ByteList) (new : Option (List ℕ)) → WritesSome made kept mid new None
        → IsPartWritten all old new kept left
    part_put kept new w = (
      part.0 ++ w.0,
      part.1
          ∙ ap (λ t. part.0 ++ (t ++ left)) w.1
          ∙ ap (λ t. part.0 ++ t) (append_assoc w.0 kept left)
          ∙ sym (append_assoc part.0 w.0 (kept ++ left)),
      appends_join old mid new part.0 w.0 part.2 w.2,
    )

    -- or a part of it
    pub part_broken : (kept : ByteList) (new : Option (List ℕ)) (e : End)
        → WritesSome made kept mid new (Some e) → WritesReply all old new (Some e)
    part_broken kept new e w =
        let prefix = appends_part old mid new part.0 made part.2 w.1 in
        subst (λ e. WritesReply all old new (Some e)) (sym w.0) (
          prefix.0,
          prefix.1 ++ left,
          part.1 ∙ sym (append_assoc part.0 made left) ∙ ap (λ t. t ++ left) prefix.2
              ∙ append_assoc prefix.0 prefix.1 left,
          prefix.3,
        )

    -- memory was wanting
    pub part_kept : WritesReply all old mid (Some end.OutOfMemory)
    part_kept = (part.0, made ++ left, part.1, part.2)

-- what breaks a reply off, and what is written of it then
pub broken_off : (bytes : ByteList) (old new : Option (List ℕ)) (failed fails : ℕ) (e : End)
    → WritesReply bytes old new (Some e) → WritesCount failed fails (Some e)
    → BreaksOff e failed fails × AppendsPrefix old new bytes
broken_off bytes old new failed fails end.Ended w c = absurd w
broken_off bytes old new failed fails end.Closed w c = absurd w
broken_off bytes old new failed fails (end.Cut held) w c = absurd w
broken_off bytes old new failed fails (end.Refused status) w c = absurd w
broken_off bytes old new failed fails end.ReadFault w c = absurd w
broken_off bytes old new failed fails end.WriteFault w c = (c.cause refl, w)
broken_off bytes old new failed fails end.OutOfMemory w c = (tt, w)
