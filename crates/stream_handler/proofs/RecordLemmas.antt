-- What a connection records of the writer's own steps.
use Rattle.std.proofs.Common.{◌≡◌, ℕ, List, [], ◌++◌, ap, append-nil, sym, subst, ◌∙◌, inl, inr}
use Rattle.shard_versions.specs.declared.cut.OwnMark.{OwnMark}
use Rattle.shard_versions.specs.declared.cut.Record.{Record}
use Rattle.exchange_rules.specs.Following.{Writer, counts}
use Rattle.exchange_rules.specs.Rows.{Layout}
use Rattle.exchange_rules.specs.Recorded.{AreRecorded}
use Rattle.exchange_rules.proofs.CountLemmas.{IsCounted, follows_counted}
use Rattle.exchange_rules.proofs.RecordedLemmas.{counted_join}
use Rattle.stream_handler.specs.Exchanges.{Answer, exchanges_of, owns_of}
use Rattle.stream_handler.specs.Requests.{request_course}
use Rattle.stream_handler.specs.Sessions.{Wire, Exchanged, EndsBy, IsBegun, IsSession}
use Rattle.stream_handler.specs.declared.ending.End.{End}
use Rattle.stream_handler.specs.declared.exchange.Exchange.{Exchange}
use Rattle.stream_handler.proofs.ServeLemmas.{sound_still}
use Rattle.stream_handler.proofs.SoundLemmas.{sound_counted}

module _ (tells : ℕ → Type 0) (l : Layout) (old new : Wire) (w v : Writer) (answers : List Answer)
    (c : ℕ) where
  -- at this cell the writer appended just what these own marks say
  abbrev Counted : List OwnMark → Type 0
  Counted own = IsCounted w.me v.seen (counts w.seen) (counts v.seen) own c

  -- nothing was begun behind the exchanges
  settled_counted : (rest : Record) → Exchanged tells l w v answers → rest.own ≡ []
      → Counted (owns_of (exchanges_of answers) ++ rest.own)
  settled_counted rest x none =
      subst Counted
      (sym (append-nil (owns_of (exchanges_of answers)))
      ∙ ap (λ (own : List OwnMark). owns_of (exchanges_of answers) ++ own) (sym none))
      (sound_counted tells l w.me v.seen (counts w.seen) (counts v.seen) answers c x.sound)

  -- a request was begun behind them
  begun_counted : (rest : Record) → IsBegun tells l old new w v answers rest
      → Counted (owns_of (exchanges_of answers) ++ rest.own)
  begun_counted rest b =
      let mid = counts b.mid.seen in
      let first : IsCounted w.me v.seen (counts w.seen) mid (owns_of (exchanges_of answers)) c =
      sound_counted tells l w.me v.seen (counts w.seen) mid answers c
      (sound_still tells l w.me b.mid.seen v.seen (counts w.seen) mid answers b.grown
      b.exchanged.sound) in
      let then : IsCounted w.me v.seen mid (counts v.seen) rest.own c =
      subst (λ (own : List OwnMark). IsCounted w.me v.seen mid (counts v.seen) own c) (sym b.own)
      (follows_counted w.me v.seen mid (request_course l b.told b.message.request) b.accesses b.left
      (counts v.seen) c b.followed) in
      counted_join w.me v.seen (counts w.seen) mid (counts v.seen) (owns_of (exchanges_of answers))
      rest.own c first then

  -- however the connection ended
  ends_counted : (rest : Record) (e : End) → EndsBy tells l old new w v answers rest e
      → Counted (owns_of (exchanges_of answers) ++ rest.own)
  ends_counted rest e (inl s) =
      settled_counted rest s.exchanged (ap (λ (r : Record). r.own) s.recorded)
  ends_counted rest e (inr b) = begun_counted rest b.1

-- what the writer appended is just what the own marks of the exchanges and of the rest say
pub session_records : {tells : ℕ → Type 0} {l : Layout} {old new : Wire} {w v : Writer}
    {exchanges : List Exchange} {rest : Record} {e : End}
    → IsSession tells l old new w v exchanges rest e
    → AreRecorded w.me v.seen (counts w.seen) (counts v.seen) (owns_of exchanges ++ rest.own)
session_records {tells} {l} {old} {new} {w} {v} {exchanges} {rest} {e} s =
    subst (λ (xs : List Exchange). AreRecorded w.me v.seen (counts w.seen) (counts v.seen)
    (owns_of xs ++ rest.own)) (sym s.exchanges_are)
    (λ c. (ends_counted tells l old new w v s.answers c rest e s.over.ends).counted)
