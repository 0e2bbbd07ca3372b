-- An update is its writes, and then what a commit does.
use Rattle.std.proofs.Common.{◌≡◌, ℕ, ◌+◌, ◌^◌, ◌<◌, Bool, true, false, List, length, get_or, map, refl, sym, ap, ◌∙◌, subst, arith}
use Rattle.std.specs.Prelude.{Result, Ok, Err}
use Rattle.std.specs.List.{AllByRecursion}
use Rattle.tuple_values.specs.Document.{ByteList}
use Rattle.tuple_values.specs.declared.write.Write.{Write}
use Rattle.shard_versions.specs.declared.entry.Entry.{Entry}
use Rattle.shard_versions.specs.declared.entry.Kind.{Kind}
use Rattle.topic_book.specs.Cells.{cell_of}
use Rattle.topic_book.specs.Fitness.{shards_of}
use Rattle.exchange_rules.specs.Courses.{ends, and_ok}
use Rattle.exchange_rules.specs.Following.{Writer}
use Rattle.exchange_rules.specs.Calls.{HasAppended, Refused, Passed, Answered}
use Rattle.exchange_rules.specs.Rows.{Layout, length_below, write_at, writes_course, commit_at, commit_shards, finish_course, shares_of, index_course}
use Rattle.exchange_rules.specs.Steps.{closed, kinds_of, routed, commit_unless, write_course, writes_in}
use Rattle.exchange_rules.specs.declared.fault.SiteFault.{SiteFault}
use Rattle.exchange_rules.specs.declared.fault.SiteFault.TheVariants.{ShardFull}
use Rattle.exchange_rules.proofs.RoutingLemmas.{length_below-same, length_below-routed, writes_in-routed}
use Rattle.exchange_rules.proofs.ShardLemmas.{each_same}
use Rattle.exchange_rules.proofs.AppendedLemmas.{appended_ok, appended_join, refused_then, refused_on}
use Rattle.exchange_rules.proofs.StepLemmas.{kinds_of-entries_by, entries_by_are}
use Rattle.stream_site.specs.Shares.{AreShares, AreCounts, AreSteps, share_in}
use Rattle.stream_site.proofs.ShareLemmas.{shares_counts}

-- what is to be appended at a shard are the writes that route there
pub share_same : (me n : ℕ) (ws : List Write) (steps : List (List Entry)) → AreShares me n ws steps
    → (s : ℕ) → s < n → share_in steps s ≡ routed n s ws
share_same me n ws steps a s lt =
    ap kinds_of (a.shares s lt) ∙ kinds_of-entries_by me (routed n s ws)

-- the steps of an update can be appended
pub shares_steps : (me n : ℕ) (ws : List Write) (steps : List (List Entry))
    → AreShares me n ws steps → 0 < n → length ws < 2 ^ 64 → AreSteps me n steps
shares_steps me n ws steps a some few =
    let all = length_below-same (share_in steps) (λ s. routed n s ws) n
    (share_same me n ws steps a) in
    let whole = length_below-routed n ws some in
    record {
      counted = a.counted;
      own = λ s lt. subst (λ (es : List Entry). AllByRecursion (λ e. e.by ≡ me) es)
          (sym (a.shares s lt)) (entries_by_are me (routed n s ws));
      writes = λ s lt.
          let e = share_same me n ws steps a s lt in
          ap writes_in e ∙ (writes_in-routed n s ws ∙ sym (ap length e));
      few = omega (arith, all, whole, few);
    }

-- an update of the same shares
writes_same : (l : Layout) (c : ByteList) (a b : ℕ → List Kind) (commit : Bool)
    → ((s : ℕ) → s < shards_of l.names c → a s ≡ b s)
    → writes_course l c a commit ≡ writes_course l c b commit
writes_same l c a b commit e =
    each_same (write_at l c a commit) (write_at l c b commit) 0 (shards_of l.names c) (λ s lt.
    let within : s < shards_of l.names c = omega arith in
    let below = length_below-same a b s (λ x less. e x (omega arith)) in
    ap (λ ks. write_course l.limit (cell_of l.names c s) (closed commit ks)
    (ShardFull c s (length_below a s))) (e s within)
    ∙ ap (λ n. write_course l.limit (cell_of l.names c s) (closed commit (b s)) (ShardFull c s n))
    below)

-- a commit after as many writes
commit_same : (l : Layout) (c : ByteList) (a b : ℕ → ℕ) (stand : ℕ)
    → ((s : ℕ) → s < shards_of l.names c → a s ≡ b s)
    → commit_shards l c a stand ≡ commit_shards l c b stand
commit_same l c a b stand e =
    each_same (commit_at l c a stand) (commit_at l c b stand) 0 (shards_of l.names c) (λ s lt.
    ap (λ n. commit_unless l.limit (cell_of l.names c s) n (ShardFull c s stand))
    (e s (omega arith)))

-- the writes were appended as the row says, or one was refused
writes_passed : (old new : Writer) (l : Layout) (c : ByteList) (me n : ℕ) (ws : List Write)
    (steps : List (List Entry)) (commit : Bool) (r : Result (Unit {0}) SiteFault)
    → n ≡ shards_of l.names c → AreShares me n ws steps → 0 < n
    → Passed 0 old new (writes_course l c (share_in steps) commit)
    (length_below (share_in steps) (shards_of l.names c)) r
    → Passed 0 old new (writes_course l c (shares_of l c ws) commit) (length ws) r
writes_passed old new l c me n ws steps commit r e a some p =
    let a' = subst (λ k. AreShares me k ws steps) e a in
    let k = shards_of l.names c in
    let same = share_same me k ws steps a' in
    let some' : 0 < k = subst (λ x. 0 < x) e some in
    let all = length_below-same (share_in steps) (shares_of l c ws) k same
    ∙ length_below-routed k ws some' in
    subst (λ x. Passed 0 old new (writes_course l c (shares_of l c ws) commit) x r) all
    (subst (λ x. Passed 0 old new x (length_below (share_in steps) k) r)
    (writes_same l c (share_in steps) (shares_of l c ws) commit same) p)

-- the other shards were committed as the row says, or one was refused
committed_passed : (old new : Writer) (l m : Layout) (c : ByteList) (n total : ℕ)
    (ws : List Write) (counts : List ℕ) (r : Result (Unit {0}) SiteFault) → m ≡ l
    → n ≡ shards_of l.names c → total ≡ length ws → AreCounts n ws counts
    → Passed total old new (commit_shards m c (λ s. get_or counts s 0) total) 0 r
    → Passed (length ws) old new (finish_course l c (shares_of l c ws) (length ws) true) 0 r
committed_passed old new l m c n total ws counts r e f t a p =
    let a' = subst (λ k. AreCounts k ws counts) f a in
    let p' = subst (λ (x : Layout). Passed total old new
    (commit_shards x c (λ s. get_or counts s 0) total) 0 r) e p in
    let p'' = subst (λ x. Passed x old new (commit_shards l c (λ s. get_or counts s 0) x) 0 r) t
    p' in
    subst (λ x. Passed (length ws) old new x 0 r)
    (commit_same l c (λ s. get_or counts s 0) (λ s. length (shares_of l c ws s)) (length ws) a') p''

-- an update without a commit
index_plain : (old new : Writer) (l : Layout) (c : ByteList) (ws : List Write)
    (commit : Bool) (total : ℕ) → commit ≡ false → total ≡ length ws
    → Passed 0 old new (writes_course l c (shares_of l c ws) commit) (length ws) (Ok tt)
    → Answered old new (index_course l c ws commit) (Ok total)
index_plain old new l c ws commit total e t p =
    let share = shares_of l c ws in
    let done = appended_ok old new (writes_course l c share commit) tt
    (λ _. and_ok (finish_course l c share (length ws) commit) (λ _. ends (Ok (length ws))))
    (length ws) p in
    let done' = subst (λ b. HasAppended old new (index_course l c ws commit)
    (and_ok (finish_course l c share (length ws) b) (λ _. ends (Ok (length ws)))) (length ws))
    e done in
    subst (λ n. Answered old new (index_course l c ws commit) (Ok n)) (sym t) done'.reached

-- one with a commit
index_committed : (old mid new : Writer) (l : Layout) (c : ByteList) (ws : List Write)
    (commit : Bool) (total : ℕ) → commit ≡ true → total ≡ length ws
    → Passed 0 old mid (writes_course l c (shares_of l c ws) commit) (length ws) (Ok tt)
    → Passed (length ws) mid new (finish_course l c (shares_of l c ws) (length ws) true) 0 (Ok tt)
    → Answered old new (index_course l c ws commit) (Ok total)
index_committed old mid new l c ws commit total e t p q =
    let share = shares_of l c ws in
    let finish = λ (b : Bool). and_ok (finish_course l c share (length ws) b)
    (λ _. ends (Ok (length ws))) in
    let done = appended_ok old mid (writes_course l c share commit) tt (λ _. finish commit)
    (length ws) p in
    let done' = subst (λ b. HasAppended old mid (index_course l c ws commit) (finish b) (length ws))
    e
    done in
    let rest = appended_ok mid new (finish_course l c share (length ws) true) tt
    (λ _. ends (Ok (length ws))) 0 q in
    let all = appended_join old mid new (index_course l c ws commit) (finish true)
    (ends (Ok (length ws))) (length ws) 0 done' rest in
    subst (λ n. Answered old new (index_course l c ws commit) (Ok n)) (sym t) all.reached

-- a refusal among the writes
index_refused : (old new : Writer) (l : Layout) (c : ByteList) (ws : List Write)
    (commit : Bool) (fault : SiteFault)
    → Passed 0 old new (writes_course l c (shares_of l c ws) commit) (length ws) (Err fault)
    → Refused 0 old new (index_course l c ws commit) fault
index_refused old new l c ws commit fault p =
    refused_then 0 old new (writes_course l c (shares_of l c ws) commit) _ fault p

-- or among the Marks after them
commit_refused : (old mid new : Writer) (l : Layout) (c : ByteList) (ws : List Write)
    (commit : Bool) (fault : SiteFault) → commit ≡ true
    → Passed 0 old mid (writes_course l c (shares_of l c ws) commit) (length ws) (Ok tt)
    → Passed (length ws) mid new (finish_course l c (shares_of l c ws) (length ws) true) 0
    (Err fault) → Refused 0 old new (index_course l c ws commit) fault
commit_refused old mid new l c ws commit fault e p q =
    let share = shares_of l c ws in
    let finish = λ (b : Bool). and_ok (finish_course l c share (length ws) b)
    (λ _. ends (Ok (length ws))) in
    let done = appended_ok old mid (writes_course l c share commit) tt (λ _. finish commit)
    (length ws) p in
    let done' = subst (λ b. HasAppended old mid (index_course l c ws commit) (finish b) (length ws))
    e
    done in
    let n : length ws ≡ 0 + length ws = omega arith in
    refused_on 0 old mid new (index_course l c ws commit) (finish true) (length ws) fault done'
    (subst (λ x. Refused x mid new (finish true) fault) n
    (refused_then (length ws) mid new (finish_course l c share (length ws) true)
    (λ _. ends (Ok (length ws))) fault q))

-- the writes of an update are routed: a step for each shard of the collection, which has one
pub record AreRoutedTo (l : Layout) (c : ByteList) (ws : List Write) (steps : List (List Entry))
    : Type 0 where
  pub me : ℕ
  pub some : 0 < shards_of l.names c
  pub shares : AreShares me (shards_of l.names c) ws steps

-- as the writer found the collection
pub routed_to : (l : Layout) (c : ByteList) (me n : ℕ) (ws : List Write) (steps : List (List Entry))
    → 0 < shards_of l.names c → n ≡ shards_of l.names c → AreShares me n ws steps
    → AreRoutedTo l c ws steps
routed_to l c me n ws steps some e a = record {
  me = me;
  some = some;
  shares = subst (λ k. AreShares me k ws steps) e a;
}

-- the same steps of the writer itself can be appended
pub routed_steps : (l : Layout) (c : ByteList) (me by n : ℕ) (ws : List Write)
    (steps : List (List Entry)) → 0 < shards_of l.names c → n ≡ shards_of l.names c → by ≡ me
    → AreShares by n ws steps → length ws < 2 ^ 64 → AreSteps me (shards_of l.names c) steps
routed_steps l c me by n ws steps some e own a few =
    shares_steps me (shards_of l.names c) ws steps
    (subst (λ x. AreShares x (shards_of l.names c) ws steps) own
    (subst (λ k. AreShares by k ws steps) e a)) some few

-- what was written of them
written : (old new : Writer) (l : Layout) (c : ByteList) (ws : List Write)
    (steps : List (List Entry)) (commit : Bool) (r : Result (Unit {0}) SiteFault)
    → AreRoutedTo l c ws steps
    → Passed 0 old new (writes_course l c (share_in steps) commit)
    (length_below (share_in steps) (shards_of l.names c)) r
    → Passed 0 old new (writes_course l c (shares_of l c ws) commit) (length ws) r
written old new l c ws steps commit r a p =
    writes_passed old new l c a.me (shards_of l.names c) ws steps commit r refl a.shares a.some p

-- and what was committed behind them, by how many there are for each shard
others_committed : (old new : Writer) (l m : Layout) (c : ByteList) (total : ℕ) (ws : List Write)
    (steps : List (List Entry)) (counts : List ℕ) (r : Result (Unit {0}) SiteFault) → m ≡ l
    → AreRoutedTo l c ws steps → total ≡ length ws → counts ≡ map length steps
    → Passed total old new (commit_shards m c (λ s. get_or counts s 0) total) 0 r
    → Passed (length ws) old new (finish_course l c (shares_of l c ws) (length ws) true) 0 r
others_committed old new l m c total ws steps counts r e a t k p =
    committed_passed old new l m c (shards_of l.names c) total ws counts r e refl t
    (subst (AreCounts (shards_of l.names c) ws) (sym k)
    (shares_counts a.me (shards_of l.names c) ws steps a.shares)) p

-- an update was refused among its writes
pub update_refused : (old new : Writer) (l : Layout) (c : ByteList) (ws : List Write)
    (steps : List (List Entry)) (commit : Bool) (fault : SiteFault) → AreRoutedTo l c ws steps
    → Passed 0 old new (writes_course l c (share_in steps) commit)
    (length_below (share_in steps) (shards_of l.names c)) (Err fault)
    → Refused 0 old new (index_course l c ws commit) fault
update_refused old new l c ws steps commit fault a p =
    index_refused old new l c ws commit fault (written old new l c ws steps commit (Err fault) a p)

-- or all were appended, without a commit
pub update_plain : (old new : Writer) (l : Layout) (c : ByteList) (total : ℕ) (ws : List Write)
    (steps : List (List Entry)) (commit : Bool) → AreRoutedTo l c ws steps → total ≡ length ws
    → commit ≡ false
    → Passed 0 old new (writes_course l c (share_in steps) commit)
    (length_below (share_in steps) (shards_of l.names c)) (Ok tt)
    → Answered old new (index_course l c ws commit) (Ok total)
update_plain old new l c total ws steps commit a t e p =
    index_plain old new l c ws commit total e t (written old new l c ws steps commit (Ok tt) a p)

-- or with one
pub update_committed : (old mid new : Writer) (l m : Layout) (c : ByteList) (total : ℕ)
    (ws : List Write) (steps : List (List Entry)) (counts : List ℕ) (commit : Bool) → m ≡ l
    → AreRoutedTo l c ws steps → total ≡ length ws → counts ≡ map length steps → commit ≡ true
    → Passed 0 old mid (writes_course l c (share_in steps) commit)
    (length_below (share_in steps) (shards_of l.names c)) (Ok tt)
    → Passed total mid new (commit_shards m c (λ s. get_or counts s 0) total) 0 (Ok tt)
    → Answered old new (index_course l c ws commit) (Ok total)
update_committed old mid new l m c total ws steps counts commit same a t k e p q =
    index_committed old mid new l c ws commit total e t
    (written old mid l c ws steps commit (Ok tt) a p)
    (others_committed mid new l m c total ws steps counts (Ok tt) same a t k q)

-- or the commit was refused
pub update_uncommitted : (old mid new : Writer) (l m : Layout) (c : ByteList) (total : ℕ)
    (ws : List Write) (steps : List (List Entry)) (counts : List ℕ) (commit : Bool)
    (fault : SiteFault) → m ≡ l → AreRoutedTo l c ws steps → total ≡ length ws
    → counts ≡ map length steps → commit ≡ true
    → Passed 0 old mid (writes_course l c (share_in steps) commit)
    (length_below (share_in steps) (shards_of l.names c)) (Ok tt)
    → Passed total mid new (commit_shards m c (λ s. get_or counts s 0) total) 0 (Err fault)
    → Refused 0 old new (index_course l c ws commit) fault
update_uncommitted old mid new l m c total ws steps counts commit fault same a t k e p q =
    commit_refused old mid new l c ws commit fault e
    (written old mid l c ws steps commit (Ok tt) a p)
    (others_committed mid new l m c total ws steps counts (Err fault) same a t k q)
