-- Writes and Marks at one shard after another, as a call makes them.
use Rattle.std.proofs.Common.{◌≡◌, ℕ, suc, ◌+◌, ◌-◌, ◌<◌, ◌≤◌, Bool, List, length, sym, ap, ◌∙◌, subst, arith}
use Rattle.std.specs.Prelude.{Result, Ok, Err}
use Rattle.tuple_values.specs.Document.{ByteList}
use Rattle.shard_versions.specs.declared.entry.Kind.{Kind}
use Rattle.topic_book.specs.Cells.{cell_of}
use Rattle.topic_book.specs.Fitness.{shards_of}
use Rattle.exchange_rules.specs.Courses.{ends}
use Rattle.exchange_rules.specs.Following.{Writer}
use Rattle.exchange_rules.specs.Calls.{HasAppended, Refused, Passed}
use Rattle.exchange_rules.specs.Rows.{Layout, each_shard, length_below, write_at, commit_at}
use Rattle.exchange_rules.specs.Steps.{closed, commit_unless, write_course, writes_in}
use Rattle.exchange_rules.specs.declared.fault.SiteFault.{SiteFault}
use Rattle.exchange_rules.specs.declared.fault.SiteFault.TheVariants.{ShardFull}
use Rattle.exchange_rules.proofs.ShardLemmas.{each_end, each_refused, each_appended}
use Rattle.stream_site.specs.Spots.{IsSpot, full_there}
use Rattle.stream_site.specs.declared.spot.Spot.{Spot}
use Rattle.stream_site.proofs.SpotLemmas.{at_spot}

-- what was done where a call stands is what the course has at its shard
commit_here : (old new : Writer) (l m : Layout) (c : ByteList) (written : ℕ → ℕ)
    (s stand writes : ℕ) (at : Spot) (r : Result (Unit {0}) SiteFault) → m ≡ l
    → IsSpot m.names c s stand at → writes ≡ written s
    → Passed at.stand old new (commit_unless m.limit at.cell writes (full_there at)) 0 r
    → Passed stand old new (commit_at l c written stand s) 0 r
commit_here old new l m c written s stand writes at r e i w p =
    subst (λ x. Passed stand old new
    (commit_unless l.limit (cell_of l.names c s) x (ShardFull c s stand)) 0 r) w
    (at_spot (λ b limit cell full. Passed b old new (commit_unless limit cell writes full) 0 r)
    l m c s stand at e i p)

-- the same of a step of writes
write_here : (old new : Writer) (l m : Layout) (c : ByteList) (share : ℕ → List Kind)
    (commit : Bool) (s stand n : ℕ) (at : Spot) (ks : List Kind) (r : Result (Unit {0}) SiteFault)
    → m ≡ l → IsSpot m.names c s stand at → ks ≡ share s → stand ≡ length_below share s
    → Passed at.stand old new
    (write_course m.limit at.cell (closed commit ks) (full_there at)) n r
    → Passed stand old new (write_at l c share commit s) n r
write_here old new l m c share commit s stand n at ks r e i k b p =
    let a = at_spot (λ x limit cell full.
    Passed x old new (write_course limit cell (closed commit ks) full) n r) l m c s stand at e i p in
    let h = subst (λ x. Passed stand old new
    (write_course l.limit (cell_of l.names c s) (closed commit x) (ShardFull c s stand)) n r) k a in
    subst (λ x. Passed stand old new
    (write_course l.limit (cell_of l.names c s) (closed commit (share s)) (ShardFull c s x)) n r)
    b h

-- the shares before the next shard
pub below_next : (share : ℕ → List Kind) (s : ℕ)
    → length_below share (s + 1) ≡ length_below share s + length (share s)
below_next share s = let e : s + 1 ≡ suc s = omega arith in ap (length_below share) e

-- one more shard is committed
pub commit_appended : (old mid new : Writer) (l m : Layout) (c : ByteList) (written : ℕ → ℕ)
    (s stand n writes : ℕ) (at : Spot) → s < n → m ≡ l → IsSpot m.names c s stand at
    → writes ≡ written s
    → HasAppended old mid (each_shard (commit_at l c written stand) 0 n)
    (each_shard (commit_at l c written stand) s (n - s)) 0
    → HasAppended mid new (commit_unless m.limit at.cell writes (full_there at)) (ends (Ok tt)) 0
    → HasAppended old new (each_shard (commit_at l c written stand) 0 n)
    (each_shard (commit_at l c written stand) (s + 1) (n - (s + 1))) 0
commit_appended old mid new l m c written s stand n writes at lt e i w a p =
    each_appended old mid new (each_shard (commit_at l c written stand) 0 n)
    (commit_at l c written stand) n s 0 0 tt lt a
    (commit_here mid new l m c written s stand writes at (Ok tt) e i w p)

-- or is refused
pub commit_refused : (old mid new : Writer) (l m : Layout) (c : ByteList) (written : ℕ → ℕ)
    (s stand n writes : ℕ) (at : Spot) (fault : SiteFault) → s < n → m ≡ l
    → IsSpot m.names c s stand at → writes ≡ written s
    → HasAppended old mid (each_shard (commit_at l c written stand) 0 n)
    (each_shard (commit_at l c written stand) s (n - s)) 0
    → Refused at.stand mid new (commit_unless m.limit at.cell writes (full_there at)) fault
    → Refused stand old new (each_shard (commit_at l c written stand) 0 n) fault
commit_refused old mid new l m c written s stand n writes at fault lt e i w a p =
    let none : stand ≡ stand + 0 = omega arith in
    each_refused stand old mid new (each_shard (commit_at l c written stand) 0 n)
    (commit_at l c written stand) n s 0 fault lt a
    (subst (λ x. Refused x mid new (commit_at l c written stand s) fault) none
    (commit_here mid new l m c written s stand writes at (Err fault) e i w p))

-- a shard is one of the collection's, as the writer finds it now
pub here_below : (l m : Layout) (c : ByteList) (s n : ℕ) → m ≡ l → n ≡ shards_of l.names c
    → s < n → s < shards_of m.names c
here_below l m c s n e f lt =
    let h : s < shards_of l.names c = subst (λ x. s < x) f lt in
    subst (λ (x : Layout). s < shards_of x.names c) (sym e) h

-- one more shard has its step
pub write_appended : (old mid new : Writer) (l m : Layout) (c : ByteList) (share : ℕ → List Kind)
    (commit : Bool) (s stand n count : ℕ) (at : Spot) (ks : List Kind) → s < n → m ≡ l
    → IsSpot m.names c s stand at → ks ≡ share s → stand ≡ length_below share s
    → writes_in ks ≡ count
    → HasAppended old mid (each_shard (write_at l c share commit) 0 n)
    (each_shard (write_at l c share commit) s (n - s)) stand
    → HasAppended mid new (write_course m.limit at.cell (closed commit ks) (full_there at))
    (ends (Ok tt)) (writes_in ks)
    → HasAppended old new (each_shard (write_at l c share commit) 0 n)
    (each_shard (write_at l c share commit) (s + 1) (n - (s + 1))) (stand + count)
write_appended old mid new l m c share commit s stand n count at ks lt e i k b w a p =
    let all = each_shard (write_at l c share commit) 0 n in
    let left = each_shard (write_at l c share commit) (s + 1) (n - (s + 1)) in
    subst (λ x. HasAppended old new all left (stand + x)) w
    (each_appended old mid new all (write_at l c share commit) n s stand (writes_in ks) tt lt a
    (write_here mid new l m c share commit s stand (writes_in ks) at ks (Ok tt) e i k b p))

-- or is refused, where so many writes stand
pub write_refused : (old mid new : Writer) (l m : Layout) (c : ByteList) (share : ℕ → List Kind)
    (commit : Bool) (s stand n : ℕ) (at : Spot) (ks : List Kind) (fault : SiteFault) → s < n
    → m ≡ l → IsSpot m.names c s stand at → ks ≡ share s → stand ≡ length_below share s
    → HasAppended old mid (each_shard (write_at l c share commit) 0 n)
    (each_shard (write_at l c share commit) s (n - s)) stand
    → Refused at.stand mid new (write_course m.limit at.cell (closed commit ks) (full_there at))
    fault → Refused 0 old new (each_shard (write_at l c share commit) 0 n) fault
write_refused old mid new l m c share commit s stand n at ks fault lt e i k b a p =
    let some : stand ≡ 0 + stand = omega arith in
    each_refused 0 old mid new (each_shard (write_at l c share commit) 0 n)
    (write_at l c share commit) n s stand fault lt a
    (subst (λ x. Refused x mid new (write_at l c share commit s) fault) some
    (write_here mid new l m c share commit s stand 0 at ks (Err fault) e i k b p))

-- where no shard is left, all writes stand
pub writes_end : (old new : Writer) (l : Layout) (c : ByteList) (share : ℕ → List Kind)
    (commit : Bool) (s stand n : ℕ) → n ≤ s → s ≤ n → stand ≡ length_below share s
    → HasAppended old new (each_shard (write_at l c share commit) 0 n)
    (each_shard (write_at l c share commit) s (n - s)) stand
    → HasAppended old new (each_shard (write_at l c share commit) 0 n) (ends (Ok tt))
    (length_below share n)
writes_end old new l c share commit s stand n over within b a =
    let last : s ≡ n = omega arith in
    let all = each_shard (write_at l c share commit) 0 n in
    subst (HasAppended old new all (ends (Ok tt))) (b ∙ ap (length_below share) last)
    (each_end old new all (write_at l c share commit) n s stand over a)
