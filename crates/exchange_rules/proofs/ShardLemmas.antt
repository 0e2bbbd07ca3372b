-- One shard after another: what stands up to a shard, and what is left.
use Rattle.std.proofs.Common.{◌≡◌, ℕ, zero, suc, ◌+◌, ◌-◌, ◌<◌, ◌≤◌, List, [], ◌∷◌, ◌++◌, length, get_or, refl, sym, ap, ◌∙◌, subst, arith, length-set}
use Rattle.std.specs.Prelude.{Result, Ok}
use Rattle.tuple_values.specs.Document.{ByteList}
use Rattle.tuple_values.specs.declared.names.NameShards.{NameShards}
use Rattle.shard_versions.specs.declared.cut.CutPart.{CutPart}
use Rattle.topic_book.specs.Cells.{cells_in, cell_of}
use Rattle.topic_book.specs.Fitness.{shards_of}
use Rattle.exchange_rules.specs.Cells.{Log, history_in}
use Rattle.exchange_rules.specs.Courses.{Course, ends, looks, and_then, and_ok}
use Rattle.exchange_rules.specs.Following.{Writer}
use Rattle.exchange_rules.specs.Calls.{HasAppended, Refused, Passed, Stopped}
use Rattle.exchange_rules.specs.Primitives.{LooksAt}
use Rattle.exchange_rules.specs.Rows.{Layout, HasCell, each_shard, part_of, cut_shards, cut_course}
use Rattle.exchange_rules.specs.declared.fault.SiteFault.{SiteFault}
use Rattle.exchange_rules.proofs.AppendedLemmas.{appended_join, appended_on, appended_then, appended_ok, refused_on, refused_then, look_stopped, stopped_then}

-- what is left, and one more that is done
one_less : (n s : ℕ) → s < n → n - s ≡ suc (n - (s + 1))
one_less n s lt = omega arith

-- at the start all is left
pub all_left : (n : ℕ) → n ≡ n - 0
all_left n = omega arith

-- what is left begins with the next shard
each_next : {E : Type 0} (at : ℕ → Course (Result (Unit {0}) E)) (n s : ℕ) → s < n
    → each_shard at s (n - s) ≡ and_ok (at s) (λ _. each_shard at (s + 1) (n - (s + 1)))
each_next at n s lt = ap (each_shard at s) (one_less n s lt)

-- one more shard is done
pub each_appended : (old mid new : Writer) (p : Course (Result (Unit {0}) SiteFault))
    (at : ℕ → Course (Result (Unit {0}) SiteFault)) (n s m k : ℕ) (done : Unit {0}) → s < n
    → HasAppended old mid p (each_shard at s (n - s)) m
    → Passed m mid new (at s) k (Ok done)
    → HasAppended old new p (each_shard at (s + 1) (n - (s + 1))) (m + k)
each_appended old mid new p at n s m k done lt a b =
    let rest = each_shard at (s + 1) (n - (s + 1)) in
    let a' = subst (λ q. HasAppended old mid p q m) (each_next at n s lt) a in
    appended_join old mid new p (and_ok (at s) (λ _. rest)) rest m k a'
    (appended_ok mid new (at s) done (λ _. rest) k b)

-- or is refused
pub each_refused : (before : ℕ) (old mid new : Writer) (p : Course (Result (Unit {0}) SiteFault))
    (at : ℕ → Course (Result (Unit {0}) SiteFault)) (n s m : ℕ) (fault : SiteFault) → s < n
    → HasAppended old mid p (each_shard at s (n - s)) m → Refused (before + m) mid new (at s) fault
    → Refused before old new p fault
each_refused before old mid new p at n s m fault lt a b =
    let rest = each_shard at (s + 1) (n - (s + 1)) in
    let a' = subst (λ q. HasAppended old mid p q m) (each_next at n s lt) a in
    refused_on before old mid new p (and_ok (at s) (λ _. rest)) m fault a'
    (refused_then (before + m) mid new (at s) (λ _. rest) fault b)

-- all shards are done
pub each_end : (old new : Writer) (p : Course (Result (Unit {0}) SiteFault))
    (at : ℕ → Course (Result (Unit {0}) SiteFault)) (n s m : ℕ) → n ≤ s
    → HasAppended old new p (each_shard at s (n - s)) m → HasAppended old new p (ends (Ok tt)) m
each_end old new p at n s m le a =
    let e : n - s ≡ 0 = omega arith in
    subst (λ x. HasAppended old new p (each_shard at s x) m) e a

-- what is left of a cut begins with the next shard
cut_next : (names : List NameShards) (c : ByteList) (n s : ℕ) (cut : List CutPart) → s < n
    → cut_shards names c s (n - s) cut
    ≡ and_then (looks (cell_of names c s) (λ log. ends (cut ++ part_of c s (history_in log) ∷ [])))
    (λ x. cut_shards names c (s + 1) (n - (s + 1)) x)
cut_next names c n s cut lt = ap (λ x. cut_shards names c s x cut) (one_less n s lt)

-- one more shard is in the cut
pub cut_appended : (old mid new : Writer) (p : Course (List CutPart)) (names : List NameShards)
    (c : ByteList) (n s : ℕ) (cut cut' : List CutPart) → s < n
    → HasAppended old mid p (cut_shards names c s (n - s) cut) 0
    → HasAppended mid new
    (looks (cell_of names c s) (λ log. ends (cut ++ part_of c s (history_in log) ∷ [])))
    (ends cut') 0
    → HasAppended old new p (cut_shards names c (s + 1) (n - (s + 1)) cut') 0
cut_appended old mid new p names c n s cut cut' lt a b =
    let look = looks (cell_of names c s) (λ log. ends (cut ++ part_of c s (history_in log) ∷ [])) in
    let next = λ (x : List CutPart). cut_shards names c (s + 1) (n - (s + 1)) x in
    let a' = subst (λ q. HasAppended old mid p q 0) (cut_next names c n s cut lt) a in
    appended_on old mid new p (and_then look next) (next cut') 0 a'
    (appended_then mid new look (ends cut') next 0 b)

-- or memory is wanting for it
pub cut_stopped : (old mid new : Writer) (p : Course (List CutPart)) (names : List NameShards)
    (c : ByteList) (n s : ℕ) (cut : List CutPart) (fault : SiteFault) → s < n
    → HasAppended old mid p (cut_shards names c s (n - s) cut) 0
    → Stopped mid new
    (looks (cell_of names c s) (λ log. ends (cut ++ part_of c s (history_in log) ∷ []))) fault
    → Stopped old new p fault
cut_stopped old mid new p names c n s cut fault lt a b =
    let look = looks (cell_of names c s) (λ log. ends (cut ++ part_of c s (history_in log) ∷ [])) in
    let next = λ (x : List CutPart). cut_shards names c (s + 1) (n - (s + 1)) x in
    let a' = subst (λ q. HasAppended old mid p q 0) (cut_next names c n s cut lt) a in
    look_stopped old mid new p (and_then look next) fault a'
    (stopped_then mid new look next fault b)

-- all shards of the collection are in the cut
pub cut_end : (old new : Writer) (p : Course (List CutPart)) (names : List NameShards)
    (c : ByteList) (n s : ℕ) (cut : List CutPart) → n ≤ s
    → HasAppended old new p (cut_shards names c s (n - s) cut) 0
    → HasAppended old new p (ends cut) 0
cut_end old new p names c n s cut le a =
    let e : n - s ≡ 0 = omega arith in
    subst (λ x. HasAppended old new p (cut_shards names c s x cut) 0) e a

-- one more collection is in the cut
pub cuts_appended : (old mid new : Writer) (p : Course (List CutPart)) (names : List NameShards)
    (c : ByteList) (collections : List ByteList) (cut cut' : List CutPart)
    → HasAppended old mid p (cut_course names cut (c ∷ collections)) 0
    → HasAppended mid new (cut_shards names c 0 (shards_of names c) cut) (ends cut') 0
    → HasAppended old new p (cut_course names cut' collections) 0
cuts_appended old mid new p names c collections cut cut' a b =
    let part = cut_shards names c 0 (shards_of names c) cut in
    let next = λ (x : List CutPart). cut_course names x collections in
    appended_on old mid new p (and_then part next) (next cut') 0 a
    (appended_then mid new part (ends cut') next 0 b)

-- or memory is wanting for it
pub cuts_stopped : (old mid new : Writer) (p : Course (List CutPart)) (names : List NameShards)
    (c : ByteList) (collections : List ByteList) (cut : List CutPart) (fault : SiteFault)
    → HasAppended old mid p (cut_course names cut (c ∷ collections)) 0
    → Stopped mid new (cut_shards names c 0 (shards_of names c) cut) fault
    → Stopped old new p fault
cuts_stopped old mid new p names c collections cut fault a b =
    let part = cut_shards names c 0 (shards_of names c) cut in
    let next = λ (x : List CutPart). cut_course names x collections in
    look_stopped old mid new p (and_then part next) fault a
    (stopped_then mid new part next fault b)

-- what is the same at each of the shards is the same at all of them
pub each_same : {E : Type 0} (at by : ℕ → Course (Result (Unit {0}) E)) (s left : ℕ)
    → ((x : ℕ) → x < s + left → at x ≡ by x) → each_shard at s left ≡ each_shard by s left
each_same at by s zero e = refl
each_same at by s (suc left) e =
    let rest = each_same at by (s + 1) left (λ x lt. e x (omega arith)) in
    ap (λ p. and_ok p (λ _. each_shard at (s + 1) left)) (e s (omega arith))
    ∙ ap (λ x. and_ok (by s) (λ _. x)) rest

-- a look keeps the cells
pub has_cell_after : (l m : Layout) (old new : Writer) (c d : ℕ) → HasCell l old d → m ≡ l
    → LooksAt old new c → HasCell m new d
has_cell_after l m old new c d h e a =
    let k : Log = get_or old.seen c [] ++ a.more in
    let same : length new.seen ≡ length old.seen =
    ap (λ (w : Writer). length w.seen) a.is ∙ length-set old.seen c k in
    record {
      in_range = subst (λ (x : Layout). d < cells_in x.names) (sym e) h.in_range;
      seen = subst (λ n. d < n) (sym same) h.seen;
    }
