-- The writes among a writer's entries, and whether one is pending.
use Rattle.std.proofs.Common.{◌≡◌, ℕ, Bool, true, false, not, ◌&&◌, ◌||◌, cond, List, [], ◌∷◌, ◌++◌, map, refl, sym, ap, ◌∙◌, append_assoc, append-nil}
use Rattle.std.specs.Prelude.{filter}
use Rattle.std.specs.List.{AllByRecursion}
use Rattle.std.proofs.lemmas.List.{map-append}
use Rattle.std.proofs.lemmas.List.Elements.{filter-append}
use Rattle.tuple_values.specs.declared.write.Write.{Write}
use Rattle.tuple_values.specs.declared.write.Write.TheVariants as write
use Rattle.shard_versions.specs.Fitness.{is_routed}
use Rattle.shard_versions.specs.Histories.{History, has_mark, is_mark, is_pending}
use Rattle.shard_versions.specs.declared.entry.Entry.{Entry}
use Rattle.shard_versions.specs.declared.entry.Kind.{Kind}
use Rattle.shard_versions.specs.declared.entry.Kind.TheVariants.{Mark}
use Rattle.exchange_rules.specs.Cells as cell
use Rattle.exchange_rules.specs.Cells.{Log, entry_in, history_in, signed}
use Rattle.exchange_rules.specs.Steps.{closed, entries_by, kind_of, kinds_of, routed}
use Rattle.exchange_rules.proofs.StepLemmas.{kinds_of-entries_by}
use Rattle.load_rules.specs.Loaded.{writes_in}

-- the history of two logs
pub history_in-append : (a b : Log) → history_in (a ++ b) ≡ history_in a ++ history_in b
history_in-append [] b = refl
history_in-append (n ∷ a) b =
    ap (λ x. entry_in n ++ x) (history_in-append a b)
    ∙ sym (append_assoc (entry_in n) (history_in a) (history_in b))

-- the history of a step at a shard
pub history_in-signed : (me : ℕ) (ks : List Kind)
    → history_in (signed me (map cell.write ks)) ≡ entries_by me ks
history_in-signed me [] = refl
history_in-signed me (k ∷ ks) =
    ap (λ x. record { by = me; kind = k } ∷ x) (history_in-signed me ks)

-- the writes of two histories
pub writes_in-append : (a b : History) → writes_in (a ++ b) ≡ writes_in a ++ writes_in b
writes_in-append a b =
    ap (filter (λ k. not (is_mark k))) (map-append (λ (e : Entry). e.kind) a b)
    ∙ filter-append (λ (k : Kind). not (is_mark k)) (kinds_of a) (kinds_of b)

-- each of the kinds is a write
abbrev pub AreWrites : List Kind → Type 0
AreWrites ks = AllByRecursion (λ k. is_mark k ≡ false) ks

-- each is kept where none is a Mark
kept_all : (ks : List Kind) → AreWrites ks → filter (λ k. not (is_mark k)) ks ≡ ks
kept_all [] w = refl
kept_all (k ∷ ks) w =
    ap (λ b. cond (not b) (k ∷ filter (λ x. not (is_mark x)) ks) (filter (λ x. not (is_mark x)) ks))
    w.0 ∙ ap (λ x. k ∷ x) (kept_all ks w.1)

-- the writes of a step with its Mark
pub writes_in-closed : (me : ℕ) (ks : List Kind) → AreWrites ks
    → writes_in (entries_by me (closed true ks)) ≡ ks
writes_in-closed me ks w = ap keep (kinds_of-entries_by me (closed true ks)) ∙ go ks w
  where
    keep : List Kind → List Kind
    keep xs = filter (λ k. not (is_mark k)) xs

    go : (ks : List Kind) → AreWrites ks → filter (λ k. not (is_mark k)) (closed true ks) ≡ ks
    go [] w = refl
    go (k ∷ ks) w =
        filter-append (λ (x : Kind). not (is_mark x)) (k ∷ ks) (Mark ∷ [])
        ∙ (append-nil (filter (λ x. not (is_mark x)) (k ∷ ks)) ∙ kept_all (k ∷ ks) w)

-- what is asked for is a write
kind_written : (w : Write) → is_mark (kind_of w) ≡ false
kind_written (write.Put doc) = refl
kind_written (write.Del id) = refl

-- what routes to a shard are writes
pub routed_writes : (n s : ℕ) (ws : List Write) → AreWrites (routed n s ws)
routed_writes n s [] = tt
routed_writes n s (w ∷ ws) = go (is_routed n s (kind_of w)) (routed n s ws) (routed_writes n s ws)
  where
    go : (b : Bool) (ks : List Kind) → AreWrites ks → AreWrites (cond b (kind_of w ∷ ks) ks)
    go true ks a = (kind_written w, a)
    go false ks a = a

-- what routes to a shard of two lists of writes
pub routed-append : (n s : ℕ) (a b : List Write)
    → routed n s (a ++ b) ≡ routed n s a ++ routed n s b
routed-append n s a b =
    ap (filter (is_routed n s)) (map-append kind_of a b)
    ∙ filter-append (is_routed n s) (map kind_of a) (map kind_of b)

-- there is a Mark in one of two histories
has_mark-append : (a b : History) → has_mark (a ++ b) ≡ (has_mark a || has_mark b)
has_mark-append [] b = refl
has_mark-append (e ∷ a) b =
    ap (λ x. is_mark e.kind || x) (has_mark-append a b)
    ∙ go (is_mark e.kind) (has_mark a) (has_mark b)
  where
    go : (x y z : Bool) → (x || (y || z)) ≡ (x || y || z)
    go true y z = refl
    go false y z = refl

-- no test passes where one of two doesn't
none_of : (x y z p q : Bool) → (not x && not y || p) ≡ false → (p ≡ false → q ≡ false)
    → (not x && not (y || z) || q) ≡ false
none_of true y z p q e n = n e
none_of false true z p q e n = n e
none_of false false z p q e n = absurd (cc)

-- nothing is pending in either of two
pub pending-append : (a b : History) → is_pending a ≡ false → is_pending b ≡ false
    → is_pending (a ++ b) ≡ false
unfolding is_pending
pending-append [] b x y = y
pending-append (e ∷ a) b x y =
    ap (λ t. not (is_mark e.kind) && not t || is_pending (a ++ b)) (has_mark-append a b)
    ∙ none_of (is_mark e.kind) (has_mark a) (has_mark b) (is_pending a) (is_pending (a ++ b)) x
    (λ z. pending-append a b z y)

-- a Mark at the end
marked_end : (me : ℕ) (ks : List Kind) → has_mark (entries_by me (ks ++ Mark ∷ [])) ≡ true
marked_end me [] = refl
marked_end me (k ∷ ks) =
    ap (λ x. is_mark k || x) (marked_end me ks) ∙ go (is_mark k)
  where
    go : (x : Bool) → (x || true) ≡ true
    go true = refl
    go false = refl

-- closes what is before it
pending_marked : (me : ℕ) (ks : List Kind) → is_pending (entries_by me (ks ++ Mark ∷ [])) ≡ false
unfolding is_pending
pending_marked me [] = refl
pending_marked me (k ∷ ks) =
    ap (λ t. not (is_mark k) && not t || is_pending (entries_by me (ks ++ Mark ∷ [])))
    (marked_end me ks) ∙ go (is_mark k) (is_pending (entries_by me (ks ++ Mark ∷ [])))
    (pending_marked me ks)
  where
    go : (x p : Bool) → p ≡ false → (not x && not true || p) ≡ false
    go true p e = e
    go false p e = e

-- nothing is pending of a Mark
pub pending-mark : (me : ℕ) → is_pending (entries_by me (Mark ∷ [])) ≡ false
pending-mark me = pending_marked me []

-- no write is pending of a step with its Mark
pub pending-closed : (me : ℕ) (ks : List Kind)
    → is_pending (entries_by me (closed true ks)) ≡ false
unfolding is_pending
pending-closed me [] = refl
pending-closed me (k ∷ ks) = pending_marked me (k ∷ ks)

-- nor of none
pub pending-none : is_pending [] ≡ false
unfolding is_pending
pending-none = refl
