-- What is counted of a history with one more entry before it.
use Rattle.std.proofs.Common.{◌≡◌, ℕ, ◌+◌, ◌≤◌, ◌||◌, Bool, true, false, cond, List, [], ◌∷◌, ◌++◌, length, Option, Some, None, refl, sym, ap, ◌∙◌, arith, zero-add, codes}
use Rattle.std.specs.List.{sum_by}
use Rattle.std.proofs.lemmas.List.Sums.{sum_by-cons}
use Rattle.tuple_values.specs.Document.{ByteList, Doc, long, value_at}
use Rattle.std.specs.Prelude.{pos}
use Rattle.tuple_values.proofs.MapLemmas.{value_put_other}
use Rattle.shard_versions.specs.Documents.{id_of, version_name, with_version}
use Rattle.shard_versions.specs.declared.entry.Kind.{Kind}
use Rattle.shard_versions.specs.declared.entry.Kind.TheVariants.{Put, Del, Sent, Mark}
use Rattle.shard_versions.specs.declared.entry.Entry.{Entry}
use Rattle.shard_versions.specs.Histories.{History, Slot, committed, current, has_mark, is_mark, latest, settled, slot_of, slots, slots_after, version_after, writes_id}
use Rattle.shard_versions.specs.Indexes.{is_write_of, left_of, written_id}
use Rattle.shard_versions.specs.Logs.{width}
use Rattle.shard_versions.proofs.LogLemmas.{slots-length, writes}
use Rattle.shard_versions.proofs.SnapshotLemmas.{writes_id-slot}
use Rattle.load_rules.specs.Summary.{counted, number_in}

-- what one write adds to a sum, unless a later one is of its id
abbrev pub one : (Doc → ℕ) → Bool → Option Doc → ℕ
one number true left = 0
one number false None = 0
one number false (Some doc) = number doc

-- it adds nothing where it leaves no document
one-none : (number : Doc → ℕ) (b : Bool) → one number b None ≡ 0
one-none number true = refl
one-none number false = refl

-- whether one of the writes is of the id, where there is one
abbrev is_among : Option ByteList → List Slot → Bool
is_among None ss = false
is_among (Some id) ss = writes_id id ss

-- an entry that writes no id is a Mark
pub no-id : (k : Kind) → written_id k ≡ None → (is_mark k ≡ true) × (left_of k ≡ None)
    × (width k ≡ 0)
no-id (Put d) e = absurd (cc)
no-id (Del i) e = absurd (cc)
no-id (Sent s v d) e = absurd (cc)
no-id Mark e = (refl, refl, refl)

-- and one that writes an id is none
pub an-id : (k : Kind) (id : ByteList) → written_id k ≡ Some id → (is_mark k ≡ false)
    × (width k ≡ 1)
an-id (Put d) id e = (refl, refl)
an-id (Del i) id e = (refl, refl)
an-id (Sent s v d) id e = (refl, refl)
an-id Mark id e = absurd (cc)

-- whether a write has an id doesn't depend on versions
writes_id-any : (id : ByteList) (v w : ℕ) (h : History)
    → writes_id id (slots_after v h) ≡ writes_id id (slots_after w h)
unfolding slots_after
writes_id-any id v w [] = refl
writes_id-any id v w (e ∷ h) =
    writes_id-slot id (version_after v e.kind) e.kind (slots_after (version_after v e.kind) h)
    ∙ ap (λ b. is_write_of id e.kind || b) (writes_id-any id (version_after v e.kind)
    (version_after w e.kind) h)
    ∙ sym (writes_id-slot id (version_after w e.kind) e.kind (slots_after
    (version_after w e.kind) h))

-- the same of an id that may be absent
is_among-any : (o : Option ByteList) (v w : ℕ) (h : History)
    → is_among o (slots_after v h) ≡ is_among o (slots_after w h)
is_among-any None v w h = refl
is_among-any (Some id) v w h = writes_id-any id v w h

-- an id is written by an entry, or behind it
pub written-cons : (id : ByteList) (e : Entry) (h : History)
    → writes_id id (slots (e ∷ h)) ≡ (is_write_of id e.kind || writes_id id (slots h))
unfolding slots slots_after
written-cons id e h =
    writes_id-slot id (version_after 0 e.kind) e.kind (slots_after (version_after 0 e.kind) h)
    ∙ ap (λ b. is_write_of id e.kind || b) (writes_id-any id (version_after 0 e.kind) 0 h)

-- all is settled before a Mark
pub settled-cons : (e : Entry) (h : History) → has_mark (e ∷ h) ≡ true
    → settled (e ∷ h) ≡ e ∷ settled h
unfolding settled
settled-cons e h mark = ap (λ b. cond b (e ∷ settled h) []) mark

-- and nothing where there is none
pub settled-none : (h : History) → has_mark h ≡ false → settled h ≡ []
unfolding settled
settled-none [] mark = refl
settled-none (e ∷ h) mark = ap (λ b. cond b (e ∷ settled h) []) mark

-- how long a list is as a sum
length-sum : {X : Type 0} (xs : List X) → length xs ≡ sum_by (λ x. 1) xs
length-sum [] = refl
length-sum {X = X} (x ∷ xs) = omega (arith, length-sum xs, sum_by-cons {X = X} (λ x. 1) x xs)

module _ (g : ℕ × Doc → ℕ) (number : Doc → ℕ) (blind : (v : ℕ) (d : Doc)
    → g (v, with_version v d) ≡ number d) where
  -- a document that is kept or not
  sum-kept : (v : ℕ) (d : Doc) (ps : List (ℕ × Doc)) (b : Bool)
      → sum_by g (cond b [] ((v, with_version v d) ∷ []) ++ ps) ≡ one number b
      (Some d) + sum_by g ps
  sum-kept v d ps true = sym (zero-add (sum_by g ps))
  sum-kept v d ps false =
      sum_by-cons g (v, with_version v d) ps ∙ ap (λ n. n + sum_by g ps) (blind v d)

  -- an entry's slot before others
  sum-slot : (v : ℕ) (k : Kind) (ss : List Slot)
      → sum_by g (latest (slot_of v k ++ ss)) ≡ one number (is_among (written_id k) ss)
      (left_of k) + sum_by g (latest ss)
  unfolding latest
  sum-slot v (Put d) ss = sum-kept v d (latest ss) (writes_id (id_of d) ss)
  sum-slot v (Del i) ss =
      sym (ap (λ n. n + sum_by g (latest ss)) (one-none number (writes_id i ss))
      ∙ zero-add (sum_by g (latest ss)))
  sum-slot v (Sent s w d) ss = sum-kept v d (latest ss) (writes_id (id_of d) ss)
  sum-slot v Mark ss = sym (zero-add (sum_by g (latest ss)))

  -- the sum doesn't depend on versions
  sum-any : (v w : ℕ) (h : History) → sum_by g (latest (slots_after v h)) ≡ sum_by g (latest
      (slots_after w h))
  unfolding slots_after
  sum-any v w [] = refl
  sum-any v w (e ∷ h) =
      let a : ℕ = version_after v e.kind in
      let b : ℕ = version_after w e.kind in
      sum-slot a e.kind (slots_after a h)
      ∙ ap (λ t. one number t (left_of e.kind) + sum_by g (latest (slots_after a h)))
      (is_among-any (written_id e.kind) a b h)
      ∙ ap (λ n. one number (is_among (written_id e.kind) (slots_after b h)) (left_of e.kind) + n)
      (sum-any a b h)
      ∙ sym (sum-slot b e.kind (slots_after b h))

  -- of an entry before others
  sum-cons : (e : Entry) (h : History)
      → sum_by g (latest (slots (e ∷ h)))
      ≡ one number (is_among (written_id e.kind) (slots h)) (left_of e.kind) + sum_by g (latest
      (slots h))
  unfolding slots slots_after
  sum-cons e h =
      let a : ℕ = version_after 0 e.kind in
      sum-slot a e.kind (slots_after a h)
      ∙ ap (λ t. one number t (left_of e.kind) + sum_by g (latest (slots_after a h)))
      (is_among-any (written_id e.kind) a 0 h)
      ∙ ap (λ n. one number (is_among (written_id e.kind) (slots_after 0 h)) (left_of e.kind) + n)
      (sum-any a 0 h)

  -- of what is current, where a Mark follows
  current-cons : (e : Entry) (h : History) → has_mark (e ∷ h) ≡ true
      → sum_by g (current (e ∷ h))
      ≡ one number (is_among (written_id e.kind) (slots (settled h))) (left_of e.kind) + sum_by g
      (current h)
  unfolding current committed
  current-cons e h mark =
      ap (λ s. sum_by g (latest (slots s))) (settled-cons e h mark) ∙ sum-cons e (settled h)

  -- nothing is current where none does
  current-none : (h : History) → has_mark h ≡ false → sum_by g (current h) ≡ 0
  unfolding current committed latest slots slots_after
  current-none h mark = ap (λ s. sum_by g (latest (slots s))) (settled-none h mark)

  -- a Mark changes nothing of what is current
  pub sum-mark : (e : Entry) (h : History) → written_id e.kind ≡ None
      → sum_by g (current (e ∷ h)) ≡ sum_by g (current h)
  sum-mark e h none =
      let is = no-id e.kind none in
      current-cons e h (ap (λ b. b || has_mark h) is.0)
      ∙ ap (λ o. one number (is_among (written_id e.kind) (slots (settled h))) o + sum_by g
      (current h)) is.1
      ∙ ap (λ n. n + sum_by g (current h)) (one-none number (is_among (written_id e.kind) (slots
      (settled h))))
      ∙ zero-add (sum_by g (current h))

  -- nor does a write that no Mark follows
  pub sum-pending : (e : Entry) (h : History) (id : ByteList) → written_id e.kind ≡ Some id
      → has_mark h ≡ false
      → sum_by g (current (e ∷ h)) ≡ sum_by g (current h)
  sum-pending e h id some mark =
      current-none (e ∷ h) (ap (λ b. b || has_mark h) (an-id e.kind id some).0 ∙ mark)
      ∙ sym (current-none h mark)

  -- a committed write adds its document, unless a later one is of its id
  pub sum-write : (e : Entry) (h : History) (id : ByteList) → written_id e.kind ≡ Some id
      → has_mark h ≡ true
      → sum_by g (current (e ∷ h)) ≡ one number (writes_id id (slots (settled h)))
      (left_of e.kind) + sum_by g (current h)
  sum-write e h id some mark =
      current-cons e h (ap (λ b. b || has_mark h) (an-id e.kind id some).0 ∙ mark)
      ∙ ap (λ o. one number (is_among o (slots (settled h))) (left_of e.kind) + sum_by g
      (current h)) some

-- the number under another name than that of the version is the same
number_in-version : (name : ByteList) (v : ℕ) (d : Doc)
    → value_at name (with_version v d) ≡ value_at name d
    → number_in name (with_version v d) ≡ number_in name d
number_in-version name v d e = ap counted e

-- the amount is the same in each version
pub amount-blind : (v : ℕ) (d : Doc) → number_in (codes "a_i") (with_version v d) ≡ number_in
    (codes "a_i") d
unfolding with_version
amount-blind v d =
    number_in-version (codes "a_i") v d (value_put_other (codes "a_i") version_name (long
    (pos v)) d (λ e. absurd (cc)))

-- and so is the revision
pub revision-blind : (v : ℕ) (d : Doc) → number_in (codes "rev_i") (with_version v d) ≡ number_in
    (codes "rev_i") d
unfolding with_version
revision-blind v d =
    number_in-version (codes "rev_i") v d (value_put_other (codes "rev_i") version_name (long
    (pos v)) d (λ e. absurd (cc)))

-- how many writes there are with one more entry
slots-cons : (e : Entry) (h : History) → length (slots (e ∷ h)) ≡ width e.kind + length (slots h)
slots-cons e h = omega (arith, slots-length (e ∷ h), slots-length h)

-- with a Mark
pub slots-mark : (e : Entry) (h : History) → written_id e.kind ≡ None
    → length (slots (e ∷ h)) ≡ length (slots h)
slots-mark e h none = omega (arith, slots-cons e h, (no-id e.kind none).2)

-- with a write
pub slots-write : (e : Entry) (h : History) (id : ByteList) → written_id e.kind ≡ Some id
    → length (slots (e ∷ h)) ≡ length (slots h) + 1
slots-write e h id some = omega (arith, slots-cons e h, (an-id e.kind id some).1)

-- an entry has at most one write
narrow : (k : Kind) → width k ≤ 1
narrow (Put d) = omega arith
narrow (Del i) = omega arith
narrow (Sent s v d) = omega arith
narrow Mark = omega arith

-- so there are no more writes than entries
writes-few : (h : History) → writes h ≤ length h
writes-few [] = omega arith
writes-few (e ∷ h) = omega (arith, narrow e.kind, writes-few h)

-- and no more versions
pub slots-few : (h : History) → length (slots h) ≤ length h
slots-few h = omega (arith, slots-length h, writes-few h)

module _ (e : Entry) (h : History) where
  -- a Mark changes nothing of how many documents are current
  pub documents-mark : written_id e.kind ≡ None → length (current (e ∷ h)) ≡ length (current h)
  documents-mark none =
      length-sum (current (e ∷ h)) ∙ sum-mark (λ p. 1) (λ d. 1) (λ v d. refl) e h none
      ∙ sym (length-sum (current h))

  -- nor does a write that no Mark follows
  pub documents-pending : (id : ByteList) → written_id e.kind ≡ Some id → has_mark h ≡ false
      → length (current (e ∷ h)) ≡ length (current h)
  documents-pending id some mark =
      length-sum (current (e ∷ h)) ∙ sum-pending (λ p. 1) (λ d. 1) (λ v d. refl) e h id some mark
      ∙ sym (length-sum (current h))

  -- a committed write is counted that leaves a document, unless a later one is of its id
  pub documents-write : (id : ByteList) → written_id e.kind ≡ Some id → has_mark h ≡ true
      → length (current (e ∷ h)) ≡ one (λ d. 1) (writes_id id (slots (settled h)))
      (left_of e.kind) + length (current h)
  documents-write id some mark =
      length-sum (current (e ∷ h)) ∙ sum-write (λ p. 1) (λ d. 1) (λ v d. refl) e h id some mark
      ∙ ap (λ n. one (λ d. 1) (writes_id id (slots (settled h))) (left_of e.kind) + n) (sym
      (length-sum (current h)))
