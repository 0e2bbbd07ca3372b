-- The documents that an update makes of tuples, field by field.
use Rattle.std.proofs.Common.{◌≡◌, ℕ, ◌+◌, ◌<◌, ◌≤◌, List, [], ◌∷◌, ◌++◌, true, false, length, get_or, drop, refl, sym, ap, subst, ◌∙◌, append_assoc, append-nil, arith, Option, Some, None, Result, Ok, Err}
use Rattle.std.specs.Prelude.{Bool, not, bytes_eq, option_and_then, if◌then◌else◌}
use Rattle.std.specs.List.{AllByRecursion}
use Rattle.std.specs.declared.cmp.Ordering.TheVariants.{Less}
use Rattle.std.proofs.lemmas.List.{at_drop_more, at_drop_all}
use Rattle.std.proofs.lemmas.Slice.Eq.{bytes_eq-Decides}
use Rattle.tuple_values.specs.Document.{ByteList, bytes_cmp, Datum, Doc, IsBelow, Rises, put, is_named, value_at}
use Rattle.tuple_values.specs.Kinds.{coerced}
use Rattle.tuple_values.specs.declared.write.Write.{Write}
use Rattle.shard_versions.specs.Documents.{id_name, is_empty, reserved_names, text_of}
use Rattle.shard_versions.proofs.ListLemmas.{each_append, each_weaker}
use Rattle.exchange_rules.specs.Puts.{has_id, in_kinds, put_of, puts_of, unreserved, with_field, with_put}
use Rattle.exchange_rules.specs.declared.run.RunFault.{RunFault}

-- a name that comes behind those of all fields is put at the end
put_end : (name : ByteList) (value : Datum) (doc : Doc)
    → AllByRecursion (λ f. bytes_cmp f.0 name ≡ Less) doc
    → put name value doc ≡ doc ++ (name, value) ∷ []
put_end name value [] h = refl
put_end name value (f ∷ doc) h =
    let e = h.0 in rw e (ap (λ d. f ∷ d) (put_end name value doc h.1))

-- fields that are made, before those that are left, unless one of them has no form
abbrev pub before : Doc → Result Doc ByteList → Result Doc ByteList
before made (Ok others) = Ok (made ++ others)
before made (Err name) = Err name

-- nothing before others
before-none : (others : Result Doc ByteList) → before [] others ≡ others
before-none (Ok others) = refl
before-none (Err name) = refl

-- a field more before others
before-field : (made : Doc) (name : ByteList) (value : Datum) (others : Result Doc ByteList)
    → before made (with_field name (Some value) others)
    ≡ before (made ++ (name, value) ∷ []) others
before-field made name value (Ok others) =
    ap (λ d. Ok d) (sym (append_assoc made ((name, value) ∷ []) others))
before-field made name value (Err other) = refl

-- this is made of the tuple's fields before the k-th
pub record IsMade (tuple made : Doc) (k : ℕ) : Type 0 where
  pub so_far : in_kinds (unreserved tuple) ≡ before made (in_kinds (unreserved (drop k tuple)))
  pub rises : Rises (drop k tuple)
  pub below : AllByRecursion (λ f. IsBelow f.0 (drop k tuple)) made

-- nothing is made of none
pub made_none : (tuple : Doc) → Rises tuple → IsMade tuple [] 0
made_none tuple rises = record {
  so_far = sym (before-none (in_kinds (unreserved tuple)));
  rises = rises;
  below = tt;
}

-- a field stands before those behind it, by what was read at its place
pub left_is : (tuple : Doc) (k : ℕ) (name : ByteList) (value : Datum) → k < length tuple
    → ((d : ByteList × Datum) → name ≡ (get_or tuple k d).0)
    → ((d : ByteList × Datum) → value ≡ (get_or tuple k d).1)
    → drop k tuple ≡ (name, value) ∷ drop (k + 1) tuple
left_is tuple k name value lt a b =
    let left = a (name, value) in
    let right = b (name, value) in
    let is : (name, value) ≡ get_or tuple k (name, value) = λ i. (left i, right i) in
    at_drop_more (λ rest. rest) tuple k (name, value) lt
    ∙ ap (λ f. f ∷ drop (k + 1) tuple) (sym is)

module _ (tuple made : Doc) (k : ℕ) (name : ByteList) (value : Datum)
    (is : drop k tuple ≡ (name, value) ∷ drop (k + 1) tuple) (m : IsMade tuple made k) where
  -- the fields that are left are this one and those behind it
  left : Rises ((name, value) ∷ drop (k + 1) tuple)
  left = subst Rises is m.rises

  -- each field that is made comes before all of these
  apart : AllByRecursion (λ f. IsBelow f.0 ((name, value) ∷ drop (k + 1) tuple)) made
  apart = subst (λ d. AllByRecursion (λ f. IsBelow f.0 d) made) is m.below

  -- what is made of all, by this field and those behind it
  split : in_kinds (unreserved tuple)
      ≡ before made (in_kinds (unreserved ((name, value) ∷ drop (k + 1) tuple)))
  split = m.so_far ∙ ap (λ d. before made (in_kinds (unreserved d))) is

  -- and before those behind it
  behind : AllByRecursion (λ f. IsBelow f.0 (drop (k + 1) tuple)) made
  behind =
      each_weaker (λ f. IsBelow f.0 ((name, value) ∷ drop (k + 1) tuple))
      (λ f. IsBelow f.0 (drop (k + 1) tuple)) (λ f b. b.1) made apart

  -- a reserved field is left out
  pub made_less : is_named name reserved_names ≡ true → IsMade tuple made (k + 1)
  made_less reserved = record {
    so_far = split ∙ rw reserved refl;
    rises = left.1;
    below = behind;
  }

  -- another one is put behind those that are made, in the kind of its name
  pub made_more : (new : Datum) → is_named name reserved_names ≡ false
      → coerced name value ≡ Some new → IsMade tuple (put name new made) (k + 1)
  made_more new other is_kind =
      let last : put name new made ≡ made ++ (name, new) ∷ [] =
      put_end name new made
      (each_weaker (λ f. IsBelow f.0 ((name, value) ∷ drop (k + 1) tuple))
      (λ f. bytes_cmp f.0 name ≡ Less) (λ f b. b.0) made apart) in
      subst (λ d. IsMade tuple d (k + 1)) (sym last) (record {
        so_far = split ∙ rw (other, is_kind) (before-field made name new
            (in_kinds (unreserved (drop (k + 1) tuple))));
        rises = left.1;
        below = each_append (λ f. IsBelow f.0 (drop (k + 1) tuple)) made ((name, new) ∷ [])
            behind (left.0, tt);
      })

  -- one whose value has no such form is told
  pub made_bad : is_named name reserved_names ≡ false → coerced name value ≡ None
      → in_kinds (unreserved tuple) ≡ Err name
  made_bad other is_none = split ∙ rw (other, is_none) refl

-- all is made where no field is left
pub made_all : (tuple made : Doc) (k : ℕ) → length tuple ≤ k → IsMade tuple made k
    → in_kinds (unreserved tuple) ≡ Ok made
made_all tuple made k all m =
    m.so_far
    ∙ at_drop_all (λ rest. before made (in_kinds (unreserved rest))) tuple k all
    ∙ ap (λ d. Ok d) (append-nil made)

-- writes before others, unless one of those is none
abbrev pub writes_before : List Write → Result (List Write) RunFault
    → Result (List Write) RunFault
writes_before made (Ok others) = Ok (made ++ others)
writes_before made (Err fault) = Err fault

-- no write before others
pub writes-none : (others : Result (List Write) RunFault) → others ≡ writes_before [] others
writes-none (Ok others) = refl
writes-none (Err fault) = refl

-- a write more before others
writes-put : (made : List Write) (write : Write) (others : Result (List Write) RunFault)
    → writes_before made (with_put (Ok write) others)
    ≡ writes_before (made ++ write ∷ []) others
writes-put made write (Ok others) =
    ap (λ w. Ok w) (sym (append_assoc made (write ∷ []) others))
writes-put made write (Err fault) = refl

module _ (docs : List Doc) (at k place : ℕ) (made : List Write) (doc : Doc)
    (lt : k < length docs) (is : doc ≡ get_or docs k doc) (here : place ≡ at + k)
    (so_far : puts_of at docs ≡ writes_before made (puts_of (at + k) (drop k docs))) where
  -- what the tuples ask for, by this one and those behind it
  parted : puts_of at docs
      ≡ writes_before made (with_put (put_of place doc) (puts_of (at + k + 1) (drop (k + 1) docs)))
  parted =
      so_far
      ∙ (at_drop_more (λ d. writes_before made (puts_of (at + k) d)) docs k doc lt
      ∙ (ap (λ d. writes_before made (puts_of (at + k) (d ∷ drop (k + 1) docs))) (sym is)
      ∙ ap (λ n. writes_before made
      (with_put (put_of n doc) (puts_of (at + k + 1) (drop (k + 1) docs)))) (sym here)))

  -- this one asks for a write
  pub put_more : (write : Write) (next : ℕ) → Ok write ≡ put_of place doc → next ≡ at + k + 1
      → puts_of at docs
      ≡ writes_before (made ++ write ∷ []) (puts_of next (drop (k + 1) docs))
  put_more write next put on =
      parted
      ∙ (ap (λ p. writes_before made (with_put p (puts_of (at + k + 1) (drop (k + 1) docs))))
      (sym put)
      ∙ (writes-put made write (puts_of (at + k + 1) (drop (k + 1) docs))
      ∙ ap (λ n. writes_before (made ++ write ∷ []) (puts_of n (drop (k + 1) docs))) (sym on)))

  -- or for none
  pub put_none : (fault : RunFault) → Err fault ≡ put_of place doc → puts_of at docs ≡ Err fault
  put_none fault put =
      parted
      ∙ ap (λ p. writes_before made (with_put p (puts_of (at + k + 1) (drop (k + 1) docs))))
      (sym put)

-- all ask for writes
pub put_all : (docs : List Doc) (at k : ℕ) (made : List Write) → length docs ≤ k
    → puts_of at docs ≡ writes_before made (puts_of (at + k) (drop k docs))
    → puts_of at docs ≡ Ok made
put_all docs at k made all so_far =
    so_far
    ∙ (at_drop_all (λ d. writes_before made (puts_of (at + k) d)) docs k all
    ∙ ap (λ w. Ok w) (append-nil made))

-- ---- what the answers of calls come to

-- a name that isn't reserved is found in what is left
value_unreserved : (n : ByteList) (doc : Doc) → is_named n reserved_names ≡ false
    → value_at n (unreserved doc) ≡ value_at n doc
value_unreserved n [] e = refl
value_unreserved n (f ∷ doc) e =
    go (is_named f.0 reserved_names) refl (bytes_eq f.0 n) refl (value_unreserved n doc e)
  where
    go : (b : Bool) → is_named f.0 reserved_names ≡ b → (c : Bool) → bytes_eq f.0 n ≡ c
        → value_at n (unreserved doc) ≡ value_at n doc
        → value_at n (if not b then f ∷ unreserved doc else unreserved doc)
        ≡ (if c then Some f.1 else value_at n doc)
    go true r true same rest =
        let is : f.0 ≡ n = (bytes_eq-Decides f.0 n).0 same in
        let named : is_named n reserved_names ≡ true =
        ap (λ m. is_named m reserved_names) (sym is) ∙ r in absurd (cc)
    go true r false other rest = rest
    go false r true same rest = rw same refl
    go false r false other rest = rw other rest

-- whether a tuple has an id, by what was read of it
pub has_id_by : (doc : Doc) (made : Option Datum)
    → made ≡ option_and_then (coerced id_name) (value_at id_name doc)
    → not (is_empty (text_of made)) ≡ has_id (unreserved doc)
has_id_by doc made e =
    ap (λ o. not (is_empty (text_of o)))
    (e ∙ ap (option_and_then (coerced id_name)) (sym (value_unreserved id_name doc refl)))

-- what its id is made of
pub id_made : (doc : Doc) (v w : Datum) (made : Option Datum) → Some v ≡ value_at id_name doc
    → w ≡ v → made ≡ coerced id_name w
    → made ≡ option_and_then (coerced id_name) (value_at id_name doc)
id_made doc v w made is copy kind =
    kind ∙ (ap (coerced id_name) copy ∙ ap (option_and_then (coerced id_name)) is)

-- it has none where nothing is there
pub id_none : (doc : Doc) → None ≡ value_at id_name doc
    → None ≡ option_and_then (coerced id_name) (value_at id_name doc)
id_none doc is = ap (option_and_then (coerced id_name)) is

-- whether a name is reserved, by what was asked
pub reserved_by : (asked read name : ByteList) (answer b : Bool)
    → answer ≡ is_named asked reserved_names → asked ≡ read → read ≡ name → answer ≡ b
    → is_named name reserved_names ≡ b
reserved_by asked read name answer b a r n e =
    ap (λ m. is_named m reserved_names) (sym (r ∙ n)) ∙ (sym a ∙ e)

-- the value in the kind of a name, by what was asked
pub kind_by : (asked read name : ByteList) (copy shown value : Datum) (made kind : Option Datum)
    → made ≡ coerced asked copy → asked ≡ read → read ≡ name → copy ≡ shown → shown ≡ value
    → made ≡ kind → coerced name value ≡ kind
kind_by asked read name copy shown value made kind a r n c v e =
    ap (λ m. coerced m value) (sym (r ∙ n))
    ∙ (ap (coerced asked) (sym (c ∙ v)) ∙ (sym a ∙ e))

-- a name that is told is the one that was read
pub bad_told : (made : Result Doc ByteList) (told name : ByteList) → told ≡ name
    → made ≡ Err name → Err told ≡ made
bad_told made told name t m = ap (λ n. Err n) t ∙ sym m

-- no write is made before any is asked for
pub puts_begin : (docs : List Doc) (at : ℕ) (made : List Write) → made ≡ []
    → puts_of at docs ≡ writes_before made (puts_of (at + 0) (drop 0 docs))
puts_begin docs at made none =
    let e : at ≡ at + 0 = omega arith in
    ap (λ n. puts_of n docs) e
    ∙ (writes-none (puts_of (at + 0) docs)
    ∙ ap (λ m. writes_before m (puts_of (at + 0) docs)) (sym none))
