-- Tests of deliveries.
use Rattle.std.proofs.Common.{◌≡◌, ℕ, ◌<◌, ◌≤◌, ◌==◌, Bool, true, false, cond, List, [], ◌∷◌, get_or, Option, Some, None, refl, sym, ap, subst, ◌∙◌, arith, Decides, bytes_eq, is_eq, leb}
use Rattle.std.proofs.lemmas.Bool.{false≢true, eqb-true}
use Rattle.std.proofs.lemmas.Bool.Decides.{nat_tests}
use Rattle.std.proofs.lemmas.Cmp.{tied_itself}
use Rattle.std.proofs.lemmas.Slice.Eq.{bytes_eq-Decides}
use Rattle.std.specs.Option.{option_cmp}
use Rattle.std.specs.declared.cmp.Ordering.{Ordering}
use Rattle.std.specs.declared.cmp.Ordering.TheVariants.{Less, Equal, Greater}
use Rattle.tuple_values.specs.Document.{ByteList, Datum, Doc}
use Rattle.tuple_values.specs.Order.{datum_cmp}
use Rattle.tuple_values.proofs.OrderLemmas.{datum_cmp_total, datum_cmp_same}
use Rattle.tuple_values.specs.declared.names.NameShards.{NameShards}
use Rattle.shard_versions.specs.Documents.{id_of, IsFrom}
use Rattle.shard_versions.specs.Histories.{History, Slot, slots, write_at, top}
use Rattle.shard_versions.specs.Readings.{left_under}
use Rattle.once_core.specs.Cells.{home_history}
use Rattle.once_core.specs.Law.{IsDelivery}
use Rattle.once_core.specs.declared.world.Histories.{Histories}

-- what compares as equal
equal-of : (o : Ordering) → is_eq o ≡ true → o ≡ Equal
equal-of Less e = absurd (false≢true e)
equal-of Equal e = refl
equal-of Greater e = absurd (false≢true e)

-- a value compares as equal exactly where it is the same
pub same-value : (found : Option Datum) (value : Datum) (o : Ordering) (r : Bool) → o ≡ option_cmp datum_cmp found (Some value)
    → r ≡ is_eq o → Decides r (found ≡ Some value)
same-value None value o r e f =
    let less : r ≡ false = f ∙ ap is_eq e in
    (λ t. absurd (cc), λ n. absurd (cc))
same-value (Some x) value o r e f =
    let is : r ≡ is_eq (datum_cmp x value) = f ∙ ap is_eq e in (
      λ t. ap Some (datum_cmp_same x value (equal-of (datum_cmp x value) (sym is ∙ t))),
      λ n. let same : x ≡ value = cc in
          is ∙ ap is_eq (ap (λ y. datum_cmp y value) same ∙ tied_itself datum_cmp_total value),
    )

-- a pair by its parts
pub pair-at : {X Y : Type 0} (ps : List (X × Y)) (k : ℕ) (x : X) (y : Y) → ((d : X × Y) → x ≡ (get_or ps k d).0)
    → ((d : X × Y) → y ≡ (get_or ps k d).1) → (x, y) ≡ get_or ps k (x, y)
pair-at ps k x y f g = ap (λ z. (z, y)) (f (x, y)) ∙ ap (λ z. ((get_or ps k (x, y)).0, z)) (g (x, y))

-- a write is found under its version
write_at-version : (v : ℕ) (ss : List Slot) (s : Slot) → write_at v ss ≡ Some s → s.version ≡ v
write_at-version v [] s e = absurd (cc)
write_at-version v (x ∷ ss) s e = go (x.version == v) refl e (write_at-version v ss s)
  where
    go : (b : Bool) → (x.version == v) ≡ b → cond b (Some x) (write_at v ss) ≡ Some s
        → (write_at v ss ≡ Some s → s.version ≡ v) → s.version ≡ v
    go true is e more = let same : x ≡ s = cc in ap (λ (y : Slot). y.version) (sym same) ∙ eqb-true x.version v is
    go false is e more = more e

-- a slot by its parts
slot-is : (s : Slot) (v : ℕ) (id : ByteList) (left : Option Doc) → s.version ≡ v → s.id ≡ id → s.left ≡ left
    → s ≡ record { version = v; id = id; left = left }
slot-is s v id left a b c =
    ap (λ n. record { version = n; id = s.id; left = s.left }) a
    ∙ (ap (λ i. record { version = v; id = i; left = s.left }) b ∙ ap (λ d. record { version = v; id = id; left = d }) c)

-- what a write left under the id tells the write
pub write-left : (v : ℕ) (ss : List Slot) (id : ByteList) (doc : Doc) → Some doc ≡ left_under id (write_at v ss)
    → write_at v ss ≡ Some (record { version = v; id = id; left = Some doc })
write-left v ss id doc e = go (write_at v ss) refl e
  where
    inner : (s : Slot) → write_at v ss ≡ Some s → (b : Bool) → bytes_eq id s.id ≡ b → Some doc ≡ cond b s.left None
        → write_at v ss ≡ Some (record { version = v; id = id; left = Some doc })
    inner s w true is e =
        w ∙ ap Some (slot-is s v id (Some doc) (write_at-version v ss s w) (sym ((bytes_eq-Decides id s.id).0 is)) (sym e))
    inner s w false is e = absurd (cc)

    go : (o : Option Slot) → write_at v ss ≡ o → Some doc ≡ left_under id o
        → write_at v ss ≡ Some (record { version = v; id = id; left = Some doc })
    go None w e = absurd (cc)
    go (Some s) w e = inner s w (bytes_eq id s.id) refl e

-- and the other way round
pub left-write : (v w : ℕ) (ss : List Slot) (id : ByteList) (doc : Doc)
    → write_at v ss ≡ Some (record { version = w; id = id; left = Some doc }) → left_under id (write_at v ss) ≡ Some doc
left-write v w ss id doc e =
    ap (left_under id) e ∙ ap (λ b. cond b (Some doc) None) ((bytes_eq-Decides id id).1 refl)

module _ (names : List NameShards) (hs : Histories) (cell : ℕ) (src : ByteList) (version : ℕ) (delivered : Doc)
    (home : History) (id : ByteList) (named : id ≡ id_of delivered) (at : home ≡ home_history names hs src id) where
  home-is : home ≡ home_history names hs src (id_of delivered)
  home-is = at ∙ ap (home_history names hs src) named

  -- the delivery's write as it is found
  found-of : (d : IsDelivery names hs cell src version delivered) → left_under id (write_at version (slots home)) ≡ Some d.doc
  found-of d =
      ap (λ i. left_under i (write_at version (slots home))) named
      ∙ left-write version version (slots home) (id_of delivered) d.doc
      (ap (λ h. write_at version (slots h)) home-is ∙ d.written)

  -- where nothing is left under the id there is no such delivery
  pub delivery-none : None ≡ left_under id (write_at version (slots home)) → Decides false (IsDelivery names hs cell src version delivered)
  delivery-none e = (λ f. absurd (false≢true f), λ d. let some = found-of d in cc)

  -- nor where the write isn't committed
  pub delivery-late : (reached : ℕ) → reached ≡ top home → reached < version
      → Decides (leb version reached) (IsDelivery names hs cell src version delivered)
  delivery-late reached e lt =
      let late : leb version reached ≡ false = grind (arith, nat_tests) in
      (λ f. absurd (false≢true (sym late ∙ f)), λ d. absurd (omega (arith, e, ap top home-is, d.reached)))

  -- else it depends on the document that was left
  pub delivery-some : (source : Doc) (reached : ℕ) (r : Bool) → Some source ≡ left_under id (write_at version (slots home))
      → reached ≡ top home → version ≤ reached → Decides r (IsFrom delivered src version source)
      → Decides r (IsDelivery names hs cell src version delivered)
  delivery-some source reached r e t le d = (
    λ is. record {
      doc = source;
      reached = omega (arith, t, ap top home-is);
      written = ap (λ h. write_at version (slots h)) (sym home-is)
          ∙ write-left version (slots home) (id_of delivered) source
          (e ∙ ap (λ i. left_under i (write_at version (slots home))) named);
      is_from = d.0 is;
    },
    λ dl. let same : dl.doc ≡ source = (let some = found-of dl in cc) in
        d.1 (subst (IsFrom delivered src version) same dl.is_from),
  )
