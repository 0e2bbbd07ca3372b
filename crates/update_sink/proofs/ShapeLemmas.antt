-- What is delivered of a document is of it, and can be kept.
use Rattle.std.proofs.Common.{◌≡◌, ◌≢◌, ℕ, ◌&&◌, ◌||◌, Bool, true, false, cond, List, [], ◌∷◌, bytes_eq, refl, sym, ap, ◌∙◌, subst, Some}
use Rattle.std.specs.Prelude.{filter, not, pos, is_some, if◌then◌else◌}
use Rattle.std.specs.List.{AllByRecursion}
use Rattle.std.specs.declared.cmp.Ordering.{Ordering}
use Rattle.std.specs.declared.cmp.Ordering.TheVariants.{Less, Equal, Greater}
use Rattle.std.proofs.lemmas.Slice.Eq.{bytes_eq-Decides}
use Rattle.tuple_values.specs.Document.{ByteList, bytes_cmp, Datum, long, text, Doc, Rises, is_named, put, put_by, value_at, without}
use Rattle.tuple_values.proofs.BytesLemmas.{bytes_by, itself}
use Rattle.tuple_values.proofs.MapLemmas.{bytes_same, value_cut, value_put, value_put_other, value_without_other}
use Rattle.shard_versions.specs.Documents.{has_group, id_name, id_of, is_empty, is_group, is_storable, origin_names, source_name, source_version_name, text_of, version_name, with_version, IsCarried, IsFrom}
use Rattle.shard_versions.proofs.ListLemmas.{each_two, each_weaker}
use Rattle.source_streams.specs.Batches.{given_names}
use Rattle.expr_types.specs.Sources.{cut_to}
use Rattle.update_sink.specs.Topics.{sent_document}
use Rattle.update_sink.proofs.StorableLemmas.{IsKept, kept-storable}

-- a field
abbrev Field : Type 0
Field = ByteList × Datum

-- what holds of a value and of all fields holds of them with the value put in
each-put : (P : Field → Type 0) (name : ByteList) (value : Datum) (doc : Doc) → P (name, value)
    → AllByRecursion P doc → AllByRecursion P (put name value doc)
each-put P name value [] p a = (p, tt)
each-put P name value (f ∷ doc) p a =
    go (bytes_cmp f.0 name) (each-put P name value doc p a.1)
  where
    go : (o : Ordering) → AllByRecursion P (put name value doc)
        → AllByRecursion P (put_by o (f ∷ put name value doc) ((name, value) ∷ doc)
        ((name, value) ∷ f ∷ doc))
    go Less more = (a.0, more)
    go Equal more = (p, a.1)
    go Greater more = (p, a)

-- where names rise, what holds of all fields of another name holds of all without the one
each-without : (P : Field → Type 0) (name : ByteList) (doc : Doc) → Rises doc
    → AllByRecursion (λ f. bytes_cmp f.0 name ≢ Equal → P f) doc
    → AllByRecursion P (without name doc)
each-without P name [] r a = tt
each-without P name (f ∷ doc) r a =
    go (bytes_cmp f.0 name) refl (each-without P name doc r.1 a.1)
  where
    other : (o : Ordering) → bytes_cmp f.0 name ≡ o → o ≢ Equal
        → bytes_cmp f.0 name ≢ Equal
    other o e d same = d (sym e ∙ same)

    behind : bytes_cmp f.0 name ≡ Equal → AllByRecursion P doc
    behind e =
        let same : f.0 ≡ name = bytes_same f.0 name e in
        each_two (λ (g : Field). bytes_cmp f.0 g.0 ≡ Less)
        (λ (g : Field). bytes_cmp g.0 name ≢ Equal → P g) P
        (λ g below k. k (λ again.
        let here : g.0 ≡ f.0 = bytes_same g.0 name again ∙ sym same in
        let equal : bytes_cmp f.0 g.0 ≡ Equal = ap (bytes_cmp f.0) here ∙ itself f.0 in
        let bad : Less ≡ Equal = sym below ∙ equal in cc))
        doc r.0 a.1

    go : (o : Ordering) → bytes_cmp f.0 name ≡ o → AllByRecursion P (without name doc)
        → AllByRecursion P (put_by o (f ∷ without name doc) doc (f ∷ without name doc))
    go Less e more = (a.0 (other Less e (λ d. let bad : Less ≡ Equal = d in cc)), more)
    go Equal e more = behind e
    go Greater e more = (a.0 (other Greater e (λ d. let bad : Greater ≡ Equal = d in cc)), more)

-- what holds of the fields that pass
each-filter : (P : Field → Type 0) (p : Field → Bool) (doc : Doc)
    → AllByRecursion (λ f. p f ≡ true → P f) doc → AllByRecursion P (filter p doc)
each-filter P p [] a = tt
each-filter P p (f ∷ doc) a = go (p f) refl (each-filter P p doc a.1)
  where
    go : (b : Bool) → p f ≡ b → AllByRecursion P (filter p doc)
        → AllByRecursion P (cond b (f ∷ filter p doc) (filter p doc))
    go true e more = (a.0 e, more)
    go false e more = more

-- each field passes that is left
each-passed : (p : Field → Bool) (doc : Doc)
    → AllByRecursion (λ f. p f ≡ true) (filter p doc)
each-passed p doc = each-filter (λ f. p f ≡ true) p doc (every doc)
  where
    every : (doc : Doc) → AllByRecursion (λ f. p f ≡ true → p f ≡ true) doc
    every [] = tt
    every (f ∷ doc) = (λ e. e, every doc)

-- where names rise, each field is found under its name
each-found : (doc : Doc) → Rises doc
    → AllByRecursion (λ (f : Field). value_at f.0 doc ≡ Some f.1) doc
each-found [] r = tt
each-found (f ∷ doc) r = (
  ap (λ b. if b then Some f.1 else value_at f.0 doc) ((bytes_eq-Decides f.0 f.0).1 refl),
  each_two (λ (g : Field). bytes_cmp f.0 g.0 ≡ Less)
      (λ (g : Field). value_at g.0 doc ≡ Some g.1)
      (λ g. value_at g.0 (f ∷ doc) ≡ Some g.1)
      (λ g below e. ap (λ b. if b then Some f.1 else value_at g.0 doc)
      (bytes_by f.0 g.0 Less below) ∙ e)
      doc r.0 (each-found doc r.1),
)

-- names that are apart by a test are in no order equal
apart-cmp : (a b : ByteList) → bytes_eq a b ≡ false → bytes_cmp b a ≢ Equal
apart-cmp a b e same =
    let there : a ≡ b = sym (bytes_same b a same) in
    let yes : bytes_eq a b ≡ true = (bytes_eq-Decides a b).1 there in
    let bad : true ≡ false = sym yes ∙ e in cc

-- and the other way round
cmp-apart : (a b : ByteList) → bytes_cmp a b ≢ Equal → bytes_eq a b ≡ false
cmp-apart a b d = go (bytes_eq a b) refl
  where
    go : (x : Bool) → bytes_eq a b ≡ x → x ≡ false
    go false e = refl
    go true e =
        let there : a ≡ b = (bytes_eq-Decides a b).0 e in
        absurd (d (ap (bytes_cmp a) (sym there) ∙ itself a))

differ : (a b : ByteList) → bytes_cmp a b ≢ Equal → bytes_eq b a ≡ false
differ a b d = cmp-apart b a (λ e. d (ap (bytes_cmp a) (bytes_same b a e) ∙ itself a))

-- the id is among the names that are given
pub id-given : (fl : List ByteList) → is_named id_name (given_names fl) ≡ true
id-given [] = refl
id-given (n ∷ fl) = or-true (bytes_eq n id_name) (id-given fl)
  where
    or-true : (a : Bool) {b : Bool} → b ≡ true → (a || b) ≡ true
    or-true true e = refl
    or-true false e = e

-- fields of a document without a group
no-group : (doc : Doc) → has_group doc ≡ false
    → AllByRecursion (λ (f : Field). is_group f.1 ≡ false) doc
no-group [] e = tt
no-group (f ∷ doc) e =
    let both = neither (is_group f.1) (has_group doc) e in (both.0, no-group doc both.1)
  where
    neither : (a b : Bool) → (a || b) ≡ false → (a ≡ false) × (b ≡ false)
    neither false b e = (refl, e)
    neither true b e = absurd (cc)

-- what a storable document is
record IsWhole (doc : Doc) : Type 0 where
  id : not (is_empty (text_of (value_at id_name doc))) ≡ true
  group : has_group doc ≡ false

whole-of : (doc : Doc) → is_storable doc ≡ true → IsWhole doc
unfolding is_storable id_of
whole-of doc e =
    split (not (is_empty (text_of (value_at id_name doc)))) (has_group doc)
    (is_some (value_at version_name doc)) refl refl e
  where
    split : (a b c : Bool) → not (is_empty (text_of (value_at id_name doc))) ≡ a
        → has_group doc ≡ b → (a && not b && not c) ≡ true → IsWhole doc
    split true false c x y e = record { id = x; group = y }
    split true true c x y e = absurd (cc)
    split false b c x y e = absurd (cc)

module _ (src : ByteList) (version : ℕ) (fl : List ByteList) (doc given : Doc)
    (is : given ≡ cut_to (given_names fl) (with_version version doc)) (rises : Rises given) where
  -- what is delivered
  abbrev sent : Doc
  sent = sent_document src version given

  -- its id is the document's
  id-same : value_at id_name sent ≡ value_at id_name doc
  unfolding with_version
  id-same =
      value_put_other id_name source_version_name (long (pos version))
      (put source_name (text src) (without version_name given))
      (λ e. let bad : Less ≡ Equal = e in cc)
      ∙ (value_put_other id_name source_name (text src) (without version_name given)
      (λ e. let bad : Less ≡ Equal = e in cc)
      ∙ (value_without_other id_name version_name given
      (λ e. let bad : Less ≡ Equal = e in cc)
      ∙ (ap (value_at id_name) is
      ∙ (value_cut id_name (given_names fl) (put version_name (long (pos version)) doc)
      (id-given fl)
      ∙ value_put_other id_name version_name (long (pos version)) doc
      (λ e. let bad : Less ≡ Equal = e in cc)))))

  -- each field that is given has a given name and the document's value
  each-given : AllByRecursion
      (λ (f : Field). value_at f.0 (with_version version doc) ≡ Some f.1) given
  each-given =
      let names = given_names fl in
      let whole = with_version version doc in
      let named : AllByRecursion (λ (f : Field). is_named f.0 names ≡ true) given =
      subst (AllByRecursion (λ (f : Field). is_named f.0 names ≡ true)) (sym is)
      (each-passed (λ f. is_named f.0 names) whole) in
      each_two (λ (f : Field). is_named f.0 names ≡ true)
      (λ (f : Field). value_at f.0 given ≡ Some f.1)
      (λ f. value_at f.0 whole ≡ Some f.1)
      (λ f n e. sym (value_cut f.0 names whole n) ∙ (ap (value_at f.0) (sym is) ∙ e))
      given named (each-found given rises)

  -- each field of what is delivered is carried over
  others : AllByRecursion (IsCarried doc) sent
  unfolding with_version
  others =
      each-put (IsCarried doc) source_version_name (long (pos version))
      (put source_name (text src) (without version_name given))
      (λ e. let bad : true ≡ false = e in absurd (cc))
      (each-put (IsCarried doc) source_name (text src) (without version_name given)
      (λ e. let bad : true ≡ false = e in absurd (cc))
      (each-without (IsCarried doc) version_name given rises
      (each_weaker (λ (f : Field). value_at f.0 (with_version version doc) ≡ Some f.1)
      (λ f. bytes_cmp f.0 version_name ≢ Equal → IsCarried doc f)
      (λ f e apart origin. (
        ap (λ b. b || is_named f.0 origin_names) (differ f.0 version_name apart) ∙ origin,
        sym (value_put_other f.0 version_name (long (pos version)) doc
            (λ same. apart (ap (bytes_cmp f.0) (bytes_same version_name f.0 same) ∙ itself f.0)))
            ∙ e,
      )) given each-given)))

  -- it is of the document
  pub sent-from : IsFrom sent src version doc
  unfolding IsFrom id_of
  sent-from = record {
    same_id = ap text_of id-same;
    source = value_put_other source_name source_version_name (long (pos version))
        (put source_name (text src) (without version_name given))
        (λ e. let bad : Greater ≡ Equal = e in cc)
        ∙ value_put source_name (text src) (without version_name given);
    source_version = value_put source_version_name (long (pos version))
        (put source_name (text src) (without version_name given));
    others = others;
  }

  -- its fields can be kept where the document's can
  kept-fields : has_group doc ≡ false → AllByRecursion IsKept sent
  unfolding with_version
  kept-fields none =
      let names = given_names fl in
      let plain : AllByRecursion (λ (f : Field). is_group f.1 ≡ false) given =
      subst (AllByRecursion (λ (f : Field). is_group f.1 ≡ false)) (sym is)
      (each-filter (λ f. is_group f.1 ≡ false) (λ f. is_named f.0 names)
      (put version_name (long (pos version)) doc)
      (each_weaker (λ (f : Field). is_group f.1 ≡ false)
      (λ f. is_named f.0 names ≡ true → is_group f.1 ≡ false) (λ f e n. e)
      (put version_name (long (pos version)) doc)
      (each-put (λ f. is_group f.1 ≡ false) version_name (long (pos version)) doc refl
      (no-group doc none)))) in
      each-put IsKept source_version_name (long (pos version))
      (put source_name (text src) (without version_name given)) (refl, refl)
      (each-put IsKept source_name (text src) (without version_name given) (refl, refl)
      (each-without IsKept version_name given rises
      (each_weaker (λ (f : Field). is_group f.1 ≡ false)
      (λ f. bytes_cmp f.0 version_name ≢ Equal → IsKept f)
      (λ f e apart. (cmp-apart f.0 version_name apart, e)) given plain)))

  -- and so can it
  pub sent-storable : is_storable doc ≡ true → is_storable sent ≡ true
  sent-storable e =
      let w = whole-of doc e in
      kept-storable sent
      (ap (λ v. not (is_empty (text_of v))) id-same ∙ w.id) (kept-fields w.group)
