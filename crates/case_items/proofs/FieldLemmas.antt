-- The fields of a document as it is delivered.
use Rattle.std.proofs.Common.{◌≡◌, ◌≢◌, ℕ, pos, true, false, ◌||◌, [], ◌∷◌, Some, refl, sym, ap, subst, ◌∙◌, bytes_eq}
use Rattle.std.specs.List.{AllByRecursion}
use Rattle.std.specs.declared.cmp.Ordering.{Ordering}
use Rattle.std.specs.declared.cmp.Ordering.TheVariants.{Less, Equal, Greater}
use Rattle.tuple_values.specs.Document.{ByteList, bytes_cmp, Datum, long, text, Doc, IsBelow, Rises, value_at, put, put_by, without, is_named}
use Rattle.tuple_values.proofs.BytesLemmas.{bytes_by, itself, equal_back}
use Rattle.tuple_values.proofs.MapLemmas.{bytes_same, value_put, value_put_other, value_without_other}
use Rattle.shard_versions.specs.Documents.{id_of, text_of, id_name, version_name, source_name, source_version_name, origin_names, with_version, IsCarried, IsFrom}
use Rattle.shard_versions.proofs.ListLemmas.{each_weaker}

-- what holds of the field that is put, and of each other one, holds of each afterwards
each_put : (P : ByteList × Datum → Type 0) (n : ByteList) (v : Datum) (d : Doc) → P (n, v)
    → AllByRecursion P d → AllByRecursion P (put n v d)
each_put P n v [] p a = (p, tt)
each_put P n v (f ∷ d) p a = go (each_put P n v d p a.1) (bytes_cmp f.0 n)
  where
    go : AllByRecursion P (put n v d) → (o : Ordering)
        → AllByRecursion P (put_by o (f ∷ put n v d) ((n, v) ∷ d) ((n, v) ∷ f ∷ d))
    go later Less = (a.0, later)
    go later Equal = (p, a.1)
    go later Greater = (p, a)

-- each field of a document in order is found by its name
each_found : (d : Doc) → Rises d → AllByRecursion (λ f. value_at f.0 d ≡ Some f.1) d
each_found [] r = tt
each_found (f ∷ d) r =
    (rw (bytes_by f.0 f.0 Equal (itself f.0)) refl, later d r.0 (each_found d r.1))
  where
    later : (e : Doc) → IsBelow f.0 e → AllByRecursion (λ g. value_at g.0 d ≡ Some g.1) e
        → AllByRecursion (λ g. value_at g.0 (f ∷ d) ≡ Some g.1) e
    later [] b a = tt
    later (g ∷ e) b a = (rw (bytes_by f.0 g.0 Less b.0) a.0, later e b.1 a.1)

-- the field has another name than this one, and the fact holds of it
abbrev IsOther : (ByteList × Datum → Type 0) → ByteList → ByteList × Datum → Type 0
IsOther P n f = (bytes_cmp n f.0 ≢ Equal) × P f

-- what holds of each field holds of each that stays when a name is taken out, which has another
each_without : (P : ByteList × Datum → Type 0) (n : ByteList) (d : Doc) → Rises d
    → AllByRecursion P d → AllByRecursion (IsOther P n) (without n d)
each_without P n [] r a = tt
each_without P n (f ∷ d) r a = go (each_without P n d r.1 a.1) (bytes_cmp f.0 n) refl
  where
    behind : f.0 ≡ n → (e : Doc) → IsBelow f.0 e → AllByRecursion P e
        → AllByRecursion (IsOther P n) e
    behind same [] b a = tt
    behind same (g ∷ e) b a =
        let less : bytes_cmp n g.0 ≡ Less = subst (λ m. bytes_cmp m g.0 ≡ Less) same b.0 in
        ((λ i. let p : Less ≡ Equal = sym less ∙ i in cc, a.0), behind same e b.1 a.1)

    go : AllByRecursion (IsOther P n) (without n d) → (o : Ordering) → bytes_cmp f.0 n ≡ o
        → AllByRecursion (IsOther P n) (put_by o (f ∷ without n d) d (f ∷ without n d))
    go later Less e =
        ((λ i. let p : Less ≡ Equal = sym e ∙ equal_back n f.0 i in cc, a.0), later)
    go later Equal e = behind (bytes_same f.0 n e) d r.0 a.1
    go later Greater e =
        ((λ i. let p : Greater ≡ Equal = sym e ∙ equal_back n f.0 i in cc, a.0), later)

-- names that don't compare equal are different bytes
differ : (a b : ByteList) → bytes_cmp a b ≢ Equal → bytes_eq a b ≡ false
differ a b other = go (bytes_cmp a b) refl
  where
    go : (o : Ordering) → bytes_cmp a b ≡ o → bytes_eq a b ≡ false
    go Less e = bytes_by a b Less e
    go Equal e = absurd (other e)
    go Greater e = bytes_by a b Greater e

-- a field of the document as it is read, but for its version, is one of the document
carried : (version : ℕ) (doc : Doc) (f : ByteList × Datum)
    → IsOther (λ f. value_at f.0 (with_version version doc) ≡ Some f.1) version_name f
    → IsCarried doc f
unfolding with_version
carried version doc f o e = (
  ap (λ b. b || is_named f.0 origin_names) (differ version_name f.0 o.0) ∙ e,
  sym (value_put_other f.0 version_name (long (pos version)) doc o.0) ∙ o.1,
)

-- a document that is read in its version, without that and with its origin, is one of the source's
delivered-from : (src : ByteList) (version : ℕ) (doc : Doc) → Rises (with_version version doc)
    → IsFrom (put source_version_name (long (pos version))
    (put source_name (text src) (without version_name (with_version version doc)))) src version doc
unfolding IsFrom id_of with_version
delivered-from src version doc rises = record {
  same_id = same;
  source =
      value_put_other source_name source_version_name (long (pos version)) origin
      (λ i. let p : Greater ≡ Equal = i in cc)
      ∙ value_put source_name (text src) rest;
  source_version = value_put source_version_name (long (pos version)) origin;
  others =
      each_put (IsCarried doc) source_version_name (long (pos version)) origin
      (λ e. let p : true ≡ false = e in absurd (cc))
      (each_put (IsCarried doc) source_name (text src) rest
      (λ e. let p : true ≡ false = e in absurd (cc))
      (each_weaker (IsOther (λ f. value_at f.0 shown ≡ Some f.1) version_name) (IsCarried doc)
      (carried version doc) rest
      (each_without (λ f. value_at f.0 shown ≡ Some f.1) version_name shown rises
      (each_found shown rises))));
}
  where
    shown : Doc
    shown = with_version version doc

    rest : Doc
    rest = without version_name shown

    origin : Doc
    origin = put source_name (text src) rest

    same : id_of (put source_version_name (long (pos version)) origin) ≡ id_of doc
    same =
        ap text_of (value_put_other id_name source_version_name (long (pos version)) origin
        (λ i. let p : Less ≡ Equal = i in cc)
        ∙ (value_put_other id_name source_name (text src) rest
        (λ i. let p : Less ≡ Equal = i in cc)
        ∙ (value_without_other id_name version_name shown
        (λ i. let p : Less ≡ Equal = i in cc)
        ∙ value_put_other id_name version_name (long (pos version)) doc
        (λ i. let p : Less ≡ Equal = i in cc))))

-- a value under a name, by what these are
pub put-is : (before after : Doc) (name other : ByteList) (value put_there : Datum)
    → after ≡ put other put_there before → other ≡ name → put_there ≡ value
    → after ≡ put name value before
put-is before after name other value put_there a b c =
    a ∙ (ap (λ n. put n put_there before) b ∙ ap (λ v. put name v before) c)

-- the same, by what was taken out and put
pub delivered-is : (src : ByteList) (version : ℕ) (shown first rest origin whole doc : Doc)
    → Rises shown → shown ≡ with_version version doc → first ≡ shown
    → rest ≡ without version_name first → origin ≡ put source_name (text src) rest
    → whole ≡ put source_version_name (long (pos version)) origin → IsFrom whole src version doc
delivered-is src version shown first rest origin whole doc rises is a b c d =
    let same : rest ≡ without version_name (with_version version doc) =
    b ∙ ap (without version_name) (a ∙ is) in
    let all : whole ≡ put source_version_name (long (pos version))
    (put source_name (text src) (without version_name (with_version version doc))) =
    d ∙ ap (put source_version_name (long (pos version)))
    (c ∙ ap (put source_name (text src)) same) in
    subst (λ x. IsFrom x src version doc) (sym all)
    (delivered-from src version doc (subst Rises is rises))
