-- Values are in a total order, and two that compare equal are the same.
use Rattle.std.proofs.Common.{◌≡◌, ℕ, ℤ, pos, List, [], ◌∷◌, refl, ap, sym, ◌∙◌, Bool, true, IsTrue, ◌↔◌}
use Rattle.std.specs.Cmp.{IsTotalOrder}
use Rattle.std.specs.Cmp.Lexicographic.{slice_cmp}
use Rattle.std.specs.Ordering.{nat_cmp, int_cmp, ordering_then, ordering_reverse, on, then_cmp, is_eq}
use Rattle.std.specs.declared.cmp.Ordering.{Ordering}
use Rattle.std.specs.declared.cmp.Ordering.TheVariants.{Less, Equal, Greater}
use Rattle.std.proofs.lemmas.Cmp.{nat_cmp_total, int_cmp_total, nat_list_cmp_total, lists_total, on_total, then_total, tied_itself}
use Rattle.tuple_values.specs.Document.{ByteList, bytes_cmp, Datum, long, text, group, Rows, no_rows, row, Fields, no_fields, field, Doc, fields_of}
use Rattle.tuple_values.specs.Codes.{Token, a_long, a_text, a_group, a_blank, a_field, a_none, a_more, datum_tokens, rows_tokens, fields_tokens, first_of_list, stacked, Stacks, datum_read, fields_read}
use Rattle.tuple_values.specs.Order.{datum_cmp, rows_cmp, fields_cmp}
use Rattle.std.specs.FinMap.{slice_cmp-IsAntisymmetric}
use Rattle.std.proofs.lemmas.Cmp.{int_ranked}
use Rattle.tuple_values.proofs.MapLemmas.{bytes_same}

int_same : (a b : ℤ) → int_cmp a b ≡ Equal → a ≡ b
int_same a b e = int_ranked a b Equal (sym e)

-- the tokens' order
abbrev token_kind : Token → ℕ
token_kind (a_long n) = 0
token_kind (a_text t) = 1
token_kind a_group = 2
token_kind a_none = 3
token_kind a_more = 4
token_kind a_blank = 5
token_kind (a_field n) = 6

abbrev token_number : Token → ℤ
token_number (a_long n) = n
token_number (a_text t) = pos 0
token_number a_group = pos 0
token_number a_none = pos 0
token_number a_more = pos 0
token_number a_blank = pos 0
token_number (a_field n) = pos 0

abbrev token_text : Token → ByteList
token_text (a_long n) = []
token_text (a_text t) = t
token_text a_group = []
token_text a_none = []
token_text a_more = []
token_text a_blank = []
token_text (a_field n) = n

abbrev token_cmp : Token → Token → Ordering
token_cmp = then_cmp (on token_kind nat_cmp) (then_cmp (on token_number int_cmp) (on token_text bytes_cmp))

token_total : IsTotalOrder token_cmp
token_total = then_total (on_total token_kind nat_cmp_total) (then_total (on_total token_number int_cmp_total) (on_total token_text nat_list_cmp_total))

-- comparisons one after another
then_assoc : (a b c : Ordering) → ordering_then (ordering_then a b) c ≡ ordering_then a (ordering_then b c)
then_assoc Less b c = refl
then_assoc Equal b c = refl
then_assoc Greater b c = refl

then_equal : (a : Ordering) → ordering_then a Equal ≡ a
then_equal Less = refl
then_equal Equal = refl
then_equal Greater = refl

bytes_self : (t : ByteList) → bytes_cmp t t ≡ Equal
bytes_self t = tied_itself nat_list_cmp_total t

mutual
  datum_by_tokens : (v w : Datum) (r s : List Token) → slice_cmp token_cmp (datum_tokens v r) (datum_tokens w s) ≡ ordering_then (datum_cmp v w) (slice_cmp token_cmp r s)
  datum_by_tokens (long a) (long b) r s = ap (λ o. ordering_then o (slice_cmp token_cmp r s)) (then_equal (int_cmp a b))
  datum_by_tokens (long a) (text b) r s = refl
  datum_by_tokens (long a) (group b) r s = refl
  datum_by_tokens (text a) (long b) r s = refl
  datum_by_tokens (text a) (text b) r s = refl
  datum_by_tokens (text a) (group b) r s = refl
  datum_by_tokens (group a) (long b) r s = refl
  datum_by_tokens (group a) (text b) r s = refl
  datum_by_tokens (group a) (group b) r s = rows_by_tokens a b r s

  rows_by_tokens : (v w : Rows) (r s : List Token) → slice_cmp token_cmp (rows_tokens v r) (rows_tokens w s) ≡ ordering_then (rows_cmp v w) (slice_cmp token_cmp r s)
  rows_by_tokens no_rows no_rows r s = refl
  rows_by_tokens no_rows (row g bs) r s = refl
  rows_by_tokens (row f as_) no_rows r s = refl
  rows_by_tokens (row f as_) (row g bs) r s =
      fields_by_tokens f g (rows_tokens as_ r) (rows_tokens bs s)
      ∙ ap (ordering_then (fields_cmp f g)) (rows_by_tokens as_ bs r s)
      ∙ sym (then_assoc (fields_cmp f g) (rows_cmp as_ bs) (slice_cmp token_cmp r s))

  fields_by_tokens : (v w : Fields) (r s : List Token) → slice_cmp token_cmp (fields_tokens v r) (fields_tokens w s) ≡ ordering_then (fields_cmp v w) (slice_cmp token_cmp r s)
  fields_by_tokens no_fields no_fields r s = refl
  fields_by_tokens no_fields (field m w gs) r s = refl
  fields_by_tokens (field n v fs) no_fields r s = refl
  fields_by_tokens (field n v fs) (field m w gs) r s =
      ap (ordering_then (bytes_cmp n m)) (datum_by_tokens v w (fields_tokens fs r) (fields_tokens gs s) ∙ ap (ordering_then (datum_cmp v w)) (fields_by_tokens fs gs r s) ∙ sym (then_assoc (datum_cmp v w) (fields_cmp fs gs) (slice_cmp token_cmp r s)))
      ∙ sym (then_assoc (bytes_cmp n m) (ordering_then (datum_cmp v w) (fields_cmp fs gs)) (slice_cmp token_cmp r s))

datum_as_tokens : (v w : Datum) → on (λ v. datum_tokens v []) (slice_cmp token_cmp) v w ≡ datum_cmp v w
datum_as_tokens v w = datum_by_tokens v w [] [] ∙ then_equal (datum_cmp v w)

-- an order that answers as another
total_as : {K : Type 0} (R S : K → K → Ordering) → ((x y : K) → R x y ≡ S x y) → IsTotalOrder R → IsTotalOrder S
total_as R S same o = record {
  antisymm = λ x y. sym (same x y) ∙ o.antisymm x y ∙ ap ordering_reverse (same y x);
  trans = λ x y z p q. sym (same x z) ∙ o.trans x y z (same x y ∙ p) (same y z ∙ q);
  congr = λ x y z p. sym (same x z) ∙ o.congr x y z (same x y ∙ p) ∙ same y z;
}

pub datum_cmp_total : IsTotalOrder datum_cmp
datum_cmp_total = total_as _ datum_cmp datum_as_tokens (on_total (λ v. datum_tokens v []) (lists_total token_total))

-- tokens that compare equal are the same
token_same : (s t : Token) → token_cmp s t ≡ Equal → s ≡ t
token_same (a_long a) (a_long b) e = ap a_long (int_same a b (sym (then_equal (int_cmp a b)) ∙ e))
token_same (a_text a) (a_text b) e = ap a_text (bytes_same a b e)
token_same a_group a_group e = refl
token_same a_blank a_blank e = refl
token_same (a_field a) (a_field b) e = ap a_field (bytes_same a b e)
token_same a_none a_none e = refl
token_same a_more a_more e = refl
token_same (a_long a) (a_text b) e = cc
token_same (a_long a) a_group e = cc
token_same (a_long a) a_blank e = cc
token_same (a_long a) (a_field b) e = cc
token_same (a_long a) a_none e = cc
token_same (a_long a) a_more e = cc
token_same (a_text a) (a_long b) e = cc
token_same (a_text a) a_group e = cc
token_same (a_text a) a_blank e = cc
token_same (a_text a) (a_field b) e = cc
token_same (a_text a) a_none e = cc
token_same (a_text a) a_more e = cc
token_same a_group (a_long b) e = cc
token_same a_group (a_text b) e = cc
token_same a_group a_blank e = cc
token_same a_group (a_field b) e = cc
token_same a_group a_none e = cc
token_same a_group a_more e = cc
token_same a_blank (a_long b) e = cc
token_same a_blank (a_text b) e = cc
token_same a_blank a_group e = cc
token_same a_blank (a_field b) e = cc
token_same a_blank a_none e = cc
token_same a_blank a_more e = cc
token_same (a_field a) (a_long b) e = cc
token_same (a_field a) (a_text b) e = cc
token_same (a_field a) a_group e = cc
token_same (a_field a) a_blank e = cc
token_same (a_field a) a_none e = cc
token_same (a_field a) a_more e = cc
token_same a_none (a_long b) e = cc
token_same a_none (a_text b) e = cc
token_same a_none a_group e = cc
token_same a_none a_blank e = cc
token_same a_none (a_field b) e = cc
token_same a_none a_more e = cc
token_same a_more (a_long b) e = cc
token_same a_more (a_text b) e = cc
token_same a_more a_group e = cc
token_same a_more a_blank e = cc
token_same a_more (a_field b) e = cc
token_same a_more a_none e = cc

-- values that compare equal are the same
pub datum_cmp_same : (v w : Datum) → datum_cmp v w ≡ Equal → v ≡ w
datum_cmp_same v w e =
    let tokens : datum_tokens v [] ≡ datum_tokens w [] = slice_cmp-IsAntisymmetric token_same _ _ (datum_as_tokens v w ∙ e) in
    let read = λ (ts : List Token). first_of_list (text []) (stacked ts).vals in
    sym (ap (λ (s : Stacks). first_of_list (text []) s.vals) (datum_read v [])) ∙ ap read tokens ∙ ap (λ (s : Stacks). first_of_list (text []) s.vals) (datum_read w [])

fields_as_tokens : (v w : Fields) → on (λ v. fields_tokens v []) (slice_cmp token_cmp) v w ≡ fields_cmp v w
fields_as_tokens v w = fields_by_tokens v w [] [] ∙ then_equal (fields_cmp v w)

fields_cmp_total : IsTotalOrder fields_cmp
fields_cmp_total = total_as _ fields_cmp fields_as_tokens (on_total (λ v. fields_tokens v []) (lists_total token_total))

fields_cmp_same : (v w : Fields) → fields_cmp v w ≡ Equal → v ≡ w
fields_cmp_same v w e =
    let tokens : fields_tokens v [] ≡ fields_tokens w [] = slice_cmp-IsAntisymmetric token_same _ _ (fields_as_tokens v w ∙ e) in
    let read = λ (ts : List Token). first_of_list no_fields (stacked ts).fields in
    sym (ap (λ (s : Stacks). first_of_list no_fields s.fields) (fields_read v [])) ∙ ap read tokens ∙ ap (λ (s : Stacks). first_of_list no_fields s.fields) (fields_read w [])

abbrev doc_back : Fields → Doc
doc_back no_fields = []
doc_back (field n v fs) = (n, v) ∷ doc_back fs

doc_back_is : (d : Doc) → doc_back (fields_of d) ≡ d
doc_back_is [] = refl
doc_back_is (f ∷ d) = ap (λ (r : Doc). f ∷ r) (doc_back_is d)

equal_of : (o : Ordering) → is_eq o ≡ true → o ≡ Equal
equal_of Less e = cc
equal_of Equal e = refl
equal_of Greater e = cc

-- documents compare equal exactly where they are the same
pub docs_compared : (d e : Doc) (b : Bool) → b ≡ is_eq (fields_cmp (fields_of d) (fields_of e)) → IsTrue b ↔ (d ≡ e)
docs_compared d e b is = (
  λ t. sym (doc_back_is d) ∙ ap doc_back (fields_cmp_same (fields_of d) (fields_of e) (equal_of (fields_cmp (fields_of d) (fields_of e)) (sym is ∙ t))) ∙ doc_back_is e,
  λ p. is ∙ ap is_eq (ap (λ (x : Doc). fields_cmp (fields_of d) (fields_of x)) (sym p) ∙ tied_itself fields_cmp_total (fields_of d)),
)
