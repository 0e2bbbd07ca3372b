-- How texts compare by bytes.
use Rattle.std.proofs.Common.{◌≡◌, ◌≤◌, refl, ap, sym, ◌∙◌, arith}
use Rattle.std.specs.Ordering.{ordering_index, ordering_reverse}
use Rattle.std.specs.declared.cmp.Ordering.{Ordering}
use Rattle.std.specs.declared.cmp.Ordering.TheVariants.{Less, Equal, Greater}
use Rattle.std.proofs.lemmas.Cmp.{nat_list_cmp_total, alike_right, tied_itself, tied_back}
use Rattle.std.specs.Ordering.{is_eq}
use Rattle.std.specs.Str.{bytes_eq}
use Rattle.std.proofs.lemmas.Map.Text.{is_eq-slice_cmp}
use Rattle.tuple_values.specs.Document.{ByteList, bytes_cmp}

pub less_trans : (a b c : ByteList) → bytes_cmp a b ≡ Less → bytes_cmp b c ≡ Less → bytes_cmp a c ≡ Less
less_trans a b c p q = nat_list_cmp_total.trans a b c p q

pub less_back : (a b : ByteList) → bytes_cmp a b ≡ Less → bytes_cmp b a ≡ Greater
less_back a b p = nat_list_cmp_total.antisymm b a ∙ ap ordering_reverse p

pub greater_back : (a b : ByteList) → bytes_cmp a b ≡ Greater → bytes_cmp b a ≡ Less
greater_back a b p = nat_list_cmp_total.antisymm b a ∙ ap ordering_reverse p

pub equal_back : (a b : ByteList) → bytes_cmp a b ≡ Equal → bytes_cmp b a ≡ Equal
equal_back a b p = tied_back nat_list_cmp_total a b p

pub itself : (a : ByteList) → bytes_cmp a a ≡ Equal
itself a = tied_itself nat_list_cmp_total a

pub same_right : (a b c : ByteList) → bytes_cmp b c ≡ Equal → bytes_cmp a b ≡ bytes_cmp a c
same_right a b c p = alike_right nat_list_cmp_total b c a p

pub same_left : (a b c : ByteList) → bytes_cmp a b ≡ Equal → bytes_cmp a c ≡ bytes_cmp b c
same_left a b c p = nat_list_cmp_total.congr a b c p

-- a name below another compares no higher
pub rises_by : (a b n : ByteList) → bytes_cmp a b ≡ Less → ordering_index (bytes_cmp a n) ≤ ordering_index (bytes_cmp b n)
rises_by a b n less = go (bytes_cmp b n) refl
  where
    any : (o : Ordering) → ordering_index o ≤ 2
    any Less = omega arith
    any Equal = omega arith
    any Greater = omega arith

    go : (o : Ordering) → bytes_cmp b n ≡ o → ordering_index (bytes_cmp a n) ≤ ordering_index o
    go Less e = rw (less_trans a b n less e) (omega arith)
    go Equal e = rw (sym (same_right a b n e) ∙ less) (omega arith)
    go Greater e = any (bytes_cmp a n)

-- equal bytes are those that compare equal
pub bytes_by : (a b : ByteList) (o : Ordering) → bytes_cmp a b ≡ o → bytes_eq a b ≡ is_eq o
bytes_by a b o e = sym (is_eq-slice_cmp a b) ∙ ap is_eq e
