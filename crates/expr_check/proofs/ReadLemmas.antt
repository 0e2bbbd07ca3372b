-- The collections that are read, one input after another, each once, and those that are named.
use Rattle.std.proofs.Common.{◌≡◌, ℕ, ◌+◌, ◌<◌, List, [], ◌∷◌, ◌++◌, length, get_or, drop, filter}
use Rattle.std.proofs.Common.{Bool, true, false, not, ◌||◌, if◌then◌else◌, refl, fold, ap, sym, ◌∙◌}
use Rattle.std.proofs.Common.{append_assoc, Option, Some, None, ◌&&◌, arith}
use Rattle.std.specs.Prelude.{bytes_eq, is_none, is_some, option_map}
use Rattle.std.specs.List.{list_all}
use Rattle.std.proofs.lemmas.List.{append-nil, at_drop_more}
use Rattle.tuple_values.specs.Document.{ByteList, is_named}
use Rattle.sort_spec.specs.Texts.{once}
use Rattle.sort_spec.proofs.OnceLemmas.{once_push}
use Rattle.expr_types.specs.ExprTree.{ExprTree, inputs_of, inputs_in, operator_in}
use Rattle.expr_types.proofs.TreeLemmas.{node-parts}
use Rattle.tuple_values.specs.Collections.{is_known}
use Rattle.tuple_values.specs.declared.names.NameShards.{NameShards}
use Rattle.expr_check.specs.Faults.{first_unknown}
use Rattle.expr_check.specs.Reads.{with_name, are_known}
use Rattle.expr_check.specs.Rules.{read_by, named_by}
use Rattle.expr_check.specs.Walk.{searched_in, all_searched, collections_of, named_in, all_named}
use Rattle.expr_check.proofs.NeedLemmas.{same_bytes, itself_bytes}

-- all of three tests
and_assoc : (a b c : Bool) → ((a && b) && c) ≡ (a && (b && c))
and_assoc true b c = refl
and_assoc false b c = refl

-- one list after another
fold-append : {A B : Type 0} (f : A → B → A) (a : A) (xs ys : List B)
    → fold f a (xs ++ ys) ≡ fold f (fold f a xs) ys
fold-append f a [] ys = refl
fold-append f a (x ∷ xs) ys = fold-append f (f a x) xs ys

-- names that are added one by one count once
pub once-fold : (names more : List ByteList)
    → fold with_name (once names) more ≡ once (names ++ more)
once-fold names [] = ap once (sym (append-nil names))
once-fold names (name ∷ more) =
    ap (λ (l : List ByteList). fold with_name l more) (sym (once_push names name))
    ∙ once-fold (names ++ (name ∷ [])) more
    ∙ ap once (append_assoc names (name ∷ []) more)

-- one of two tests, where the second one stays
or_kept : (a b c : Bool) → (a || b) ≡ true → (b ≡ true → c ≡ true) → (a || c) ≡ true
or_kept true b c e h = refl
or_kept false b c e h = h e

-- a name is among others behind which one more stands
named-append : (name : ByteList) (names more : List ByteList) → is_named name names ≡ true
    → is_named name (names ++ more) ≡ true
named-append name [] more e = absurd (cc)
named-append name (first ∷ names) more e =
    or_kept (bytes_eq first name) (is_named name names) (is_named name (names ++ more)) e
    (named-append name names more)

-- a name stays among names with one more
named-with : (name word : ByteList) (names : List ByteList) → is_named name names ≡ true
    → is_named name (with_name names word) ≡ true
named-with name word names e = by (is_named word names) where
  by : (is : Bool) → is_named name (if is then names else names ++ (word ∷ [])) ≡ true
  by true = e
  by false = named-append name names (word ∷ []) e

-- one of two tests is the second one
or_second : (a b : Bool) → b ≡ true → (a || b) ≡ true
or_second true b e = refl
or_second false b e = e

-- a name that is added last is among the names
named-last : (name : ByteList) (names : List ByteList) → is_named name (names ++ (name ∷ [])) ≡ true
named-last name [] = ap (λ (is : Bool). is || false) (itself_bytes name)
named-last name (first ∷ names) =
    or_second (bytes_eq first name) (is_named name (names ++ (name ∷ []))) (named-last name names)

-- a name that is added is among the names
named-added : (name : ByteList) (names : List ByteList) → is_named name (with_name names name) ≡ true
named-added name names = by (is_named name names) refl where
  by : (is : Bool) → is_named name names ≡ is
      → is_named name (if is then names else names ++ (name ∷ [])) ≡ true
  by true e = e
  by false e = named-last name names

-- a name that is there is added to no effect
with-named : (name : ByteList) (names : List ByteList) → is_named name names ≡ true
    → with_name names name ≡ names
with-named name names e =
    ap (λ (is : Bool). if is then names else names ++ (name ∷ [])) e

-- so it may as well be left out
without_fold_by : (name word : ByteList) (names more : List ByteList) (is : Bool)
    → bytes_eq word name ≡ is → is_named name names ≡ true
    → ((others : List ByteList) → is_named name others ≡ true
    → fold with_name others (filter (λ other. not (bytes_eq other name)) more)
    ≡ fold with_name others more)
    → fold with_name names
    (if not is then word ∷ filter (λ other. not (bytes_eq other name)) more
    else filter (λ other. not (bytes_eq other name)) more)
    ≡ fold with_name (with_name names word) more
without_fold_by name word names more true is e h =
    h names e
    ∙ ap (λ (l : List ByteList). fold with_name l more)
    (sym (with-named word names
    (ap (λ (w : ByteList). is_named w names) (same_bytes word name is) ∙ e)))
without_fold_by name word names more false is e h =
    h (with_name names word) (named-with name word names e)

without_fold : (name : ByteList) (more names : List ByteList) → is_named name names ≡ true
    → fold with_name names (filter (λ other. not (bytes_eq other name)) more)
    ≡ fold with_name names more
without_fold name [] names e = refl
without_fold name (word ∷ more) names e =
    without_fold_by name word names more (bytes_eq word name) refl e (without_fold name more)

-- names are added one by one as well where each of them counts once
pub fold-once : (names more : List ByteList)
    → fold with_name names (once more) ≡ fold with_name names more
fold-once names [] = refl
fold-once names (name ∷ more) =
    without_fold name (once more) (with_name names name) (named-added name names)
    ∙ fold-once (with_name names name) more

-- names that count once do so already
pub once-once : (names : List ByteList) → once (once names) ≡ once names
once-once names =
    sym (once-fold [] (once names)) ∙ fold-once [] names ∙ once-fold [] names

-- names that count once are added to none as they are
pub fold-none : (names : List ByteList) → names ≡ once names → fold with_name [] names ≡ names
fold-none names is = once-fold [] names ∙ sym is

-- names that count once are added to none as they are
pub fold_to_none : (names more : List ByteList) → length names ≡ 0 → more ≡ once more
    → more ≡ fold with_name names more
fold_to_none [] more e is = sym (fold-none more is)
fold_to_none (name ∷ names) more e is = absurd (omega arith)

-- one more name that is there already
pub fold_known : (names yielded list : List ByteList) (name : ByteList)
    → list ≡ fold with_name names yielded → is_named name list ≡ true
    → list ≡ fold with_name names (yielded ++ (name ∷ []))
fold_known names yielded list name so_far named =
    sym (with-named name list named)
    ∙ ap (λ (l : List ByteList). with_name l name) so_far
    ∙ sym (fold-append with_name names yielded (name ∷ []))

-- and one that is not
pub fold_new : (names yielded list : List ByteList) (name : ByteList)
    → list ≡ fold with_name names yielded → is_named name list ≡ false
    → list ++ (name ∷ []) ≡ fold with_name names (yielded ++ (name ∷ []))
fold_new names yielded list name so_far named =
    sym (ap (λ (is : Bool). if is then list else list ++ (name ∷ [])) named)
    ∙ ap (λ (l : List ByteList). with_name l name) so_far
    ∙ sym (fold-append with_name names yielded (name ∷ []))

-- what adds names that count once needs
pub ruleset fold_steps = (fold_to_none, fold_known, fold_new)

-- the first of several names that isn't there, where the first one is there or not
unknown_by : (is_there : ByteList → Bool) (name : ByteList) (names : List ByteList) (is : Bool)
    → is_none (first_unknown is_there names) ≡ list_all is_there names
    → is_none (if is then first_unknown is_there names else Some name)
    ≡ (is && list_all is_there names)
unknown_by is_there name names true h = h
unknown_by is_there name names false h = refl

-- the first name that isn't there is none exactly where all are there
first_unknown-none : (is_there : ByteList → Bool) (names : List ByteList)
    → is_none (first_unknown is_there names) ≡ list_all is_there names
first_unknown-none is_there [] = refl
first_unknown-none is_there (name ∷ names) =
    unknown_by is_there name names (is_there name) (first_unknown-none is_there names)

-- a view of a value is there where the value is
option_map-none : {X Y : Type 0} (f : X → Y) (r : Option X)
    → is_none r ≡ is_none (option_map f r)
option_map-none f None = refl
option_map-none f (Some x) = refl

-- what isn't there, as it is told
told_none : {X : Type 0} (r : Option X) (told : Bool) → is_some r ≡ not told → told ≡ is_none r
told_none None true e = refl
told_none None false e = absurd (cc)
told_none (Some x) true e = absurd (cc)
told_none (Some x) false e = refl

-- so it is told whether all names are there
pub unknown_told : {X : Type 0} (f : X → ByteList) (r : Option X) (told : Bool)
    (is_there : ByteList → Bool) (names : List ByteList) → is_some r ≡ not told
    → option_map f r ≡ first_unknown is_there names → told ≡ list_all is_there names
unknown_told f r told is_there names is e =
    told_none r told is
    ∙ option_map-none f r ∙ ap is_none e ∙ first_unknown-none is_there names

-- a test of two lists is that of both
list_all-append : {X : Type 0} (p : X → Bool) (xs ys : List X)
    → list_all p (xs ++ ys) ≡ (list_all p xs && list_all p ys)
list_all-append p [] ys = refl
list_all-append p (x ∷ xs) ys =
    ap (λ (b : Bool). p x && b) (list_all-append p xs ys)
    ∙ sym (and_assoc (p x) (list_all p xs) (list_all p ys))

-- the collections that an expression names are there where those of its operator and of its inputs are
pub known-parts : (names : List NameShards) (t : ExprTree)
    → are_known (named_in t) names
    ≡ (are_known (named_by (operator_in t)) names
    && are_known (all_named (inputs_of (inputs_in t))) names)
known-parts names t =
    ap (λ w. are_known (named_in w) names) (sym (node-parts t))
    ∙ list_all-append (λ name. is_known name names) (named_by (operator_in t))
    (all_named (inputs_of (inputs_in t)))

-- so where those of the operator are there, those of its inputs decide
pub known_inputs : (names : List NameShards) (t : ExprTree) (known : Bool)
    → known ≡ are_known (named_by (operator_in t)) names → known ≡ true
    → are_known (named_in t) names ≡ are_known (all_named (inputs_of (inputs_in t))) names
known_inputs names t known is here =
    known-parts names t
    ∙ ap (λ (b : Bool). b && are_known (all_named (inputs_of (inputs_in t))) names)
    (sym is ∙ here)

-- and where they are not, none
pub known_not : (names : List NameShards) (t : ExprTree) (known : Bool)
    → known ≡ are_known (named_by (operator_in t)) names → known ≡ false
    → are_known (named_in t) names ≡ false
known_not names t known is away =
    known-parts names t
    ∙ ap (λ (b : Bool). b && are_known (all_named (inputs_of (inputs_in t))) names)
    (sym is ∙ away)

-- and those of the inputs from a place on where those of the one there and of the others are
pub known-more : (names : List NameShards) (exprs : List ExprTree) (k : ℕ) (e : ExprTree)
    → k < length exprs → e ≡ get_or exprs k e
    → are_known (all_named (inputs_of (drop k exprs))) names
    ≡ (are_known (named_in e) names
    && are_known (all_named (inputs_of (drop (k + 1) exprs))) names)
known-more names exprs k e lt is =
    let rest = all_named (inputs_of (drop (k + 1) exprs)) in
    at_drop_more (λ r. are_known (all_named (inputs_of r)) names) exprs k e lt
    ∙ list_all-append (λ name. is_known name names) (named_in (get_or exprs k e)) rest
    ∙ ap (λ x. are_known (named_in x) names && are_known rest names) (sym is)

-- the collections of an expression are those of its operator and then those of its inputs
pub collections_of-parts : (t : ExprTree)
    → collections_of t
    ≡ fold with_name (once (read_by (operator_in t))) (all_searched (inputs_of (inputs_in t)))
collections_of-parts t =
    ap (λ w. once (searched_in w)) (sym (node-parts t))
    ∙ sym (once-fold (read_by (operator_in t)) (all_searched (inputs_of (inputs_in t))))

-- with the collections of an input added, those of the inputs behind it are still to be added
pub reads_more : (names all found list : List ByteList) (exprs : List ExprTree) (k : ℕ)
    (e : ExprTree) → k < length exprs → e ≡ get_or exprs k e
    → list ≡ fold with_name names found → found ≡ collections_of e
    → fold with_name names (all_searched (inputs_of (drop k exprs))) ≡ all
    → fold with_name list (all_searched (inputs_of (drop (k + 1) exprs))) ≡ all
reads_more names all found list exprs k e lt is added reads before =
    let rest = all_searched (inputs_of (drop (k + 1) exprs)) in
    ap (λ (l : List ByteList). fold with_name l rest)
    (added ∙ ap (fold with_name names) reads ∙ fold-once names (searched_in e))
    ∙ sym (fold-append with_name names (searched_in e) rest)
    ∙ ap (fold with_name names)
    (ap (λ x. searched_in x ++ rest) is
    ∙ sym (at_drop_more (λ r. all_searched (inputs_of r)) exprs k e lt))
    ∙ before

-- one more input of which they are there
pub known_next : (names : List NameShards) (exprs : List ExprTree) (k : ℕ) (e : ExprTree)
    (known whole : Bool) → k < length exprs → e ≡ get_or exprs k e
    → known ≡ are_known (named_in e) names → known ≡ true
    → whole ≡ are_known (all_named (inputs_of (drop k exprs))) names
    → whole ≡ are_known (all_named (inputs_of (drop (k + 1) exprs))) names
known_next names exprs k e known whole lt at is here so_far =
    so_far
    ∙ known-more names exprs k e lt at
    ∙ ap (λ (b : Bool). b && are_known (all_named (inputs_of (drop (k + 1) exprs))) names)
    (sym is ∙ here)

-- and one of which they are not
pub known_stops : (names : List NameShards) (exprs : List ExprTree) (k : ℕ) (e : ExprTree)
    (known whole : Bool) → k < length exprs → e ≡ get_or exprs k e
    → known ≡ are_known (named_in e) names → known ≡ false
    → whole ≡ are_known (all_named (inputs_of (drop k exprs))) names → whole ≡ false
known_stops names exprs k e known whole lt at is away so_far =
    so_far
    ∙ known-more names exprs k e lt at
    ∙ ap (λ (b : Bool). b && are_known (all_named (inputs_of (drop (k + 1) exprs))) names)
    (sym is ∙ away)
