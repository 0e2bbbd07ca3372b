-- The words among arguments, one argument at a time.
use Rattle.std.proofs.Common.{◌≡◌, ℕ, zero, suc, ◌+◌, ◌-◌, ◌<◌, List, [], ◌∷◌, length, get_or, drop}
use Rattle.std.proofs.Common.{Option, Some, None, slice_get, nat_eq, nat_lt, Bool, true, false, ◌&&◌, cond, refl, ap, sym, ◌∙◌, ◌++◌, option_map, append_assoc, arith}
use Rattle.std.specs.List.{filter_map, cons_option, list_all, prefix_len}
use Rattle.std.specs.Option.{option_or}
use Rattle.std.proofs.lemmas.List.{at_drop_more}
use Rattle.tuple_values.specs.Document.{ByteList}
use Rattle.expr_reader.specs.Tree.{ArgTree, trees_of}
use Rattle.sort_spec.specs.Grammar.{is_field_byte}
use Rattle.expr_plan.specs.Words.{is_field, arg_list, plain_of, plain_at, value_of, word_under}
use Rattle.expr_types.specs.Groups.{metric_name}
use Rattle.expr_plan.specs.Items.{metric_of_arg, metric_names}
use Rattle.expr_reader.specs.declared.call.Word.{Word}

-- the arguments of a list of arguments are that list
pub arg_list-trees_of : (args : List ArgTree) → arg_list (trees_of args) ≡ args
arg_list-trees_of [] = refl
arg_list-trees_of (a ∷ args) = ap (λ rest. a ∷ rest) (arg_list-trees_of args)

-- what a function of a call's arguments needs
pub ruleset list_steps = (arg_list-trees_of)

-- numbers that are one more are equal where the numbers are
one_more : (a b : ℕ) → nat_eq (1 + a) (suc b) ≡ nat_eq a b
one_more a b = grind arith

-- what is more than 0 is so by the test
is_more : (n : ℕ) → 0 < n → nat_lt 0 n ≡ true
is_more n some = grind arith

-- a text is a field where as many bytes as it has are those of one
pub is_field-by_length : (text : ByteList) → 0 < length text
    → nat_eq (prefix_len is_field_byte text) (length text) ≡ is_field text
is_field-by_length [] some = absurd (omega arith)
is_field-by_length (b ∷ text) some =
    all_by_length (b ∷ text)
    ∙ ap (λ w. w && list_all is_field_byte (b ∷ text)) (sym (is_more (suc (length text)) some))
  where
    all_by_length : (bytes : ByteList)
        → nat_eq (prefix_len is_field_byte bytes) (length bytes) ≡ list_all is_field_byte bytes
    all_by_length [] = refl
    all_by_length (x ∷ xs) = go (is_field_byte x) (all_by_length xs)
      where
        go : (b : Bool)
            → nat_eq (prefix_len is_field_byte xs) (length xs) ≡ list_all is_field_byte xs
            → nat_eq (cond b (1 + prefix_len is_field_byte xs) 0) (suc (length xs))
            ≡ (b && list_all is_field_byte xs)
        go true e = one_more (prefix_len is_field_byte xs) (length xs) ∙ e
        go false e = grind arith

-- the argument at a place is there
pub slice_get-at : (args : List ArgTree) (k : ℕ) (a : ArgTree) → k < length args
    → a ≡ get_or args k a → slice_get args k ≡ Some a
slice_get-at [] k a lt is = absurd (omega arith)
slice_get-at (b ∷ args) zero a lt is = ap Some (sym is)
slice_get-at (b ∷ args) (suc k) a lt is = slice_get-at args k a (omega arith) is

-- the plain words from a place on are that of the argument there and those of the rest
pub plain_at-drop : (args : List ArgTree) (k left : ℕ) (a : ArgTree) → k < length args
    → a ≡ get_or args k a
    → slice_get (filter_map plain_of (drop k args)) left
    ≡ slice_get (cons_option (plain_of a) (filter_map plain_of (drop (k + 1) args))) left
plain_at-drop args k left a lt is =
    at_drop_more (λ rest. slice_get (filter_map plain_of rest) left) args k a lt
    ∙ ap (λ x. slice_get (cons_option (plain_of x) (filter_map plain_of (drop (k + 1) args))) left)
    (sym is)

-- behind a first word the places are one less
pub slice_get-behind : (w : Word) (words : List Word) (left : ℕ) → 0 < left
    → slice_get (w ∷ words) left ≡ slice_get words (left - 1)
slice_get-behind w words zero lt = absurd (omega arith)
slice_get-behind w words (suc left) lt =
    let e : suc left - 1 ≡ left = omega arith in rw e refl

-- the first plain word from a place on is the one that is looked for where none is to be passed by
pub plain_found : (args : List ArgTree) (place k left : ℕ) (a : ArgTree) (w : Word)
    → k < length args → a ≡ get_or args k a → Some w ≡ plain_of a → left ≡ 0
    → plain_at place args ≡ slice_get (filter_map plain_of (drop k args)) left
    → Some w ≡ plain_at place args
plain_found args place k left a w lt is plain none at =
    sym (at ∙ plain_at-drop args k left a lt is ∙ rw (sym plain, none) refl)

-- else one less is to be passed by
pub plain_passed : (args : List ArgTree) (place k left : ℕ) (a : ArgTree) (w : Word)
    → k < length args → a ≡ get_or args k a → Some w ≡ plain_of a → 0 < left
    → plain_at place args ≡ slice_get (filter_map plain_of (drop k args)) left
    → plain_at place args ≡ slice_get (filter_map plain_of (drop (k + 1) args)) (left - 1)
plain_passed args place k left a w lt is plain some at =
    at ∙ plain_at-drop args k left a lt is ∙ rw (sym plain)
    (slice_get-behind w (filter_map plain_of (drop (k + 1) args)) left some)

-- and an argument that is no plain word is no matter
pub plain_skipped : (args : List ArgTree) (place k left : ℕ) (a : ArgTree)
    → k < length args → a ≡ get_or args k a → None ≡ plain_of a
    → plain_at place args ≡ slice_get (filter_map plain_of (drop k args)) left
    → plain_at place args ≡ slice_get (filter_map plain_of (drop (k + 1) args)) left
plain_skipped args place k left a lt is plain at =
    at ∙ plain_at-drop args k left a lt is ∙ rw (sym plain) refl

-- the word under a key from a place on is that of the argument there, or else that of the rest
pub word_under-drop : (key : ByteList) (args : List ArgTree) (k : ℕ) (a : ArgTree)
    → k < length args → a ≡ get_or args k a
    → word_under key (drop k args)
    ≡ option_or (value_of key a) (word_under key (drop (k + 1) args))
word_under-drop key args k a lt is =
    at_drop_more (word_under key) args k a lt
    ∙ ap (λ x. option_or (value_of key x) (word_under key (drop (k + 1) args))) (sym is)

-- the names of metrics from a place on are that of the argument there and those of the rest
metric_names-drop : (args : List ArgTree) (k : ℕ) (a : ArgTree) → k < length args
    → a ≡ get_or args k a
    → metric_names (drop k args)
    ≡ cons_option (option_map metric_name (metric_of_arg a)) (metric_names (drop (k + 1) args))
metric_names-drop args k a lt is =
    at_drop_more metric_names args k a lt
    ∙ ap
    (λ x.
    cons_option (option_map metric_name (metric_of_arg x)) (metric_names (drop (k + 1) args)))
    (sym is)

-- what there may be in front of a list, as a list in front of it
cons_option-append : (name : Option ByteList) (names : List ByteList)
    → cons_option name [] ++ names ≡ cons_option name names
cons_option-append None names = refl
cons_option-append (Some name) names = refl

-- the names so far with one more, and those to come, are all
pub metric_named : (args : List ArgTree) (k : ℕ) (a : ArgTree) (names : List ByteList)
    (name : Option ByteList) → k < length args → a ≡ get_or args k a
    → name ≡ option_map metric_name (metric_of_arg a)
    → names ++ metric_names (drop k args) ≡ metric_names args
    → (names ++ cons_option name []) ++ metric_names (drop (k + 1) args) ≡ metric_names args
metric_named args k a names name lt is named all =
    append_assoc names (cons_option name []) (metric_names (drop (k + 1) args))
    ∙ ap (λ w. names ++ w)
    (cons_option-append name (metric_names (drop (k + 1) args))
    ∙ ap (λ n. cons_option n (metric_names (drop (k + 1) args))) named
    ∙ sym (metric_names-drop args k a lt is))
    ∙ all
