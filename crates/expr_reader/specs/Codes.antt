-- Trees of calls as lists of tokens, by which a proof tells them apart (own).
use Rattle.std.specs.Prelude.{ℕ, zero, suc, ◌≡◌, List, [], ◌∷◌, Bool, false, refl}
use Rattle.std.proofs.Common.{ap, ◌∙◌}
use Rattle.std.specs.Coded.{Coded, code_by, coded×, coded_ℕ, coded_bool, coded_list}
use Rattle.expr_reader.specs.Tree.{ByteList, CallTree, call, ArgTree, plain, named, named_call, sub}
use Rattle.expr_reader.specs.Tree.{renamed, ArgTrees, no_args, an_arg}

-- the parts of a tree
pub data Token : Type 0 where
  a_plain : ByteList → Bool → Token
  a_named : ByteList → ByteList → Bool → Token
  a_named_call : ByteList → Token
  a_sub : Token
  a_renamed : ByteList → Token
  a_call : ByteList → Token
  a_none : Token
  a_more : Token

-- the tokens of a tree before others
abbrev mutual
  pub call_tokens : CallTree → List Token → List Token
  call_tokens (call name args) r = a_call name ∷ args_tokens args r

  pub arg_tokens : ArgTree → List Token → List Token
  arg_tokens (plain t q) r = a_plain t q ∷ r
  arg_tokens (named k t q) r = a_named k t q ∷ r
  arg_tokens (named_call k c) r = a_named_call k ∷ call_tokens c r
  arg_tokens (sub c) r = a_sub ∷ call_tokens c r
  arg_tokens (renamed c t) r = a_renamed t ∷ call_tokens c r

  pub args_tokens : ArgTrees → List Token → List Token
  args_tokens no_args r = a_none ∷ r
  args_tokens (an_arg a more) r = a_more ∷ arg_tokens a (args_tokens more r)

-- what was read so far, from the back
pub record Stacks : Type 0 where
  pub calls : List CallTree
  pub args : List ArgTree
  pub lists : List ArgTrees

-- the first of a list, or a default
abbrev pub first_of_list : {X : Type 0} → X → List X → X
first_of_list d [] = d
first_of_list d (x ∷ xs) = x

-- a list without its first
abbrev pub rest_of : {X : Type 0} → List X → List X
rest_of [] = []
rest_of (x ∷ xs) = xs

-- the call that was read last
abbrev pub last_call : Stacks → CallTree
last_call s = first_of_list (call [] no_args) s.calls

-- the stacks with one more argument
abbrev pub with_arg : ArgTree → Stacks → Stacks
with_arg a s = record { calls = s.calls; args = a ∷ s.args; lists = s.lists }

-- the stacks with one more argument, which takes the last call
abbrev pub with_arg_of_call : ArgTree → Stacks → Stacks
with_arg_of_call a s = record { calls = rest_of s.calls; args = a ∷ s.args; lists = s.lists }

-- the stacks with one more token, from the back
abbrev pub stack_token : Token → Stacks → Stacks
stack_token (a_plain t q) s = with_arg (plain t q) s
stack_token (a_named k t q) s = with_arg (named k t q) s
stack_token (a_named_call k) s = with_arg_of_call (named_call k (last_call s)) s
stack_token a_sub s = with_arg_of_call (sub (last_call s)) s
stack_token (a_renamed t) s = with_arg_of_call (renamed (last_call s) t) s
stack_token (a_call n) s =
    record {
      calls = call n
          (first_of_list no_args s.lists) ∷ s.calls;
      args = s.args;
      lists = rest_of s.lists;
    }
stack_token a_none s = record { calls = s.calls; args = s.args; lists = no_args ∷ s.lists }
stack_token a_more s =
    record {
      calls = s.calls;
      args = rest_of s.args;
      lists = an_arg
          (first_of_list (plain [] false) s.args) (first_of_list no_args s.lists) ∷ rest_of s.lists;
    }

-- the stacks of a list of tokens
abbrev pub stacked : List Token → Stacks
stacked [] = record { calls = []; args = []; lists = [] }
stacked (t ∷ ts) = stack_token t (stacked ts)

-- which are read again
mutual
  pub call_read : (c : CallTree) (r : List Token)
      → stacked (call_tokens c r) ≡ record
      { calls = c ∷ (stacked r).calls; args = (stacked r).args; lists = (stacked r).lists }
  call_read (call name args) r = ap (stack_token (a_call name)) (args_read args r)

  pub arg_read : (a : ArgTree) (r : List Token) → stacked (arg_tokens a r) ≡ with_arg a (stacked r)
  arg_read (plain t q) r = refl
  arg_read (named k t q) r = refl
  arg_read (named_call k c) r = ap (stack_token (a_named_call k)) (call_read c r)
  arg_read (sub c) r = ap (stack_token a_sub) (call_read c r)
  arg_read (renamed c t) r = ap (stack_token (a_renamed t)) (call_read c r)

  pub args_read : (as_ : ArgTrees) (r : List Token)
      → stacked (args_tokens as_ r) ≡ record
      { calls = (stacked r).calls; args = (stacked r).args; lists = as_ ∷ (stacked r).lists }
  args_read no_args r = refl
  args_read (an_arg a more) r =
      ap (stack_token a_more) (arg_read a (args_tokens more r) ∙ ap (with_arg a) (args_read more r))

-- a token as its kind, two texts and a test
abbrev pub token_parts : Token → ℕ × ByteList × ByteList × Bool
token_parts (a_plain t q) = (0, t, [], q)
token_parts (a_named k t q) = (1, k, t, q)
token_parts (a_named_call k) = (2, k, [], false)
token_parts a_sub = (3, [], [], false)
token_parts (a_renamed t) = (4, t, [], false)
token_parts (a_call n) = (5, n, [], false)
token_parts a_none = (6, [], [], false)
token_parts a_more = (7, [], [], false)

-- and back
abbrev pub token_from : ℕ → ByteList → ByteList → Bool → Token
token_from zero t u q = a_plain t q
token_from (suc zero) t u q = a_named t u q
token_from (suc (suc zero)) t u q = a_named_call t
token_from (suc (suc (suc zero))) t u q = a_sub
token_from (suc (suc (suc (suc zero)))) t u q = a_renamed t
token_from (suc (suc (suc (suc (suc zero))))) t u q = a_call t
token_from (suc (suc (suc (suc (suc (suc zero)))))) t u q = a_none
token_from (suc (suc (suc (suc (suc (suc (suc k))))))) t u q = a_more

-- which gives the token again
abbrev pub token_back : (t : Token)
    → token_from (token_parts t).0 (token_parts t).1 (token_parts t).2 (token_parts t).3 ≡ t
token_back (a_plain t q) = refl
token_back (a_named k t q) = refl
token_back (a_named_call k) = refl
token_back a_sub = refl
token_back (a_renamed t) = refl
token_back (a_call n) = refl
token_back a_none = refl
token_back a_more = refl

-- so tokens have a code
abbrev pub token_code : Coded Token
token_code = code_by (ℕ × (ByteList × (ByteList × Bool)))
    (coded× coded_ℕ (coded× (coded_list coded_ℕ) (coded× (coded_list coded_ℕ) coded_bool)))
    (λ t. ((token_parts t).0, ((token_parts t).1, ((token_parts t).2, (token_parts t).3))))
    (λ p. token_from p.0 p.1.0 p.1.1.0 p.1.1.1) token_back

-- arguments by their tokens
abbrev pub arg_code : Coded ArgTree
arg_code = code_by (List Token) (coded_list token_code) (λ a. arg_tokens a [])
    (λ ts. first_of_list (plain [] false) (stacked ts).args)
    (λ a. ap (λ (s : Stacks). first_of_list (plain [] false) s.args) (arg_read a []))

-- and lists of them
abbrev pub args_code : Coded (List ArgTree)
args_code = coded_list arg_code
