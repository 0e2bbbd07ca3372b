-- What the text of a load's query is read and checked as.
use Rattle.std.proofs.Common.{◌≡◌, List, [], ◌∷◌, ◌++◌, refl, sym, ap, ◌∙◌, subst}
use Rattle.std.specs.Prelude.{None, Result, Ok, Err, codes, true, false}
use Rattle.std.specs.Str.{chars, is_utf8}
use Rattle.std.specs.Str.Lossy.{utf8_valid_len}
use lib.Utf8.{encode}
use Rattle.tuple_values.specs.Document.{ByteList}
use Rattle.tuple_values.specs.declared.names.NameShards.{NameShards}
use Rattle.expr_reader.specs.Reading as read
use Rattle.expr_reader.specs.Tree.{CallTree, call, plain, named, sub, trees_of}
use Rattle.query_syntax.specs.ItemSteps.{test_step, begin_item_step, item_step}
use Rattle.query_syntax.specs.Letters.{is_special, is_operator}
use Rattle.query_syntax.specs.Reading.{read_of}
use Rattle.expr_types.specs.ExprTree.{ExprTree}
use Rattle.expr_types.specs.Plain.{IsPlain}
use Rattle.expr_plan.specs.Walk.{planned}
use Rattle.expr_check.specs.Walk.{fault_of}
use Rattle.expr_check.specs.declared.roots.Roots.TheVariants.{Plain}
use Rattle.expr_text.specs.Reading.{check_told, expression_of, plan_told, unless_fault}
use Rattle.load_rules.specs.Topic.{load_names}
use Rattle.load_mix.specs.Queries.{query_tree}

-- the text
abbrev pub query_text : ByteList
query_text =
    codes "parallel(src,rollup(search(src,q=\"*:*\",fl=\"g_s,a_i\",sort=\"g_s asc\","
    ++ codes "partitionKeys=\"g_s\"),over=\"g_s\",sum(a_i),count(*)),workers=4,sort=\"g_s asc\")"

-- the call that it says
abbrev pub query_call : CallTree
query_call =
    call (codes "parallel") (trees_of (plain (codes "src") false
    ∷ sub (call (codes "rollup") (trees_of (sub (call (codes "search") (trees_of
    (plain (codes "src") false ∷ named (codes "q") (codes "*:*") true
    ∷ named (codes "fl") (codes "g_s,a_i") true ∷ named (codes "sort") (codes "g_s asc") true
    ∷ named (codes "partitionKeys") (codes "g_s") true ∷ [])))
    ∷ named (codes "over") (codes "g_s") true
    ∷ sub (call (codes "sum") (trees_of (plain (codes "a_i") false ∷ [])))
    ∷ sub (call (codes "count") (trees_of (plain (codes "*") false ∷ []))) ∷ [])))
    ∷ named (codes "workers") (codes "4") false ∷ named (codes "sort") (codes "g_s asc") true ∷ []))

-- it says that call
pub query-call : read.read_of query_text ≡ Ok query_call
unfolding chars utf8_valid_len is_utf8 encode
query-call = refl

-- that call stands for the expression
pub query-plan : planned query_call ≡ Ok query_tree
unfolding read_of is_special is_operator test_step begin_item_step item_step
query-plan = refl

-- the expression has no fault
pub query-fine : fault_of Plain load_names query_tree ≡ None
query-fine = refl

-- the text says that expression
query-told : expression_of Plain load_names query_text ≡ Ok query_tree
query-told =
    ap (plan_told Plain load_names) query-call
    ∙ (ap (check_told Plain load_names) query-plan ∙ ap (unless_fault query_tree) query-fine)

module _ (names : List NameShards) (same : names ≡ load_names) where
  -- over the collections of a load
  told-there : expression_of Plain names query_text ≡ Ok query_tree
  told-there = ap (λ n. expression_of Plain n query_text) same ∙ query-told

  -- and no other
  pub query-is : (t : ExprTree) → expression_of Plain names query_text ≡ Ok t → t ≡ query_tree
  query-is t e =
      let both : ◌≡◌ {A = Result ExprTree ByteList} (Ok t) (Ok query_tree) = sym e ∙ told-there in
      cc

  -- which only reads
  pub query-plain : (t : ExprTree) → expression_of Plain names query_text ≡ Ok t → IsPlain t
  query-plain t e = subst IsPlain (sym (query-is t e)) refl

  -- it has no fault
  pub query-faultless : (text : ByteList) → expression_of Plain names query_text ≡ Err text → ⊥
  query-faultless text e =
      let both : ◌≡◌ {A = Result ExprTree ByteList} (Err text) (Ok query_tree) =
      sym e ∙ told-there in cc
