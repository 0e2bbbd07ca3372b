-- What the text of a load's topic is read and checked as.
use Rattle.std.proofs.Common.{◌≡◌, List, [], ◌∷◌, ◌++◌, ◌∙◌, ap, refl, sym}
use Rattle.std.specs.Prelude.{Some, None, Ok, Err, codes, true, false}
use Rattle.std.specs.Str.{chars, is_utf8}
use Rattle.std.specs.Str.Lossy.{utf8_valid_len}
use lib.Utf8.{encode}
use Rattle.tuple_values.specs.Document.{ByteList}
use Rattle.tuple_values.specs.declared.names.NameShards.{NameShards}
use Rattle.expr_reader.specs.Reading as read
use Rattle.expr_reader.specs.Tree.{CallTree, call, plain, named, sub, trees_of}
use Rattle.query_syntax.specs.ItemSteps.{test_step, begin_item_step, item_step}
use Rattle.query_syntax.specs.Letters.{is_special, is_operator}
use Rattle.query_syntax.specs.Reading as query
use Rattle.query_syntax.specs.Reading.{read_of}
use Rattle.expr_plan.specs.Walk.{planned}
use Rattle.expr_types.specs.ExprTree.{ExprTree}
use Rattle.expr_check.specs.Walk.{fault_of}
use Rattle.expr_check.specs.declared.roots.Roots.TheVariants.{All}
use Rattle.expr_text.specs.Reading.{check_told, expression_of, plan_told, unless_fault}
use Rattle.load_rules.specs.Topic.{load_names, load_query}
use Rattle.load_mix.specs.Topic.{load_clauses, load_tree}

-- the text
abbrev pub load_text : ByteList
load_text =
    codes "update(dest,topic(ck,src,id=\"load\",q=\"a_i:[0 TO 499]\","
    ++ codes "fl=\"id,a_i,rev_i\",initialCheckpoint=0))"

-- the call that it says
abbrev pub load_call : CallTree
load_call =
    call (codes "update") (trees_of (plain (codes "dest") false
    ∷ sub (call (codes "topic") (trees_of (plain (codes "ck") false ∷ plain (codes "src") false
    ∷ named (codes "id") (codes "load") true ∷ named (codes "q") load_query true
    ∷ named (codes "fl") (codes "id,a_i,rev_i") true
    ∷ named (codes "initialCheckpoint") (codes "0") false ∷ []))) ∷ []))

-- it says that call
pub load-call : read.read_of load_text ≡ Ok load_call
unfolding chars utf8_valid_len is_utf8 encode
load-call = refl

-- its query says those clauses
pub load-read : query.read_of load_query ≡ Ok load_clauses
unfolding read_of is_special is_operator test_step begin_item_step item_step
load-read = refl

-- and so it matches
pub load-clauses : query.query_of load_query ≡ Some load_clauses
unfolding is_special is_operator test_step begin_item_step item_step
load-clauses = refl

-- that call stands for the expression
pub load-plan : planned load_call ≡ Ok load_tree
unfolding read_of is_special is_operator test_step begin_item_step item_step
load-plan = refl

-- the expression has no fault
pub load-fine : fault_of All load_names load_tree ≡ None
load-fine = refl

-- so the text is that expression
pub load-text : expression_of All load_names load_text ≡ Ok load_tree
load-text =
    ap (plan_told All load_names) load-call
    ∙ (ap (check_told All load_names) load-plan ∙ ap (unless_fault load_tree) load-fine)

-- over the collections of a load it is told as no other
pub load-told : (names : List NameShards) (tree : ExprTree) → names ≡ load_names
    → expression_of All names load_text ≡ Ok tree → tree ≡ load_tree
load-told names tree is told =
    let same : Ok load_tree ≡ Ok tree =
    sym load-text ∙ (ap (λ n. expression_of All n load_text) (sym is) ∙ told) in cc

-- and as no fault
pub load-sound : (names : List NameShards) (fault : ByteList) → names ≡ load_names
    → expression_of All names load_text ≡ Err fault → ⊥
load-sound names fault is told =
    let same : Ok load_tree ≡ Err fault =
    sym load-text ∙ (ap (λ n. expression_of All n load_text) (sym is) ∙ told) in cc
