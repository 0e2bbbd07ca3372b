-- What is so of each function, in one row of a table (Solr Reference Guide, "Stream Source
-- Reference" and "Stream Decorator Reference"; limits own).
use Rattle.std.specs.Prelude.{ℕ, ◌≡◌, ◌==◌, nat_le, List, [], ◌∷◌, length, codes}
use Rattle.std.specs.Prelude.{Bool, true, false, not, ◌&&◌, Ok}
use Rattle.std.specs.List.{AllByRecursion, list_all}
use Rattle.tuple_values.specs.Document.{ByteList, Doc, is_named}
use Rattle.query_syntax.specs.Reading.{read_of}
use Rattle.sort_spec.specs.Sorting.{IsAscending}
use Rattle.sort_spec.specs.Terms.{less}
use Rattle.sort_spec.specs.declared.pair.OnPair.{OnPair}
use Rattle.expr_types.specs.Joins.{join_list, outer_join_list, exist_list, IsJoinable}
use Rattle.expr_types.specs.Sources.{search_list}
use Rattle.expr_types.specs.Limits.{count_limit, row_limit, checkpoint_limit, id_limit}
use Rattle.expr_types.specs.Limits.{worker_limit, batch_limit, interval_limit}
use Rattle.expr_types.specs.Limits.{is_between, may_be_between}
use Rattle.expr_types.specs.Orders.{sort_list, top_list, merge_list, IsSortedOver}
use Rattle.expr_types.specs.Conditions.{having_list}
use Rattle.expr_types.specs.Rows.{select_list}
use Rattle.expr_types.specs.Groups.{unique_list, reduce_list, rollup_list, metric_name}
use Rattle.expr_types.specs.ExprTree.{Operator, search, tuple, select, having, sort, top, unique}
use Rattle.expr_types.specs.ExprTree.{merge, reduce, rollup, inner_join, left_outer_join, intersect}
use Rattle.expr_types.specs.ExprTree.{complement, hash_join, outer_hash_join, in_parallel, topic}
use Rattle.expr_types.specs.ExprTree.{update, commit, daemon, first_or, second_or}
use Rattle.expr_types.specs.ExprTree.{SearchParts, TopicParts}

-- the documents of each collection, by its name
abbrev pub Collections : Type 0
Collections = ByteList → List Doc

-- what a function takes from elsewhere than its inputs
pub data Source : Type 0 where
  searched : SearchParts → Source
  literal : Doc → Source
  followed : TopicParts → Source
  no_source : Source

-- a row of the table
pub record Rule : Type 1 where
  -- what it gives of the lists of its inputs, over the documents of collections
  pub gives : Collections → List (List Doc) → List Doc
  -- the lists of its inputs are in the order that it needs
  pub Needs : List (List Doc) → Type 0
  -- whether a plan gives it over as many inputs
  pub is_well : ℕ → Bool
  -- what it takes from elsewhere than its inputs
  pub source : Source
  -- whether it only reads documents, and gives a list of them
  pub is_plain : Bool

-- what goes once over one input, in whatever order
abbrev pub of_one : (List Doc → List Doc) → Rule
of_one work = record {
  gives = λ docs lists. work (first_or [] lists);
  Needs = λ lists. Unit {0};
  is_well = λ inputs. inputs == 1;
  source = no_source;
  is_plain = true;
}

-- what goes once over two inputs, in whatever order
abbrev pub of_two : (List Doc → List Doc → List Doc) → Rule
of_two work = record {
  gives = λ docs lists. work (first_or [] lists) (second_or [] lists);
  Needs = λ lists. Unit {0};
  is_well = λ inputs. inputs == 2;
  source = no_source;
  is_plain = true;
}

-- what needs its inputs sorted over names
abbrev pub sorted_over : List ByteList → Rule → Rule
sorted_over names rule =
    record rule { Needs = λ lists. AllByRecursion (IsSortedOver names) lists }

-- what needs its two inputs in the order of pairs
abbrev pub joined_on : List OnPair → Rule → Rule
joined_on on rule = record rule { Needs = IsJoinable on }

-- what a plan gives with such parameters alone
abbrev pub only_where : Bool → Rule → Rule
only_where fits rule = record rule { is_well = λ inputs. rule.is_well inputs && fits }

-- what follows a topic or changes a collection, over one input: no list of documents stands for it,
-- and whatever is said of lists is said of expressions that hold no such function
abbrev pub by_effect : Rule
by_effect = record {
  gives = λ docs lists. [];
  Needs = λ lists. Unit {0};
  is_well = λ inputs. inputs == 1;
  source = no_source;
  is_plain = false;
}

-- the table
abbrev pub rule_of : Operator → Rule
rule_of (search p) = record {
  gives = λ docs lists. search_list p (docs p.collection);
  Needs = λ lists. Unit {0};
  is_well = λ inputs. inputs == 0 && may_be_between 0 row_limit p.rows;
  source = searched p;
  is_plain = true;
}
rule_of (tuple fields) = record {
  gives = λ docs lists. fields ∷ [];
  Needs = λ lists. Unit {0};
  is_well = λ inputs. inputs == 0;
  source = literal fields;
  is_plain = true;
}
rule_of (select items) = of_one (select_list items)
rule_of (having condition) = of_one (having_list condition)
rule_of (sort by) = of_one (sort_list by)
rule_of (top n by) = only_where (is_between 1 count_limit n) (of_one (top_list n by))
rule_of (unique over) = sorted_over over (of_one (unique_list over))
rule_of (merge on) = record {
  gives = λ docs lists. merge_list on lists;
  Needs = λ lists. AllByRecursion (IsAscending (less on)) lists;
  is_well = λ inputs. nat_le 2 inputs;
  source = no_source;
  is_plain = true;
}
rule_of (reduce by op) =
    only_where (not (is_named (codes "group") by))
    (only_where (is_between 1 count_limit op.n) (sorted_over by (of_one (reduce_list by op))))
rule_of (rollup over metrics) =
    only_where (list_all (λ m. not (is_named (metric_name m) over)) metrics)
    (sorted_over over (of_one (rollup_list over metrics)))
rule_of (inner_join on) = joined_on on (of_two (join_list on))
rule_of (left_outer_join on) = joined_on on (of_two (outer_join_list on))
rule_of (intersect on) = joined_on on (of_two (exist_list true on))
rule_of (complement on) = joined_on on (of_two (exist_list false on))
rule_of (hash_join on) = of_two (join_list on)
rule_of (outer_hash_join on) = of_two (outer_join_list on)
rule_of (in_parallel collection workers by) =
    only_where (is_between 1 worker_limit workers) (of_one (λ docs. docs))
rule_of (topic p) = record by_effect {
  is_well = λ inputs. inputs == 0
      && (is_between 1 id_limit (length p.id) && may_be_between 0 checkpoint_limit p.init);
  source = followed p;
}
rule_of (update dest size) = only_where (is_between 1 batch_limit size) by_effect
rule_of (commit dest size) = only_where (may_be_between 0 batch_limit size) by_effect
rule_of (daemon id interval terminate) =
    only_where (is_between 1 id_limit (length id))
    (only_where (is_between 0 interval_limit interval) by_effect)

-- what an operator gives of the lists of its inputs
abbrev pub given : Collections → Operator → List (List Doc) → List Doc
given docs op lists = (rule_of op).gives docs lists

-- the lists of the inputs are in the order that an operator needs
abbrev pub AreAsNeeded : Operator → List (List Doc) → Type 0
AreAsNeeded op lists = (rule_of op).Needs lists

-- whether a plan gives an operator over as many inputs
abbrev pub is_well : Operator → ℕ → Bool
is_well op inputs = (rule_of op).is_well inputs

-- what is kept of a text is what the text is read as
abbrev pub IsReadAs : Source → Type 0
IsReadAs (searched p) = Unit {0}
IsReadAs (literal fields) = Unit {0}
IsReadAs (followed p) = read_of p.q_text ≡ Ok p.q
IsReadAs no_source = Unit {0}

-- what an operator keeps of a text is read from it
abbrev pub IsRead : Operator → Type 0
IsRead op = IsReadAs (rule_of op).source
