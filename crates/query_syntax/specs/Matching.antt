-- Which documents a query matches (the tests are those of Lucene's classic query syntax; the rules
-- on lists are own).
use Rattle.std.specs.Prelude.{ℤ, Bool, true, false, ◌&&◌, ◌||◌, not, nat_eq, bytes_eq}
use Rattle.std.specs.Prelude.{if◌then◌else◌}
use Rattle.std.specs.Prelude.{List, Option, Some, None}
use Rattle.std.specs.List.{starts_with}
use Rattle.std.specs.Ordering.{int_cmp, int_eq}
use Rattle.std.specs.declared.cmp.Ordering.{Ordering}
use Rattle.std.specs.declared.cmp.Ordering.TheVariants.{Less, Equal, Greater}
use Rattle.tuple_values.specs.Document.{ByteList, bytes_cmp, Datum, long, text, group, Doc}
use Rattle.tuple_values.specs.Document.{value_at}
use Rattle.tuple_values.specs.Whole.{whole_of}
use Rattle.query_syntax.specs.Tree.{WhatTree, everything, on_field, nested, ClauseTrees, no_clauses}
use Rattle.query_syntax.specs.Tree.{a_clause, ClauseTree, trees_of}
use Rattle.query_syntax.specs.declared.query.Role.{Role}
use Rattle.query_syntax.specs.declared.query.Role.TheVariants.{Required, Prohibited, Optional}
use Rattle.query_syntax.specs.declared.query.Test.{Test}
use Rattle.query_syntax.specs.declared.query.Test.TheVariants.{Word, Prefix, Present, Range}

-- whether there is a number and it is this one
abbrev pub is_number : Option ℤ → ℤ → Bool
is_number None n = false
is_number (Some m) n = int_eq m n

-- whether what compares so is inside a bound: below it, or at it where the bound is included
abbrev pub is_within : Bool → Ordering → Bool
is_within included Less = true
is_within included Equal = included
is_within included Greater = false

-- whether a text is above a bound; no bound is below all
abbrev pub text_above : Option ByteList → Bool → ByteList → Bool
text_above None included bytes = true
text_above (Some low) included bytes = is_within included (bytes_cmp low bytes)

-- whether a text is below a bound; no bound is above all
abbrev pub text_below : Option ByteList → Bool → ByteList → Bool
text_below None included bytes = true
text_below (Some high) included bytes = is_within included (bytes_cmp bytes high)

-- whether a number is above what may be a number
abbrev pub is_above : Option ℤ → Bool → ℤ → Bool
is_above None included n = false
is_above (Some low) included n = is_within included (int_cmp low n)

-- whether a number is below what may be a number
abbrev pub is_below : Option ℤ → Bool → ℤ → Bool
is_below None included n = false
is_below (Some high) included n = is_within included (int_cmp n high)

-- whether a number is above a bound; a bound that isn't whole is above all
abbrev pub number_above : Option ByteList → Bool → ℤ → Bool
number_above None included n = true
number_above (Some low) included n = is_above (whole_of low) included n

-- whether a number is below a bound; a bound that isn't whole is below all
abbrev pub number_below : Option ByteList → Bool → ℤ → Bool
number_below None included n = true
number_below (Some high) included n = is_below (whole_of high) included n

-- whether a text passes a test: it is the word, begins with it, is there, or is within the range
abbrev pub text_passes : Test → ByteList → Bool
text_passes (Word w) bytes = bytes_eq bytes w
text_passes (Prefix w) bytes = starts_with nat_eq bytes w
text_passes Present bytes = true
text_passes (Range low low_in high high_in) bytes =
    text_above low low_in bytes && text_below high high_in bytes

-- whether a number passes: the word is that number, or it is there, or is within the range
abbrev pub number_passes : Test → ℤ → Bool
number_passes (Word w) n = is_number (whole_of w) n
number_passes (Prefix w) n = false
number_passes Present n = true
number_passes (Range low low_in high high_in) n =
    number_above low low_in n && number_below high high_in n

-- whether a group passes: its being there alone can be tested
abbrev pub group_passes : Test → Bool
group_passes (Word w) = false
group_passes (Prefix w) = false
group_passes Present = true
group_passes (Range low low_in high high_in) = false

-- whether a value passes a test
abbrev pub value_passes : Test → Datum → Bool
value_passes test (long n) = number_passes test n
value_passes test (text bytes) = text_passes test bytes
value_passes test (group rows) = group_passes test

-- the same of the value of a field; a field that isn't there passes none
abbrev pub passes : Test → Option Datum → Bool
passes test None = false
passes test (Some value) = value_passes test value

-- whether two roles are the same
abbrev pub same_role : Role → Role → Bool
same_role Required Required = true
same_role Required Prohibited = false
same_role Required Optional = false
same_role Prohibited Required = false
same_role Prohibited Prohibited = true
same_role Prohibited Optional = false
same_role Optional Required = false
same_role Optional Prohibited = false
same_role Optional Optional = true

-- whether some clause of the list has the role
abbrev pub has_role : ClauseTrees → Role → Bool
has_role no_clauses role = false
has_role (a_clause other what clauses) role = same_role other role || has_role clauses role

-- whether a value is the wanted one
abbrev pub agrees : Bool → Bool → Bool
agrees value true = value
agrees value false = not value

-- A list matches where no required clause fails, no prohibited one matches and, if none is
-- required, some optional one matches.
abbrev pub list_rule : Bool → Bool → Bool → Bool → Bool
list_rule a_required_fails a_prohibited_matches some_are_required an_optional_matches =
    not a_required_fails && not a_prohibited_matches && (some_are_required || an_optional_matches)

abbrev mutual
  -- whether the document is what a clause asks for
  pub what_matches : WhatTree → Doc → Bool
  what_matches everything doc = true
  what_matches (on_field name test) doc = passes test (value_at name doc)
  what_matches (nested clauses) doc =
      list_rule (some_clause clauses Required false doc) (some_clause clauses Prohibited true doc)
      (has_role clauses Required) (some_clause clauses Optional true doc)

  -- whether some clause of the role matches or, where `hit` is false, fails
  pub some_clause : ClauseTrees → Role → Bool → Doc → Bool
  some_clause no_clauses role hit doc = false
  some_clause (a_clause other what clauses) role hit doc =
      (same_role other role && agrees (what_matches what doc) hit)
      || some_clause clauses role hit doc

-- whether all clauses are prohibited, and there are some
abbrev pub is_negative : ClauseTrees → Bool
is_negative clauses =
    has_role clauses Prohibited && not (has_role clauses Required)
    && not (has_role clauses Optional)

-- the clauses of a whole query: prohibited ones alone stand beside `*:*`
abbrev pub beside_all : ClauseTrees → ClauseTrees
beside_all clauses = if is_negative clauses then a_clause Optional everything clauses else clauses

-- whether a query of these clauses matches the document
abbrev pub matches : List ClauseTree → Doc → Bool
matches clauses doc = what_matches (nested (beside_all (trees_of clauses))) doc
