-- From everywhere where the machine stands some text goes on, so it sticks exactly at the places.
use Rattle.std.proofs.Common.{◌≡◌, ℕ, ◌+◌, List, [], ◌∷◌, ◌++◌, take, Option, Some, None}
use Rattle.std.proofs.Common.{refl, arith, ap, ◌∙◌}
use Rattle.std.proofs.lemmas.List.{take_all}
use Rattle.tuple_values.specs.Document.{ByteList}
use Rattle.query_syntax.specs.Letters.{is_special, is_operator}
use Rattle.query_syntax.specs.Grammar.{GoesOn, IsPlace}
use Rattle.query_syntax.specs.Machine.{Machine, ready, start}
use Rattle.query_syntax.specs.Items.{outer_field}
use Rattle.query_syntax.specs.ItemSteps.{test_step, item_step, begin_item_step}
use Rattle.query_syntax.specs.Reading.{run, asks, query_of, Ends, at_a_byte, at_the_end}
use Rattle.query_syntax.specs.Tree.{nested, ClauseTree, trees_of}
use Rattle.query_syntax.specs.declared.query.Role.TheVariants.{Optional}
use Rattle.query_syntax.specs.declared.open_lists.OpenList.{OpenList}
use Rattle.query_syntax.specs.declared.place.Side.TheVariants.{Low, High}
use Rattle.query_syntax.specs.declared.place.Stage.{Stage}
use Rattle.query_syntax.specs.declared.place.Stage.TheVariants.{First, Behind, Joined, Modified}
use Rattle.query_syntax.specs.declared.place.Kind.{Kind}
use Rattle.query_syntax.specs.declared.place.Kind.TheVariants.{Name, Word, Number, Quote, Bare}
use Rattle.query_syntax.specs.declared.place.Kind.TheVariants.{Quoted}
use Rattle.query_syntax.specs.declared.place.Place.{Place}
use Rattle.query_syntax.specs.declared.place.Place.TheVariants.{Item, Star, Colon, Letters}
use Rattle.query_syntax.specs.declared.place.Place.TheVariants.{Escape, Tested, Minus}
use Rattle.query_syntax.specs.declared.place.Place.TheVariants.{MinusEscape, Before, Closed, Gap}
use Rattle.query_syntax.specs.declared.place.Place.TheVariants.{T, To}
use Rattle.query_syntax.proofs.RunLemmas.{run-append}
use Rattle.query_syntax.proofs.LetterLemmas.{at}
use Rattle.query_syntax.proofs.SpanLemmas.{Asks}
use Rattle.query_syntax.proofs.SoundLemmas.{sound_run}
use Rattle.query_syntax.proofs.CompleteLemmas.{complete}

-- ` TO *]`, behind a lower bound
abbrev to_the_end : ByteList
to_the_end = 32 ∷ 84 ∷ 79 ∷ 32 ∷ 42 ∷ 93 ∷ []

-- what ends an item behind an escaped letter
abbrev finish_letters : Kind → ByteList
finish_letters (Name stage) = 58 ∷ 42 ∷ []
finish_letters Word = 32 ∷ []
finish_letters Number = 32 ∷ []
finish_letters Quote = 34 ∷ []
finish_letters (Bare Low) = to_the_end
finish_letters (Bare High) = 93 ∷ []
finish_letters (Quoted Low) = 34 ∷ to_the_end
finish_letters (Quoted High) = 34 ∷ 93 ∷ []

-- before an item
abbrev finish_item : Stage → ByteList
finish_item First = 42 ∷ 58 ∷ 42 ∷ []
finish_item Behind = 42 ∷ 58 ∷ 42 ∷ []
finish_item Joined = 42 ∷ 58 ∷ 42 ∷ []
finish_item Modified = 42 ∷ 58 ∷ 42 ∷ []

-- and from each place
abbrev finish : Place → ByteList
finish (Item stage) = finish_item stage
finish Star = 58 ∷ 42 ∷ []
finish Colon = 42 ∷ []
finish (Letters kind) = 92 ∷ 120 ∷ finish_letters kind
finish (Escape kind) = 120 ∷ finish_letters kind
finish Tested = 42 ∷ []
finish Minus = 53 ∷ 32 ∷ []
finish MinusEscape = 53 ∷ 32 ∷ []
finish (Before Low) = 42 ∷ to_the_end
finish (Before High) = 42 ∷ 93 ∷ []
finish (Closed Low) = to_the_end
finish (Closed High) = 93 ∷ []
finish Gap = 84 ∷ 79 ∷ 32 ∷ 42 ∷ 93 ∷ []
finish T = 79 ∷ 32 ∷ 42 ∷ 93 ∷ []
finish To = 32 ∷ 42 ∷ 93 ∷ []

-- these bytes lead to the end of an item
record Finishes (o : Option Machine) (bytes : ByteList) : Type 0 where
  field : Option ByteList
  clauses : List ClauseTree
  outer : List OpenList
  ends : run o bytes ≡ Some (ready Behind Optional field clauses outer)

-- they do
finishes : (place : Place) (m : Machine) → Finishes (Some (at place m)) (finish place)
unfolding is_special is_operator item_step begin_item_step test_step
finishes (Item First) m = record { field = _; clauses = _; outer = _; ends = refl }
finishes (Item Behind) m = record { field = _; clauses = _; outer = _; ends = refl }
finishes (Item Joined) m = record { field = _; clauses = _; outer = _; ends = refl }
finishes (Item Modified) m = record { field = _; clauses = _; outer = _; ends = refl }
finishes Star m = record { field = _; clauses = _; outer = _; ends = refl }
finishes Colon m = record { field = _; clauses = _; outer = _; ends = refl }
finishes (Letters (Name stage)) m = record { field = _; clauses = _; outer = _; ends = refl }
finishes (Letters Word) m = record { field = _; clauses = _; outer = _; ends = refl }
finishes (Letters Number) m = record { field = _; clauses = _; outer = _; ends = refl }
finishes (Letters Quote) m = record { field = _; clauses = _; outer = _; ends = refl }
finishes (Letters (Bare Low)) m = record { field = _; clauses = _; outer = _; ends = refl }
finishes (Letters (Bare High)) m = record { field = _; clauses = _; outer = _; ends = refl }
finishes (Letters (Quoted Low)) m = record { field = _; clauses = _; outer = _; ends = refl }
finishes (Letters (Quoted High)) m = record { field = _; clauses = _; outer = _; ends = refl }
finishes (Escape (Name stage)) m = record { field = _; clauses = _; outer = _; ends = refl }
finishes (Escape Word) m = record { field = _; clauses = _; outer = _; ends = refl }
finishes (Escape Number) m = record { field = _; clauses = _; outer = _; ends = refl }
finishes (Escape Quote) m = record { field = _; clauses = _; outer = _; ends = refl }
finishes (Escape (Bare Low)) m = record { field = _; clauses = _; outer = _; ends = refl }
finishes (Escape (Bare High)) m = record { field = _; clauses = _; outer = _; ends = refl }
finishes (Escape (Quoted Low)) m = record { field = _; clauses = _; outer = _; ends = refl }
finishes (Escape (Quoted High)) m = record { field = _; clauses = _; outer = _; ends = refl }
finishes Tested m = record { field = _; clauses = _; outer = _; ends = refl }
finishes Minus m = record { field = _; clauses = _; outer = _; ends = refl }
finishes MinusEscape m = record { field = _; clauses = _; outer = _; ends = refl }
finishes (Before Low) m = record { field = _; clauses = _; outer = _; ends = refl }
finishes (Before High) m = record { field = _; clauses = _; outer = _; ends = refl }
finishes (Closed Low) m = record { field = _; clauses = _; outer = _; ends = refl }
finishes (Closed High) m = record { field = _; clauses = _; outer = _; ends = refl }
finishes Gap m = record { field = _; clauses = _; outer = _; ends = refl }
finishes T m = record { field = _; clauses = _; outer = _; ends = refl }
finishes To m = record { field = _; clauses = _; outer = _; ends = refl }

-- a parenthesis for each open list
abbrev closers : List OpenList → ByteList
closers [] = []
closers (o ∷ outer) = 41 ∷ closers outer

-- they end a text behind an item
closes_all : (outer : List OpenList) (field : Option ByteList) (clauses : List ClauseTree)
    → (all : List ClauseTree)
    × Asks (Some (ready Behind Optional field clauses outer)) (closers outer) all
unfolding item_step
closes_all [] field clauses = (clauses, refl)
closes_all (o ∷ outer) field clauses =
    closes_all outer (outer_field o.outside field)
    (o.clauses ++ record { role = o.role; what = nested (trees_of clauses) } ∷ [])

-- some query begins with what can be read
goes_on : (front : ByteList) (m : Machine) → run (Some start) front ≡ Some m → GoesOn front
goes_on front m is =
    let f = finishes m.place m in
    let last = closes_all f.outer f.field f.clauses in
    let more = finish m.place ++ closers f.outer in (
      more,
      last.0,
      sound_run (front ++ more) last.0
          (ap asks (run-append (Some start) front more
          ∙ ap (λ o. run o more) is
          ∙ run-append (Some m) (finish m.place) (closers f.outer)
          ∙ ap (λ o. run o (closers f.outer)) f.ends) ∙ last.1),
    )

-- and with nothing else
goes_nowhere : (front : ByteList) → run (Some start) front ≡ None → ¬ (GoesOn front)
goes_nowhere front none (more, clauses, q) =
    let over : query_of (front ++ more) ≡ None =
    ap asks (run-append (Some start) front more ∙ ap (λ o. run o more) none) in
    let some : query_of (front ++ more) ≡ Some clauses = complete (front ++ more) clauses q in cc

-- where a run ends is the place
pub ends_place : (bytes : ByteList) (at : ℕ) → Ends bytes at → IsPlace bytes at
ends_place bytes at (at_a_byte s) = record {
  within = omega (arith, s.within);
  front = goes_on (take at bytes) s.machine s.before;
  longest = λ lt. goes_nowhere (take (at + 1) bytes) s.stuck;
}
ends_place bytes at (at_the_end m whole is none) = record {
  within = omega arith;
  front = goes_on (take at bytes) m
      (ap (run (Some start)) (take_all at bytes (omega arith)) ∙ is);
  longest = λ lt. absurd (omega arith);
}
