-- What was read at each place of the machine, as a front of an expression.
use Rattle.std.proofs.Common.{◌≡◌, ℕ, List, [], ◌∷◌, ◌++◌}
use Rattle.std.proofs.Common.{Option, Some, None}
use Rattle.std.proofs.Common.{encode_utf8, encode_utf8_all, refl, ap, sym, ◌∙◌, append_assoc}
use Rattle.std.proofs.Common.{append-nil}
use Rattle.std.specs.List.{AllByRecursion}
use lib.Utf8.{encode}
use Rattle.expr_reader.specs.Tree.{ArgTree, CallTree}
use Rattle.expr_reader.specs.Machine.{Machine}
use Rattle.expr_reader.specs.declared.machine.Place.{Place}
use Rattle.expr_reader.specs.declared.machine.Place.TheVariants.{Start, Name, AfterName, Open}
use Rattle.expr_reader.specs.declared.machine.Place.TheVariants.{Before, Bare, Quote, Escape}
use Rattle.expr_reader.specs.declared.machine.Place.TheVariants.{AfterQuote, AfterCall, CallGap}
use Rattle.expr_reader.specs.declared.machine.Place.TheVariants.{As, AfterAs, BeforeTo, To}
use Rattle.expr_reader.specs.declared.machine.Place.TheVariants.{AfterTo, Close}
use Rattle.expr_reader.specs.declared.open_calls.OpenCall.{OpenCall}
use Rattle.expr_reader.specs.Layout.{KeyLayout, ArgLayout, ArgsLayout, none_laid, arg_laid}
use Rattle.expr_reader.specs.Layout.{CallLayout, key_print, key_text, IsKeyLayout}
use Rattle.expr_reader.specs.Layout.{arg_print, IsArg, args_say, call_print, call_says, IsCall}
use Rattle.expr_reader.specs.Word.{AreBlank, IsGap, IsName, IsBare, Inside}
use Rattle.expr_reader.specs.Word.{nothing_more, letter, escaped_quote, kept_backslash}
use Rattle.expr_reader.specs.Word.{inside_print, inside_text, IsInside}

-- ---- lists that grow at their end

-- a fact of all, with one more
pub all_push : (P : ℕ → Type 0) (cs : List ℕ) (c : ℕ) → AllByRecursion P cs → P c
    → AllByRecursion P (cs ++ c ∷ [])
all_push P [] c h k = (k, tt)
all_push P (x ∷ cs) c h k = (h.0, all_push P cs c h.1 k)

-- the bytes of characters, with one more
pub bytes_push : (cs : List ℕ) (c : ℕ)
    → encode_utf8_all (cs ++ c ∷ []) ≡ encode_utf8_all cs ++ encode_utf8 c
bytes_push [] c = append-nil (encode_utf8 c)
bytes_push (x ∷ cs) c =
    ap (λ t. encode_utf8 x ++ t) (bytes_push cs c)
    ∙ sym (append_assoc (encode_utf8 x) (encode_utf8_all cs) (encode_utf8 c))

-- the bytes of characters one after another
pub bytes_append : (cs ds : List ℕ)
    → encode_utf8_all (cs ++ ds) ≡ encode_utf8_all cs ++ encode_utf8_all ds
bytes_append [] ds = refl
bytes_append (x ∷ cs) ds =
    ap (λ t. encode_utf8 x ++ t) (bytes_append cs ds)
    ∙ sym (append_assoc (encode_utf8 x) (encode_utf8_all cs) (encode_utf8_all ds))

-- what stands between quotes, one after another
pub join : Inside → Inside → Inside
join nothing_more j = j
join (letter c i) j = letter c (join i j)
join (escaped_quote i) j = escaped_quote (join i j)
join (kept_backslash c i) j = kept_backslash c (join i j)

-- its characters
pub print-join : (i j : Inside) → inside_print (join i j) ≡ inside_print i ++ inside_print j
unfolding join
print-join nothing_more j = refl
print-join (letter c i) j = ap (λ t. c ∷ t) (print-join i j)
print-join (escaped_quote i) j = ap (λ t. 92 ∷ 34 ∷ t) (print-join i j)
print-join (kept_backslash c i) j = ap (λ t. 92 ∷ c ∷ t) (print-join i j)

-- its text
pub text-join : (i j : Inside) → inside_text (join i j) ≡ inside_text i ++ inside_text j
unfolding join
text-join nothing_more j = refl
text-join (letter c i) j =
    ap (λ t. encode_utf8 c ++ t) (text-join i j)
    ∙ sym (append_assoc (encode_utf8 c) (inside_text i) (inside_text j))
text-join (escaped_quote i) j = ap (λ t. 34 ∷ t) (text-join i j)
text-join (kept_backslash c i) j =
    ap (λ t. 92 ∷ (encode_utf8 c ++ t)) (text-join i j)
    ∙ ap (λ t. 92 ∷ t) (sym (append_assoc (encode_utf8 c) (inside_text i) (inside_text j)))

-- it is allowed where both are
pub IsInside-join : (i j : Inside) → IsInside i → IsInside j → IsInside (join i j)
unfolding join
IsInside-join nothing_more j h k = k
IsInside-join (letter c i) j h k = (h.0, h.1, IsInside-join i j h.2 k)
IsInside-join (escaped_quote i) j h k = IsInside-join i j h k
IsInside-join (kept_backslash c i) j h k = (h.0, IsInside-join i j h.1 k)

-- ---- what stands before a place

-- a list of arguments as those of a layout
abbrev pub laid_of : List ArgLayout → ArgsLayout
laid_of [] = none_laid
laid_of (a ∷ args) = arg_laid a (laid_of args)

-- the arguments that a comma has ended
abbrev pub done_print : List ArgLayout → List ℕ
done_print [] = []
done_print (a ∷ more) = arg_print a ++ 44 ∷ done_print more

-- a call up to behind the comma of some whole arguments
pub record Head (P : List ℕ → Type 0) (name : List ℕ) (args : List ArgTree)
    (p : List ℕ) : Type 0 where
  pub before : List ℕ
  pub letters : List ℕ
  pub gap : List ℕ
  pub space : List ℕ
  pub done : List ArgLayout
  pub context : P before
  pub is_name : IsName letters
  pub blank_gap : AreBlank gap
  pub blank_space : AreBlank space
  pub all : AllByRecursion IsArg done
  pub says : name ≡ encode_utf8_all letters
  pub args_are : args ≡ args_say (laid_of done)
  pub is : p ≡ before ++ (letters ++ (gap ++ 40 ∷ (space ++ done_print done)))

-- a call's name, its parenthesis and blanks
pub record AtOpen (P : List ℕ → Type 0) (name p : List ℕ) : Type 0 where
  pub before : List ℕ
  pub letters : List ℕ
  pub gap : List ℕ
  pub space : List ℕ
  pub context : P before
  pub is_name : IsName letters
  pub blank_gap : AreBlank gap
  pub blank_space : AreBlank space
  pub says : name ≡ encode_utf8_all letters
  pub is : p ≡ before ++ (letters ++ (gap ++ 40 ∷ space))

-- a head, and perhaps a key with its sign
pub record WithKey (P : List ℕ → Type 0) (name : List ℕ) (args : List ArgTree)
    (said : Option (List ℕ)) (p : List ℕ) : Type 0 where
  pub front : List ℕ
  pub head : Head P name args front
  pub key : Option KeyLayout
  pub ok : IsKeyLayout key
  pub key_is : said ≡ key_text key
  pub is : p ≡ front ++ key_print key

-- a head, perhaps a key, blanks, and what a place adds
pub record Within (P : List ℕ → Type 0) (name : List ℕ) (args : List ArgTree)
    (said : Option (List ℕ)) (tail p : List ℕ) : Type 0 where
  pub front : List ℕ
  pub with_key : WithKey P name args said front
  pub blanks : List ℕ
  pub blank : AreBlank blanks
  pub is : p ≡ front ++ (blanks ++ tail)

-- what stands before a word or call: blanks round the outermost call, and in a call what was read
-- of that and of the calls round it
abbrev pub Context : List OpenCall → List ℕ → List ArgTree → Option (List ℕ) → List ℕ → Type 0
Context [] name args said p = AreBlank p
Context (o ∷ outer) name args said p =
    Within (Context outer o.name o.args o.key) name args said [] p

-- the characters are in a call, and a place adds these
abbrev pub InCall : List OpenCall → List ℕ → List ArgTree → Option (List ℕ) → List ℕ → List ℕ
    → Type 0
InCall [] name args said tail p = ⊥
InCall (o ∷ outer) name args said tail p =
    Within (Context outer o.name o.args o.key) name args said tail p

-- the same of a machine
abbrev pub Here : Machine → List ℕ → List ℕ → Type 0
Here m tail p = InCall m.outer m.name m.args m.key tail p

-- a call has just opened
abbrev pub Opened : List OpenCall → List ℕ → List ℕ → Type 0
Opened [] name p = ⊥
Opened (o ∷ outer) name p = AtOpen (Context outer o.name o.args o.key) name p

-- no call is open yet, and none was begun
abbrev pub AtBase : Machine → Type 0
AtBase m = (m.outer ≡ []) × (m.begun ≡ 0) × (m.deepest ≡ 0)

-- blanks and a name
pub record AtName (text p : List ℕ) : Type 0 where
  pub before : List ℕ
  pub letters : List ℕ
  pub blank : AreBlank before
  pub is_name : IsName letters
  pub says : text ≡ encode_utf8_all letters
  pub is : p ≡ before ++ letters

-- a call with blanks round it
pub record Whole (inner : Option CallTree) (p : List ℕ) : Type 0 where
  pub before : List ℕ
  pub layout : CallLayout
  pub behind : List ℕ
  pub blank : AreBlank before
  pub allowed : IsCall layout
  pub blank_behind : AreBlank behind
  pub says : inner ≡ Some (call_says layout)
  pub is : p ≡ before ++ (call_print layout ++ behind)

-- a call in a call, and what a place adds
pub record Called (outer : List OpenCall) (name : List ℕ) (args : List ArgTree)
    (said : Option (List ℕ)) (inner : Option CallTree) (tail p : List ℕ) : Type 0 where
  pub layout : CallLayout
  pub allowed : IsCall layout
  pub says : inner ≡ Some (call_says layout)
  pub here : InCall outer name args said (call_print layout ++ tail) p

-- the same with blanks, and what a place adds where there is no key
pub record Renames (outer : List OpenCall) (name : List ℕ) (args : List ArgTree)
    (said : Option (List ℕ)) (inner : Option CallTree) (tail p : List ℕ) : Type 0 where
  pub gap : List ℕ
  pub is_gap : IsGap gap
  pub no_key : said ≡ None
  pub called : Called outer name args said inner (gap ++ tail) p

-- the same up to the new name and blanks behind it
pub record Renamed (outer : List OpenCall) (name : List ℕ) (args : List ArgTree)
    (said : Option (List ℕ)) (inner : Option CallTree) (text behind p : List ℕ) : Type 0 where
  pub space : List ℕ
  pub letters : List ℕ
  pub is_space : IsGap space
  pub is_name : IsName letters
  pub blank : AreBlank behind
  pub text_is : text ≡ encode_utf8_all letters
  pub renames : Renames outer name args said inner (97 ∷ 115 ∷ (space ++ (letters ++ behind))) p

-- the three of a machine
abbrev pub CalledAt : Machine → List ℕ → List ℕ → Type 0
CalledAt m tail p = Called m.outer m.name m.args m.key m.inner tail p

abbrev pub RenamesAt : Machine → List ℕ → List ℕ → Type 0
RenamesAt m tail p = Renames m.outer m.name m.args m.key m.inner tail p

abbrev pub RenamedAt : Machine → List ℕ → List ℕ → Type 0
RenamedAt m behind p = Renamed m.outer m.name m.args m.key m.inner m.text behind p

-- what a place says of the characters that were read up to it
abbrev pub Front : Place → Machine → List ℕ → Type 0
Front Start m p = AtBase m × AreBlank p
Front Name m p = AtBase m × (m.blanks ≡ []) × AtName m.text p
Front AfterName m p =
    AtBase m × (front : List ℕ) × (gap : List ℕ) × AtName m.text front × AreBlank gap
    × (p ≡ front ++ gap)
Front Open m p = Opened m.outer m.name p × (m.args ≡ []) × (m.key ≡ None)
Front Before m p = Here m [] p
Front Bare m p = (cs : List ℕ) × (ws : List ℕ) × IsBare cs × AreBlank ws ×
    (m.text ≡ encode_utf8_all cs) × (m.blanks ≡ encode_utf8_all ws) × Here m (cs ++ ws) p
Front Quote m p =
    (i : Inside) × IsInside i × (m.text ≡ inside_text i) × (m.blanks ≡ [])
    × Here m (34 ∷ inside_print i) p
Front Escape m p =
    (i : Inside) × IsInside i × (m.text ≡ inside_text i) × (m.blanks ≡ [])
    × Here m (34 ∷ (inside_print i ++ 92 ∷ [])) p
Front AfterQuote m p =
    (i : Inside) × (ws : List ℕ) × IsInside i × AreBlank ws ×
    (m.text ≡ inside_text i) × Here m (34 ∷ (inside_print i ++ 34 ∷ ws)) p
Front AfterCall m p = CalledAt m [] p
Front CallGap m p = (gap : List ℕ) × IsGap gap × CalledAt m gap p
Front As m p = RenamesAt m (97 ∷ []) p
Front AfterAs m p = RenamesAt m (97 ∷ 115 ∷ []) p
Front BeforeTo m p = (space : List ℕ) × IsGap space × RenamesAt m (97 ∷ 115 ∷ space) p
Front To m p = (m.blanks ≡ []) × RenamedAt m [] p
Front AfterTo m p = (behind : List ℕ) × RenamedAt m behind p
Front Close m p = (m.outer ≡ []) × Whole m.inner p

-- where a machine is, its place says what was read
abbrev pub Good : Option Machine → List ℕ → Type 0
Good None p = Unit {0}
Good (Some n) p = Front n.place n p
