-- What a merge knows of its inputs, and what they still give (own).
use Rattle.std.specs.Prelude.{◌≡◌, ℕ, zero, suc, List, [], ◌∷◌, ◌++◌, map, Bool, true, false}
use Rattle.std.specs.Prelude.{Option, Some, None, option_to_list}
use Rattle.std.specs.List.{AllByRecursion}
use Rattle.tuple_values.specs.Document.{Doc}
use Rattle.sort_spec.specs.Sorting.{IsAscending}
use Rattle.kernel_laws.specs.Rests.{Rests}
use Rattle.order_kernels.specs.declared.merge_state.Slot.{Slot}

-- for each input the document that is held of it, if one is
abbrev pub held : List Slot → List (Option Doc)
held slots = map (λ s. s.held) slots

-- for each input whether it has ended
abbrev pub flags : List Slot → List Bool
flags slots = map (λ s. s.ended) slots

-- nothing is known of the input
abbrev pub IsFresh : Slot → Type 0
IsFresh s = (s.held ≡ None) × (s.ended ≡ false)

-- what an input still gives: the document that is held and then its rest
abbrev pub flow : Option Doc → List Doc → List Doc
flow h rest = option_to_list h ++ rest

-- what all inputs still give, one after another
abbrev pub joined : List (Option Doc) → Rests → List Doc
joined [] rests = []
joined (h ∷ hs) [] = []
joined (h ∷ hs) (rest ∷ rests) = flow h rest ++ joined hs rests

-- nothing is to come where the input has ended
abbrev pub IsOver : Bool → List Doc → Type 0
IsOver true rest = rest ≡ []
IsOver false rest = Unit {0}

-- each input still gives documents in order, and none of its rest where it has ended
abbrev pub AreFlows : (Doc → Doc → Bool) → List (Option Doc) → List Bool → Rests → Type 0
AreFlows lt [] [] [] = Unit {0}
AreFlows lt (h ∷ hs) (e ∷ es) (rest ∷ rests) =
    IsAscending lt (flow h rest) × IsOver e rest × AreFlows lt hs es rests
AreFlows lt hs es rests = ⊥

-- a document of the input is held, or it has ended
abbrev pub IsKnown : Option Doc → Bool → Type 0
IsKnown None e = e ≡ true
IsKnown (Some doc) e = Unit {0}

-- that is so of each input
abbrev pub AreKnown : List (Option Doc) → List Bool → Type 0
AreKnown (h ∷ hs) (e ∷ es) = IsKnown h e × AreKnown hs es
AreKnown hs es = Unit {0}

-- a fact of the document that is held, if one is
abbrev pub IfHeld : (Doc → Type 0) → Option Doc → Type 0
IfHeld P None = Unit {0}
IfHeld P (Some doc) = P doc

-- the document is held at this place, those before it are greater, and none behind it is less
abbrev pub IsLeast : (Doc → Doc → Bool) → Doc → ℕ → List (Option Doc) → Type 0
IsLeast lt doc place [] = ⊥
IsLeast lt doc zero (h ∷ hs) =
    (h ≡ Some doc) × AllByRecursion (IfHeld (λ other. lt other doc ≡ false)) hs
IsLeast lt doc (suc place) (h ∷ hs) =
    IfHeld (λ other. lt doc other ≡ true) h × IsLeast lt doc place hs

-- the place is that of the first of the least; there is none where nothing is held
abbrev pub IsForemost : (Doc → Doc → Bool) → List (Option Doc) → Option ℕ → Type 0
IsForemost lt hs None = AllByRecursion (λ h. h ≡ None) hs
IsForemost lt hs (Some place) = (doc : Doc) × IsLeast lt doc place hs
