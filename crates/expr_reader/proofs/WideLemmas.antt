-- Characters past ASCII: each place takes all of them or none.
use Rattle.std.proofs.Common.{◌≡◌, ℕ, ◌≤◌, [], ◌∷◌, Bool, true, false, Some, None}
use Rattle.std.proofs.Common.{encode_utf8, refl, sym, ◌∙◌, arith}
use Rattle.std.specs.Prelude.{◌==◌}
use Rattle.std.proofs.lemmas.Bool.{false≢true}
use Rattle.std.proofs.lemmas.Bool.Decides.{nat_tests}
use Rattle.expr_reader.specs.Letters.{is_blank, is_name_letter, begins_name}
use Rattle.expr_reader.specs.Machine.{Machine, grow, takes_wide}
use Rattle.expr_reader.specs.Steps.{step}
use Rattle.expr_reader.specs.declared.machine.Place.{Place}
use Rattle.expr_reader.specs.declared.machine.Place.TheVariants.{Start, Name, AfterName, Open}
use Rattle.expr_reader.specs.declared.machine.Place.TheVariants.{Before, Bare, Quote, Escape}
use Rattle.expr_reader.specs.declared.machine.Place.TheVariants.{AfterQuote, AfterCall, CallGap}
use Rattle.expr_reader.specs.declared.machine.Place.TheVariants.{As, AfterAs, BeforeTo, To}
use Rattle.expr_reader.specs.declared.machine.Place.TheVariants.{AfterTo, Close}

-- a character past ASCII is none of those that have a meaning
record IsWide (c : ℕ) : Type 0 where
  blank : is_blank c ≡ false
  begins : begins_name c ≡ false
  letter : is_name_letter c ≡ false
  bracket : (c == 40) ≡ false
  close : (c == 41) ≡ false
  comma : (c == 44) ≡ false
  equals : (c == 61) ≡ false
  quote : (c == 34) ≡ false
  slash : (c == 92) ≡ false
  small_a : (c == 97) ≡ false
  small_s : (c == 115) ≡ false

-- each is so
is_wide : (c : ℕ) → 128 ≤ c → IsWide c
is_wide c h = record {
  blank = grind (arith, nat_tests);
  begins = grind (arith, nat_tests);
  letter = grind (arith, nat_tests);
  bracket = grind (arith, nat_tests);
  close = grind (arith, nat_tests);
  comma = grind (arith, nat_tests);
  equals = grind (arith, nat_tests);
  quote = grind (arith, nat_tests);
  slash = grind (arith, nat_tests);
  small_a = grind (arith, nat_tests);
  small_s = grind (arith, nat_tests);
}

-- the machine takes a character, and no call begins
abbrev pub Takes : Machine → ℕ → Type 0
Takes m c = (n : Machine) × (step m c ≡ Some n) × (n.begun ≡ m.begun) × (n.deepest ≡ m.deepest)

-- a place takes all of them or none
pub record TakesWide (q : Place) (m : Machine) (c : ℕ) : Type 0 where
  pub taken : takes_wide q ≡ true → Takes (record m { place = q }) c
  pub refused : takes_wide q ≡ false → step (record m { place = q }) c ≡ None

-- a place that takes them
takes : (q : Place) (m : Machine) (c : ℕ) → takes_wide q ≡ true → Takes (record m { place = q }) c
    → TakesWide q m c
takes q m c is t = record { taken = λ h. t; refused = λ h. absurd (false≢true (sym h ∙ is)) }

-- a place that refuses them
refuses : (q : Place) (m : Machine) (c : ℕ) → takes_wide q ≡ false
    → step (record m { place = q }) c ≡ None → TakesWide q m c
refuses q m c is t = record { taken = λ h. absurd (false≢true (sym is ∙ h)); refused = λ h. t }

-- each place takes all of them or none
wide_step : (q : Place) (m : Machine) (c : ℕ) → IsWide c → TakesWide q m c
wide_step Start m c w = refuses Start m c refl (rw (w.blank, w.begins) refl)
wide_step Name m c w = refuses Name m c refl (rw (w.letter, w.blank, w.bracket) refl)
wide_step AfterName m c w = refuses AfterName m c refl (rw (w.blank, w.bracket) refl)
wide_step Open m c w = takes Open m c refl (
  record m { place = Bare; text = encode_utf8 c; blanks = [] },
  rw (w.blank, w.close, w.quote, w.comma, w.bracket, w.equals) refl,
  refl,
  refl,
)
wide_step Before m c w = takes Before m c refl (
  record m { place = Bare; text = encode_utf8 c; blanks = [] },
  rw (w.blank, w.quote, w.comma, w.bracket, w.close, w.equals) refl,
  refl,
  refl,
)
wide_step Bare m c w = takes Bare m c refl (
  grow (encode_utf8 c) (record m { place = Bare }),
  rw (w.blank, w.comma, w.close, w.equals, w.bracket, w.quote) refl,
  refl,
  refl,
)
wide_step Quote m c w = takes Quote m c refl (
  grow (encode_utf8 c) (record m { place = Quote }),
  rw (w.quote, w.slash) refl,
  refl,
  refl,
)
wide_step Escape m c w = takes Escape m c refl (
  grow (encode_utf8 c) (grow (92 ∷ []) (record m { place = Quote })),
  rw w.quote refl,
  refl,
  refl,
)
wide_step AfterQuote m c w = refuses AfterQuote m c refl (rw (w.blank, w.comma, w.close) refl)
wide_step AfterCall m c w = refuses AfterCall m c refl (rw (w.blank, w.comma, w.close) refl)
wide_step CallGap m c w =
    refuses CallGap m c refl (rw (w.blank, w.small_a, w.comma, w.close) refl)
wide_step As m c w = refuses As m c refl (rw w.small_s refl)
wide_step AfterAs m c w = refuses AfterAs m c refl (rw w.blank refl)
wide_step BeforeTo m c w = refuses BeforeTo m c refl (rw (w.blank, w.begins) refl)
wide_step To m c w = refuses To m c refl (rw (w.letter, w.blank, w.comma, w.close) refl)
wide_step AfterTo m c w = refuses AfterTo m c refl (rw (w.blank, w.comma, w.close) refl)
wide_step Close m c w = refuses Close m c refl (rw w.blank refl)

-- a place that takes such characters takes this one
pub wide_taken : (m : Machine) (c : ℕ) → 128 ≤ c → takes_wide m.place ≡ true
    → Takes m c
wide_taken m c h t = (wide_step m.place m c (is_wide c h)).taken t

-- a place that refuses them refuses this one
pub wide_refused : (m : Machine) (c : ℕ) → 128 ≤ c → takes_wide m.place ≡ false → step m c ≡ None
wide_refused m c h t = (wide_step m.place m c (is_wide c h)).refused t

-- a place that refuses one of them refuses each other
pub alike : (m : Machine) (c d : ℕ) → 128 ≤ c → 128 ≤ d → step m c ≡ None → step m d ≡ None
alike m c d hc hd none = by (takes_wide m.place) refl
  where
    by : (b : Bool) → takes_wide m.place ≡ b → step m d ≡ None
    by true t = let some = wide_taken m c hc t in cc
    by false t = wide_refused m d hd t
