-- One more character of an expression (own).
use Rattle.std.specs.Prelude.{ℕ, [], ◌∷◌, ◌++◌, true, false, ◌&&◌, ◌==◌, is_none, Option, Some}
use Rattle.std.specs.Prelude.{None, if◌then◌else◌, encode_utf8}
use Rattle.std.specs.List.{list_all}
use Rattle.expr_reader.specs.Letters.{is_blank, is_name_letter, begins_name, is_key_letter}
use Rattle.expr_reader.specs.Letters.{is_special, is_name}
use Rattle.expr_reader.specs.Machine.{Machine, grow, open_call, close, end_word, end_call}
use Rattle.expr_reader.specs.Machine.{end_renamed}
use Rattle.expr_reader.specs.declared.machine.Place.{Place}
use Rattle.expr_reader.specs.declared.machine.Place.TheVariants.{Start, Name, AfterName, Open}
use Rattle.expr_reader.specs.declared.machine.Place.TheVariants.{Before, Bare, Quote, Escape}
use Rattle.expr_reader.specs.declared.machine.Place.TheVariants.{AfterQuote, AfterCall, CallGap}
use Rattle.expr_reader.specs.declared.machine.Place.TheVariants.{As, AfterAs, BeforeTo, To}
use Rattle.expr_reader.specs.declared.machine.Place.TheVariants.{AfterTo, Close}

-- a comma or a closing parenthesis behind an argument
abbrev pub stop : Machine → ℕ → Option Machine
stop m c =
    if c == 44 then Some (record m { place = Before })
    else (if c == 41 then Some (close m) else None)

-- a character with which a word or a call begins
abbrev pub begin_word : Machine → ℕ → Option Machine
begin_word m c =
    if c == 34 then Some (record m { place = Quote; text = []; blanks = [] })
    else (if is_special c then None
    else Some (record m { place = Bare; text = encode_utf8 c; blanks = [] }))

-- an equals sign behind bare text
abbrev pub end_key : Machine → Option Machine
end_key m =
    if is_none m.key && list_all is_key_letter m.text
    then Some (record m { place = Before; key = Some m.text; text = []; blanks = [] }) else None

-- a parenthesis behind bare text
abbrev pub begin_call : Machine → Option Machine
begin_call m = if is_name m.text then Some (open_call m) else None

-- a character behind or in bare text
abbrev pub bare_step : Machine → ℕ → Option Machine
bare_step m c =
    if is_blank c then Some (record m { blanks = m.blanks ++ encode_utf8 c })
    else (if c == 61 then end_key m
    else (if c == 40 then begin_call m
    else (if is_special c then stop (end_word false m) c
    else Some (grow (encode_utf8 c) m))))

-- one more character at a place; none where no expression goes on so
abbrev pub step_at : Place → Machine → ℕ → Option Machine
step_at Start m c =
    if is_blank c then Some m
    else (if begins_name c
    then Some (record m { place = Name; text = encode_utf8 c; blanks = [] }) else None)
step_at Name m c =
    if is_name_letter c then Some (grow (encode_utf8 c) m)
    else (if is_blank c then Some (record m { place = AfterName })
    else (if c == 40 then Some (open_call m) else None))
step_at AfterName m c =
    if is_blank c then Some m else (if c == 40 then Some (open_call m) else None)
step_at Open m c =
    if is_blank c then Some m else (if c == 41 then Some (close m) else begin_word m c)
step_at Before m c = if is_blank c then Some m else begin_word m c
step_at Bare m c = bare_step m c
step_at Quote m c =
    if c == 34 then Some (record m { place = AfterQuote })
    else (if c == 92 then Some (record m { place = Escape })
    else Some (grow (encode_utf8 c) m))
step_at Escape m c =
    if c == 34 then Some (grow (34 ∷ []) (record m { place = Quote }))
    else Some (grow (encode_utf8 c) (grow (92 ∷ []) (record m { place = Quote })))
step_at AfterQuote m c = if is_blank c then Some m else stop (end_word true m) c
step_at AfterCall m c =
    if is_blank c then Some (record m { place = CallGap }) else stop (end_call m) c
step_at CallGap m c =
    if is_blank c then Some m
    else (if (c == 97) && is_none m.key then Some (record m { place = As })
    else stop (end_call m) c)
step_at As m c = if c == 115 then Some (record m { place = AfterAs }) else None
step_at AfterAs m c = if is_blank c then Some (record m { place = BeforeTo }) else None
step_at BeforeTo m c =
    if is_blank c then Some m
    else (if begins_name c
    then Some (record m { place = To; text = encode_utf8 c; blanks = [] }) else None)
step_at To m c =
    if is_name_letter c then Some (grow (encode_utf8 c) m)
    else (if is_blank c then Some (record m { place = AfterTo })
    else stop (end_renamed m) c)
step_at AfterTo m c = if is_blank c then Some m else stop (end_renamed m) c
step_at Close m c = if is_blank c then Some m else None

-- one more character; none where no expression goes on so
abbrev pub step : Machine → ℕ → Option Machine
step m c = step_at m.place m c
