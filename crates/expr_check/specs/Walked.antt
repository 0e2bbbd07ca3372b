-- What the walk finds of the inputs of an expression, as far as the expression's fault asks (own).
use Rattle.std.specs.Prelude.{◌≡◌, List, [], ◌∷◌, ◌++◌, None, fold}
use Rattle.std.specs.Option.{option_or}
use Rattle.tuple_values.specs.Document.{ByteList}
use Rattle.expr_types.specs.ExprTree.{ExprTree, inputs_in, inputs_of}
use Rattle.expr_check.specs.Reads.{with_name}
use Rattle.expr_check.specs.Walk.{orders_of, all_fields, all_keys, keyless_in}
use Rattle.expr_check.specs.declared.checked.Within.{Within}
use Rattle.expr_check.specs.declared.walked.Walked.{Walked}
use Rattle.expr_check.specs.declared.walked.WalkedInputs.{WalkedInputs}

-- the orders, fields and keys are those of the inputs, and so is the first function without keys
pub record AreWalked (walked : WalkedInputs) (t : ExprTree) : Type 0 where
  pub orders : walked.orders.items ≡ orders_of (inputs_of (inputs_in t))
  pub fields : walked.fields.items ≡ all_fields (inputs_of (inputs_in t))
  pub keys : walked.keys.items ≡ all_keys (inputs_of (inputs_in t))
  pub keyless : walked.keyless ≡ keyless_in (inputs_of (inputs_in t))

-- nothing is known of an input yet, and these collections are read
pub record IsNoneBelow (inputs : WalkedInputs) (held : List Within) (names : List ByteList)
    : Type 0 where
  pub orders : inputs.orders.items ≡ []
  pub fields : inputs.fields.items ≡ []
  pub keys : inputs.keys.items ≡ []
  pub keyless : inputs.keyless ≡ None
  pub reads : inputs.reads ≡ names
  pub fault : inputs.fault ≡ None
  pub withins : held ≡ []

-- what is known of one more input stands behind the others, firsts stay, and its collections are
-- read too
pub record IsOneMore (old : WalkedInputs) (held : List Within) (walked : Walked)
    (new : WalkedInputs) (holds : List Within) : Type 0 where
  pub orders : new.orders.items ≡ old.orders.items ++ walked.order ∷ []
  pub fields : new.fields.items ≡ old.fields.items ++ walked.fields ∷ []
  pub keys : new.keys.items ≡ old.keys.items ++ walked.keys ∷ []
  pub keyless : new.keyless ≡ option_or old.keyless walked.keyless
  pub reads : new.reads ≡ fold with_name old.reads walked.reads
  pub fault : new.fault ≡ option_or old.fault walked.fault
  pub withins : holds ≡ held ++ walked.within ∷ []

-- the same is known
pub record IsSameBelow (old : WalkedInputs) (held : List Within) (new : WalkedInputs)
    (holds : List Within) : Type 0 where
  pub orders : new.orders.items ≡ old.orders.items
  pub fields : new.fields.items ≡ old.fields.items
  pub keys : new.keys.items ≡ old.keys.items
  pub keyless : new.keyless ≡ old.keyless
  pub reads : new.reads ≡ old.reads
  pub fault : new.fault ≡ old.fault
  pub withins : holds ≡ held
