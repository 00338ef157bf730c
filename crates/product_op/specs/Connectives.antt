-- Connectives of two arguments, by their truth tables.
use Rattle.std.specs.Prelude.{Bool, true, false}
use Rattle.product_op.specs.declared.op.Op.{Op}
use Rattle.product_op.specs.declared.op.Op.TheVariants.{And, AndNot, Or, Xor, Implies, Iff}

-- what the connective says of two truth values
abbrev pub connective : Op → Bool → Bool → Bool
connective And true true = true
connective And true false = false
connective And false true = false
connective And false false = false
connective AndNot true true = false
connective AndNot true false = true
connective AndNot false true = false
connective AndNot false false = false
connective Or true true = true
connective Or true false = true
connective Or false true = true
connective Or false false = false
connective Xor true true = false
connective Xor true false = true
connective Xor false true = true
connective Xor false false = false
connective Implies true true = true
connective Implies true false = false
connective Implies false true = true
connective Implies false false = true
connective Iff true true = true
connective Iff true false = false
connective Iff false true = false
connective Iff false false = true

-- whether the connective is taken among valid words alone
abbrev pub among_valid : Op → Bool
among_valid And = false
among_valid AndNot = false
among_valid Or = true
among_valid Xor = true
among_valid Implies = true
among_valid Iff = true
