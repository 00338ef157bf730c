-- The words by which users see the kinds of steps.
use Rattle.std.specs.Prelude.{ℕ, List, codes}
use Rattle.digit_tuple.specs.declared.kind.Kind.{Kind}
use Rattle.digit_tuple.specs.declared.kind.Kind.TheVariants.{Read, Reverse, Regex, Pad, Valid, Order, Const, Product, Complement, Project, Combine, Promote, Concat, Star, Transduce, Split, Join}

-- the name of a kind
abbrev pub kind_name : Kind → List ℕ
kind_name Read = codes "read"
kind_name Reverse = codes "reverse"
kind_name Regex = codes "regex"
kind_name Pad = codes "pad"
kind_name Valid = codes "valid"
kind_name Order = codes "order"
kind_name Const = codes "const"
kind_name Product = codes "product"
kind_name Complement = codes "complement"
kind_name Project = codes "project"
kind_name Combine = codes "combine"
kind_name Promote = codes "promote"
kind_name Concat = codes "concat"
kind_name Star = codes "star"
kind_name Transduce = codes "transduce"
kind_name Split = codes "split"
kind_name Join = codes "join"
