-- Lists of zeros.
use Rattle.std.specs.Prelude.{◌≡◌, ℕ, List, length, replicate, Vec}
use Rattle.std.specs.List.{All}
use Rattle.std.specs.declared.alloc.Global.{Global}

-- all numbers of the lists are 0
abbrev pub AreBlank : List (Vec ℕ Global) → Type 0
AreBlank lists = All (λ list. list.items ≡ replicate (length list.items) 0) lists
