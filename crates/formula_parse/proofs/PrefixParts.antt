-- A prefix is the same where its parts are.
use Rattle.std.proofs.Common.{◌≡◌, ap, ◌∙◌, Bool}
use Rattle.formula_parse.specs.Trees as trees
use Rattle.formula_parse.specs.Flaws.{Came}
use Rattle.formula_parse.specs.Made.{made}
use Rattle.formula_parse.specs.Machine.{Prefix}

abbrev prefix : trees.Operands → trees.Operands → trees.Operands → Came → Bool → Prefix made
prefix is hs os w b = record { implications = is; chains = hs; operands = os; came = w; implied = b }

pub parts_same : (is js hs ks os ps : trees.Operands) (v w : Came) (b : Bool) → is ≡ js → hs ≡ ks → os ≡ ps → v ≡ w → prefix is hs os v b ≡ prefix js ks ps w b
parts_same is js hs ks os ps v w b one two three four =
    ap (λ x. prefix x hs os v b) one ∙ ap (λ x. prefix js x os v b) two ∙ ap (λ x. prefix js ks x v b) three ∙ ap (λ x. prefix js ks ps x b) four
