-- The frames that are open, where the innermost is taken off.
use Rattle.std.proofs.Common.{◌≡◌, refl, sym, ap, ◌∙◌, Bool, true, false, List, [], ◌∷◌, ◌++◌, length, Option, Some}
use Rattle.std.specs.Option.{option_to_list}
use Rattle.formula_parse.specs.Trees as trees
use Rattle.formula_parse.specs.Made.{made, trees as making}
use Rattle.formula_parse.specs.Machine as machine
use Rattle.formula_parse.specs.Tokens.{Token}
use Rattle.formula_parse.specs.Flaws.{Flaw}
use Rattle.formula_parse.specs.Views.{names_view}
use Rattle.formula_parse.specs.StateViews.{Machine, prefix_view, tildes_view, binding_view, frame_view, frames_view}
use Rattle.formula_parse.specs.declared.state.Body.{Body}
use Rattle.formula_parse.specs.declared.state.Scope.{Scope}
use Rattle.formula_parse.specs.declared.state.Frame.{Frame}
use Rattle.formula_parse.specs.declared.state.Frame.TheVariants.{Quantified}
use Rattle.formula_parse.proofs.Innermost.{innermost_taken, innermost_none}

pub frames_taken : (all rest : List Frame) (o : Option Frame) (f : Frame) → all ≡ rest ++ option_to_list o → o ≡ Some f → frames_view all ≡ frame_view f ∷ frames_view rest
frames_taken all rest o f items is = innermost_taken frame_view all rest o f items is

pub frames_none : (all : List Frame) → length all ≡ 0 → frames_view all ≡ []
frames_none all none = innermost_none frame_view all none

-- of the state that a term's parenthesis closes in, its flaw alone matters
pub close_term_flaw : (s z : Machine) (hs : List (machine.Frame made)) (b : Bool) (t : trees.Term) (q : Bool) → s.flaw ≡ z.flaw → machine.close_term making s hs b t q ≡ machine.close_term making z hs b t q
close_term_flaw s z [] b t q same = refl
close_term_flaw s z (machine.paren h y ∷ hs) true t q same = refl
close_term_flaw s z (machine.paren h y ∷ hs) false t q same = ap (λ w. machine.close_term making (record s { flaw = w }) (machine.paren h y ∷ hs) false t q) same
close_term_flaw s z (machine.scope e n h ∷ hs) b t q same = refl

-- a formula that a quantifier takes ends with what it ends in
pub close_scope : (all rest : List Frame) (o : Option Frame) (c : Scope) (b : Body) (w : Option Flaw) (f g : trees.Formula) (t : Token) → all ≡ rest ++ option_to_list o → o ≡ Some (Quantified c b)
    → g ≡ machine.whole making (prefix_view b.prefix) (making.quantified (tildes_view b.before.tildes.items) (names_view b.before.marks.items) (binding_view c.binding) c.last f)
    → machine.close making w (frames_view rest) g t ≡ machine.close making w (frames_view all) f t
close_scope all rest o c b w f g t items is whole =
    ap (λ h. machine.close making w (frames_view rest) h t) whole ∙ ap (λ hs. machine.close making w hs f t) (sym (frames_taken all rest o (Quantified c b) items is))
