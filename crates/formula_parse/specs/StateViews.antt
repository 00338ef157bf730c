-- The tokens, flaws and states that values denote.
use Rattle.std.specs.Prelude.{List, [], ◌∷◌, Option, None, Some, Vec}
use Rattle.std.specs.List.{fold}
use Rattle.std.specs.declared.alloc.Global.{Global}
use Rattle.formula_parse.specs.Tokens as tokens
use Rattle.formula_parse.specs.Trees as trees
use Rattle.formula_parse.specs.Flaws as flaws
use Rattle.formula_parse.specs.Machine as machine
use Rattle.formula_parse.specs.Making.{Binding, some, every, infinite}
use Rattle.formula_parse.specs.Made.{made}
use Rattle.formula_parse.specs.Views.{relation_view, quantifier_view, sign_view, names_view, term_view, terms_view, factor_view, factors_view, addends_view, index_view, formula_view, operands_view}
use Rattle.formula_parse.specs.declared.token.ChainSign.{ChainSign}
use Rattle.formula_parse.specs.declared.token.ChainSign.TheVariants as chain_signs
use Rattle.formula_parse.specs.declared.token.Token.{Token}
use Rattle.formula_parse.specs.declared.token.Token.TheVariants as token
use Rattle.formula_parse.specs.declared.flaw.Flaw.{Flaw}
use Rattle.formula_parse.specs.declared.flaw.Flaw.TheVariants as flaw
use Rattle.formula_parse.specs.declared.flaw.Product.{Product}
use Rattle.formula_parse.specs.declared.flaw.Came.{Came}
use Rattle.formula_parse.specs.declared.state.Prefix.{Prefix}
use Rattle.formula_parse.specs.declared.state.Body.{Body}
use Rattle.formula_parse.specs.declared.state.Binding.{Binding as Binding'}
use Rattle.formula_parse.specs.declared.state.Binding.TheVariants as bindings
use Rattle.formula_parse.specs.declared.state.Frame.{Frame}
use Rattle.formula_parse.specs.declared.state.Frame.TheVariants as frames
use Rattle.formula_parse.specs.declared.state.Sum.{Sum}
use Rattle.formula_parse.specs.declared.state.Aim.{Aim}
use Rattle.formula_parse.specs.declared.state.Aim.TheVariants as aims
use Rattle.formula_parse.specs.declared.state.Side.{Side}
use Rattle.formula_parse.specs.declared.state.Side.TheVariants as sides
use Rattle.formula_parse.specs.declared.state.Role.{Role}
use Rattle.formula_parse.specs.declared.state.Role.TheVariants as roles
use Rattle.formula_parse.specs.declared.state.Representation.{Representation}
use Rattle.formula_parse.specs.declared.state.Representation.TheVariants as representations
use Rattle.formula_parse.specs.declared.state.Position.{Position}
use Rattle.formula_parse.specs.declared.state.Position.TheVariants as positions
use Rattle.formula_parse.specs.declared.state.Context.{Context}
use Rattle.formula_parse.specs.declared.state.State.{State}

abbrev pub chain_sign_view : ChainSign → tokens.Connective
chain_sign_view chain_signs.And = tokens.and
chain_sign_view chain_signs.Or = tokens.or
chain_sign_view chain_signs.Xor = tokens.xor

abbrev pub token_view : Token → tokens.Token
token_view (token.Name n) = tokens.name n
token_view (token.Number n) = tokens.number n
token_view (token.System n) = tokens.system n
token_view (token.Called n) = tokens.called n
token_view token.Mark = tokens.mark
token_view token.CallSign = tokens.call_sign
token_view token.Negation = tokens.negation
token_view (token.Quantifier q) = tokens.quantifier (quantifier_view q)
token_view token.Comma = tokens.comma
token_view token.Opening = tokens.opening
token_view token.Closing = tokens.closing
token_view token.Bracket = tokens.bracket
token_view token.Unbracket = tokens.unbracket
token_view (token.LetterSign b) = tokens.letter_sign b
token_view (token.Sign s) = tokens.sign (sign_view s)
token_view (token.Times b) = tokens.times b
token_view token.Slash = tokens.slash
token_view (token.Relation r) = tokens.relation (relation_view r)
token_view (token.Connective k b) = tokens.connective (chain_sign_view k) b
token_view (token.Implies b) = tokens.implies b
token_view token.Iff = tokens.iff
token_view token.Other = tokens.other
token_view token.End = tokens.end

abbrev pub flaw_view : Flaw → flaws.Flaw
flaw_view (flaw.MixedChain b) = flaws.mixed_chain b
flaw_view (flaw.NotLinear b) = flaws.not_linear b

abbrev pub noted_view : Option Flaw → Option flaws.Flaw
noted_view None = None
noted_view (Some f) = Some (flaw_view f)

abbrev pub product_view : Product → flaws.Product
product_view p = record { lone = p.lone; unknown = p.unknown; star = p.star }

abbrev pub came_view : Came → flaws.Came
came_view c = record { or_came = c.or_came; xor_came = c.xor_came }

abbrev pub prefix_view : Prefix → machine.Prefix made
prefix_view f = record {
  implications = operands_view f.implications.items;
  chains = operands_view f.chains.items;
  operands = operands_view f.operands.items;
  came = came_view f.came;
  implied = f.implied;
}

-- the marks before some `~`, the last first
abbrev pub tildes_view : List (Vec tokens.Name Global) → List trees.Names
tildes_view ts = fold (λ (st : List trees.Names) (ms : Vec tokens.Name Global). names_view ms.items ∷ st) [] ts

abbrev pub body_view : Body → machine.Body made
body_view b = record {
  base = b.prefix.base;
  prefix = prefix_view b.prefix;
  tildes = tildes_view b.before.tildes.items;
  marks = names_view b.before.marks.items;
  touched = b.touched;
}

abbrev pub binding_view : Binding' → Binding
binding_view (bindings.Exists ns) = some (names_view ns.items)
binding_view (bindings.ForAll ns) = every (names_view ns.items)
binding_view bindings.Infinite = infinite

abbrev pub frame_view : Frame → machine.Frame made
frame_view (frames.Paren b y) = machine.paren (body_view b) y
frame_view (frames.Quantified s b) = machine.scope (binding_view s.binding) s.last (body_view b)

-- the innermost first
abbrev pub frames_view : List Frame → List (machine.Frame made)
frames_view fs = fold (λ gs f. frame_view f ∷ gs) [] fs

abbrev pub outer_view : Sum → machine.Outer made
outer_view o = record { addends = addends_view o.addends.items; factors = factors_view o.factors.items; product = product_view o.product }

abbrev pub outers_view : List Sum → List (machine.Outer made)
outers_view os = fold (λ gs o. outer_view o ∷ gs) [] os

abbrev pub aim_view : Aim → machine.Aim made
aim_view (aims.LeftIndex x r) = machine.left_index (index_view x) (relation_view r)
aim_view (aims.LeftLetter l r) = machine.left_letter l (relation_view r)

abbrev pub side_view : Side → machine.Side made
side_view sides.First = machine.first
side_view (sides.Second a) = machine.second (aim_view a)

abbrev pub role_view : Role → machine.Role made
role_view roles.LeftSide = machine.left_side
role_view (roles.RightOf t r) = machine.right_of (term_view t) (relation_view r)
role_view (roles.PlaceIn p) = machine.place_in (side_view p.side) p.word (terms_view p.places.items)
role_view (roles.Argument a) = machine.argument a.name (terms_view a.terms.items)

abbrev pub representation_view : Representation → machine.Representation made
representation_view representations.OnLeft = machine.on_left
representation_view (representations.OnRight x r) = machine.on_right (index_view x) (relation_view r)

abbrev pub position_view : Position → machine.Position made
position_view positions.AtOperand = machine.at_operand
position_view positions.AtSystem = machine.at_system
position_view (positions.AtVariable b) = machine.at_variable (binding_view b)
position_view (positions.AfterOperand f) = machine.after_operand (formula_view f)
position_view (positions.AfterFirst n) = machine.after_first n
position_view (positions.AtFactor r) = machine.at_factor (role_view r.nest.role) (outers_view r.nest.outer.items) (addends_view r.sum.addends.items) (factors_view r.sum.factors.items) (product_view r.sum.product)
position_view (positions.AfterFactor r p) = machine.after_factor (role_view r.nest.role) (outers_view r.nest.outer.items) (addends_view r.sum.addends.items) (trees.factors (factors_view r.sum.factors.items) (factor_view p.factor)) (product_view r.sum.product) p.numeral
position_view (positions.AtDivisor r) = machine.at_divisor (role_view r.nest.role) (outers_view r.nest.outer.items) (addends_view r.sum.addends.items) (factors_view r.sum.factors.items) (product_view r.sum.product)
position_view (positions.AfterIndex p t) = machine.after_index (side_view p.side) p.word (terms_view p.places.items) (term_view t)
position_view (positions.AtWord a) = machine.at_word (aim_view a)
position_view (positions.AtBracket a n) = machine.at_bracket (aim_view a) n
position_view (positions.AtLetter c b) = machine.at_letter (representation_view c) b
position_view (positions.AtValue c b) = machine.at_value (representation_view c) b
position_view (positions.AfterLetter l) = machine.after_letter l
position_view positions.AtCalled = machine.at_called
position_view (positions.AtCall n) = machine.at_call n
position_view (positions.AtArgument n) = machine.at_argument n
position_view (positions.Done f) = machine.done (formula_view f)

abbrev pub Machine : Type 0
Machine = machine.State made

-- a state whose position does not matter
abbrev pub context_view : Context → Machine
context_view c = record {
  around = frames_view c.around.frames.items;
  body = body_view c.body;
  system = c.around.system;
  flaw = noted_view c.around.flaw;
  position = machine.at_operand;
}

abbrev pub state_view : State → Machine
state_view s = record {
  around = frames_view s.context.around.frames.items;
  body = body_view s.context.body;
  system = s.context.around.system;
  flaw = noted_view s.context.around.flaw;
  position = position_view s.position;
}
