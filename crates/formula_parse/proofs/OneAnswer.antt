-- The answers that the grammar gives to a text are one.
use Rattle.std.proofs.Common.{◌≡◌, refl, sym, ◌∙◌, ap, subst, ℕ, ◌<◌, List, Option, None, Some, Result, Ok, Err, arith}
use Rattle.formula_parse.specs.Tokens.{Token, Placed, nesting_of}
use Rattle.formula_parse.specs.Trees as trees
use Rattle.formula_parse.proofs.Derivations.{Formula}
use Rattle.formula_parse.specs.Flaws.{Flaw, mixed_chain, not_linear}
use Rattle.formula_parse.proofs.DerivedFlaws.{formula_flaw}
use Rattle.formula_parse.specs.Limits.{IsInRange, fault_byte}
use Rattle.formula_parse.proofs.DerivedGrammar.{tree_of, Derives, Breaks, Reaches}
use Rattle.text_grammar.specs.Spots.{tokens}
use Rattle.formula_parse.specs.Spots.{spots}
use Rattle.formula_parse.specs.Parsing.{Cut, Parses}
use Rattle.formula_parse.specs.OneAnswer.{answer_view, IsOfTheText}
use Rattle.formula_parse.specs.declared.tree.Formula.{Formula as Tree}
use Rattle.formula_parse.specs.declared.fault.ParseFault.{ParseFault}
use Rattle.formula_parse.specs.declared.fault.ParseFault.TheVariants as faults
use Rattle.formula_parse.specs.FormulaTrees as shown
use Rattle.formula_parse.specs.Views.{formula_view}
use Rattle.formula_parse.specs.Grammar.{Reads}
use Rattle.formula_parse.proofs.BothGrammars.{breaks_derived, reaches_derived, WholeDerived, whole_derived}
use Rattle.formula_parse.proofs.Cuts.{one_derivation, Stops, breaks_stop, reaches_stop, breaks_reaches, one_reached, not_deep, SameCut, same_cut, whole_stops}

-- what a derivation of a whole text says
abbrev flawed : Option Flaw → trees.Formula → Result trees.Formula ParseFault
flawed None f = Ok f
flawed (Some (mixed_chain b)) f = Err (faults.MixedChain b)
flawed (Some (not_linear b)) f = Err (faults.NotLinear b)

abbrev answer_of : Formula → Result trees.Formula ParseFault
answer_of d = flawed (formula_flaw None d) (tree_of d)

-- why the grammar says this of a text
data HasReason (text : List ℕ) (x : Result trees.Formula ParseFault) : Type 0 where
  to_the_end : (d : Formula) → Derives (tokens (spots text)) d → answer_of d ≡ x → HasReason text x
  at_break : (c : Cut text) → Breaks (tokens c.prefix) c.spot.token → Err (faults.Syntax c.spot.at) ≡ x → HasReason text x
  at_number : (c : Cut text) (p : Placed) → Reaches (tokens c.prefix) c.spot.token p → (IsInRange p → ⊥) → Err (faults.Number (fault_byte p c.spot.at)) ≡ x → HasReason text x
  at_depth : (c : Cut text) (p : Placed) → Reaches (tokens c.prefix) c.spot.token p → 128 < nesting_of p → Err (faults.Depth c.spot.at) ≡ x → HasReason text x

reason_of : (text : List ℕ) (f : Result Tree ParseFault) → IsOfTheText f → Parses text f → HasReason text (answer_view f)
reason_of text (Ok f) i p =
    let w =
    whole_derived
    (tokens (spots text))
    (formula_view f)
    None
    (record { text = p.text; derives = p.derives; tree_is = p.tree_is; flaw_is = p.flawless }) in
    to_the_end w.text w.derives (ap (λ z. flawed z (tree_of w.text)) w.flaw_is ∙ ap Ok w.tree_is)
reason_of text (Err (faults.Syntax at)) i p =
    at_break p.cut (breaks_derived (tokens p.cut.prefix) p.cut.spot.token p.breaks) (ap (λ b. Err (faults.Syntax b)) p.at_is)
reason_of text (Err (faults.Number at)) i p =
    at_number
    p.cut
    p.passes.reached
    (reaches_derived (tokens p.cut.prefix) p.cut.spot.token p.passes.reached p.passes.reaches)
    p.passes.out
    (ap (λ b. Err (faults.Number b)) p.passes.byte_is)
reason_of text (Err (faults.Depth at)) i p =
    at_depth
    p.cut
    p.passes.reached
    (reaches_derived (tokens p.cut.prefix) p.cut.spot.token p.passes.reached p.passes.reaches)
    p.passes.deep
    (ap (λ b. Err (faults.Depth b)) p.at_is)
reason_of text (Err (faults.MixedChain at)) i p =
    let w =
    whole_derived
    (tokens (spots text))
    (shown.tree_of p.text)
    (Some (mixed_chain at))
    (record { text = p.text; derives = p.derives; tree_is = refl; flaw_is = p.flaw_is }) in
    to_the_end w.text w.derives (ap (λ z. flawed z (tree_of w.text)) w.flaw_is)
reason_of text (Err (faults.NotLinear at)) i p =
    let w =
    whole_derived
    (tokens (spots text))
    (shown.tree_of p.text)
    (Some (not_linear at))
    (record { text = p.text; derives = p.derives; tree_is = refl; flaw_is = p.flaw_is }) in
    to_the_end w.text w.derives (ap (λ z. flawed z (tree_of w.text)) w.flaw_is)
reason_of text (Err faults.Memory) i p = absurd i

number_stops : (prefix : List Token) (t : Token) (p : Placed) → Reaches prefix t p → (IsInRange p → ⊥) → Stops prefix t
number_stops prefix t p r h = reaches_stop prefix t p r (λ a. h a.1)

depth_stops : (prefix : List Token) (t : Token) (p : Placed) → Reaches prefix t p → 128 < nesting_of p → Stops prefix t
depth_stops prefix t p r h = reaches_stop prefix t p r (λ a. let low = a.0 in omega arith)

module _ (text : List ℕ) where
  -- a token that is reached in one text, cut so, is reached in the other
  moved : (c d : Cut text) (p : Placed) → SameCut c d → Reaches (tokens c.prefix) c.spot.token p → Reaches (tokens d.prefix) d.spot.token p
  moved c d p e r =
      subst
      (λ t. Reaches (tokens d.prefix) t p)
      (ap (λ s. s.token) e.spot)
      (subst (λ f. Reaches (tokens f) c.spot.token p) e.prefix r)

  never_reached : (c d : Cut text) (p : Placed) → SameCut c d → Breaks (tokens d.prefix) d.spot.token → Reaches (tokens c.prefix) c.spot.token p → ⊥
  never_reached c d p e b r = breaks_reaches (tokens d.prefix) d.spot.token p b (moved c d p e r)

  one_number : (c d : Cut text) (p q : Placed) → SameCut c d → Reaches (tokens c.prefix) c.spot.token p → Reaches (tokens d.prefix) d.spot.token q → p ≡ q
  one_number c d p q e r s = one_reached (tokens d.prefix) d.spot.token p q (moved c d p e r) s

  number_or_depth : (c d : Cut text) (p q : Placed) → SameCut c d → Reaches (tokens c.prefix) c.spot.token p → (IsInRange p → ⊥) → Reaches (tokens d.prefix) d.spot.token q → 128 < nesting_of q → ⊥
  number_or_depth c d p q e r h s l =
      not_deep (tokens c.prefix) c.spot.token p r h (subst (λ z. 128 < nesting_of z) (sym (one_number c d p q e r s)) l)

  one_answer_each : (x y : Result trees.Formula ParseFault) → HasReason text x → HasReason text y → x ≡ y
  one_answer_each x y (to_the_end d a e) (to_the_end f b h) = sym e ∙ (ap answer_of (one_derivation d f (a.derived_is ∙ sym b.derived_is)) ∙ h)
  one_answer_each x y (to_the_end d a e) (at_break c b h) = absurd (whole_stops text d c a (breaks_stop _ _ b))
  one_answer_each x y (to_the_end d a e) (at_number c p r n h) = absurd (whole_stops text d c a (number_stops _ _ p r n))
  one_answer_each x y (to_the_end d a e) (at_depth c p r n h) = absurd (whole_stops text d c a (depth_stops _ _ p r n))
  one_answer_each x y (at_break c b h) (to_the_end d a e) = absurd (whole_stops text d c a (breaks_stop _ _ b))
  one_answer_each x y (at_number c p r n h) (to_the_end d a e) = absurd (whole_stops text d c a (number_stops _ _ p r n))
  one_answer_each x y (at_depth c p r n h) (to_the_end d a e) = absurd (whole_stops text d c a (depth_stops _ _ p r n))
  one_answer_each x y (at_break c b e) (at_break d a h) =
      let s = same_cut text c d (breaks_stop _ _ b) (breaks_stop _ _ a) in
      sym e ∙ (ap (λ z. Err (faults.Syntax z.at)) s.spot ∙ h)
  one_answer_each x y (at_break c b e) (at_number d p r n h) =
      absurd (never_reached d c p (same_cut text d c (number_stops _ _ p r n) (breaks_stop _ _ b)) b r)
  one_answer_each x y (at_break c b e) (at_depth d p r n h) = absurd (never_reached d c p (same_cut text d c (depth_stops _ _ p r n) (breaks_stop _ _ b)) b r)
  one_answer_each x y (at_number d p r n h) (at_break c b e) =
      absurd (never_reached d c p (same_cut text d c (number_stops _ _ p r n) (breaks_stop _ _ b)) b r)
  one_answer_each x y (at_depth d p r n h) (at_break c b e) = absurd (never_reached d c p (same_cut text d c (depth_stops _ _ p r n) (breaks_stop _ _ b)) b r)
  one_answer_each x y (at_number c p r n e) (at_number d q s m h) =
      let same = same_cut text c d (number_stops _ _ p r n) (number_stops _ _ q s m) in
      let place = one_number c d p q same r s in
      sym e
      ∙ (ap (λ z. Err (faults.Number (fault_byte z c.spot.at))) place
      ∙ (ap (λ z. Err (faults.Number (fault_byte q z.at))) same.spot ∙ h))
  one_answer_each x y (at_number c p r n e) (at_depth d q s m h) =
      absurd (number_or_depth c d p q (same_cut text c d (number_stops _ _ p r n) (depth_stops _ _ q s m)) r n s m)
  one_answer_each x y (at_depth d q s m h) (at_number c p r n e) =
      absurd (number_or_depth c d p q (same_cut text c d (number_stops _ _ p r n) (depth_stops _ _ q s m)) r n s m)
  one_answer_each x y (at_depth c p r n e) (at_depth d q s m h) =
      let same = same_cut text c d (depth_stops _ _ p r n) (depth_stops _ _ q s m) in
      sym e ∙ (ap (λ z. Err (faults.Depth z.at)) same.spot ∙ h)

pub one_answer_of : (text : List ℕ) (f g : Result Tree ParseFault) → IsOfTheText f → IsOfTheText g → Parses text f → Parses text g → answer_view f ≡ answer_view g
one_answer_of text f g i j p q = one_answer_each text (answer_view f) (answer_view g) (reason_of text f i p) (reason_of text g j q)

-- the derivation of tokens that have a tree
reads_derived : (ts : List Token) (f : trees.Formula) → Reads ts f → WholeDerived ts f None
reads_derived ts f r = whole_derived ts f None (record { text = r.text; derives = r.derives; tree_is = r.tree_is; flaw_is = r.flawless })

pub one_tree_of : (ts : List Token) (f g : trees.Formula) → Reads ts f → Reads ts g → f ≡ g
one_tree_of ts f g r q =
    let a = reads_derived ts f r in
    let b = reads_derived ts g q in
    sym a.tree_is ∙ (ap tree_of (one_derivation a.text b.text (a.derives.derived_is ∙ sym b.derives.derived_is)) ∙ b.tree_is)
