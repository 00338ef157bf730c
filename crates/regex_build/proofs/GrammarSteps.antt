-- The symbols of a derivation after others, and the expressions that then wait.
use Rattle.std.proofs.Common.{◌≡◌, refl, sym, ◌∙◌, ap, List, [], ◌∷◌, ◌++◌}
use Rattle.std.specs.Prelude.{ℤ, pos}
use Rattle.regex_build.specs.declared.postfix_symbol.PostfixSymbol.{PostfixSymbol}
use Rattle.regex_build.specs.declared.postfix_symbol.PostfixSymbol.TheVariants as kinds
use Rattle.regex_build.specs.Expression.{Expression}
use Rattle.regex_build.specs.Postfix.{after_symbol, stacked, tree_of, IsPostfix}
use Rattle.regex_build.specs.Grammar.{Prim, Post, Cat, Alt, digit, any, empty, group, letter, bare, star, plus, optional, first, follow, only, either, list_of, prim_tree, post_tree, cat_tree, alt_tree}

abbrev mutual
  pub prim_on : Prim → List PostfixSymbol → List PostfixSymbol
  prim_on (digit d) ss = ss ++ kinds.Letter (pos d ∷ []) ∷ []
  prim_on any ss = ss ++ kinds.Any ∷ []
  prim_on empty ss = ss ++ kinds.Empty ∷ []
  prim_on (group a) ss = alt_on a ss
  prim_on (letter ns) ss = ss ++ kinds.Letter (list_of ns) ∷ []

  pub post_on : Post → List PostfixSymbol → List PostfixSymbol
  post_on (bare p) ss = prim_on p ss
  post_on (star p) ss = post_on p ss ++ kinds.Star ∷ []
  post_on (plus p) ss = post_on p ss ++ kinds.Plus ∷ []
  post_on (optional p) ss = post_on p ss ++ kinds.Optional ∷ []

  pub cat_on : Cat → List PostfixSymbol → List PostfixSymbol
  cat_on (first p) ss = post_on p ss
  cat_on (follow c p) ss = post_on p (cat_on c ss) ++ kinds.Follow ∷ []

  pub alt_on : Alt → List PostfixSymbol → List PostfixSymbol
  alt_on (only c) ss = cat_on c ss
  alt_on (either a c) ss = cat_on c (alt_on a ss) ++ kinds.Either ∷ []

stacked-push : (st : List (Expression (List ℤ))) (ss : List PostfixSymbol) (x : PostfixSymbol) → stacked st (ss ++ x ∷ []) ≡ after_symbol (stacked st ss) x
stacked-push st [] x = refl
stacked-push st (s ∷ ss) x = stacked-push (after_symbol st s) ss x

-- a symbol after symbols after which a stack waits
pushes : (ss : List PostfixSymbol) (x : PostfixSymbol) (st : List (Expression (List ℤ))) → stacked [] ss ≡ st → stacked [] (ss ++ x ∷ []) ≡ after_symbol st x
pushes ss x st e = stacked-push [] ss x ∙ ap (λ w. after_symbol w x) e

mutual
  prim_waits : (p : Prim) (ss : List PostfixSymbol) → stacked [] (prim_on p ss) ≡ prim_tree p ∷ stacked [] ss
  prim_waits (digit d) ss = pushes ss (kinds.Letter (pos d ∷ [])) (stacked [] ss) refl
  prim_waits any ss = pushes ss kinds.Any (stacked [] ss) refl
  prim_waits empty ss = pushes ss kinds.Empty (stacked [] ss) refl
  prim_waits (group a) ss = alt_waits a ss
  prim_waits (letter ns) ss = pushes ss (kinds.Letter (list_of ns)) (stacked [] ss) refl

  post_waits : (p : Post) (ss : List PostfixSymbol) → stacked [] (post_on p ss) ≡ post_tree p ∷ stacked [] ss
  post_waits (bare p) ss = prim_waits p ss
  post_waits (star p) ss = pushes (post_on p ss) kinds.Star (post_tree p ∷ stacked [] ss) (post_waits p ss)
  post_waits (plus p) ss = pushes (post_on p ss) kinds.Plus (post_tree p ∷ stacked [] ss) (post_waits p ss)
  post_waits (optional p) ss = pushes (post_on p ss) kinds.Optional (post_tree p ∷ stacked [] ss) (post_waits p ss)

  cat_waits : (c : Cat) (ss : List PostfixSymbol) → stacked [] (cat_on c ss) ≡ cat_tree c ∷ stacked [] ss
  cat_waits (first p) ss = post_waits p ss
  cat_waits (follow c p) ss =
      pushes (post_on p (cat_on c ss)) kinds.Follow (post_tree p ∷ cat_tree c ∷ stacked [] ss)
      (post_waits p (cat_on c ss) ∙ ap (λ w. post_tree p ∷ w) (cat_waits c ss))

  alt_waits : (a : Alt) (ss : List PostfixSymbol) → stacked [] (alt_on a ss) ≡ alt_tree a ∷ stacked [] ss
  alt_waits (only c) ss = cat_waits c ss
  alt_waits (either a c) ss =
      pushes (cat_on c (alt_on a ss)) kinds.Either (cat_tree c ∷ alt_tree a ∷ stacked [] ss)
      (cat_waits c (alt_on a ss) ∙ ap (λ w. cat_tree c ∷ w) (alt_waits a ss))

-- the symbols of a derivation are those of its expression
pub symbols_tree : (a : Alt) → tree_of (alt_on a []) ≡ alt_tree a
symbols_tree a = ap Rattle.regex_build.specs.Postfix.top_of (alt_waits a [])

pub symbols_postfix : (a : Alt) → IsPostfix (alt_on a [])
symbols_postfix a = alt_waits a [] ∙ ap (λ e. e ∷ []) (sym (symbols_tree a))
