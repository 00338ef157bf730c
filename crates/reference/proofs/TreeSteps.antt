-- The trees that wait, while the symbols of an expression are taken.
use Rattle.std.proofs.Common.{◌≡◌, ◌++◌, ◌∷◌, [], ◌+◌, ◌<◌, ◌≤◌, ℕ, ℤ, List, Option, Some, length, take, refl, sym, ap, ◌∙◌, arith}
use Rattle.std.specs.Prelude.{slice_index_or}
use Rattle.std.specs.Option.{option_to_list}
use Rattle.std.proofs.lemmas.List.{take_more, take_all}
use Rattle.std.proofs.lemmas.List.Sums.{fold-append}
use Rattle.regex_build.specs.Expression.{Expression}
use Rattle.regex_build.specs.declared.postfix_symbol.PostfixSymbol.{PostfixSymbol}
use Rattle.regex_build.specs.declared.postfix_symbol.PostfixSymbol.TheVariants.{Either, Follow}
use Rattle.regex_build.specs.Postfix.{after_symbol, stacked, tree_of, IsPostfix}
use Rattle.reference.specs.declared.tree.Tree.{Tree}
use Rattle.reference.specs.Trees.{expression, waiting_in}

one_more : (trees : List Tree) (tree : Tree) → waiting_in (trees ++ tree ∷ []) ≡ expression tree ∷ waiting_in trees
one_more trees tree = fold-append (λ (es : List (Expression (List ℤ))) (t : Tree). expression t ∷ es) [] trees (tree ∷ [])

-- where fewer than two wait, a sign between two is passed over
pub passes_either : (old new : List Tree) → length old < 2 → new ≡ old → waiting_in new ≡ after_symbol (waiting_in old) Either
passes_either [] new few is = rw is refl
passes_either (t ∷ []) new few is = rw is refl
passes_either (t ∷ s ∷ ts) new few is = absurd (omega (arith, few))

pub passes_follow : (old new : List Tree) → length old < 2 → new ≡ old → waiting_in new ≡ after_symbol (waiting_in old) Follow
passes_follow [] new few is = rw is refl
passes_follow (t ∷ []) new few is = rw is refl
passes_follow (t ∷ s ∷ ts) new few is = absurd (omega (arith, few))

stacked-push : (es : List (Expression (List ℤ))) (symbols : List PostfixSymbol) (symbol : PostfixSymbol) → stacked es (symbols ++ symbol ∷ []) ≡ after_symbol (stacked es symbols) symbol
stacked-push es [] symbol = refl
stacked-push es (s ∷ symbols) symbol = stacked-push (after_symbol es s) symbols symbol

pub next_waits : (symbols : List PostfixSymbol) (i : ℕ) (symbol : PostfixSymbol) (old new : List Tree) → i < length symbols → symbol ≡ slice_index_or symbols i symbol → waiting_in old ≡ stacked [] (take i symbols) → waiting_in new ≡ after_symbol (waiting_in old) symbol
    → waiting_in new ≡ stacked [] (take (i + 1) symbols)
next_waits symbols i symbol old new l e waits goes =
    let one : take (i + 1) symbols ≡ take i symbols ++ symbol ∷ [] = take_more symbols i symbol l ∙ ap (λ s. take i symbols ++ s ∷ []) (sym e) in
    goes ∙ (ap (λ (es : List (Expression (List ℤ))). after_symbol es symbol) waits ∙ sym (ap (stacked []) one ∙ stacked-push [] (take i symbols) symbol))

-- at the end the tree of the whole expression waits alone
whole_waits : (symbols : List PostfixSymbol) (i : ℕ) (trees : List Tree) → IsPostfix symbols → length symbols ≤ i → waiting_in trees ≡ stacked [] (take i symbols) → waiting_in trees ≡ tree_of symbols ∷ []
whole_waits symbols i trees postfix l waits = waits ∙ (ap (stacked []) (take_all i symbols l) ∙ postfix)

some_tree : (e : Expression (List ℤ)) (trees : List Tree) → waiting_in trees ≡ e ∷ [] → 0 < length trees
some_tree e [] waits = let apart : 0 ≡ 1 = ap length waits in absurd (omega (arith, apart))
some_tree e (t ∷ ts) waits = omega arith

pub some_waits : (symbols : List PostfixSymbol) (i : ℕ) (trees : List Tree) → IsPostfix symbols → length symbols ≤ i → waiting_in trees ≡ stacked [] (take i symbols) → 0 < length trees
some_waits symbols i trees postfix l waits = some_tree (tree_of symbols) trees (whole_waits symbols i trees postfix l waits)

pub the_tree : (symbols : List PostfixSymbol) (i : ℕ) (trees others : List Tree) (o : Option Tree) (tree : Tree) → IsPostfix symbols → length symbols ≤ i → waiting_in trees ≡ stacked [] (take i symbols)
    → trees ≡ others ++ option_to_list o → o ≡ Some tree → expression tree ≡ tree_of symbols
the_tree symbols i trees others o tree postfix l waits splits is =
    let last : trees ≡ others ++ tree ∷ [] = splits ∙ ap (λ (x : Option Tree). others ++ option_to_list x) is in
    let alone : expression tree ∷ waiting_in others ≡ tree_of symbols ∷ [] = sym (one_more others tree) ∙ (sym (ap waiting_in last) ∙ whole_waits symbols i trees postfix l waits) in
    cc
