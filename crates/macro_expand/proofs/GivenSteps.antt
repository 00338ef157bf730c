-- The arguments of a call, expanded one after another.
use Rattle.std.proofs.Common.{◌≡◌, refl, sym, ap, ◌∙◌, ℕ, ◌<◌, List, [], ◌∷◌, ◌++◌, length, drop, map, get_or, Result, Ok, Err, arith}
use Rattle.std.specs.Borrow.{Bor}
use Rattle.macro_expand.specs.declared.fault.MacroFault.{MacroFault}
use Rattle.text_grammar.specs.Results.{◌>>=◌}
use Rattle.macro_expand.specs.Expansion.{each, Expanded, Given, OfTexts, expand_argument}

-- the arguments with one more
abbrev pub given_more : Given → Expanded → Given
given_more done new = record { texts = done.texts ++ new.bytes ∷ []; calls = new.calls }

bound : {W : Type 0} (r : Result Expanded MacroFault) (done : Given) (f : Given → Result W MacroFault) → ((r >>= λ new. Ok (given_more done new)) >>= f) ≡ (r >>= λ new. f (given_more done new))
bound (Ok x) done f = refl
bound (Err e) done f = refl

module _ (of_text : OfTexts) where
  -- what some arguments give
  abbrev pub given_by : List (Bor (List ℕ)) → Given → Result Given MacroFault
  given_by arguments done = each (expand_argument of_text) (map (λ a. a.now) arguments) done

  -- the first argument, and those after it
  next : (arguments : List (Bor (List ℕ))) (first : List ℕ) (other : Bor (List ℕ)) (done : Given) → 0 < length arguments → first ≡ (get_or arguments 0 other).now
      → given_by arguments done ≡ (of_text first done.calls >>= λ new. given_by (drop 1 arguments) (given_more done new))
  next [] first other done some is = absurd (omega arith)
  next (a ∷ arguments) first other done some is = rw is (bound (of_text a.now done.calls) done (given_by arguments))

  -- the first one is refused
  pub argument_refused : (arguments : List (Bor (List ℕ))) (first : List ℕ) (other : Bor (List ℕ)) (done : Given) (e : MacroFault) → 0 < length arguments → first ≡ (get_or arguments 0 other).now
      → of_text first done.calls ≡ Err e → given_by arguments done ≡ Err e
  argument_refused arguments first other done e some is h = next arguments first other done some is ∙ ap (λ r. r >>= λ new. given_by (drop 1 arguments) (given_more done new)) h

  -- the first one is expanded
  pub argument_expanded : (arguments others : List (Bor (List ℕ))) (first : List ℕ) (other : Bor (List ℕ)) (done : Given) (new : Expanded) (texts : List (List ℕ)) → 0 < length arguments → first ≡ (get_or arguments 0 other).now → others ≡ drop 1 arguments
      → texts ≡ done.texts ++ new.bytes ∷ [] → of_text first done.calls ≡ Ok new → given_by arguments done ≡ given_by others (record { texts = texts; calls = new.calls })
  argument_expanded arguments others first other done new texts some is rest more h =
      next arguments first other done some is ∙ (ap (λ r. r >>= λ new'. given_by (drop 1 arguments) (given_more done new')) h
      ∙ (ap (λ xs. given_by xs (given_more done new)) (sym rest) ∙ ap (λ ts. given_by others (record { texts = ts; calls = new.calls })) (sym more)))
