use Rattle.std.proofs.Common.{◌≡◌, ◌+◌, ◌++◌, ◌∷◌, [], ℕ, List, Bool, true, false, Vec, Global, length, take, get_or, sym, ap, ◌∙◌, subst, arith}
use Rattle.std.proofs.lemmas.List.{take_more, length-take}
use Rattle.pad_rename.specs.ZeroClosure.{AreFlagged}
use Rattle.pad_rename.proofs.ZeroClosureLemmas.{AreFlagged-take, AreFlagged-skip}
use Rattle.pad_rename.proofs.zero_closure.flagged.Goals as goal
use Rattle.pad_rename.proofs.zero_closure.flagged.Goals.{then-flag+in_ok-push, else-flag}

pub loop-place-preserved : goal.loop-place-preserved
loop-place-preserved c =
    let flags = c.args.flags.now in
    let place = c.loop-place.place in
    let set = c.loop-place.set.items in
    let more : take (place + 1) flags ≡ take place flags ++ get_or flags place false ∷ [] = take_more flags place false c.loop-place-test.true in
    let size : length (take place flags) ≡ place = omega (arith, length-take place flags) in
    elim c.if-flag.branch [
      | then-flag+in_ok-push w ↦
          let is : take (place + 1) flags ≡ take place flags ++ true ∷ [] = more ∙ ap (λ b. take place flags ++ b ∷ []) w.if-flag.true in
          let now : c.if-flag.set.items ≡ set ++ length (take place flags) ∷ [] = ap (λ (v : Vec ℕ Global). v.items) w.set-is ∙ w.in_ok-push.ensures.items ∙ ap (λ n. set ++ n ∷ []) (sym size) in
          subst (λ (s : List ℕ). AreFlagged (take (place + 1) flags) s) (sym now) (subst (λ (fs : List Bool). AreFlagged fs (set ++ length (take place flags) ∷ [])) (sym is) (AreFlagged-take (take place flags) set c.loop-place.invariant))
      | else-flag w ↦
          let is : take (place + 1) flags ≡ take place flags ++ false ∷ [] = more ∙ ap (λ b. take place flags ++ b ∷ []) w.if-flag.false in
          let now : c.if-flag.set.items ≡ set = ap (λ (v : Vec ℕ Global). v.items) w.set-is in
          subst (λ (s : List ℕ). AreFlagged (take (place + 1) flags) s) (sym now) (subst (λ (fs : List Bool). AreFlagged fs set) (sym is) (AreFlagged-skip (take place flags) set c.loop-place.invariant))
    ]
