use Rattle.std.proofs.Common.{◌≡◌, ◌<◌, ◌++◌, ℕ, List, Bool, length, sym, ap, ◌∙◌, subst, arith}
use Rattle.std.specs.List.{All}
use Rattle.std.proofs.lemmas.Result.{IfOk-weaker}
use Rattle.digit_tuple.specs.PartIndex.{letters_with}
use Rattle.project_close.specs.Image.{AreFlagsAt}
use Rattle.project_close.proofs.FlagLemmas.{AreFlagsAt-zeros, letters_with-below}
use Rattle.project_close.proofs.image.zero_flags.Goals as goal

pub flags_at-requires : goal.flags_at-requires
flags_at-requires c =
    let parts = c.args.parts.now in
    let zeros : c.deref.result.now ≡ letters_with parts 0 = c.deref.ensures.value ∙ c.in_ok-add_letters.ensures ∙ ap (λ (ls : List ℕ). ls ++ letters_with parts 0) c.new-zeros.ensures.items in
    subst (λ (ls : List ℕ). All (λ place. place < c.letters.result) ls) (sym zeros) (subst (λ n. All (λ place. place < n) (letters_with parts 0)) (sym c.letters.ensures) (letters_with-below parts 0))

pub returns : goal.returns
returns c =
    let parts = c.args.parts.now in
    let zeros : c.deref.result.now ≡ letters_with parts 0 = c.deref.ensures.value ∙ c.in_ok-add_letters.ensures ∙ ap (λ (ls : List ℕ). ls ++ letters_with parts 0) c.new-zeros.ensures.items in
    IfOk-weaker c.flags_at.result _ _
    (λ flags are. AreFlagsAt-zeros parts flags.items (subst (λ (ls : List ℕ). AreFlagsAt (length parts) flags.items ls (length ls)) zeros (subst (λ n. AreFlagsAt n flags.items c.deref.result.now (length c.deref.result.now)) c.letters.ensures are)))
    c.flags_at.ensures
