use Rattle.std.proofs.Common.{◌≡◌, ℕ, List, [], ◌∷◌, ◌++◌, take, length, get_or, sym, ap, ◌∙◌, subst, arith}
use Rattle.std.proofs.lemmas.List.{append-nil}
use Rattle.std.proofs.lemmas.Result.{err_from_is_err_and}
use Rattle.digit_tuple.specs.KeyParts.{AreEnds, parts_from}
use Rattle.digit_tuple.proofs.KeyPartLemmas.{AreEnds-kept, AreEnds-last, AreEnds-push, parts_from-kept, parts_from-push}
use Rattle.digit_tuple.proofs.key_arena.KeyArena.push.Goals as goal

pub invariant_of-self : goal.invariant_of-self
invariant_of-self c =
    let numbers = c.self.inside.numbers.items in
    let ends = c.self.inside.ends in
    let used = c.start-used.result in
    let count : c.len.result ≡ length ends = c.len.ensures.len in
    let last : used ≡ get_or (0 ∷ ends) (length ends) 0 = c.start-used.ensures ∙ ap (λ n. get_or (0 ∷ ends) n 0) count in
    let kept : c.extend_from_slice.new.self.items ≡ take used numbers ++ [] = c.in_err-extend_from_slice.ensures.items ∙ c.truncate.ensures.items ∙ sym (append-nil (take used numbers)) in
    subst (λ (ns : List ℕ). AreEnds (length ns) 0 ends) (sym kept) (AreEnds-kept numbers [] 0 used ends c.self.invariant last)

pub returns-in_err-extend_from_slice-clause-err : goal.returns-in_err-extend_from_slice-clause-err
returns-in_err-extend_from_slice-clause-err c =
    let numbers = c.self.inside.numbers.items in
    let ends = c.self.inside.ends in
    let used = c.start-used.result in
    let p = err_from_is_err_and c.from_residual.result c.from_residual.ensures.1 in
    let count : c.len.result ≡ length ends = c.len.ensures.len in
    let last : used ≡ get_or (0 ∷ ends) (length ends) 0 = c.start-used.ensures ∙ ap (λ n. get_or (0 ∷ ends) n 0) count in
    let kept : c.extend_from_slice.new.self.items ≡ take used numbers ++ [] = c.in_err-extend_from_slice.ensures.items ∙ c.truncate.ensures.items ∙ sym (append-nil (take used numbers)) in
    rw p.1 (ap (λ (ns : List ℕ). parts_from ns 0 ends) kept ∙ parts_from-kept numbers [] 0 used ends c.self.invariant (omega (arith, last)) (omega (arith, last, AreEnds-last (length numbers) 0 ends c.self.invariant)) ∙ c.self.view_is)

pub invariant_of-self-in_err-push : goal.invariant_of-self-in_err-push
invariant_of-self-in_err-push c =
    let numbers = c.self.inside.numbers.items in
    let ends = c.self.inside.ends in
    let key = c.args.key.now in
    let used = c.start-used.result in
    let count : c.len.result ≡ length ends = c.len.ensures.len in
    let last : used ≡ get_or (0 ∷ ends) (length ends) 0 = c.start-used.ensures ∙ ap (λ n. get_or (0 ∷ ends) n 0) count in
    let grown : c.extend_from_slice.new.self.items ≡ take used numbers ++ key = c.in_ok-extend_from_slice.ensures.items ∙ ap (λ (ns : List ℕ). ns ++ key) c.truncate.ensures.items in
    let same : c.push.new.self ≡ ends = c.in_err-push.ensures.err in
    subst (λ (es : List ℕ). AreEnds (length c.extend_from_slice.new.self.items) 0 es) (sym same)
    (subst (λ (ns : List ℕ). AreEnds (length ns) 0 ends) (sym grown) (AreEnds-kept numbers key 0 used ends c.self.invariant last))

pub returns-in_err-push-clause-err : goal.returns-in_err-push-clause-err
returns-in_err-push-clause-err c =
    let numbers = c.self.inside.numbers.items in
    let ends = c.self.inside.ends in
    let key = c.args.key.now in
    let used = c.start-used.result in
    let p = err_from_is_err_and c.from_residual-in_err-push.result c.from_residual-in_err-push.ensures.1 in
    let count : c.len.result ≡ length ends = c.len.ensures.len in
    let last : used ≡ get_or (0 ∷ ends) (length ends) 0 = c.start-used.ensures ∙ ap (λ n. get_or (0 ∷ ends) n 0) count in
    let grown : c.extend_from_slice.new.self.items ≡ take used numbers ++ key = c.in_ok-extend_from_slice.ensures.items ∙ ap (λ (ns : List ℕ). ns ++ key) c.truncate.ensures.items in
    let same : c.push.new.self ≡ ends = c.in_err-push.ensures.err in
    rw p.1 (ap (λ (ns : List ℕ). parts_from ns 0 c.push.new.self) grown ∙ ap (parts_from (take used numbers ++ key) 0) same
    ∙ parts_from-kept numbers key 0 used ends c.self.invariant (omega (arith, last)) (omega (arith, last, AreEnds-last (length numbers) 0 ends c.self.invariant)) ∙ c.self.view_is)

pub invariant_of-self-2 : goal.invariant_of-self-2
invariant_of-self-2 c =
    let numbers = c.self.inside.numbers.items in
    let ends = c.self.inside.ends in
    let key = c.args.key.now in
    let used = c.start-used.result in
    let end = c.len-2.result in
    let count : c.len.result ≡ length ends = c.len.ensures.len in
    let last : used ≡ get_or (0 ∷ ends) (length ends) 0 = c.start-used.ensures ∙ ap (λ n. get_or (0 ∷ ends) n 0) count in
    let grown : c.extend_from_slice.new.self.items ≡ take used numbers ++ key = c.in_ok-extend_from_slice.ensures.items ∙ ap (λ (ns : List ℕ). ns ++ key) c.truncate.ensures.items in
    let pushed : c.push.new.self ≡ ends ++ end ∷ [] = c.in_ok-push.ensures.ok in
    let total : end ≡ length (take used numbers ++ key) = omega (arith, c.len-2.ensures, c.extend_from_slice.new.self.ok, ap length grown) in
    let kept : AreEnds (length (take used numbers ++ key)) 0 ends = AreEnds-kept numbers key 0 used ends c.self.invariant last in
    subst (λ (es : List ℕ). AreEnds (length c.extend_from_slice.new.self.items) 0 es) (sym pushed)
    (subst (λ (n : ℕ). AreEnds n 0 (ends ++ end ∷ [])) (total ∙ ap length (sym grown))
    (AreEnds-push (length (take used numbers ++ key)) 0 end ends kept (omega (arith, total, AreEnds-last (length (take used numbers ++ key)) 0 ends kept))))

pub returns-clause-ok : goal.returns-clause-ok
returns-clause-ok c =
    let numbers = c.self.inside.numbers.items in
    let ends = c.self.inside.ends in
    let key = c.args.key.now in
    let used = c.start-used.result in
    let end = c.len-2.result in
    let count : c.len.result ≡ length ends = c.len.ensures.len in
    let last : used ≡ get_or (0 ∷ ends) (length ends) 0 = c.start-used.ensures ∙ ap (λ n. get_or (0 ∷ ends) n 0) count in
    let grown : c.extend_from_slice.new.self.items ≡ take used numbers ++ key = c.in_ok-extend_from_slice.ensures.items ∙ ap (λ (ns : List ℕ). ns ++ key) c.truncate.ensures.items in
    let pushed : c.push.new.self ≡ ends ++ end ∷ [] = c.in_ok-push.ensures.ok in
    let total : end ≡ length (take used numbers ++ key) = omega (arith, c.len-2.ensures, c.extend_from_slice.new.self.ok, ap length grown) in
    ap (λ (ns : List ℕ). parts_from ns 0 c.push.new.self) grown ∙ ap (parts_from (take used numbers ++ key) 0) pushed
    ∙ parts_from-push numbers key 0 used end ends c.self.invariant last total
    ∙ ap (λ (ks : List (List ℕ)). ks ++ key ∷ []) c.self.view_is
