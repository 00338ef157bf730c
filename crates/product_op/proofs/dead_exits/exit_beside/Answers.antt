use Rattle.std.proofs.Common.{◌≡◌, ◌<◌, ◌++◌, ℕ, List, Option, None, Some, MatchOption, length, get_or, sym, ap, ◌∙◌, subst, arith}
use Rattle.std.specs.List.{All, Contains}
use Rattle.std.proofs.lemmas.List.{get_or_default}
use Rattle.std.proofs.lemmas.List.Elements.{All-contains}
use Rattle.digit_tuple.specs.PartIndex.{letters_with}
use Rattle.digit_tuple.proofs.PartIndexLemmas.{Contains-letters, Contains-from_letters}
use Rattle.product_op.specs.DeadExits.{LeadsOut}
use Rattle.product_op.specs.Readings.{part_read, reading_in}
use Rattle.product_op.proofs.dead_exits.exit_beside.Goals as goal

pub first_exit-requires-clause-letters : goal.first_exit-requires-clause-letters
first_exit-requires-clause-letters c k d within =
    let found = c.deref.result.now in
    let a = get_or found k d in
    let there : Contains found a = (k, within, get_or_default found k a d within) in
    omega (arith, (Contains-from_letters c.args.own.now.parts c.args.part a (subst (λ ls. Contains ls a) (c.deref.ensures.value ∙ c.in_ok-add_letters.ensures ∙ ap (λ xs. xs ++ letters_with c.args.own.now.parts c.args.part) c.clear.ensures.items) there)).0, c.requires.parts)

pub returns : goal.returns
returns c = by c.first_exit.result c.first_exit.ensures
  where
    parts : List ℕ
    parts = c.args.own.now.parts

    found : List ℕ
    found = c.deref.result.now

    Out : ℕ → Type 0
    Out a = LeadsOut (reading_in c.args.other.now.reader.now) c.args.other.now.state a

    is : found ≡ letters_with parts c.args.part
    is = c.deref.ensures.value ∙ c.in_ok-add_letters.ensures ∙ ap (λ xs. xs ++ letters_with parts c.args.part) c.clear.ensures.items

    by : (o : Option ℕ) → MatchOption o (All (λ a. ¬ Out a) found) (λ a. Contains found a × Out a)
        → MatchOption o ((a : ℕ) → a < length parts → part_read (reading_in c.args.own.now) a ≡ c.args.part → ¬ Out a) (λ a. (a < length parts) × (part_read (reading_in c.args.own.now) a ≡ c.args.part) × Out a)
    by None none = λ a small has out. All-contains (λ e. ¬ Out e) found a none (subst (λ ls. Contains ls a) (sym is) (Contains-letters parts c.args.part a small has)) out
    by (Some a) some = let has = Contains-from_letters parts c.args.part a (subst (λ ls. Contains ls a) is some.0) in (has.0, has.1, some.1)
