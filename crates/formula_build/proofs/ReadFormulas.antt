-- Formulas that are read from texts are formed, and known where all that they mention is.
use Rattle.std.specs.List.{AllByRecursion, fold, flat_map}
use Rattle.std.specs.Str.{bytes_eq}
use Rattle.std.proofs.Common.{◌≡◌, ℕ, Bool, true, false, ◌||◌, if◌then◌else◌, List, [], ◌∷◌, ◌++◌, refl, sym, ap, subst}
use Rattle.std.proofs.lemmas.Bool.{false≢true}
use Rattle.std.proofs.lemmas.Slice.Eq.{bytes_eq-Decides}
use Rattle.formula_parse.specs.Tokens.{Name}
use Rattle.text_grammar.specs.Spots.{tokens}
use Rattle.formula_parse.specs.Spots.{spots}
use Rattle.formula_parse.specs.Trees as trees
use Rattle.formula_parse.specs.Trees.{Names, no_names, names}
use Rattle.formula_parse.specs.Building.{chained, under_marks}
use Rattle.formula_parse.specs.Formulas.{Atom, compare, words, word_letter, letter_word, call_none, call, WrittenFormula, imp, iff, Imp, chain, implies, Chain, operand, joined, Operand, marked, Core, negated, quantified, grouped, atom}
use Rattle.formula_parse.specs.FormulaTrees.{fact, marks_system, formula_system, imp_system, chain_system, operand_system, core_system, before_imp, last_imp, before_chain, last_chain, before_operand, last_operand, operand_tree, core_tree, default_system}
use Rattle.formula_parse.specs.Grammar.{Reads}
use Rattle.formula_plan.proofs.LinearLemmas.{trees_are_linear}
use Rattle.formula_resolve.specs.FirstMentions.{is_same_file, has, with_new, each_once, mentioned_files, first_files, mentioned_systems, first_systems}
use Rattle.formula_resolve.specs.Headers.{Headers}
use Rattle.formula_resolve.specs.Mentions.{marks, fact_mentions, mentions, mentions_among}
use Rattle.formula_resolve.specs.declared.file.File.{File}
use Rattle.formula_resolve.specs.declared.file.File.TheVariants.{Automaton, Word}
use Rattle.formula_resolve.specs.declared.mention.Mention.{Mention}
use Rattle.formula_resolve.specs.declared.mention.Mention.TheVariants.{Marked, Called, Indexed}
use Rattle.formula_build.specs.KnownNames.{IsFileIn, HasSystem, IsKnownFact, AreKnownIn, AreKnownAmong}
use Rattle.plan_relations.specs.Libraries.{LibraryValue}
use Rattle.formula_build.specs.Solutions.{IsFormed}
use Rattle.plan_relations.proofs.AllLemmas.{all_first, all_second}
use Rattle.formula_build.proofs.ParsedNames.{parsed_named}

-- a formula that is read is formed
pub read_formed : (text : List ℕ) (f : trees.Formula) → Reads (tokens (spots text)) f → IsFormed f
read_formed text f reads = (trees_are_linear (tokens (spots text)) f reads, parsed_named text f reads)

-- what all of a list satisfy, where each is listed once
module _ {X : Type 0} (same : X → X → Bool) (same_is : (x y : X) → same x y ≡ true → x ≡ y) (P : X → Type 0) where
  has_one : (ys : List X) (x : X) → has same ys x ≡ true → AllByRecursion P ys → P x
  has_one [] x there all = absurd (false≢true there)
  has_one (y ∷ ys) x there all = by (same y x) refl there (λ later. has_one ys x later all.1)
    where
      by : (b : Bool) → same y x ≡ b → (b || has same ys x) ≡ true → (has same ys x ≡ true → P x) → P x
      by true is found rest = subst P (same_is y x is) all.0
      by false is found rest = rest found

  all_then : (ys xs : List X) → AllByRecursion P (fold (with_new same) ys xs) → AllByRecursion P ys × AllByRecursion P xs
  all_then ys [] all = (all, tt)
  all_then ys (x ∷ xs) all = let rest = all_then (with_new same ys x) xs all in by (has same ys x) refl rest.0 rest.1
    where
      by : (b : Bool) → has same ys x ≡ b → AllByRecursion P (if b then ys else ys ++ x ∷ []) → AllByRecursion P xs → AllByRecursion P ys × (P x × AllByRecursion P xs)
      by true there first second = (first, (has_one ys x there first, second))
      by false absent first second = (all_first P ys (x ∷ []) first, ((all_second P ys (x ∷ []) first).0, second))

  once_all : (xs : List X) → AllByRecursion P (each_once same xs) → AllByRecursion P xs
  once_all xs all = (all_then [] xs all).1

pub same_file : (a b : File) → is_same_file a b ≡ true → a ≡ b
same_file (Automaton m) (Automaton n) is = ap Automaton ((bytes_eq-Decides m n).0 is)
same_file (Automaton m) (Word n) is = absurd (false≢true is)
same_file (Word m) (Automaton n) is = absurd (false≢true is)
same_file (Word m) (Word n) is = ap Word ((bytes_eq-Decides m n).0 is)

-- of each element, what all of the joined lists satisfy
each_flat : {X Y : Type 0} (P : Y → Type 0) (g : X → List Y) (xs : List X) → AllByRecursion P (flat_map g xs) → AllByRecursion (λ x. AllByRecursion P (g x)) xs
each_flat P g [] all = tt
each_flat P g (x ∷ xs) all = (all_first P (g x) (flat_map g xs) all, each_flat P g xs (all_second P (g x) (flat_map g xs) all))

module _ (l : LibraryValue) where
  -- the name of a mention means something
  abbrev IsMet : Mention → Type 0
  IsMet (Marked s) = HasSystem l s
  IsMet (Called n k) = IsFileIn l (Automaton n)
  IsMet (Indexed n k) = IsFileIn l (Word n)

  abbrev AreMet : List Mention → Type 0
  AreMet ms = AllByRecursion IsMet ms

  is_met : (h : Headers) (m : Mention) → AllByRecursion (IsFileIn l) (mentioned_files m) → AllByRecursion (HasSystem l) (mentioned_systems h m) → IsMet m
  is_met h (Marked s) files systems = systems.0
  is_met h (Called n k) files systems = files.0
  is_met h (Indexed n k) files systems = files.0

  are_met : (h : Headers) (ms : List Mention) → AllByRecursion (λ (m : Mention). AllByRecursion (IsFileIn l) (mentioned_files m)) ms
      → AllByRecursion (λ (m : Mention). AllByRecursion (HasSystem l) (mentioned_systems h m)) ms → AreMet ms
  are_met h [] files systems = tt
  are_met h (m ∷ ms) files systems = (is_met h m files.0 systems.0, are_met h ms files.1 systems.1)

  all_met : (h : Headers) (ms : List Mention) → AllByRecursion (IsFileIn l) (first_files ms) → AllByRecursion (HasSystem l) (first_systems h ms) → AreMet ms
  all_met h ms files systems =
      are_met h ms (each_flat (IsFileIn l) mentioned_files ms (once_all is_same_file same_file (IsFileIn l) (flat_map mentioned_files ms) files))
      (each_flat (HasSystem l) (mentioned_systems h) ms (once_all bytes_eq (λ m n. (bytes_eq-Decides m n).0) (HasSystem l) (flat_map (mentioned_systems h) ms) systems))

  chained_met : (os : trees.Operands) (f : trees.Formula) → AreMet (mentions (chained os f)) → AreMet (mentions_among os) × AreMet (mentions f)
  chained_met trees.no_operands f met = (tt, met)
  chained_met (trees.operands os g k) f met =
      let prefix = mentions_among (trees.operands os g k) in
      (all_first IsMet prefix (mentions f) met, all_second IsMet prefix (mentions f) met)

  chained_known : (os : trees.Operands) (f : trees.Formula) → AreKnownAmong l os → AreKnownIn l f → AreKnownIn l (chained os f)
  chained_known trees.no_operands f first second = second
  chained_known (trees.operands os g k) f first second = (first, second)

  under_marks_met : (ms : Names) (f : trees.Formula) → AreMet (mentions (under_marks ms f)) → AreMet (marks ms) × AreMet (mentions f)
  under_marks_met no_names f met = (tt, met)
  under_marks_met (names ms n) f met = (all_first IsMet (marks (names ms n)) (mentions f) met, all_second IsMet (marks (names ms n)) (mentions f) met)

  under_marks_known : (ms : Names) (f : trees.Formula) → AreKnownIn l f → AreKnownIn l (under_marks ms f)
  under_marks_known no_names f known = known
  under_marks_known (names ms n) f known = known

  marks_known : (ms : Names) (y : Name) → HasSystem l y → AreMet (marks ms) → HasSystem l (marks_system y ms)
  marks_known no_names y is met = is
  marks_known (names ms n) y is met = (all_second IsMet (marks ms) (Marked n ∷ []) met).0

  atom_known : (a : Atom) (y : Name) → HasSystem l y → AreMet (fact_mentions (fact a)) → IsKnownFact l y (fact a)
  atom_known (compare t e u) y is met = is
  atom_known (words x e z) y is met = (met.0, met.1.0)
  atom_known (word_letter x e d) y is met = met.0
  atom_known (letter_word d e x) y is met = met.0
  atom_known (call_none n) y is met = met.0
  atom_known (call n ts) y is met = met.0

  -- if the system in force before a part is known, so is the one after it
  mutual
    formula_known : (f : WrittenFormula) (y : Name) → HasSystem l y → AreMet (mentions_among (before_imp y f)) → AreMet (mentions (last_imp y f))
        → AreKnownAmong l (before_imp y f) × AreKnownIn l (last_imp y f) × HasSystem l (formula_system y f)
    formula_known (imp i) y is first second =
        let met = chained_met (before_chain y i) (last_chain y i) second in
        let parts = imp_known i y is met.0 met.1 in
        (tt, chained_known (before_chain y i) (last_chain y i) parts.0 parts.1, parts.2)
    formula_known (iff f i) y is first second =
        let prefix = mentions_among (before_imp y f) in
        let before = formula_known f y is (all_first IsMet prefix (mentions (last_imp y f)) first) (all_second IsMet prefix (mentions (last_imp y f)) first) in
        let z = formula_system y f in
        let met = chained_met (before_chain z i) (last_chain z i) second in
        let parts = imp_known i z before.2 met.0 met.1 in
        ((before.0, before.1), chained_known (before_chain z i) (last_chain z i) parts.0 parts.1, parts.2)

    imp_known : (i : Imp) (y : Name) → HasSystem l y → AreMet (mentions_among (before_chain y i)) → AreMet (mentions (last_chain y i))
        → AreKnownAmong l (before_chain y i) × AreKnownIn l (last_chain y i) × HasSystem l (imp_system y i)
    imp_known (chain c) y is first second =
        let met = chained_met (before_operand y c) (last_operand y c) second in
        let parts = chain_known c y is met.0 met.1 in
        (tt, chained_known (before_operand y c) (last_operand y c) parts.0 parts.1, parts.2)
    imp_known (implies i b c) y is first second =
        let prefix = mentions_among (before_chain y i) in
        let before = imp_known i y is (all_first IsMet prefix (mentions (last_chain y i)) first) (all_second IsMet prefix (mentions (last_chain y i)) first) in
        let z = imp_system y i in
        let met = chained_met (before_operand z c) (last_operand z c) second in
        let parts = chain_known c z before.2 met.0 met.1 in
        ((before.0, before.1), chained_known (before_operand z c) (last_operand z c) parts.0 parts.1, parts.2)

    chain_known : (c : Chain) (y : Name) → HasSystem l y → AreMet (mentions_among (before_operand y c)) → AreMet (mentions (last_operand y c))
        → AreKnownAmong l (before_operand y c) × AreKnownIn l (last_operand y c) × HasSystem l (chain_system y c)
    chain_known (operand o) y is first second = let one = operand_known o y is second in (tt, one.0, one.1)
    chain_known (joined c k b o) y is first second =
        let prefix = mentions_among (before_operand y c) in
        let before = chain_known c y is (all_first IsMet prefix (mentions (last_operand y c)) first) (all_second IsMet prefix (mentions (last_operand y c)) first) in
        let last = operand_known o (chain_system y c) before.2 second in
        ((before.0, before.1), last.0, last.1)

    operand_known : (o : Operand) (y : Name) → HasSystem l y → AreMet (mentions (operand_tree y o)) → AreKnownIn l (operand_tree y o) × HasSystem l (operand_system y o)
    operand_known (marked ms c) y is met =
        let z = marks_system y ms in
        let parts = under_marks_met ms (core_tree z c) met in
        let inside = core_known c z (marks_known ms y is parts.0) parts.1 in
        (under_marks_known ms (core_tree z c) inside.0, inside.1)

    core_known : (c : Core) (y : Name) → HasSystem l y → AreMet (mentions (core_tree y c)) → AreKnownIn l (core_tree y c) × HasSystem l (core_system y c)
    core_known (negated o) y is met = operand_known o y is met
    core_known (quantified q f) y is met =
        let split = chained_met (before_imp y f) (last_imp y f) met in
        let parts = formula_known f y is split.0 split.1 in
        (chained_known (before_imp y f) (last_imp y f) parts.0 parts.1, parts.2)
    core_known (grouped f) y is met =
        let split = chained_met (before_imp y f) (last_imp y f) met in
        let parts = formula_known f y is split.0 split.1 in
        (chained_known (before_imp y f) (last_imp y f) parts.0 parts.1, is)
    core_known (atom a) y is met = (atom_known a y is met, is)

-- A formula that is read is known if each file that it mentions, the default system and each system that it mentions are known.
pub read_known : (l : LibraryValue) (h : Headers) (text : List ℕ) (f : trees.Formula) → Reads (tokens (spots text)) f
    → AllByRecursion (IsFileIn l) (first_files (mentions f)) → HasSystem l default_system → AllByRecursion (HasSystem l) (first_systems h (mentions f)) → AreKnownIn l f
read_known l h text f reads files default systems =
    let formula = reads.text in
    let met = subst (λ (g : trees.Formula). AllByRecursion (IsMet l) (mentions g)) (sym reads.tree_is) (all_met l h (mentions f) files systems) in
    let split = chained_met l (before_imp default_system formula) (last_imp default_system formula) met in
    let parts = formula_known l formula default_system default split.0 split.1 in
    subst (AreKnownIn l) reads.tree_is (chained_known l (before_imp default_system formula) (last_imp default_system formula) parts.0 parts.1)
