-- The steps of language commands have one answer.
use Rattle.std.proofs.Common.{◌≡◌, inl, inr, List, [], ◌∷◌, sym, ◌∙◌}
use Rattle.digit_tuple.specs.Automaton.{Branching}
use Rattle.digit_tuple.specs.Deterministic.{Automaton}
use Rattle.digit_tuple.specs.StepResults.{Then}
use Rattle.digit_tuple.specs.declared.step_fault.StepFault.TheVariants.{Memory}
use Rattle.digit_tuple.proofs.BranchTables.{same_branching}
use Rattle.digit_tuple.proofs.LetterLemmas.{not_too_large}
use Rattle.automaton_steps.specs.Makings.{Making, DoesStep, Gives}
use Rattle.automaton_steps.specs.OneAnswers.{HasOneAnswer}
use Rattle.automaton_steps.specs.ReadSteps.{read_step}
use Rattle.automaton_steps.proofs.OneAnswers.{read_one, reverse_one}
use Rattle.automaton_steps.proofs.ThenAnswers.{gives_one, some_one, then_one}
use Rattle.product_op.specs.declared.op.Op.TheVariants.{And, Or}
use Rattle.lang_ops.proofs.OneResults.{concat_one, product_one, star_one}
use Rattle.dfa_reading.specs.Listed.{Listed}
use Rattle.dfa_loading.specs.declared.loaded.Loaded.{Loaded}
use Rattle.language_steps.specs.LanguageSteps.{IsTableOverSets, DoesPlainTable, DoesReads, DoesChain, DoesOperation, languages_named, named_language, pair_step, sizes_of}
use Rattle.language_steps.specs.Laws.{LanguagesHaveOneOutcome}
use Rattle.language_steps.specs.declared.op.LanguageOp.{LanguageOp}
use Rattle.language_steps.specs.declared.op.LanguageOp.TheVariants.{Pair, One}
use Rattle.language_steps.specs.declared.op.OneOp.TheVariants.{Star, Reversal}
use Rattle.language_steps.specs.declared.op.PairOp.{PairOp}
use Rattle.language_steps.specs.declared.op.PairOp.TheVariants.{Union, Intersection, Concatenation}

-- a table over sets has one branching automaton
one_branching : (listed : Listed) (n m : Branching) → IsTableOverSets listed n → IsTableOverSets listed m → n ≡ m
one_branching listed n m one other =
    let first = one.is_branching in
    let second = other.is_branching in
    same_branching n m (first.sizes_are ∙ sym second.sizes_are) (first.states ∙ sym second.states)
    (λ q. (λ is. (second.accepting q).1 ((first.accepting q).0 is), λ is. (first.accepting q).1 ((second.accepting q).0 is)))
    (λ p letter q. (λ there. (second.leads p letter q).1 ((first.leads p letter q).0 there), λ there. (first.leads p letter q).1 ((second.leads p letter q).0 there)))
    one.table other.table

-- it has too many letters, or one automaton is read
pub table_one : (listed : Listed) → HasOneAnswer Memory (DoesPlainTable listed)
table_one listed old new next result other (inl a) (inl b) = inl (a.refused ∙ sym b.refused, a.same ∙ sym b.same)
table_one listed old new next result other (inl a) (inr (inl out)) = inr (inr out)
table_one listed old new next result other (inl a) (inr (inr (n, over, reads))) = absurd (not_too_large (sizes_of listed) over.alphabet a.large)
table_one listed old new next result other (inr (inl out)) b = inr (inl out)
table_one listed old new next result other (inr (inr (n, over, reads))) (inl b) = absurd (not_too_large (sizes_of listed) over.alphabet b.large)
table_one listed old new next result other (inr (inr a)) (inr b) =
    some_one (IsTableOverSets listed) (λ n. DoesStep (read_step n)) (one_branching listed) read_one old new next result other (inr a) b

reads_one : (tables : List Loaded) → HasOneAnswer Memory (DoesReads tables)
reads_one [] = gives_one []
reads_one (table ∷ tables) =
    then_one Memory (DoesPlainTable table.listed) (λ d. Then (DoesReads tables) (λ languages. Gives (named_language table d ∷ languages))) (table_one table.listed)
    (λ d. then_one Memory (DoesReads tables) (λ languages. Gives (named_language table d ∷ languages)) (reads_one tables) (λ languages. gives_one (named_language table d ∷ languages)))

chain_one : (step : Automaton → Automaton → Making Automaton) → ((a b : Automaton) → HasOneAnswer Memory (DoesStep (step a b))) → (d : Automaton) (ds : List Automaton) → HasOneAnswer Memory (DoesChain step d ds)
chain_one step one d [] = gives_one d
chain_one step one d (e ∷ ds) = then_one Memory (DoesStep (step d e)) (λ made. DoesChain step made ds) (one d e) (λ made. chain_one step one made ds)

pair_one : (op : PairOp) (a b : Automaton) → HasOneAnswer Memory (DoesStep (pair_step op a b))
pair_one Union = product_one Or
pair_one Intersection = product_one And
pair_one Concatenation = concat_one

operation_one : (op : LanguageOp) (ds : List Automaton) → HasOneAnswer Memory (DoesOperation op ds)
operation_one op [] = λ old new next result other a b. absurd a
operation_one (Pair op) (d ∷ ds) = chain_one (pair_step op) (pair_one op) d ds
operation_one (One Star) (d ∷ ds) = star_one d
operation_one (One Reversal) (d ∷ ds) = reverse_one d

pub language_one : LanguagesHaveOneOutcome
language_one op names tables = then_one Memory (DoesReads tables) (λ languages. DoesOperation op (languages_named languages names)) (reads_one tables) (λ languages. operation_one op (languages_named languages names))
