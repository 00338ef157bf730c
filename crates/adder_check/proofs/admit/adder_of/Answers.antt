use Rattle.std.proofs.Common.{◌≡◌, List, [], ◌∷◌, length, map, ◌∙◌, ap, sym, subst}
use Rattle.std.proofs.lemmas.Result.{IfOk-weaker, err_from_is_err_and}
use Rattle.std.specs.Rc.{rc_value}
use Rattle.digit_tuple.specs.Deterministic.{Automaton}
use Rattle.num_system.specs.Joined.{AreLanguagesOf}
use Rattle.product_op.specs.Validity.{AreLanguages}
use Rattle.adder_check.specs.AdderRelation.{DoesAdder, three_of}
use Rattle.endless.specs.LanguageLaws.{system_of}
use Rattle.adder_check.proofs.AdderLemmas.{adder_out}
use Rattle.adder_check.proofs.FileSystems.{three_canonical, three_sizes, three_languages, three_same}
use Rattle.adder_check.proofs.HandedOn.{handed_on}
use Rattle.adder_check.proofs.admit.adder_of.Goals as goal

pub returns-clause-steps : goal.returns-clause-steps
returns-clause-steps c =
    let d = c.args.language.now in
    let first : c.in_ok-first.first.value ≡ d = c.in_ok-first.ensures.ok ∙ c.in_ok-copy.ensures in
    let all : map rc_value c.deref.result.now ≡ d ∷ d ∷ d ∷ [] =
    ap (map rc_value) (c.deref.ensures.value ∙ c.in_ok-languages.ensures.items)
    ∙ three_same c.in_ok-first.first.value c.in_ok-second.second.value c.in_ok-third.third.value d first (c.in_ok-second.ensures.cases ∙ first) (c.in_ok-third.ensures.cases ∙ first) in
    subst (λ (ls : List Automaton). DoesAdder c.args.direction c.args.file.listed.now c.args.file.reversed ls c.args.steps.now c.adder_steps.result c.adder_steps.new.steps) all c.adder_steps.ensures.steps

pub returns-clause-relation : goal.returns-clause-relation
returns-clause-relation c =
    let d = c.args.language.now in
    let first : c.in_ok-first.first.value ≡ d = c.in_ok-first.ensures.ok ∙ c.in_ok-copy.ensures in
    let all : map rc_value c.deref.result.now ≡ d ∷ d ∷ d ∷ [] =
    ap (map rc_value) (c.deref.ensures.value ∙ c.in_ok-languages.ensures.items)
    ∙ three_same c.in_ok-first.first.value c.in_ok-second.second.value c.in_ok-third.third.value d first (c.in_ok-second.ensures.cases ∙ first) (c.in_ok-third.ensures.cases ∙ first) in
    IfOk-weaker c.adder_steps.result _ _
    (λ adder holds system. holds (system_of c.args.direction d) system (three_sizes c.args.direction d c.requires.tracks.0 c.args.file.listed.now.sizes c.requires.tracks.2 c.requires.tracks.1)
    (subst (AreLanguagesOf c.args.direction (three_of (system_of c.args.direction d))) (sym all) (three_languages c.args.direction d c.requires.tracks.0 c.requires.tracks.2)))
    c.adder_steps.ensures.relation

pub returns-in_err-copy-clause-steps : goal.returns-in_err-copy-clause-steps
returns-in_err-copy-clause-steps c =
    adder_out c.args.direction c.args.file.listed.now c.args.file.reversed (c.args.language.now ∷ c.args.language.now ∷ c.args.language.now ∷ []) c.args.steps.now c.from_residual.result (handed_on _ c.from_residual.result c.from_residual.ensures.1)

pub returns-in_err-copy-clause-names : goal.returns-in_err-copy-clause-names
returns-in_err-copy-clause-names c = let p = err_from_is_err_and c.from_residual.result c.from_residual.ensures.1 in rw p.1 tt

pub returns-in_err-copy-clause-relation : goal.returns-in_err-copy-clause-relation
returns-in_err-copy-clause-relation c = let p = err_from_is_err_and c.from_residual.result c.from_residual.ensures.1 in rw p.1 tt

pub returns-in_err-first-clause-steps : goal.returns-in_err-first-clause-steps
returns-in_err-first-clause-steps c =
    adder_out c.args.direction c.args.file.listed.now c.args.file.reversed (c.args.language.now ∷ c.args.language.now ∷ c.args.language.now ∷ []) c.args.steps.now c.from_residual-in_err-first.result (handed_on _ c.from_residual-in_err-first.result c.from_residual-in_err-first.ensures.1)

pub returns-in_err-first-clause-names : goal.returns-in_err-first-clause-names
returns-in_err-first-clause-names c = let p = err_from_is_err_and c.from_residual-in_err-first.result c.from_residual-in_err-first.ensures.1 in rw p.1 tt

pub returns-in_err-first-clause-relation : goal.returns-in_err-first-clause-relation
returns-in_err-first-clause-relation c = let p = err_from_is_err_and c.from_residual-in_err-first.result c.from_residual-in_err-first.ensures.1 in rw p.1 tt

pub returns-in_err-second-clause-steps : goal.returns-in_err-second-clause-steps
returns-in_err-second-clause-steps c =
    adder_out c.args.direction c.args.file.listed.now c.args.file.reversed (c.args.language.now ∷ c.args.language.now ∷ c.args.language.now ∷ []) c.args.steps.now c.from_residual-in_err-second.result (handed_on _ c.from_residual-in_err-second.result c.from_residual-in_err-second.ensures.1)

pub returns-in_err-second-clause-names : goal.returns-in_err-second-clause-names
returns-in_err-second-clause-names c = let p = err_from_is_err_and c.from_residual-in_err-second.result c.from_residual-in_err-second.ensures.1 in rw p.1 tt

pub returns-in_err-second-clause-relation : goal.returns-in_err-second-clause-relation
returns-in_err-second-clause-relation c = let p = err_from_is_err_and c.from_residual-in_err-second.result c.from_residual-in_err-second.ensures.1 in rw p.1 tt

pub returns-in_err-third-clause-steps : goal.returns-in_err-third-clause-steps
returns-in_err-third-clause-steps c =
    adder_out c.args.direction c.args.file.listed.now c.args.file.reversed (c.args.language.now ∷ c.args.language.now ∷ c.args.language.now ∷ []) c.args.steps.now c.from_residual-in_err-third.result (handed_on _ c.from_residual-in_err-third.result c.from_residual-in_err-third.ensures.1)

pub returns-in_err-third-clause-names : goal.returns-in_err-third-clause-names
returns-in_err-third-clause-names c = let p = err_from_is_err_and c.from_residual-in_err-third.result c.from_residual-in_err-third.ensures.1 in rw p.1 tt

pub returns-in_err-third-clause-relation : goal.returns-in_err-third-clause-relation
returns-in_err-third-clause-relation c = let p = err_from_is_err_and c.from_residual-in_err-third.result c.from_residual-in_err-third.ensures.1 in rw p.1 tt

pub returns-in_err-languages-clause-steps : goal.returns-in_err-languages-clause-steps
returns-in_err-languages-clause-steps c =
    adder_out c.args.direction c.args.file.listed.now c.args.file.reversed (c.args.language.now ∷ c.args.language.now ∷ c.args.language.now ∷ []) c.args.steps.now c.from_residual-in_err-languages.result (handed_on _ c.from_residual-in_err-languages.result c.from_residual-in_err-languages.ensures.1)

pub returns-in_err-languages-clause-names : goal.returns-in_err-languages-clause-names
returns-in_err-languages-clause-names c = let p = err_from_is_err_and c.from_residual-in_err-languages.result c.from_residual-in_err-languages.ensures.1 in rw p.1 tt

pub returns-in_err-languages-clause-relation : goal.returns-in_err-languages-clause-relation
returns-in_err-languages-clause-relation c = let p = err_from_is_err_and c.from_residual-in_err-languages.result c.from_residual-in_err-languages.ensures.1 in rw p.1 tt

pub adder_steps-requires-clause-tracks : goal.adder_steps-requires-clause-tracks
adder_steps-requires-clause-tracks c = ap length c.requires.tracks.1

pub adder_steps-requires-clause-languages : goal.adder_steps-requires-clause-languages
adder_steps-requires-clause-languages c =
    let d = c.args.language.now in
    let first : c.in_ok-first.first.value ≡ d = c.in_ok-first.ensures.ok ∙ c.in_ok-copy.ensures in
    let all : map rc_value c.deref.result.now ≡ d ∷ d ∷ d ∷ [] =
    ap (map rc_value) (c.deref.ensures.value ∙ c.in_ok-languages.ensures.items)
    ∙ three_same c.in_ok-first.first.value c.in_ok-second.second.value c.in_ok-third.third.value d first (c.in_ok-second.ensures.cases ∙ first) (c.in_ok-third.ensures.cases ∙ first) in
    subst (AreLanguages c.args.file.listed.now.sizes) (sym all) (three_canonical d c.requires.tracks.0 c.args.file.listed.now.sizes c.requires.canonical c.requires.tracks.2 c.requires.tracks.1)
