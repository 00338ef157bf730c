-- Words over one base: their names, and the text of a fixed point.
use Rattle.std.proofs.Common.{◌≡◌, ℕ, List, [], ◌∷◌, length, get_or, refl, sym, ap, ◌∙◌, subst, arith}
use Rattle.std.specs.Int.{w32}
use Rattle.std.specs.List.{All}
use Rattle.std.specs.Prelude.{FitsSigned}
use Rattle.digit_tuple.specs.Systems.{IsDigitCount}
use Rattle.digit_tuple.specs.declared.direction.Direction.TheVariants.{Msd}
use Rattle.digit_tuple.specs.declared.header.Header.TheVariants as headers
use Rattle.digit_tuple.specs.declared.systems.SystemTrack.{SystemTrack}
use Rattle.base_k.specs.Positional.{base}
use Rattle.dfa_text.specs.RelationText.{word_text}
use Rattle.fixed_points.specs.Promotion.{IsFixedWord}
use Rattle.morph_words.specs.MorphismKinds.{HasFixedPoint}
use Rattle.morph_words.specs.Rules.{Rules}
use Rattle.num_system.specs.Sealed.{SystemValue, system_of}
use Rattle.num_system.specs.Tracks.{systems_of}
use Rattle.numeration.specs.Systems.{System}
use Rattle.system_names.specs.Names.{IsBase}
use Rattle.word_output.specs.LetterFunctions.{outputs_of}
use Rattle.word_output.specs.Words.{WordValue}
use Rattle.definitions.specs.Texts.{IsFixedText}
use Rattle.definitions.specs.WordTexts.{msd_base}
use Rattle.definitions.proofs.WordValueTexts.{IsWordOfFixed, text_of_word, fixed_word_text}
use Rattle.system_files.specs.SystemFiles.{Custom}
use Rattle.word_commands.specs.BaseWords.{IsOverBase, base_name}
use Rattle.command_parts.specs.WordPrinting.{HaveNames, tracks_named, named_text}

one_system : (s t : System) (ss ts : List System) → s ∷ ss ≡ t ∷ ts → s ≡ t
one_system s t ss ts same = cc

-- there is one system, which has as many digits as the base says
first_digits : (k : ℕ) (s : SystemValue) (systems : List SystemValue) → systems_of (s ∷ systems) ≡ base k ∷ [] → s.digits ≡ k
first_digits k s systems is = ap (λ (x : System). x.digits) (one_system (system_of s) (base k) (systems_of systems) [] is)

pub one_track : (k : ℕ) (name : List ℕ) (systems : List SystemValue) → systems_of systems ≡ base k ∷ [] → tracks_named (name ∷ []) systems ≡ (let t : SystemTrack = record { name = name; digits = k } in t) ∷ []
one_track k name [] is = let long : 0 ≡ 1 = ap length is in absurd (omega (arith, long))
one_track k name (s ∷ systems) is = ap (λ (n : ℕ). (let t : SystemTrack = record { name = name; digits = n } in t) ∷ []) (first_digits k s systems is)

pub digits_there : (k : ℕ) (systems : List SystemValue) (s : SystemValue) → systems_of systems ≡ base k ∷ [] → s ≡ get_or systems 0 s → s.digits ≡ k
digits_there k [] s is here = let long : 0 ≡ 1 = ap length is in absurd (omega (arith, long))
digits_there k (t ∷ systems) s is here = ap (λ (x : SystemValue). x.digits) here ∙ first_digits k t systems is

pub some_system : (k : ℕ) (systems : List SystemValue) → systems_of systems ≡ base k ∷ [] → length systems ≡ 1
some_system k [] is = let long : 0 ≡ 1 = ap length is in absurd (omega (arith, long))
some_system k (s ∷ []) is = refl
some_system k (s ∷ t ∷ systems) is = let long : length (systems_of (s ∷ t ∷ systems)) ≡ 1 = ap length is in absurd (omega (arith, long))

-- one name is enough for it
pub one_name : (k : ℕ) (name : List ℕ) (systems : List SystemValue) → IsBase k → systems_of systems ≡ base k ∷ [] → HaveNames (name ∷ []) systems
one_name k name [] within is = let long : 0 ≡ 1 = ap length is in absurd (omega (arith, long))
one_name k name (s ∷ []) within is =
    let count : IsDigitCount k = record { some = omega (arith, within.least); small = omega (arith, within.most) } in
    record { count = refl; digits = (subst IsDigitCount (sym (first_digits k s [] is)) count, tt) }
one_name k name (s ∷ t ∷ systems) within is = let long : length (systems_of (s ∷ t ∷ systems)) ≡ 1 = ap length is in absurd (omega (arith, long))

-- under the name of its base the text is that of the word
pub base_text_is : (k : ℕ) (word : WordValue) → systems_of word.systems ≡ base k ∷ [] → named_text (base_name k ∷ []) word ≡ text_of_word Msd (msd_base k ∷ []) word
base_text_is k word is = ap (λ (ts : List SystemTrack). word_text (headers.Systems ts) word.function.automaton (outputs_of word.function)) (one_track k (base_name k) word.systems is)

pub fixed_text : (custom : Custom) (rules : Rules) (k : ℕ) (word : WordValue) → HasFixedPoint rules k → IsFixedWord rules k word → All (λ letter. FitsSigned w32 letter) word.function.letters
    → IsFixedText custom rules (named_text (base_name k ∷ []) word)
fixed_text custom rules k word has is fits =
    let of_fixed : IsWordOfFixed rules k word = record { word_is = is.word_is; system = is.system; direction = is.direction; letters = is.letters } in
    subst (λ (text : List ℕ). IsFixedText custom rules text) (sym (base_text_is k word is.system)) (fixed_word_text custom rules k word has of_fixed fits)

-- and it is over its base
pub over_base : (rules : Rules) (k : ℕ) (word : WordValue) → HasFixedPoint rules k → IsFixedWord rules k word → IsOverBase word k
over_base rules k word has is = record { base_is = record { least = has.base.0; most = has.base.1 }; system = is.system }
