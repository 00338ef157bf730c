-- The automaton of an expression over sets, and its text.
use Rattle.std.proofs.Common.{◌≡◌, ℕ, List, ℤ, sym, ap, ◌∙◌}
use Rattle.std.specs.List.{AllByRecursion}
use Rattle.digit_tuple.specs.Deterministic.{Automaton}
use Rattle.digit_tuple.specs.declared.header.Header.TheVariants as headers
use Rattle.regex_build.specs.Expression.{Expression}
use Rattle.regex_build.specs.Matches.{Matches}
use Rattle.regex_build.specs.Patterns.{AreMembers}
use Rattle.dfa_text.specs.Meaning.{AreTrackSets}
use Rattle.dfa_text.specs.RelationText.{relation_text}
use Rattle.reg_steps.specs.RegexSteps.{IsRegexAutomaton}
use Rattle.reg_steps.proofs.OneRegex.{one_automaton}
use Rattle.definitions.specs.Texts.{IsRegexText}
use Rattle.definitions.proofs.LanguageTexts.{language_text, members_of_coded}

-- an expression over sets has one text
pub one_regex_text : (sets : List (List ℤ)) (e : Expression (List ℤ)) (text other : List ℕ) → IsRegexText sets e text → IsRegexText sets e other → text ≡ other
one_regex_text sets e text other a b =
    a.text_is ∙ (ap (λ (d : Automaton). relation_text (headers.Sets sets) d) (one_automaton sets e a.automaton b.automaton a.of_regex b.of_regex) ∙ sym b.text_is)

-- the text of the automaton
pub regex_text : (sets : List (List ℤ)) (e : Expression (List ℤ)) (d : Automaton) (text : List ℕ) → AreTrackSets sets → IsRegexAutomaton sets e d → text ≡ relation_text (headers.Sets sets) d → IsRegexText sets e text
regex_text sets e d text tracks of_regex is =
    let written = language_text sets (λ word. AllByRecursion (AreMembers sets) word × Matches e word) d tracks of_regex.sizes of_regex.canonical
    (λ tuples word coded. (λ yes. (members_of_coded sets tuples word coded, (of_regex.language tuples word coded).0 yes), λ matches. (of_regex.language tuples word coded).1 matches.1)) (λ tuples matches. matches.0) in
    record { tracks = tracks; accepts = λ word. rw is (written.accepts word); automaton = d; of_regex = of_regex; text_is = is }
