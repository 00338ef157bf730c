use Rattle.std.proofs.Common.{◌≡◌, map, string_bytes, List, Bool, true, false, Option, Some, [], codes, refl, sym, ap, ◌∙◌, subst}
use Rattle.clap.specs.Walk.{Text, first_of, one_of, rows_of, Row}
use Rattle.clap.specs.Simple.{App, app_of, is_simple, matches_of}
use Rattle.clap.specs.Faults.{fault_of, is_simple_and_free}
use Rattle.clap.specs.Matches.{found_of, one_text}
use Rattle.clap.specs.Kinds.{HasKind}
use Rattle.clap.specs.Values.{bool_text}
use Rattle.clap.proofs.WalkLemmas.{first_value-rows, one_text-rows}
use Rattle.clap.proofs.OnLiterals.{clap_on_literals}
use Rattle.command_line.specs.Words.{Names}
use Rattle.command_line.specs.Program.{walnut_app}
use Rattle.command_line.proofs.ClapWalks.{names_of_parse}
use Rattle.command_line.proofs.ClapPasses.{refused_parse}
use Rattle.command_line.proofs.words.names_of.Goals as goal

simple : is_simple walnut_app ≡ true
unfolding clap_on_literals
simple = refl

free : is_simple_and_free walnut_app ≡ true
unfolding clap_on_literals
free = refl

flag_is : (flag : Bool) (text : Option Text) (is_set : Bool) → (text ≡ Some (codes "true") → flag ≡ true) → (text ≡ Some (codes "false") → flag ≡ false) → text ≡ Some (bool_text is_set) → flag ≡ is_set
flag_is flag text true at_true at_false is = at_true is
flag_is flag text false at_true at_false is = at_false is

-- the same names, of equal values
renamed_values : (words : List Text) (limit limit' seed seed' : Option Text) (is_stop is_stop' : Bool) → limit' ≡ limit → is_stop' ≡ is_stop → seed' ≡ seed → Names words limit is_stop seed → Names words limit' is_stop' seed'
renamed_values words limit limit' seed seed' is_stop is_stop' limits stops seeds names =
    let P : Option Text → Type 0 = λ value. Names words value is_stop' seed' in
    let Q : Bool → Type 0 = λ flag. Names words limit flag seed' in
    let R : Option Text → Type 0 = λ value. Names words limit is_stop value in
    subst P (sym limits) (subst Q (sym stops) (subst R (sym seeds) names))

pub returns-in-Ok : goal.returns-in-Ok
returns-in-Ok c =
    let words : List Text = map string_bytes c.args.words.now in
    let app_is : app_of c.in_ok-command.command ≡ walnut_app = c.in_ok-command.ensures in
    let none : fault_of walnut_app words ≡ [] = ap (λ (a : App). fault_of a words) (sym app_is) ∙ c.in-Ok.ensures.kinds (ap is_simple_and_free app_is ∙ free) in
    let rows : rows_of (found_of c.in-Ok.matches) ≡ matches_of walnut_app words = (c.in-Ok.ensures.matches (ap is_simple app_is ∙ simple)).0 ∙ ap (λ (a : App). matches_of a words) app_is in
    let named = names_of_parse words none in
    let stop_text : one_text (found_of c.in-Ok.matches) (codes "stop") ≡ Some (bool_text named.0) = one_text-rows (found_of c.in-Ok.matches) (codes "stop") ∙ (ap (λ (rs : List Row). one_of (codes "stop") rs) rows ∙ named.2) in
    let stop_is : c.get_flag.result ≡ named.0 = flag_is _ _ named.0 c.get_flag.ensures.value c.get_flag.ensures.other stop_text in
    let first : (id : Text) → first_of id (rows_of (found_of c.in-Ok.matches)) ≡ first_of id (matches_of walnut_app words) = λ id. ap (λ (rs : List Row). first_of id rs) rows in
    renamed_values words _ _ _ _ _ _ (c.get_str.ensures ∙ (first_value-rows (found_of c.in-Ok.matches) (codes "states") ∙ first (codes "states"))) stop_is
    (c.get_str-in-Ok.ensures ∙ (first_value-rows (found_of c.in-Ok.matches) (codes "make") ∙ first (codes "make"))) named.1

pub returns-in-Err : goal.returns-in-Err
returns-in-Err c =
    let words : List Text = map string_bytes c.args.words.now in
    let app_is : app_of c.in_ok-command.command ≡ walnut_app = c.in_ok-command.ensures in
    let P : App → Type 0 = λ a. HasKind (fault_of a words) c.in-Err.error in
    refused_parse words c.words_fault.result c.in-Err.error c.words_fault.ensures (subst P app_is (c.in-Err.ensures.kinds (ap is_simple_and_free app_is ∙ free)))
