use Rattle.std.proofs.Common.{◌≡◌, ◌∙◌, ℕ, List, [], refl, subst, Err}
use Rattle.std.specs.Str.{bytes_eq}
use Rattle.std.proofs.lemmas.Result.{err_from_is_err_and}
use Rattle.command_head.specs.Heads as heads
use Rattle.definitions.specs.Tracks.{OverSystems}
use Rattle.formula_resolve.specs.FirstMentions.{each_once}
use Rattle.command_parts.specs.Checks.{Pure, Fails}
use Rattle.language_commands.specs.RegOutcomes.{TracksAnswers, after_tracks}
use Rattle.command_parts.specs.SystemChecks.{systems_known}
use Rattle.command_parts.specs.TrackSystems.{fault_of_tracks, named_in}
use Rattle.system_admission.specs.UserSystems.{AreAdmitted}
use Rattle.named_systems.specs.NamedSystems.{IsThere}
use Rattle.language_commands.proofs.TrackSystemSteps.{parted_so, tracks_so}
use Rattle.command_parts.proofs.MentionedTables.{all_once}
use Rattle.language_commands.proofs.RegexReadingChecks.{no_track_read}
use Rattle.language_commands.proofs.RegSteps.{head_refused, tracks_made, tracks_fail}
use Rattle.command_parts.proofs.StoreReads.{own_made, own_fault}
use Rattle.command_parts.proofs.TextReads.{texts_none, texts_refused, texts_read}
use Rattle.language_commands.proofs.reg.regex_over_names.Goals as goal

pub returns-in_err-once : goal.returns-in_err-once
returns-in_err-once g c =
    let p = err_from_is_err_and c.from_residual.result c.from_residual.ensures.1 in
    rw (p.1, p.2) (texts_none _ _ _ refl (λ custom name. tt))

pub returns-in_err-users : goal.returns-in_err-users
returns-in_err-users g c =
    let p = err_from_is_err_and c.from_residual-in_err-users.result c.from_residual-in_err-users.ensures.1 in
    let fault = c.in_err-users.field-0.0 in
    let limit = c.args.quoted.options.limit in
    let names : c.deref.result.now ≡ each_once bytes_eq c.args.names.now = c.deref.ensures.value ∙ c.in_ok-once.ensures in
    rw (p.1, p.2) (texts_refused _ _ _ _ fault c.in_err-users.ensures
    (λ custom refused name. head_refused limit custom (record { name = name; alphabets = heads.Systems c.args.names.now; body = c.args.quoted.body.now }) fault (subst (λ (ns : List (List ℕ)). Fails (systems_known limit custom ns) fault) names refused)))

pub of_names-requires-clause-there : goal.of_names-requires-clause-there
of_names-requires-clause-there g c =
    let names : c.deref.result.now ≡ each_once bytes_eq c.args.names.now = c.deref.ensures.value ∙ c.in_ok-once.ensures in
    let first = c.in_ok-users.ensures in
    let admitted = subst (λ (ns : List (List ℕ)). AreAdmitted c.args.quoted.options.limit ns first.in_some_folder.0 c.in_ok-users.users) names (first.gives first.in_some_folder.0 first.in_some_folder.1) in
    (all_once (IsThere c.in_ok-users.users.named) [] c.args.names.now admitted.there).1

pub returns-in_err-systems : goal.returns-in_err-systems
returns-in_err-systems g c =
    let p = err_from_is_err_and c.from_residual-in_err-systems.result c.from_residual-in_err-systems.ensures.1 in
    let why = c.in_err-systems.field-0.0 in
    let fault = fault_of_tracks why in
    let limit = c.args.quoted.options.limit in
    let users = c.in_ok-users.users in
    let names : c.deref.result.now ≡ each_once bytes_eq c.args.names.now = c.deref.ensures.value ∙ c.in_ok-once.ensures in
    let first = c.in_ok-users.ensures in
    let custom = first.in_some_folder.0 in
    let own = own_fault (Pure (TracksAnswers custom (heads.Systems c.args.names.now))) (λ place read. read) fault (parted_so custom users.named c.args.names.now why (first.gives custom first.in_some_folder.1).meant c.in_err-systems.ensures) in
    rw (p.1, p.2) (texts_read _ _ _ _ users (Err fault) own first
    (λ k admitted name.
    let admits = (subst (λ (ns : List (List ℕ)). AreAdmitted limit ns k users) names admitted).admits in
    tracks_fail limit k (record { name = name; alphabets = heads.Systems c.args.names.now; body = c.args.quoted.body.now }) users.steps fault admits (parted_so k users.named c.args.names.now why admitted.meant c.in_err-systems.ensures)))

pub regex_over_systems-requires-clause-named : goal.regex_over_systems-requires-clause-named
regex_over_systems-requires-clause-named g c =
    let first = c.in_ok-users.ensures in
    (first.in_some_folder.0, (tracks_so first.in_some_folder.0 c.in_ok-users.users.named c.in_ok-systems.systems c.args.names.now (first.gives first.in_some_folder.0 first.in_some_folder.1).meant c.in_ok-systems.ensures).are)

pub returns : goal.returns
returns g c =
    let limit = c.args.quoted.options.limit in
    let shown = c.args.quoted.options.shown in
    let users = c.in_ok-users.users in
    let t = c.in_ok-systems.systems in
    let names : c.deref.result.now ≡ each_once bytes_eq c.args.names.now = c.deref.ensures.value ∙ c.in_ok-once.ensures in
    let first = c.in_ok-users.ensures in
    let custom = first.in_some_folder.0 in
    let tracks = OverSystems t.direction (named_in t.systems.items) in
    let own = own_made custom (after_tracks users.steps custom [] c.args.quoted.body.now tracks) (no_track_read users.steps custom [] c.args.quoted.body.now tracks) shown c.regex_over_systems.result
    (c.regex_over_systems.ensures custom [] (tracks_so custom users.named t c.args.names.now (first.gives custom first.in_some_folder.1).meant c.in_ok-systems.ensures).are) in
    texts_read _ _ _ _ users c.regex_over_systems.result own first
    (λ k admitted name.
    let admits = (subst (λ (ns : List (List ℕ)). AreAdmitted limit ns k users) names admitted).admits in
    let so = tracks_so k users.named t c.args.names.now admitted.meant c.in_ok-systems.ensures in
    tracks_made limit k (record { name = name; alphabets = heads.Systems c.args.names.now; body = c.args.quoted.body.now }) users.steps tracks shown c.regex_over_systems.result admits so (c.regex_over_systems.ensures k name so.are))
