use Rattle.std.proofs.Common.{◌≡◌, ◌∙◌, List, ℕ, refl, ap, subst}
use Rattle.std.specs.List.{AllByRecursion}
use Rattle.std.proofs.lemmas.Result.{err_from_is_err_and}
use Rattle.dfa_loading.specs.Headers.{headers_of}
use Rattle.formula_resolve.specs.FirstMentions.{first_systems}
use Rattle.named_systems.specs.SealedSystems.{HasBuiltIn}
use Rattle.named_systems.proofs.SealedLemmas.{all_there}
use Rattle.system_admission.specs.UserSystems.{AreAdmitted}
use Rattle.command_parts.specs.Checks.{Fails}
use Rattle.command_parts.specs.SystemChecks.{systems_known}
use Rattle.command_parts.proofs.MeantNames.{extended_meant}
use Rattle.command_parts.proofs.TextReads.{texts_none, texts_refused, texts_read}
use Rattle.command_parts.proofs.mentioned_tables.names_of.Goals as goal

pub returns-in_err-headers : goal.returns-in_err-headers
returns-in_err-headers g c =
    let p = err_from_is_err_and c.from_residual.result c.from_residual.ensures.1 in
    rw (p.1, p.2) (texts_none _ _ _ refl (λ custom. tt))

pub returns-in_err-named : goal.returns-in_err-named
returns-in_err-named g c =
    let p = err_from_is_err_and c.from_residual-in_err-named.result c.from_residual-in_err-named.ensures.1 in
    rw (p.1, p.2) (texts_none _ _ _ refl (λ custom. tt))

pub returns-in_err-users : goal.returns-in_err-users
returns-in_err-users g c =
    let p = err_from_is_err_and c.from_residual-in_err-users.result c.from_residual-in_err-users.ensures.1 in
    let fault = c.in_err-users.field-0.0 in
    let mentioned = c.args.mentioned.now in
    let headers = c.in_ok-headers.ensures ∙ ap headers_of c.deref.ensures.value in
    let names : c.deref-3.result.now ≡ first_systems (headers_of mentioned.tables.items) mentioned.mentions.items = c.deref-3.ensures.value ∙ (c.in_ok-named.ensures ∙ (λ i. first_systems (headers i) (c.deref-2.ensures.value i))) in
    rw (p.1, p.2) (texts_refused _ _ _ _ fault c.in_err-users.ensures (λ custom refused. subst (λ (ns : List (List ℕ)). Fails (systems_known c.args.limit custom ns) fault) names refused))

pub returns-in_err-add_all : goal.returns-in_err-add_all
returns-in_err-add_all g c =
    let p = err_from_is_err_and c.from_residual-in_err-add_all.result c.from_residual-in_err-add_all.ensures.1 in
    rw (p.1, p.2) (texts_read _ _ _ _ c.in_ok-users.users _ refl c.in_ok-users.ensures (λ custom given. tt))

pub returns : goal.returns
returns g c =
    let limit = c.args.limit in
    let mentioned = c.args.mentioned.now in
    let headers = c.in_ok-headers.ensures ∙ ap headers_of c.deref.ensures.value in
    let all : List (List ℕ) = first_systems (headers_of mentioned.tables.items) mentioned.mentions.items in
    let once = c.in_ok-named.ensures ∙ (λ i. first_systems (headers i) (c.deref-2.ensures.value i)) in
    let names : c.deref-3.result.now ≡ all = c.deref-3.ensures.value ∙ once in
    let also : c.deref-4.result.now ≡ all = c.deref-4.ensures.value ∙ once in
    let users = c.in_ok-users.users in
    let adds = c.in_ok-add_all.ensures in
    texts_read _ _ _ _ users _ tt c.in_ok-users.ensures
    (λ custom given.
    let admitted = subst (λ (ns : List (List ℕ)). AreAdmitted limit ns custom users) names given in
    record {
      names = record {
        headers = headers;
        systems = record {
          mentioned = all_there users.named c.add_all.new.systems all adds.extends admitted.there (subst (AllByRecursion (HasBuiltIn c.add_all.new.systems)) also adds.there);
          default = adds.default;
        };
        meant = extended_meant custom _ _ adds.extends admitted.meant;
      };
      admits = admitted.admits;
    })
