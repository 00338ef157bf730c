use Rattle.std.proofs.Common.{◌≡◌, ◌∙◌, ◌+◌, ◌<◌, [], ◌∷◌, ◌++◌, length, map, take, get_or, ap, sym, subst, arith}
use Rattle.std.specs.Rc.{rc_value}
use Rattle.std.proofs.lemmas.List.{take_more, map-append}
use Rattle.reg_steps.specs.Relations.{AreSystemLanguages}
use Rattle.command_parts.specs.TrackSystems.{named_in}
use Rattle.named_systems.specs.TrackSystems.{system_of, IsIn}
use Rattle.definitions.specs.Tracks.{systems_of}
use Rattle.language_commands.proofs.TrackSystemSteps.{languages_push, systems_push, language_in}
use Rattle.language_commands.proofs.track_systems.languages.Goals as goal

pub loop-system-preserved : goal.loop-system-preserved
loop-system-preserved c =
    let d = c.args.systems.now.direction in
    let items = c.args.systems.now.systems.items in
    let i = c.loop-system.system-index in
    let s = c.system-item.result in
    let ls = c.loop-system.languages.items in
    let l = c.in_ok-language.field-0 in
    let within : i < length items = omega (arith, c.loop-system-test.true, ap length c.deref-system-items.ensures.value) in
    let is : s ≡ get_or items i s = c.system-item.is ∙ ap (λ xs. get_or xs i s) c.deref-system-items.ensures.value in
    let prefix : take (i + 1) items ≡ take i items ++ s ∷ [] = take_more items i s within ∙ ap (λ x. take i items ++ x ∷ []) (sym is) in
    let language = language_in d s (rc_value l) (subst (IsIn d) (sym is) (c.requires i s within)) c.in_ok-language.ensures.of_system c.in_ok-language.ensures.canonical in
    let more = languages_push d (systems_of (named_in (take i items))) (map rc_value ls) (system_of s) (rc_value l) c.loop-system.invariant language in
    let systems : systems_of (named_in (take i items)) ++ system_of s ∷ [] ≡ systems_of (named_in (take (i + 1) items)) = sym (systems_push (take i items) s) ∙ ap (λ xs. systems_of (named_in xs)) (sym prefix) in
    let pushed : map rc_value c.push.new.self.items ≡ map rc_value ls ++ rc_value l ∷ [] = ap (map rc_value) c.in_ok-push.ensures.items ∙ map-append rc_value ls (l ∷ []) in
    subst (λ ss. AreSystemLanguages d ss (map rc_value c.push.new.self.items)) systems (subst (λ xs. AreSystemLanguages d (systems_of (named_in (take i items)) ++ system_of s ∷ []) xs) (sym pushed) more)
