use Rattle.std.proofs.Common.{ℕ, List, [], refl, sym, subst}
use Rattle.command_head.specs.Heads as heads
use Rattle.command_head.specs.HeadViews.{alphabets_of}
use Rattle.command_head.specs.declared.head.Alphabets.{Alphabets}
use Rattle.definitions.specs.Tracks.{OverSets}
use Rattle.command_parts.specs.FileChanges.{Makes}
use Rattle.language_commands.specs.RegOutcomes.{after_head, after_tracks}
use Rattle.system_admission.specs.SystemSteps.{no_steps}
use Rattle.language_commands.proofs.RegexReadingChecks.{no_track_read}
use Rattle.language_commands.proofs.RegSteps.{tracks_made}
use Rattle.command_parts.proofs.StoreReads.{own_made}
use Rattle.command_parts.proofs.TextReads.{texts_none, texts_part, no_texts}
use Rattle.language_commands.proofs.reg.made_over.Goals as goal

pub returns-in-Sets : goal.returns-in-Sets
returns-in-Sets g c =
    let limit = c.args.quoted.options.limit in
    let shown = c.args.quoted.options.shown in
    let tracks = OverSets c.in-Sets.sets in
    let own = own_made no_texts (after_tracks (no_steps limit) no_texts [] c.args.quoted.body.now tracks) (no_track_read (no_steps limit) no_texts [] c.args.quoted.body.now tracks) shown c.regex_over.result (c.regex_over.ensures no_texts []) in
    texts_none _ _ _ own (λ custom name.
    let P : Alphabets → Type 0 = λ a. Makes custom (after_head limit custom (record { name = name; alphabets = alphabets_of a; body = c.args.quoted.body.now })) shown c.regex_over.result in
    subst P (sym c.in-Sets.is) (tracks_made limit custom (record { name = name; alphabets = heads.Sets c.in-Sets.sets; body = c.args.quoted.body.now }) (no_steps limit) tracks shown c.regex_over.result (refl, refl) refl (c.regex_over.ensures custom name)))

pub returns-in-Systems : goal.returns-in-Systems
returns-in-Systems g c =
    let limit = c.args.quoted.options.limit in
    let shown = c.args.quoted.options.shown in
    texts_part _ _ _ _ c.regex_over_names.result c.regex_over_names.ensures (λ custom makes name.
    let P : Alphabets → Type 0 = λ a. Makes custom (after_head limit custom (record { name = name; alphabets = alphabets_of a; body = c.args.quoted.body.now })) shown c.regex_over_names.result in
    let Q : List (List ℕ) → Type 0 = λ ns. Makes custom (after_head limit custom (record { name = name; alphabets = heads.Systems ns; body = c.args.quoted.body.now })) shown c.regex_over_names.result in
    subst P (sym c.in-Systems.is) (subst Q c.deref.ensures.value (makes name)))
