use Rattle.std.proofs.Common.{◌<◌, sym, ◌∙◌, subst}
use Rattle.std.specs.List.{All}
use Rattle.std.proofs.lemmas.Result.{IfOk-weaker}
use Rattle.digit_tuple.specs.AcceptingStates.{AreAccepting}
use Rattle.pad_rename.proofs.PaddedPairLemmas.{AreFinal-reached}
use Rattle.pad_rename.proofs.ResultLemmas.{IfOk-both}
use Rattle.pad_rename.proofs.SinkLeads.{AreAccepting-in_range}
use Rattle.pad_rename.proofs.padding_lsd.final_flags.Goals as goal

pub reached-requires : goal.reached-requires
reached-requires c =
    let set = c.deref.result.now in
    let are : AreAccepting c.args.a.now set = subst (AreAccepting c.args.a.now) (sym c.deref.ensures.value) c.in_ok-accepting.ensures in
    subst (λ m. All (λ q. q < m) set) (sym c.in_ok-turned.ensures.reversal.states) (AreAccepting-in_range c.args.a.now set are)

pub returns : goal.returns
returns c =
    let d = c.args.a.now in
    let set = c.deref.result.now in
    let are : AreAccepting d set = subst (AreAccepting d) (sym c.deref.ensures.value) c.in_ok-accepting.ensures in
    IfOk-weaker c.reached.result _ _
    (λ flags both. record {
      count = both.0 ∙ c.in_ok-turned.ensures.reversal.states;
      final = AreFinal-reached d c.requires c.in_ok-turned.turned c.in_ok-turned.ensures.reversal set are flags.items both.1;
    })
    (IfOk-both c.reached.result _ _ c.reached.ensures.size c.reached.ensures.reached)
