use Rattle.std.proofs.Common.{◌∙◌, ◌≡◌, nat_lt, inl, inr}
use Rattle.std.specs.Bool.{then_some}
use Rattle.std.proofs.lemmas.Bool.{cases_lt, lt-ltb, le-ltb}
use Rattle.usc68hc908.specs.Sheet.{chosen_channel}
use Rattle.usc68hc908.specs.Parts.{chosen_some, chosen_none}
use Rattle.usc68hc908.proofs.Usc68hc908.highest_asking.Goals as goal

pub returns : goal.returns
returns c =
    let x = c.args.self.now in
    let channel = c.highest_set-channel.result in
    let busy = c.highest_set.result in
    let chosen : then_some (nat_lt busy channel) channel ≡ chosen_channel x = elim (cases_lt busy channel) [
      | inl above ↦ rw (lt-ltb busy channel above) (chosen_some x c.pending.result c.pending.ensures busy channel c.highest_set-channel.ensures.value c.highest_set.ensures.value above)
      | inr below ↦ rw (le-ltb busy channel below) (chosen_none x c.pending.result c.pending.ensures busy channel c.highest_set-channel.ensures.value c.highest_set.ensures.value below)
    ] in
    c.then_some.ensures ∙ chosen
