use Rattle.std.proofs.Common.{true, sym, ap, ◌∙◌}
use Rattle.bits.specs.Bytes.{put}
use Rattle.bits.proofs.Loops.{asked_start, asked_more, asked_same}
use Rattle.mc68153.specs.Sheet.{source_at}
use Rattle.mc68153.proofs.Mc68153Card.asked.Goals.{then-asks, else-asks}
use Rattle.mc68153.proofs.Mc68153Card.asked.Goals as goal

pub loop-input-init : goal.loop-input-init
loop-input-init c = asked_start (source_at c.args.self.now)

pub loop-input-preserved : goal.loop-input-preserved
loop-input-preserved c =
    let f = source_at c.args.self.now in
    let i = c.loop-input.input-index in
    let levels = c.loop-input.levels in
    elim c.if-asks.branch [
      | then-asks w ↦ w.levels-is ∙ w.with-levels.ensures ∙ ap (λ n. put n true levels) w.level.ensures.value ∙ asked_more f i levels c.loop-input.invariant (sym (c.asks.ensures i) ∙ w.if-asks.true)
      | else-asks w ↦ w.levels-is ∙ asked_same f i levels c.loop-input.invariant (sym (c.asks.ensures i) ∙ w.if-asks.false)
    ]
