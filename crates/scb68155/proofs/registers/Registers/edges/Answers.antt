use Rattle.std.proofs.Common.{refl, ◌∙◌, rules}
use Rattle.std.proofs.lemmas.Iterator.{YieldsList-from_range}
use Rattle.std.proofs.lemmas.Iterator.Consumers.{fold_from_yields_List}
use Rattle.bits.specs.Bytes.{put}
use Rattle.bits.proofs.Loops.{gathered}
use Rattle.scb68155.specs.Sheet.{is_edge}
use Rattle.scb68155.proofs.registers.Registers.edges.Goals as goal

pub returns : goal.returns
returns c =
    fold_from_yields_List _ (λ edges n. put n (is_edge c.args.self.now n) edges) 0 _ c.fold.ensures.ran (YieldsList-from_range 1 8 7 refl refl) (λ edges n b q k. search rules)
    ∙ gathered (is_edge c.args.self.now) refl
