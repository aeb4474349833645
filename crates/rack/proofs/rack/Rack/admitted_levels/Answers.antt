use Rattle.std.proofs.Common.{refl, ◌∙◌, rules, arith}
use Rattle.std.proofs.lemmas.Bool.{false_from_ne_true}
use Rattle.std.proofs.lemmas.Iterator.{YieldsList-from_range}
use Rattle.std.proofs.lemmas.Iterator.Consumers.{fold_from_yields_List}
use Rattle.bits.specs.Bytes.{put}
use Rattle.bits.proofs.Loops.{gathered}
use Rattle.rack.proofs.rack.Rack.admitted_levels.Goals as goal

pub returns : goal.returns
returns g c =
    let admits = (g.H.Card.model.meaning c.args.self.now.handler).admits in
    let marks = (g.met.H.Card.laws.lawful c.args.self.now.handler).marks in
    fold_from_yields_List _ (λ levels n. put n (admits n) levels) 0 _ c.fold.ensures.ran (YieldsList-from_range 1 8 7 refl refl) (λ levels n b q k. search rules)
    ∙ gathered admits (false_from_ne_true (admits 0) (λ marked. omega (arith, (marks 0 marked).0)))
