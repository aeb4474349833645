use Rattle.std.proofs.Common.{sym, refl, ◌∙◌}
use Rattle.card.proofs.Refusing.{level_within}
use Rattle.card.specs.Source.{pick}
use Rattle.std.proofs.lemmas.Bool.{le-leb}
use Rattle.plain.proofs.PlainHandlerCard.answer.Goals as goal

pub returns : goal.returns
unfolding pick
returns c =
    let within = level_within c.args.level c.in_ok-check_level.field-0 (sym c.check_level.ensures ∙ c.in_ok-check_level.was) in
    rw (le-leb 1 c.args.level within.0, le-leb c.args.level 7 within.1) (record { result = refl; after = refl })
