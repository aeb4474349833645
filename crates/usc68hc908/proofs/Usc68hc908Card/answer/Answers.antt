use Rattle.std.proofs.Common.{sym, ◌∙◌, arith}
use Rattle.card.proofs.Refusing.{level_within}
use Rattle.usc68hc908.proofs.Calls.{chosen_within, pick_missing, pick_elsewhere, answer_none, answer_some}
use Rattle.usc68hc908.proofs.Usc68hc908Card.answer.Goals as goal

pub returns-then-level : goal.returns-then-level
returns-then-level c =
    let within = level_within c.args.level c.in_ok-check_level.field-0 (sym c.check_level.ensures ∙ c.in_ok-check_level.was) in
    let done = answer_none c.args.self.now c.args.level within.0 within.1 (pick_elsewhere c.args.self.now c.args.level (λ e. c.if-level.true (e ∙ sym c.level.ensures.value))) in
    record { result = done.0; after = done.1 }

pub returns-in_default : goal.returns-in_default
returns-in_default c =
    let within = level_within c.args.level c.in_ok-check_level.field-0 (sym c.check_level.ensures ∙ c.in_ok-check_level.was) in
    let done = answer_none c.args.self.now c.args.level within.0 within.1 (pick_missing c.args.self.now c.args.level c.in_default.ensures) in
    record { result = done.0; after = done.1 }

pub overflow_add-result : goal.overflow_add-result
overflow_add-result c = let w = chosen_within c.args.self.now c.in-Some.channel c.in-Some.ensures in omega (arith, w.1, c.base.ensures.bound)

pub returns : goal.returns
returns c =
    let within = level_within c.args.level c.in_ok-check_level.field-0 (sym c.check_level.ensures ∙ c.in_ok-check_level.was) in
    let done = answer_some c.args.self.now c.args.level c.in-Some.channel c.base.result c.with-self.result c.release.new.self within.0 within.1 (c.if-level.false ∙ c.level.ensures.value) c.in-Some.ensures c.base.ensures.value c.release.ensures c.with-self.ensures in
    record { result = done.0; after = done.1 }
