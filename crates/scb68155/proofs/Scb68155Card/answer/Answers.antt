use Rattle.std.proofs.Common.{sym, ◌∙◌}
use Rattle.card.proofs.Refusing.{level_within}
use Rattle.scb68155.proofs.Calls.{asks_at, answer_none, answer_some}
use Rattle.scb68155.proofs.Scb68155Card.answer.Goals as goal

pub returns-then-not-is_set : goal.returns-then-not-is_set
returns-then-not-is_set c =
    let x = c.args.self.now in
    let n = c.args.level in
    let within = level_within c.args.level c.in_ok-check_level.field-0 (sym c.check_level.ensures ∙ c.in_ok-check_level.was) in
    let done = answer_none x n within.0 within.1 (sym (c.is_set.ensures ∙ asks_at x n c.asked.result within.0 within.1 c.asked.ensures) ∙ c.if-not-is_set.true) in
    record { result = done.0; after = done.1 }

pub returns : goal.returns
returns c =
    let x = c.args.self.now in
    let n = c.args.level in
    let within = level_within c.args.level c.in_ok-check_level.field-0 (sym c.check_level.ensures ∙ c.in_ok-check_level.was) in
    let done = answer_some x n c.reply-reply.result c.note.new.self c.release.new.self within.0 within.1 (sym (c.is_set.ensures ∙ asks_at x n c.asked.result within.0 within.1 c.asked.ensures) ∙ c.if-not-is_set.false) c.reply-reply.ensures c.note.ensures c.release.ensures in
    record { result = done.0; after = done.1 }
