use Rattle.std.proofs.Common.{◌≡◌, Ok, sym, ap, ◌∙◌, arith, rules}
use Rattle.card.specs.Model.{capped_sources}
use Rattle.joined.proofs.JoinCalls.{front_answers, rear_within, rear_answers, answer_behind}
use Rattle.joined.proofs.JoinedCard.answer.Goals as goal

pub returns-in-Some : goal.returns-in-Some
returns-in-Some g c =
    let done = front_answers g.met.F.Card.laws g.met.R.Card.laws c.args.self.now c.args.level c.in_ok-check_size.ensures c.answer.new.self c.in-Some.answer (sym (ap Ok c.in-Some.is) ∙ c.in_ok-answer.ensures.result) c.answer.ensures.after in
    record { result = done.0; after = done.1 }

pub map-requires : goal.map-requires
map-requires g c = λ ans is.
    let within = rear_within g.met.F.Card.laws g.met.R.Card.laws c.args.self.now c.args.level c.in_ok-check_size.ensures ans (sym (ap Ok is) ∙ c.in_ok-rear.ensures.result) in
    ((λ _ _ count. omega (arith, count.ensures)), (λ _ _ count _. omega (arith, count.ensures, within)))

pub returns : goal.returns
returns g c =
    let raised : c.map.result ≡ answer_behind (capped_sources g.F.Card.model) c.in_ok-rear.rear = search rules in
    let done = rear_answers g.met.F.Card.laws g.met.R.Card.laws c.args.self.now c.args.level c.in_ok-check_size.ensures c.answer.new.self c.answer-2.new.self c.in_ok-rear.rear
    (sym (ap Ok c.in_default.is) ∙ c.in_ok-answer.ensures.result) c.answer.ensures.after c.in_ok-rear.ensures.result c.answer-2.ensures.after in
    record { result = ap Ok raised ∙ done.0; after = done.1 }
