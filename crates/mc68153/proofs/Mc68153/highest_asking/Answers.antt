use Rattle.std.proofs.Common.{◌≡◌, ℕ, ◌<◌, true, false, length, slice_index_or, ◌∙◌, arith, rules}
use Rattle.card.specs.Source.{asking_at}
use Rattle.mc68153.specs.Sheet.{input, input_source}
use Rattle.mc68153.proofs.Calls.{highest_some, highest_none}
use Rattle.mc68153.proofs.Mc68153.highest_asking.Goals as goal

pub returns-in_err-source : goal.returns-in_err-source
returns-in_err-source c =
    let four : length c.args.self.now.inputs ≡ 4 = search rules in
    let none : (t : ℕ) → t < length c.args.self.now.inputs → asking_at c.args.level (input_source t (slice_index_or c.args.self.now.inputs t (input 0 0 false))) ≡ false = search rules in
    c.from_residual.ensures ∙ highest_none c.args.self.now c.args.level (λ t h. none t (omega (arith, four)))

pub returns : goal.returns
returns c =
    let four : length c.args.self.now.inputs ≡ 4 = search rules in
    let within : c.in_ok-source.source < 4 = search rules in
    let asks : asking_at c.args.level (input_source c.in_ok-source.source (slice_index_or c.args.self.now.inputs c.in_ok-source.source (input 0 0 false))) ≡ true = search rules in
    let after : (t : ℕ) → c.in_ok-source.source < t → t < 4 → asking_at c.args.level (input_source t (slice_index_or c.args.self.now.inputs t (input 0 0 false))) ≡ false = search rules in
    highest_some c.args.self.now c.args.level c.in_ok-source.source within asks after
