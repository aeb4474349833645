use Rattle.std.proofs.Common.{decimal, arith, rules}
use Rattle.std.proofs.lemmas.Fmt.{length-decimal-le}
use Rattle.script.specs.Printing.{printed}
use Rattle.script.proofs.Sizes.{refusal_room}
use Rattle.script.proofs.printing.show.Goals as goal
use Rattle.script.proofs.printing.show.Goals.{in-Ok, in-Err}

pub returns-clause-short : goal.returns-clause-short
unfolding printed
returns-clause-short c h =
    let few = length-decimal-le 5 c.args.number (omega arith) h (omega arith) in
    elim c.match-given.branch [
      | in-Ok w ↦ search rules
      | in-Err w ↦
          let fits = refusal_room (decimal c.args.number) w.from.result few (search rules) (search rules) in
          search rules
    ]
