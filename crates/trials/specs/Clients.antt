-- A service that stopped hands on the token that is left, unspent.
use Rattle.std.specs.Prelude.{◌≡◌, ℕ, false, Ok, Err, Option, Result}
use Rattle.trials.specs.declared.clients.Stopped.{Stopped}
use Rattle.trials.specs.declared.clients.Stopped.TheVariants.{Before, Taken, Serving}

abbrev pub Handed : Result (Option ℕ) Stopped → Type 0
Handed (Ok mask) = Unit {0}
Handed (Err (Before fault)) = Unit {0}
Handed (Err (Taken refused)) = refused.token.spent ≡ false
Handed (Err (Serving refused)) = refused.token.spent ≡ false
