-- The plain handler: no sources, no registers, and every level admitted.
use Rattle.std.specs.Prelude.{false, ◌&&◌, None, Ok, nat_le}
use Rattle.card.specs.declared.outcomes.Reply.TheVariants.{Outside}
use Rattle.card.specs.Source.{Source}
use Rattle.card.specs.Model.{Model}
use Rattle.plain.specs.declared.PlainHandler.{PlainHandler}

-- it has none: there is nothing to say of a source or a register of it
abbrev pub no_source : Source
no_source = record { wire = false; edge = false; level = 0; reply = Outside; rank = 0; armed = false; opened = false; held = false }

abbrev pub plain_model : Model PlainHandler
plain_model = record {
  sources = 0;
  registers = 0;
  meaning = λ x. record { source = λ s. no_source; reads = λ r lines. Ok 0; refuses = λ r v. None; admits = λ n. nat_le 1 n && nat_le n 7 };
  driven = λ x s w. x;
  written = λ x r v. x;
  answered = λ x n. x;
  cleared = λ x. x;
}
