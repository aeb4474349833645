-- What becomes of the edges that a card latches.
use Rattle.std.specs.Prelude.{◌≡◌, ℕ, ◌+◌, ◌<◌, Bool, true, false, ◌&&◌, List, Some, None, Ok, Err, Option, Result, ◌==◌}
use Rattle.card.specs.declared.faults.CardFault.{CardFault}
use Rattle.card.specs.declared.outcomes.Driven.{Driven}
use Rattle.card.specs.declared.outcomes.Driven.TheVariants.{Follow, Latched, Merged, Lost, Quiet}
use Rattle.card.specs.declared.outcomes.Answer.{Answer}
use Rattle.card.specs.declared.withdrawn.Withdrawn.{Withdrawn}
use Rattle.card.specs.declared.calls.CardCall.{CardCall}
use Rattle.card.specs.declared.calls.CardCall.TheVariants.{Drive, Read, Write, Answer as AnswerCall, Reset}
use Rattle.card.specs.declared.calls.CardResult.{CardResult}
use Rattle.card.specs.declared.calls.CardResult.TheVariants.{Drove, Showed, Withdrew, Answered}
use Rattle.card.specs.Withdrawing.{has}
use Rattle.card.specs.Model.{Model, source_of, drive_result, drive_exit, read_result, write_result, write_exit, answer_result, answer_exit, reset_result, reset_exit}
use Rattle.card.specs.Runs.{Turn, turns, end_of, one, count_of}

-- what a call of a card gives and leaves
abbrev pub gives : {X : Type 0} → Model X → X → CardCall → CardResult
gives c x (Drive s asserted) = Drove (drive_result c x s asserted)
gives c x (Read r lines) = Showed (read_result c x r lines)
gives c x (Write r v) = Withdrew (write_result c x r v)
gives c x (AnswerCall n) = Answered (answer_result c x n)
gives c x Reset = Withdrew (reset_result c x)

abbrev pub leaves : {X : Type 0} → Model X → X → CardCall → X
leaves c x (Drive s asserted) = drive_exit c x s asserted
leaves c x (Read r lines) = x
leaves c x (Write r v) = write_exit c x r v
leaves c x (AnswerCall n) = answer_exit c x n
leaves c x Reset = reset_exit c x

-- a drive that answered `latched`
abbrev pub is_latched : Driven → Bool
is_latched Follow = false
is_latched Latched = true
is_latched Merged = false
is_latched Lost = false
is_latched Quiet = false

abbrev pub latch : Result Driven CardFault → Bool
latch (Ok d) = is_latched d
latch (Err e) = false

-- withdrawn bits that have source s
abbrev pub tells : ℕ → Result Withdrawn CardFault → Bool
tells s (Ok w) = has w s
tells s (Err e) = false

-- an answer by source s
abbrev pub names : ℕ → Option Answer → Bool
names s None = false
names s (Some a) = a.source == s

abbrev pub by_source : ℕ → Result (Option Answer) CardFault → Bool
by_source s (Ok o) = names s o
by_source s (Err e) = false

-- In one call: an edge of source s was latched,
abbrev pub drives : ℕ → CardCall → Bool
drives s (Drive t asserted) = t == s
drives s (Read r lines) = false
drives s (Write r v) = false
drives s (AnswerCall n) = false
drives s Reset = false

abbrev pub gave_latch : CardResult → Bool
gave_latch (Drove r) = latch r
gave_latch (Showed r) = false
gave_latch (Withdrew r) = false
gave_latch (Answered r) = false

abbrev pub latched_in : {X : Type 0} → ℕ → Turn X CardCall CardResult → Bool
latched_in s t = drives s t.call && gave_latch t.gave

-- source s answered while of edge sort,
abbrev pub gave_answer : ℕ → CardResult → Bool
gave_answer s (Drove r) = false
gave_answer s (Showed r) = false
gave_answer s (Withdrew r) = false
gave_answer s (Answered r) = by_source s r

abbrev pub answered_in : {X : Type 0} → Model X → ℕ → Turn X CardCall CardResult → Bool
answered_in c s t = gave_answer s t.gave && (source_of c t.before s).edge

-- an edge of source s was reported withdrawn.
abbrev pub gave_withdrawn : ℕ → CardResult → Bool
gave_withdrawn s (Drove r) = false
gave_withdrawn s (Showed r) = false
gave_withdrawn s (Withdrew r) = tells s r
gave_withdrawn s (Answered r) = false

abbrev pub withdrawn_in : {X : Type 0} → ℕ → Turn X CardCall CardResult → Bool
withdrawn_in s t = gave_withdrawn s t.gave

-- 1 if source s holds an edge
abbrev pub holds : {X : Type 0} → Model X → X → ℕ → ℕ
holds c x s = one (source_of c x s).held

-- Over a run of calls from a state, for each source: what it held at first and the edges latched are together its answers as an
-- edge source, its edges reported withdrawn, and what it holds in the end.
abbrev pub EdgesKept : {X : Type 0} → Model X → X → List CardCall → Type 0
EdgesKept c x calls = (s : ℕ) → s < c.sources →
    holds c x s + count_of (latched_in s) (turns (gives c) (leaves c) x calls)
    ≡ count_of (answered_in c s) (turns (gives c) (leaves c) x calls) + count_of (withdrawn_in s) (turns (gives c) (leaves c) x calls) + holds c (end_of (leaves c) x calls) s
