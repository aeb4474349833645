-- What a line of a script says.
use Rattle.std.specs.Prelude.{ℕ, suc, cond, List, [], length, Some, None, Ok, Err, Option, Result, ◌==◌, nat_lt, slice_index_or}
use Rattle.std.specs.Option.{ok_or}
use Rattle.script.specs.declared.words.Word.{Word}
use Rattle.script.specs.declared.words.Word.TheVariants.{Line, Local, Put, Get, LocalPut, LocalGet, Mask, Take, Ack, Back, Reset}
use Rattle.rack.specs.declared.calls.Side.TheVariants.{Local as LocalSide, Chain}
use Rattle.rack.specs.declared.calls.Call.{Call}
use Rattle.rack.specs.declared.calls.Call.TheVariants.{Drive, Read, Write, Mask as MaskCall, Take as TakeCall, Acknowledge, Return, Reset as ResetCall}
use Rattle.script.specs.declared.faults.ScriptFault.{ScriptFault}
use Rattle.script.specs.declared.faults.ScriptFault.TheVariants.{LongLine, UnknownWord, WrongCount, BadField}
use Rattle.script.specs.Pieces.{fields}
use Rattle.script.specs.Format.{spelled, arity, numeral}

abbrev pub field_at : List (List ℕ) → ℕ → List ℕ
field_at fs k = slice_index_or fs k []

-- the one number behind the word, up to 255; the word is field 1, so the number is field 2
abbrev pub single : List (List ℕ) → Result ℕ ScriptFault
single fs = ok_or (numeral 255 (field_at fs 1)) (BadField 2)

-- the two numbers behind the word, of which the second goes up to top: the first bad field is the place
abbrev pub both_by : Option ℕ → Option ℕ → Result (ℕ × ℕ) ScriptFault
both_by None b = Err (BadField 2)
both_by (Some a) None = Err (BadField 3)
both_by (Some a) (Some b) = Ok (a, b)

abbrev pub both : ℕ → List (List ℕ) → Result (ℕ × ℕ) ScriptFault
both top fs = both_by (numeral 255 (field_at fs 1)) (numeral top (field_at fs 2))

abbrev pub with : {A : Type 0} → (A → Call) → Result A ScriptFault → Result Call ScriptFault
with make (Ok a) = Ok (make a)
with make (Err e) = Err e

-- the call of each word, with its numbers; a wire is 0, negated, or 1, asserted
abbrev pub call_of : Word → List (List ℕ) → Result Call ScriptFault
call_of Line fs = with (λ v. Drive Chain v.0 (v.1 == 1)) (both 1 fs)
call_of Local fs = with (λ v. Drive LocalSide v.0 (v.1 == 1)) (both 1 fs)
call_of Put fs = with (λ v. Write Chain v.0 v.1) (both 255 fs)
call_of Get fs = with (Read Chain) (single fs)
call_of LocalPut fs = with (λ v. Write LocalSide v.0 v.1) (both 255 fs)
call_of LocalGet fs = with (Read LocalSide) (single fs)
call_of Mask fs = with MaskCall (single fs)
call_of Take fs = Ok TakeCall
call_of Ack fs = Ok Acknowledge
call_of Back fs = with Return (single fs)
call_of Reset fs = Ok ResetCall

-- the word that a text spells
abbrev pub word_of : List ℕ → Result Word ScriptFault
word_of t = ok_or (spelled t) UnknownWord

-- by rising number: unknown word, wrong count of fields, bad field
abbrev pub worded : Result Word ScriptFault → List (List ℕ) → Result Call ScriptFault
worded (Err e) fs = Err e
worded (Ok w) fs = cond (length fs == suc (arity w)) (call_of w fs) (Err WrongCount)

-- the call that a line makes, or why it is refused: a line over 80 bytes before all else
unfoldable pub parsed : List ℕ → Result Call ScriptFault
parsed t = cond (nat_lt 80 (length t)) (Err LongLine) (worded (word_of (field_at (fields t) 0)) (fields t))
