-- What a whole script promises its reader, proved of every text.
use Rattle.std.proofs.Common.{◌≡◌, ℕ, zero, suc, ◌+◌, ◌*◌, ◌/◌, ◌%◌, ◌≤◌, Bool, true, false, not, ◌&&◌, cond, eqb, ltb, List, [], ◌∷◌, ◌++◌, length, Some, None, Ok, Err, decimal, Option, Result, sym, refl, ap, ◌∙◌, subst, append_assoc, arith, lit<, lit≤}
use Rattle.std.specs.Fmt.{digits, digit_glyph, digits_onto}
use Rattle.std.specs.List.{list_all, onto_first, AllByRecursion}
use Rattle.std.specs.Result.{result_map_both}
use Rattle.std.proofs.lemmas.Nat.{mod_below}
use Rattle.std.proofs.lemmas.Bool.{lt-ltb, ne_eqb, both_ways, and_from, cond-true, cond-false}
use Rattle.std.proofs.lemmas.List.Folds.{list_all-append}
use Rattle.card.specs.declared.outcomes.Driven.{Driven}
use Rattle.card.specs.declared.outcomes.Driven.TheVariants.{Follow, Latched, Merged, Lost, Quiet}
use Rattle.card.specs.declared.outcomes.Reply.{Reply}
use Rattle.card.specs.declared.outcomes.Reply.TheVariants.{Byte, Outside}
use Rattle.card.specs.declared.faults.Layer.{Layer}
use Rattle.card.specs.declared.faults.Layer.TheVariants.{Script, Rack as RackLayer, Card as CardLayer}
use Rattle.card.specs.declared.faults.CardFault.{CardFault}
use Rattle.card.specs.declared.faults.CardFault.TheVariants.{Oversize, NoSource, NoRegister, NoAccess, BadLevel, NoControl}
use Rattle.card.specs.Words.{drive_word, layer_word, after}
use Rattle.card.specs.Source.{Source}
use Rattle.card.specs.Model.{drive_result, read_result, write_result}
use Rattle.card.specs.Withdrawing.{first_word}
use Rattle.processor.specs.declared.state.ProcessorCall.TheVariants.{Take as TakeIt, Acknowledge as AcknowledgeIt, Return as ReturnIt, Mask as MaskIt, Reset as ResetIt}
use Rattle.processor.specs.Steps.{gives}
use Rattle.processor.specs.declared.state.Done.{Done}
use Rattle.processor.specs.declared.state.Done.TheVariants.{Took as DoneTook, Opened, Returned as DoneReturned, Masked as DoneMasked, WasReset}
use Rattle.processor.specs.declared.state.ProcessorFault.{ProcessorFault}
use Rattle.processor.specs.declared.state.ProcessorFault.TheVariants.{BadMask, LevelTaken, NothingTaken, NotInnermost, Full, ServicesOpen}
use Rattle.rack.specs.declared.calls.Side.{Side}
use Rattle.rack.specs.declared.calls.Side.TheVariants.{Local, Chain}
use Rattle.rack.specs.declared.calls.Call.{Call}
use Rattle.rack.specs.declared.calls.Call.TheVariants.{Drive, Read, Write, Mask, Take, Acknowledge, Return, Reset}
use Rattle.rack.specs.declared.calls.Outcome.{Outcome}
use Rattle.rack.specs.declared.calls.Outcome.TheVariants.{Drove, Showed, Withdrew}
use Rattle.rack.specs.declared.faults.RackFault.{RackFault}
use Rattle.rack.specs.declared.faults.RackFault.TheVariants.{Card, Processor}
use Rattle.rack.specs.Machine.{Parts, State, reached_by, source_at, chosen_at, admitted, bus_lines, presented, done_gives, fit_gives, rack_gives, rack_leaves}
use Rattle.rack.specs.Words.{side_word, reached_fields}
use Rattle.runs.proofs.Edges.{by_size}
use Rattle.runs.proofs.Keeps.{refused_whole}
use Rattle.script.specs.declared.faults.ScriptFault.{ScriptFault}
use Rattle.script.specs.declared.faults.ScriptFault.TheVariants.{ShortOutput, LongLine, UnknownWord, WrongCount, BadField, LongScript, Rack}
use Rattle.script.specs.Pieces.{lines}
use Rattle.script.specs.Parse.{parsed}
use Rattle.script.specs.Printing.{result_fields, printed}
use Rattle.script.specs.Running.{of_rack, gives_by, leaves_by, line_gives, line_leaves, printed_by, too_long, output}
use Rattle.script.specs.Laws.{by_script, by_card, bad_mask, long_script, no_control, by_processor, Form, drive_form, drop_form, byte_form, ok_form, level_form, none_form, vector_form, outside_form, spurious_form, mask_form, drops_form, refused_form, StaysIfRefused, LineByLine, Promises}
use Rattle.script.proofs.Lines.{printed_step}

-- A text with no byte 10.
abbrev unbroken : List ℕ → Bool
unbroken = list_all (λ b. not (eqb b 10))

-- such a text is one line
first_line : (o rest : List ℕ) → unbroken o ≡ true → lines (o ++ 10 ∷ rest) ≡ o ∷ lines rest
unfolding lines
first_line [] rest h = refl
first_line (b ∷ bs) rest h = go (eqb b 10) h (first_line bs rest)
  where
    go : (v : Bool) → (not v && unbroken bs) ≡ true → (unbroken bs ≡ true → lines (bs ++ 10 ∷ rest) ≡ bs ∷ lines rest) → cond v ([] ∷ lines (bs ++ 10 ∷ rest)) (onto_first b (lines (bs ++ 10 ∷ rest))) ≡ (b ∷ bs) ∷ lines rest
    go true e f = absurd (both_ways false refl e)
    go false e f = ap (onto_first b) (f e)

-- a number
digit_unbroken : (n : ℕ) → eqb (digit_glyph false (n % 10)) 10 ≡ false
digit_unbroken n = let small = mod_below n 10 (lit< tt) in ap (λ d. eqb d 10) (cond-true (ltb (n % 10) 10) (48 + n % 10) _ (lt-ltb (n % 10) 10 small)) ∙ ne_eqb (48 + n % 10) 10 (λ e. omega arith)

spelled_unbroken : (k n : ℕ) (acc : List ℕ) → unbroken acc ≡ true → unbroken (digits_onto k 10 false n acc) ≡ true
spelled_unbroken zero n acc h = h
spelled_unbroken (suc k) n acc h = go (eqb (n / 10) 0) more (spelled_unbroken k (n / 10) (digit_glyph false (n % 10) ∷ acc) more)
  where
    more : unbroken (digit_glyph false (n % 10) ∷ acc) ≡ true
    more = and_from (not (eqb (digit_glyph false (n % 10)) 10)) (unbroken acc) (ap not (digit_unbroken n)) h

    go : (v : Bool) → unbroken (digit_glyph false (n % 10) ∷ acc) ≡ true → unbroken (digits_onto k 10 false (n / 10) (digit_glyph false (n % 10) ∷ acc)) ≡ true → unbroken (cond v (digit_glyph false (n % 10) ∷ acc) (digits_onto k 10 false (n / 10) (digit_glyph false (n % 10) ∷ acc))) ≡ true
    go true a b = a
    go false a b = b

number_unbroken : (n : ℕ) → unbroken (decimal n) ≡ true
unfolding digits
number_unbroken n = spelled_unbroken 64 n [] refl

-- the fields of a result
drive_unbroken : (d : Driven) → unbroken (drive_word d) ≡ true
drive_unbroken Follow = refl
drive_unbroken Latched = refl
drive_unbroken Merged = refl
drive_unbroken Lost = refl
drive_unbroken Quiet = refl

side_unbroken : (z : Side) → unbroken (side_word z) ≡ true
side_unbroken Local = refl
side_unbroken Chain = refl

layer_unbroken : (z : Layer) → unbroken (layer_word z) ≡ true
layer_unbroken Script = refl
layer_unbroken RackLayer = refl
layer_unbroken CardLayer = refl

form_unbroken : (fs : List (List ℕ)) → Form fs → AllByRecursion (λ f. unbroken f ≡ true) fs
form_unbroken fs (drive_form d) = (drive_unbroken d, tt)
form_unbroken fs (drop_form n) = (refl, (number_unbroken n, tt))
form_unbroken fs (byte_form n) = (refl, (number_unbroken n, tt))
form_unbroken fs ok_form = (refl, tt)
form_unbroken fs (level_form n) = (refl, (number_unbroken n, tt))
form_unbroken fs none_form = (refl, tt)
form_unbroken fs (vector_form z s v) = (refl, (side_unbroken z, (number_unbroken s, (number_unbroken v, tt))))
form_unbroken fs (outside_form z s) = (refl, (side_unbroken z, (number_unbroken s, tt)))
form_unbroken fs spurious_form = (refl, (refl, tt))
form_unbroken fs (mask_form n) = (refl, (number_unbroken n, tt))
form_unbroken fs (drops_form a b) = (refl, (number_unbroken a, (number_unbroken b, tt)))
form_unbroken fs (refused_form n z k l) = (refl, (number_unbroken n, (layer_unbroken z, (number_unbroken k, tt))))

after_unbroken : (t : List ℕ) (fs : List (List ℕ)) → unbroken t ≡ true → AllByRecursion (λ f. unbroken f ≡ true) fs → unbroken (after t fs) ≡ true
after_unbroken t [] h g = h
after_unbroken t (f ∷ fs) h g = after_unbroken (t ++ 9 ∷ f) fs (list_all-append (λ b. not (eqb b 10)) t (9 ∷ f) ∙ and_from (unbroken t) (unbroken f) h g.0) g.1

-- Every refusal is in the table.
card_form : (e : CardFault) → Form (result_fields (Err (Rack (Card e))))
card_form Oversize = refused_form 14 CardLayer 0 (by_card 14 (lit≤ tt) (lit≤ tt))
card_form (NoSource s) = refused_form 15 CardLayer s (by_card 15 (lit≤ tt) (lit≤ tt))
card_form (NoRegister r) = refused_form 16 CardLayer r (by_card 16 (lit≤ tt) (lit≤ tt))
card_form (NoAccess r) = refused_form 17 CardLayer r (by_card 17 (lit≤ tt) (lit≤ tt))
card_form (BadLevel n) = refused_form 18 CardLayer n (by_card 18 (lit≤ tt) (lit≤ tt))
card_form (NoControl c) = refused_form 20 CardLayer c no_control

processor_form : (e : ProcessorFault) → Form (result_fields (Err (Rack (Processor e))))
processor_form (BadMask m) = refused_form 18 RackLayer m bad_mask
processor_form (LevelTaken n) = refused_form 21 RackLayer n (by_processor 21 (lit≤ tt) (lit≤ tt))
processor_form NothingTaken = refused_form 22 RackLayer 0 (by_processor 22 (lit≤ tt) (lit≤ tt))
processor_form (NotInnermost d) = refused_form 23 RackLayer d (by_processor 23 (lit≤ tt) (lit≤ tt))
processor_form Full = refused_form 24 RackLayer 16 (by_processor 24 (lit≤ tt) (lit≤ tt))
processor_form (ServicesOpen k) = refused_form 25 RackLayer k (by_processor 25 (lit≤ tt) (lit≤ tt))

fault_form : (e : ScriptFault) → Form (result_fields (Err e))
fault_form ShortOutput = refused_form 9 Script 0 (by_script 9 (lit≤ tt) (lit≤ tt))
fault_form LongLine = refused_form 10 Script 0 (by_script 10 (lit≤ tt) (lit≤ tt))
fault_form UnknownWord = refused_form 11 Script 1 (by_script 11 (lit≤ tt) (lit≤ tt))
fault_form WrongCount = refused_form 12 Script 0 (by_script 12 (lit≤ tt) (lit≤ tt))
fault_form (BadField k) = refused_form 13 Script k (by_script 13 (lit≤ tt) (lit≤ tt))
fault_form LongScript = refused_form 19 Script 0 long_script
fault_form (Rack (Card e)) = card_form e
fault_form (Rack (Processor e)) = processor_form e

-- Every result has its form.
side_form : {A : Type 0} (make : A → Outcome) → ((a : A) → Form (result_fields (Ok (make a)))) → (r : Result A CardFault) → Form (result_fields (of_rack (result_map_both make Card r)))
side_form make h (Ok a) = h a
side_form make h (Err e) = card_form e

reply_form : (z : Side) (s : ℕ) (r : Reply) → Form (Rattle.rack.specs.Words.reply_fields z s r)
reply_form z s (Byte v) = vector_form z s v
reply_form z s Outside = outside_form z s

reached_form : (f g : ℕ → Source) (l : Option ℕ) (admits : Bool) (c : Option ℕ) → Form (reached_fields (reached_by f g l admits c))
unfolding digits
reached_form f g (Some s) admits c = reply_form Local s (f s).reply
reached_form f g None false c = spurious_form
reached_form f g None true (Some t) = reply_form Chain t (g t).reply
reached_form f g None true None = spurious_form

module _ {H C : Type 0} (p : Parts H C) (x : State H C) where
  done_form : (r : Result Done ProcessorFault) → Form (result_fields (of_rack (done_gives p x r)))
  done_form (Err e) = processor_form e
  done_form (Ok (DoneTook None)) = none_form
  done_form (Ok (DoneTook (Some n))) = level_form n
  done_form (Ok (Opened n)) = reached_form (source_at p Local x) (source_at p Chain x) (chosen_at p Local x n) (admitted p x n) (chosen_at p Chain x n)
  done_form (Ok (DoneReturned m)) = mask_form m
  done_form (Ok (DoneMasked m)) = ok_form
  done_form (Ok WasReset) = drops_form _ _

  fit_form : (c : Call) → Form (result_fields (of_rack (fit_gives p x c)))
  fit_form (Drive Local s w) = side_form Drove drive_form (drive_result p.handler x.handler s w)
  fit_form (Drive Chain s w) = side_form Drove drive_form (drive_result p.chain x.chain s w)
  fit_form (Read Local r) = side_form Showed byte_form (read_result p.handler x.handler r (bus_lines p x))
  fit_form (Read Chain r) = side_form Showed byte_form (read_result p.chain x.chain r (bus_lines p x))
  fit_form (Write Local r v) = side_form Withdrew (λ w. drop_form (first_word w)) (write_result p.handler x.handler r v)
  fit_form (Write Chain r v) = side_form Withdrew (λ w. drop_form (first_word w)) (write_result p.chain x.chain r v)
  fit_form (Mask m) = done_form (gives x.processor (MaskIt m))
  fit_form Take = done_form (gives x.processor (TakeIt (presented p x)))
  fit_form Acknowledge = done_form (gives x.processor AcknowledgeIt)
  fit_form (Return d) = done_form (gives x.processor (ReturnIt d))
  fit_form Reset = done_form (gives x.processor ResetIt)

  line_form : (r : Result Call ScriptFault) → Form (result_fields (gives_by p x r))
  line_form (Err e) = fault_form e
  line_form (Ok c) = by_size p x c (λ r y. Form (result_fields (of_rack r))) (card_form Oversize) (fit_form c)

  pub line_stays : (r : Result Call ScriptFault) → StaysIfRefused x (gives_by p x r) (leaves_by p x r)
  line_stays (Err e) = refl
  line_stays (Ok c) = go (rack_gives p x c) (refused_whole p x c)
    where
      go : (r : Result Outcome RackFault) → ((e : RackFault) → r ≡ Err e → rack_leaves p x c ≡ x) → StaysIfRefused x (of_rack r) (rack_leaves p x c)
      go (Ok o) h = tt
      go (Err e) h = h e refl

-- One output line for each line.
pub line_by_line : {H C : Type 0} (p : Parts H C) (x : State H C) (n : ℕ) (ts : List (List ℕ)) → LineByLine p x n ts (lines (printed_by p x n ts))
unfolding lines printed
line_by_line p x n [] = tt
line_by_line p x n (t ∷ ts) =
    let fs = result_fields (line_gives p x t) in
    let o = after (decimal n) fs in
    let form = line_form p x (parsed t) in
    let rest = printed_by p (line_leaves p x t) (n + 1) ts in
    let cut : lines (printed_by p x n (t ∷ ts)) ≡ o ∷ lines rest = ap lines (printed_step p x n t ts ∙ append_assoc o (10 ∷ []) rest) ∙ first_line o rest (after_unbroken (decimal n) fs (number_unbroken n) (form_unbroken fs form)) in
    subst (LineByLine p x n (t ∷ ts)) (sym cut) (record { text = refl; form = form; refused = line_stays p x (parsed t) }, line_by_line p (line_leaves p x t) (n + 1) ts)

pub promises : {H C : Type 0} (p : Parts H C) (x : State H C) (s out : List ℕ) → out ≡ output p x s → length out ≤ 32 * length s + 128 → Promises p x s out
promises p x s out e bound = record {
  each_line = λ h. subst (λ o. LineByLine p x 1 (lines s) (lines o)) (sym (e ∙ cond-false (too_long s) _ _ h)) (line_by_line p x 1 (lines s));
  too_long_refused = λ h. e ∙ cond-true (too_long s) _ _ h;
  bounded = bound;
}
