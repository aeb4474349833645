-- How much a line prints, beside how long it is.
use Rattle.std.proofs.Common.{◌≡◌, ℕ, suc, ◌+◌, ◌*◌, ◌<◌, ◌≤◌, Bool, true, false, cond, eqb, leb, ltb, List, [], ◌∷◌, ◌++◌, length, Some, None, Ok, Err, Option, Result, refl, ap, arith}
use Rattle.std.specs.Str.{bytes_eq}
use Rattle.std.proofs.lemmas.Slice.Eq.{bytes_eq-Decides}
use Rattle.std.proofs.lemmas.Bool.{and_parts, leb-true}
use Rattle.std.proofs.lemmas.Fmt.{length-decimal-le}
use Rattle.std.proofs.lemmas.List.{length-append}
use Rattle.std.specs.List.{list_all, onto_first}
use Rattle.std.specs.Option.{ok_or}
use Rattle.card.specs.declared.faults.Layer.{Layer}
use Rattle.card.specs.declared.faults.Layer.TheVariants.{Script, Rack, Card}
use Rattle.card.specs.declared.faults.Refusal.{Refusal}
use Rattle.card.specs.Words.{layer_word, after, refusal_fields}
use Rattle.rack.specs.declared.calls.Call.{Call}
use Rattle.rack.specs.declared.calls.Outcome.{Outcome}
use Rattle.rack.specs.declared.faults.RackFault.{RackFault}
use Rattle.rack.specs.Machine.{Parts, State, rack_gives}
use Rattle.script.specs.declared.words.Word.{Word}
use Rattle.script.specs.declared.faults.ScriptFault.{ScriptFault}
use Rattle.script.specs.declared.faults.ScriptFault.TheVariants.{LongLine, UnknownWord}
use Rattle.script.specs.Pieces.{fields}
use Rattle.script.specs.Format.{name, among, words, spelled}
use Rattle.script.specs.Parse.{field_at, word_of, worded, parsed}
use Rattle.script.specs.Printing.{room}
use Rattle.script.specs.Running.{of_rack, gives_by, line_gives}

-- what fields take, each with its tab
abbrev size : List (List ℕ) → ℕ
size [] = 0
size (f ∷ fs) = 1 + length f + size fs

length_after : (t : List ℕ) (fs : List (List ℕ)) → length (after t fs) ≡ length t + size fs
length_after t [] = omega arith
length_after t (f ∷ fs) = omega (arith, length_after (t ++ 9 ∷ f) fs, length-append t (9 ∷ f))

layer_short : (l : Layer) → length (layer_word l) ≤ 6
layer_short Script = omega arith
layer_short Rack = omega arith
layer_short Card = omega arith

-- the line of a refusal, t being its number
pub refusal_room : (t : List ℕ) (r : Refusal) → length t ≤ 5 → r.number < 256 → r.place < 256 → length (after t (refusal_fields r) ++ 10 ∷ []) ≤ 32
refusal_room t r few n k =
    let number = length-decimal-le 3 r.number (omega arith) (omega (arith, n)) (omega (arith, n)) in
    let place = length-decimal-le 3 r.place (omega arith) (omega (arith, k)) (omega (arith, k)) in
    omega (arith, length-append (after t (refusal_fields r)) (10 ∷ []), length_after t (refusal_fields r), few, number, place, layer_short r.layer)

among_long : (ws : List Word) (t : List ℕ) (w : Word) → list_all (λ v. leb 3 (length (name v))) ws ≡ true → among ws t ≡ Some w → 3 ≤ length t
among_long [] t w long e = let no_way : ◌≡◌ {A = ℕ} 0 1 = cc in absurd (omega arith)
among_long (v ∷ ws) t w long e =
    let both = and_parts (leb 3 (length (name v))) (list_all (λ u. leb 3 (length (name u))) ws) long in
    go (bytes_eq t (name v)) refl e (leb-true 3 (length (name v)) both.0) (among_long ws t w both.1)
  where
    go : (b : Bool) → bytes_eq t (name v) ≡ b → cond b (Some v) (among ws t) ≡ Some w → 3 ≤ length (name v) → (among ws t ≡ Some w → 3 ≤ length t) → 3 ≤ length t
    go true same e long more = omega (arith, long, ap length ((bytes_eq-Decides t (name v)).0 same))
    go false same e long more = more e

-- the first field is no longer than the line
first_short : (t : List ℕ) → length (field_at (fields t) 0) ≤ length t
first_short [] = omega arith
first_short (x ∷ xs) = go (eqb x 9) (fields xs) (first_short xs)
  where
    go : (b : Bool) (fs : List (List ℕ)) → length (field_at fs 0) ≤ length xs → length (field_at (cond b ([] ∷ fs) (onto_first x fs)) 0) ≤ suc (length xs)
    go true fs h = omega arith
    go false [] h = omega arith
    go false (f ∷ fs) h = omega arith

-- so a line that makes a call has at least three bytes
parsed_long : (t : List ℕ) (c : Call) → parsed t ≡ Ok c → 3 ≤ length t
unfolding parsed
parsed_long t c e = go (ltb 80 (length t)) e
  where
    worded_long : (o : Option Word) → spelled (field_at (fields t) 0) ≡ o → worded (ok_or o UnknownWord) (fields t) ≡ Ok c → 3 ≤ length t
    worded_long None q e = let no_way : ◌≡◌ {A = ℕ} 0 1 = cc in absurd (omega arith)
    worded_long (Some w) q e = omega (arith, first_short t, among_long words (field_at (fields t) 0) w refl q)

    go : (b : Bool) → cond b (Err LongLine) (worded (word_of (field_at (fields t) 0)) (fields t)) ≡ Ok c → 3 ≤ length t
    go true e = let no_way : ◌≡◌ {A = ℕ} 0 1 = cc in absurd (omega arith)
    go false e = worded_long (spelled (field_at (fields t) 0)) refl e

-- what a line prints has room in 32 times the k bytes that it takes up in its script
pub line_room : {H C : Type 0} (p : Parts H C) (x : State H C) (t : List ℕ) (k : ℕ) → 1 ≤ k → length t ≤ k → room (line_gives p x t) ≤ 32 * k
line_room p x t k one le = go (parsed t) refl
  where
    any : (r : Result Outcome RackFault) → room (of_rack r) ≤ 96
    any (Ok o) = omega arith
    any (Err e) = omega arith

    go : (r : Result Call ScriptFault) → parsed t ≡ r → room (gives_by p x r) ≤ 32 * k
    go (Err e) q = omega arith
    go (Ok c) q = omega (arith, any (rack_gives p x c), parsed_long t c q)
