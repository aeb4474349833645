-- Each call does one of four things to a processor; from that alone, what holds over every run of any machine that has one.
use Rattle.std.proofs.Common.{◌≡◌, ℕ, ◌+◌, Bool, true, false, cond, eqb, ltb, List, [], ◌∷◌, map, length, Some, None, Ok, Err, Option, Result, refl, ap, ◌∙◌, arith}
use Rattle.card.specs.Runs.{Turn, turn_of, turns, end_of, one, count_of, Along}
use Rattle.card.proofs.Balances.{balance_run}
use Rattle.processor.specs.declared.state.State.{State}
use Rattle.processor.specs.declared.state.State.TheVariants.{Idle, Taken}
use Rattle.processor.specs.declared.state.ProcessorCall.{ProcessorCall}
use Rattle.processor.specs.declared.state.ProcessorCall.TheVariants.{Take, Acknowledge, Return, Mask, Reset}
use Rattle.processor.specs.declared.state.Done.{Done}
use Rattle.processor.specs.declared.state.Done.TheVariants.{Took, Returned, Masked}
use Rattle.processor.specs.declared.state.ProcessorFault.{ProcessorFault}
use Rattle.processor.specs.declared.state.ProcessorFault.TheVariants.{BadMask, LevelTaken, NotInnermost, Full}
use Rattle.processor.specs.Steps.{Proc, proc, return_gives, reset_gives, after, gives, leaves, fresh}
use Rattle.processor.specs.Events.{Event, took, opened, returned, other, is_took, is_opened, is_returned, level_after, masks_after, noted, PutsBack, is_taken, ProcessorKeeps, entry, log_of, did, own_log}

pub data Shape (p q : Proc) : Event → Type 0 where
  stays : q.state ≡ p.state → q.services ≡ p.services → Shape p q other
  takes : (n : ℕ) → p.state ≡ Idle → q.state ≡ Taken n p.mask → q.services ≡ p.services → Shape p q (took n)
  opens : (n found : ℕ) → p.state ≡ Taken n found → q.state ≡ Idle → q.services ≡ found ∷ p.services → Shape p q opened
  shuts : p.state ≡ Idle → q.state ≡ Idle → p.services ≡ q.mask ∷ q.services → Shape p q (returned q.mask)

-- every call of a processor
take_shape : (p : Proc) (n : ℕ) (room higher : Bool) → p.state ≡ Idle
    → let r : Result Done ProcessorFault = cond room (Ok (Took (cond higher (Some n) None))) (Err Full) in Shape p (after p r) (did r)
take_shape p n false higher e = stays refl refl
take_shape p n true false e = stays refl refl
take_shape p n true true e = takes n e refl refl

return_shape : (nu m : ℕ) (ms : List ℕ) (d : ℕ) → Shape (proc nu m Idle ms) (after (proc nu m Idle ms) (return_gives ms d)) (did (return_gives ms d))
return_shape nu m [] d = stays refl refl
return_shape nu m (k ∷ ms) d = go (eqb d (length (k ∷ ms)))
  where
    go : (this : Bool) → Shape (proc nu m Idle (k ∷ ms)) (after (proc nu m Idle (k ∷ ms)) (cond this (Ok (Returned k)) (Err (NotInnermost d)))) (did (cond this (Ok (Returned k)) (Err (NotInnermost d))))
    go true = shuts refl refl refl
    go false = stays refl refl

reset_shape : (p : Proc) (ms : List ℕ) → Shape p (after p (reset_gives ms)) (did (reset_gives ms))
reset_shape p [] = stays refl refl
reset_shape p (k ∷ ms) = stays refl refl

mask_shape : (p : Proc) (m : ℕ) (over : Bool) (r : Result Done ProcessorFault) → Shape p (after p r) (did r) → Shape p (after p (cond over (Err (BadMask m)) r)) (did (cond over (Err (BadMask m)) r))
mask_shape p m true r h = stays refl refl
mask_shape p m false r h = h

call_shape_in : (nu m : ℕ) (s : State) (ms : List ℕ) (c : ProcessorCall) → Shape (proc nu m s ms) (leaves (proc nu m s ms) c) (did (gives (proc nu m s ms) c))
call_shape_in nu m Idle ms (Take n) = take_shape (proc nu m Idle ms) n (ltb (length ms) 16) (ltb m n) refl
call_shape_in nu m Idle ms Acknowledge = stays refl refl
call_shape_in nu m Idle ms (Return d) = return_shape nu m ms d
call_shape_in nu m Idle ms (Mask k) = mask_shape (proc nu m Idle ms) k (ltb 7 k) (Ok (Masked k)) (stays refl refl)
call_shape_in nu m Idle ms Reset = reset_shape (proc nu m Idle ms) ms
call_shape_in nu m (Taken n f) ms (Take k) = stays refl refl
call_shape_in nu m (Taken n f) ms Acknowledge = opens n f refl refl refl
call_shape_in nu m (Taken n f) ms (Return d) = stays refl refl
call_shape_in nu m (Taken n f) ms (Mask k) = mask_shape (proc nu m (Taken n f) ms) k (ltb 7 k) (Err (LevelTaken n)) (stays refl refl)
call_shape_in nu m (Taken n f) ms Reset = stays refl refl

pub call_shape : (p : Proc) (c : ProcessorCall) → Shape p (leaves p c) (did (gives p c))
call_shape p c = call_shape_in p.number p.mask p.state p.services c

-- takes and acknowledges, acknowledges and returns
taken_balance : (p q : Proc) (e : Event) → Shape p q e → one (is_taken p.state) + one (is_took e) ≡ one (is_opened e) + one false + one (is_taken q.state)
taken_balance p q e s = grind arith

served_balance : (p q : Proc) (e : Event) → Shape p q e → length p.services + one (is_opened e) ≡ one (is_returned e) + one false + length q.services
served_balance p q e s = grind arith

none_of : {A : Type 0} (xs : List A) → count_of (λ _. false) xs ≡ 0
none_of [] = refl
none_of (x ∷ xs) = omega (arith, none_of xs)

count_map : {A B : Type 0} (f : A → B) (test : B → Bool) (xs : List A) → count_of test (map f xs) ≡ count_of (λ x. test (f x)) xs
count_map f test [] = refl
count_map f test (x ∷ xs) = omega (arith, count_map f test xs)

-- the masks that wait to be put back, and the level taken, by what the processor stores
abbrev pub waiting : State → List ℕ → List ℕ
waiting Idle ms = ms
waiting (Taken n found) ms = found ∷ ms

abbrev pub level_in : State → Option ℕ
level_in Idle = None
level_in (Taken n found) = Some n

pub level_kept : (p q : Proc) (e : Event) → Shape p q e → level_after e (level_in p.state) ≡ level_in q.state
level_kept p q e s = grind arith

masks_kept : (p q : Proc) (e : Event) → Shape p q e → masks_after p.mask e (waiting p.state p.services) ≡ waiting q.state q.services
masks_kept p q e s = grind arith

puts_back : (p q : Proc) (e : Event) → Shape p q e → (m : ℕ) → e ≡ returned m → (q.mask ≡ m) × ((rest : List ℕ) × (waiting p.state p.services ≡ m ∷ rest))
puts_back p q e s m h = (grind arith, (q.services, grind arith))

-- over a run of any machine that has a processor, and each of whose calls does one of the four
module _ {S C R : Type 0} (give : S → C → R) (next : S → C → S) (of : S → Proc) (event : Turn S C R → Event) (shape : (x : S) (c : C) → Shape (of x) (of (next x c)) (event (turn_of give next x c))) where
  run_puts_back : (x : S) (cs : List C) (masks : List ℕ) → masks ≡ waiting (of x).state (of x).services → Along noted PutsBack masks (log_of of event (turns give next x cs))
  run_puts_back x [] masks e = tt
  run_puts_back x (c ∷ cs) masks e = (
    (λ m h. let back = puts_back (of x) (of (next x c)) (event (turn_of give next x c)) (shape x c) m h in (back.0, (back.1.0, e ∙ back.1.1))),
    run_puts_back (next x c) cs (noted (entry of event (turn_of give next x c)) masks) (ap (noted (entry of event (turn_of give next x c))) e ∙ masks_kept (of x) (of (next x c)) (event (turn_of give next x c)) (shape x c)),
  )

  pub machine_keeps : (x : S) → (of x).state ≡ Idle → (of x).services ≡ [] → (cs : List C) → ProcessorKeeps (log_of of event (turns give next x cs)) (of (end_of next x cs))
  machine_keeps x idle none cs =
      let ts = turns give next x cs in
      record {
        taken_once = grind (
          arith,
          balance_run give next (λ y. one (is_taken (of y).state)) (λ t. is_took (event t)) (λ t. is_opened (event t)) (λ _. false) (λ y c. taken_balance (of y) (of (next y c)) (event (turn_of give next y c)) (shape y c)) x cs,
          none_of ts,
          count_map (entry of event) (λ e. is_took e.event) ts,
          count_map (entry of event) (λ e. is_opened e.event) ts,
        );
        served_once = grind (
          arith,
          balance_run give next (λ y. length (of y).services) (λ t. is_opened (event t)) (λ t. is_returned (event t)) (λ _. false) (λ y c. served_balance (of y) (of (next y c)) (event (turn_of give next y c)) (shape y c)) x cs,
          none_of ts,
          count_map (entry of event) (λ e. is_opened e.event) ts,
          count_map (entry of event) (λ e. is_returned e.event) ts,
        );
        put_back = run_puts_back x cs [] (rw (idle, none) refl);
      }

-- a processor alone
pub run_keeps : (n : ℕ) (cs : List ProcessorCall) → ProcessorKeeps (own_log (fresh n) cs) (end_of leaves (fresh n) cs)
run_keeps n cs = machine_keeps gives leaves (λ q. q) (λ t. did t.gave) call_shape (fresh n) refl refl cs
