-- Runs: what each of a list of calls found, gave and left.
use Rattle.std.specs.Prelude.{ℕ, ◌+◌, Bool, cond, List, [], ◌∷◌}

-- one call of a run
pub record Turn (S C R : Type 0) : Type 0 where
  pub before : S
  pub call : C
  pub gave : R
  pub after : S

abbrev pub turn_of : {S C R : Type 0} → (S → C → R) → (S → C → S) → S → C → Turn S C R
turn_of give next x c = record { before = x; call = c; gave = give x c; after = next x c }

abbrev pub turns : {S C R : Type 0} → (S → C → R) → (S → C → S) → S → List C → List (Turn S C R)
turns give next x [] = []
turns give next x (c ∷ cs) = turn_of give next x c ∷ turns give next (next x c) cs

-- where the calls lead
abbrev pub end_of : {S C : Type 0} → (S → C → S) → S → List C → S
end_of next x [] = x
end_of next x (c ∷ cs) = end_of next (next x c) cs

abbrev pub one : Bool → ℕ
one b = cond b 1 0

-- how many pass the test
abbrev pub count_of : {A : Type 0} → (A → Bool) → List A → ℕ
count_of test [] = 0
count_of test (a ∷ rest) = one (test a) + count_of test rest

abbrev pub Every : {A : Type 0} → (A → Type 0) → List A → Type 0
Every P [] = Unit {0}
Every P (a ∷ rest) = P a × Every P rest

-- P of each, given what those before it add up to: s at first, and then as `note` has it
abbrev pub Along : {A S : Type 0} → (A → S → S) → (S → A → Type 0) → S → List A → Type 0
Along note P s [] = Unit {0}
Along note P s (a ∷ rest) = P s a × Along note P (note a s) rest
