-- What a check that a call makes first shows of the call.
use Rattle.std.proofs.Common.{◌≡◌, ℕ, ◌≤◌, true, false, cond, Some, None, Ok, Option, refl, arith}
use Rattle.std.proofs.lemmas.Bool.{and_parts, leb-true}
use Rattle.std.specs.Prelude.{nat_le, Bool, ◌&&◌, ⊤}
use Rattle.card.specs.declared.faults.CardFault.{CardFault}
use Rattle.card.specs.declared.faults.CardFault.TheVariants.{BadLevel}
use Rattle.card.specs.Model.{unless_refused, level_fault}

-- a check that passes has no fault
pub not_refused : {A : Type 0} (o : Option CardFault) (a b : A) → unless_refused o a ≡ Ok b → o ≡ None
not_refused None a b e = refl
not_refused (Some d) a b e = let no_way : ◌≡◌ {A = ℕ} 0 1 = cc in absurd (omega arith)

-- a level that passes is 1 to 7
pub level_within : (n : ℕ) (v : ⊤) → unless_refused (level_fault n) tt ≡ Ok v → (1 ≤ n) × (n ≤ 7)
level_within n v e = let both = and_parts (nat_le 1 n) (nat_le n 7) (go (nat_le 1 n && nat_le n 7) (not_refused (level_fault n) tt v e)) in (leb-true 1 n both.0, leb-true n 7 both.1)
  where
    go : (b : Bool) → cond b None (Some (BadLevel n)) ≡ None → b ≡ true
    go true q = refl
    go false q = let no_way : ◌≡◌ {A = ℕ} 0 1 = cc in absurd (omega arith)
