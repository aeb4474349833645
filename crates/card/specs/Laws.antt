-- The card rules: what every kind of card keeps, in every state and for every call.
use Rattle.std.specs.Prelude.{◌≡◌, ℕ, ◌<◌, ◌≤◌, Bool, true, false, Some, None, Err, ◌≢◌}
use Rattle.card.specs.declared.faults.CardFault.{CardFault}
use Rattle.card.specs.declared.faults.CardFault.TheVariants.{Oversize, NoSource, NoRegister, NoAccess, BadLevel, NoControl}
use Rattle.card.specs.Source.{Source, Smallest}
use Rattle.card.specs.Meaning.{Meaning, with_wire, fault_of}
use Rattle.card.specs.Model.{Model, source_of}

-- a state's sources, of which there are k
pub record Lawful (k : ℕ) (m : Meaning) : Type 0 where
  pub levels : (s : ℕ) → s < k → (m.source s).level ≤ 7
  pub ranks_below : (s : ℕ) → s < k → (m.source s).rank < k
  pub ranks_differ : (s t : ℕ) → s < k → t < k → (m.source s).rank ≡ (m.source t).rank → s ≡ t
  pub only_edges_held : (s : ℕ) → s < k → (m.source s).held ≡ true → (m.source s).edge ≡ true
  -- a mark is for one of the bus levels 1 to 7
  pub marks : (n : ℕ) → m.admits n ≡ true → (1 ≤ n) × (n ≤ 7)

-- what a card itself may refuse a call on register r with: no access to it, or no control register behind it
abbrev pub Own : ℕ → CardFault → Type 0
Own r Oversize = ⊥
Own r (NoSource s) = ⊥
Own r (NoRegister s) = ⊥
Own r (NoAccess s) = s ≡ r
Own r (BadLevel n) = ⊥
Own r (NoControl c) = Unit {0}

pub record Refusing (registers : ℕ) (m : Meaning) : Type 0 where
  pub reads : (r lines : ℕ) (e : CardFault) → r < registers → m.reads r lines ≡ Err e → Own r e
  pub writes : (r v : ℕ) (e : CardFault) → r < registers → m.refuses r v ≡ Some e → Own r e

-- A drive sets one wire and at most that source's held mark. But for what reads then show, nothing else changes.
pub record DriveRule (k : ℕ) (before : Meaning) (s : ℕ) (asserted : Bool) (after : Meaning) : Type 0 where
  pub this : after.source s ≡ with_wire (before.source s) asserted
  pub others : (t : ℕ) → t < k → (t ≢ s) → after.source t ≡ before.source t
  pub marks : (n : ℕ) → after.admits n ≡ before.admits n
  pub write_refusals : (r v : ℕ) → after.refuses r v ≡ before.refuses r v
  pub read_refusals : (r lines : ℕ) → fault_of (after.reads r lines) ≡ fault_of (before.reads r lines)

-- A write changes no wire and makes no source held.
pub record WriteRule (k : ℕ) (before after : Meaning) : Type 0 where
  pub wires : (t : ℕ) → t < k → (after.source t).wire ≡ (before.source t).wire
  pub none_held : (t : ℕ) → t < k → (after.source t).held ≡ true → (before.source t).held ≡ true

-- what an answer leaves of every source
pub record Stays (before after : Source) : Type 0 where
  pub wire : after.wire ≡ before.wire
  pub edge : after.edge ≡ before.edge
  pub level : after.level ≡ before.level
  pub reply : after.reply ≡ before.reply
  pub rank : after.rank ≡ before.rank

-- An answer by source s: it is not held afterwards, and every other held mark stays.
pub record AnswerRule (k : ℕ) (before : Meaning) (s : ℕ) (after : Meaning) : Type 0 where
  pub stays : (t : ℕ) → t < k → Stays (before.source t) (after.source t)
  pub this : (after.source s).held ≡ false
  pub others : (t : ℕ) → t < k → (t ≢ s) → (after.source t).held ≡ (before.source t).held
  pub marks : (n : ℕ) → after.admits n ≡ before.admits n

-- A reset keeps wires and holds nothing.
pub record ResetRule (k : ℕ) (before after : Meaning) : Type 0 where
  pub wires : (t : ℕ) → t < k → (after.source t).wire ≡ (before.source t).wire
  pub none_held : (t : ℕ) → t < k → (after.source t).held ≡ false

pub record Laws {X : Type 0} (c : Model X) : Type 0 where
  pub lawful : (x : X) → Lawful c.sources (c.meaning x)
  pub refusing : (x : X) → Refusing c.registers (c.meaning x)
  pub drives : (x : X) (s : ℕ) (asserted : Bool) → s < c.sources → DriveRule c.sources (c.meaning x) s asserted (c.meaning (c.driven x s asserted))
  pub writes : (x : X) (r v : ℕ) → r < c.registers → (c.meaning x).refuses r v ≡ None → WriteRule c.sources (c.meaning x) (c.meaning (c.written x r v))
  pub answers : (x : X) (n s : ℕ) → Smallest (source_of c x) n c.sources s → AnswerRule c.sources (c.meaning x) s (c.meaning (c.answered x n))
  pub resets : (x : X) → ResetRule c.sources (c.meaning x) (c.meaning (c.cleared x))

-- The notice of a level passed to the chain changes no source and no mark of a handler.
pub record NoticeRule (k : ℕ) (before after : Meaning) : Type 0 where
  pub sources : (t : ℕ) → t < k → after.source t ≡ before.source t
  pub marks : (n : ℕ) → after.admits n ≡ before.admits n

abbrev pub NoticeLaw : {X : Type 0} → Model X → (X → ℕ → X) → Type 0
NoticeLaw c noticed = (x : _) (n : ℕ) → NoticeRule c.sources (c.meaning x) (c.meaning (noticed x n))
