-- What a source is, when it asks, and which of those asking is answered.
use Rattle.std.specs.Prelude.{◌≡◌, ℕ, zero, suc, ◌<◌, ◌≤◌, Bool, true, false, cond, not, ◌&&◌, ◌||◌, Some, None, Option, ◌==◌, nat_lt}
use Rattle.card.specs.declared.outcomes.Reply.{Reply}

-- A source: one request input of a card.
pub record Source : Type 0 where
  -- its wire: asserted, or else negated
  pub wire : Bool
  -- its sort: edge, or else level
  pub edge : Bool
  -- the level at which it asks; at level 0 it never does
  pub level : ℕ
  -- what it answers an acknowledge with
  pub reply : Reply
  -- its rank: of the sources of a card that ask at one level, that of the smallest rank answers
  pub rank : ℕ
  -- armed: an edge of its wire is held; an edge while it is not armed is lost
  pub armed : Bool
  -- open: it may ask
  pub opened : Bool
  -- held: it latched an edge that is neither answered nor withdrawn yet
  pub held : Bool

-- A source asks exactly when its level is not 0, it is open, and it is held (edge) or its wire is asserted (level).
abbrev pub asking : Source → Bool
asking s = not (s.level == 0) && (s.opened && cond s.edge s.held s.wire)

unfoldable pub asking_at : ℕ → Source → Bool
asking_at n s = asking s && s.level == n

-- whether one of the first k sources asks at level n
unfoldable pub any_asks : (ℕ → Source) → ℕ → ℕ → Bool
any_asks f zero n = false
any_asks f (suc k) n = asking_at n (f k) || any_asks f k n

-- Source s asks at level n, and none of the first k sources that ask there has a smaller rank.
pub record Smallest (f : ℕ → Source) (n k s : ℕ) : Type 0 where
  pub within : s < k
  pub asks : asking_at n (f s) ≡ true
  pub least : (t : ℕ) → t < k → asking_at n (f t) ≡ true → (f s).rank ≤ (f t).rank

-- None of the first k sources asks at level n.
abbrev pub Nobody : (f : ℕ → Source) (n k : ℕ) → Type 0
Nobody f n k = (t : ℕ) → t < k → asking_at n (f t) ≡ false

-- What `pick`, below, finds.
abbrev pub Chosen : (f : ℕ → Source) (n k : ℕ) → Option ℕ → Type 0
Chosen f n k None = Nobody f n k
Chosen f n k (Some s) = Smallest f n k s

abbrev pub better : (ℕ → Source) → ℕ → Bool → Option ℕ → Option ℕ
better f k false o = o
better f k true None = Some k
better f k true (Some s) = cond (nat_lt (f k).rank (f s).rank) (Some k) (Some s)

-- the source of smallest rank that asks at level n, of the first k
unfoldable pub pick : (ℕ → Source) → ℕ → ℕ → Option ℕ
pick f n zero = None
pick f n (suc k) = better f k (asking_at n (f k)) (pick f n k)
