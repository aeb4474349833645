-- Two cards joined keep the card rules.
-- Proofs, and nothing to believe: they stand in specs/ since an impl can cite no other folder of its crate for its law.
use Rattle.std.specs.Prelude.{◌≡◌, ℕ, ◌+◌, ◌-◌, ◌<◌, ◌≤◌, Bool, true, false, cond, Some, None, Ok, Err, Option, Result, ◌≢◌, nat_lt, refl}
use Rattle.std.proofs.Common.{sym, ap, subst, ◌∙◌, inl, inr, arith}
use Rattle.std.proofs.lemmas.Bool.{cases_lt, lt-ltb, le-ltb, both_ways}
use Rattle.card.specs.declared.faults.CardFault.{CardFault}
use Rattle.card.specs.declared.faults.CardFault.TheVariants.{Oversize, NoSource, NoRegister, NoAccess, BadLevel, NoControl}
use Rattle.joined.specs.declared.Joined.{Joined}
use Rattle.card.specs.Source.{Source, asking_at, Smallest, Chosen, pick}
use Rattle.card.specs.Meaning.{Meaning, with_wire, fault_of}
use Rattle.card.specs.Model.{Model, source_of}
use Rattle.card.specs.Laws.{Lawful, Own, Refusing, DriveRule, WriteRule, AnswerRule, ResetRule, Stays, Laws}
use Rattle.joined.specs.Joining.{behind, refusal_behind, result_behind, joined, raised, both, pair, join, answered_by}
use Rattle.card.proofs.Picks.{pick_chosen, chosen_unique}

-- what holds of each source of both sides, by sides
by_sides : (k l : ℕ) (f r : ℕ → Source) (P : ℕ → Source → Type 0) → ((s : ℕ) → s < k → P s (f s)) → ((s : ℕ) → s < l → P (s + k) (raised k (r s))) → (s : ℕ) → s < k + l → P s (both k f r s)
by_sides k l f r P a b s h = elim (cases_lt s k) [
  | inl p ↦ rw (lt-ltb s k p) (a s p)
  | inr p ↦ rw (le-ltb s k p) (let e : (s - k) + k ≡ s = omega arith in subst (λ u. P u (raised k (r (s - k)))) e (b (s - k) (omega arith)))
]

-- and of each source before and after
by_sides₂ : (k l : ℕ) (f r f' r' : ℕ → Source) (P : ℕ → Source → Source → Type 0) → ((s : ℕ) → s < k → P s (f s) (f' s)) → ((s : ℕ) → s < l → P (s + k) (raised k (r s)) (raised k (r' s))) → (s : ℕ) → s < k + l → P s (both k f r s) (both k f' r' s)
by_sides₂ k l f r f' r' P a b s h = elim (cases_lt s k) [
  | inl p ↦ rw (lt-ltb s k p) (a s p)
  | inr p ↦ rw (le-ltb s k p) (let e : (s - k) + k ≡ s = omega arith in subst (λ u. P u (raised k (r (s - k))) (raised k (r' (s - k)))) e (b (s - k) (omega arith)))
]

pub joined_lawful : (k l j : ℕ) (f r : Meaning) → Lawful k f → Lawful l r → Lawful (k + l) (joined k j f r)
joined_lawful k l j f r a b = record { levels = by_sides k l f.source r.source (λ s x. x.level ≤ 7) a.levels b.levels; ranks_below = below; ranks_differ = differ; only_edges_held = edges; marks = λ n e. absurd (both_ways false refl e) }
  where
    below : (s : ℕ) → s < k + l → ((joined k j f r).source s).rank < k + l
    below = by_sides k l f.source r.source (λ s x. x.rank < k + l) (λ s h. omega (arith, a.ranks_below s h)) (λ s h. omega (arith, b.ranks_below s h))

    edges : (s : ℕ) → s < k + l → ((joined k j f r).source s).held ≡ true → ((joined k j f r).source s).edge ≡ true
    edges = by_sides k l f.source r.source (λ s x. x.held ≡ true → x.edge ≡ true) a.only_edges_held b.only_edges_held

    differ : (s t : ℕ) → s < k + l → t < k + l → ((joined k j f r).source s).rank ≡ ((joined k j f r).source t).rank → s ≡ t
    differ s t h g = elim (cases_lt s k) [
      | inl p ↦ elim (cases_lt t k) [
        | inl q ↦ rw (lt-ltb s k p, lt-ltb t k q) (a.ranks_differ s t p q)
        | inr q ↦ rw (lt-ltb s k p, le-ltb t k q) (λ e. let x = a.ranks_below s p in omega arith)
      ]
      | inr p ↦ elim (cases_lt t k) [
        | inl q ↦ rw (le-ltb s k p, lt-ltb t k q) (λ e. let x = a.ranks_below t q in omega arith)
        | inr q ↦ rw (le-ltb s k p, le-ltb t k q) (λ e. let u : s - k < l = omega arith in let v : t - k < l = omega arith in let w = b.ranks_differ (s - k) (t - k) u v (omega arith) in omega arith)
      ]
    ]

drives_front : (k l j s : ℕ) (w : Bool) (f f' r : Meaning) → s < k → DriveRule k f s w f' → DriveRule (k + l) (joined k j f r) s w (joined k j f' r)
drives_front k l j s w f f' r p d = record {
  this = rw (lt-ltb s k p) d.this;
  others = λ t h ne. elim (cases_lt t k) [ inl q ↦ rw (lt-ltb t k q) (d.others t q ne) | inr q ↦ rw (le-ltb t k q) refl ];
  marks = λ n. refl;
  write_refusals = λ a v. ap (λ o. cond (nat_lt a j) o (refusal_behind k j (r.refuses (a - j) v))) (d.write_refusals a v);
  read_refusals = λ a v. elim (cases_lt a j) [ inl q ↦ rw (lt-ltb a j q) (d.read_refusals a v) | inr q ↦ rw (le-ltb a j q) refl ];
}

wire_raised : (k : ℕ) (s : Source) (w : Bool) → raised k (with_wire s w) ≡ with_wire (raised k s) w
unfolding with_wire
wire_raised k s w = refl

fault_behind : (k j : ℕ) (a : Result ℕ CardFault) → fault_of (result_behind k j a) ≡ refusal_behind k j (fault_of a)
fault_behind k j (Ok v) = refl
fault_behind k j (Err e) = refl

-- what the rear itself refuses, the joined card itself refuses
own_behind : (k j r : ℕ) (e : CardFault) → Own r e → Own (r + j) (behind k j e)
own_behind k j r Oversize h = h
own_behind k j r (NoSource s) h = h
own_behind k j r (NoRegister s) h = h
own_behind k j r (NoAccess s) h = ap (λ n. n + j) h
own_behind k j r (BadLevel n) h = h
own_behind k j r (NoControl c) h = h

own_read : (k j r : ℕ) (a : Result ℕ CardFault) (e : CardFault) → ((d : CardFault) → a ≡ Err d → Own r d) → result_behind k j a ≡ Err e → Own (r + j) e
own_read k j r (Ok v) e h q = let no_way : ◌≡◌ {A = ℕ} 0 1 = cc in absurd (omega arith)
own_read k j r (Err d) e h q = let same : behind k j d ≡ e = cc in subst (Own (r + j)) same (own_behind k j r d (h d refl))

own_write : (k j r : ℕ) (a : Option CardFault) (e : CardFault) → ((d : CardFault) → a ≡ Some d → Own r d) → refusal_behind k j a ≡ Some e → Own (r + j) e
own_write k j r None e h q = let no_way : ◌≡◌ {A = ℕ} 0 1 = cc in absurd (omega arith)
own_write k j r (Some d) e h q = let same : behind k j d ≡ e = cc in subst (Own (r + j)) same (own_behind k j r d (h d refl))

joined_refusing : (k j i : ℕ) (f r : Meaning) → Refusing j f → Refusing i r → Refusing (j + i) (joined k j f r)
joined_refusing k j i f r a b = record {
  reads = λ s l e h. elim (cases_lt s j) [
    | inl p ↦ rw (lt-ltb s j p) (a.reads s l e p)
    | inr p ↦ rw (le-ltb s j p) (let u : (s - j) + j ≡ s = omega arith in subst (λ n. result_behind k j (r.reads (s - j) l) ≡ Err e → Own n e) u (own_read k j (s - j) (r.reads (s - j) l) e (λ d. b.reads (s - j) l d (omega arith))))
  ];
  writes = λ s l e h. elim (cases_lt s j) [
    | inl p ↦ rw (lt-ltb s j p) (a.writes s l e p)
    | inr p ↦ rw (le-ltb s j p) (let u : (s - j) + j ≡ s = omega arith in subst (λ n. refusal_behind k j (r.refuses (s - j) l) ≡ Some e → Own n e) u (own_write k j (s - j) (r.refuses (s - j) l) e (λ d. b.writes (s - j) l d (omega arith))))
  ];
}

drives_rear : (k l j s : ℕ) (w : Bool) (f r r' : Meaning) → k ≤ s → DriveRule l r (s - k) w r' → DriveRule (k + l) (joined k j f r) s w (joined k j f r')
drives_rear k l j s w f r r' p d = record {
  this = rw (le-ltb s k p) (ap (raised k) d.this ∙ wire_raised k (r.source (s - k)) w);
  others = λ t h ne. elim (cases_lt t k) [ inl q ↦ rw (lt-ltb t k q) refl | inr q ↦ rw (le-ltb t k q) (ap (raised k) (d.others (t - k) (omega arith) (λ e. ne (omega arith)))) ];
  marks = λ n. refl;
  write_refusals = λ a v. ap (λ o. cond (nat_lt a j) (f.refuses a v) (refusal_behind k j o)) (d.write_refusals (a - j) v);
  read_refusals = λ a v. elim (cases_lt a j) [ inl q ↦ rw (lt-ltb a j q) refl | inr q ↦ rw (le-ltb a j q) (fault_behind k j (r'.reads (a - j) v) ∙ ap (refusal_behind k j) (d.read_refusals (a - j) v) ∙ sym (fault_behind k j (r.reads (a - j) v))) ];
}

writes_front : (k l j : ℕ) (f f' r : Meaning) → WriteRule k f f' → WriteRule (k + l) (joined k j f r) (joined k j f' r)
writes_front k l j f f' r d = record {
  wires = by_sides₂ k l f.source r.source f'.source r.source (λ _ x y. y.wire ≡ x.wire) d.wires (λ s h. refl);
  none_held = by_sides₂ k l f.source r.source f'.source r.source (λ _ x y. y.held ≡ true → x.held ≡ true) d.none_held (λ s h e. e);
}

writes_rear : (k l j : ℕ) (f r r' : Meaning) → WriteRule l r r' → WriteRule (k + l) (joined k j f r) (joined k j f r')
writes_rear k l j f r r' d = record {
  wires = by_sides₂ k l f.source r.source f.source r'.source (λ _ x y. y.wire ≡ x.wire) (λ s h. refl) d.wires;
  none_held = by_sides₂ k l f.source r.source f.source r'.source (λ _ x y. y.held ≡ true → x.held ≡ true) (λ s h e. e) d.none_held;
}

joined_resets : (k l j : ℕ) (f r f' r' : Meaning) → ResetRule k f f' → ResetRule l r r' → ResetRule (k + l) (joined k j f r) (joined k j f' r')
joined_resets k l j f r f' r' a b = record {
  wires = by_sides₂ k l f.source r.source f'.source r'.source (λ _ x y. y.wire ≡ x.wire) a.wires b.wires;
  none_held = by_sides k l f'.source r'.source (λ _ y. y.held ≡ false) a.none_held b.none_held;
}

answers_front : (k l j s : ℕ) (f f' r : Meaning) → s < k → AnswerRule k f s f' → AnswerRule (k + l) (joined k j f r) s (joined k j f' r)
answers_front k l j s f f' r p d = record {
  stays = by_sides₂ k l f.source r.source f'.source r.source (λ _ x y. Stays x y) d.stays (λ t h. record { wire = refl; edge = refl; level = refl; reply = refl; rank = refl });
  this = rw (lt-ltb s k p) d.this;
  others = by_sides₂ k l f.source r.source f'.source r.source (λ t x y. (t ≢ s) → y.held ≡ x.held) d.others (λ t h ne. refl);
  marks = λ n. refl;
}

answers_rear : (k l j s : ℕ) (f r r' : Meaning) → AnswerRule l r s r' → AnswerRule (k + l) (joined k j f r) (s + k) (joined k j f r')
answers_rear k l j s f r r' d = record {
  stays = by_sides₂ k l f.source r.source f.source r'.source (λ _ x y. Stays x y) (λ t h. record { wire = refl; edge = refl; level = refl; reply = refl; rank = refl })
      (λ t h. let a = d.stays t h in record { wire = a.wire; edge = a.edge; level = a.level; reply = a.reply; rank = ap (λ n. n + k) a.rank });
  this = rw (le-ltb (s + k) k (omega arith)) (let e : s ≡ (s + k) - k = omega arith in subst (λ u. (r'.source u).held ≡ false) e d.this);
  others = by_sides₂ k l f.source r.source f.source r'.source (λ t x y. (t ≢ s + k) → y.held ≡ x.held) (λ t h ne. refl) (λ t h ne. d.others t h (λ e. ne (omega arith)));
  marks = λ n. refl;
}

none_behind : (k j : ℕ) (o : Option CardFault) → refusal_behind k j o ≡ None → o ≡ None
none_behind k j None e = refl
none_behind k j (Some d) e = let no_way : ◌≡◌ {A = ℕ} 0 1 = cc in absurd (omega arith)

-- which source of both sides is chosen
abbrev pub front_first : ℕ → Option ℕ → Option ℕ → Option ℕ
front_first k None None = None
front_first k None (Some t) = Some (t + k)
front_first k (Some s) b = Some s

pub asking_raised : (n k : ℕ) (s : Source) → asking_at n (raised k s) ≡ asking_at n s
unfolding asking_at
asking_raised n k s = refl

pub front_first_chosen : (k l n : ℕ) (f r : ℕ → Source) → ((s : ℕ) → s < k → (f s).rank < k) → (a b : Option ℕ) → Chosen f n k a → Chosen r n l b → Chosen (both k f r) n (k + l) (front_first k a b)
front_first_chosen k l n f r below None None p q = by_sides k l f r (λ s x. asking_at n x ≡ false) p (λ s h. asking_raised n k (r s) ∙ q s h)
front_first_chosen k l n f r below None (Some t) p q = record {
  within = omega (arith, q.within);
  asks = rw (le-ltb (t + k) k (omega arith)) (let e : t ≡ (t + k) - k = omega arith in subst (λ u. asking_at n (raised k (r u)) ≡ true) e (asking_raised n k (r t) ∙ q.asks));
  least = rw (le-ltb (t + k) k (omega arith)) (let e : t ≡ (t + k) - k = omega arith in subst (λ u. (s : ℕ) → s < k + l → asking_at n (both k f r s) ≡ true → (raised k (r u)).rank ≤ (both k f r s).rank) e
      (by_sides k l f r (λ s x. asking_at n x ≡ true → (r t).rank + k ≤ x.rank) (λ s h y. absurd (both_ways (asking_at n (f s)) (p s h) y)) (λ s h y. omega (arith, q.least s h (sym (asking_raised n k (r s)) ∙ y)))));
}
front_first_chosen k l n f r below (Some s) b p q = record {
  within = omega (arith, p.within);
  asks = rw (lt-ltb s k p.within) p.asks;
  least = rw (lt-ltb s k p.within) (by_sides k l f r (λ t x. asking_at n x ≡ true → (f s).rank ≤ x.rank) p.least (λ t h y. omega (arith, below s p.within)));
}

pub pick_both : (k l n : ℕ) (f r : Meaning) → Lawful k f → Lawful l r → pick (both k f.source r.source) n (k + l) ≡ front_first k (pick f.source n k) (pick r.source n l)
pick_both k l n f r a b = chosen_unique (both k f.source r.source) n (k + l) (joined_lawful k l 0 f r a b).ranks_differ _ _
    (pick_chosen (both k f.source r.source) n (k + l))
    (front_first_chosen k l n f.source r.source a.ranks_below (pick f.source n k) (pick r.source n l) (pick_chosen f.source n k) (pick_chosen r.source n l))

-- the answer of both sides
some_inj : (s t : ℕ) → ◌≡◌ {A = Option ℕ} (Some s) (Some t) → s ≡ t
some_inj s t e = cc

module _ {F R : Type 0} (a : Model F) (b : Model R) (la : Laws a) (lb : Laws b) (x : Joined F R) where
  answers_by : (n s : ℕ) → Smallest (both a.sources (source_of a x.front) (source_of b x.rear)) n (a.sources + b.sources) s → (p q : Option ℕ) → Chosen (source_of a x.front) n a.sources p → Chosen (source_of b x.rear) n b.sources q
      → Some s ≡ front_first a.sources p q
      → AnswerRule (a.sources + b.sources) ((join a b).meaning x) s ((join a b).meaning (answered_by p (a.answered x.front n) (b.answered x.rear n) x.front x.rear))
  answers_by n s h None None cp cq e = let z : ◌≡◌ {A = ℕ} 0 1 = cc in absurd (omega arith)
  answers_by n s h None (Some t) cp cq e =
      subst (λ u. AnswerRule (a.sources + b.sources) ((join a b).meaning x) u ((join a b).meaning (pair x.front (b.answered x.rear n)))) (sym (some_inj s (t + a.sources) e))
      (answers_rear a.sources b.sources a.registers t (a.meaning x.front) (b.meaning x.rear) (b.meaning (b.answered x.rear n)) (lb.answers x.rear n t cq))
  answers_by n s h (Some t) q cp cq e =
      subst (λ u. AnswerRule (a.sources + b.sources) ((join a b).meaning x) u ((join a b).meaning (pair (a.answered x.front n) x.rear))) (sym (some_inj s t e))
      (answers_front a.sources b.sources a.registers t (a.meaning x.front) (a.meaning (a.answered x.front n)) (b.meaning x.rear) cp.within (la.answers x.front n t cp))

pub join_laws : {F R : Type 0} (a : Model F) (b : Model R) → Laws a → Laws b → Laws (join a b)
join_laws a b la lb = record {
  lawful = λ x. joined_lawful a.sources b.sources a.registers (a.meaning x.front) (b.meaning x.rear) (la.lawful x.front) (lb.lawful x.rear);
  drives = λ x s w h. elim (cases_lt s a.sources) [
    | inl p ↦ rw (lt-ltb s a.sources p) (drives_front a.sources b.sources a.registers s w (a.meaning x.front) (a.meaning (a.driven x.front s w)) (b.meaning x.rear) p (la.drives x.front s w p))
    | inr p ↦ rw (le-ltb s a.sources p) (drives_rear a.sources b.sources a.registers s w (a.meaning x.front) (b.meaning x.rear) (b.meaning (b.driven x.rear (s - a.sources) w)) p (lb.drives x.rear (s - a.sources) w (omega arith)))
  ];
  refusing = λ x. joined_refusing a.sources a.registers b.registers (a.meaning x.front) (b.meaning x.rear) (la.refusing x.front) (lb.refusing x.rear);
  writes = λ x r v lt. elim (cases_lt r a.registers) [
    | inl p ↦ rw (lt-ltb r a.registers p) (λ h. writes_front a.sources b.sources a.registers (a.meaning x.front) (a.meaning (a.written x.front r v)) (b.meaning x.rear) (la.writes x.front r v p h))
    | inr p ↦ rw (le-ltb r a.registers p) (λ h. writes_rear a.sources b.sources a.registers (a.meaning x.front) (b.meaning x.rear) (b.meaning (b.written x.rear (r - a.registers) v)) (lb.writes x.rear (r - a.registers) v (omega arith) (none_behind a.sources a.registers ((b.meaning x.rear).refuses (r - a.registers) v) h)))
  ];
  answers = λ x n s h.
      answers_by a b la lb x n s h (pick (source_of a x.front) n a.sources) (pick (source_of b x.rear) n b.sources) (pick_chosen (source_of a x.front) n a.sources) (pick_chosen (source_of b x.rear) n b.sources)
      (chosen_unique (both a.sources (source_of a x.front) (source_of b x.rear)) n (a.sources + b.sources) (joined_lawful a.sources b.sources a.registers (a.meaning x.front) (b.meaning x.rear) (la.lawful x.front) (lb.lawful x.rear)).ranks_differ
      (Some s) (front_first a.sources (pick (source_of a x.front) n a.sources) (pick (source_of b x.rear) n b.sources)) h
      (front_first_chosen a.sources b.sources n (source_of a x.front) (source_of b x.rear) (la.lawful x.front).ranks_below (pick (source_of a x.front) n a.sources) (pick (source_of b x.rear) n b.sources) (pick_chosen (source_of a x.front) n a.sources) (pick_chosen (source_of b x.rear) n b.sources)));
  resets = λ x. joined_resets a.sources b.sources a.registers (a.meaning x.front) (b.meaning x.rear) (a.meaning (a.cleared x.front)) (b.meaning (b.cleared x.rear)) (la.resets x.front) (lb.resets x.rear);
}
