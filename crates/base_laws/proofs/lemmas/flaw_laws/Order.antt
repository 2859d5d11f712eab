-- The order of flaws is strict.
use Rattle.std.proofs.Common.{◌≡◌, ◌<◌, ℕ, Bool, true, false, nat_lt, nat_eq, ◌⊎◌, inl, inr, refl, ◌∙◌, arith}
use Rattle.std.specs.Prelude.{◌&&◌, ◌||◌}
use Rattle.std.proofs.lemmas.Bool.{and_parts, ltb-true, lt-ltb, eqb-true, eq-eqb}
use Rattle.rules.specs.mark_rules.BadItems.{Flaw, before, rank}

-- ---- one number first, then the rest

abbrev lex : ℕ → ℕ → Bool → Bool
lex x y r = nat_lt x y || nat_eq x y && r

or_cases : (b c : Bool) → (b || c) ≡ true → (b ≡ true) ⊎ (c ≡ true)
or_cases true c h = inl refl
or_cases false c h = inr h

or_left : (b c : Bool) → b ≡ true → (b || c) ≡ true
or_left true c h = refl
or_left false c h = absurd (cc)

or_right : (b c : Bool) → c ≡ true → (b || c) ≡ true
or_right true c h = refl
or_right false c h = h

both : (b c : Bool) → b ≡ true → c ≡ true → (b && c) ≡ true
both true c h k = k
both false c h k = absurd (cc)

lex_parts : (x y : ℕ) (r : Bool) → lex x y r ≡ true → (x < y) ⊎ ((x ≡ y) × (r ≡ true))
lex_parts x y r h =
    elim (or_cases (nat_lt x y) (nat_eq x y && r) h) [
      | inl l ↦ inl (ltb-true x y l)
      | inr k ↦ let p = and_parts (nat_eq x y) r k in inr (eqb-true x y p.0, p.1)
    ]

lex_less : (x y : ℕ) (r : Bool) → x < y → lex x y r ≡ true
lex_less x y r h = or_left (nat_lt x y) (nat_eq x y && r) (lt-ltb x y h)

lex_same : (x y : ℕ) (r : Bool) → x ≡ y → r ≡ true → lex x y r ≡ true
lex_same x y r e h = or_right (nat_lt x y) (nat_eq x y && r) (both (nat_eq x y) r (eq-eqb x y e) h)

lex_trans : (x y z : ℕ) (r s t : Bool) → (r ≡ true → s ≡ true → t ≡ true) → lex x y r ≡ true → lex y z s ≡ true → lex x z t ≡ true
lex_trans x y z r s t next h k =
    elim (lex_parts x y r h) [
      | inl l ↦ elim (lex_parts y z s k) [ inl m ↦ lex_less x z t (omega arith) | inr m ↦ lex_less x z t (omega arith) ]
      | inr l ↦ elim (lex_parts y z s k) [ inl m ↦ lex_less x z t (omega arith) | inr m ↦ lex_same x z t (l.0 ∙ m.0) (next l.1 m.1) ]
    ]

lex_not : (x : ℕ) (r : Bool) → (r ≡ true → ⊥) → lex x x r ≡ true → ⊥
lex_not x r never h = elim (lex_parts x x r h) [ inl l ↦ absurd (omega arith) | inr l ↦ never l.1 ]

less_trans : (x y z : ℕ) → nat_lt x y ≡ true → nat_lt y z ≡ true → nat_lt x z ≡ true
less_trans x y z h k = let l = ltb-true x y h in let m = ltb-true y z k in lt-ltb x z (omega arith)

less_not : (x : ℕ) → nat_lt x x ≡ true → ⊥
less_not x h = let l = ltb-true x x h in absurd (omega arith)

-- ---- flaws

abbrev by_kind : Flaw → Flaw → Bool
by_kind f g = nat_lt (rank f.kind) (rank g.kind)

abbrev by_offset : Flaw → Flaw → Bool
by_offset f g = lex f.offset g.offset (by_kind f g)

abbrev by_token : Flaw → Flaw → Bool
by_token f g = lex f.token g.token (by_offset f g)

pub before_trans : (f g h : Flaw) → before f g ≡ true → before g h ≡ true → before f h ≡ true
before_trans f g h =
    lex_trans f.asm g.asm h.asm (by_token f g) (by_token g h) (by_token f h)
    (lex_trans f.token g.token h.token (by_offset f g) (by_offset g h) (by_offset f h)
    (lex_trans f.offset g.offset h.offset (by_kind f g) (by_kind g h) (by_kind f h) (less_trans (rank f.kind) (rank g.kind) (rank h.kind))))

pub before_not : (f : Flaw) → before f f ≡ true → ⊥
before_not f = lex_not f.asm (by_token f f) (lex_not f.token (by_offset f f) (lex_not f.offset (by_kind f f) (less_not (rank f.kind))))
