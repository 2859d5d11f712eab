-- Lists of stretches, one laid over the other.
use Rattle.std.proofs.Common.{◌≡◌, ℕ, ◌≤◌, Bool, true, false, cond, List, [], ◌∷◌, ◌++◌, length, Option, refl, arith}
use Rattle.std.specs.Prelude.{nat_le, nat_lt}
use Rattle.std.specs.Option.{option_or}
use Rattle.std.proofs.lemmas.Bool.Decides.{nat_tests}
use Rattle.std.proofs.lemmas.List.{append_assoc}
use Rattle.il_base.specs.declared.cli_format.section.Section.{Section}
use Rattle.pe_image.specs.declared.stretches.Stretch.{Stretch}
use Rattle.pe_image.specs.Stretches.{found, AreAscending, both, is_upper_next, under, until, overlay}

if_true : {A : Type 0} (b : Bool) (x y : A) → b ≡ true → cond b x y ≡ x
if_true true x y h = refl
if_true false x y h = absurd cc

if_false : {A : Type 0} (b : Bool) (x y : A) → b ≡ false → cond b x y ≡ y
if_false true x y h = absurd cc
if_false false x y h = refl

-- ---- one stretch at a time

pub upper_next : (a b : Option Section) (x : Stretch) (xs ys : List Stretch) → is_upper_next (x ∷ xs) ys ≡ true
    → overlay a (x ∷ xs) b ys ≡ both x.from x.section b ∷ overlay x.section xs b ys
unfolding is_upper_next until overlay
upper_next a b x xs [] h = refl
upper_next a b x xs (y ∷ ys) h = if_true (nat_le x.from y.from) _ _ h

pub lower_next : (a b : Option Section) (y : Stretch) (xs ys : List Stretch) → is_upper_next xs (y ∷ ys) ≡ false
    → overlay a xs b (y ∷ ys) ≡ both y.from a y.section ∷ overlay a xs y.section ys
unfolding is_upper_next under until overlay
lower_next a b y [] ys h = refl
lower_next a b y (x ∷ xs) ys h = if_false (nat_le x.from y.from) _ _ h

pub upper_given : (a b : Option Section) (x : Stretch) (us xs ys : List Stretch) (s : Option Section) → is_upper_next us ys ≡ true → us ≡ x ∷ xs → s ≡ option_or x.section b
    → overlay a us b ys ≡ record { from = x.from; section = s } ∷ overlay x.section xs b ys
upper_given a b x us xs ys s h e f = let k = rw e at h in rw (e, f) (upper_next a b x xs ys k)

pub lower_given : (a b : Option Section) (y : Stretch) (xs ls ys : List Stretch) (s : Option Section) → is_upper_next xs ls ≡ false → ls ≡ y ∷ ys → s ≡ option_or a y.section
    → overlay a xs b ls ≡ record { from = y.from; section = s } ∷ overlay a xs y.section ys
lower_given a b y xs ls ys s h e f = let k = rw e at h in rw (e, f) (lower_next a b y xs ys k)

pub upper_there : (xs ys : List Stretch) → length xs ≡ 0 → is_upper_next xs ys ≡ true → ⊥
unfolding is_upper_next
upper_there [] ys e h = absurd cc
upper_there (x ∷ xs) ys e h = absurd (omega arith)

pub none_next : (a b : Option Section) (xs ys : List Stretch) → length ys ≡ 0 → is_upper_next xs ys ≡ false → overlay a xs b ys ≡ []
unfolding is_upper_next under overlay
none_next a b [] [] e h = refl
none_next a b (x ∷ xs) [] e h = absurd cc
none_next a b xs (y ∷ ys) e h = absurd (omega arith)

-- ---- what is found in both

first_case : (t : Bool) (a b u w : Option Section) → w ≡ option_or u b → cond t (option_or a b) w ≡ option_or (cond t a u) b
first_case true a b u w e = refl
first_case false a b u w e = e

upper_case : (t s : Bool) (a b u v w : Option Section) → (t ≡ true → s ≡ true) → w ≡ option_or u (cond s b v)
    → cond t (option_or a b) w ≡ option_or (cond t a u) (cond s b v)
upper_case true true a b u v w k e = refl
upper_case true false a b u v w k e = absurd (let f = k refl in cc)
upper_case false s a b u v w k e = e

lower_case : (t s : Bool) (a b u v w : Option Section) → (s ≡ true → t ≡ true) → w ≡ option_or (cond t a u) v
    → cond s (option_or a b) w ≡ option_or (cond t a u) (cond s b v)
lower_case t false a b u v w k e = e
lower_case true true a b u v w k e = refl
lower_case false true a b u v w k e = absurd (let f = k refl in cc)

below_too : (r m n : ℕ) → nat_le m n ≡ true → nat_lt r m ≡ true → nat_lt r n ≡ true
below_too r m n h k = grind (arith, nat_tests)

above_too : (r m n : ℕ) → nat_le m n ≡ false → nat_lt r n ≡ true → nat_lt r m ≡ true
above_too r m n h k = grind (arith, nat_tests)

under_case : (t : Bool) (a b v w : Option Section) → w ≡ option_or a v → cond t (option_or a b) w ≡ option_or a (cond t b v)
under_case true a b v w e = refl
under_case false a b v w e = e

under_found : (a b : Option Section) (ys : List Stretch) (r : ℕ) → found (option_or a b) (under a ys) r ≡ option_or a (found b ys r)
unfolding found under
under_found a b [] r = refl
under_found a b (y ∷ ys) r = under_case (nat_lt r y.from) a b (found y.section ys r) _ (under_found a y.section ys r)

-- what `rest` makes of the lower list, found after the stretch x of the upper one
abbrev Lays : ℕ → Stretch → List Stretch → (Option Section → List Stretch → List Stretch) → Type 0
Lays r x xs rest = (b : Option Section) (ys : List Stretch) → found (option_or x.section b) (rest b ys) r ≡ option_or (found x.section xs r) (found b ys r)

until_step : (c : Bool) (r : ℕ) (x y : Stretch) (xs ys : List Stretch) (rest : Option Section → List Stretch → List Stretch) (a b : Option Section)
    → nat_le x.from y.from ≡ c → Lays r x xs rest
    → found (option_or a y.section) (until x rest a y.section ys) r ≡ option_or (found a (x ∷ xs) r) (found y.section ys r)
    → found (option_or a b) (cond c (both x.from x.section b ∷ rest b (y ∷ ys)) (both y.from a y.section ∷ until x rest a y.section ys)) r
    ≡ option_or (found a (x ∷ xs) r) (found b (y ∷ ys) r)
unfolding found
until_step true r x y xs ys rest a b e h i =
    upper_case (nat_lt r x.from) (nat_lt r y.from) a b (found x.section xs r) (found y.section ys r) _ (below_too r x.from y.from e) (h b (y ∷ ys))
until_step false r x y xs ys rest a b e h i =
    lower_case (nat_lt r x.from) (nat_lt r y.from) a b (found x.section xs r) (found y.section ys r) _ (above_too r x.from y.from e) i

until_found : (r : ℕ) (x : Stretch) (xs : List Stretch) (rest : Option Section → List Stretch → List Stretch) → Lays r x xs rest
    → (a b : Option Section) (ys : List Stretch) → found (option_or a b) (until x rest a b ys) r ≡ option_or (found a (x ∷ xs) r) (found b ys r)
unfolding found until
until_found r x xs rest h a b [] = first_case (nat_lt r x.from) a b (found x.section xs r) _ (h b [])
until_found r x xs rest h a b (y ∷ ys) = until_step (nat_le x.from y.from) r x y xs ys rest a b refl h (until_found r x xs rest h a y.section ys)

pub overlay_found : (a b : Option Section) (xs ys : List Stretch) (r : ℕ) → found (option_or a b) (overlay a xs b ys) r ≡ option_or (found a xs r) (found b ys r)
unfolding found overlay
overlay_found a b [] ys r = under_found a b ys r
overlay_found a b (x ∷ xs) ys r = until_found r x xs (overlay x.section xs) (λ b ys. overlay_found x.section b xs ys r) a b ys

-- ---- both in order

at_most : (m n : ℕ) → nat_le m n ≡ true → m ≤ n
at_most m n h = grind (arith, nat_tests)

at_least : (m n : ℕ) → nat_le m n ≡ false → n ≤ m
at_least m n h = grind (arith, nat_tests)

under_order : (a : Option Section) (ys : List Stretch) (low : ℕ) → AreAscending low ys → AreAscending low (under a ys)
unfolding AreAscending under
under_order a [] low o = tt
under_order a (y ∷ ys) low o = (o.0, under_order a ys y.from o.1)

abbrev Keeps : ℕ → (Option Section → List Stretch → List Stretch) → Type 0
Keeps low rest = (b : Option Section) (ys : List Stretch) → AreAscending low ys → AreAscending low (rest b ys)

until_order_step : (c : Bool) (x y : Stretch) (ys : List Stretch) (rest : Option Section → List Stretch → List Stretch) (a b : Option Section) (low : ℕ)
    → nat_le x.from y.from ≡ c → Keeps x.from rest → low ≤ x.from → low ≤ y.from → AreAscending y.from ys
    → (y.from ≤ x.from → AreAscending y.from (until x rest a y.section ys))
    → AreAscending low (cond c (both x.from x.section b ∷ rest b (y ∷ ys)) (both y.from a y.section ∷ until x rest a y.section ys))
unfolding AreAscending
until_order_step true x y ys rest a b low e h l m o i = (l, h b (y ∷ ys) (at_most x.from y.from e, o))
until_order_step false x y ys rest a b low e h l m o i = (m, i (at_least x.from y.from e))

until_order : (x : Stretch) (rest : Option Section → List Stretch → List Stretch) → Keeps x.from rest
    → (a b : Option Section) (ys : List Stretch) (low : ℕ) → low ≤ x.from → AreAscending low ys → AreAscending low (until x rest a b ys)
unfolding AreAscending until
until_order x rest h a b [] low l o = (l, h b [] tt)
until_order x rest h a b (y ∷ ys) low l o =
    until_order_step (nat_le x.from y.from) x y ys rest a b low refl h l o.0 o.1 (λ m. until_order x rest h a y.section ys y.from m o.1)

pub overlay_order : (a b : Option Section) (xs ys : List Stretch) (low : ℕ) → AreAscending low xs → AreAscending low ys → AreAscending low (overlay a xs b ys)
unfolding AreAscending overlay
overlay_order a b [] ys low o p = under_order a ys low p
overlay_order a b (x ∷ xs) ys low o p = until_order x (overlay x.section xs) (λ b ys q. overlay_order x.section b xs ys x.from o.1 q) a b ys low o.0 p

-- ---- a loop over both

pub lays_more : (all : List Stretch) (x : Stretch) (left rest start : List Stretch) → all ++ left ≡ start → left ≡ x ∷ rest → (all ++ x ∷ []) ++ rest ≡ start
lays_more all x left rest start e f = simp append_assoc (rw f at e)

pub ruleset layers = (lays_more)
