-- The first fault among demands that are joined.
use Rattle.std.proofs.Common.{◌≡◌, ℕ, zero, suc, ◌+◌, ◌-◌, ◌<◌, Bool, true, false, cond, List, [], ◌∷◌, ◌++◌, Option, Some, None, refl, sym, ◌∙◌, arith, inl, inr}
use Rattle.std.proofs.lemmas.Bool.{cases_lt}
use Rattle.il_base.specs.declared.cli_format.error.TablesError.{TablesError}
use Rattle.il_base.specs.declared.cli_format.error.TablesError.TheVariants.{Bad, Rows, NoMemory}
use Rattle.il_base.specs.cli_format.Demand.{Demand, demand, first_fault, each_below}
use Rattle.il_base.specs.cli_format.Metadata.{Refused}

abbrev or_else : {E : Type 0} → Option E → Option E → Option E
or_else None b = b
or_else (Some e) b = Some e

joined_step : {E : Type 0} (holds : Bool) (e : E) (a b c : Option E) → c ≡ or_else a b → cond holds c (Some e) ≡ or_else (cond holds a (Some e)) b
joined_step true e a b c h = h
joined_step false e a b c h = refl

joined : {E : Type 0} (a b : List (Demand E)) → first_fault (a ++ b) ≡ or_else (first_fault a) (first_fault b)
unfolding first_fault
joined [] b = refl
joined (d ∷ ds) b = joined_step d.holds d.refusal (first_fault ds) (first_fault b) (first_fault (ds ++ b)) (joined ds b)

-- all of both hold
pub none_then : {E : Type 0} (a b : List (Demand E)) → first_fault a ≡ None → first_fault b ≡ None → first_fault (a ++ b) ≡ None
none_then a b p q = rw (joined a b, p) q

-- a fault of the first
pub fault_first : {E : Type 0} (a b : List (Demand E)) (e : E) → first_fault a ≡ Some e → first_fault (a ++ b) ≡ Some e
fault_first a b e p = rw (joined a b, p) refl

-- a fault of the second, where all of the first hold
pub fault_second : {E : Type 0} (a b : List (Demand E)) (e : E) → first_fault a ≡ None → first_fault b ≡ Some e → first_fault (a ++ b) ≡ Some e
fault_second a b e p q = rw (joined a b, p) q

split : {E : Type 0} (a b : Option E) → or_else a b ≡ None → (a ≡ None) × (b ≡ None)
split None b p = (refl, p)
split (Some e) b p = absurd cc

pub none_of_both : {E : Type 0} (a b : List (Demand E)) → first_fault (a ++ b) ≡ None → (first_fault a ≡ None) × (first_fault b ≡ None)
none_of_both a b p = split (first_fault a) (first_fault b) (sym (joined a b) ∙ p)

-- one demand alone
pub one_holds : {E : Type 0} (holds : Bool) (e : E) → holds ≡ true → first_fault (demand holds e) ≡ None
unfolding first_fault demand
one_holds holds e p = rw p refl

pub one_fails : {E : Type 0} (holds : Bool) (e : E) → holds ≡ false → first_fault (demand holds e) ≡ Some e
unfolding first_fault demand
one_fails holds e p = rw p refl

one_step : {E : Type 0} (holds : Bool) (e : E) → cond holds None (Some e) ≡ None → holds ≡ true
one_step true e p = refl
one_step false e p = absurd cc

pub one_held : {E : Type 0} (holds : Bool) (e : E) → first_fault (demand holds e) ≡ None → holds ≡ true
unfolding first_fault demand
one_held holds e p = one_step holds e p

-- ---- counted demands

pub none_below : {E : Type 0} (f : ℕ → List (Demand E)) → first_fault (each_below f 0) ≡ None
unfolding each_below first_fault
none_below f = refl

pub none_more : {E : Type 0} (f : ℕ → List (Demand E)) (n : ℕ) → first_fault (each_below f n) ≡ None → first_fault (f n) ≡ None → first_fault (each_below f (n + 1)) ≡ None
unfolding each_below
none_more f n p q = let e : n + 1 ≡ suc n = omega arith in rw e (none_then (each_below f n) (f n) p q)

fault_at : {E : Type 0} (f : ℕ → List (Demand E)) (i d : ℕ) (e : E) → first_fault (each_below f i) ≡ Some e → first_fault (each_below f (d + i)) ≡ Some e
unfolding each_below
fault_at f i zero e p = let z : 0 + i ≡ i = omega arith in rw z p
fault_at f i (suc d) e p = let z : suc d + i ≡ suc (d + i) = omega arith in rw z (fault_first (each_below f (d + i)) (f (d + i)) e (fault_at f i d e p))

pub fault_here : {E : Type 0} (f : ℕ → List (Demand E)) (i n : ℕ) (e : E) → i < n → first_fault (each_below f i) ≡ None → first_fault (f i) ≡ Some e → first_fault (each_below f n) ≡ Some e
unfolding each_below
fault_here f i n e lt p q =
    let here : first_fault (each_below f (suc i)) ≡ Some e = fault_second (each_below f i) (f i) e p q in
    let z : n ≡ (n - suc i) + suc i = omega arith in
    rw z (fault_at f (suc i) (n - suc i) e here)

pub held_below : {E : Type 0} (f : ℕ → List (Demand E)) (i n : ℕ) → i < n → first_fault (each_below f n) ≡ None → first_fault (f i) ≡ None
unfolding each_below
held_below f i zero lt p = absurd (omega arith)
held_below f i (suc n) lt p =
    let both = none_of_both (each_below f n) (f n) p in
    elim (cases_lt i n) [
      | inl below ↦ held_below f i n below both.0
      | inr above ↦ (let e : i ≡ n = omega arith in rw e both.1)
    ]

-- ---- refusals, and want of memory

pub refused_memory : (fault : Option TablesError) → Refused NoMemory fault
unfolding Refused
refused_memory fault = tt

pub refused_by : (e : TablesError) (fault : Option TablesError) → fault ≡ Some e → Refused e fault
unfolding Refused
refused_by NoMemory fault p = tt
refused_by (Bad b) fault p = p
refused_by (Rows n) fault p = p

pub refused_first : (a b : List (Demand TablesError)) (e : TablesError) → Refused e (first_fault a) → Refused e (first_fault (a ++ b))
unfolding Refused
refused_first a b NoMemory p = tt
refused_first a b (Bad x) p = fault_first a b (Bad x) p
refused_first a b (Rows n) p = fault_first a b (Rows n) p

pub refused_second : (a b : List (Demand TablesError)) (e : TablesError) → first_fault a ≡ None → Refused e (first_fault b) → Refused e (first_fault (a ++ b))
unfolding Refused
refused_second a b NoMemory p q = tt
refused_second a b (Bad x) p q = fault_second a b (Bad x) p q
refused_second a b (Rows n) p q = fault_second a b (Rows n) p q

pub refused_here : (f : ℕ → List (Demand TablesError)) (i n : ℕ) (e : TablesError) → i < n → first_fault (each_below f i) ≡ None → Refused e (first_fault (f i)) → Refused e (first_fault (each_below f n))
unfolding Refused
refused_here f i n NoMemory lt p q = tt
refused_here f i n (Bad x) lt p q = fault_here f i n (Bad x) lt p q
refused_here f i n (Rows m) lt p q = fault_here f i n (Rows m) lt p q

pub ruleset refusals = (none_then, refused_first, refused_second, refused_by, refused_memory, none_below, none_more, refused_here)

pub ruleset faults = (none_then, fault_first, fault_second, none_below, none_more, fault_here)
