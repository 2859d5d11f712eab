-- The first place of each row.
use Rattle.std.proofs.Common.{◌≡◌, ℕ, suc, ◌+◌, ◌<◌, ◌≤◌, Bool, true, false, List, ◌∷◌, length, drop, get_or, Option, Some, None, refl, sym, ap, ◌∙◌, arith, drop-cons}
use Rattle.std.specs.Prelude.{nat_eq, ◌&&◌, if◌then◌else◌}
use Rattle.std.specs.List.{position_from}
use Rattle.std.specs.Option.{option_or}
use Rattle.std.proofs.lemmas.List.{drop_all}
use Rattle.std.proofs.lemmas.Iterator.Adapters.{position_from-zero}
use Rattle.std.proofs.lemmas.Bool.Decides.{nat_tests}
use Rattle.rules.specs.declared.link_rules.row_at.RowAt.{RowAt}
use Rattle.rules.specs.link_rules.Cycles.{same_row}
use Rattle.rules.specs.merge_rules.Numbers.{new_row}
use Rattle.merge_plan.specs.declared.keys.Spot.{Spot}
use Rattle.merge_plan.specs.Keys.{same_spot, spot_of}

turned_eq : (a b : ℕ) → nat_eq a b ≡ nat_eq b a
turned_eq a b = grind (arith, nat_tests)

spot_is : (spot : Spot) (q : RowAt) (at : RowAt) → spot ≡ spot_of at → same_spot spot (spot_of q) ≡ same_row q at
spot_is spot q at e = rw e (λ i. turned_eq at.asm q.asm i && turned_eq at.row q.row i)

first_step : {V : Type 0} (m : Option V) (b c : Bool) (v : V) (rest whole : Option V) → b ≡ c
    → option_or m (if c then Some v else rest) ≡ whole → option_or (option_or m (if b then Some v else None)) rest ≡ whole
first_step (Some w) b c v rest whole same e = e
first_step None true true v rest whole same e = e
first_step None true false v rest whole same e = cc
first_step None false true v rest whole same e = cc
first_step None false false v rest whole same e = e

-- one row more: its place is there, unless it has an earlier one
pub row_step : (rows : List RowAt) (i : ℕ) (at : RowAt) → i < length rows → at ≡ get_or rows i at → (spot : Spot) → spot ≡ spot_of at → (q : RowAt) (m n whole : Option ℕ)
    → n ≡ option_or m (if same_spot spot (spot_of q) then Some i else None)
    → option_or m (position_from (same_row q) i (drop i rows)) ≡ whole
    → option_or n (position_from (same_row q) (i + 1) (drop (i + 1) rows)) ≡ whole
row_step rows i at below is spot key q m n whole new old =
    let one : i + 1 ≡ suc i = omega arith in
    let front : drop i rows ≡ at ∷ drop (i + 1) rows = drop-cons rows i at below ∙ (λ j. sym is j ∷ drop (sym one j) rows) in
    rw new (first_step m (same_spot spot (spot_of q)) (same_row q at) i (position_from (same_row q) (i + 1) (drop (i + 1) rows)) whole (spot_is spot q at key)
    (ap (λ (rs : List RowAt). option_or m (position_from (same_row q) i rs)) (sym front) ∙ old))

or_none : {A : Type 0} (o : Option A) → option_or o None ≡ o
or_none None = refl
or_none (Some x) = refl

pub rows_all : (rows : List RowAt) (q : RowAt) (o : Option ℕ) (i : ℕ) → length rows ≤ i
    → option_or o (position_from (same_row q) i (drop i rows)) ≡ position_from (same_row q) 0 rows → o ≡ new_row rows q
rows_all rows q o i past e =
    sym (or_none o) ∙ ap (λ (rs : List RowAt). option_or o (position_from (same_row q) i rs)) (sym (drop_all i rows past)) ∙ e ∙ sym (position_from-zero (same_row q) rows)
