-- Full names are equal where their names and their enclosers are, and equal ones are hashed alike.
use Rattle.std.specs.Prelude.{◌≡◌, ℕ, ◌++◌, IsTrue, true, Option, Some, None, refl}
use Rattle.std.proofs.Common.{ap, sym, true≢false}
use Rattle.std.specs.Hash as fed
use Rattle.std.specs.Cmp.{IsEquivalence, and_equiv, on_equiv, nat_eq_equiv, unsigned_Decides, first_so, second_so}
use Rattle.std.specs.Cmp.Lexicographic.{nat_list_eq_equiv, pointwise_decides}
use Rattle.il_base.specs.world_model.Core.{same_name}
use Rattle.rules.specs.link_rules.Types.{same_place}
use Rattle.type_names.specs.declared.full_name.FullName.{FullName}
use Rattle.type_names.specs.FullNames.{name_of, same_full_name, hashed_name, hashed}

itself : (x : Option ℕ) → same_place x x ≡ true
itself None = refl
itself (Some j) = nat_eq_equiv.refl j

either_way : (x y : Option ℕ) → same_place x y ≡ same_place y x
either_way None None = refl
either_way None (Some k) = refl
either_way (Some j) None = refl
either_way (Some j) (Some k) = nat_eq_equiv.symm j k

alike : (x y z : Option ℕ) → same_place x y ≡ true → same_place x z ≡ same_place y z
alike None None z h = refl
alike None (Some k) z h = absurd (true≢false (sym h))
alike (Some j) None z h = absurd (true≢false (sym h))
alike (Some j) (Some k) None h = refl
alike (Some j) (Some k) (Some l) h = nat_eq_equiv.congr j k l h

pub same_place_is_equality : IsEquivalence same_place
same_place_is_equality = record { refl = itself; symm = either_way; congr = alike }

pub same_full_name_is_equality : IsEquivalence same_full_name
same_full_name_is_equality = and_equiv (on_equiv name_of nat_list_eq_equiv) (on_equiv (λ (f : FullName). f.around) same_place_is_equality)

pub same_only : (x y : Option ℕ) → same_place x y ≡ true → x ≡ y
same_only None None h = refl
same_only None (Some k) h = absurd (true≢false (sym h))
same_only (Some j) None h = absurd (true≢false (sym h))
same_only (Some j) (Some k) h = ap Some ((unsigned_Decides j k).0 h)

pub hashed_alike : (x y : FullName) → IsTrue (same_full_name x y) → hashed x ≡ hashed y
hashed_alike x y h =
    let names : name_of x ≡ name_of y = (pointwise_decides unsigned_Decides (name_of x) (name_of y)).0 (first_so (same_name (name_of x) (name_of y)) (same_place x.around y.around) h) in
    let places : x.around ≡ y.around = same_only x.around y.around (second_so (same_name (name_of x) (name_of y)) (same_place x.around y.around) h) in
    λ i. fed.option fed.u32 (places i) ++ hashed_name (names i)
