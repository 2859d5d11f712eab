-- Definitions of types, and their ids.
use Rattle.std.proofs.Common.{◌≡◌, ℕ, ◌+◌, ◌<◌, Bool, true, nat_eq, List, length, Option, Some, None, refl, sym, ap, ◌∙◌, arith}
use Rattle.std.specs.Prelude.{slice_get}
use Rattle.std.specs.Option.{option_map, option_and_then}
use Rattle.std.proofs.lemmas.Bool.{lt-ltb, le-ltb, and_parts, and_from, eqb-true, eq-eqb}
use Rattle.std.proofs.lemmas.Bool.Decides.{same_from_decides}
use Rattle.il_base.specs.declared.ids.TypeId.{TypeId}
use Rattle.il_base.specs.declared.world_model.expr.TypeExpr.{TypeExpr}
use Rattle.il_base.specs.declared.world_model.record.AsmRec.{AsmRec}
use Rattle.il_base.specs.world_model.Worlds.{rows_before, types_in}
use Rattle.rules.specs.declared.link_rules.row_at.RowAt.{RowAt}
use Rattle.rules.specs.link_rules.Types.{at_row}
use Rattle.rules.specs.link_rules.Members.{home_from, type_home, type_count, owner_of}
use Rattle.rules.specs.link_rules.Cycles.{same_row, listed, home_of}
use Rattle.link_faults.specs.Targets.{id_of, id_below, target_of}
use Rattle.link_faults.proofs.Each.{Each}
use Rattle.link_faults.proofs.Ids.{Stands, home_at, home_is, below_count, none_past}

module _ (all : List AsmRec) where
  -- a row that stands for a type
  abbrev pub IsType : RowAt → Type 0
  IsType at = home_from types_in 0 all (id_of all at) ≡ Some at

  pub stands_is : (n : ℕ) (at : RowAt) → Stands all 0 n at → id_of all at ≡ n
  stands_is n at s =
      let e : at.asm ≡ s.asm = omega (arith, s.numbered) in
      ap (λ (a : ℕ). rows_before types_in all a + at.row) e ∙ sym s.id

  pub home_is_type : (t : TypeId) (at : RowAt) → type_home all t ≡ Some at → IsType at
  home_is_type t at e = ap (home_from types_in 0 all) (stands_is t.0 at (home_is all 0 t.0 at e)) ∙ e

  pub row_is_type : (a k : ℕ) (rec : AsmRec) → slice_get all a ≡ Some rec → k < length rec.type_def → IsType (at_row a k)
  row_is_type a k rec e lt = home_at all 0 a k rec e lt ∙ ap (λ (b : ℕ). Some (at_row b k)) (omega arith)

  -- ---- two types are one where their ids are

  same_decides : (x y : RowAt) (b : Bool) → same_row x y ≡ b → (b ≡ true → x ≡ y) × (x ≡ y → b ≡ true)
  same_decides x y b e = (
    λ h.
        let p = and_parts (nat_eq x.asm y.asm) (nat_eq x.row y.row) (e ∙ h) in
        λ i. at_row (eqb-true x.asm y.asm p.0 i) (eqb-true x.row y.row p.1 i),
    λ h. sym e ∙ and_from (nat_eq x.asm y.asm) (nat_eq x.row y.row) (eq-eqb x.asm y.asm (ap (λ (r : RowAt). r.asm) h)) (eq-eqb x.row y.row (ap (λ (r : RowAt). r.row) h)),
  )

  pub same_by_id : (x y : RowAt) → IsType x → IsType y → same_row x y ≡ nat_eq (id_of all x) (id_of all y)
  same_by_id x y p q =
      same_from_decides (same_row x y) (nat_eq (id_of all x) (id_of all y)) (same_decides x y (same_row x y) refl) (
        λ h. let e : Some x ≡ Some y = sym p ∙ ap (home_from types_in 0 all) (eqb-true (id_of all x) (id_of all y) h) ∙ q in cc,
        λ e. eq-eqb (id_of all x) (id_of all y) (ap (id_of all) e),
      )

  -- ---- what a type leads to

  home_id : (t : TypeId) (o : Option RowAt) → type_home all t ≡ o → option_map (id_of all) o ≡ id_below (type_count all) t
  unfolding type_count
  home_id t None e = rw (le-ltb t.0 (rows_before types_in all (length all)) (none_past all 0 t.0 e)) refl
  home_id t (Some at) e =
      let s = home_is all 0 t.0 at e in
      let f : rows_before types_in all s.asm + at.row < rows_before types_in all (length all) = below_count all s.asm at.row s.rec s.there s.below in
      let lt : t.0 < rows_before types_in all (length all) = rw s.id f in
      rw (lt-ltb t.0 (rows_before types_in all (length all)) lt) (ap (λ (n : ℕ). Some n) (stands_is t.0 at s))

  pub id_of_home : (t : TypeId) → option_map (id_of all) (type_home all t) ≡ id_below (type_count all) t
  id_of_home t = home_id t (type_home all t) refl

  owner_id : (o : Option TypeId) → option_map (id_of all) (option_and_then (type_home all) o) ≡ option_and_then (id_below (type_count all)) o
  owner_id None = refl
  owner_id (Some t) = id_of_home t

  pub id_of_definition : (e : TypeExpr) → option_map (id_of all) (home_of all e) ≡ target_of all e
  id_of_definition e = owner_id (owner_of all e)

  listed_types : (o : Option RowAt) (t : TypeId) → type_home all t ≡ o → Each IsType (listed o)
  listed_types None t e = tt
  listed_types (Some at) t e = (home_is_type t at e, tt)

  pub home_each : (t : TypeId) → Each IsType (listed (type_home all t))
  home_each t = listed_types (type_home all t) t refl

  owner_each : (o : Option TypeId) → Each IsType (listed (option_and_then (type_home all) o))
  owner_each None = tt
  owner_each (Some t) = home_each t

  pub definition_each : (e : TypeExpr) → Each IsType (listed (home_of all e))
  definition_each e = owner_each (owner_of all e)
