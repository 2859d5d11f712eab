-- The flags of value types are those of the tables.
use Rattle.std.proofs.Common.{◌≡◌, inl, inr, ℕ, suc, ◌+◌, ◌-◌, Bool, true, false, not, nat_eq, ◌&&◌, ◌||◌, ◌==◌, List, length, Option, Some, None, refl, sym, ap, ◌∙◌, arith}
use Rattle.std.specs.Prelude.{slice_get}
use Rattle.std.specs.List.{list_any}
use Rattle.std.specs.Option.{option_map, option_and_then}
use Rattle.std.proofs.lemmas.Bool.{cases_lt, and_parts, and_from, eqb-true, eq-eqb}
use Rattle.std.proofs.lemmas.Bool.Decides.{same_from_decides, Decides-eqb, Decides-like}
use Rattle.il_base.specs.declared.world_model.expr.TypeExpr.{TypeExpr}
use Rattle.il_base.specs.declared.world_model.record.AsmRec.{AsmRec}
use Rattle.il_base.specs.declared.world_model.world.TypeLink.{TypeLink}
use Rattle.il_base.specs.world_model.Tokens.{token_of}
use Rattle.il_base.specs.world_model.Worlds.{rows_before, types_in}
use Rattle.il_base.specs.declared.core_table.tokens.TheConstants.{VALUE_TYPE, ENUM}
use Rattle.rules.specs.declared.link_rules.row_at.RowAt.{RowAt}
use Rattle.rules.specs.link_rules.Members.{is_interface_row, base_at}
use Rattle.rules.specs.link_rules.Cycles.{listed, home_of, is_core_row_at, extends_core, is_value_type}
use Rattle.rules.specs.link_rules.Laws.{TellTokens}
use Rattle.link_faults.specs.Targets.{id_of, target_of}
use Rattle.link_faults.specs.Supertypes.{base_target}
use Rattle.link_faults.specs.Values.{is_core_type, is_value, all_values}
use Rattle.link_faults.proofs.Each.{Each}
use Rattle.link_faults.proofs.Ids.{below_next, is_within}
use Rattle.link_faults.proofs.Defined.{IsType, definition_each}
use Rattle.link_faults.proofs.Typed.{TypeAt, type_at, item_within, of_type}
use Rattle.link_faults.proofs.SupersTold.{id_of_base, base_by, base_is}

-- ---- a type of the core library

module _ (all : List AsmRec) (j : ℕ) where
  -- the row j of the last assembly, by a token and by an id
  row_by_id : (x : RowAt) → TypeAt all x → id_of all x ≡ rows_before types_in all (length all - 1) + j → (suc x.asm ≡ length all) × (x.row ≡ j)
  row_by_id x t e =
      let in_all = is_within all x.asm t.rec t.there in
      elim (cases_lt x.asm (length all - 1)) [
        | inl lt ↦ absurd (let l = below_next all x.asm (length all - 1) x.row t.rec t.there (item_within t.rec.type_def x.row t.row t.is) lt in omega arith)
        | inr le ↦ (let here : x.asm ≡ length all - 1 = omega arith in let f : rows_before types_in all x.asm ≡ rows_before types_in all (length all - 1) = ap (rows_before types_in all) here in (omega arith, omega arith))
      ]

  id_by_row : (x : RowAt) → suc x.asm ≡ length all → x.row ≡ j → id_of all x ≡ rows_before types_in all (length all - 1) + j
  id_by_row x e f =
      let here : x.asm ≡ length all - 1 = omega arith in
      let g : rows_before types_in all x.asm ≡ rows_before types_in all (length all - 1) = ap (rows_before types_in all) here in
      omega arith

  pub core_row : (token : ℕ) → token ≡ 0x02000001 + j → (x : RowAt) → IsType all x → is_core_row_at all token x ≡ nat_eq (id_of all x) (rows_before types_in all (length all - 1) + j)
  core_row token is x t =
      let first : Bool = suc x.asm == length all in
      let second : Bool = token_of 0x02 (suc x.row) == token in
      same_from_decides (is_core_row_at all token x) (nat_eq (id_of all x) (rows_before types_in all (length all - 1) + j)) (
        (λ h. let p = and_parts first second h in let e = eqb-true (suc x.asm) (length all) p.0 in let f = eqb-true (token_of 0x02 (suc x.row)) token p.1 in id_by_row x e (omega arith)),
        (λ e. let p = row_by_id x (type_at all x t) e in and_from first second (eq-eqb (suc x.asm) (length all) p.0) (eq-eqb (token_of 0x02 (suc x.row)) token (let f = p.1 in omega arith))),
      ) (Decides-eqb (id_of all x) (rows_before types_in all (length all - 1) + j))

  pub own_row : (token : ℕ) → token ≡ 0x02000001 + j → (x : RowAt) → is_core_row_at all token x ≡ (nat_eq (suc x.asm) (length all) && nat_eq x.row j)
  own_row token is x =
      ap (λ (b : Bool). (suc x.asm == length all) && b)
      (same_from_decides (token_of 0x02 (suc x.row) == token) (nat_eq x.row j) (Decides-like _ (λ e. omega arith) (λ e. omega arith) (Decides-eqb (token_of 0x02 (suc x.row)) token)) (Decides-eqb x.row j))

-- ---- value types

module _ (all : List AsmRec) where
  base_types : (b : Option TypeExpr) → Each (IsType all) (listed (option_and_then (home_of all) b))
  base_types None = tt
  base_types (Some e) = definition_each all e

  or_false : (b : Bool) → (b || false) ≡ b
  or_false true = refl
  or_false false = refl

  core_by : (token j : ℕ) → token ≡ 0x02000001 + j → (o : Option RowAt) → Each (IsType all) (listed o) → (id : Option ℕ) → option_map (id_of all) o ≡ id
      → list_any (is_core_row_at all token) (listed o) ≡ is_core_type all token id
  core_by token j is None each id e = rw (← e) refl
  core_by token j is (Some x) each id e =
      let f : token - 0x02000001 ≡ j = omega arith in
      or_false (is_core_row_at all token x) ∙ core_row all j token is x each.0
      ∙ ap (λ (k : ℕ). nat_eq (id_of all x) (rows_before types_in all (length all - 1) + k)) (sym f)
      ∙ ap (is_core_type all token) e

  module _ (links : List TypeLink) (told : TellTokens all links) (at : RowAt) (t : TypeAt all at) where
    base_id : option_map (id_of all) (option_and_then (home_of all) (base_at all at)) ≡ base_target all links at.asm t.row
    base_id =
        id_of_base all (base_at all at) ∙ ap (option_and_then (target_of all)) (base_is all links told at t)
        ∙ base_by all links told at.asm t.rec t.there t.row (t.row.extends == 0 || is_interface_row t.row)

    extends_told : (token j : ℕ) → token ≡ 0x02000001 + j → extends_core all token at ≡ is_core_type all token (base_target all links at.asm t.row)
    extends_told token j is = core_by token j is (option_and_then (home_of all) (base_at all at)) (base_types (base_at all at)) (base_target all links at.asm t.row) base_id

    pub value_told : is_value_type all at ≡ is_value all links at.asm at.row t.row
    unfolding is_value_type
    value_told = λ i.
        (extends_told VALUE_TYPE 2 (omega arith) i && not (own_row all 3 ENUM (omega arith) at i)) || extends_told ENUM 3 (omega arith) i

  pub flag_told : (links : List TypeLink) → TellTokens all links → (at : RowAt) → IsType all at → slice_get (all_values all links) (id_of all at) ≡ Some (is_value_type all at)
  flag_told links told at is =
      let t = type_at all at is in
      of_type (λ a (rec : AsmRec). is_value all links a) all at t ∙ ap (λ (b : Bool). Some b) (sym (value_told links told at t))
