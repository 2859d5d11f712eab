-- What tokens name by the links of a world is what the rules of marking say that they name.
use Rattle.std.proofs.Common.{◌≡◌, ℕ, Bool, true, false, ◌==◌, List, Option, Some, None, refl, sym, ap, subst, ◌∙◌, arith}
use Rattle.std.specs.Prelude.{slice_get, if◌then◌else◌}
use Rattle.std.specs.Option.{option_map, option_and_then}
use Rattle.std.proofs.lemmas.Bool.{true≢false}
use Rattle.il_base.specs.declared.world_model.members.MemberRefRow.{MemberRefRow}
use Rattle.il_base.specs.declared.world_model.members.MethodSpecRow.{MethodSpecRow}
use Rattle.il_base.specs.declared.world_model.record.AsmRec.{AsmRec}
use Rattle.il_base.specs.world_model.Tokens.{table_of, row_index, index_in}
use Rattle.il_base.specs.world_model.Worlds.{known_or, row_below}
use Rattle.rules.specs.link_rules.Members.{methods_in, fields_in, method_def_use, field_def_use, method_ref_use, field_ref_use, method_spec_use, ref_use_at, def_use_at, generic_method}
use Rattle.rules.specs.link_rules.Linked.{assemblies, world_in}
use Rattle.base_laws.proofs.lemmas.link_laws.Tell.{all_tell}
use Rattle.rules.specs.mark_rules.Naming.{spec_use_at, method_named, field_def_at, field_ref_at, field_named}
use Rattle.base_laws.specs.world_laws.Tokens.{InWorlds, method_of_row, field_of_row, NamesTypes, NamesMethods, NamesFields}
use Rattle.base_laws.proofs.lemmas.world_laws.Told.{all_methods, all_fields}

module _ (all : List AsmRec) (a : ℕ) (rec : AsmRec) where
  -- ---- of one table

  method_def : (o : Option ℕ) → known_or (option_map (method_def_use all a rec) o) ≡ def_use_at all a rec o
  method_def None = refl
  method_def (Some k) = refl

  method_ref : (o : Option MemberRefRow) → known_or (option_map (method_ref_use all a rec) o) ≡ ref_use_at all a rec o
  method_ref None = refl
  method_ref (Some row) = refl

  method_spec : (o : Option MethodSpecRow) → known_or (option_map (method_spec_use all a rec) o) ≡ spec_use_at all a rec o
  method_spec None = refl
  method_spec (Some row) = refl

  field_def : (o : Option ℕ) → known_or (option_map (field_def_use all a rec) o) ≡ field_def_at all a rec o
  field_def None = refl
  field_def (Some k) = refl

  field_ref : (o : Option MemberRefRow) → known_or (option_map (field_ref_use all a rec) o) ≡ field_ref_at all a rec o
  field_ref None = refl
  field_ref (Some row) = refl

  -- ---- by the token's table

  method_by : (row : Option ℕ) (six ten spec : Bool) → (six ≡ true → spec ≡ false) → (ten ≡ true → spec ≡ false)
      → known_or
      (if six then option_map (method_def_use all a rec) (row_below (methods_in rec) (if six then row else None))
      else if ten then option_map (method_ref_use all a rec) (option_and_then (slice_get rec.member_ref) (if ten then row else None))
      else option_map (method_spec_use all a rec) (option_and_then (slice_get rec.method_spec) (if spec then row else None)))
      ≡ (if spec then spec_use_at all a rec (option_and_then (slice_get rec.method_spec) (if spec then row else None))
      else if six then def_use_at all a rec (row_below (methods_in rec) (if six then row else None))
      else ref_use_at all a rec (option_and_then (slice_get rec.member_ref) (if ten then row else None)))
  method_by row true ten true e f = absurd (true≢false (e refl))
  method_by row true ten false e f = method_def (row_below (methods_in rec) row)
  method_by row false true true e f = absurd (true≢false (f refl))
  method_by row false true false e f = method_ref (option_and_then (slice_get rec.member_ref) row)
  method_by row false false true e f = method_spec (option_and_then (slice_get rec.method_spec) row)
  method_by row false false false e f = refl

  differ : (t m n : ℕ) (ne : m ≡ n → ⊥) → (t == m) ≡ true → (t == n) ≡ false
  differ t m n ne e = grind arith

  method_is : (token : ℕ) → known_or (method_of_row all a rec token) ≡ method_named all a rec token
  unfolding method_of_row method_named generic_method
  method_is token =
      method_by (row_index token) (table_of token == 0x06) (table_of token == 0x0a) (table_of token == 0x2b) (differ (table_of token) 0x06 0x2b (omega arith)) (differ (table_of token) 0x0a 0x2b (omega arith))

  field_by : (i j : Option ℕ) (four : Bool)
      → known_or (if four then option_map (field_def_use all a rec) (row_below (fields_in rec) i) else option_map (field_ref_use all a rec) (option_and_then (slice_get rec.member_ref) j))
      ≡ (if four then field_def_at all a rec (row_below (fields_in rec) i) else field_ref_at all a rec (option_and_then (slice_get rec.member_ref) j))
  field_by i j true = field_def (row_below (fields_in rec) i)
  field_by i j false = field_ref (option_and_then (slice_get rec.member_ref) j)

  field_is : (token : ℕ) → known_or (field_of_row all a rec token) ≡ field_named all a rec token
  unfolding field_of_row field_named
  field_is token = field_by (index_in 0x04 token) (index_in 0x0a token) (table_of token == 0x04)

pub methods_named : InWorlds NamesMethods
methods_named w is a rec there token = ap known_or (all_methods w is a rec there token) ∙ method_is w.recs a rec token

pub fields_named : InWorlds NamesFields
fields_named w is a rec there token = ap known_or (all_fields w is a rec there token) ∙ field_is w.recs a rec token

types_of_world : (all : List AsmRec) → NamesTypes (world_in all)
unfolding world_in
types_of_world all a rec there token = (all_tell all _ refl).0 a rec there token

pub types_named : InWorlds NamesTypes
types_named w is = subst NamesTypes (sym is.linked) (types_of_world (assemblies is.inputs))
