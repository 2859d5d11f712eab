-- The one field of the core library, String.Empty, is the same in each world.
use Rattle.std.proofs.Common.{◌≡◌, ◌<◌, ℕ, zero, suc, ◌+◌, Bool, true, false, cond, List, [], ◌∷◌, ◌++◌, length, Option, Some, None, refl, sym, ap, ◌∙◌, arith, eq-eqb}
use Rattle.std.specs.Prelude.{slice_get, bit_and, codes, not, ◌==◌, ◌&&◌, ◌||◌, if◌then◌else◌}
use Rattle.std.specs.List.{list_any, flat_map, position_from}
use Rattle.std.specs.Option.{option_map, option_and_then}
use Rattle.il_base.specs.declared.outside.TheConstants.{GLOBAL_MEMBER, LAYOUT}
use Rattle.il_base.specs.declared.element.TheConstants.{STRING}
use Rattle.il_base.specs.declared.table.TheConstants.{FIELD}
use Rattle.il_base.specs.declared.sig.Sig.{Sig, roll-Sig, fold-roll-Sig}
use Rattle.il_base.specs.declared.sig.Sig.TheFolds.{map-Sig}
use Rattle.il_base.specs.declared.sig.Sig.TheOpen.{Sig-F}
use Rattle.il_base.specs.declared.sig.Sig.TheVariants as sig
use Rattle.il_base.specs.declared.world_model.known.Known.{Known}
use Rattle.il_base.specs.declared.world_model.known.Known.TheVariants.{Good, Bad}
use Rattle.il_base.specs.declared.world_model.known.BadKind.TheVariants.{Outside}
use Rattle.il_base.specs.declared.world_model.expr.TypeExpr.{TypeExpr}
use Rattle.il_base.specs.declared.world_model.expr.TypeExpr.TheVariants as expr
use Rattle.il_base.specs.declared.world_model.members.FieldRow.{FieldRow}
use Rattle.il_base.specs.declared.world_model.types.TypeDefRow.{TypeDefRow}
use Rattle.il_base.specs.declared.world_model.record.AsmRec.{AsmRec}
use Rattle.il_base.specs.world_model.Tokens.{token_of}
use Rattle.il_base.specs.world_model.Worlds.{sig_layer, sig_expr, known_then}
use Rattle.il_base.specs.core_table.Members.{fields_of, methods_of}
use Rattle.il_base.specs.core_table.Record.{core_record, record_with, type_rows, type_row, field_row, all_fields}
use Rattle.rules.specs.declared.link_rules.row_at.RowAt.{RowAt}
use Rattle.rules.specs.link_rules.Types.{at_row}
use Rattle.rules.specs.link_rules.Signatures.{names_at}
use Rattle.rules.specs.link_rules.Members.{owns_field}
use Rattle.rules.specs.link_rules.Cycles.{listed, is_static_field}
use Rattle.rules.specs.type_rules.Rows.{type_row_at, owner_of_field, is_module_type}
use Rattle.rules.specs.mark_rules.BadItems.{is_global}
use Rattle.il_base.specs.declared.cil_values.definition.FieldDef.{FieldDef}
use Rattle.il_base.specs.declared.cil_values.definition.First.{First}
use Rattle.il_base.specs.declared.cil_values.definition.First.TheVariants.{EmptyText as empty_text, Bytes as bytes}
use Rattle.rules.specs.declared.view_rules.seen_flags.TheConstants as seen
use Rattle.rules.specs.view_rules.Methods.{has_explicit_layout, field_type, bytes_by, first_bytes, first_of, field_owner, field_by, field_at}

-- ---- the row

pub record IsEmptyText (f : FieldRow) : Type 0 where
  pub flags : f.flags ≡ 0x36
  pub signature : f.signature ≡ Good (sig.Prim STRING)

same_row : (x f : FieldRow) → Some x ≡ Some f → x.flags ≡ 0x36 → x.signature ≡ Good (sig.Prim STRING) → IsEmptyText f
same_row x f e a b =
    let same : x ≡ f = cc in
    record { flags = sym (ap (λ (y : FieldRow). y.flags) same) ∙ a; signature = sym (ap (λ (y : FieldRow). y.signature) same) ∙ b }

pub core_field : (r : ℕ) (f : FieldRow) → slice_get core_record.field r ≡ Some f → (r ≡ 0) × IsEmptyText f
unfolding core_record record_with all_fields fields_of field_row
core_field zero f e = (refl, same_row _ f e refl refl)
core_field (suc r) f e = absurd (cc)

-- ---- its type is String

string_owns : position_from (owns_field 1) 0 core_record.type_def ≡ Some 20
unfolding core_record record_with type_rows type_row fields_of methods_of
string_owns = refl

front_by : (d k : ℕ) (b : Bool) (o q : Option ℕ) → (o ≡ Some k → q ≡ Some k) → cond b (Some d) o ≡ Some k → cond b (Some d) q ≡ Some k
front_by d k true o q more e = e
front_by d k false o q more e = more e

front_found : {A : Type 0} (t : A → Bool) (xs ys : List A) (d k : ℕ) → position_from t d xs ≡ Some k → position_from t d (xs ++ ys) ≡ Some k
front_found t [] ys d k e = absurd (cc)
front_found t (x ∷ xs) ys d k e = front_by d k (t x) (position_from t (d + 1) xs) (position_from t (d + 1) (xs ++ ys)) (front_found t xs ys (d + 1) k) e

module _ (recs : List AsmRec) (a : ℕ) (rec : AsmRec) (last : suc a ≡ length recs) (here : slice_get recs a ≡ Some rec) where
  -- a row of a type after the first is no `<Module>`
  module_by : (o : Option TypeDefRow) → (list_any (is_module_type 20) (listed o) || false) ≡ false
  module_by None = refl
  module_by (Some row) = refl

  not_module : is_global recs (Some (at_row a 20)) ≡ false
  not_module = module_by (type_row_at recs (at_row a 20))

  prim_sig : (n : ℕ) → sig_expr (names_at recs a rec) (sig.Prim n) ≡ Good (expr.Prim n)
  unfolding sig_expr
  prim_sig n = ap (sig_expr (names_at recs a rec)) (sym (sig.rolls-Prim n)) ∙ fold-roll-Sig (Known TypeExpr) (sig_layer (names_at recs a rec)) (Sig-F.Prim n)

  module _ (added : List TypeDefRow) (types : rec.type_def ≡ core_record.type_def ++ added) (f : FieldRow) (row : slice_get rec.field 0 ≡ Some f) (is : IsEmptyText f) where
    owner : owner_of_field rec 0 ≡ Some 20
    owner = ap (position_from (owns_field 1) 0) types ∙ front_found (owns_field 1) core_record.type_def added 0 20 string_owns

    static : not (is_static_field f) ≡ false
    static = ap (λ (n : ℕ). not (is_static_field (record f { flags = n }))) is.flags

    abbrev typ_by : Bool → Bool → Known TypeExpr → Known TypeExpr
    typ_by global laid t = if global then Bad (Outside GLOBAL_MEMBER) else if laid then Bad (Outside LAYOUT) else t

    typ_is : field_type recs (at_row a 0) rec (Some (at_row a 20)) f ≡ Good (expr.Prim STRING)
    typ_is =
        (λ i. typ_by (not_module i) (static i && has_explicit_layout recs (Some (at_row a 20))) (known_then (sig_expr (names_at recs a rec)) (is.signature i)))
        ∙ prim_sig STRING

    first_is : first_of recs (at_row a 0) rec (Some (at_row a 20)) ≡ empty_text
    first_is =
        ap
        (λ (b : Bool). if b then empty_text else if is_global recs (Some (at_row a 20)) then bytes (Bad (Outside GLOBAL_MEMBER)) else first_bytes (flat_map (bytes_by (token_of FIELD 1)) rec.field_rva))
        (eq-eqb (suc a) (length recs) last)

    owner_is : field_owner (at_row a 0) rec ≡ Some (at_row a 20)
    owner_is = ap (option_map (at_row a)) owner

    abbrev definition : FieldDef
    definition = record { flags = bit_and f.flags seen.FIELD; typ = Good (expr.Prim STRING); first = empty_text }

    by_owner : field_by recs (at_row a 0) rec f ≡ definition
    by_owner =
        ap (λ (o : Option RowAt). record { flags = bit_and f.flags seen.FIELD; typ = field_type recs (at_row a 0) rec o f; first = first_of recs (at_row a 0) rec o }) owner_is
        ∙ (λ i. record { flags = bit_and f.flags seen.FIELD; typ = typ_is i; first = first_is i })

    pub core_definition : field_at recs (at_row a 0) ≡ Some (record { flags = bit_and f.flags seen.FIELD; typ = Good (expr.Prim STRING); first = empty_text })
    core_definition =
        ap (option_and_then (λ (rec : AsmRec). option_map (field_by recs (at_row a 0) rec) (slice_get rec.field 0))) here
        ∙ ap (option_map (field_by recs (at_row a 0) rec)) row ∙ ap Some by_owner
