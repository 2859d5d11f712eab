-- The graph of value types in fields is that of the tables.
use Rattle.std.proofs.Common.{◌≡◌, ℕ, ◌≤◌, Bool, true, false, List, [], ◌∷◌, ◌++◌, length, map, Option, Some, None, refl, sym, ap, subst, ◌∙◌}
use Rattle.std.specs.Prelude.{if◌then◌else◌, slice_get, unwrap_or}
use Rattle.std.specs.List.{flat_map}
use Rattle.std.proofs.lemmas.List.{append-nil, map-append}
use Rattle.std.proofs.lemmas.Option.{slice_get_past}
use Rattle.il_base.specs.declared.ids.TypeId.{TypeId}
use Rattle.il_base.specs.declared.sig.Sig.{Sig}
use Rattle.il_base.specs.declared.world_model.known.Known.{Known}
use Rattle.il_base.specs.declared.world_model.known.Known.TheVariants.{Good, Bad}
use Rattle.il_base.specs.declared.world_model.expr.TypeExpr.{TypeExpr, fold-roll-TypeExpr, ind-TypeExpr, roll-TypeExpr}
use Rattle.il_base.specs.declared.world_model.expr.TypeExpr.TheFolds.{map-TypeExpr}
use Rattle.il_base.specs.declared.world_model.expr.TypeExpr.TheOpen.{TypeExpr-F}
use Rattle.il_base.specs.declared.world_model.types.TypeDefRow.{TypeDefRow}
use Rattle.il_base.specs.declared.world_model.members.FieldRow.{FieldRow}
use Rattle.il_base.specs.declared.world_model.record.AsmRec.{AsmRec}
use Rattle.il_base.specs.declared.world_model.world.TypeLink.{TypeLink}
use Rattle.il_base.specs.world_model.Worlds.{known_then, sig_expr, names_by}
use Rattle.rules.specs.declared.link_rules.row_at.RowAt.{RowAt}
use Rattle.rules.specs.link_rules.Signatures.{names_at}
use Rattle.rules.specs.link_rules.Members.{type_home, good_type, run_of}
use Rattle.rules.specs.link_rules.Cycles.{listed, is_value_type, value_rows, instance_rows, values_layer, values_in, is_static_field, values_in_field, values_in_row, field_values}
use Rattle.rules.specs.link_rules.Laws.{TellTokens, TellSignatures}
use Rattle.link_faults.specs.Graphs.{next_in}
use Rattle.link_faults.specs.Targets.{id_of}
use Rattle.link_faults.specs.Values.{is_value, all_values, flagged, with_parts, held_layer, held_in, field_type, held_in_field, held_by, all_held}
use Rattle.link_faults.proofs.Each.{Each, each_append, each_flat}
use Rattle.link_faults.proofs.Renamed.{Leads}
use Rattle.link_faults.proofs.Ids.{home_is, none_past}
use Rattle.link_faults.proofs.Defined.{IsType, stands_is, home_is_type}
use Rattle.link_faults.proofs.Typed.{TypeAt, type_at, of_type, as_many}
use Rattle.link_faults.proofs.ValuesTold.{value_told, flag_told}

module _ (all : List AsmRec) (links : List TypeLink) (told : TellTokens all links) where
  abbrev ids : List RowAt → List ℕ
  ids = map (id_of all)

  abbrev flags : List Bool
  flags = all_values all links

  -- ---- in a definition

  one_id : (at : RowAt) (b : Bool) → ids (if b then at ∷ [] else []) ≡ (if b then id_of all at ∷ [] else [])
  one_id at true = refl
  one_id at false = refl

  value_by : (t : TypeId) (o : Option RowAt) → type_home all t ≡ o → ids (value_rows all o) ≡ flagged flags t.0
  value_by t None e =
      let le : length flags ≤ t.0 = rw (as_many (λ a (rec : AsmRec). is_value all links a) 0 all) (none_past all 0 t.0 e) in
      rw (slice_get_past flags t.0 le) refl
  value_by t (Some at) e =
      let n = stands_is all t.0 at (home_is all 0 t.0 at e) in
      one_id at (is_value_type all at)
      ∙ ap (λ (o : Option Bool). if unwrap_or o false then id_of all at ∷ [] else []) (sym (flag_told all links told at (home_is_type all t at e)))
      ∙ ap (flagged flags) n

  value_ids : (t : TypeId) → ids (value_rows all (type_home all t)) ≡ flagged flags t.0
  value_ids t = value_by t (type_home all t) refl

  row_each : (at : RowAt) (b : Bool) → IsType all at → Each (IsType all) (if b then at ∷ [] else [])
  row_each at true is = (is, tt)
  row_each at false is = tt

  value_each_by : (t : TypeId) (o : Option RowAt) → type_home all t ≡ o → Each (IsType all) (value_rows all o)
  value_each_by t None e = tt
  value_each_by t (Some at) e = row_each at (is_value_type all at) (home_is_type all t at e)

  value_each : (t : TypeId) → Each (IsType all) (value_rows all (type_home all t))
  value_each t = value_each_by t (type_home all t) refl

  -- ---- in a type

  parts_ids : (rows parts : List RowAt) → ids (instance_rows rows parts) ≡ with_parts (ids rows) (ids parts)
  parts_ids [] parts = refl
  parts_ids (x ∷ rows) parts = ap (λ (ns : List ℕ). id_of all x ∷ ns) (map-append (id_of all) rows parts)

  parts_each : (rows parts : List RowAt) → Each (IsType all) rows → Each (IsType all) parts → Each (IsType all) (instance_rows rows parts)
  parts_each [] parts e f = tt
  parts_each (x ∷ rows) parts e f = (e.0, each_append (IsType all) rows parts e.1 f)

  -- a type whose value types are known by their ids
  record IsHeld (e : TypeExpr) : Type 0 where
    same : ids (values_in all e) ≡ held_in flags e
    types : Each (IsType all) (values_in all e)

  abbrev Part : Type 0
  Part = (e : TypeExpr) × IsHeld e

  abbrev whole : TypeExpr-F Part → TypeExpr-F TypeExpr
  whole y = map-TypeExpr Part TypeExpr (λ e. e.0) y

  args_ids : (xs : List Part) → ids (flat_map (λ rows. rows) (map (values_in all) (map (λ e. e.0) xs))) ≡ flat_map (λ ns. ns) (map (held_in flags) (map (λ e. e.0) xs))
  args_ids [] = refl
  args_ids (x ∷ xs) =
      map-append (id_of all) (values_in all x.0) (flat_map (λ rows. rows) (map (values_in all) (map (λ e. e.0) xs))) ∙ (λ i. x.1.same i ++ args_ids xs i)

  args_each : (xs : List Part) → Each (IsType all) (flat_map (λ rows. rows) (map (values_in all) (map (λ e. e.0) xs)))
  args_each [] = tt
  args_each (x ∷ xs) = each_append (IsType all) (values_in all x.0) (flat_map (λ rows. rows) (map (values_in all) (map (λ e. e.0) xs))) x.1.types (args_each xs)

  layer_ids : (y : TypeExpr-F Part)
      → ids (values_layer all (map-TypeExpr TypeExpr (List RowAt) (values_in all) (whole y))) ≡ held_layer flags (map-TypeExpr TypeExpr (List ℕ) (held_in flags) (whole y))
  layer_ids (TypeExpr-F.Prim n) = refl
  layer_ids (TypeExpr-F.Def t) = value_ids t
  layer_ids (TypeExpr-F.Inst t xs) =
      parts_ids (value_rows all (type_home all t)) (flat_map (λ rows. rows) (map (values_in all) (map (λ e. e.0) xs))) ∙ (λ i. with_parts (value_ids t i) (args_ids xs i))
  layer_ids (TypeExpr-F.Array x) = refl
  layer_ids (TypeExpr-F.ByRef x) = refl
  layer_ids (TypeExpr-F.Var n) = refl
  layer_ids (TypeExpr-F.MVar n) = refl
  layer_ids (TypeExpr-F.Mod required by x) = x.1.same

  layer_each : (y : TypeExpr-F Part) → Each (IsType all) (values_layer all (map-TypeExpr TypeExpr (List RowAt) (values_in all) (whole y)))
  layer_each (TypeExpr-F.Prim n) = tt
  layer_each (TypeExpr-F.Def t) = value_each t
  layer_each (TypeExpr-F.Inst t xs) = parts_each (value_rows all (type_home all t)) (flat_map (λ rows. rows) (map (values_in all) (map (λ e. e.0) xs))) (value_each t) (args_each xs)
  layer_each (TypeExpr-F.Array x) = tt
  layer_each (TypeExpr-F.ByRef x) = tt
  layer_each (TypeExpr-F.Var n) = tt
  layer_each (TypeExpr-F.MVar n) = tt
  layer_each (TypeExpr-F.Mod required by x) = x.1.types

  rolled_held : (y : TypeExpr-F Part) → IsHeld (roll-TypeExpr (whole y))
  unfolding values_in held_in
  rolled_held y =
      let v : values_in all (roll-TypeExpr (whole y)) ≡ values_layer all (map-TypeExpr TypeExpr (List RowAt) (values_in all) (whole y)) = fold-roll-TypeExpr (List RowAt) (values_layer all) (whole y) in
      let h : held_in flags (roll-TypeExpr (whole y)) ≡ held_layer flags (map-TypeExpr TypeExpr (List ℕ) (held_in flags) (whole y)) = fold-roll-TypeExpr (List ℕ) (held_layer flags) (whole y) in
      record { same = ap ids v ∙ layer_ids y ∙ sym h; types = subst (λ (rows : List RowAt). Each (IsType all) rows) (sym v) (layer_each y) }

  is_held : (e : TypeExpr) → IsHeld e
  is_held = ind-TypeExpr IsHeld (λ x y is. subst (λ z. IsHeld (roll-TypeExpr z)) is (rolled_held y))

  -- ---- in fields

  types_ids : (o : Option TypeExpr) → ids (flat_map (values_in all) (listed o)) ≡ flat_map (held_in flags) (listed o)
  types_ids None = refl
  types_ids (Some e) = map-append (id_of all) (values_in all e) [] ∙ ap (λ (ns : List ℕ). ns ++ []) (is_held e).same

  module _ (signed : TellSignatures all links) (a : ℕ) (rec : AsmRec) (there : slice_get all a ≡ Some rec) where
    signature_told : (k : Known Sig) → known_then (sig_expr (names_at all a rec)) k ≡ known_then (sig_expr (names_by all links a)) k
    signature_told (Good s) = sym (signed a rec there s)
    signature_told (Bad why) = refl

    field_by : (f : FieldRow) (b : Bool) → ids (if b then [] else flat_map (values_in all) (listed (good_type (known_then (sig_expr (names_at all a rec)) f.signature))))
        ≡ (if b then [] else flat_map (held_in flags) (listed (field_type all links a f.signature)))
    field_by f true = refl
    field_by f false =
        types_ids (good_type (known_then (sig_expr (names_at all a rec)) f.signature))
        ∙ ap (λ (k : Known TypeExpr). flat_map (held_in flags) (listed (good_type k))) (signature_told f.signature)

    fields_ids : (fs : List FieldRow) → ids (flat_map (values_in_field all a rec) fs) ≡ flat_map (held_in_field all links flags a) fs
    fields_ids [] = refl
    fields_ids (f ∷ fs) =
        map-append (id_of all) (values_in_field all a rec f) (flat_map (values_in_field all a rec) fs) ∙ (λ i. field_by f (is_static_field f) i ++ fields_ids fs i)

  abbrev in_row : RowAt → AsmRec → List RowAt
  in_row at rec = flat_map (values_in_row all at rec) (listed (slice_get rec.type_def at.row))

  module _ (at : RowAt) (t : TypeAt all at) where
    fields_are : flat_map (in_row at) (listed (slice_get all at.asm)) ≡ values_in_row all at t.rec t.row
    fields_are =
        ap (λ (o : Option AsmRec). flat_map (in_row at) (listed o)) t.there ∙ append-nil (in_row at t.rec)
        ∙ ap (λ (o : Option TypeDefRow). flat_map (values_in_row all at t.rec) (listed o)) t.is ∙ append-nil (values_in_row all at t.rec t.row)

    held_ids_by : TellSignatures all links → (b c : Bool) → b ≡ c → ids (if b then flat_map (in_row at) (listed (slice_get all at.asm)) else [])
        ≡ (if c then flat_map (held_in_field all links flags at.asm) (run_of t.row.field_list_first t.row.field_list_end t.rec.field) else [])
    held_ids_by signed true true e = ap ids fields_are ∙ fields_ids signed at.asm t.rec t.there (run_of t.row.field_list_first t.row.field_list_end t.rec.field)
    held_ids_by signed false false e = refl
    held_ids_by signed true false e = cc
    held_ids_by signed false true e = cc

    held_ids : TellSignatures all links → ids (field_values all at) ≡ held_by all links flags at.asm t.rec at.row t.row
    unfolding field_values
    held_ids signed = held_ids_by signed (is_value_type all at) (is_value all links at.asm at.row t.row) (value_told all links told at t)

  types_each : (o : Option TypeExpr) → Each (IsType all) (flat_map (values_in all) (listed o))
  types_each o = each_flat (IsType all) (values_in all) (listed o) (λ e. (is_held e).types)

  either_each : (b : Bool) (rows : List RowAt) → Each (IsType all) rows → Each (IsType all) (if b then [] else rows)
  either_each true rows e = tt
  either_each false rows e = e

  if_each : (b : Bool) (rows : List RowAt) → Each (IsType all) rows → Each (IsType all) (if b then rows else [])
  if_each true rows e = e
  if_each false rows e = tt

  field_each : (a : ℕ) (rec : AsmRec) (f : FieldRow) → Each (IsType all) (values_in_field all a rec f)
  field_each a rec f =
      either_each (is_static_field f) (flat_map (values_in all) (listed (good_type (known_then (sig_expr (names_at all a rec)) f.signature)))) (types_each (good_type (known_then (sig_expr (names_at all a rec)) f.signature)))

  row_fields_each : (at : RowAt) (rec : AsmRec) (t : TypeDefRow) → Each (IsType all) (values_in_row all at rec t)
  row_fields_each at rec t = each_flat (IsType all) (values_in_field all at.asm rec) (run_of t.field_list_first t.field_list_end rec.field) (field_each at.asm rec)

  held_each : (at : RowAt) → Each (IsType all) (field_values all at)
  unfolding field_values
  held_each at =
      if_each (is_value_type all at) (flat_map (in_row at) (listed (slice_get all at.asm)))
      (each_flat (IsType all) (in_row at) (listed (slice_get all at.asm)) (λ rec. each_flat (IsType all) (values_in_row all at rec) (listed (slice_get rec.type_def at.row)) (row_fields_each at rec)))

  pub held_lead : TellSignatures all links → (at : RowAt) → IsType all at → Leads (field_values all) (IsType all) (id_of all) (next_in (all_held all links (all_values all links))) at
  held_lead signed at is =
      let t = type_at all at is in
      record {
        stays = held_each at;
        numbered = ap (λ (o : Option (List ℕ)). unwrap_or o []) (of_type (λ a (rec : AsmRec). held_by all links flags a rec) all at t) ∙ sym (held_ids at t signed);
      }
