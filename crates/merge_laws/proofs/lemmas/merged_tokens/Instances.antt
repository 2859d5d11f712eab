-- A method with arguments that is met is kept, if it is known by its own row.
use Rattle.std.proofs.Common.{◌≡◌, ◌<◌, ℕ, suc, List, [], ◌∷◌, ◌++◌, length, map, Bool, true, false, Option, Some, None, refl, sym, ap, subst, ◌∙◌, arith}
use Rattle.std.specs.Prelude.{slice_get, ⊤, ◌==◌, ◌&&◌, ◌||◌, if◌then◌else◌}
use Rattle.std.specs.List.{Contains, flat_map, filter, list_any, range_with_len}
use Rattle.std.specs.Option.{is_some, option_and_then, option_map}
use Rattle.std.proofs.lemmas.Bool.{and_from}
use Rattle.std.proofs.lemmas.List.Elements.{Contains-append_left, Contains-append_right}
use Rattle.il_base.specs.declared.ids.MethodId.{MethodId}
use Rattle.il_base.specs.declared.ids.Item.TheVariants as item
use Rattle.descriptor_file.specs.declared.root.Root.{Root}
use Rattle.il_base.specs.declared.world_model.known.Known.TheVariants.{Good, Bad}
use Rattle.il_base.specs.declared.world_model.known.BadKind.{BadKind}
use Rattle.il_base.specs.declared.world_model.known.BadKind.TheVariants.{Unresolved}
use Rattle.il_base.specs.declared.world_model.expr.TypeExpr.{TypeExpr}
use Rattle.il_base.specs.declared.world_model.expr.MethodUse.{MethodUse}
use Rattle.il_base.specs.declared.world_model.members.StandAloneSigRow.{StandAloneSigRow}
use Rattle.il_base.specs.world_model.Worlds.{known_map, known_then}
use Rattle.rules.specs.link_rules.Signatures.{names_at}
use Rattle.rules.specs.link_rules.Members.{methods_in, generic_method, instantiated, arguments_of, method_spec_use}
use Rattle.base_laws.proofs.lemmas.type_laws.Places.{place_within}
use Rattle.base_laws.proofs.lemmas.known_laws.Lists.{first_in, to_flat, to_option, to_if}
use Rattle.rules.specs.mark_rules.Facts.Fact.{marked}
use Rattle.rules.specs.mark_rules.Places.{row_of}
use Rattle.rules.specs.mark_rules.Naming.{Part, bad_part, sigs_parts, method_sig_parts, spec_use_at, method_named, type_token_part, method_token_part, field_token_part}
use Rattle.rules.specs.mark_rules.Types.{constraints_of}
use Rattle.rules.specs.mark_rules.Calls.{row_parts, parts_of_method}
use Rattle.rules.specs.mark_rules.Bodies.{any_token_part, token_parts, operand_parts, instruction_parts, locals_row_parts, locals_parts, handler_parts, is_read, are_locals_read, operands_of, code_parts, body_parts}
use Rattle.rules.specs.mark_rules.Shown.{parts_of_item}
use Rattle.rules.specs.mark_rules.Marking.{Marks}
use Rattle.rules.specs.mark_rules.BadItems.{IsFirstFlaw}
use Rattle.rules.specs.merge_rules.Keys.{own_method}
use Rattle.merge_laws.proofs.lemmas.merged_record.Lists.{from_filter}
use Rattle.merge_laws.specs.merged_owners.Laws.{AreMarked, AreKept}
use Rattle.merge_laws.proofs.lemmas.merged_owners.Homes.{own_home, to_place}
use Rattle.merge_laws.proofs.lemmas.merged_tokens.Keys.{known_good}
use Rattle.merge_laws.proofs.lemmas.merged_tokens.Parts.{no_bad, names_method}
use Rattle.merge_laws.proofs.lemmas.merged_tokens.OwnMethods.{OwnThere, own_there, key_use, own_same, home_named}
use Rattle.merge_laws.proofs.lemmas.merged_tokens.Bodies.{no_spec}
use Rattle.il_base.specs.declared.sig.Sig.{Sig}
use Rattle.il_base.specs.declared.sig.MethodSig.{MethodSig}
use Rattle.il_base.specs.declared.body.Form.{Form}
use Rattle.il_base.specs.declared.body.Form.TheVariants as form
use Rattle.il_base.specs.declared.body.Operand.{Operand}
use Rattle.il_base.specs.declared.body.Operand.TheVariants as operand
use Rattle.il_base.specs.declared.body.Instr.{Instr}
use Rattle.il_base.specs.declared.body.Handler.{Handler}
use Rattle.il_base.specs.declared.body.Body.{Body}
use Rattle.il_base.specs.declared.table.TheConstants as table
use Rattle.il_base.specs.declared.cli_format.column.CodedIndex.TheVariants.{MethodDefOrRef}
use Rattle.il_base.specs.declared.world_model.known.Known.{Known}
use Rattle.il_base.specs.declared.world_model.types.TypeDefRow.{TypeDefRow}
use Rattle.il_base.specs.declared.world_model.types.InterfaceImplRow.{InterfaceImplRow}
use Rattle.il_base.specs.declared.world_model.types.GenericParamRow.{GenericParamRow}
use Rattle.il_base.specs.declared.world_model.types.GenericParamConstraintRow.{GenericParamConstraintRow}
use Rattle.il_base.specs.declared.world_model.members.FieldRow.{FieldRow}
use Rattle.il_base.specs.declared.world_model.members.MethodDefRow.{MethodDefRow}
use Rattle.il_base.specs.declared.world_model.members.MethodImplRow.{MethodImplRow}
use Rattle.il_base.specs.declared.world_model.members.MethodSpecRow.{MethodSpecRow}
use Rattle.il_base.specs.declared.world_model.members.PropertyRow.{PropertyRow}
use Rattle.il_base.specs.declared.world_model.members.EventRow.{EventRow}
use Rattle.il_base.specs.declared.world_model.record.AsmRec.{AsmRec}
use Rattle.il_base.specs.world_model.Tokens.{token_of, table_of, index_in}
use Rattle.rules.specs.declared.link_rules.row_at.RowAt.{RowAt}
use Rattle.rules.specs.link_rules.Types.{at_row}
use Rattle.rules.specs.link_rules.Cycles.{listed}
use Rattle.rules.specs.type_rules.Rows.{rec_at, each_row, run_places, methods_of_type, fields_of_type}
use Rattle.rules.specs.mark_rules.Places.{method_item, field_item, prop_item, event_item, impl_item}
use Rattle.rules.specs.mark_rules.Members.{properties_of_type, events_of_type}
use Rattle.il_base.specs.world_model.Worlds.{types_in}
use Rattle.rules.specs.merge_rules.Numbers.{Kept, inputs, rows_of_kind, kept_types}
use Rattle.rules.specs.mark_rules.Places.{type_item}
use Rattle.rules.specs.merge_rules.Keys.{TypeKey, MethodKey, InstanceKey, good, world_sig, world_sigs, type_key, method_key, field_key, instance_by, instance_key}
use Rattle.rules.specs.merge_rules.Order.{Met, met_type, met_sig, met_method, met_field, met_instance, met_locals, met_types, met_token, met_good_sig, met_method_sig, met_callee, met_field_token, met_by_form, met_operand, met_locals_row, met_locals_token, met_body, met_method_row, met_field_row, met_property_row, met_event_row, met_constraint, met_param, met_constraints, is_impl_of, met_impls, met_extends, met_interface, met_interfaces, those, met_in_type, met_by_types}
use Rattle.rules.specs.merge_rules.Attributes.{Attribute, kept_attributes, met_by_attributes}
use Rattle.rules.specs.merge_rules.Restricted.{output_of}
use Rattle.merge_laws.specs.merged_record.Laws.{InputsAreRecords}
use Rattle.merge_laws.proofs.lemmas.merged_record.Lists.{from_inputs}
use Rattle.merge_laws.proofs.lemmas.merged_record.Tokens.{of_coded}
use Rattle.merge_laws.proofs.lemmas.merged_owners.Every.{Every, all_none, all_join, all_listed, all_if, all_either, all_filter, all_flat, all_option, all_map, all_each}
use Rattle.rules.specs.mark_rules.Bodies.{body_of, is_field_token, is_method_token, is_catch}
use Rattle.base_laws.proofs.lemmas.known_laws.Lists.{and_then_some, map_some}

module _ (recs : List AsmRec) (kept : Kept) (records : InputsAreRecords recs) where
  abbrev Own : MethodKey → Type 0
  Own k = (m : MethodId) → k ≡ own_method m → OwnThere recs m × (kept (item.Method m) ≡ true)

  abbrev pub Fine : Met → Type 0
  Fine (met_type k) = ⊤
  Fine (met_sig s) = ⊤
  Fine (met_method m) = ⊤
  Fine (met_field f) = ⊤
  Fine (met_instance i) = Own i.method
  Fine (met_locals ss) = ⊤

  abbrev All : List Met → Type 0
  All ms = Every Fine ms

  types_all : (o : Option TypeKey) → All (met_types o)
  types_all o = all_map Fine met_type (listed o) (λ k c. tt)

  token_all : (a : ℕ) (rec : AsmRec) (token : ℕ) → All (met_token recs a rec token)
  token_all a rec token = all_either Fine (token == 0) [] (met_types (type_key recs a rec token)) (all_none Fine) (types_all (type_key recs a rec token))

  good_sig_all : (a : ℕ) (rec : AsmRec) (s : Known Sig) → All (met_good_sig recs a rec s)
  good_sig_all a rec s = all_map Fine (λ x. met_sig (world_sig recs a rec x)) (listed (good s)) (λ k c. tt)

  method_sig_all : (a : ℕ) (rec : AsmRec) (s : Known MethodSig) → All (met_method_sig recs a rec s)
  method_sig_all a rec s =
      all_flat Fine (λ (m : MethodSig). map met_sig (world_sigs recs a rec (m.ret ∷ m.params))) (listed (good s)) (λ m c. all_map Fine met_sig (world_sigs recs a rec (m.ret ∷ m.params)) (λ k d. tt))

  locals_all : (a : ℕ) (rec : AsmRec) (token : ℕ) → All (met_locals_token recs a rec token)
  locals_all a rec token =
      all_option Fine (met_locals_row recs a rec) (option_and_then (slice_get rec.stand_alone_sig) (index_in table.STAND_ALONE_SIG token))
      (λ row e. all_map Fine (λ ss. met_locals (world_sigs recs a rec ss)) (listed (good row.signature)) (λ k c. tt))

  field_all : (a : ℕ) (rec : AsmRec) (token : ℕ) → All (met_field_token recs a rec token)
  field_all a rec token = all_map Fine met_field (listed (field_key recs a rec token)) (λ k c. tt)

  -- ---- callees

  -- what a token of a part names, and is kept
  abbrev IsKeptUse : ℕ → AsmRec → ℕ → Type 0
  IsKeptUse a rec token = (v : MethodUse) × (method_named recs a rec token ≡ Good v) × (kept (item.Method v.method) ≡ true)

  module _ (a : ℕ) (rec : AsmRec) (there : slice_get recs a ≡ Some rec) (input : suc a < length recs) where
    instance_own : (j : ℕ) (row : MethodSpecRow) (i : InstanceKey) (u : MethodUse) → slice_get rec.method_spec j ≡ Some row → instance_by recs a rec row ≡ Some i → generic_method recs a rec row.method ≡ Good u
        → kept (item.Method u.method) ≡ true → Own i.method
    instance_own j row i u is h g keeps m e =
        let s = no_spec (table_of row.method) (of_coded rec MethodDefOrRef row.method ((records a rec input there).tokens.method_specs j row is)).table in
        let k = and_then_some (λ k. option_map (λ (args : List Sig). record { method = k; args = world_sigs recs a rec args }) (good row.instantiation)) (method_key recs a rec row.method) i h in
        let n = map_some (λ (args : List Sig). record { method = k.0; args = world_sigs recs a rec args }) (good row.instantiation) i k.2 in
        let same : k.0 ≡ own_method m = ap (λ (x : InstanceKey). x.method) n.2 ∙ e in
        let key : method_key recs a rec row.method ≡ Some (own_method m) = k.1 ∙ ap (λ (x : MethodKey). Some x) same in
        let key_is = key_use recs a rec there input row.method (own_method m) s key in
        let one : key_is.0 ≡ u = let f = key_is.1 in cc in
        let of : u.method ≡ m = ap (λ (x : MethodUse). x.method) (sym one) ∙ own_same recs (table_of row.method == table.METHOD_DEF) key_is.0 m key_is.2 in
        (own_there recs a rec there input row.method m s key, subst (λ (x : MethodId). kept (item.Method x) ≡ true) of keeps)

    use_of : (u v : MethodUse) (x : Known (List TypeExpr)) → known_map (instantiated u) x ≡ Good v → u.method ≡ v.method
    use_of u v (Good args) e = let same : instantiated u args ≡ v = cc in ap (λ (y : MethodUse). y.method) same
    use_of u v (Bad why) e = absurd (cc)

    spec_own : (token : ℕ) (o : Option MethodSpecRow) (v : MethodUse) (i : InstanceKey) → option_and_then (slice_get rec.method_spec) (index_in table.METHOD_SPEC token) ≡ o → spec_use_at recs a rec o ≡ Good v → kept (item.Method v.method) ≡ true
        → option_and_then (instance_by recs a rec) o ≡ Some i → Own i.method
    unfolding method_spec_use
    spec_own token None v i at h keeps e = absurd (cc)
    spec_own token (Some row) v i at h keeps e =
        let k = and_then_some (slice_get rec.method_spec) (index_in table.METHOD_SPEC token) row at in
        let g = known_good (λ (u : MethodUse). known_map (instantiated u) (known_then (arguments_of (names_at recs a rec)) row.instantiation)) (generic_method recs a rec row.method) v h in
        let same = use_of g.0 v (known_then (arguments_of (names_at recs a rec)) row.instantiation) g.2 in
        instance_own k.0 row i g.0 k.2 e g.1 (subst (λ (x : MethodId). kept (item.Method x) ≡ true) (sym same) keeps)

    named_spec : (token : ℕ) → (table_of token == table.METHOD_SPEC) ≡ true → method_named recs a rec token ≡ spec_use_at recs a rec (option_and_then (slice_get rec.method_spec) (index_in table.METHOD_SPEC token))
    unfolding method_named
    named_spec token s = ap (λ (b : Bool). if b then spec_use_at recs a rec (option_and_then (slice_get rec.method_spec) (index_in table.METHOD_SPEC token)) else generic_method recs a rec token) s

    instance_fine : (token : ℕ) (i : InstanceKey) → (table_of token == table.METHOD_SPEC) ≡ true → IsKeptUse a rec token → instance_key recs a rec token ≡ Some i → Own i.method
    unfolding instance_key
    instance_fine token i s u e = spec_own token (option_and_then (slice_get rec.method_spec) (index_in table.METHOD_SPEC token)) u.0 i refl (sym (named_spec token s) ∙ u.1) u.2 e

    callee_by : (token : ℕ) (b : Bool) → (table_of token == table.METHOD_SPEC) ≡ b → (b ≡ true → IsKeptUse a rec token)
        → All (if b then map met_instance (listed (instance_key recs a rec token)) else map met_method (listed (method_key recs a rec token)))
    callee_by token true e u =
        all_map Fine met_instance (listed (instance_key recs a rec token))
        (λ i c. (all_listed (λ (j : InstanceKey). Own j.method) (instance_key recs a rec token) (λ j h. instance_fine token j e (u refl) h)).each i c)
    callee_by token false e u = all_map Fine met_method (listed (method_key recs a rec token)) (λ k c. tt)

    callee_fine : (token : ℕ) → IsKeptUse a rec token → All (met_callee recs a rec token)
    callee_fine token u = callee_by token (table_of token == table.METHOD_SPEC) refl (λ e. u)

    -- one that is no MethodSpec
    plain_fine : (token : ℕ) → (table_of token == table.METHOD_SPEC) ≡ false → All (met_callee recs a rec token)
    plain_fine token s = callee_by token (table_of token == table.METHOD_SPEC) refl (λ e. absurd (cc))

  -- ---- methods

  module _ (entry : Option RowAt) (roots : List Root) (marks : AreMarked recs entry roots kept) (stays : AreKept recs entry roots kept) (good_all : IsFirstFlaw recs entry (Marks recs entry roots) None) where
    module _ (at : RowAt) (rec : AsmRec) (there : slice_get recs at.asm ≡ Some rec) (input : suc at.asm < length recs) (keeps : kept (method_item recs at) ≡ true) (d : MethodDefRow) (is : slice_get rec.method_def at.row ≡ Some d) where
      home : row_of recs (method_item recs at) ≡ Some at
      unfolding row_of
      home = own_home methods_in recs at rec there (place_within rec.method_def at.row d is)

      abbrev Parts : List Part
      Parts = parts_of_item recs (method_item recs at) at

      abbrev place : ℕ
      place = token_of table.METHOD_DEF (suc at.row)

      bad : (why : BadKind) → Contains Parts (bad_part place why) → ⊥
      bad why c = no_bad recs entry roots kept marks good_all (method_item recs at) at rec home keeps there input place why c

      kept_there : (token : ℕ) (u : MethodUse) → method_named recs at.asm rec token ≡ Good u → Marks recs entry roots (marked (item.Method u.method)) → IsKeptUse at.asm rec token
      kept_there token u e m = (u, e, stays (item.Method u.method) (ap (λ (x : Option RowAt). is_some x) (home_named recs at.asm rec there input token u e).1) m)

      use_kept : (token offset : ℕ) → Contains Parts (method_token_part recs at.asm rec place offset token) → IsKeptUse at.asm rec token
      use_kept token offset c =
          let n = names_method recs entry roots kept marks good_all (method_item recs at) at rec home keeps there input place offset token c in
          kept_there token n.0 n.1 n.2

      in_row : (p : Part) → Contains (row_parts recs at rec d) p → Contains Parts p
      unfolding parts_of_method
      in_row p c =
          to_option (λ (r : AsmRec). flat_map (row_parts recs at r) (listed (slice_get r.method_def at.row))) (rec_at recs at) rec p there
          (to_option (row_parts recs at rec) (slice_get rec.method_def at.row) d p is c)

      read_by : (s : Known MethodSig) → d.signature ≡ s → is_read d.signature ≡ true
      read_by (Good s) e = ap (λ (x : Known MethodSig). is_read x) e
      read_by (Bad why) e =
          let p : Part = bad_part place why in
          let sigs : Contains (method_sig_parts recs at.asm rec place d.signature) p = subst (λ (x : Known MethodSig). Contains (method_sig_parts recs at.asm rec place x) p) (sym e) (first_in p []) in
          absurd (bad why (in_row p
          (Contains-append_left (method_sig_parts recs at.asm rec place d.signature ++ constraints_of recs at.asm rec place) (flat_map (body_parts recs at.asm rec place (is_read d.signature)) (body_of d)) p
          (Contains-append_left (method_sig_parts recs at.asm rec place d.signature) (constraints_of recs at.asm rec place) p sigs))))

      module _ (b : Body) (has : Contains (body_of d) b) where
        in_body : (p : Part) → Contains (body_parts recs at.asm rec place (is_read d.signature) b) p → Contains Parts p
        in_body p c =
            in_row p
            (Contains-append_right (method_sig_parts recs at.asm rec place d.signature ++ constraints_of recs at.asm rec place) (flat_map (body_parts recs at.asm rec place (is_read d.signature)) (body_of d)) p
            (to_flat (body_parts recs at.asm rec place (is_read d.signature)) (body_of d) p (record { item = b; there = has; inside = c })))

        in_locals : (p : Part) → Contains (locals_parts recs at.asm rec place b.locals) p → Contains Parts p
        in_locals p c =
            in_body p
            (Contains-append_left (code_parts recs at.asm rec place (is_read d.signature) b) (flat_map (handler_parts recs at.asm rec place) b.handlers) p
            (Contains-append_left (locals_parts recs at.asm rec place b.locals) (operands_of recs at.asm rec place (is_read d.signature) b) p c))

        row_by : (row : StandAloneSigRow) (s : Known (List Sig)) → row.signature ≡ s → ((p : Part) → Contains (sigs_parts recs at.asm rec place row.signature) p → Contains Parts p)
            → list_any (λ (r : StandAloneSigRow). is_read r.signature) (row ∷ []) ≡ true
        row_by row (Good s) e h = ap (λ (x : Known (List Sig)). is_read x || false) e
        row_by row (Bad why) e h =
            let p : Part = bad_part place why in
            absurd (bad why (h p (subst (λ (x : Known (List Sig)). Contains (sigs_parts recs at.asm rec place x) p) (sym e) (first_in p []))))

        locals_by : (t : Bool) (o : Option StandAloneSigRow) → ((p : Part) → Contains (if t then [] else locals_row_parts recs at.asm rec place o) p → Contains Parts p)
            → (t || list_any (λ (r : StandAloneSigRow). is_read r.signature) (listed o)) ≡ true
        locals_by true o h = refl
        locals_by false None h = let p : Part = bad_part place Unresolved in absurd (bad Unresolved (h p (first_in p [])))
        locals_by false (Some row) h = row_by row row.signature refl h

        locals_read : are_locals_read rec b.locals ≡ true
        locals_read = locals_by (b.locals == 0) (option_and_then (slice_get rec.stand_alone_sig) (index_in table.STAND_ALONE_SIG b.locals)) in_locals

        in_code : (i : Instr) (p : Part) → Contains b.code i → Contains (instruction_parts recs at.asm rec place i) p → Contains Parts p
        in_code i p c q =
            in_body p
            (Contains-append_left (code_parts recs at.asm rec place (is_read d.signature) b) (flat_map (handler_parts recs at.asm rec place) b.handlers) p
            (Contains-append_right (locals_parts recs at.asm rec place b.locals) (operands_of recs at.asm rec place (is_read d.signature) b) p
            (to_if (is_read d.signature && are_locals_read rec b.locals) (flat_map (instruction_parts recs at.asm rec place) b.code) p
            (and_from (is_read d.signature) (are_locals_read rec b.locals) (read_by d.signature refl) locals_read)
            (to_flat (instruction_parts recs at.asm rec place) b.code p (record { item = i; there = c; inside = q })))))

        any_by : (offset token : ℕ) (f m : Bool)
            → Contains Parts (if f then field_token_part recs at.asm rec place offset token else if m then method_token_part recs at.asm rec place offset token else type_token_part recs at.asm rec place offset token)
            → All (if f then met_field_token recs at.asm rec token else if m then met_callee recs at.asm rec token else met_token recs at.asm rec token)
        any_by offset token true m c = field_all at.asm rec token
        any_by offset token false true c = callee_fine at.asm rec there input token (use_kept token offset c)
        any_by offset token false false c = token_all at.asm rec token

        form_fine : (offset : ℕ) (f : Form) (token : ℕ) → ((p : Part) → Contains (token_parts recs at.asm rec place offset f token) p → Contains Parts p) → All (met_by_form recs at.asm rec f token)
        form_fine offset form.Call token h = callee_fine at.asm rec there input token (use_kept token offset (h (method_token_part recs at.asm rec place offset token) (first_in (method_token_part recs at.asm rec place offset token) [])))
        form_fine offset form.NewObj token h = callee_fine at.asm rec there input token (use_kept token offset (h (method_token_part recs at.asm rec place offset token) (first_in (method_token_part recs at.asm rec place offset token) [])))
        form_fine offset form.Field token h = field_all at.asm rec token
        form_fine offset form.LdStr token h = all_none Fine
        form_fine offset form.LdToken token h =
            any_by offset token (is_field_token rec token) (is_method_token token) (h (any_token_part recs at.asm rec place offset token) (first_in (any_token_part recs at.asm rec place offset token) []))
        form_fine offset _ token h = token_all at.asm rec token

        operand_fine : (offset : ℕ) (f : Form) (o : Operand) → ((p : Part) → Contains (operand_parts recs at.asm rec place offset f o) p → Contains Parts p) → All (met_operand recs at.asm rec f o)
        operand_fine offset f (operand.Token token) h = form_fine offset f token h
        operand_fine offset f _ h = all_none Fine

        body_fine : All (met_body recs at.asm rec b)
        body_fine =
            let code : List Met = flat_map (λ (i : Instr). met_operand recs at.asm rec i.form i.operand) b.code in
            let handlers : List Met = flat_map (λ (h : Handler). if is_catch h then met_token recs at.asm rec h.token else []) b.handlers in
            let locals : List Met = met_locals_token recs at.asm rec b.locals in
            all_join Fine (locals ++ code) handlers
            (all_join Fine locals code (locals_all at.asm rec b.locals)
            (all_flat Fine (λ (i : Instr). met_operand recs at.asm rec i.form i.operand) b.code (λ i c. operand_fine i.at i.form i.operand (λ p q. in_code i p c q))))
            (all_flat Fine (λ (h : Handler). if is_catch h then met_token recs at.asm rec h.token else []) b.handlers
            (λ h c. all_if Fine (is_catch h) (met_token recs at.asm rec h.token) (λ e. token_all at.asm rec h.token)))

    -- ---- rows of an input

    abbrev Input : RowAt → Type 0
    Input at = suc at.asm < length recs

    method_row_all : (at : RowAt) → Input at → kept (method_item recs at) ≡ true → All (met_method_row recs at)
    method_row_all at input keeps =
        all_option Fine (λ (rec : AsmRec). flat_map (λ (m : MethodDefRow). met_method_sig recs at.asm rec m.signature ++ flat_map (met_body recs at.asm rec) (body_of m)) (listed (slice_get rec.method_def at.row))) (rec_at recs at)
        (λ rec there.
        all_option Fine (λ (m : MethodDefRow). met_method_sig recs at.asm rec m.signature ++ flat_map (met_body recs at.asm rec) (body_of m)) (slice_get rec.method_def at.row)
        (λ m e.
        all_join Fine (met_method_sig recs at.asm rec m.signature) (flat_map (met_body recs at.asm rec) (body_of m)) (method_sig_all at.asm rec m.signature)
        (all_flat Fine (met_body recs at.asm rec) (body_of m) (λ b c. body_fine at rec there input keeps m e b c))))

    field_row_all : (at : RowAt) → All (met_field_row recs at)
    field_row_all at =
        all_option Fine (λ (rec : AsmRec). flat_map (λ (f : FieldRow). met_good_sig recs at.asm rec f.signature) (listed (slice_get rec.field at.row))) (rec_at recs at)
        (λ rec there. all_option Fine (λ (f : FieldRow). met_good_sig recs at.asm rec f.signature) (slice_get rec.field at.row) (λ f e. good_sig_all at.asm rec f.signature))

    property_row_all : (at : RowAt) → All (met_property_row recs at)
    property_row_all at =
        all_option Fine (λ (rec : AsmRec). flat_map (λ (p : PropertyRow). met_method_sig recs at.asm rec p.signature) (listed (slice_get rec.property at.row))) (rec_at recs at)
        (λ rec there. all_option Fine (λ (p : PropertyRow). met_method_sig recs at.asm rec p.signature) (slice_get rec.property at.row) (λ p e. method_sig_all at.asm rec p.signature))

    event_row_all : (at : RowAt) → All (met_event_row recs at)
    event_row_all at =
        all_option Fine (λ (rec : AsmRec). flat_map (λ (x : EventRow). met_token recs at.asm rec x.event_type) (listed (slice_get rec.event at.row))) (rec_at recs at)
        (λ rec there. all_option Fine (λ (x : EventRow). met_token recs at.asm rec x.event_type) (slice_get rec.event at.row) (λ x e. token_all at.asm rec x.event_type))

    param_all : (a : ℕ) (rec : AsmRec) (owner k : ℕ) (row : GenericParamRow) → All (met_param recs a rec owner k row)
    param_all a rec owner k row =
        all_if Fine (row.owner == owner) (flat_map (met_constraint recs a rec (token_of table.GENERIC_PARAM (suc k))) rec.generic_param_constraint)
        (λ e.
        all_flat Fine (met_constraint recs a rec (token_of table.GENERIC_PARAM (suc k))) rec.generic_param_constraint
        (λ (c : GenericParamConstraintRow) d. all_if Fine (c.owner == token_of table.GENERIC_PARAM (suc k)) (met_token recs a rec c.constraint) (λ f. token_all a rec c.constraint)))

    constraints_all : (at : RowAt) (owner : ℕ) → All (met_constraints recs at owner)
    constraints_all at owner =
        all_option Fine (λ (rec : AsmRec). each_row (met_param recs at.asm rec owner) rec.generic_param) (rec_at recs at)
        (λ rec there. all_each Fine (met_param recs at.asm rec owner) rec.generic_param (λ k row e. param_all at.asm rec owner k row))

    impls_all : (at : RowAt) → Input at → All (met_impls recs kept at)
    impls_all at input =
        all_option Fine (λ (rec : AsmRec). flat_map (λ (row : MethodImplRow). met_callee recs at.asm rec row.body ++ met_callee recs at.asm rec row.declaration) (filter (is_impl_of recs kept at rec) rec.method_impl)) (rec_at recs at)
        (λ rec there.
        all_flat Fine (λ (row : MethodImplRow). met_callee recs at.asm rec row.body ++ met_callee recs at.asm rec row.declaration) (filter (is_impl_of recs kept at rec) rec.method_impl)
        (λ row c.
        let g = to_place rec.method_impl row (from_filter (is_impl_of recs kept at rec) rec.method_impl row c).0 in
        let is = (records at.asm rec input there).tokens.method_impls g.0 row g.1 in
        all_join Fine (met_callee recs at.asm rec row.body) (met_callee recs at.asm rec row.declaration)
        (plain_fine at.asm rec there input row.body (no_spec (table_of row.body) (of_coded rec MethodDefOrRef row.body is.1).table))
        (plain_fine at.asm rec there input row.declaration (no_spec (table_of row.declaration) (of_coded rec MethodDefOrRef row.declaration is.2).table))))

    extends_all : (at : RowAt) → All (met_extends recs at)
    extends_all at =
        all_option Fine (λ (rec : AsmRec). flat_map (λ (t : TypeDefRow). met_token recs at.asm rec t.extends) (listed (slice_get rec.type_def at.row))) (rec_at recs at)
        (λ rec there. all_option Fine (λ (t : TypeDefRow). met_token recs at.asm rec t.extends) (slice_get rec.type_def at.row) (λ t e. token_all at.asm rec t.extends))

    interfaces_all : (at : RowAt) → All (met_interfaces recs kept at)
    interfaces_all at =
        all_option Fine (λ (rec : AsmRec). each_row (met_interface recs kept at rec) rec.interface_impl) (rec_at recs at)
        (λ rec there.
        all_each Fine (met_interface recs kept at rec) rec.interface_impl
        (λ k (row : InterfaceImplRow) e. all_if Fine (row.class == token_of table.TYPE_DEF (suc at.row) && kept (impl_item recs (at_row at.asm k))) (met_token recs at.asm rec row.interface) (λ f. token_all at.asm rec row.interface)))

    methods_input : (at : RowAt) → Input at → Every Input (methods_of_type recs at)
    unfolding methods_of_type
    methods_input at input =
        all_option Input (λ (rec : AsmRec). flat_map (λ (t : TypeDefRow). map (at_row at.asm) (run_places t.method_list_first t.method_list_end rec.method_def)) (listed (slice_get rec.type_def at.row))) (rec_at recs at)
        (λ rec there.
        all_option Input (λ (t : TypeDefRow). map (at_row at.asm) (run_places t.method_list_first t.method_list_end rec.method_def)) (slice_get rec.type_def at.row)
        (λ t row. all_map Input (at_row at.asm) (run_places t.method_list_first t.method_list_end rec.method_def) (λ k c. input)))

    type_all : (at : RowAt) → Input at → All (met_in_type recs kept at)
    type_all at input =
        let methods : List RowAt = those recs kept (method_item recs) (methods_of_type recs at) in
        let fields : List RowAt = those recs kept (field_item recs) (fields_of_type recs at) in
        let properties : List RowAt = those recs kept (prop_item recs) (properties_of_type recs at) in
        let events : List RowAt = those recs kept (event_item recs) (events_of_type recs at) in
        let here : Every Input methods = all_filter Input (λ m. kept (method_item recs m)) (methods_of_type recs at) (methods_input at input) in
        let extends : List Met = met_extends recs at in
        let interfaces : List Met = met_interfaces recs kept at in
        let in_fields : List Met = flat_map (met_field_row recs) fields in
        let in_methods : List Met = flat_map (met_method_row recs) methods in
        let own : List Met = met_constraints recs at (token_of table.TYPE_DEF (suc at.row)) in
        let of_methods : List Met = flat_map (λ m. met_constraints recs m (token_of table.METHOD_DEF (suc m.row))) methods in
        let in_properties : List Met = flat_map (met_property_row recs) properties in
        let in_events : List Met = flat_map (met_event_row recs) events in
        let impls : List Met = met_impls recs kept at in
        let two = all_join Fine extends interfaces (extends_all at) (interfaces_all at) in
        let three = all_join Fine (extends ++ interfaces) in_fields two (all_flat Fine (met_field_row recs) fields (λ f c. field_row_all f)) in
        let four = all_join Fine (extends ++ interfaces ++ in_fields) in_methods three (all_flat Fine (met_method_row recs) methods (λ m c. method_row_all m (here.each m c) (from_filter (λ x. kept (method_item recs x)) (methods_of_type recs at) m c).1)) in
        let five = all_join Fine (extends ++ interfaces ++ in_fields ++ in_methods) own four (constraints_all at (token_of table.TYPE_DEF (suc at.row))) in
        let six =
        all_join Fine (extends ++ interfaces ++ in_fields ++ in_methods ++ own) of_methods five
        (all_flat Fine (λ m. met_constraints recs m (token_of table.METHOD_DEF (suc m.row))) methods (λ m c. constraints_all m (token_of table.METHOD_DEF (suc m.row)))) in
        let seven = all_join Fine (extends ++ interfaces ++ in_fields ++ in_methods ++ own ++ of_methods) in_properties six (all_flat Fine (met_property_row recs) properties (λ p c. property_row_all p)) in
        let eight = all_join Fine (extends ++ interfaces ++ in_fields ++ in_methods ++ own ++ of_methods ++ in_properties) in_events seven (all_flat Fine (met_event_row recs) events (λ e c. event_row_all e)) in
        all_join Fine (extends ++ interfaces ++ in_fields ++ in_methods ++ own ++ of_methods ++ in_properties ++ in_events) impls eight (impls_all at input)

    types_input : Every Input (kept_types recs kept)
    unfolding kept_types
    types_input =
        all_filter Input (λ at. kept (type_item recs at)) (rows_of_kind types_in recs)
        (all_flat Input (λ (x : ℕ × AsmRec). map (at_row x.0) (range_with_len 0 (types_in x.1))) (inputs recs)
        (λ x c.
        let i = from_inputs 0 recs x c in
        let n = i.number in
        let w = i.within in
        let lt : suc x.0 < length recs = omega arith in
        all_map Input (at_row x.0) (range_with_len 0 (types_in x.1)) (λ k d. lt)))

    by_types : All (met_by_types recs kept)
    unfolding met_by_types
    by_types = all_flat Fine (met_in_type recs kept) (kept_types recs kept) (λ at c. type_all at (types_input.each at c))

    by_attributes : All (met_by_attributes recs kept)
    unfolding met_by_attributes
    by_attributes = all_map Fine (λ (x : Attribute). met_method x.ctor) (kept_attributes recs kept) (λ x c. tt)

    pub mets_fine : Every Fine (output_of recs kept).mets
    unfolding output_of
    mets_fine = all_join Fine (met_by_types recs kept) (met_by_attributes recs kept) by_types by_attributes
