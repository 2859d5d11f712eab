-- Each type of the core library that a part of an item names is among the types of what the item meets.
use Rattle.std.proofs.Common.{◌≡◌, ◌<◌, ℕ, zero, suc, ◌+◌, Bool, true, false, List, [], ◌∷◌, ◌++◌, length, map, Option, Some, None, refl, sym, ap, subst, ◌∙◌, inl, inr, arith}
use Rattle.std.specs.Prelude.{slice_get, ◌==◌, ◌&&◌, ◌||◌, if◌then◌else◌}
use Rattle.std.specs.List.{Contains, flat_map, list_any}
use Rattle.std.specs.Option.{option_and_then}
use Rattle.std.proofs.lemmas.Bool.{eqb-true}
use Rattle.std.proofs.lemmas.List.Elements.{Contains-append_left, Contains-append_right}
use Rattle.il_base.specs.declared.ids.TypeId.{TypeId}
use Rattle.il_base.specs.declared.ids.Item.TheVariants as item
use Rattle.il_base.specs.declared.sig.Sig.{Sig}
use Rattle.il_base.specs.declared.sig.MethodSig.{MethodSig}
use Rattle.il_base.specs.declared.body.Form.{Form}
use Rattle.il_base.specs.declared.body.Form.TheVariants as form
use Rattle.il_base.specs.declared.body.Operand.{Operand}
use Rattle.il_base.specs.declared.body.Operand.TheVariants as operand
use Rattle.il_base.specs.declared.body.Instr.{Instr}
use Rattle.il_base.specs.declared.body.Handler.{Handler}
use Rattle.il_base.specs.declared.body.Body.{Body}
use Rattle.il_base.specs.declared.table.TheConstants as table
use Rattle.il_base.specs.declared.world_model.known.Known.{Known}
use Rattle.il_base.specs.declared.world_model.known.Known.TheVariants.{Good, Bad}
use Rattle.il_base.specs.declared.world_model.known.BadKind.{BadKind}
use Rattle.il_base.specs.declared.world_model.known.BadKind.TheVariants.{Unresolved}
use Rattle.il_base.specs.declared.world_model.expr.TypeExpr.{TypeExpr}
use Rattle.il_base.specs.declared.world_model.expr.MethodUse.{MethodUse}
use Rattle.il_base.specs.declared.world_model.expr.FieldUse.{FieldUse}
use Rattle.il_base.specs.declared.world_model.types.GenericParamRow.{GenericParamRow}
use Rattle.il_base.specs.declared.world_model.types.GenericParamConstraintRow.{GenericParamConstraintRow}
use Rattle.il_base.specs.declared.world_model.members.StandAloneSigRow.{StandAloneSigRow}
use Rattle.il_base.specs.declared.world_model.record.AsmRec.{AsmRec}
use Rattle.il_base.specs.world_model.Tokens.{token_of, table_of, index_in}
use Rattle.il_base.specs.world_model.Worlds.{known_map, known_then, all_known, sig_expr}
use Rattle.rules.specs.declared.link_rules.member_type.MethodType.{MethodType}
use Rattle.rules.specs.link_rules.Types.{definition_at}
use Rattle.rules.specs.link_rules.Cycles.{listed}
use Rattle.rules.specs.link_rules.Signatures.{names_at, named_type, token_type, method_type_of, method_type}
use Rattle.rules.specs.link_rules.Members.{arguments_of}
use Rattle.rules.specs.type_rules.Rows.{each_row}
use Rattle.base_laws.proofs.lemmas.known_laws.Lists.{none_in, first_in, later_in, head_or, to_map, to_option, to_listed, to_flat, to_if, to_each}
use Rattle.rules.specs.mark_rules.Facts.Fact.{marked}
use Rattle.rules.specs.mark_rules.Naming as naming
use Rattle.rules.specs.mark_rules.Naming.{Part, bad_part, good_part, type_parts, of_expr, of_named, of_known, parts_of, sig_parts, sigs_parts, method_type_parts, method_sig_parts, type_token_part, method_named, field_named, method_token_part, field_token_part}
use Rattle.rules.specs.mark_rules.Naming.Named.{type, method, field}
use Rattle.rules.specs.mark_rules.Types.{constraint_of, constraints_of_param, constraints_of}
use Rattle.rules.specs.mark_rules.Bodies.{is_field_token, is_method_token, any_token_part, text_parts, is_text_of, token_parts, operand_parts, instruction_parts, locals_row_parts, locals_parts, is_catch, handler_parts, are_locals_read, operands_of, code_parts, body_parts}
use Rattle.rules.specs.merge_rules.Keys.{TypeKey, good, world_sig, world_sigs, type_key}
use Rattle.rules.specs.merge_rules.Order.{Met, met_type, met_sig, met_locals, met_types, met_token, met_good_sig, met_method_sig, met_callee, met_field_token, met_any, met_by_form, met_operand, met_locals_row, met_locals_token, met_body, met_constraint, met_param}
use Rattle.rules.specs.merge_rules.Refs.{types_of_met}
use Rattle.merge_laws.specs.merged_record.Laws.{InputsAreRecords}
use Rattle.merge_laws.proofs.lemmas.merged_owners.Every.{Every, all_none, all_one, all_join, all_if, all_either, all_flat, all_option, all_map, all_each}
use Rattle.merge_laws.proofs.lemmas.merged_signatures.Reading.{good_map, good_then}
use Rattle.trim_laws.proofs.lemmas.kept_parts.Named.{token_has, sig_has, method_part}
use Rattle.trim_laws.proofs.lemmas.kept_parts.Uses.{type_in, IsCore}
use Rattle.trim_laws.proofs.lemmas.kept_parts.Callees.{Meets, callee_meets, field_meets, args_have}

zero_bad : (recs : List AsmRec) (a : ℕ) (rec : AsmRec) (e : TypeExpr) → token_type recs a rec 0 ≡ Good e → ⊥
unfolding token_type named_type definition_at
zero_bad recs a rec e f = absurd (cc)

-- a token of 0 names nothing
not_zero : (recs : List AsmRec) (a : ℕ) (rec : AsmRec) (token : ℕ) (e : TypeExpr) → token_type recs a rec token ≡ Good e → (token == 0) ≡ false
not_zero recs a rec token e h = by_test (token == 0) refl
  where
    by_test : (b : Bool) → (token == 0) ≡ b → (token == 0) ≡ false
    by_test true f = absurd (zero_bad recs a rec e (subst (λ (n : ℕ). token_type recs a rec n ≡ Good e) (eqb-true token 0 f) h))
    by_test false f = f

module _ (recs : List AsmRec) (M : Met → Type 0) where
  -- something of the set has the type
  pub record Has (t : TypeId) : Type 0 where
    pub met : Met
    pub inside : M met
    pub has : Contains (types_of_met recs met) t

  abbrev pub Into : List Met → Type 0
  Into ms = (x : Met) → Contains ms x → M x

  abbrev pub Fine : Part → Type 0
  Fine p = (t : TypeId) → Contains (of_known of_named p.named) (marked (item.Typ t)) → IsCore recs t → Has t

  abbrev pub All : List Part → Type 0
  All ps = Every Fine ps

  from_meets : (ms : List Met) (t : TypeId) → Into ms → Meets recs ms t → Has t
  from_meets ms t into m = record { met = m.met; inside = into m.met m.there; has = m.has }

  bad_fine : (place : ℕ) (why : BadKind) → Fine (bad_part place why)
  bad_fine place why t c core = absurd (none_in (marked (item.Typ t)) c)

  module _ (a : ℕ) (rec : AsmRec) (there : slice_get recs a ≡ Some rec) (input : suc a < length recs) (records : InputsAreRecords recs) where
    -- ---- tokens

    in_types : (token : ℕ) (k : TypeKey) (b : Bool) → b ≡ false → type_key recs a rec token ≡ Some k → Contains (if b then [] else met_types (type_key recs a rec token)) (met_type k)
    in_types token k true f e = absurd (cc)
    in_types token k false f e = to_map met_type (listed (type_key recs a rec token)) k (to_listed (type_key recs a rec token) k e)

    type_by : (token : ℕ) (t : TypeId) (k : Known TypeExpr) → token_type recs a rec token ≡ k → Into (met_token recs a rec token) → Contains (of_known of_named (known_map type k)) (marked (item.Typ t)) → Has t
    type_by token t (Bad why) e into c = absurd (none_in (marked (item.Typ t)) c)
    type_by token t (Good x) e into c =
        let k = token_has recs a rec token x t e (type_in x t c) in
        record { met = met_type k.key; inside = into (met_type k.key) (in_types token k.key (token == 0) (not_zero recs a rec token x e) k.is); has = k.has }

    pub type_fine : (place offset token : ℕ) → Into (met_token recs a rec token) → Fine (type_token_part recs a rec place offset token)
    type_fine place offset token into t c core = type_by token t (token_type recs a rec token) refl into c

    method_by : (token : ℕ) (t : TypeId) (k : Known MethodUse) → method_named recs a rec token ≡ k → Into (met_callee recs a rec token) → Contains (of_known of_named (known_map method k)) (marked (item.Typ t)) → IsCore recs t → Has t
    method_by token t (Bad why) e into c core = absurd (none_in (marked (item.Typ t)) c)
    method_by token t (Good u) e into c core = from_meets (met_callee recs a rec token) t into (callee_meets recs a rec there input records token u t e c core)

    method_fine : (place offset token : ℕ) → Into (met_callee recs a rec token) → Fine (method_token_part recs a rec place offset token)
    method_fine place offset token into t c core = method_by token t (method_named recs a rec token) refl into c core

    field_by : (token : ℕ) (t : TypeId) (k : Known FieldUse) → field_named recs a rec token ≡ k → Into (met_field_token recs a rec token) → Contains (of_known of_named (known_map field k)) (marked (item.Typ t)) → IsCore recs t → Has t
    field_by token t (Bad why) e into c core = absurd (none_in (marked (item.Typ t)) c)
    field_by token t (Good u) e into c core = from_meets (met_field_token recs a rec token) t into (field_meets recs a rec there input token u t e c core)

    field_fine : (place offset token : ℕ) → Into (met_field_token recs a rec token) → Fine (field_token_part recs a rec place offset token)
    field_fine place offset token into t c core = field_by token t (field_named recs a rec token) refl into c core

    any_by : (place offset token : ℕ) (f m : Bool)
        → Into (if f then met_field_token recs a rec token else if m then met_callee recs a rec token else met_token recs a rec token)
        → Fine (if f then field_token_part recs a rec place offset token else if m then method_token_part recs a rec place offset token else type_token_part recs a rec place offset token)
    any_by place offset token true m into = field_fine place offset token into
    any_by place offset token false true into = method_fine place offset token into
    any_by place offset token false false into = type_fine place offset token into

    -- ---- signatures

    sig_by : (place : ℕ) (s : Known Sig) (k : Known TypeExpr) → known_then (sig_expr (names_at recs a rec)) s ≡ k → Into (met_good_sig recs a rec s) → All (parts_of place (λ e. type_parts place (e ∷ [])) k)
    sig_by place s (Bad why) h into = all_one Fine (bad_part place why) (bad_fine place why)
    sig_by place s (Good e) h into =
        let x = good_then (sig_expr (names_at recs a rec)) s e h in
        all_one Fine (good_part place (type e))
        (λ t c core. record {
          met = met_sig (world_sig recs a rec x.from);
          inside = into (met_sig (world_sig recs a rec x.from)) (to_map (λ y. met_sig (world_sig recs a rec y)) (listed (good s)) x.from (to_listed (good s) x.from (ap good x.is)));
          has = sig_has recs a rec x.from e t x.gives (type_in e t c);
        })

    pub sig_fine : (place : ℕ) (s : Known Sig) → Into (met_good_sig recs a rec s) → All (sig_parts recs a rec place s)
    sig_fine place s into = sig_by place s (known_then (sig_expr (names_at recs a rec)) s) refl into

    method_sig_by : (place : ℕ) (s : Known MethodSig) (k : Known MethodType) → known_then (method_type (names_at recs a rec)) s ≡ k → Into (met_method_sig recs a rec s) → All (parts_of place (method_type_parts place) k)
    method_sig_by place s (Bad why) h into = all_one Fine (bad_part place why) (bad_fine place why)
    method_sig_by place s (Good m) h into =
        let g = good_then (method_type (names_at recs a rec)) s m h in
        all_map Fine (λ e. good_part place (type e)) (m.ret ∷ m.params)
        (λ e d t c core.
        let y = method_part recs a rec g.from m e g.gives d in
        let x : Met = met_sig (world_sig recs a rec y.0) in
        record {
          met = x;
          inside =
              into x
              (to_option (λ (z : MethodSig). map met_sig (world_sigs recs a rec (z.ret ∷ z.params))) (good s) g.from x (ap good g.is)
              (to_map met_sig (world_sigs recs a rec (g.from.ret ∷ g.from.params)) (world_sig recs a rec y.0) (to_map (world_sig recs a rec) (g.from.ret ∷ g.from.params) y.0 y.1)));
          has = sig_has recs a rec y.0 e t y.2 (type_in e t c);
        })

    pub method_sig_fine : (place : ℕ) (s : Known MethodSig) → Into (met_method_sig recs a rec s) → All (method_sig_parts recs a rec place s)
    method_sig_fine place s into = method_sig_by place s (known_then (method_type (names_at recs a rec)) s) refl into

    sigs_by : (place : ℕ) (s : Known (List Sig)) (k : Known (List TypeExpr)) → known_then (arguments_of (names_at recs a rec)) s ≡ k → Into (map (λ ss. met_locals (world_sigs recs a rec ss)) (listed (good s)))
        → All (parts_of place (type_parts place) k)
    sigs_by place s (Bad why) h into = all_one Fine (bad_part place why) (bad_fine place why)
    sigs_by place s (Good es) h into =
        let g = good_then (arguments_of (names_at recs a rec)) s es h in
        let x : Met = met_locals (world_sigs recs a rec g.from) in
        all_map Fine (λ e. good_part place (type e)) es
        (λ e d t c core.
        record {
          met = x;
          inside = into x (to_map (λ ss. met_locals (world_sigs recs a rec ss)) (listed (good s)) g.from (to_listed (good s) g.from (ap good g.is)));
          has = args_have recs a rec there input g.from es e t g.gives d (type_in e t c);
        })

    -- ---- bodies

    text_fine : (place offset token : ℕ) → All (text_parts rec place offset token)
    text_fine place offset token = all_either Fine (list_any (is_text_of token) rec.user) [] _ (all_none Fine) (all_one Fine (record { token = place; at = offset; named = Bad Unresolved }) (λ t c core. absurd (none_in (marked (item.Typ t)) c)))

    form_fine : (place offset : ℕ) (f : Form) (token : ℕ) → Into (met_by_form recs a rec f token) → All (token_parts recs a rec place offset f token)
    form_fine place offset form.Call token into = all_one Fine (method_token_part recs a rec place offset token) (method_fine place offset token into)
    form_fine place offset form.NewObj token into = all_one Fine (method_token_part recs a rec place offset token) (method_fine place offset token into)
    form_fine place offset form.Field token into = all_one Fine (field_token_part recs a rec place offset token) (field_fine place offset token into)
    form_fine place offset form.LdStr token into = text_fine place offset token
    form_fine place offset form.LdToken token into = all_one Fine (any_token_part recs a rec place offset token) (any_by place offset token (is_field_token rec token) (is_method_token token) into)
    form_fine place offset _ token into = all_one Fine (type_token_part recs a rec place offset token) (type_fine place offset token into)

    operand_fine : (place offset : ℕ) (f : Form) (o : Operand) → Into (met_operand recs a rec f o) → All (operand_parts recs a rec place offset f o)
    operand_fine place offset f (operand.Token token) into = form_fine place offset f token into
    operand_fine place offset f _ into = all_none Fine

    locals_row : (place : ℕ) (o : Option StandAloneSigRow) → Into (flat_map (met_locals_row recs a rec) (listed o)) → All (locals_row_parts recs a rec place o)
    locals_row place None into = all_one Fine (bad_part place Unresolved) (bad_fine place Unresolved)
    locals_row place (Some row) into =
        sigs_by place row.signature (known_then (arguments_of (names_at recs a rec)) row.signature) refl (λ x c. into x (to_option (met_locals_row recs a rec) (Some row) row x refl c))

    locals_fine : (place token : ℕ) → Into (met_locals_token recs a rec token) → All (locals_parts recs a rec place token)
    locals_fine place token into =
        all_either Fine (token == 0) [] _ (all_none Fine) (locals_row place (option_and_then (slice_get rec.stand_alone_sig) (index_in table.STAND_ALONE_SIG token)) into)

    handler_fine : (place : ℕ) (h : Handler) → Into (if is_catch h then met_token recs a rec h.token else []) → All (handler_parts recs a rec place h)
    handler_fine place h into =
        all_if Fine (is_catch h) (type_token_part recs a rec place 0 h.token ∷ [])
        (λ e. all_one Fine (type_token_part recs a rec place 0 h.token) (type_fine place 0 h.token (λ x c. into x (to_if (is_catch h) (met_token recs a rec h.token) x e c))))

    pub body_fine : (place : ℕ) (read : Bool) (b : Body) → Into (met_body recs a rec b) → All (body_parts recs a rec place read b)
    body_fine place read b into =
        let locals : List Met = met_locals_token recs a rec b.locals in
        let code : List Met = flat_map (λ (i : Instr). met_operand recs a rec i.form i.operand) b.code in
        let handlers : List Met = flat_map (λ (h : Handler). if is_catch h then met_token recs a rec h.token else []) b.handlers in
        all_join Fine (code_parts recs a rec place read b) (flat_map (handler_parts recs a rec place) b.handlers)
        (all_join Fine (locals_parts recs a rec place b.locals) (operands_of recs a rec place read b)
        (locals_fine place b.locals (λ x c. into x (Contains-append_left (locals ++ code) handlers x (Contains-append_left locals code x c))))
        (all_if Fine (read && are_locals_read rec b.locals) (flat_map (instruction_parts recs a rec place) b.code)
        (λ e.
        all_flat Fine (instruction_parts recs a rec place) b.code
        (λ (i : Instr) d.
        operand_fine place i.at i.form i.operand
        (λ x c.
        into x
        (Contains-append_left (locals ++ code) handlers x
        (Contains-append_right locals code x (to_flat (λ (j : Instr). met_operand recs a rec j.form j.operand) b.code x (record { item = i; there = d; inside = c })))))))))
        (all_flat Fine (handler_parts recs a rec place) b.handlers
        (λ (h : Handler) d.
        handler_fine place h
        (λ x c.
        into x (Contains-append_right (locals ++ code) handlers x (to_flat (λ (j : Handler). if is_catch j then met_token recs a rec j.token else []) b.handlers x (record { item = h; there = d; inside = c }))))))

    -- ---- constraints

    constraint_fine : (token k : ℕ) (row : GenericParamConstraintRow) → Into (met_constraint recs a rec token row) → All (constraint_of recs a rec token k row)
    constraint_fine token k row into =
        let place : ℕ = token_of table.GENERIC_PARAM_CONSTRAINT (suc k) in
        all_if Fine (row.owner == token) (type_token_part recs a rec place 0 row.constraint ∷ [])
        (λ e. all_one Fine (type_token_part recs a rec place 0 row.constraint) (type_fine place 0 row.constraint (λ x c. into x (to_if (row.owner == token) (met_token recs a rec row.constraint) x e c))))

    place_of : (rows : List GenericParamConstraintRow) (j : ℕ) (row : GenericParamConstraintRow) → slice_get rows j ≡ Some row → Contains rows row
    place_of [] j row e = absurd (cc)
    place_of (y ∷ rows) zero row e = let same : y ≡ row = cc in subst (λ (z : GenericParamConstraintRow). Contains (y ∷ rows) z) same (first_in y rows)
    place_of (y ∷ rows) (suc j) row e = later_in y rows row (place_of rows j row e)

    param_fine : (owner k : ℕ) (row : GenericParamRow) → Into (met_param recs a rec owner k row) → All (constraints_of_param recs a rec owner k row)
    param_fine owner k row into =
        let token : ℕ = token_of table.GENERIC_PARAM (suc k) in
        all_if Fine (row.owner == owner) (each_row (constraint_of recs a rec token) rec.generic_param_constraint)
        (λ e.
        all_each Fine (constraint_of recs a rec token) rec.generic_param_constraint
        (λ j (r : GenericParamConstraintRow) d.
        constraint_fine token j r
        (λ x c.
        into x
        (to_if (row.owner == owner) (flat_map (met_constraint recs a rec token) rec.generic_param_constraint) x e
        (to_flat (met_constraint recs a rec token) rec.generic_param_constraint x (record { item = r; there = place_of rec.generic_param_constraint j r d; inside = c }))))))

    pub constraints_fine : (owner : ℕ) → Into (each_row (met_param recs a rec owner) rec.generic_param) → All (constraints_of recs a rec owner)
    unfolding constraints_of
    constraints_fine owner into =
        all_each Fine (constraints_of_param recs a rec owner) rec.generic_param
        (λ k (row : GenericParamRow) d.
        param_fine owner k row
        (λ x c.
        let z : 0 + k ≡ k = omega arith in
        into x
        (to_each (met_param recs a rec owner) 0 rec.generic_param x
        (record { place = k; item = row; there = d; inside = subst (λ (j : ℕ). Contains (met_param recs a rec owner j row) x) (sym z) c }))))
