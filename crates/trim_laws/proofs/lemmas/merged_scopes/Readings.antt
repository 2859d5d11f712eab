-- What kept rows meet where no marked item has a flaw: each part has a reading, so each type in it is one of the world's.
use Rattle.std.proofs.Common.{◌≡◌, ◌<◌, ℕ, suc, List, [], ◌∷◌, ◌++◌, length, map, Bool, true, false, Option, Some, None, refl, sym, ap, subst, ◌∙◌, eqb-true}
use Rattle.std.specs.Prelude.{slice_get, ◌==◌, ◌&&◌, ◌||◌, if◌then◌else◌}
use Rattle.std.specs.List.{Contains, flat_map, list_any}
use Rattle.std.specs.Option.{option_and_then, option_map}
use Rattle.std.proofs.lemmas.Bool.{and_from}
use Rattle.std.proofs.lemmas.List.Elements.{Contains-append_left, Contains-append_right}
use Rattle.il_base.specs.declared.ids.TypeId.{TypeId}
use Rattle.il_base.specs.declared.ids.Item.{Item}
use Rattle.il_base.specs.declared.sig.Sig.{Sig}
use Rattle.il_base.specs.declared.sig.MethodSig.{MethodSig}
use Rattle.il_base.specs.declared.body.Form.{Form}
use Rattle.il_base.specs.declared.body.Form.TheVariants as form
use Rattle.il_base.specs.declared.body.Operand.{Operand}
use Rattle.il_base.specs.declared.body.Operand.TheVariants as operand
use Rattle.il_base.specs.declared.body.Instr.{Instr}
use Rattle.il_base.specs.declared.body.Handler.{Handler}
use Rattle.il_base.specs.declared.body.Body.{Body}
use Rattle.il_base.specs.declared.table.TheConstants as table
use Rattle.il_base.specs.declared.cli_format.column.CodedIndex.TheVariants.{MethodDefOrRef}
use Rattle.descriptor_file.specs.declared.root.Root.{Root}
use Rattle.il_base.specs.declared.world_model.known.Known.{Known}
use Rattle.il_base.specs.declared.world_model.known.Known.TheVariants.{Good, Bad}
use Rattle.il_base.specs.declared.world_model.known.BadKind.{BadKind}
use Rattle.il_base.specs.declared.world_model.known.BadKind.TheVariants.{Unresolved}
use Rattle.il_base.specs.declared.world_model.expr.TypeExpr.{TypeExpr}
use Rattle.il_base.specs.declared.world_model.expr.MethodUse.{MethodUse}
use Rattle.il_base.specs.declared.world_model.members.MethodDefRow.{MethodDefRow}
use Rattle.il_base.specs.declared.world_model.members.MethodSpecRow.{MethodSpecRow}
use Rattle.il_base.specs.declared.world_model.members.StandAloneSigRow.{StandAloneSigRow}
use Rattle.il_base.specs.declared.world_model.record.AsmRec.{AsmRec}
use Rattle.il_base.specs.world_model.Tokens.{table_of, index_in}
use Rattle.il_base.specs.world_model.Worlds.{known_map, known_then, sig_expr}
use Rattle.rules.specs.declared.link_rules.row_at.RowAt.{RowAt}
use Rattle.rules.specs.declared.link_rules.member_type.MethodType.{MethodType}
use Rattle.rules.specs.link_rules.Signatures.{names_at, method_type}
use Rattle.rules.specs.link_rules.Members.{array_type, generic_method, instantiated, arguments_of, method_spec_use}
use Rattle.rules.specs.link_rules.Cycles.{listed}
use Rattle.base_laws.proofs.lemmas.known_laws.Lists.{first_in, to_flat, from_listed, to_if, and_then_some, map_some}
use Rattle.rules.specs.mark_rules.Places.{row_of}
use Rattle.rules.specs.mark_rules.Naming.{Part, bad_part, parts_of, type_parts, sig_parts, method_type_parts, method_sig_parts, spec_use_at, method_named, type_token_part, method_token_part, field_token_part}
use Rattle.rules.specs.mark_rules.Bodies.{any_token_part, token_parts, operand_parts, instruction_parts, locals_row_parts, locals_parts, handler_parts, is_read, are_locals_read, operands_of, code_parts, body_parts, is_field_token, is_method_token, is_catch}
use Rattle.rules.specs.mark_rules.Shown.{parts_of_item}
use Rattle.rules.specs.mark_rules.Marking.{Marks}
use Rattle.rules.specs.mark_rules.BadItems.{IsFirstFlaw}
use Rattle.rules.specs.merge_rules.Numbers.{Kept}
use Rattle.rules.specs.merge_rules.Keys.{InstanceKey, good, world_sig, world_sigs, type_key, method_key, field_key, instance_by, instance_key}
use Rattle.rules.specs.merge_rules.Order.{Met, met_type, met_sig, met_method, met_field, met_instance, met_locals, met_types, met_token, met_good_sig, met_method_sig, met_callee, met_field_token, met_by_form, met_operand, met_locals_row, met_locals_token, met_body}
use Rattle.rules.specs.merge_rules.Refs.{numbers_in}
use Rattle.trim_laws.specs.merged_scopes.Numbers.{numbers_of_sigs, numbers_of_method, numbers_of_met}
use Rattle.merge_laws.specs.merged_record.Laws.{InputsAreRecords}
use Rattle.merge_laws.proofs.lemmas.merged_record.Tokens.{of_coded}
use Rattle.merge_laws.specs.merged_owners.Laws.{AreMarked}
use Rattle.merge_laws.proofs.lemmas.merged_owners.Every.{Every, all_none, all_one, all_join, all_either, all_flat, all_map}
use Rattle.merge_laws.proofs.lemmas.merged_tokens.Keys.{known_good}
use Rattle.merge_laws.proofs.lemmas.merged_tokens.Parts.{names_type, names_method, no_bad}
use Rattle.merge_laws.proofs.lemmas.merged_tokens.Bodies.{no_spec}
use Rattle.merge_laws.proofs.lemmas.merged_standing.Low.{bound, IsLow}
use Rattle.trim_laws.proofs.lemmas.merged_scopes.Numbers.{sig_reads, sigs_read, method_sig_reads, key_reads}
use Rattle.trim_laws.proofs.lemmas.merged_scopes.Members.{method_reads, field_reads}

module _ (recs : List AsmRec) (records : InputsAreRecords recs) (P : ℕ → Type 0) (there_so : (t : TypeId) → t.0 < bound recs → P (suc t.0)) (array : (t : TypeId) → array_type recs ≡ Some t → IsLow recs t) where
  -- each type in it is so
  abbrev pub Fine : Met → Type 0
  Fine x = Every P (numbers_of_met recs x)

  abbrev pub All : List Met → Type 0
  All ms = Every Fine ms

  -- ---- members

  module _ (a : ℕ) (rec : AsmRec) (there : slice_get recs a ≡ Some rec) (input : suc a < length recs) where
    pub field_fine : (token : ℕ) → All (met_field_token recs a rec token)
    field_fine token =
        all_map Fine met_field (listed (field_key recs a rec token))
        (λ k c. field_reads recs P there_so a rec there array token k (from_listed (field_key recs a rec token) k c))

    instance_reads : (row : MethodSpecRow) (i : InstanceKey) (u v : MethodUse) → (table_of row.method == table.METHOD_SPEC) ≡ false → instance_by recs a rec row ≡ Some i
        → known_map (instantiated u) (known_then (arguments_of (names_at recs a rec)) row.instantiation) ≡ Good v → Fine (met_instance i)
    instance_reads row i u v s h g =
        let k = and_then_some (λ m. option_map (λ (args : List Sig). record { method = m; args = world_sigs recs a rec args }) (good row.instantiation)) (method_key recs a rec row.method) i h in
        let n = map_some (λ (args : List Sig). record { method = k.0; args = world_sigs recs a rec args }) (good row.instantiation) i k.2 in
        subst (λ (j : InstanceKey). Fine (met_instance j)) n.2
        (all_join P (numbers_of_method recs k.0) (numbers_of_sigs (world_sigs recs a rec n.0)) (method_reads recs P there_so a rec there array row.method k.0 s k.1) (args_read row.instantiation n.0 n.1 g))
      where
        args_read : (x : Known (List Sig)) (args : List Sig) → good x ≡ Some args → known_map (instantiated u) (known_then (arguments_of (names_at recs a rec)) x) ≡ Good v → Every P (numbers_of_sigs (world_sigs recs a rec args))
        args_read (Good ss) args e f =
            let same : ss ≡ args = cc in
            let es = mapped (known_then (arguments_of (names_at recs a rec)) (Good ss)) f in
            subst (λ (xs : List Sig). Every P (numbers_of_sigs (world_sigs recs a rec xs))) same (sigs_read recs P there_so a rec there ss es.0 es.1)
          where
            mapped : (x : Known (List TypeExpr)) → known_map (instantiated u) x ≡ Good v → (es : List TypeExpr) × (x ≡ Good es)
            mapped (Good es) f = (es, refl)
            mapped (Bad why) f = absurd (cc)
        args_read (Bad why) args e f = absurd (cc)

    spec_reads : (token : ℕ) (o : Option MethodSpecRow) (v : MethodUse) (i : InstanceKey) → option_and_then (slice_get rec.method_spec) (index_in table.METHOD_SPEC token) ≡ o → spec_use_at recs a rec o ≡ Good v
        → option_and_then (instance_by recs a rec) o ≡ Some i → Fine (met_instance i)
    unfolding method_spec_use
    spec_reads token None v i at h e = absurd (cc)
    spec_reads token (Some row) v i at h e =
        let k = and_then_some (slice_get rec.method_spec) (index_in table.METHOD_SPEC token) row at in
        let s = no_spec (table_of row.method) (of_coded rec MethodDefOrRef row.method ((records a rec input there).tokens.method_specs k.0 row k.2)).table in
        let g = known_good (λ (u : MethodUse). known_map (instantiated u) (known_then (arguments_of (names_at recs a rec)) row.instantiation)) (generic_method recs a rec row.method) v h in
        instance_reads row i g.0 v s e g.2

    named_spec : (token : ℕ) → (table_of token == table.METHOD_SPEC) ≡ true → method_named recs a rec token ≡ spec_use_at recs a rec (option_and_then (slice_get rec.method_spec) (index_in table.METHOD_SPEC token))
    unfolding method_named
    named_spec token s = ap (λ (b : Bool). if b then spec_use_at recs a rec (option_and_then (slice_get rec.method_spec) (index_in table.METHOD_SPEC token)) else generic_method recs a rec token) s

    instance_fine : (token : ℕ) (v : MethodUse) (i : InstanceKey) → (table_of token == table.METHOD_SPEC) ≡ true → method_named recs a rec token ≡ Good v → instance_key recs a rec token ≡ Some i → Fine (met_instance i)
    unfolding instance_key
    instance_fine token v i s h e = spec_reads token (option_and_then (slice_get rec.method_spec) (index_in table.METHOD_SPEC token)) v i refl (sym (named_spec token s) ∙ h) e

    abbrev IsNamed : ℕ → Type 0
    IsNamed token = (v : MethodUse) × (method_named recs a rec token ≡ Good v)

    callee_by : (token : ℕ) (b : Bool) → (table_of token == table.METHOD_SPEC) ≡ b → (b ≡ true → IsNamed token)
        → All (if b then map met_instance (listed (instance_key recs a rec token)) else map met_method (listed (method_key recs a rec token)))
    callee_by token true e u =
        all_map Fine met_instance (listed (instance_key recs a rec token)) (λ i c. instance_fine token (u refl).0 i e (u refl).1 (from_listed (instance_key recs a rec token) i c))
    callee_by token false e u =
        all_map Fine met_method (listed (method_key recs a rec token)) (λ k c. method_reads recs P there_so a rec there array token k e (from_listed (method_key recs a rec token) k c))

    pub callee_fine : (token : ℕ) → (v : MethodUse) × (method_named recs a rec token ≡ Good v) → All (met_callee recs a rec token)
    callee_fine token u = callee_by token (table_of token == table.METHOD_SPEC) refl (λ e. u)

    -- one that is no MethodSpec
    pub plain_fine : (token : ℕ) → (table_of token == table.METHOD_SPEC) ≡ false → All (met_callee recs a rec token)
    plain_fine token s = callee_by token (table_of token == table.METHOD_SPEC) refl (λ e. absurd (cc))

  -- ---- parts of a kept item

  module _ (kept : Kept) (entry : Option RowAt) (roots : List Root) (marks : AreMarked recs entry roots kept) (flawless : IsFirstFlaw recs entry (Marks recs entry roots) None) (i : Item) (at : RowAt) (rec : AsmRec)
      (home : row_of recs i ≡ Some at) (keeps : kept i ≡ true) (there : slice_get recs at.asm ≡ Some rec) (input : suc at.asm < length recs) where
    abbrev pub Parts : List Part
    Parts = parts_of_item recs i at

    pub bad : (place : ℕ) (why : BadKind) → Contains Parts (bad_part place why) → ⊥
    bad place why c = no_bad recs entry roots kept marks flawless i at rec home keeps there input place why c

    good_part : {A : Type 0} (place : ℕ) (f : A → List Part) (x : Known A) → ((p : Part) → Contains (parts_of place f x) p → Contains Parts p) → (y : A) × (x ≡ Good y)
    good_part place f (Good y) h = (y, refl)
    good_part place f (Bad why) h = absurd (bad place why (h (bad_part place why) (first_in (bad_part place why) [])))

    pub types_fine : (place offset token : ℕ) → Contains Parts (type_token_part recs at.asm rec place offset token) → All (met_types (type_key recs at.asm rec token))
    types_fine place offset token c =
        let e = names_type recs entry roots kept marks flawless i at rec home keeps there input place offset token c in
        all_map Fine met_type (listed (type_key recs at.asm rec token)) (λ k d. key_reads recs P there_so at.asm rec there token e.0 k e.1 (from_listed (type_key recs at.asm rec token) k d))

    pub token_fine : (place offset token : ℕ) → Contains Parts (type_token_part recs at.asm rec place offset token) → All (met_token recs at.asm rec token)
    token_fine place offset token c = all_either Fine (token == 0) [] (met_types (type_key recs at.asm rec token)) (all_none Fine) (types_fine place offset token c)

    -- ---- signatures

    sig_by : (s : Known Sig) (e : TypeExpr) → known_then (sig_expr (names_at recs at.asm rec)) s ≡ Good e → All (met_good_sig recs at.asm rec s)
    sig_by (Good s) e h = all_one Fine (met_sig (world_sig recs at.asm rec s)) (sig_reads recs P there_so at.asm rec there s e h)
    sig_by (Bad why) e h = absurd (cc)

    pub sig_fine : (place : ℕ) (s : Known Sig) → ((p : Part) → Contains (sig_parts recs at.asm rec place s) p → Contains Parts p) → All (met_good_sig recs at.asm rec s)
    sig_fine place s h =
        let g = good_part place (λ e. type_parts place (e ∷ [])) (known_then (sig_expr (names_at recs at.asm rec)) s) h in
        sig_by s g.0 g.1

    each_sig : (ss : List Sig) → Every P (numbers_of_sigs ss) → All (map met_sig ss)
    each_sig ss h = all_map Fine met_sig ss (λ s c. record { each = λ t d. h.each t (to_flat numbers_in ss t (record { item = s; there = c; inside = d })) })

    method_sig_by : (s : Known MethodSig) (t : MethodType) → known_then (method_type (names_at recs at.asm rec)) s ≡ Good t → All (met_method_sig recs at.asm rec s)
    method_sig_by (Good s) t h =
        let ss : List Sig = world_sigs recs at.asm rec (s.ret ∷ s.params) in
        all_join Fine (map met_sig ss) [] (each_sig ss (method_sig_reads recs P there_so at.asm rec there s t h)) (all_none Fine)
    method_sig_by (Bad why) t h = absurd (cc)

    method_type_good : (place : ℕ) (s : Known MethodSig) → ((p : Part) → Contains (method_sig_parts recs at.asm rec place s) p → Contains Parts p)
        → (t : MethodType) × (known_then (method_type (names_at recs at.asm rec)) s ≡ Good t)
    method_type_good place s h = good_part place (method_type_parts place) (known_then (method_type (names_at recs at.asm rec)) s) h

    pub method_sig_fine : (place : ℕ) (s : Known MethodSig) → ((p : Part) → Contains (method_sig_parts recs at.asm rec place s) p → Contains Parts p) → All (met_method_sig recs at.asm rec s)
    method_sig_fine place s h = let g = method_type_good place s h in method_sig_by s g.0 g.1

    -- ---- bodies

    locals_by : (s : Known (List Sig)) (es : List TypeExpr) → known_then (arguments_of (names_at recs at.asm rec)) s ≡ Good es → All (map (λ ss. met_locals (world_sigs recs at.asm rec ss)) (listed (good s)))
    locals_by (Good ss) es h = all_one Fine (met_locals (world_sigs recs at.asm rec ss)) (sigs_read recs P there_so at.asm rec there ss es h)
    locals_by (Bad why) es h = absurd (cc)

    locals_row : (place : ℕ) (o : Option StandAloneSigRow) → ((p : Part) → Contains (locals_row_parts recs at.asm rec place o) p → Contains Parts p) → All (flat_map (met_locals_row recs at.asm rec) (listed o))
    locals_row place None h = all_none Fine
    locals_row place (Some row) h =
        let g = good_part place (type_parts place) (known_then (arguments_of (names_at recs at.asm rec)) row.signature) h in
        all_join Fine (met_locals_row recs at.asm rec row) [] (locals_by row.signature g.0 g.1) (all_none Fine)

    locals_if : (place token : ℕ) (b : Bool) → (token == 0) ≡ b
        → ((p : Part) → Contains (if b then [] else locals_row_parts recs at.asm rec place (option_and_then (slice_get rec.stand_alone_sig) (index_in table.STAND_ALONE_SIG token))) p → Contains Parts p)
        → All (met_locals_token recs at.asm rec token)
    locals_if place token true e h = subst (λ (n : ℕ). All (met_locals_token recs at.asm rec n)) (sym (eqb-true token 0 e)) (all_none Fine)
    locals_if place token false e h = locals_row place (option_and_then (slice_get rec.stand_alone_sig) (index_in table.STAND_ALONE_SIG token)) h

    -- what is read of a method before its operands
    is_good : {A : Type 0} (s : Known A) → ((why : BadKind) → s ≡ Bad why → ⊥) → is_read s ≡ true
    is_good (Good x) h = refl
    is_good (Bad why) h = absurd (h why refl)

    module _ (place : ℕ) (m : MethodDefRow) (b : Body) (sigs : (p : Part) → Contains (method_sig_parts recs at.asm rec place m.signature) p → Contains Parts p)
        (bodies : (p : Part) → Contains (body_parts recs at.asm rec place (is_read m.signature) b) p → Contains Parts p) where
      in_code : (p : Part) → Contains (code_parts recs at.asm rec place (is_read m.signature) b) p → Contains Parts p
      in_code p c = bodies p (Contains-append_left (code_parts recs at.asm rec place (is_read m.signature) b) (flat_map (handler_parts recs at.asm rec place) b.handlers) p c)

      in_locals : (p : Part) → Contains (locals_parts recs at.asm rec place b.locals) p → Contains Parts p
      in_locals p c = in_code p (Contains-append_left (locals_parts recs at.asm rec place b.locals) (operands_of recs at.asm rec place (is_read m.signature) b) p c)

      in_handlers : (h : Handler) (p : Part) → Contains b.handlers h → Contains (handler_parts recs at.asm rec place h) p → Contains Parts p
      in_handlers h p c d =
          bodies p
          (Contains-append_right (code_parts recs at.asm rec place (is_read m.signature) b) (flat_map (handler_parts recs at.asm rec place) b.handlers) p
          (to_flat (handler_parts recs at.asm rec place) b.handlers p (record { item = h; there = c; inside = d })))

      signature_read : is_read m.signature ≡ true
      signature_read = let t = method_type_good place m.signature sigs in by_type m.signature t.0 t.1
        where
          by_type : (s : Known MethodSig) (t : MethodType) → known_then (method_type (names_at recs at.asm rec)) s ≡ Good t → is_read s ≡ true
          by_type (Good s) t h = refl
          by_type (Bad why) t h = absurd (cc)

      row_read : (row : StandAloneSigRow) (es : List TypeExpr) → known_then (arguments_of (names_at recs at.asm rec)) row.signature ≡ Good es → is_read row.signature ≡ true
      row_read row es h = by_sig row.signature h
        where
          by_sig : (s : Known (List Sig)) → known_then (arguments_of (names_at recs at.asm rec)) s ≡ Good es → is_read s ≡ true
          by_sig (Good ss) h = refl
          by_sig (Bad why) h = absurd (cc)

      locals_good : (t : Bool) (o : Option StandAloneSigRow) → ((p : Part) → Contains (if t then [] else locals_row_parts recs at.asm rec place o) p → Contains Parts p)
          → (t || list_any (λ (r : StandAloneSigRow). is_read r.signature) (listed o)) ≡ true
      locals_good true o h = refl
      locals_good false None h = let p : Part = bad_part place Unresolved in absurd (bad place Unresolved (h p (first_in p [])))
      locals_good false (Some row) h =
          let g = good_part place (type_parts place) (known_then (arguments_of (names_at recs at.asm rec)) row.signature) h in
          ap (λ (c : Bool). c || false) (row_read row g.0 g.1)

      locals_read : are_locals_read rec b.locals ≡ true
      locals_read = locals_good (b.locals == 0) (option_and_then (slice_get rec.stand_alone_sig) (index_in table.STAND_ALONE_SIG b.locals)) in_locals

      in_instruction : (i : Instr) (p : Part) → Contains b.code i → Contains (instruction_parts recs at.asm rec place i) p → Contains Parts p
      in_instruction i p c q =
          in_code p
          (Contains-append_right (locals_parts recs at.asm rec place b.locals) (operands_of recs at.asm rec place (is_read m.signature) b) p
          (to_if (is_read m.signature && are_locals_read rec b.locals) (flat_map (instruction_parts recs at.asm rec place) b.code) p (and_from (is_read m.signature) (are_locals_read rec b.locals) signature_read locals_read)
          (to_flat (instruction_parts recs at.asm rec place) b.code p (record { item = i; there = c; inside = q }))))

      method_by : (offset token : ℕ) → Contains Parts (method_token_part recs at.asm rec place offset token) → All (met_callee recs at.asm rec token)
      method_by offset token c =
          let n = names_method recs entry roots kept marks flawless i at rec home keeps there input place offset token c in
          callee_fine at.asm rec there input token (n.0, n.1)

      any_by : (offset token : ℕ) (f n : Bool)
          → Contains Parts (if f then field_token_part recs at.asm rec place offset token else if n then method_token_part recs at.asm rec place offset token else type_token_part recs at.asm rec place offset token)
          → All (if f then met_field_token recs at.asm rec token else if n then met_callee recs at.asm rec token else met_token recs at.asm rec token)
      any_by offset token true n c = field_fine at.asm rec there input token
      any_by offset token false true c = method_by offset token c
      any_by offset token false false c = token_fine place offset token c

      form_fine : (offset : ℕ) (f : Form) (token : ℕ) → ((p : Part) → Contains (token_parts recs at.asm rec place offset f token) p → Contains Parts p) → All (met_by_form recs at.asm rec f token)
      form_fine offset form.Call token h = method_by offset token (h (method_token_part recs at.asm rec place offset token) (first_in (method_token_part recs at.asm rec place offset token) []))
      form_fine offset form.NewObj token h = method_by offset token (h (method_token_part recs at.asm rec place offset token) (first_in (method_token_part recs at.asm rec place offset token) []))
      form_fine offset form.Field token h = field_fine at.asm rec there input token
      form_fine offset form.LdStr token h = all_none Fine
      form_fine offset form.LdToken token h =
          any_by offset token (is_field_token rec token) (is_method_token token) (h (any_token_part recs at.asm rec place offset token) (first_in (any_token_part recs at.asm rec place offset token) []))
      form_fine offset _ token h = token_fine place offset token (h (type_token_part recs at.asm rec place offset token) (first_in (type_token_part recs at.asm rec place offset token) []))

      operand_fine : (offset : ℕ) (f : Form) (o : Operand) → ((p : Part) → Contains (operand_parts recs at.asm rec place offset f o) p → Contains Parts p) → All (met_operand recs at.asm rec f o)
      operand_fine offset f (operand.Token token) h = form_fine offset f token h
      operand_fine offset f _ h = all_none Fine

      handler_by : (h : Handler) (c : Bool) → ((p : Part) → Contains (if c then type_token_part recs at.asm rec place 0 h.token ∷ [] else []) p → Contains Parts p) → All (if c then met_token recs at.asm rec h.token else [])
      handler_by h true g = token_fine place 0 h.token (g (type_token_part recs at.asm rec place 0 h.token) (first_in (type_token_part recs at.asm rec place 0 h.token) []))
      handler_by h false g = all_none Fine

      pub body_fine : All (met_body recs at.asm rec b)
      body_fine =
          let code : List Met = flat_map (λ (i : Instr). met_operand recs at.asm rec i.form i.operand) b.code in
          let handlers : List Met = flat_map (λ (h : Handler). if is_catch h then met_token recs at.asm rec h.token else []) b.handlers in
          let locals : List Met = met_locals_token recs at.asm rec b.locals in
          all_join Fine (locals ++ code) handlers
          (all_join Fine locals code (locals_if place b.locals (b.locals == 0) refl in_locals)
          (all_flat Fine (λ (i : Instr). met_operand recs at.asm rec i.form i.operand) b.code (λ i c. operand_fine i.at i.form i.operand (λ p q. in_instruction i p c q))))
          (all_flat Fine (λ (h : Handler). if is_catch h then met_token recs at.asm rec h.token else []) b.handlers (λ h c. handler_by h (is_catch h) (λ p d. in_handlers h p c d)))
