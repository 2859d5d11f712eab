-- What the signature and the body of a kept method meet is kept.
use Rattle.std.proofs.Common.{◌≡◌, ◌<◌, ℕ, zero, suc, List, [], ◌∷◌, ◌++◌, length, map, Bool, true, false, Option, Some, None, refl, sym, ap, subst, ◌∙◌, eqb-true}
use Rattle.std.specs.Prelude.{slice_get, ◌==◌, ◌&&◌, ◌||◌, if◌then◌else◌}
use Rattle.std.specs.List.{Contains, flat_map, list_any}
use Rattle.std.specs.Option.{option_and_then}
use Rattle.std.proofs.lemmas.Bool.{and_from}
use Rattle.std.proofs.lemmas.List.Elements.{Contains-append_left, Contains-append_right}
use Rattle.il_base.specs.declared.sig.Sig.{Sig}
use Rattle.il_base.specs.declared.sig.MethodSig.{MethodSig}
use Rattle.il_base.specs.declared.body.Form.{Form}
use Rattle.il_base.specs.declared.body.Form.TheVariants as form
use Rattle.il_base.specs.declared.body.Operand.{Operand}
use Rattle.il_base.specs.declared.body.Operand.TheVariants as operand
use Rattle.il_base.specs.declared.body.Instr.{Instr}
use Rattle.il_base.specs.declared.body.Handler.{Handler}
use Rattle.il_base.specs.declared.body.Body.{Body}
use Rattle.il_base.specs.declared.table.TheConstants as table
use Rattle.descriptor_file.specs.declared.root.Root.{Root}
use Rattle.il_base.specs.declared.world_model.known.Known.{Known}
use Rattle.il_base.specs.declared.world_model.known.Known.TheVariants.{Good, Bad}
use Rattle.il_base.specs.declared.world_model.known.BadKind.{BadKind}
use Rattle.il_base.specs.declared.world_model.known.BadKind.TheVariants.{Unresolved}
use Rattle.il_base.specs.declared.world_model.expr.TypeExpr.{TypeExpr}
use Rattle.il_base.specs.declared.world_model.members.MethodDefRow.{MethodDefRow}
use Rattle.il_base.specs.declared.world_model.members.StandAloneSigRow.{StandAloneSigRow}
use Rattle.il_base.specs.declared.world_model.types.TypeSpecRow.{TypeSpecRow}
use Rattle.il_base.specs.declared.world_model.record.AsmRec.{AsmRec}
use Rattle.il_base.specs.world_model.Tokens.{token_of, table_of, index_in}
use Rattle.il_base.specs.world_model.Worlds.{known_then, sig_expr}
use Rattle.rules.specs.declared.link_rules.row_at.RowAt.{RowAt}
use Rattle.rules.specs.link_rules.Cycles.{listed}
use Rattle.rules.specs.link_rules.Signatures.{names_at, named_type, spec_type_at, token_type}
use Rattle.rules.specs.link_rules.Members.{methods_in}
use Rattle.rules.specs.type_rules.Rows.{rec_at}
use Rattle.base_laws.proofs.lemmas.type_laws.Places.{place_within}
use Rattle.base_laws.proofs.lemmas.known_laws.Lists.{first_in, to_flat, to_option, to_if}
use Rattle.rules.specs.mark_rules.Places.{row_of, method_item}
use Rattle.rules.specs.mark_rules.Naming.{Part, bad_part, sigs_parts, method_sig_parts, type_token_part, method_token_part, field_token_part}
use Rattle.rules.specs.mark_rules.Types.{constraints_of}
use Rattle.rules.specs.mark_rules.Calls.{row_parts, parts_of_method}
use Rattle.rules.specs.mark_rules.Bodies.{body_of, is_field_token, is_method_token, is_catch, any_token_part, token_parts, operand_parts, instruction_parts, locals_row_parts, locals_parts, handler_parts, is_read, are_locals_read, operands_of, code_parts, body_parts}
use Rattle.rules.specs.mark_rules.Shown.{parts_of_item}
use Rattle.rules.specs.mark_rules.Marking.{Marks}
use Rattle.rules.specs.mark_rules.BadItems.{IsFirstFlaw}
use Rattle.rules.specs.merge_rules.Numbers.{Kept}
use Rattle.rules.specs.merge_rules.Keys.{TypeKey, named, spec, good, class_number, numbered_key, spec_key, type_key, world_sig, world_sigs}
use Rattle.rules.specs.merge_rules.Order.{Met, met_type, met_sig, met_locals, met_types, met_token, met_good_sig, met_method_sig, met_callee, met_field_token, met_by_form, met_operand, met_locals_row, met_locals_token, met_body, met_method_row}
use Rattle.rules.specs.merge_rules.Refs.{types_of_key, types_of_sig, types_of_sigs}
use Rattle.merge_laws.specs.merged_record.Laws.{InputsAreRecords}
use Rattle.merge_laws.specs.merged_owners.Laws.{AreMarked, AreKept}
use Rattle.merge_laws.proofs.lemmas.merged_owners.Every.{Every, all_none, all_one, all_join, all_listed, all_if, all_flat, all_option, all_map}
use Rattle.merge_laws.proofs.lemmas.merged_owners.Homes.{own_home}
use Rattle.trim_laws.proofs.lemmas.marked_mets.Stays.{Stays, StayAll, Stay}
use Rattle.trim_laws.proofs.lemmas.marked_mets.Tokens.{NumberStays, class_stays, good_token}
use Rattle.trim_laws.proofs.lemmas.marked_mets.Signatures.{sig_stays}
use Rattle.trim_laws.proofs.lemmas.marked_mets.Parts.{type_named, method_named_by, field_named_by, sigs_part, method_sig_part, not_bad}
use Rattle.trim_laws.proofs.lemmas.marked_mets.Uses.{CoreIsBare, Holds, Fine, callee_fine, field_token_fine}

-- ---- keys of types

module _ (recs : List AsmRec) (kept : Kept) (a : ℕ) (rec : AsmRec) where
  key_of_number : (n : ℕ) (k : TypeKey) → NumberStays recs kept n → numbered_key n ≡ Some k → StayAll recs kept (types_of_key k)
  key_of_number zero k h e = absurd (cc)
  key_of_number (suc t) k h e =
      let same : named (record { 0 = t }) ≡ k = cc in
      subst (λ (x : TypeKey). StayAll recs kept (types_of_key x)) same (all_one (Stays recs kept) (record { 0 = t }) (h (record { 0 = t }) refl))

  good_spec : (s : Known Sig) (k : TypeKey) (e : TypeExpr) → spec_key recs a rec (Some (record { signature = s })) ≡ Some k → known_then (sig_expr (names_at recs a rec)) s ≡ Good e → Stay recs kept e → StayAll recs kept (types_of_key k)
  good_spec (Good s) k e h g stay =
      let same : spec (world_sig recs a rec s) ≡ k = cc in
      subst (λ (x : TypeKey). StayAll recs kept (types_of_key x)) same (sig_stays recs kept a rec s e g stay)
  good_spec (Bad why) k e h g stay = absurd (cc)

  of_spec : (o : Option TypeSpecRow) (k : TypeKey) (e : TypeExpr) → spec_key recs a rec o ≡ Some k → spec_type_at recs a rec o ≡ Good e → Stay recs kept e → StayAll recs kept (types_of_key k)
  of_spec None k e h g stay = absurd (cc)
  of_spec (Some row) k e h g stay = good_spec row.signature k e h g stay

  key_by : (token : ℕ) (k : TypeKey) (e : TypeExpr) (b : Bool)
      → (if b then spec_key recs a rec (option_and_then (slice_get rec.type_spec) (index_in table.TYPE_SPEC token)) else numbered_key (class_number recs a rec token)) ≡ Some k
      → (if b then spec_type_at recs a rec (option_and_then (slice_get rec.type_spec) (index_in table.TYPE_SPEC token)) else named_type recs a rec token) ≡ Good e → Stay recs kept e → StayAll recs kept (types_of_key k)
  key_by token k e true h g stay = of_spec (option_and_then (slice_get rec.type_spec) (index_in table.TYPE_SPEC token)) k e h g stay
  key_by token k e false h g stay = key_of_number (class_number recs a rec token) k (class_stays recs kept a rec token (good_token recs kept a rec token e g stay)) h

  pub key_stays : (token : ℕ) (k : TypeKey) (e : TypeExpr) → type_key recs a rec token ≡ Some k → token_type recs a rec token ≡ Good e → Stay recs kept e → StayAll recs kept (types_of_key k)
  unfolding type_key token_type
  key_stays token k e h g stay = key_by token k e (table_of token == table.TYPE_SPEC) h g stay

  pub type_fine : (k : TypeKey) → StayAll recs kept (types_of_key k) → Fine recs kept (met_type k)
  type_fine k h = record { types = h; members = all_none (Holds recs kept) }

  pub token_fine : (token : ℕ) → ((token == 0) ≡ false → (e : TypeExpr) × (token_type recs a rec token ≡ Good e) × Stay recs kept e) → Every (Fine recs kept) (met_token recs a rec token)
  token_fine token h = by_zero (token == 0) refl
    where
      by_zero : (b : Bool) → (token == 0) ≡ b → Every (Fine recs kept) (if b then [] else met_types (type_key recs a rec token))
      by_zero true e = all_none (Fine recs kept)
      by_zero false e =
          let t = h e in
          all_map (Fine recs kept) met_type (listed (type_key recs a rec token))
          (λ k c. (all_listed (λ (x : TypeKey). Fine recs kept (met_type x)) (type_key recs a rec token) (λ x f. type_fine x (key_stays token x t.0 f t.1 t.2))).each k c)

  -- ---- signatures

  pub sig_fine : (s : Sig) → StayAll recs kept (types_of_sig s) → Fine recs kept (met_sig s)
  sig_fine s h = record { types = h; members = all_none (Holds recs kept) }

  pub good_sig_fine : (k : Known Sig) → ((s : Sig) → k ≡ Good s → StayAll recs kept (types_of_sig (world_sig recs a rec s))) → Every (Fine recs kept) (met_good_sig recs a rec k)
  good_sig_fine (Good s) h = all_one (Fine recs kept) (met_sig (world_sig recs a rec s)) (sig_fine (world_sig recs a rec s) (h s refl))
  good_sig_fine (Bad why) h = all_none (Fine recs kept)

  each_sig : (ss : List Sig) → StayAll recs kept (types_of_sigs ss) → Every (Fine recs kept) (map met_sig ss)
  each_sig ss h = all_map (Fine recs kept) met_sig ss (λ s c. sig_fine s (record { each = λ t d. h.each t (to_flat types_of_sig ss t (record { item = s; there = c; inside = d })) }))

  pub method_sig_fine : (k : Known MethodSig) → ((s : MethodSig) → k ≡ Good s → StayAll recs kept (types_of_sigs (world_sigs recs a rec (s.ret ∷ s.params)))) → Every (Fine recs kept) (met_method_sig recs a rec k)
  method_sig_fine k h =
      all_option (Fine recs kept) (λ (m : MethodSig). map met_sig (world_sigs recs a rec (m.ret ∷ m.params))) (good k)
      (λ s e. each_sig (world_sigs recs a rec (s.ret ∷ s.params)) (h s (good_is k s e)))
    where
      good_is : (x : Known MethodSig) (y : MethodSig) → good x ≡ Some y → x ≡ Good y
      good_is (Good z) y e = let same : z ≡ y = cc in ap Good same
      good_is (Bad why) y e = absurd (cc)

-- ---- a kept method of an input

module _ (recs : List AsmRec) (kept : Kept) (bare : CoreIsBare recs) (records : InputsAreRecords recs) (entry : Option RowAt) (roots : List Root) (stays : AreKept recs entry roots kept) (marks : AreMarked recs entry roots kept)
    (good_all : IsFirstFlaw recs entry (Marks recs entry roots) None) where
  abbrev All : List Met → Type 0
  All ms = Every (Fine recs kept) ms

  module _ (at : RowAt) (rec : AsmRec) (there : slice_get recs at.asm ≡ Some rec) (input : suc at.asm < length recs) (keeps : kept (method_item recs at) ≡ true) (d : MethodDefRow) (is : slice_get rec.method_def at.row ≡ Some d) where
    home : row_of recs (method_item recs at) ≡ Some at
    unfolding row_of
    home = own_home methods_in recs at rec there (place_within rec.method_def at.row d is)

    abbrev Parts : List Part
    Parts = parts_of_item recs (method_item recs at) at

    abbrev place : ℕ
    place = token_of table.METHOD_DEF (suc at.row)

    bad : (why : BadKind) → Contains Parts (bad_part place why) → ⊥
    bad why c = not_bad recs kept entry roots stays marks good_all (method_item recs at) at rec home keeps there input place why c

    in_row : (p : Part) → Contains (row_parts recs at rec d) p → Contains Parts p
    unfolding parts_of_method
    in_row p c =
        to_option (λ (r : AsmRec). flat_map (row_parts recs at r) (listed (slice_get r.method_def at.row))) (rec_at recs at) rec p there
        (to_option (row_parts recs at rec) (slice_get rec.method_def at.row) d p is c)

    in_signature : (p : Part) → Contains (method_sig_parts recs at.asm rec place d.signature) p → Contains Parts p
    in_signature p c =
        in_row p
        (Contains-append_left (method_sig_parts recs at.asm rec place d.signature ++ constraints_of recs at.asm rec place) (flat_map (body_parts recs at.asm rec place (is_read d.signature)) (body_of d)) p
        (Contains-append_left (method_sig_parts recs at.asm rec place d.signature) (constraints_of recs at.asm rec place) p c))

    pub in_constraints : (p : Part) → Contains (constraints_of recs at.asm rec place) p → Contains Parts p
    in_constraints p c =
        in_row p
        (Contains-append_left (method_sig_parts recs at.asm rec place d.signature ++ constraints_of recs at.asm rec place) (flat_map (body_parts recs at.asm rec place (is_read d.signature)) (body_of d)) p
        (Contains-append_right (method_sig_parts recs at.asm rec place d.signature) (constraints_of recs at.asm rec place) p c))

    signature_fine : All (met_method_sig recs at.asm rec d.signature)
    signature_fine = method_sig_fine recs kept at.asm rec d.signature (λ s e. method_sig_part recs kept entry roots stays marks good_all (method_item recs at) at rec home keeps there input place d.signature s e in_signature)

    read_by : (s : Known MethodSig) → d.signature ≡ s → is_read d.signature ≡ true
    read_by (Good s) e = ap (λ (x : Known MethodSig). is_read x) e
    read_by (Bad why) e =
        let p : Part = bad_part place why in
        absurd (bad why (in_signature p (subst (λ (x : Known MethodSig). Contains (method_sig_parts recs at.asm rec place x) p) (sym e) (first_in p []))))

    type_token : (offset token : ℕ) → Contains Parts (type_token_part recs at.asm rec place offset token) → All (met_token recs at.asm rec token)
    type_token offset token c =
        token_fine recs kept at.asm rec token (λ z. type_named recs kept entry roots stays marks good_all (method_item recs at) at rec home keeps there input place offset token c)

    method_token : (offset token : ℕ) → Contains Parts (method_token_part recs at.asm rec place offset token) → All (met_callee recs at.asm rec token)
    method_token offset token c =
        let n = method_named_by recs kept entry roots stays marks good_all (method_item recs at) at rec home keeps there input place offset token c in
        callee_fine recs kept bare entry roots stays marks good_all records at.asm rec there input token n.0 n.1 n.2

    field_token : (offset token : ℕ) → Contains Parts (field_token_part recs at.asm rec place offset token) → All (met_field_token recs at.asm rec token)
    field_token offset token c =
        let n = field_named_by recs kept entry roots stays marks good_all (method_item recs at) at rec home keeps there input place offset token c in
        field_token_fine recs kept bare entry roots stays marks good_all records at.asm rec there input token n.0 n.1 n.2

    module _ (b : Body) (has : Contains (body_of d) b) where
      in_body : (p : Part) → Contains (body_parts recs at.asm rec place (is_read d.signature) b) p → Contains Parts p
      in_body p c =
          in_row p
          (Contains-append_right (method_sig_parts recs at.asm rec place d.signature ++ constraints_of recs at.asm rec place) (flat_map (body_parts recs at.asm rec place (is_read d.signature)) (body_of d)) p
          (to_flat (body_parts recs at.asm rec place (is_read d.signature)) (body_of d) p (record { item = b; there = has; inside = c })))

      in_locals : (p : Part) → Contains (locals_parts recs at.asm rec place b.locals) p → Contains Parts p
      in_locals p c =
          in_body p
          (Contains-append_left (code_parts recs at.asm rec place (is_read d.signature) b) (flat_map (handler_parts recs at.asm rec place) b.handlers) p
          (Contains-append_left (locals_parts recs at.asm rec place b.locals) (operands_of recs at.asm rec place (is_read d.signature) b) p c))

      in_handlers : (h : Handler) (p : Part) → Contains b.handlers h → Contains (handler_parts recs at.asm rec place h) p → Contains Parts p
      in_handlers h p c q =
          in_body p
          (Contains-append_right (code_parts recs at.asm rec place (is_read d.signature) b) (flat_map (handler_parts recs at.asm rec place) b.handlers) p
          (to_flat (handler_parts recs at.asm rec place) b.handlers p (record { item = h; there = c; inside = q })))

      -- ---- locals

      row_by : (row : StandAloneSigRow) (s : Known (List Sig)) → row.signature ≡ s → ((p : Part) → Contains (sigs_parts recs at.asm rec place row.signature) p → Contains Parts p)
          → list_any (λ (r : StandAloneSigRow). is_read r.signature) (row ∷ []) ≡ true
      row_by row (Good s) e h = ap (λ (x : Known (List Sig)). is_read x || false) e
      row_by row (Bad why) e h =
          let p : Part = bad_part place why in
          absurd (bad why (h p (subst (λ (x : Known (List Sig)). Contains (sigs_parts recs at.asm rec place x) p) (sym e) (first_in p []))))

      locals_by : (t : Bool) (o : Option StandAloneSigRow) → ((p : Part) → Contains (if t then [] else locals_row_parts recs at.asm rec place o) p → Contains Parts p)
          → (t || list_any (λ (r : StandAloneSigRow). is_read r.signature) (listed o)) ≡ true
      locals_by true o h = refl
      locals_by false None h = let p : Part = bad_part place Unresolved in absurd (bad Unresolved (h p (first_in p [])))
      locals_by false (Some row) h = row_by row row.signature refl h

      locals_read : are_locals_read rec b.locals ≡ true
      locals_read = locals_by (b.locals == 0) (option_and_then (slice_get rec.stand_alone_sig) (index_in table.STAND_ALONE_SIG b.locals)) in_locals

      locals_met : (ss : List Sig) → StayAll recs kept (types_of_sigs ss) → Fine recs kept (met_locals ss)
      locals_met ss h = record { types = h; members = all_none (Holds recs kept) }

      good_locals : (row : StandAloneSigRow) (s : Known (List Sig)) → row.signature ≡ s → ((p : Part) → Contains (sigs_parts recs at.asm rec place row.signature) p → Contains Parts p)
          → All (map (λ ss. met_locals (world_sigs recs at.asm rec ss)) (listed (good s)))
      good_locals row (Good ss) e h =
          all_one (Fine recs kept) (met_locals (world_sigs recs at.asm rec ss))
          (locals_met (world_sigs recs at.asm rec ss) (sigs_part recs kept entry roots stays marks good_all (method_item recs at) at rec home keeps there input place row.signature ss e h))
      good_locals row (Bad why) e h = all_none (Fine recs kept)

      no_token : (row : StandAloneSigRow) (token : ℕ) → token ≡ 0 → option_and_then (slice_get rec.stand_alone_sig) (index_in table.STAND_ALONE_SIG token) ≡ Some row → ⊥
      no_token row token z e = let f : None ≡ Some row = sym (ap (λ (n : ℕ). option_and_then (slice_get rec.stand_alone_sig) (index_in table.STAND_ALONE_SIG n)) z) ∙ e in cc

      row_fine : (row : StandAloneSigRow) (t : Bool) → (b.locals == 0) ≡ t → option_and_then (slice_get rec.stand_alone_sig) (index_in table.STAND_ALONE_SIG b.locals) ≡ Some row
          → ((p : Part) → Contains (if t then [] else locals_row_parts recs at.asm rec place (option_and_then (slice_get rec.stand_alone_sig) (index_in table.STAND_ALONE_SIG b.locals))) p → Contains Parts p)
          → All (met_locals_row recs at.asm rec row)
      row_fine row true z e h = absurd (no_token row b.locals (eqb-true b.locals 0 z) e)
      row_fine row false z e h =
          good_locals row row.signature refl (λ p c. h p (subst (λ (o : Option StandAloneSigRow). Contains (locals_row_parts recs at.asm rec place o) p) (sym e) c))

      locals_fine : All (met_locals_token recs at.asm rec b.locals)
      locals_fine =
          all_option (Fine recs kept) (met_locals_row recs at.asm rec) (option_and_then (slice_get rec.stand_alone_sig) (index_in table.STAND_ALONE_SIG b.locals))
          (λ row e. row_fine row (b.locals == 0) refl e in_locals)

      -- ---- code

      in_code : (i : Instr) (p : Part) → Contains b.code i → Contains (instruction_parts recs at.asm rec place i) p → Contains Parts p
      in_code i p c q =
          in_body p
          (Contains-append_left (code_parts recs at.asm rec place (is_read d.signature) b) (flat_map (handler_parts recs at.asm rec place) b.handlers) p
          (Contains-append_right (locals_parts recs at.asm rec place b.locals) (operands_of recs at.asm rec place (is_read d.signature) b) p
          (to_if (is_read d.signature && are_locals_read rec b.locals) (flat_map (instruction_parts recs at.asm rec place) b.code) p
          (and_from (is_read d.signature) (are_locals_read rec b.locals) (read_by d.signature refl) locals_read)
          (to_flat (instruction_parts recs at.asm rec place) b.code p (record { item = i; there = c; inside = q })))))

      any_by : (offset token : ℕ) (f m : Bool)
          → Contains Parts (if f then field_token_part recs at.asm rec place offset token else if m then method_token_part recs at.asm rec place offset token else type_token_part recs at.asm rec place offset token)
          → All (if f then met_field_token recs at.asm rec token else if m then met_callee recs at.asm rec token else met_token recs at.asm rec token)
      any_by offset token true m c = field_token offset token c
      any_by offset token false true c = method_token offset token c
      any_by offset token false false c = type_token offset token c

      form_fine : (offset : ℕ) (f : Form) (token : ℕ) → ((p : Part) → Contains (token_parts recs at.asm rec place offset f token) p → Contains Parts p) → All (met_by_form recs at.asm rec f token)
      form_fine offset form.Call token h = method_token offset token (h (method_token_part recs at.asm rec place offset token) (first_in (method_token_part recs at.asm rec place offset token) []))
      form_fine offset form.NewObj token h = method_token offset token (h (method_token_part recs at.asm rec place offset token) (first_in (method_token_part recs at.asm rec place offset token) []))
      form_fine offset form.Field token h = field_token offset token (h (field_token_part recs at.asm rec place offset token) (first_in (field_token_part recs at.asm rec place offset token) []))
      form_fine offset form.LdStr token h = all_none (Fine recs kept)
      form_fine offset form.LdToken token h =
          any_by offset token (is_field_token rec token) (is_method_token token) (h (any_token_part recs at.asm rec place offset token) (first_in (any_token_part recs at.asm rec place offset token) []))
      form_fine offset _ token h = type_token offset token (h (type_token_part recs at.asm rec place offset token) (first_in (type_token_part recs at.asm rec place offset token) []))

      operand_fine : (offset : ℕ) (f : Form) (o : Operand) → ((p : Part) → Contains (operand_parts recs at.asm rec place offset f o) p → Contains Parts p) → All (met_operand recs at.asm rec f o)
      operand_fine offset f (operand.Token token) h = form_fine offset f token h
      operand_fine offset f _ h = all_none (Fine recs kept)

      handler_fine : (h : Handler) → Contains b.handlers h → All (if is_catch h then met_token recs at.asm rec h.token else [])
      handler_fine h c =
          all_if (Fine recs kept) (is_catch h) (met_token recs at.asm rec h.token)
          (λ e. type_token 0 h.token (in_handlers h (type_token_part recs at.asm rec place 0 h.token) c (to_if (is_catch h) (type_token_part recs at.asm rec place 0 h.token ∷ []) (type_token_part recs at.asm rec place 0 h.token) e (first_in (type_token_part recs at.asm rec place 0 h.token) []))))

      body_fine : All (met_body recs at.asm rec b)
      body_fine =
          let code : List Met = flat_map (λ (i : Instr). met_operand recs at.asm rec i.form i.operand) b.code in
          let handlers : List Met = flat_map (λ (h : Handler). if is_catch h then met_token recs at.asm rec h.token else []) b.handlers in
          let locals : List Met = met_locals_token recs at.asm rec b.locals in
          all_join (Fine recs kept) (locals ++ code) handlers
          (all_join (Fine recs kept) locals code locals_fine
          (all_flat (Fine recs kept) (λ (i : Instr). met_operand recs at.asm rec i.form i.operand) b.code (λ i c. operand_fine i.at i.form i.operand (λ p q. in_code i p c q))))
          (all_flat (Fine recs kept) (λ (h : Handler). if is_catch h then met_token recs at.asm rec h.token else []) b.handlers handler_fine)

  pub method_row_fine : (at : RowAt) → suc at.asm < length recs → kept (method_item recs at) ≡ true → All (met_method_row recs at)
  method_row_fine at input keeps =
      all_option (Fine recs kept) (λ (rec : AsmRec). flat_map (λ (m : MethodDefRow). met_method_sig recs at.asm rec m.signature ++ flat_map (met_body recs at.asm rec) (body_of m)) (listed (slice_get rec.method_def at.row))) (rec_at recs at)
      (λ rec there.
      all_option (Fine recs kept) (λ (m : MethodDefRow). met_method_sig recs at.asm rec m.signature ++ flat_map (met_body recs at.asm rec) (body_of m)) (slice_get rec.method_def at.row)
      (λ m e.
      all_join (Fine recs kept) (met_method_sig recs at.asm rec m.signature) (flat_map (met_body recs at.asm rec) (body_of m)) (signature_fine at rec there input keeps m e)
      (all_flat (Fine recs kept) (met_body recs at.asm rec) (body_of m) (λ b c. body_fine at rec there input keeps m e b c))))
