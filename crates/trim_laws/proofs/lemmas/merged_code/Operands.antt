-- What the tokens of a kept method name in the world of the output is what they named, moved (III.1.9, II.25.4.6): each of them names
-- something, and the output refers to it.
use Rattle.std.proofs.Common.{◌≡◌, ◌<◌, ℕ, suc, ◌+◌, ◌%◌, Bool, true, false, List, [], ◌∷◌, length, map, Option, Some, cond, find, refl, sym, ap, subst, ◌∙◌}
use Rattle.std.specs.Prelude.{slice_get, ◌==◌, ◌||◌, if◌then◌else◌}
use Rattle.std.specs.List.{Contains, list_any}
use Rattle.il_base.specs.declared.body.Form.{Form}
use Rattle.il_base.specs.declared.body.Form.TheVariants as form
use Rattle.il_base.specs.declared.body.Operand.{Operand}
use Rattle.il_base.specs.declared.body.Operand.TheVariants as operand
use Rattle.il_base.specs.declared.body.Instr.{Instr}
use Rattle.il_base.specs.declared.body.Handler.{Handler}
use Rattle.il_base.specs.declared.world_model.known.Known.{Known}
use Rattle.il_base.specs.declared.world_model.known.Known.TheVariants.{Good, Bad}
use Rattle.il_base.specs.declared.world_model.known.BadKind.TheVariants.{Unresolved}
use Rattle.il_base.specs.declared.world_model.expr.TypeExpr.{TypeExpr}
use Rattle.il_base.specs.declared.world_model.expr.MethodUse.{MethodUse}
use Rattle.il_base.specs.declared.world_model.expr.FieldUse.{FieldUse}
use Rattle.il_base.specs.declared.world_model.record.UserText.{UserText}
use Rattle.il_base.specs.declared.world_model.record.AsmRec.{AsmRec}
use Rattle.il_base.specs.world_model.Worlds.{known_map}
use Rattle.rules.specs.link_rules.Cycles.{listed}
use Rattle.rules.specs.link_rules.Signatures.{token_type}
use Rattle.base_laws.proofs.lemmas.known_laws.Lists.{first_in, to_map, to_listed}
use Rattle.rules.specs.mark_rules.Naming.{Named, Part, type_token_part, method_token_part, field_token_part, method_named, field_named}
use Rattle.rules.specs.mark_rules.Naming.Named.{type, method, field}
use Rattle.rules.specs.mark_rules.Bodies.{is_field_token, is_method_token, is_text_of, text_parts, token_parts, operand_parts, instruction_parts, is_catch, handler_parts}
use Rattle.il_base.specs.declared.cil_values.resolved.Use.{Use}
use Rattle.il_base.specs.declared.cil_values.resolved.Use.TheVariants as use_of
use Rattle.rules.specs.view_rules.Code.{is_token, text_by, text_named, handle_use, token_use, use_by, instruction_of, kind_by, clause_of}
use Rattle.rules.specs.merge_rules.Keys.{type_key}
use Rattle.rules.specs.merge_rules.Order.{met_type, met_types, met_token, met_callee, met_field_token, met_by_form, met_operand}
use Rattle.rules.specs.merge_rules.Refs.{first_or}
use Rattle.rules.specs.merge_rules.Moved.{moved_type, moved_callee, moved_field, texts_named, texts_by, text_token, moved_text, moved_by_form, moved_operand, moved_instr, moved_handler}
use Rattle.rules.specs.merge_rules.Restricted.{new_text}
use Rattle.rules.specs.change_rules.Change.{Rho}
use Rattle.rules.specs.change_rules.Moves.{move_expr, move_use, move_field_use}
use Rattle.rules.specs.change_rules.Answers.{move_operand, move_instruction, move_clause}
use Rattle.rules.specs.merged_world_rules.Merge.{Merge, before, after, output}
use Rattle.rules.specs.merged_world_rules.NewNumbers.{rho_of}
use Rattle.merge_laws.specs.merged_rows_move.Premises.{IsMet, ReadsTokens}
use Rattle.merge_laws.proofs.lemmas.merged_signatures.Reading.{good_map}
use Rattle.trim_laws.specs.marked_merge_rules.Reads.{AreMet, ReadsCallees, ReadsFieldTokens}
use Rattle.trim_laws.proofs.lemmas.merged_code.Tokens.{names_type, names_method, names_field}
use Rattle.trim_laws.proofs.lemmas.merged_code.Bytes.{instr_length}

-- ---- parts that name something

abbrev pub IsGood : Part → Type 0
IsGood p = (n : Named) × (p.named ≡ Good n)

abbrev pub AreGood : List Part → Type 0
AreGood parts = (p : Part) → Contains parts p → IsGood p

-- a text that is found in the output by its new token
abbrev pub IsText : Merge → List ℕ → Type 0
IsText m units = find (is_token (text_token (output m) units)) m.left.user ≡ Some (new_text (output m) units)

found_first : {A : Type 0} (p : A → Bool) (x : A) (xs : List A) → (list_any p xs ≡ true → (y : A) × (find p xs ≡ Some y)) → (b : Bool) → p x ≡ b → (b || list_any p xs) ≡ true → (y : A) × (cond b (Some x) (find p xs) ≡ Some y)
found_first p x xs later true e f = (x, refl)
found_first p x xs later false e f = later f

some_found : {A : Type 0} (p : A → Bool) (xs : List A) → list_any p xs ≡ true → (x : A) × (find p xs ≡ Some x)
some_found p [] e = absurd (cc)
some_found p (x ∷ xs) e = found_first p x xs (some_found p xs) (p x) refl e

module _ (m : Merge) (tokens : ReadsTokens m) (callees : ReadsCallees m) (fields : ReadsFieldTokens m) (a : ℕ) (rec : AsmRec) (there : slice_get (before m) a ≡ Some rec) (input : suc a < length (before m)) where
  abbrev r : Rho
  r = rho_of m

  module _ (place offset : ℕ) where
    abbrev type_part : ℕ → Part
    type_part token = type_token_part (before m) a rec place offset token

    abbrev method_part : ℕ → Part
    method_part token = method_token_part (before m) a rec place offset token

    abbrev field_part : ℕ → Part
    field_part token = field_token_part (before m) a rec place offset token

    -- ---- types, methods and fields

    pub record MovesType (token : ℕ) : Type 0 where
      pub from : TypeExpr
      pub was : token_type (before m) a rec token ≡ Good from
      pub is : token_type (after m) 0 m.left (moved_type (output m) a rec token) ≡ Good (move_expr (rho_of m) from)

    met_key : (token : ℕ) (b : Bool) → (token == 0) ≡ b → b ≡ false → AreMet m (if b then [] else met_types (type_key (before m) a rec token)) → IsMet m a rec token
    met_key token true e f met = λ k g. absurd (cc)
    met_key token false e f met = λ k g. met (met_type k) (to_map met_type (listed (type_key (before m) a rec token)) k (to_listed (type_key (before m) a rec token) k g))

    moves_type : (token : ℕ) → IsGood (type_part token) → AreMet m (met_token (before m) a rec token) → MovesType token
    moves_type token good met =
        let g = good_map type (token_type (before m) a rec token) good.0 good.1 in
        let some : (token == 0) ≡ false = (names_type (before m) a rec token g.from g.is).some in
        record { from = g.from; was = g.is; is = tokens a rec token g.from there input (met_key token (token == 0) refl some met) g.is }

    pub type_moves : (token : ℕ) → IsGood (type_part token) → AreMet m (met_token (before m) a rec token)
        → token_type (after m) 0 m.left (moved_type (output m) a rec token) ≡ known_map (move_expr (rho_of m)) (token_type (before m) a rec token)
    type_moves token good met = let t = moves_type token good met in t.is ∙ sym (ap (known_map (move_expr (rho_of m))) t.was)

    record MovesMethod (token : ℕ) : Type 0 where
      from : MethodUse
      was : method_named (before m) a rec token ≡ Good from
      is : method_named (after m) 0 m.left (moved_callee (output m) a rec token) ≡ Good (move_use (rho_of m) from)

    moves_method : (token : ℕ) → IsGood (method_part token) → AreMet m (met_callee (before m) a rec token) → MovesMethod token
    moves_method token good met =
        let g = good_map method (method_named (before m) a rec token) good.0 good.1 in
        record { from = g.from; was = g.is; is = callees a rec token g.from there input met g.is }

    method_moves : (token : ℕ) → IsGood (method_part token) → AreMet m (met_callee (before m) a rec token)
        → method_named (after m) 0 m.left (moved_callee (output m) a rec token) ≡ known_map (move_use (rho_of m)) (method_named (before m) a rec token)
    method_moves token good met = let u = moves_method token good met in u.is ∙ sym (ap (known_map (move_use (rho_of m))) u.was)

    record MovesField (token : ℕ) : Type 0 where
      from : FieldUse
      was : field_named (before m) a rec token ≡ Good from
      is : field_named (after m) 0 m.left (moved_field (output m) a rec token) ≡ Good (move_field_use (rho_of m) from)

    moves_field : (token : ℕ) → IsGood (field_part token) → AreMet m (met_field_token (before m) a rec token) → MovesField token
    moves_field token good met =
        let g = good_map field (field_named (before m) a rec token) good.0 good.1 in
        record { from = g.from; was = g.is; is = fields a rec token g.from there input met g.is }

    field_moves : (token : ℕ) → IsGood (field_part token) → AreMet m (met_field_token (before m) a rec token)
        → field_named (after m) 0 m.left (moved_field (output m) a rec token) ≡ known_map (move_field_use (rho_of m)) (field_named (before m) a rec token)
    field_moves token good met = let u = moves_field token good met in u.is ∙ sym (ap (known_map (move_field_use (rho_of m))) u.was)

    -- ---- the operand of `ldtoken`

    abbrev handle_by : Bool → Bool → ℕ → Use
    handle_by b c token =
        if b then use_of.Field (field_named (after m) 0 m.left token)
        else if c then use_of.Method (method_named (after m) 0 m.left token)
        else use_of.Typ (token_type (after m) 0 m.left token)

    handle_moves : (token : ℕ) (b c : Bool) → is_field_token rec token ≡ b → is_method_token token ≡ c → IsGood (if b then field_part token else if c then method_part token else type_part token)
        → AreMet m (if b then met_field_token (before m) a rec token else if c then met_callee (before m) a rec token else met_token (before m) a rec token)
        → handle_use (after m) 0 m.left (if b then moved_field (output m) a rec token else if c then moved_callee (output m) a rec token else moved_type (output m) a rec token)
        ≡ move_operand (rho_of m)
        (if b then use_of.Field (field_named (before m) a rec token) else if c then use_of.Method (method_named (before m) a rec token) else use_of.Typ (token_type (before m) a rec token))
    handle_moves token true c e f good met =
        let u = moves_field token good met in
        let new : ℕ = moved_field (output m) a rec token in
        ap (λ (x : Bool). handle_by x (is_method_token new) new) (names_field (after m) 0 m.left new (move_field_use (rho_of m) u.from) u.is)
        ∙ ap (λ (x : Known FieldUse). use_of.Field x) (field_moves token good met)
    handle_moves token false true e f good met =
        let u = moves_method token good met in
        let new : ℕ = moved_callee (output m) a rec token in
        let n = names_method (after m) 0 m.left new (move_use (rho_of m) u.from) u.is in
        (λ i. handle_by (n.field i) (n.method i) new) ∙ ap (λ (x : Known MethodUse). use_of.Method x) (method_moves token good met)
    handle_moves token false false e f good met =
        let t = moves_type token good met in
        let new : ℕ = moved_type (output m) a rec token in
        let n = names_type (after m) 0 m.left new (move_expr (rho_of m) t.from) t.is in
        (λ i. handle_by (n.field i) (n.method i) new) ∙ ap (λ (x : Known TypeExpr). use_of.Typ x) (type_moves token good met)

    -- ---- texts

    text_there : (token : ℕ) (b : Bool) → list_any (is_text_of token) rec.user ≡ b → AreGood (if b then [] else record { token = place; at = offset; named = Bad Unresolved } ∷ []) → list_any (is_text_of token) rec.user ≡ true
    text_there token true e good = e
    text_there token false e good = absurd (let n = (good (record { token = place; at = offset; named = Bad Unresolved }) (first_in _ [])).1 in cc)

    text_moves : (token : ℕ) → AreGood (text_parts rec place offset token) → ((units : List ℕ) → Contains (texts_named rec token) units → IsText m units) → text_named m.left (moved_text (output m) rec token) ≡ text_named rec token
    text_moves token good texts =
        let f = some_found (is_text_of token) rec.user (text_there token (list_any (is_text_of token) rec.user) refl good) in
        let t : UserText = f.0 in
        let inside : Contains (texts_named rec token) t.text =
        subst (λ (o : Option UserText). Contains (map (λ (x : UserText). x.text) (listed o)) t.text) (sym f.1) (first_in t.text []) in
        let new : moved_text (output m) rec token ≡ text_token (output m) t.text =
        ap (λ (o : Option UserText). first_or (map (text_token (output m)) (map (λ (x : UserText). x.text) (listed o))) 0) f.1 in
        ap (text_named m.left) new ∙ ap text_by (texts t.text inside) ∙ sym (ap text_by f.1)

    -- ---- by the form of the instruction

    token_moves : (f : Form) (token : ℕ) → AreGood (token_parts (before m) a rec place offset f token) → AreMet m (met_by_form (before m) a rec f token)
        → ((units : List ℕ) → Contains (texts_by rec f (operand.Token token)) units → IsText m units)
        → token_use (after m) 0 m.left f (moved_by_form (output m) a rec f token) ≡ move_operand (rho_of m) (token_use (before m) a rec f token)
    token_moves form.Call token good met texts = ap (λ (x : Known MethodUse). use_of.Method x) (method_moves token (good (method_part token) (first_in (method_part token) [])) met)
    token_moves form.NewObj token good met texts = ap (λ (x : Known MethodUse). use_of.Method x) (method_moves token (good (method_part token) (first_in (method_part token) [])) met)
    token_moves form.Field token good met texts = ap (λ (x : Known FieldUse). use_of.Field x) (field_moves token (good (field_part token) (first_in (field_part token) [])) met)
    token_moves form.LdStr token good met texts = ap (λ (x : Known (List ℕ)). use_of.Text x) (text_moves token good texts)
    token_moves form.LdToken token good met texts = handle_moves token (is_field_token rec token) (is_method_token token) refl refl (good _ (first_in _ [])) met
    token_moves _ token good met texts = ap (λ (x : Known TypeExpr). use_of.Typ x) (type_moves token (good (type_part token) (first_in (type_part token) [])) met)

  -- ---- instructions

  module _ (place : ℕ) where
    operand_moves : (at : ℕ) (f : Form) (x : Operand) → AreGood (operand_parts (before m) a rec place at f x) → AreMet m (met_operand (before m) a rec f x) → ((units : List ℕ) → Contains (texts_by rec f x) units → IsText m units)
        → use_by (after m) 0 m.left f (moved_operand (output m) a rec f x) ≡ move_operand (rho_of m) (use_by (before m) a rec f x)
    operand_moves at f (operand.Token token) good met texts = token_moves place at f token good met texts
    operand_moves at f operand.None good met texts = refl
    operand_moves at f (operand.Number n) good met texts = refl
    operand_moves at f (operand.Slot n) good met texts = refl
    operand_moves at f (operand.Target t) good met texts = refl
    operand_moves at f (operand.Targets ts) good met texts = refl

    pub instruction_moves : (i : Instr) → AreGood (instruction_parts (before m) a rec place i) → AreMet m (met_operand (before m) a rec i.form i.operand)
        → ((units : List ℕ) → Contains (texts_by rec i.form i.operand) units → IsText m units) → instruction_of (after m) 0 m.left (moved_instr (output m) a rec i) ≡ move_instruction (rho_of m) (instruction_of (before m) a rec i)
    unfolding instruction_of
    instruction_moves i good met texts =
        let size = instr_length (output m) a rec i in
        let names = operand_moves i.at i.form i.operand good met texts in
        λ j. record { at = i.at; next = (i.at + size j) % 4294967296; form = i.form; opcode = i.opcode; operand = names j }

    -- ---- clauses

    caught_moves : (h : Handler) (b : Bool) → is_catch h ≡ b → AreGood (if b then type_part place 0 h.token ∷ [] else []) → AreMet m (if b then met_token (before m) a rec h.token else [])
        → (if b then token_type (after m) 0 m.left (moved_type (output m) a rec h.token) else Bad Unresolved) ≡ known_map (move_expr (rho_of m)) (if b then token_type (before m) a rec h.token else Bad Unresolved)
    caught_moves h true e good met = type_moves place 0 h.token (good (type_part place 0 h.token) (first_in (type_part place 0 h.token) [])) met
    caught_moves h false e good met = refl

    clause_by : (h : Handler) (b : Bool) → is_catch h ≡ b → clause_of (after m) 0 m.left (if b then record h { token = moved_type (output m) a rec h.token } else h)
        ≡ record {
          kind = kind_by h.kind;
          try_at = h.try_at;
          try_end = h.try_at + h.try_len;
          at = h.at;
          end = h.at + h.len;
          caught = if b then token_type (after m) 0 m.left (moved_type (output m) a rec h.token) else Bad Unresolved;
        }
    unfolding clause_of
    clause_by h true e = λ j. record {
      kind = kind_by h.kind;
      try_at = h.try_at;
      try_end = h.try_at + h.try_len;
      at = h.at;
      end = h.at + h.len;
      caught = if e j then token_type (after m) 0 m.left (moved_type (output m) a rec h.token) else Bad Unresolved;
    }
    clause_by h false e = λ j. record {
      kind = kind_by h.kind;
      try_at = h.try_at;
      try_end = h.try_at + h.try_len;
      at = h.at;
      end = h.at + h.len;
      caught = if e j then token_type (after m) 0 m.left h.token else Bad Unresolved;
    }

    pub clause_moves : (h : Handler) → AreGood (handler_parts (before m) a rec place h) → AreMet m (if is_catch h then met_token (before m) a rec h.token else [])
        → clause_of (after m) 0 m.left (moved_handler (output m) a rec h) ≡ move_clause (rho_of m) (clause_of (before m) a rec h)
    unfolding clause_of
    clause_moves h good met =
        let caught = caught_moves h (is_catch h) refl good met in
        clause_by h (is_catch h) refl
        ∙ (λ j. record { kind = kind_by h.kind; try_at = h.try_at; try_end = h.try_at + h.try_len; at = h.at; end = h.at + h.len; caught = caught j })
