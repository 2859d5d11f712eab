-- What is moved by the output's tokens is what a merge leaves.
use Rattle.std.proofs.Common.{◌≡◌, ℕ, Bool, List, [], ◌∷◌, map, Option, Some, None, refl, sym, ap, subst, ◌∙◌}
use Rattle.std.proofs.Math.Path.{fun_ext}
use Rattle.std.specs.Prelude.{if◌then◌else◌}
use Rattle.std.specs.Option.{option_map}
use Rattle.il_base.specs.declared.sig.Sig.{Sig, fold-roll-Sig, roll-Sig, ind-Sig}
use Rattle.il_base.specs.declared.sig.Sig.TheFolds.{map-Sig}
use Rattle.il_base.specs.declared.sig.Sig.TheOpen.{Sig-F}
use Rattle.il_base.specs.declared.sig.Sig.TheVariants as sig
use Rattle.il_base.specs.declared.sig.MethodSig.{MethodSig}
use Rattle.il_base.specs.declared.body.Form.{Form}
use Rattle.il_base.specs.declared.body.Form.TheVariants as form
use Rattle.il_base.specs.declared.body.Operand.{Operand}
use Rattle.il_base.specs.declared.body.Operand.TheVariants as operand
use Rattle.il_base.specs.declared.body.Instr.{Instr}
use Rattle.il_base.specs.declared.body.Handler.{Handler}
use Rattle.il_base.specs.declared.body.Body.{Body}
use Rattle.il_base.specs.declared.world_model.known.Known.{Known}
use Rattle.il_base.specs.declared.world_model.known.Known.TheVariants.{Good, Bad}
use Rattle.il_base.specs.declared.world_model.record.AsmRec.{AsmRec}
use Rattle.il_base.specs.world_model.Worlds.{known_map}
use Rattle.rules.specs.mark_rules.Bodies.{is_field_token, is_method_token, is_catch}
use Rattle.rules.specs.merge_rules.Keys.{class_number, modifier_number, world_layer, world_sig, world_method_sig}
use Rattle.rules.specs.merge_rules.Refs.{Output, number_token, new_sig_layer, new_sig, new_method_sig}
use Rattle.rules.specs.merge_rules.Moved.{moved_by_form, moved_operand, moved_instr, moved_handler, moved_body}
use Rattle.rules.specs.merge_rules.Rows.{run_at, kept_params}
use Rattle.merge_plan.specs.declared.moved_parts.tokens.NewTokens.{NewTokens}
use Rattle.merge_plan.specs.moved_parts.Moves.{form_by, sig_layer, sig_by, method_sig_by, operand_by, instr_by, handler_by, body_by, field_by, method_by}
use Rattle.merge_plan.specs.moved_parts.Laws.{AreNewTokens, AreMoves}

map_same : {A B : Type 0} (f g : A → B) → ((x : A) → f x ≡ g x) → (xs : List A) → map f xs ≡ map g xs
map_same f g same xs = ap (λ (h : _). map h xs) (fun_ext same)

known_same : {A B : Type 0} (f g : A → B) → ((x : A) → f x ≡ g x) → (k : Known A) → known_map f k ≡ known_map g k
known_same f g same (Good x) = ap Good (same x)
known_same f g same (Bad why) = refl

module _ (o : Output) (a : ℕ) (rec : AsmRec) (t : NewTokens) (are : AreNewTokens o a rec t) where
  -- ---- a signature with the output's tokens, by its outermost construct

  new_roll : (x : Sig-F Sig) → new_sig o (roll-Sig x) ≡ new_sig_layer o (map-Sig Sig Sig (new_sig o) x)
  unfolding new_sig
  new_roll x = fold-roll-Sig Sig (new_sig_layer o) x

  world_roll : (x : Sig-F Sig) → world_sig o.recs a rec (roll-Sig x) ≡ world_layer o.recs a rec (map-Sig Sig Sig (world_sig o.recs a rec) x)
  unfolding world_sig
  world_roll x = fold-roll-Sig Sig (world_layer o.recs a rec) x

  by_roll : (x : Sig-F Sig) → sig_by t (roll-Sig x) ≡ sig_layer t (map-Sig Sig Sig (sig_by t) x)
  unfolding sig_by
  by_roll x = fold-roll-Sig Sig (sig_layer t) x

  both : Sig → Sig
  both s = new_sig o (world_sig o.recs a rec s)

  abbrev Moves : Sig → Type 0
  Moves s = sig_by t s ≡ new_sig o (world_sig o.recs a rec s)

  abbrev With : Type 0
  With = (s : Sig) × Moves s

  -- what a construct becomes, over the types of the world
  of_layer : (x : Sig-F Sig) (s : Sig) (y : Sig) → sig_layer t (map-Sig Sig Sig (sig_by t) x) ≡ y → world_layer o.recs a rec (map-Sig Sig Sig (world_sig o.recs a rec) x) ≡ s → new_sig o s ≡ y → Moves (roll-Sig x)
  of_layer x s y by world new = by_roll x ∙ by ∙ sym new ∙ ap (new_sig o) (sym world) ∙ ap (new_sig o) (sym (world_roll x))

  new_prim : (n : ℕ) → new_sig o (sig.Prim n) ≡ sig.Prim n
  new_prim n = ap (new_sig o) (sym (sig.rolls-Prim n)) ∙ new_roll (Sig-F.Prim n)

  new_named : (value : Bool) (n : ℕ) → new_sig o (sig.Named value n) ≡ sig.Named value (number_token o n)
  new_named value n = ap (new_sig o) (sym (sig.rolls-Named value n)) ∙ new_roll (Sig-F.Named value n)

  new_array : (s : Sig) → new_sig o (sig.Array s) ≡ sig.Array (new_sig o s)
  new_array s = ap (new_sig o) (sym (sig.rolls-Array s)) ∙ new_roll (Sig-F.Array s)

  new_by_ref : (s : Sig) → new_sig o (sig.ByRef s) ≡ sig.ByRef (new_sig o s)
  new_by_ref s = ap (new_sig o) (sym (sig.rolls-ByRef s)) ∙ new_roll (Sig-F.ByRef s)

  new_inst : (value : Bool) (n : ℕ) (args : List Sig) → new_sig o (sig.Inst value n args) ≡ sig.Inst value (number_token o n) (map (new_sig o) args)
  new_inst value n args = ap (new_sig o) (sym (sig.rolls-Inst value n args)) ∙ new_roll (Sig-F.Inst value n args)

  new_var : (n : ℕ) → new_sig o (sig.Var n) ≡ sig.Var n
  new_var n = ap (new_sig o) (sym (sig.rolls-Var n)) ∙ new_roll (Sig-F.Var n)

  new_mvar : (n : ℕ) → new_sig o (sig.MVar n) ≡ sig.MVar n
  new_mvar n = ap (new_sig o) (sym (sig.rolls-MVar n)) ∙ new_roll (Sig-F.MVar n)

  new_mod : (required : Bool) (n : ℕ) (s : Sig) → new_sig o (sig.Mod required n s) ≡ sig.Mod required (number_token o n) (new_sig o s)
  new_mod required n s = ap (new_sig o) (sym (sig.rolls-Mod required n s)) ∙ new_roll (Sig-F.Mod required n s)

  new_pinned : (s : Sig) → new_sig o (sig.Pinned s) ≡ sig.Pinned (new_sig o s)
  new_pinned s = ap (new_sig o) (sym (sig.rolls-Pinned s)) ∙ new_roll (Sig-F.Pinned s)

  -- ---- a signature whose parts move so

  args_move : (xs : List With) → map (sig_by t) (map (λ e. e.0) xs) ≡ map (new_sig o) (map (world_sig o.recs a rec) (map (λ e. e.0) xs))
  args_move [] = refl
  args_move (x ∷ xs) = λ i. x.1 i ∷ args_move xs i

  rolled : (y : Sig-F With) → Moves (roll-Sig (map-Sig With Sig (λ e. e.0) y))
  rolled (Sig-F.Prim n) = of_layer (Sig-F.Prim n) _ _ refl refl (new_prim n)
  rolled (Sig-F.Named value token) =
      of_layer (Sig-F.Named value token) _ _ refl refl (new_named value (class_number o.recs a rec token) ∙ ap (sig.Named value) (sym (are.classes token)))
  rolled (Sig-F.Array x) = of_layer (Sig-F.Array x.0) _ _ refl refl (new_array (world_sig o.recs a rec x.0) ∙ ap sig.Array (sym x.1))
  rolled (Sig-F.ByRef x) = of_layer (Sig-F.ByRef x.0) _ _ refl refl (new_by_ref (world_sig o.recs a rec x.0) ∙ ap sig.ByRef (sym x.1))
  rolled (Sig-F.Inst value token xs) =
      of_layer (Sig-F.Inst value token (map (λ e. e.0) xs)) _ _ refl refl
      (new_inst value (class_number o.recs a rec token) (map (world_sig o.recs a rec) (map (λ e. e.0) xs)) ∙ (λ i. sig.Inst value (sym (are.classes token) i) (sym (args_move xs) i)))
  rolled (Sig-F.Var n) = of_layer (Sig-F.Var n) _ _ refl refl (new_var n)
  rolled (Sig-F.MVar n) = of_layer (Sig-F.MVar n) _ _ refl refl (new_mvar n)
  rolled (Sig-F.Mod required token x) =
      of_layer (Sig-F.Mod required token x.0) _ _ refl refl
      (new_mod required (modifier_number o.recs a rec token) (world_sig o.recs a rec x.0) ∙ (λ i. sig.Mod required (sym (are.modifiers token) i) (sym x.1 i)))
  rolled (Sig-F.Pinned x) = of_layer (Sig-F.Pinned x.0) _ _ refl refl (new_pinned (world_sig o.recs a rec x.0) ∙ ap sig.Pinned (sym x.1))

  sigs_move : (s : Sig) → Moves s
  sigs_move = ind-Sig Moves (λ x y is. subst (λ z. Moves (roll-Sig z)) is (rolled y))

  -- ---- signatures of members

  all_move : (ss : List Sig) → map (sig_by t) ss ≡ map (new_sig o) (map (world_sig o.recs a rec) ss)
  all_move [] = refl
  all_move (s ∷ ss) = λ i. sigs_move s i ∷ all_move ss i

  method_moves : (s : MethodSig) → method_sig_by t s ≡ new_method_sig o (world_method_sig o.recs a rec s)
  method_moves s = λ i. record { this = s.this; generic = s.generic; ret = sigs_move s.ret i; params = all_move s.params i }

  -- ---- bodies

  any_moves : (b c : Bool) (x y z x' y' z' : ℕ) → x ≡ x' → y ≡ y' → z ≡ z' → (if b then x else if c then y else z) ≡ (if b then x' else if c then y' else z')
  any_moves b c x y z x' y' z' p q r = λ i. if b then p i else if c then q i else r i

  form_moves : (f : Form) (token : ℕ) → form_by t rec f token ≡ moved_by_form o a rec f token
  form_moves form.Call token = are.callees token
  form_moves form.NewObj token = are.callees token
  form_moves form.Field token = are.fields token
  form_moves form.LdStr token = are.texts token
  form_moves form.LdToken token =
      any_moves (is_field_token rec token) (is_method_token token) _ _ _ _ _ _ (are.fields token) (are.callees token) (are.types token)
  form_moves _ token = are.types token

  operand_moves : (f : Form) (x : Operand) → operand_by t rec f x ≡ moved_operand o a rec f x
  operand_moves f (operand.Token token) = ap operand.Token (form_moves f token)
  operand_moves f _ = refl

  instr_moves : (i : Instr) → instr_by t rec i ≡ moved_instr o a rec i
  unfolding instr_by
  instr_moves i = λ j. record i { operand = operand_moves i.form i.operand j }

  handler_moves : (h : Handler) → handler_by t h ≡ moved_handler o a rec h
  handler_moves h = λ i. if is_catch h then record h { token = are.types h.token i } else h

  body_moves : (b : Body) → body_by t rec b ≡ moved_body o a rec b
  unfolding body_by moved_body
  body_moves b = λ i. record b {
    locals = are.locals b.locals i;
    code = map_same (instr_by t rec) (moved_instr o a rec) instr_moves b.code i;
    handlers = map_same (handler_by t) (moved_handler o a rec) handler_moves b.handlers i;
  }

  known_body : (b : Option (Known Body)) → option_map (known_map (body_by t rec)) b ≡ option_map (known_map (moved_body o a rec)) b
  known_body None = refl
  known_body (Some k) = ap Some (known_same (body_by t rec) (moved_body o a rec) body_moves k)

  -- ---- all of them

  pub all_tell : AreMoves o a rec t
  all_tell = record {
    sigs = sigs_move;
    known_sigs = λ s. known_same (sig_by t) (λ x. new_sig o (world_sig o.recs a rec x)) sigs_move s;
    method_sigs = λ s. known_same (method_sig_by t) (λ x. new_method_sig o (world_method_sig o.recs a rec x)) method_moves s;
    bodies = body_moves;
    field_rows = λ k f i. record (field_by t f) { signature = known_same (sig_by t) (λ x. new_sig o (world_sig o.recs a rec x)) sigs_move f.signature i };
    method_rows = λ k m i. record (method_by t rec (run_at (kept_params o.recs o.kept) a m.param_list_first) (run_at (kept_params o.recs o.kept) a m.param_list_end) m) {
      signature = known_same (method_sig_by t) (λ x. new_method_sig o (world_method_sig o.recs a rec x)) method_moves m.signature i;
      body = known_body m.body i;
    };
    property_rows = λ k p i. record p { signature = known_same (method_sig_by t) (λ x. new_method_sig o (world_method_sig o.recs a rec x)) method_moves p.signature i };
    event_rows = λ k e i. record e { event_type = are.types e.event_type i };
  }
