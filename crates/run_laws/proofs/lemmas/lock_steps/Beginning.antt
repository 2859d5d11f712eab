-- Whole runs from an entry point that is kept.
use Rattle.std.proofs.Common.{◌≡◌, ℕ, zero, suc, Bool, true, false, ◌&&◌, ◌||◌, not, List, [], ◌∷◌, Option, Some, None, refl, sym, ap, subst, ◌∙◌}
use Rattle.std.specs.Prelude.{IsTrue, nat_eq}
use Rattle.std.specs.List.{list_all}
use Rattle.std.specs.Option.{option_map}
use Rattle.std.specs.Cmp.{first_so, second_so}
use Rattle.il_base.specs.declared.element.TheConstants.{I4, STRING}
use Rattle.il_base.specs.declared.method_flags.TheConstants.{STATIC}
use Rattle.il_base.specs.declared.ids.TypeId.{TypeId}
use Rattle.il_base.specs.Flags.{has_flag}
use Rattle.il_base.specs.declared.world_model.known.Known.{Known}
use Rattle.il_base.specs.declared.world_model.known.Known.TheVariants.{Good, Bad}
use Rattle.il_base.specs.world_model.Worlds.{known_map}
use Rattle.il_base.specs.declared.world_model.expr.TypeExpr.{TypeExpr, out-TypeExpr, out-roll-TypeExpr}
use Rattle.il_base.specs.declared.world_model.expr.TypeExpr.TheOpen.{TypeExpr-F}
use Rattle.il_base.specs.declared.world_model.expr.TypeExpr.TheVariants as expr
use Rattle.il_base.specs.declared.world_model.expr.MethodUse.{MethodUse}
use Rattle.il_base.specs.world_model.Exprs.{same_expr}
use Rattle.il_base.specs.declared.cil_values.value.Value.{Value}
use Rattle.il_base.specs.declared.cil_values.definition.Head.{Head}
use Rattle.il_base.specs.declared.cil_values.definition.Method.{Method}
use Rattle.il_base.specs.declared.cil_values.definition.Signature.{Signature}
use Rattle.il_base.specs.declared.cil_values.resolved.Code.{Code}
use Rattle.il_base.specs.declared.cil_values.state.State.{State}
use Rattle.il_base.specs.declared.cil_values.state.Init.TheVariants.{Begun as begun}
use Rattle.rules.specs.step_rules.Queries.{Queries}
use Rattle.rules.specs.step_rules.Closing.{Callee, callee_of, takes}
use Rattle.rules.specs.step_rules.Frames.{zero_locals, definition_in, definition_of, initializer, with_init}
use Rattle.rules.specs.step_rules.Input.{decoded}
use Rattle.rules.specs.step_rules.Run.{Beginning, begins, ends, stopped_at, stuck_at, or_stopped, good_or_stopped, stopped_unless, stuck_unless, is_strings, are_entry_params, is_entry_return, is_entry, blank_state, initializer_frame, with_initializer, begins_by, begins_with, entry_use, begins_code, begins_body, begins_method, beginning, run_begun, run_from}
use Rattle.rules.specs.change_rules.Change.{Keep, Change}
use Rattle.rules.specs.change_rules.Moves.{move_expr, move_exprs, move_use, move_values}
use Rattle.rules.specs.change_rules.Answers.{move_code, move_signature, move_method, move_callee}
use Rattle.rules.specs.change_rules.States.{move_state, move_end}
use Rattle.rules.specs.change_rules.Keeps.{Names, keeps_expr, can_call, keeps_use, keeps_values, keeps_code, keeps_body, keeps_signature, keeps_method, if_good}
use Rattle.rules.specs.change_rules.Covered.{Covered}
use Rattle.rules.specs.change_rules.Agree.{Agree}
use Rattle.base_laws.proofs.lemmas.change_laws.Exprs.{move_prim, move_def, move_array}
use Rattle.base_laws.proofs.lemmas.change_laws.Subst.{names_def}
use Rattle.base_laws.proofs.lemmas.change_laws.Same.{same_exprs_moved}
use Rattle.run_laws.proofs.lemmas.lock_words.Types.{is_void_moved}
use Rattle.run_laws.proofs.lemmas.lock_words.Definitions.{Begins as MayBegin}
use Rattle.run_laws.proofs.lemmas.lock_places.Options.{some_is}
use Rattle.run_laws.proofs.lemmas.lock_places.Closing.{use_owner, use_from, KeptCallee, callee_moved, CalleeOf, callee_kept}
use Rattle.run_laws.proofs.lemmas.lock_frames.Entering.{locals_moved, locals_kept, initializer_moved, initializer_kept, with_init_moved, with_init_covered}
use Rattle.run_laws.proofs.lemmas.lock_calls.Returning.{entry_moved, entry_covered}
use Rattle.run_laws.specs.lock_steps.Laws.{move_outcome}
use Rattle.run_laws.proofs.lemmas.lock_steps.Running.{run_moved}

abbrev move_beginning : Change → Queries → Beginning → Beginning
move_beginning k q (begins s) = begins (move_state k q s)
move_beginning k q (ends e) = ends (move_end k.rho e)

abbrev CoveredBeginning : Keep → Queries → Beginning → Type 0
CoveredBeginning k q (begins s) = Covered k q s
CoveredBeginning k q (ends e) = Unit {0}

record Begin (k : Change) (q : Queries) (new old : Beginning) : Type 0 where
  same : new ≡ move_beginning k q old
  kept : CoveredBeginning k.keep q old

-- ---- words

module _ (k : Change) (q : Queries) (m : ℕ) where
  stops : Begin k q (stopped_at (k.rho.method m)) (stopped_at m)
  stops = record { same = refl; kept = tt }

  sticks : Begin k q (stuck_at (k.rho.method m)) (stuck_at m)
  sticks = record { same = refl; kept = tt }

  or_stopped_moved : {A B : Type 0} (move : A → B) (o : Option A) (n : Option B) (f : B → Beginning) (g : A → Beginning) → n ≡ option_map move o
      → ((x : A) → o ≡ Some x → Begin k q (f (move x)) (g x)) → Begin k q (or_stopped n (k.rho.method m) f) (or_stopped o m g)
  or_stopped_moved {A} {B} move o n f g e h = subst (λ (x : Option B). Begin k q (or_stopped x (k.rho.method m) f) (or_stopped o m g)) (sym e) (by_cases o h)
    where
      by_cases : (o : Option A) → ((x : A) → o ≡ Some x → Begin k q (f (move x)) (g x)) → Begin k q (or_stopped (option_map move o) (k.rho.method m) f) (or_stopped o m g)
      by_cases None h = stops
      by_cases (Some x) h = h x refl

  good_moved : {A B : Type 0} (move : A → B) (test : A → Bool) (o : Known A) (f : B → Beginning) (g : A → Beginning) → IsTrue (if_good test o) → ((x : A) → IsTrue (test x) → Begin k q (f (move x)) (g x))
      → Begin k q (good_or_stopped (known_map move o) (k.rho.method m) f) (good_or_stopped o m g)
  good_moved move test (Good x) f g t h = h x t
  good_moved move test (Bad why) f g t h = stops

  stopped_if : (b c : Bool) (x y : Beginning) → b ≡ c → Begin k q x y → Begin k q (stopped_unless b (k.rho.method m) x) (stopped_unless c m y)
  stopped_if b c x y e h = subst (λ (d : Bool). Begin k q (stopped_unless d (k.rho.method m) x) (stopped_unless c m y)) (sym e) (by_cases c)
    where
      by_cases : (c : Bool) → Begin k q (stopped_unless c (k.rho.method m) x) (stopped_unless c m y)
      by_cases true = h
      by_cases false = stops

  stuck_if : (b c : Bool) (x y : Beginning) → b ≡ c → Begin k q x y → Begin k q (stuck_unless b (k.rho.method m) x) (stuck_unless c m y)
  stuck_if b c x y e h = subst (λ (d : Bool). Begin k q (stuck_unless d (k.rho.method m) x) (stuck_unless c m y)) (sym e) (by_cases c)
    where
      by_cases : (c : Bool) → Begin k q (stuck_unless c (k.rho.method m) x) (stuck_unless c m y)
      by_cases true = h
      by_cases false = sticks

-- ---- an entry point's form

module _ (k : Change) where
  same_as : (e d : TypeExpr) → move_expr k.rho d ≡ d → same_expr (move_expr k.rho e) d ≡ same_expr e d
  same_as e d is = ap (same_expr (move_expr k.rho e)) (sym is) ∙ same_exprs_moved k.back k.rho k.undone e d

  strings_moved : (e : TypeExpr) → is_strings (move_expr k.rho e) ≡ is_strings e
  strings_moved e = same_as e (expr.Array (expr.Prim STRING)) (move_array k.rho (expr.Prim STRING) ∙ ap expr.Array (move_prim k.rho STRING))

  params_moved : (es : List TypeExpr) → are_entry_params (move_exprs k.rho es) ≡ are_entry_params es
  params_moved [] = refl
  params_moved (e ∷ []) = strings_moved e
  params_moved (e ∷ d ∷ es) = refl

  return_moved : (e : TypeExpr) → is_entry_return (move_expr k.rho e) ≡ is_entry_return e
  return_moved e = λ i. is_void_moved k.rho e i || same_as e (expr.Prim I4) (move_prim k.rho I4) i

  is_entry_moved : (c : Callee) → is_entry (move_callee k.rho c) ≡ is_entry c
  is_entry_moved c = λ i. has_flag c.method.flags STATIC && (not c.signature.this && params_moved c.signature.params i && return_moved c.signature.ret i)

definition_def : (t : TypeId) → definition_of (expr.Def t) ≡ Some t.0
unfolding definition_of
definition_def t = ap (λ (e : TypeExpr). definition_in (out-TypeExpr e)) (sym (expr.rolls-Def t)) ∙ ap definition_in (out-roll-TypeExpr (TypeExpr-F.Def t))

module _ (k : Change) (after before : Queries) (a : Agree k after before) (m : ℕ) (hm : IsTrue (can_call k.keep m)) (input : List ℕ) where
  -- ---- the first frame

  frame_begins : (c d : Callee) (locals : List Value) (s : State) → KeptCallee k.keep before c → KeptCallee k.keep before d → IsTrue (keeps_values k.keep locals) → Covered k.keep before s
      → Begin k before (begins (initializer_frame (move_callee k.rho c).called.owner (move_callee k.rho c).called (move_callee k.rho d) (move_values k.rho locals) (with_init (move_callee k.rho c).called.owner begun (move_state k before s))))
      (begins (initializer_frame c.called.owner c.called d locals (with_init c.called.owner begun s)))
  frame_begins c d locals s hc hd hl cs =
      let owner : IsTrue (keeps_expr k.keep c.called.owner) = use_owner k.keep c.called hc.named in
      let t : State = with_init c.called.owner begun s in
      let ct : Covered k.keep before t = with_init_covered k after before a c.called.owner begun s owner cs in
      record {
        same = ap (λ (u : State). begins (initializer_frame (move_callee k.rho c).called.owner (move_callee k.rho c).called (move_callee k.rho d) (move_values k.rho locals) u)) (with_init_moved k after before a c.called.owner begun s);
        kept = record {
          heap = ct.heap;
          statics = ct.statics;
          inits = ct.inits;
          below = ct.below;
          top = record { method = hd.named; args = refl; locals = hl; stack = refl; prefix = refl; waits = both_so (keeps_expr k.keep c.called.owner) (keeps_use k.keep c.called) owner hc.named };
        };
      }
    where
      both_so : (p q : Bool) → IsTrue p → IsTrue q → IsTrue (p && q)
      both_so true q h g = g
      both_so false q h g = h

  module _ (c : Callee) (hc : KeptCallee k.keep before c) (s : State) (cs : Covered k.keep before s) where
    initializer_body : (d : Callee) → KeptCallee k.keep before d → (o : Option (Known Code)) → IsTrue (keeps_body k.keep before o)
        → Begin k before (elim (option_map (known_map (move_code k.rho)) o) [
          | None ↦ stuck_at (k.rho.method m)
          | Some body ↦ good_or_stopped body (k.rho.method m) (λ code. or_stopped (zero_locals after (move_callee k.rho d).called code) (k.rho.method m) (λ locals.
              begins (initializer_frame (move_callee k.rho c).called.owner (move_callee k.rho c).called (move_callee k.rho d) locals (with_init (move_callee k.rho c).called.owner begun (move_state k before s)))))
        ])
        (elim o [
          | None ↦ stuck_at m
          | Some body ↦ good_or_stopped body m (λ code. or_stopped (zero_locals before d.called code) m (λ locals. begins (initializer_frame c.called.owner c.called d locals (with_init c.called.owner begun s))))
        ])
    initializer_body d hd None h = sticks k before m
    initializer_body d hd (Some body) h =
        good_moved k before m (move_code k.rho) (keeps_code k.keep before) body _ _ h (λ code hcode.
        or_stopped_moved k before m (move_values k.rho) (zero_locals before d.called code) _
        (λ locals. begins (initializer_frame (move_callee k.rho c).called.owner (move_callee k.rho c).called (move_callee k.rho d) locals (with_init (move_callee k.rho c).called.owner begun (move_state k before s))))
        (λ locals. begins (initializer_frame c.called.owner c.called d locals (with_init c.called.owner begun s)))
        (locals_moved k after before a d.called hd.named code hcode) (λ locals is.
        frame_begins c d locals s hc hd (locals_kept k after before a d.called hd.named code locals hcode is) cs))

    by_initializer : (locals : List Value) → IsTrue (keeps_values k.keep locals) → (o : Option MethodUse) → ((u : MethodUse) → o ≡ Some u → IsTrue (keeps_use k.keep u))
        → Begin k before (begins_by after (k.rho.method m) (move_callee k.rho c) (move_values k.rho locals) (move_state k before s) (option_map (move_use k.rho) o)) (begins_by before m c locals s o)
    by_initializer locals hl None h = record { same = ap begins (entry_moved k after before a c locals s); kept = entry_covered k after before a c locals s hc hl cs }
    by_initializer locals hl (Some u) h =
        or_stopped_moved k before m (move_callee k.rho) (callee_of before u) _ (with_initializer after (k.rho.method m) (move_callee k.rho c) (move_state k before s)) (with_initializer before m c s)
        (callee_moved k after before a u (h u refl)) (λ d is.
        let hd : KeptCallee k.keep before d = (callee_kept k after before a u (h u refl) d is).kept in
        initializer_body d hd d.method.body (second_so _ (keeps_body k.keep before d.method.body) hd.method))

  blank_covered : (c : Callee) → KeptCallee k.keep before c → Covered k.keep before (blank_state c input)
  blank_covered c hc = record { heap = refl; statics = refl; inits = refl; top = record { method = hc.named; args = refl; locals = refl; stack = refl; prefix = refl; waits = refl }; below = tt }

  with_locals : (c : Callee) (locals : List Value) → KeptCallee k.keep before c → MayBegin k.keep c.called.owner → IsTrue (keeps_values k.keep locals)
      → Begin k before (begins_with after (k.rho.method m) input (move_callee k.rho c) (move_values k.rho locals)) (begins_with before m input c locals)
  with_locals c locals hc hb hl =
      let s : State = blank_state c input in
      let owner : IsTrue (keeps_expr k.keep c.called.owner) = use_owner k.keep c.called hc.named in
      stuck_if k before m (is_entry (move_callee k.rho c)) (is_entry c) _ _ (is_entry_moved k c)
      (subst (λ (o : Option MethodUse). Begin k before (begins_by after (k.rho.method m) (move_callee k.rho c) (move_values k.rho locals) (move_state k before s) o) (begins_by before m c locals s (initializer before false c.called.owner)))
      (sym (initializer_moved k after before a false c.called.owner owner hb))
      (by_initializer c hc s (blank_covered c hc) locals hl (initializer before false c.called.owner) (λ u is. initializer_kept k after before a false c.called.owner u owner hb is)))

  -- ---- the entry's method

  module _ (f : Method) (hf : IsTrue (keeps_method k.keep before f)) where
    type_kept : IsTrue (k.keep.typ f.owner)
    type_kept = first_so (k.keep.typ f.owner) (k.keep.begun f.owner) (first_so _ _ (first_so _ (keeps_body k.keep before f.body) hf))

    type_begun : IsTrue (k.keep.begun f.owner)
    type_begun = second_so (k.keep.typ f.owner) (k.keep.begun f.owner) (first_so _ _ (first_so _ (keeps_body k.keep before f.body) hf))

    entry_moves : entry_use (move_method k.rho f) (k.rho.method m) ≡ move_use k.rho (entry_use f m)
    entry_moves = λ i. record { method = record { 0 = k.rho.method m }; owner = sym (move_def k.rho (record { 0 = f.owner })) i; args = [] }

    entry_kept : IsTrue (keeps_use k.keep (entry_use f m))
    entry_kept = use_from k.keep (entry_use f m) hm (ap (λ (n : Names). n.kept) (names_def k.keep (record { 0 = f.owner })) ∙ type_kept) refl

    entry_begun : (c : Callee) → entry_use f m ≡ c.called → MayBegin k.keep c.called.owner
    entry_begun c e t is =
        let owner : c.called.owner ≡ expr.Def (record { 0 = f.owner }) = sym (ap (λ (u : MethodUse). u.owner) e) in
        some_is (λ d. IsTrue (k.keep.begun d)) f.owner t (sym (ap definition_of owner ∙ definition_def (record { 0 = f.owner })) ∙ is) type_begun

    code_begins : (code : Code) → IsTrue (keeps_code k.keep before code) → Begin k before (begins_code after (k.rho.method m) input (move_method k.rho f) (move_code k.rho code)) (begins_code before m input f code)
    code_begins code h =
        or_stopped_moved k before m (move_callee k.rho) (callee_of before (entry_use f m)) _ _ _ (ap (callee_of after) entry_moves ∙ callee_moved k after before a (entry_use f m) entry_kept) (λ c is.
        let w : CalleeOf k after before a (entry_use f m) entry_kept c = callee_kept k after before a (entry_use f m) entry_kept c is in
        or_stopped_moved k before m (move_values k.rho) (zero_locals before c.called code) _ (begins_with after (k.rho.method m) input (move_callee k.rho c)) (begins_with before m input c) (locals_moved k after before a c.called w.kept.named code h) (λ locals ls.
        with_locals c locals w.kept (entry_begun c w.called) (locals_kept k after before a c.called w.kept.named code locals h ls)))

    body_begins : (sig : Signature) (o : Option (Known Code)) → IsTrue (keeps_body k.keep before o)
        → Begin k before (begins_body after (k.rho.method m) input (move_method k.rho f) (move_signature k.rho sig) (option_map (known_map (move_code k.rho)) o)) (begins_body before m input f sig o)
    body_begins sig None h = sticks k before m
    body_begins sig (Some body) h =
        good_moved k before m (move_code k.rho) (keeps_code k.keep before) body _ _ h (λ code hcode.
        good_moved k before m (move_exprs k.rho) (list_all (keeps_expr k.keep)) code.locals _ _ (first_so _ _ (first_so _ _ hcode)) (λ types ht.
        stuck_if k before m (nat_eq sig.own 0) (nat_eq sig.own 0) _ _ refl (code_begins code hcode)))

    method_begins : Begin k before (begins_method after (k.rho.method m) input (move_method k.rho f)) (begins_method before m input f)
    method_begins =
        good_moved k before m (move_signature k.rho) (keeps_signature k.keep) f.signature _ _ (second_so _ (if_good (keeps_signature k.keep) f.signature) (first_so _ (keeps_body k.keep before f.body) hf)) (λ sig hs.
        stopped_if k before m _ (takes (before.head f.owner) 0) _ _ (ap (λ (h : Option Head). takes h 0) (a.head f.owner type_kept)) (body_begins sig f.body (second_so _ (keeps_body k.keep before f.body) hf)))

module _ (k : Change) (after before : Queries) (a : Agree k after before) (m : ℕ) (hm : IsTrue (can_call k.keep m)) (bytes : List ℕ) where
  method_stays : IsTrue (k.keep.method m)
  method_stays = first_so (k.keep.method m) (k.keep.called m) hm

  beginning_moves : Begin k before (beginning after (k.rho.method m) bytes) (beginning before m bytes)
  unfolding beginning
  beginning_moves =
      or_stopped_moved k before m (move_method k.rho) (before.method m) _ (begins_method after (k.rho.method m) (decoded bytes)) (begins_method before m (decoded bytes)) (a.method m method_stays)
      (λ f e. method_begins k after before a m hm (decoded bytes) f (a.keeps_methods m f method_stays e))

  begun_moved : (n : ℕ) (x : Beginning) → CoveredBeginning k.keep before x → run_begun after n (move_beginning k before x) ≡ move_outcome k.rho (run_begun before n x)
  begun_moved n (begins s) c = run_moved k after before a (suc n) s c
  begun_moved n (ends e) c = refl

  pub run_from_moved : (n : ℕ) → run_from after (k.rho.method m) bytes n ≡ move_outcome k.rho (run_from before m bytes n)
  unfolding run_from
  run_from_moved zero = refl
  run_from_moved (suc n) = ap (run_begun after n) beginning_moves.same ∙ begun_moved n (beginning before m bytes) beginning_moves.kept
