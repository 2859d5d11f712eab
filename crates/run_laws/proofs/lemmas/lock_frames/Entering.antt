-- Methods are entered, and initializers begin.
use Rattle.std.proofs.Common.{◌≡◌, ℕ, ◌+◌, Bool, true, false, ◌||◌, not, List, [], ◌∷◌, Option, Some, None, refl, sym, ap, subst, ◌∙◌}
use Rattle.std.specs.Prelude.{IsTrue, nat_lt, find, if◌then◌else◌}
use Rattle.std.specs.List.{list_all}
use Rattle.std.specs.Option.{option_map, option_and_then}
use Rattle.std.specs.Cmp.{first_so, second_so}
use Rattle.std.proofs.lemmas.List.{length-map, map-append}
use Rattle.il_base.specs.declared.type_flags.TheConstants.{BEFORE_FIELD_INIT}
use Rattle.il_base.specs.declared.world_model.known.Known.{Known}
use Rattle.il_base.specs.declared.world_model.known.Known.TheVariants.{Good, Bad}
use Rattle.il_base.specs.world_model.Worlds.{known_map}
use Rattle.il_base.specs.declared.world_model.expr.TypeExpr.{TypeExpr}
use Rattle.il_base.specs.declared.world_model.expr.MethodUse.{MethodUse}
use Rattle.il_base.specs.world_model.Exprs.{same_expr}
use Rattle.il_base.specs.declared.cil_values.value.Value.{Value}
use Rattle.il_base.specs.declared.cil_values.resolved.Code.{Code}
use Rattle.il_base.specs.declared.cil_values.state.State.{State}
use Rattle.il_base.specs.declared.cil_values.state.Started.{Started}
use Rattle.il_base.specs.declared.cil_values.state.Init.{Init}
use Rattle.il_base.specs.declared.cil_values.state.Init.TheVariants.{Begun as begun, Ended as ended, Failed as failed}
use Rattle.il_base.specs.declared.cil_values.frame.Waits.{Waits}
use Rattle.il_base.specs.declared.cil_values.frame.Waits.TheVariants.{Starts as starts}
use Rattle.rules.specs.step_rules.Queries.{Queries}
use Rattle.rules.specs.step_rules.Next.{Next}
use Rattle.rules.specs.step_rules.Words.{good, args_of}
use Rattle.rules.specs.step_rules.Closing.{Callee, callee_of, closed_slot, all_of}
use Rattle.rules.specs.step_rules.Stores.{zero_of}
use Rattle.rules.specs.step_rules.Frames.{frame_limit, zero_local, zero_locals, has_room, enter, definition_of, head_of, head_has, begins_by, initializer_use, initializer, init_of, with_init, begin_or, started_by, started}
use Rattle.rules.specs.change_rules.Change.{Change}
use Rattle.rules.specs.change_rules.Moves.{move_expr, move_exprs, move_use, move_value, move_values}
use Rattle.rules.specs.change_rules.Answers.{move_code, move_callee}
use Rattle.rules.specs.change_rules.States.{move_waits, move_frame, move_started, move_state}
use Rattle.rules.specs.change_rules.Keeps.{keeps_expr, keeps_use, keeps_value, keeps_values, keeps_code, keeps_body, if_good}
use Rattle.rules.specs.change_rules.Covered.{keeps_started, keeps_waits, Covered}
use Rattle.rules.specs.change_rules.Agree.{Agree}
use Rattle.rules.specs.change_rules.Lock.{Lock}
use Rattle.base_laws.proofs.lemmas.change_laws.Same.{same_exprs_moved}
use Rattle.base_laws.proofs.lemmas.change_laws.Lists.{find_moved, all_joined, all_push}
use Rattle.run_laws.proofs.lemmas.lock_words.Words.{given_moved, known_moved, had_moved, within_lock}
use Rattle.run_laws.proofs.lemmas.lock_words.Types.{closed_slot_moved, closed_slot_kept}
use Rattle.run_laws.proofs.lemmas.lock_words.Definitions.{Begins, args_moved, args_shown, definition_moved, definition_kept}
use Rattle.run_laws.proofs.lemmas.lock_throwing.Searching.{throw_lock}
use Rattle.run_laws.proofs.lemmas.lock_places.Options.{Through, through_is, Made, made_is, if_is, all_of_moved, all_of_kept}
use Rattle.run_laws.proofs.lemmas.lock_places.Closing.{use_owner, use_args, use_from, KeptCallee, callee_moved, callee_kept}
use Rattle.run_laws.proofs.lemmas.lock_places.Stores.{zero_moved, zero_kept}

module _ (k : Change) (after before : Queries) (a : Agree k after before) where
  -- ---- locals

  zeros_by : (o : Option TypeExpr) → ((c : TypeExpr) → o ≡ Some c → IsTrue (keeps_expr k.keep c))
      → option_and_then (zero_of after) (option_map (move_expr k.rho) o) ≡ option_map (move_value k.rho) (option_and_then (zero_of before) o)
  zeros_by None h = refl
  zeros_by (Some c) h = zero_moved k after before a c (h c refl)

  module _ (u : MethodUse) (h : IsTrue (keeps_use k.keep u)) where
    zero_local_moved : (e : TypeExpr) → IsTrue (keeps_expr k.keep e) → zero_local after (move_use k.rho u) (move_expr k.rho e) ≡ option_map (move_value k.rho) (zero_local before u e)
    zero_local_moved e g =
        let ts = args_shown k.keep u.owner (use_owner k.keep u h) in
        let ms = use_args k.keep u h in
        ap (λ (ts : List TypeExpr). option_and_then (zero_of after) (closed_slot after ts (move_exprs k.rho u.args) (move_expr k.rho e))) (args_moved k.rho u.owner)
        ∙ ap (option_and_then (zero_of after)) (closed_slot_moved k after before a (args_of u.owner) u.args ts ms e g)
        ∙ zeros_by (closed_slot before (args_of u.owner) u.args e) (λ c is. closed_slot_kept k after before a (args_of u.owner) u.args ts ms e c g is)

    zero_local_kept : (e : TypeExpr) (v : Value) → IsTrue (keeps_expr k.keep e) → zero_local before u e ≡ Some v → IsTrue (keeps_value k.keep v)
    zero_local_kept e v g is =
        let t : Through (zero_of before) (closed_slot before (args_of u.owner) u.args e) v = through_is _ _ _ is in
        zero_kept k after before a t.x v (closed_slot_kept k after before a (args_of u.owner) u.args (args_shown k.keep u.owner (use_owner k.keep u h)) (use_args k.keep u h) e t.x g t.there) t.is

    locals_by : (o : Known (List TypeExpr)) → IsTrue (if_good (list_all (keeps_expr k.keep)) o)
        → option_and_then (all_of (zero_local after (move_use k.rho u))) (good (known_map (move_exprs k.rho) o)) ≡ option_map (move_values k.rho) (option_and_then (all_of (zero_local before u)) (good o))
    locals_by (Good es) g = all_of_moved (move_expr k.rho) (move_value k.rho) (zero_local before u) (zero_local after (move_use k.rho u)) (keeps_expr k.keep) zero_local_moved es g
    locals_by (Bad why) g = refl

    locals_kept_by : (o : Known (List TypeExpr)) (vs : List Value) → IsTrue (if_good (list_all (keeps_expr k.keep)) o) → option_and_then (all_of (zero_local before u)) (good o) ≡ Some vs → IsTrue (keeps_values k.keep vs)
    locals_kept_by (Good es) vs g e = all_of_kept (zero_local before u) (keeps_expr k.keep) (keeps_value k.keep) zero_local_kept es vs g e
    locals_kept_by (Bad why) vs g e = cc

    pub locals_moved : (code : Code) → IsTrue (keeps_code k.keep before code) → zero_locals after (move_use k.rho u) (move_code k.rho code) ≡ option_map (move_values k.rho) (zero_locals before u code)
    unfolding zero_locals
    locals_moved code g = locals_by code.locals (first_so _ _ (first_so _ _ g))

    pub locals_kept : (code : Code) (vs : List Value) → IsTrue (keeps_code k.keep before code) → zero_locals before u code ≡ Some vs → IsTrue (keeps_values k.keep vs)
    unfolding zero_locals
    locals_kept code vs g e = locals_kept_by code.locals vs (first_so _ _ (first_so _ _ g)) e

  -- ---- a method is entered

  room_moved : (s : State) → has_room (move_state k before s) ≡ has_room s
  room_moved s = ap (λ (n : ℕ). nat_lt (n + 1) frame_limit) (length-map s.below (move_frame k.rho))

  body_kept : (o : Option (Known Code)) (body : Known Code) → IsTrue (keeps_body k.keep before o) → o ≡ Some body → IsTrue (if_good (keeps_code k.keep before) body)
  body_kept o body h e = ap (keeps_body k.keep before) (sym e) ∙ h

  pub callee_body : (c : Callee) (body : Known Code) → KeptCallee k.keep before c → c.method.body ≡ Some body → IsTrue (if_good (keeps_code k.keep before) body)
  callee_body c body h e = body_kept c.method.body body (second_so _ (keeps_body k.keep before c.method.body) h.method) e

  pub enter_lock : (c : Callee) (args : List Value) (w : Waits) (s : State) → KeptCallee k.keep before c → IsTrue (keeps_values k.keep args) → IsTrue (keeps_waits k.keep w) → Covered k.keep before s
      → Lock k before (enter after (move_callee k.rho c) (move_values k.rho args) (move_waits k.rho w) (move_state k before s)) (enter before c args w s)
  unfolding enter
  enter_lock c args w s hc ha hw cs =
      given_moved k before (known_map (move_code k.rho)) c.method.body _ s _ _ refl (λ body e.
      known_moved k before (move_code k.rho) (keeps_code k.keep before) body s _ _ (callee_body c body hc e) (λ code g.
      had_moved k before (move_values k.rho) (zero_locals before c.called code) _ s _ _ (locals_moved c.called hc.named code g) (λ locals is.
      within_lock k before _ (has_room s) s _ _ (room_moved s) (λ r.
      record {
        same = refl;
        kept = record {
          heap = cs.heap;
          statics = cs.statics;
          inits = cs.inits;
          below = (cs.top, cs.below);
          top = record { method = hc.named; args = ha; locals = locals_kept c.called hc.named code locals g is; stack = refl; prefix = refl; waits = hw };
        };
      }))))

  -- ---- initializers

  head_by : (o : Option ℕ) → ((t : ℕ) → o ≡ Some t → IsTrue (k.keep.typ t)) → option_and_then after.head (option_map k.rho.typ o) ≡ option_and_then before.head o
  head_by None h = refl
  head_by (Some t) h = a.head t (h t refl)

  pub head_moved : (e : TypeExpr) → IsTrue (keeps_expr k.keep e) → head_of after (move_expr k.rho e) ≡ head_of before e
  unfolding head_of
  head_moved e h = ap (option_and_then after.head) (definition_moved k.rho e) ∙ head_by (definition_of e) (λ t is. definition_kept k.keep e t h is)

  starts_by : (o : Option ℕ) → ((t : ℕ) → o ≡ Some t → IsTrue (k.keep.begun t)) → option_and_then after.starts (option_map k.rho.typ o) ≡ option_map k.rho.method (option_and_then before.starts o)
  starts_by None h = refl
  starts_by (Some t) h = a.starts t (h t refl)

  use_by : (b : Bool) (e : TypeExpr) (o : Option ℕ)
      → (if b then option_map (initializer_use (move_expr k.rho e)) (option_map k.rho.method o) else None) ≡ option_map (move_use k.rho) (if b then option_map (initializer_use e) o else None)
  use_by true e None = refl
  use_by true e (Some m) = refl
  use_by false e o = refl

  pub initializer_moved : (by_field : Bool) (e : TypeExpr) → IsTrue (keeps_expr k.keep e) → Begins k.keep e → initializer after by_field (move_expr k.rho e) ≡ option_map (move_use k.rho) (initializer before by_field e)
  unfolding initializer
  initializer_moved by_field e h g =
      (λ i. if by_field || not (head_has BEFORE_FIELD_INIT (head_moved e h i)) then option_map (initializer_use (move_expr k.rho e)) ((ap (option_and_then after.starts) (definition_moved k.rho e) ∙ starts_by (definition_of e) g) i) else None)
      ∙ use_by (begins_by before by_field e) e (option_and_then before.starts (definition_of e))

  pub initializer_kept : (by_field : Bool) (e : TypeExpr) (u : MethodUse) → IsTrue (keeps_expr k.keep e) → Begins k.keep e → initializer before by_field e ≡ Some u → IsTrue (keeps_use k.keep u)
  unfolding initializer
  initializer_kept by_field e u h g is =
      let m : Made (initializer_use e) (option_and_then before.starts (definition_of e)) u = made_is _ _ _ (if_is _ _ _ is) in
      let t : Through before.starts (definition_of e) m.x = through_is _ _ _ m.there in
      subst (λ (v : MethodUse). IsTrue (keeps_use k.keep v)) m.is (use_from k.keep (initializer_use e m.x) (a.keeps_starts t.x m.x (g t.x t.there) t.is) h refl)

  inits_by : (o : Option Started) → option_map (λ (x : Started). x.init) (option_map (move_started k.rho) o) ≡ option_map (λ (x : Started). x.init) o
  inits_by None = refl
  inits_by (Some x) = refl

  pub init_of_moved : (s : State) (e : TypeExpr) → init_of (move_state k before s) (move_expr k.rho e) ≡ init_of s e
  unfolding init_of
  init_of_moved s e =
      ap (option_map (λ (x : Started). x.init)) (find_moved (move_started k.rho) (λ (x : Started). same_expr x.typ e) (λ (x : Started). same_expr x.typ (move_expr k.rho e)) (λ x. same_exprs_moved k.back k.rho k.undone x.typ e) s.inits)
      ∙ inits_by (find (λ (x : Started). same_expr x.typ e) s.inits)

  pub with_init_moved : (e : TypeExpr) (i : Init) (s : State) → with_init (move_expr k.rho e) i (move_state k before s) ≡ move_state k before (with_init e i s)
  with_init_moved e i s = λ j. record (move_state k before s) { inits = sym (map-append (move_started k.rho) s.inits (record { typ = e; init = i } ∷ [])) j }

  pub with_init_covered : (e : TypeExpr) (i : Init) (s : State) → IsTrue (keeps_expr k.keep e) → Covered k.keep before s → Covered k.keep before (with_init e i s)
  with_init_covered e i s h c =
      record {
        heap = c.heap;
        statics = c.statics;
        top = c.top;
        below = c.below;
        inits = all_joined (keeps_started k.keep) s.inits (record { typ = e; init = i } ∷ []) c.inits (all_push (keeps_started k.keep) (record { typ = e; init = i }) [] h refl);
      }

  module _ (e : TypeExpr) (h : IsTrue (keeps_expr k.keep e)) (s : State) (c : Covered k.keep before s) (f g : State → Next) (l : Lock k before (f (move_state k before s)) (g s)) where
    begin_lock : (u : MethodUse) → IsTrue (keeps_use k.keep u) → (o : Option Init) → Lock k before (begin_or after (move_expr k.rho e) (move_use k.rho u) (move_state k before s) f o) (begin_or before e u s g o)
    begin_lock u hu (Some begun) = l
    begin_lock u hu (Some ended) = l
    begin_lock u hu (Some (failed x)) = throw_lock k after before a x s c
    begin_lock u hu None =
        had_moved k before (move_callee k.rho) (callee_of before u) _ s _ _ (callee_moved k after before a u hu) (λ d is.
        subst (λ (t : State). Lock k before (enter after (move_callee k.rho d) [] (starts (move_expr k.rho e)) t) (enter before d [] (starts e) (with_init e begun s))) (sym (with_init_moved e begun s))
        (enter_lock d [] (starts e) (with_init e begun s) (callee_kept k after before a u hu d is).kept refl h (with_init_covered e begun s h c)))

    started_use : (o : Option MethodUse) → ((u : MethodUse) → o ≡ Some u → IsTrue (keeps_use k.keep u))
        → Lock k before (started_by after (move_expr k.rho e) (move_state k before s) f (option_map (move_use k.rho) o)) (started_by before e s g o)
    started_use None n = l
    started_use (Some u) n =
        subst (λ (o : Option Init). Lock k before (begin_or after (move_expr k.rho e) (move_use k.rho u) (move_state k before s) f o) (begin_or before e u s g (init_of s e))) (sym (init_of_moved s e))
        (begin_lock u (n u refl) (init_of s e))

    pub started_lock : (by_field : Bool) → Begins k.keep e → Lock k before (started after by_field (move_expr k.rho e) (move_state k before s) f) (started before by_field e s g)
    unfolding started
    started_lock by_field b =
        subst (λ (o : Option MethodUse). Lock k before (started_by after (move_expr k.rho e) (move_state k before s) f o) (started_by before e s g (initializer before by_field e))) (sym (initializer_moved by_field e h b))
        (started_use (initializer before by_field e) (λ u is. initializer_kept by_field e u h b is))
