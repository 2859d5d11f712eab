-- `ret`: back to the caller, or to what waits for the method's end.
use Rattle.std.proofs.Common.{◌≡◌, ℕ, ◌+◌, Bool, true, false, ◌||◌, not, List, [], ◌∷◌, ◌++◌, length, map, Option, Some, None, refl, sym, ap, subst, ◌∙◌}
use Rattle.std.specs.Prelude.{IsTrue, nat_eq, if◌then◌else◌}
use Rattle.std.specs.List.{list_any}
use Rattle.std.specs.Option.{option_map, option_and_then}
use Rattle.std.specs.Cmp.{first_so, second_so}
use Rattle.std.proofs.lemmas.Bool.{and_from}
use Rattle.std.proofs.lemmas.List.{length-map, map-append}
use Rattle.il_base.specs.declared.element.TheConstants.{STRING}
use Rattle.il_base.specs.declared.world_model.known.Known.{Known}
use Rattle.il_base.specs.declared.world_model.known.Known.TheVariants.{Good, Bad}
use Rattle.il_base.specs.world_model.Worlds.{known_map}
use Rattle.il_base.specs.declared.world_model.expr.TypeExpr.{TypeExpr}
use Rattle.il_base.specs.declared.world_model.expr.TypeExpr.TheVariants as expr
use Rattle.il_base.specs.declared.cil_values.value.Value.{Value, out-Value, roll-Value}
use Rattle.il_base.specs.declared.cil_values.value.Value.TheVariants as value
use Rattle.il_base.specs.declared.cil_values.object.Obj.{Obj}
use Rattle.il_base.specs.declared.cil_values.object.Obj.TheVariants as object
use Rattle.il_base.specs.declared.cil_values.end.End.TheVariants.{Ended}
use Rattle.il_base.specs.declared.cil_values.definition.Signature.{Signature}
use Rattle.il_base.specs.declared.cil_values.resolved.Clause.{Clause}
use Rattle.il_base.specs.declared.cil_values.resolved.Code.{Code}
use Rattle.il_base.specs.declared.cil_values.resolved.Instruction.{Instruction}
use Rattle.il_base.specs.declared.cil_values.state.State.{State}
use Rattle.il_base.specs.declared.cil_values.state.Init.TheVariants as init
use Rattle.il_base.specs.declared.cil_values.frame.Frame.{Frame}
use Rattle.il_base.specs.declared.cil_values.frame.Waits.{Waits}
use Rattle.il_base.specs.declared.cil_values.frame.Waits.TheVariants as waits
use Rattle.rules.specs.step_rules.Queries.{Queries}
use Rattle.rules.specs.step_rules.Next.{went, over}
use Rattle.rules.specs.step_rules.Words.{Here, here_of, instruction_at, may_go, given, had, good, object_at}
use Rattle.rules.specs.step_rules.Closing.{Callee, callee_of, closed_return, is_void}
use Rattle.rules.specs.step_rules.Stores.{fits}
use Rattle.rules.specs.step_rules.Places.{boxed_in}
use Rattle.rules.specs.step_rules.Raising.{set_init}
use Rattle.rules.specs.step_rules.Frames.{frame_of, zero_locals}
use Rattle.rules.specs.step_rules.Calls.{pushed}
use Rattle.rules.specs.step_rules.CoreWords.{Gives}
use Rattle.rules.specs.step_rules.CoreSearches.{searches}
use Rattle.rules.specs.step_rules.Returns.{in_block, no_value, one_value, returned, exit_code, back_in, goes_back, back_by, empty_array, entry_with, entry_begins, opened, ends_by, back, returns, return}
use Rattle.rules.specs.change_rules.Change.{Rho, Change}
use Rattle.rules.specs.change_rules.Moves.{move_expr, move_exprs, move_value, move_values}
use Rattle.rules.specs.change_rules.Answers.{move_clause, move_code, move_signature, move_here, move_instruction, move_callee}
use Rattle.rules.specs.change_rules.States.{move_obj, move_waits, move_frame, move_started, move_state}
use Rattle.rules.specs.change_rules.Keeps.{both, keeps_expr, shows_expr, keeps_use, keeps_value, keeps_values, keeps_signature, keeps_code, if_good}
use Rattle.rules.specs.change_rules.Covered.{keeps_obj, keeps_waits, CoveredFrame, CoveredFrames, Covered}
use Rattle.rules.specs.change_rules.Agree.{Agree}
use Rattle.rules.specs.change_rules.Lock.{Lock, keeps_result, GivesLock}
use Rattle.base_laws.proofs.lemmas.change_laws.Exprs.{move_prim}
use Rattle.base_laws.proofs.lemmas.change_laws.Subst.{names_prim}
use Rattle.base_laws.proofs.lemmas.change_laws.Lists.{find_moved, all_joined, all_push}
use Rattle.base_laws.proofs.lemmas.change_laws.Values.{move_object, keeps_object}
use Rattle.run_laws.proofs.lemmas.lock_words.Words.{stuck_lock, given_moved, had_moved, required_lock, may_go_moved}
use Rattle.run_laws.proofs.lemmas.lock_words.Types.{is_void_moved, closed_return_moved, closed_return_kept}
use Rattle.run_laws.proofs.lemmas.lock_words.Cases.{alike}
use Rattle.run_laws.proofs.lemmas.lock_words.Fits.{fits_moved, fits_kept}
use Rattle.run_laws.proofs.lemmas.lock_throwing.Here.{KeptHere, here_moved}
use Rattle.run_laws.proofs.lemmas.lock_throwing.Searching.{set_init_moved, set_init_kept}
use Rattle.run_laws.proofs.lemmas.lock_places.Options.{Made, made_is, some_is}
use Rattle.run_laws.proofs.lemmas.lock_places.Closing.{KeptCallee, callee_moved, callee_kept}
use Rattle.run_laws.proofs.lemmas.lock_places.Places.{boxed_at, boxed_kept}
use Rattle.run_laws.proofs.lemmas.lock_frames.Entering.{callee_body, locals_moved, locals_kept}
use Rattle.run_laws.proofs.lemmas.lock_members.Members.{with_option_lock}
use Rattle.run_laws.proofs.lemmas.lock_calls.Invoking.{pushed_moved, pushed_kept}

any_moved : (r : Rho) (test : Clause → Bool) → ((c : Clause) → test (move_clause r c) ≡ test c) → (cs : List Clause) → list_any test (map (move_clause r) cs) ≡ list_any test cs
any_moved r test h [] = refl
any_moved r test h (c ∷ cs) = λ i. h c i || any_moved r test h cs i

pub instruction_moved : (r : Rho) (code : Code) (at : ℕ) → instruction_at (move_code r code) at ≡ option_map (move_instruction r) (instruction_at code at)
unfolding instruction_at
instruction_moved r code at = find_moved (move_instruction r) (λ (i : Instruction). nat_eq i.at at) (λ (i : Instruction). nat_eq i.at at) (λ i. refl) code.code

is_not : (b : Bool) → IsTrue (not b) → b ≡ false
is_not true h = sym h
is_not false h = refl

exit_by : (r : Rho) (v : Value) → exit_code (Some (move_value r v)) ≡ exit_code (Some v)
unfolding roll-Value denote.Hole.Carrier.roll out-Value denote.Hole.Carrier.out
exit_by r v = alike r (λ w. exit_code (Some w)) (λ p. refl) (λ e cells. refl) (λ e. refl) (λ f. refl) v

exit_moved : (r : Rho) (o : Option Value) → exit_code (option_map (move_value r) o) ≡ exit_code o
exit_moved r None = refl
exit_moved r (Some v) = exit_by r v

module _ (k : Change) (after before : Queries) (a : Agree k after before) where
  -- ---- what a method returns

  no_value_moved : (stack : List Value) → no_value (move_values k.rho stack) ≡ option_map (option_map (move_value k.rho)) (no_value stack)
  no_value_moved [] = refl
  no_value_moved (v ∷ stack) = refl

  some_by : (o : Option Value) → option_map (λ w. Some w) (option_map (move_value k.rho) o) ≡ option_map (option_map (move_value k.rho)) (option_map (λ w. Some w) o)
  some_by None = refl
  some_by (Some v) = refl

  one_value_moved : (e : TypeExpr) → IsTrue (keeps_expr k.keep e) → (stack : List Value) → one_value after (move_expr k.rho e) (move_values k.rho stack) ≡ option_map (option_map (move_value k.rho)) (one_value before e stack)
  one_value_moved e h [] = refl
  one_value_moved e h (v ∷ []) = ap (option_map (λ w. Some w)) (fits_moved k after before a e v h) ∙ some_by (fits before e v)
  one_value_moved e h (v ∷ w ∷ stack) = refl

  returned_by : (b : Bool) (e : TypeExpr) → IsTrue (keeps_expr k.keep e) → (stack : List Value)
      → (if b then no_value (move_values k.rho stack) else one_value after (move_expr k.rho e) (move_values k.rho stack)) ≡ option_map (option_map (move_value k.rho)) (if b then no_value stack else one_value before e stack)
  returned_by true e h stack = no_value_moved stack
  returned_by false e h stack = one_value_moved e h stack

  returned_moved : (e : TypeExpr) → IsTrue (keeps_expr k.keep e) → (stack : List Value) → returned after (move_expr k.rho e) (move_values k.rho stack) ≡ option_map (option_map (move_value k.rho)) (returned before e stack)
  unfolding returned
  returned_moved e h stack = ap (λ (b : Bool). if b then no_value (move_values k.rho stack) else one_value after (move_expr k.rho e) (move_values k.rho stack)) (is_void_moved k.rho e) ∙ returned_by (is_void e) e h stack

  abbrev KeptR : Option Value → Type 0
  KeptR o = IsTrue (keeps_result k.keep o)

  no_value_kept : (stack : List Value) (o : Option Value) → no_value stack ≡ Some o → KeptR o
  no_value_kept [] o e = some_is KeptR None o e refl
  no_value_kept (v ∷ stack) o e = cc

  one_value_kept : (e : TypeExpr) (stack : List Value) (o : Option Value) → IsTrue (keeps_values k.keep stack) → one_value before e stack ≡ Some o → KeptR o
  one_value_kept e [] o h is = cc
  one_value_kept e (v ∷ []) o h is =
      let m : Made (λ w. Some w) (fits before e v) o = made_is _ _ _ is in
      subst KeptR m.is (fits_kept k after before a e v m.x (first_so (keeps_value k.keep v) _ h) m.there)
  one_value_kept e (v ∷ w ∷ stack) o h is = cc

  returned_kept_by : (b : Bool) (e : TypeExpr) (stack : List Value) (o : Option Value) → IsTrue (keeps_values k.keep stack) → (if b then no_value stack else one_value before e stack) ≡ Some o → KeptR o
  returned_kept_by true e stack o h is = no_value_kept stack o is
  returned_kept_by false e stack o h is = one_value_kept e stack o h is

  returned_kept : (e : TypeExpr) (stack : List Value) (o : Option Value) → IsTrue (keeps_values k.keep stack) → returned before e stack ≡ Some o → KeptR o
  unfolding returned
  returned_kept e stack o h is = returned_kept_by (is_void e) e stack o h is

  -- ---- back to the caller

  goes_back_lock : (s t : State) (stack : List Value) (bytes : List ℕ) → Covered k.keep before t → IsTrue (keeps_values k.keep stack)
      → Lock k before (goes_back after (move_state k before s) (move_state k before t) (move_values k.rho stack) bytes) (goes_back before s t stack bytes)
  goes_back_lock s t stack bytes c h =
      given_moved k before (move_here k.rho) (here_of before t.top) _ s _ _ (here_moved k after before a t.top c.top.method) (λ here e.
      given_moved k before (move_instruction k.rho) (instruction_at here.code t.top.at) _ s _ _ (instruction_moved k.rho here.code t.top.at) (λ i is.
      required_lock k before _ (may_go here.code i.at i.next) s _ _ (may_go_moved k before here.code i.at i.next) (λ b.
      record {
        same = refl;
        kept = record {
          heap = c.heap;
          statics = c.statics;
          inits = c.inits;
          below = c.below;
          top = record { method = c.top.method; args = c.top.args; locals = c.top.locals; stack = h; prefix = refl; waits = c.top.waits };
        };
      })))

  back_with : (s t : State) (w v : Value) (bytes : List ℕ) → w ≡ move_value k.rho v → IsTrue (keeps_value k.keep v) → Covered k.keep before t
      → Lock k before (goes_back after (move_state k before s) (move_state k before t) (w ∷ move_values k.rho t.top.stack) bytes) (goes_back before s t (v ∷ t.top.stack) bytes)
  back_with s t w v bytes e hv c =
      subst (λ (x : Value). Lock k before (goes_back after (move_state k before s) (move_state k before t) (x ∷ move_values k.rho t.top.stack) bytes) (goes_back before s t (v ∷ t.top.stack) bytes)) (sym e)
      (goes_back_lock s t (v ∷ t.top.stack) bytes c (all_push (keeps_value k.keep) v t.top.stack hv c.top.stack))

  back_pushed : (s t : State) (o : Option Value) (bytes : List ℕ) → KeptR o → Covered k.keep before t
      → Lock k before (goes_back after (move_state k before s) (move_state k before t) (pushed (option_map (move_value k.rho) o) (move_values k.rho t.top.stack)) bytes) (goes_back before s t (pushed o t.top.stack) bytes)
  back_pushed s t o bytes h c =
      subst (λ (stack : List Value). Lock k before (goes_back after (move_state k before s) (move_state k before t) stack bytes) (goes_back before s t (pushed o t.top.stack) bytes)) (sym (pushed_moved k o t.top.stack))
      (goes_back_lock s t (pushed o t.top.stack) bytes c (pushed_kept k o t.top.stack h c.top.stack))

  starts_ended : (e : TypeExpr) (t : State) → Covered k.keep before t
      → Lock k before (went (record (move_state k before t) { inits = set_init (move_expr k.rho e) init.Ended (map (move_started k.rho) t.inits) }) []) (went (record t { inits = set_init e init.Ended t.inits }) [])
  starts_ended e t c =
      record {
        same = λ i. went (record (move_state k before t) { inits = set_init_moved k e init.Ended t.inits i }) [];
        kept = record { heap = c.heap; statics = c.statics; inits = set_init_kept k e init.Ended t.inits c.inits; top = c.top; below = c.below };
      }

  abbrev core_back : Queries → State → State → Gives
  core_back q s t r result bytes = goes_back q s (back_in r t.top t.below) (pushed result t.top.stack) bytes

  core_back_lock : (s t : State) → Covered k.keep before t → GivesLock k before (core_back after (move_state k before s) (move_state k before t)) (core_back before s t)
  core_back_lock s t c r v bytes cr h =
      back_pushed s (back_in r t.top t.below) v bytes h (record { heap = cr.heap; statics = cr.statics; inits = cr.inits; top = c.top; below = c.below })

  back_by_lock : (s t : State) → Covered k.keep before s → Covered k.keep before t → (v : Option Value) → KeptR v → (w : Waits) → IsTrue (keeps_waits k.keep w)
      → Lock k before (back_by after (move_state k before s) (move_state k before t) (option_map (move_value k.rho) v) (move_waits k.rho w)) (back_by before s t v w)
  back_by_lock s t c ct v hv waits.Nothing hw = back_pushed s t v [] hv ct
  back_by_lock s t c ct v hv (waits.Makes n) hw = back_with s t (value.Object n) (value.Object n) [] (sym (move_object k.rho n)) (keeps_object k.keep n) ct
  back_by_lock s t c ct v hv (waits.MakesValue n) hw =
      given_moved k before (move_value k.rho) (option_and_then boxed_in (object_at s n)) _ s _ _ (boxed_at k after before a s n) (λ w is. back_with s t (move_value k.rho w) w [] refl (boxed_kept k after before a s n w c is) ct)
  back_by_lock s t c ct v hv (waits.Starts e) hw = starts_ended e t ct
  back_by_lock s t c ct v hv (waits.Opens e m) hw = stuck_lock k before s
  back_by_lock s t c ct v hv (waits.Core m args) hw =
      with_option_lock k after before a m (is_not (searches m) (second_so (keeps_values k.keep args) (not (searches m)) hw)) args s (core_back after (move_state k before s) (move_state k before t)) (core_back before s t) c (core_back_lock s t ct) v hv

  -- ---- the entry method begins

  strings_moved : move_obj k before (empty_array (expr.Prim STRING)) ≡ empty_array (expr.Prim STRING)
  strings_moved = ap (λ (e : TypeExpr). object.Array e []) (move_prim k.rho STRING)

  entry_by : (d : Callee) (locals : List Value) (s : State) (es : List TypeExpr)
      → entry_with (move_callee k.rho d) (move_values k.rho locals) (move_state k before s) (move_exprs k.rho es) ≡ move_state k before (entry_with d locals s es)
  entry_by d locals s [] = refl
  entry_by d locals s (e ∷ es) =
      λ i. record (move_state k before s) {
        heap = (ap (λ (o : Obj). map (move_obj k before) s.heap ++ o ∷ []) (sym strings_moved) ∙ sym (map-append (move_obj k before) s.heap (empty_array (expr.Prim STRING) ∷ []))) i;
        top = frame_of s.entered (move_callee k.rho d).called ((ap value.Object (length-map s.heap (move_obj k before)) ∙ sym (move_object k.rho (length s.heap))) i ∷ []) (move_values k.rho locals) waits.Nothing;
        below = [];
        entered = s.entered + 1;
      }

  pub entry_moved : (d : Callee) (locals : List Value) (s : State) → entry_begins (move_callee k.rho d) (move_values k.rho locals) (move_state k before s) ≡ move_state k before (entry_begins d locals s)
  unfolding entry_begins
  entry_moved d locals s = entry_by d locals s d.signature.params

  entry_frame_covered : (d : Callee) (args locals : List Value) → KeptCallee k.keep before d → IsTrue (keeps_values k.keep args) → IsTrue (keeps_values k.keep locals) → (n : ℕ) → CoveredFrame k.keep (frame_of n d.called args locals waits.Nothing)
  entry_frame_covered d args locals hd ha hl n = record { method = hd.named; args = ha; locals = hl; stack = refl; prefix = refl; waits = refl }

  entry_covered_by : (d : Callee) (locals : List Value) (s : State) → KeptCallee k.keep before d → IsTrue (keeps_values k.keep locals) → Covered k.keep before s → (es : List TypeExpr) → Covered k.keep before (entry_with d locals s es)
  entry_covered_by d locals s hd hl c [] = record { heap = c.heap; statics = c.statics; inits = c.inits; top = entry_frame_covered d [] locals hd refl hl s.entered; below = tt }
  entry_covered_by d locals s hd hl c (e ∷ es) =
      let o : Obj = empty_array (expr.Prim STRING) in
      let shown : IsTrue (shows_expr k.keep (expr.Prim STRING)) = prim_shown in
      record {
        heap = all_joined (keeps_obj k.keep before) s.heap (o ∷ []) c.heap (all_push (keeps_obj k.keep before) o [] (and_from (shows_expr k.keep (expr.Prim STRING)) true shown refl) refl);
        statics = c.statics;
        inits = c.inits;
        top = entry_frame_covered d (value.Object (length s.heap) ∷ []) locals hd (and_from (keeps_value k.keep (value.Object (length s.heap))) true (keeps_object k.keep (length s.heap)) refl) hl s.entered;
        below = tt;
      }
    where
      prim_shown : IsTrue (shows_expr k.keep (expr.Prim STRING))
      prim_shown = ap both (names_prim k.keep STRING)

  pub entry_covered : (d : Callee) (locals : List Value) (s : State) → KeptCallee k.keep before d → IsTrue (keeps_values k.keep locals) → Covered k.keep before s → Covered k.keep before (entry_begins d locals s)
  unfolding entry_begins
  entry_covered d locals s hd hl c = entry_covered_by d locals s hd hl c d.signature.params

  abbrev locals_in : Queries → Callee → Known Code → Option (List Value)
  locals_in q d body = option_and_then (zero_locals q d.called) (good body)

  body_locals : (d : Callee) → KeptCallee k.keep before d → (body : Known Code) → IsTrue (if_good (keeps_code k.keep before) body)
      → locals_in after (move_callee k.rho d) (known_map (move_code k.rho) body) ≡ option_map (move_values k.rho) (locals_in before d body)
  body_locals d hd (Good code) h = locals_moved k after before a d.called hd.named code h
  body_locals d hd (Bad why) h = refl

  body_locals_kept : (d : Callee) → KeptCallee k.keep before d → (body : Known Code) (vs : List Value) → IsTrue (if_good (keeps_code k.keep before) body) → locals_in before d body ≡ Some vs → IsTrue (keeps_values k.keep vs)
  body_locals_kept d hd (Good code) vs h e = locals_kept k after before a d.called hd.named code vs h e
  body_locals_kept d hd (Bad why) vs h e = cc

  opened_lock : (s : State) (d : Callee) → KeptCallee k.keep before d → Covered k.keep before s → Lock k before (opened after (move_state k before s) (move_callee k.rho d)) (opened before s d)
  opened_lock s d hd c =
      given_moved k before (known_map (move_code k.rho)) d.method.body _ s
      (λ body. had (locals_in after (move_callee k.rho d) body) (move_state k before s) (λ locals. went (entry_begins (move_callee k.rho d) locals (move_state k before s)) []))
      (λ body. had (locals_in before d body) s (λ locals. went (entry_begins d locals s) [])) refl (λ body e.
      let hb : IsTrue (if_good (keeps_code k.keep before) body) = callee_body k after before a d body hd e in
      had_moved k before (move_values k.rho) (locals_in before d body) _ s (λ locals. went (entry_begins (move_callee k.rho d) locals (move_state k before s)) []) (λ locals. went (entry_begins d locals s) []) (body_locals d hd body hb) (λ locals is.
      record { same = λ i. went (entry_moved d locals s i) []; kept = entry_covered d locals s hd (body_locals_kept d hd body locals hb is) c }))

  -- ---- `ret`

  over_lock : (v : Option Value) → Lock k before (over (Ended (exit_code (option_map (move_value k.rho) v)))) (over (Ended (exit_code v)))
  over_lock v = record { same = λ i. over (Ended (exit_moved k.rho v i)); kept = tt }

  ends_lock : (s : State) → Covered k.keep before s → (v : Option Value) (w : Waits) → IsTrue (keeps_waits k.keep w)
      → Lock k before (ends_by after (move_state k before s) (option_map (move_value k.rho) v) (move_waits k.rho w)) (ends_by before s v w)
  ends_lock s c v (waits.Opens e m) hw =
      let t : State = record s { inits = set_init e init.Ended s.inits } in
      let hm : IsTrue (keeps_use k.keep m) = second_so (keeps_expr k.keep e) (keeps_use k.keep m) hw in
      had_moved k before (move_callee k.rho) (callee_of before m) _ s
      (opened after (record (move_state k before s) { inits = set_init (move_expr k.rho e) init.Ended (map (move_started k.rho) s.inits) })) (opened before t) (callee_moved k after before a m hm) (λ d is.
      subst (λ (u : State). Lock k before (opened after u (move_callee k.rho d)) (opened before t d)) (λ i. record (move_state k before s) { inits = sym (set_init_moved k e init.Ended s.inits) i })
      (opened_lock t d (callee_kept k after before a m hm d is).kept (record { heap = c.heap; statics = c.statics; inits = set_init_kept k e init.Ended s.inits c.inits; top = c.top; below = c.below })))
  ends_lock s c v waits.Nothing hw = over_lock v
  ends_lock s c v (waits.Makes n) hw = over_lock v
  ends_lock s c v (waits.MakesValue n) hw = over_lock v
  ends_lock s c v (waits.Starts e) hw = over_lock v
  ends_lock s c v (waits.Core m args) hw = over_lock v

  back_lock : (s : State) → Covered k.keep before s → (fs : List Frame) → CoveredFrames k.keep fs → (v : Option Value) → KeptR v
      → Lock k before (back after (move_state k before s) (map (move_frame k.rho) fs) (option_map (move_value k.rho) v)) (back before s fs v)
  back_lock s c [] cs v hv = ends_lock s c v s.top.waits c.top.waits
  back_lock s c (f ∷ fs) cs v hv = back_by_lock s (back_in s f fs) c (record { heap = c.heap; statics = c.statics; inits = c.inits; top = cs.0; below = cs.1 }) v hv s.top.waits c.top.waits

  module _ (here : Here) (r : KeptHere k.keep before here) (i : Instruction) (s : State) (c : Covered k.keep before s) where
    returns_lock : (sig : Signature) → IsTrue (keeps_signature k.keep sig) → Lock k before (returns after (move_here k.rho here) (move_state k before s) (move_signature k.rho sig)) (returns before here s sig)
    returns_lock sig h =
        let hr : IsTrue (keeps_expr k.keep sig.ret) = second_so _ (keeps_expr k.keep sig.ret) h in
        had_moved k before (move_expr k.rho) (closed_return before here.targs here.margs sig.ret) _ s _ _ (closed_return_moved k after before a here.targs here.margs r.targs r.margs sig.ret hr) (λ e is.
        let he : IsTrue (keeps_expr k.keep e) = closed_return_kept k after before a here.targs here.margs r.targs r.margs sig.ret e hr is in
        given_moved k before (option_map (move_value k.rho)) (returned before e s.top.stack) _ s
        (back after (move_state k before s) (map (move_frame k.rho) s.below)) (back before s s.below) (returned_moved e he s.top.stack) (λ v vs.
        back_lock s c s.below c.below v (returned_kept e s.top.stack v c.top.stack vs)))

    sig_by : (o : Known Signature) → IsTrue (if_good (keeps_signature k.keep) o)
        → Lock k before (given (good (known_map (move_signature k.rho) o)) (move_state k before s) (returns after (move_here k.rho here) (move_state k before s))) (given (good o) s (returns before here s))
    sig_by (Good sig) h = returns_lock sig h
    sig_by (Bad why) h = stuck_lock k before s

    pub return_lock : Lock k before (return after (move_here k.rho here) (move_instruction k.rho i) (move_state k before s)) (return before here i s)
    unfolding return
    return_lock =
        required_lock k before _ (not (list_any (in_block i.at) here.code.clauses)) s _ _ (ap not (any_moved k.rho (in_block i.at) (λ x. refl) here.code.clauses))
        (λ e. sig_by here.method.signature (second_so _ (if_good (keeps_signature k.keep) here.method.signature) (first_so _ _ r.method)))
