-- One lemma for each form on arguments, locals, constants and the stack.
use Rattle.std.proofs.Common.{◌≡◌, ℕ, zero, suc, List, ◌∷◌, Bool, true, false, ◌&&◌, Option, Some, None, refl, sym, ap, subst, ◌∙◌}
use Rattle.std.specs.Prelude.{IsTrue, slice_get, if◌then◌else◌}
use Rattle.std.specs.List.{list_all}
use Rattle.std.specs.Option.{option_map, option_and_then, is_some}
use Rattle.std.specs.Int.{w32, w64}
use Rattle.std.specs.Cmp.{first_so, second_so}
use Rattle.std.proofs.lemmas.Option.{slice_get-map}
use Rattle.il_base.specs.declared.world_model.known.Known.{Known}
use Rattle.il_base.specs.declared.world_model.known.Known.TheVariants.{Good, Bad}
use Rattle.il_base.specs.world_model.Worlds.{known_map}
use Rattle.il_base.specs.declared.world_model.expr.TypeExpr.{TypeExpr}
use Rattle.il_base.specs.declared.world_model.expr.TypeExpr.TheVariants as expr
use Rattle.il_base.specs.declared.cil_values.value.Value.{Value}
use Rattle.il_base.specs.declared.cil_values.value.Value.TheVariants as value
use Rattle.il_base.specs.declared.cil_values.path.Root.{Root}
use Rattle.il_base.specs.declared.cil_values.path.Root.TheVariants as root
use Rattle.il_base.specs.declared.cil_values.resolved.Instruction.{Instruction}
use Rattle.il_base.specs.declared.cil_values.definition.Signature.{Signature}
use Rattle.il_base.specs.declared.cil_values.resolved.Use.{Use}
use Rattle.il_base.specs.declared.cil_values.resolved.Use.TheVariants.{Slot as slot, Number as number}
use Rattle.rules.specs.step_rules.Queries.{Queries}
use Rattle.il_base.specs.declared.cil_values.state.State.{State}
use Rattle.il_base.specs.declared.cil_values.frame.Frame.{Frame}
use Rattle.rules.specs.step_rules.Words.{Here, stuck, required, goes, good}
use Rattle.rules.specs.step_rules.Integers.{fits_signed}
use Rattle.rules.specs.step_rules.Stores.{fits, is_value}
use Rattle.rules.specs.step_rules.Places.{set_arg, set_local}
use Rattle.rules.specs.step_rules.Slots.{closed_here, this_type, with_this, arg_type_in, arg_type, local_type, load_slot, load_arg, load_local, path_to, address, address_arg, address_local, store_slot, store_arg, store_local, nop, load_null, load_int32, load_int64, duplicate, pop}
use Rattle.rules.specs.change_rules.Change.{Change}
use Rattle.rules.specs.change_rules.Moves.{move_expr, move_exprs, move_value, move_values, move_root}
use Rattle.rules.specs.change_rules.Answers.{move_signature, move_operand, move_instruction, move_here}
use Rattle.rules.specs.change_rules.States.{move_state, move_frame}
use Rattle.rules.specs.change_rules.Keeps.{Names, keeps_expr, keeps_root, keeps_value, keeps_values, keeps_signature, if_good}
use Rattle.rules.specs.change_rules.Covered.{Covered, CoveredFrame}
use Rattle.rules.specs.change_rules.Agree.{Agree}
use Rattle.rules.specs.change_rules.Lock.{Lock, Runs}
use Rattle.base_laws.proofs.lemmas.change_laws.Exprs.{move_by_ref}
use Rattle.base_laws.proofs.lemmas.change_laws.Subst.{names_by_ref}
use Rattle.base_laws.proofs.lemmas.change_laws.Values.{move_null, move_i4, move_i8, move_pointer, keeps_null, keeps_i4, keeps_i8, keeps_pointer}
use Rattle.base_laws.proofs.lemmas.change_laws.Lists.{all_push, all_at, all_set}
use Rattle.base_laws.proofs.lemmas.change_laws.Cells.{set_map}
use Rattle.run_laws.proofs.lemmas.lock_words.Words.{stuck_lock, given_moved, required_lock, popped_lock, goes_lock, pushes_lock}
use Rattle.run_laws.proofs.lemmas.lock_words.Types.{closed_slot_moved, closed_slot_kept}
use Rattle.run_laws.proofs.lemmas.lock_words.Fits.{fits_moved, fits_kept, is_value_moved}

some_map : {A B : Type 0} (f : A → B) (o : Option A) → is_some (option_map f o) ≡ is_some o
some_map f None = refl
some_map f (Some x) = refl

module _ (k : Change) (after before : Queries) (a : Agree k after before) (here : Here) (i : Instruction) (s : State) (r : Runs k.keep before here i s) (c : Covered k.keep before s) where
  -- ---- the types of slots

  type_by : (o : Option TypeExpr) → ((e : TypeExpr) → o ≡ Some e → IsTrue (keeps_expr k.keep e))
      → option_and_then (closed_here after (move_here k.rho here)) (option_map (move_expr k.rho) o) ≡ option_map (move_expr k.rho) (option_and_then (closed_here before here) o)
  type_by None h = refl
  type_by (Some e) h = closed_slot_moved k after before a here.targs here.margs r.targs r.margs e (h e refl)

  type_at : (types : List TypeExpr) (n : ℕ) → IsTrue (list_all (keeps_expr k.keep) types)
      → option_and_then (closed_here after (move_here k.rho here)) (slice_get (move_exprs k.rho types) n) ≡ option_map (move_expr k.rho) (option_and_then (closed_here before here) (slice_get types n))
  type_at types n h =
      ap (option_and_then (closed_here after (move_here k.rho here))) (slice_get-map (move_expr k.rho) types n)
      ∙ type_by (slice_get types n) (λ e is. all_at (keeps_expr k.keep) types n e h is)

  kept_by : (o : Option TypeExpr) (e : TypeExpr) → ((d : TypeExpr) → o ≡ Some d → IsTrue (keeps_expr k.keep d)) → option_and_then (closed_here before here) o ≡ Some e → IsTrue (keeps_expr k.keep e)
  kept_by None e h is = cc
  kept_by (Some d) e h is = closed_slot_kept k after before a here.targs here.margs r.targs r.margs d e (h d refl) is

  kept_at : (types : List TypeExpr) (n : ℕ) (e : TypeExpr) → IsTrue (list_all (keeps_expr k.keep) types) → option_and_then (closed_here before here) (slice_get types n) ≡ Some e → IsTrue (keeps_expr k.keep e)
  kept_at types n e h is = kept_by (slice_get types n) e (λ d g. all_at (keeps_expr k.keep) types n d h g) is

  abbrev TypeMoves : Option TypeExpr → Option TypeExpr → Type 0
  TypeMoves new old = (new ≡ option_map (move_expr k.rho) old) × ((e : TypeExpr) → old ≡ Some e → IsTrue (keeps_expr k.keep e))

  locals_by : (types : Known (List TypeExpr)) (n : ℕ) → IsTrue (if_good (list_all (keeps_expr k.keep)) types)
      → TypeMoves (option_and_then (λ types. option_and_then (closed_here after (move_here k.rho here)) (slice_get types n)) (good (known_map (move_exprs k.rho) types)))
      (option_and_then (λ types. option_and_then (closed_here before here) (slice_get types n)) (good types))
  locals_by (Good types) n h = (type_at types n h, λ e is. kept_at types n e h is)
  locals_by (Bad why) n h = (refl, λ e is. cc)

  local_moves : (n : ℕ) → TypeMoves (local_type after (move_here k.rho here) n) (local_type before here n)
  unfolding local_type
  local_moves n = locals_by here.code.locals n (first_so _ _ (first_so _ _ r.code))

  this_by : (b : Bool) (owner : TypeExpr) → (if b then expr.ByRef (move_expr k.rho owner) else move_expr k.rho owner) ≡ move_expr k.rho (if b then expr.ByRef owner else owner)
  this_by true owner = sym (move_by_ref k.rho owner)
  this_by false owner = refl

  this_kept : (b : Bool) (owner : TypeExpr) → IsTrue (keeps_expr k.keep owner) → IsTrue (keeps_expr k.keep (if b then expr.ByRef owner else owner))
  this_kept true owner h = ap (λ (n : Names). n.kept) (names_by_ref k.keep owner) ∙ h
  this_kept false owner h = h

  this_moves : (owner : TypeExpr) → IsTrue (keeps_expr k.keep owner) → TypeMoves (Some (this_type after (move_expr k.rho owner))) (Some (this_type before owner))
  unfolding this_type
  this_moves owner h = (
    ap (λ (b : Bool). Some (if b then expr.ByRef (move_expr k.rho owner) else move_expr k.rho owner)) (is_value_moved k after before a owner h)
        ∙ ap (λ (e : TypeExpr). Some e) (this_by (is_value before owner) owner),
    λ e is. let same : (if is_value before owner then expr.ByRef owner else owner) ≡ e = cc in
        subst (λ (x : TypeExpr). IsTrue (keeps_expr k.keep x)) same (this_kept (is_value before owner) owner h),
  )

  with_this_moves : (owner : TypeExpr) (n : ℕ) (params : List TypeExpr) → IsTrue (keeps_expr k.keep owner) → IsTrue (list_all (keeps_expr k.keep) params)
      → TypeMoves (with_this after (move_expr k.rho owner) n (move_exprs k.rho params) (closed_here after (move_here k.rho here))) (with_this before owner n params (closed_here before here))
  with_this_moves owner zero params h g = this_moves owner h
  with_this_moves owner (suc n) params h g = (type_at params n g, λ e is. kept_at params n e g is)

  arg_by : (owner : TypeExpr) (n : ℕ) (b : Bool) (params : List TypeExpr) → IsTrue (keeps_expr k.keep owner) → IsTrue (list_all (keeps_expr k.keep) params)
      → TypeMoves (if b then with_this after (move_expr k.rho owner) n (move_exprs k.rho params) (closed_here after (move_here k.rho here)) else option_and_then (closed_here after (move_here k.rho here)) (slice_get (move_exprs k.rho params) n))
      (if b then with_this before owner n params (closed_here before here) else option_and_then (closed_here before here) (slice_get params n))
  arg_by owner n true params h g = with_this_moves owner n params h g
  arg_by owner n false params h g = (type_at params n g, λ e is. kept_at params n e g is)

  args_by : (sig : Known Signature) (owner : TypeExpr) (n : ℕ) → IsTrue (keeps_expr k.keep owner) → IsTrue (if_good (keeps_signature k.keep) sig)
      → TypeMoves (option_and_then (arg_type_in after (move_here k.rho here) (move_expr k.rho owner) n) (good (known_map (move_signature k.rho) sig))) (option_and_then (arg_type_in before here owner n) (good sig))
  args_by (Good sig) owner n h g = arg_by owner n sig.this sig.params h (first_so _ _ g)
  args_by (Bad why) owner n h g = (refl, λ e is. cc)

  arg_moves : (n : ℕ) → TypeMoves (arg_type after (move_here k.rho here) (move_frame k.rho s.top) n) (arg_type before here s.top n)
  unfolding arg_type
  arg_moves n =
      args_by here.method.signature s.top.method.owner n (second_so _ _ (first_so _ _ c.top.method)) (second_so _ _ (first_so _ _ r.method))

  -- ---- loads, addresses, stores

  load_slot_lock : (slots : List Value) (n : ℕ) → IsTrue (keeps_values k.keep slots)
      → Lock k before (load_slot (move_here k.rho here) (move_instruction k.rho i) (move_state k before s) (move_values k.rho slots) n) (load_slot here i s slots n)
  load_slot_lock slots n h =
      given_moved k before (move_value k.rho) (slice_get slots n) _ s _ _ (slice_get-map (move_value k.rho) slots n)
      (λ v e. goes_lock k before here i (v ∷ s.top.stack) s c (all_push (keeps_value k.keep) v s.top.stack (all_at (keeps_value k.keep) slots n v h e) c.top.stack))

  slot_there : (slots : List Value) (n : ℕ) → is_some (slice_get (move_values k.rho slots) n) ≡ is_some (slice_get slots n)
  slot_there slots n = ap is_some (slice_get-map (move_value k.rho) slots n) ∙ some_map (move_value k.rho) (slice_get slots n)

  address_lock : (slots : List Value) (n : ℕ) (p : Root) (new old : Option TypeExpr) → TypeMoves new old → IsTrue (keeps_root k.keep p)
      → Lock k before (address (move_here k.rho here) (move_instruction k.rho i) (move_state k before s) (move_values k.rho slots) n (move_root k.rho p) new) (address here i s slots n p old)
  address_lock slots n p new old m h =
      required_lock k before _ (is_some (slice_get slots n)) s _ _ (slot_there slots n) (λ b.
      given_moved k before (move_expr k.rho) old new s _ _ m.0 (λ e is.
      pushes_lock k before here i _ (value.Pointer (path_to p e)) s (sym (move_pointer k.rho (path_to p e))) c (keeps_pointer k.keep (path_to p e) ∙ both_so (keeps_root k.keep p) (keeps_expr k.keep e) h (m.1 e is))))
    where
      both_so : (p q : Bool) → IsTrue p → IsTrue q → IsTrue (p && q)
      both_so true q h g = g
      both_so false q h g = h

  abbrev Puts : (ℕ → Value → Frame → Frame) → Type 0
  Puts put = (n : ℕ) (w : Value) → IsTrue (keeps_value k.keep w) → ((put n (move_value k.rho w) (move_frame k.rho s.top)) ≡ move_frame k.rho (put n w s.top)) × CoveredFrame k.keep (put n w s.top)

  args_put : Puts set_arg
  args_put n w h = (
    λ j. record (move_frame k.rho s.top) { args = set_map (move_value k.rho) s.top.args n w j },
    record { method = c.top.method; args = all_set (keeps_value k.keep) s.top.args n w c.top.args h; locals = c.top.locals; stack = c.top.stack; prefix = c.top.prefix; waits = c.top.waits },
  )

  locals_put : Puts set_local
  locals_put n w h = (
    λ j. record (move_frame k.rho s.top) { locals = set_map (move_value k.rho) s.top.locals n w j },
    record { method = c.top.method; args = c.top.args; locals = all_set (keeps_value k.keep) s.top.locals n w c.top.locals h; stack = c.top.stack; prefix = c.top.prefix; waits = c.top.waits },
  )

  put_lock : (put : ℕ → Value → Frame → Frame) → Puts put → (n : ℕ) (stack : List Value) (w : Value) → IsTrue (keeps_values k.keep stack) → IsTrue (keeps_value k.keep w)
      → Lock k before (goes (move_here k.rho here) (move_instruction k.rho i) (move_values k.rho stack) (record (move_state k before s) { top = put n (move_value k.rho w) (move_frame k.rho s.top) }))
      (goes here i stack (record s { top = put n w s.top }))
  put_lock put p n stack w st h =
      let t : State = record s { top = put n w s.top } in
      subst (λ (f : Frame). Lock k before (goes (move_here k.rho here) (move_instruction k.rho i) (move_values k.rho stack) (record (move_state k before s) { top = f })) (goes here i stack t))
      (sym (p n w h).0)
      (goes_lock k before here i stack t (record { heap = c.heap; statics = c.statics; inits = c.inits; top = (p n w h).1; below = c.below }) st)

  store_slot_lock : (slots : List Value) (n : ℕ) (put : ℕ → Value → Frame → Frame) (new old : Option TypeExpr) → TypeMoves new old → Puts put
      → Lock k before (store_slot after (move_here k.rho here) (move_instruction k.rho i) (move_state k before s) (move_values k.rho slots) n new (put n)) (store_slot before here i s slots n old (put n))
  store_slot_lock slots n put new old m p =
      required_lock k before _ (is_some (slice_get slots n)) s _ _ (slot_there slots n) (λ b.
      given_moved k before (move_expr k.rho) old new s _ _ m.0 (λ e is.
      popped_lock k before s.top.stack s _ _ c.top.stack (λ v stack hv hs.
      given_moved k before (move_value k.rho) (fits before e v) _ s _ _ (fits_moved k after before a e v (m.1 e is)) (λ w ws.
      put_lock put p n stack w hs (fits_kept k after before a e v w hv ws)))))

  -- ---- the forms

  pub nop_lock : Lock k before (nop after (move_here k.rho here) (move_instruction k.rho i) (move_state k before s)) (nop before here i s)
  unfolding nop
  nop_lock = goes_lock k before here i s.top.stack s c c.top.stack

  pub load_null_lock : Lock k before (load_null after (move_here k.rho here) (move_instruction k.rho i) (move_state k before s)) (load_null before here i s)
  unfolding load_null
  load_null_lock = pushes_lock k before here i value.Null value.Null s (sym (move_null k.rho)) c (keeps_null k.keep)

  int32_by : (u : Use) → Lock k before (elim (move_operand k.rho u) [ number n ↦ required (fits_signed w32 n) (move_state k before s) (goes (move_here k.rho here) (move_instruction k.rho i) (value.I4 n ∷ move_values k.rho s.top.stack) (move_state k before s)) | _ ↦ stuck (move_state k before s) ])
      (elim u [ number n ↦ required (fits_signed w32 n) s (goes here i (value.I4 n ∷ s.top.stack) s) | _ ↦ stuck s ])
  int32_by (number n) = required_lock k before _ (fits_signed w32 n) s _ _ refl (λ b. pushes_lock k before here i (value.I4 n) (value.I4 n) s (sym (move_i4 k.rho n)) c (keeps_i4 k.keep n))
  int32_by _ = stuck_lock k before s

  pub load_int32_lock : Lock k before (load_int32 after (move_here k.rho here) (move_instruction k.rho i) (move_state k before s)) (load_int32 before here i s)
  unfolding load_int32
  load_int32_lock = int32_by i.operand

  int64_by : (u : Use) → Lock k before (elim (move_operand k.rho u) [ number n ↦ required (fits_signed w64 n) (move_state k before s) (goes (move_here k.rho here) (move_instruction k.rho i) (value.I8 n ∷ move_values k.rho s.top.stack) (move_state k before s)) | _ ↦ stuck (move_state k before s) ])
      (elim u [ number n ↦ required (fits_signed w64 n) s (goes here i (value.I8 n ∷ s.top.stack) s) | _ ↦ stuck s ])
  int64_by (number n) = required_lock k before _ (fits_signed w64 n) s _ _ refl (λ b. pushes_lock k before here i (value.I8 n) (value.I8 n) s (sym (move_i8 k.rho n)) c (keeps_i8 k.keep n))
  int64_by _ = stuck_lock k before s

  pub load_int64_lock : Lock k before (load_int64 after (move_here k.rho here) (move_instruction k.rho i) (move_state k before s)) (load_int64 before here i s)
  unfolding load_int64
  load_int64_lock = int64_by i.operand

  pub duplicate_lock : Lock k before (duplicate after (move_here k.rho here) (move_instruction k.rho i) (move_state k before s)) (duplicate before here i s)
  unfolding duplicate
  duplicate_lock =
      popped_lock k before s.top.stack s _ _ c.top.stack (λ v stack hv hs. goes_lock k before here i (v ∷ v ∷ stack) s c (all_push (keeps_value k.keep) v (v ∷ stack) hv (all_push (keeps_value k.keep) v stack hv hs)))

  pub pop_lock : Lock k before (pop after (move_here k.rho here) (move_instruction k.rho i) (move_state k before s)) (pop before here i s)
  unfolding pop
  pop_lock = popped_lock k before s.top.stack s _ _ c.top.stack (λ v stack hv hs. goes_lock k before here i stack s c hs)

  load_arg_by : (u : Use) → Lock k before (elim (move_operand k.rho u) [ slot n ↦ load_slot (move_here k.rho here) (move_instruction k.rho i) (move_state k before s) (move_values k.rho s.top.args) n | _ ↦ stuck (move_state k before s) ])
      (elim u [ slot n ↦ load_slot here i s s.top.args n | _ ↦ stuck s ])
  load_arg_by (slot n) = load_slot_lock s.top.args n c.top.args
  load_arg_by _ = stuck_lock k before s

  pub load_arg_lock : Lock k before (load_arg after (move_here k.rho here) (move_instruction k.rho i) (move_state k before s)) (load_arg before here i s)
  unfolding load_arg
  load_arg_lock = load_arg_by i.operand

  load_local_by : (u : Use) → Lock k before (elim (move_operand k.rho u) [ slot n ↦ load_slot (move_here k.rho here) (move_instruction k.rho i) (move_state k before s) (move_values k.rho s.top.locals) n | _ ↦ stuck (move_state k before s) ])
      (elim u [ slot n ↦ load_slot here i s s.top.locals n | _ ↦ stuck s ])
  load_local_by (slot n) = load_slot_lock s.top.locals n c.top.locals
  load_local_by _ = stuck_lock k before s

  pub load_local_lock : Lock k before (load_local after (move_here k.rho here) (move_instruction k.rho i) (move_state k before s)) (load_local before here i s)
  unfolding load_local
  load_local_lock = load_local_by i.operand

  address_arg_by : (u : Use) → Lock k before (elim (move_operand k.rho u) [ slot n ↦ address (move_here k.rho here) (move_instruction k.rho i) (move_state k before s) (move_values k.rho s.top.args) n (root.Arg s.top.number n) (arg_type after (move_here k.rho here) (move_frame k.rho s.top) n) | _ ↦ stuck (move_state k before s) ])
      (elim u [ slot n ↦ address here i s s.top.args n (root.Arg s.top.number n) (arg_type before here s.top n) | _ ↦ stuck s ])
  address_arg_by (slot n) = address_lock s.top.args n (root.Arg s.top.number n) _ _ (arg_moves n) refl
  address_arg_by _ = stuck_lock k before s

  pub address_arg_lock : Lock k before (address_arg after (move_here k.rho here) (move_instruction k.rho i) (move_state k before s)) (address_arg before here i s)
  unfolding address_arg
  address_arg_lock = address_arg_by i.operand

  address_local_by : (u : Use) → Lock k before (elim (move_operand k.rho u) [ slot n ↦ address (move_here k.rho here) (move_instruction k.rho i) (move_state k before s) (move_values k.rho s.top.locals) n (root.Local s.top.number n) (local_type after (move_here k.rho here) n) | _ ↦ stuck (move_state k before s) ])
      (elim u [ slot n ↦ address here i s s.top.locals n (root.Local s.top.number n) (local_type before here n) | _ ↦ stuck s ])
  address_local_by (slot n) = address_lock s.top.locals n (root.Local s.top.number n) _ _ (local_moves n) refl
  address_local_by _ = stuck_lock k before s

  pub address_local_lock : Lock k before (address_local after (move_here k.rho here) (move_instruction k.rho i) (move_state k before s)) (address_local before here i s)
  unfolding address_local
  address_local_lock = address_local_by i.operand

  store_arg_by : (u : Use) → Lock k before (elim (move_operand k.rho u) [ slot n ↦ store_slot after (move_here k.rho here) (move_instruction k.rho i) (move_state k before s) (move_values k.rho s.top.args) n (arg_type after (move_here k.rho here) (move_frame k.rho s.top) n) (set_arg n) | _ ↦ stuck (move_state k before s) ])
      (elim u [ slot n ↦ store_slot before here i s s.top.args n (arg_type before here s.top n) (set_arg n) | _ ↦ stuck s ])
  store_arg_by (slot n) = store_slot_lock s.top.args n set_arg _ _ (arg_moves n) args_put
  store_arg_by _ = stuck_lock k before s

  pub store_arg_lock : Lock k before (store_arg after (move_here k.rho here) (move_instruction k.rho i) (move_state k before s)) (store_arg before here i s)
  unfolding store_arg
  store_arg_lock = store_arg_by i.operand

  store_local_by : (u : Use) → Lock k before (elim (move_operand k.rho u) [ slot n ↦ store_slot after (move_here k.rho here) (move_instruction k.rho i) (move_state k before s) (move_values k.rho s.top.locals) n (local_type after (move_here k.rho here) n) (set_local n) | _ ↦ stuck (move_state k before s) ])
      (elim u [ slot n ↦ store_slot before here i s s.top.locals n (local_type before here n) (set_local n) | _ ↦ stuck s ])
  store_local_by (slot n) = store_slot_lock s.top.locals n set_local _ _ (local_moves n) locals_put
  store_local_by _ = stuck_lock k before s

  pub store_local_lock : Lock k before (store_local after (move_here k.rho here) (move_instruction k.rho i) (move_state k before s)) (store_local before here i s)
  unfolding store_local
  store_local_lock = store_local_by i.operand
