-- Loads and stores through pointers.
use Rattle.std.proofs.Common.{ℕ, List, ◌∷◌, Option, refl, sym, subst}
use Rattle.std.specs.Prelude.{IsTrue, ◌==◌}
use Rattle.std.specs.Cmp.{second_so}
use Rattle.il_base.specs.declared.opcode.TheConstants as opcode
use Rattle.il_base.specs.declared.world_model.expr.TypeExpr.{TypeExpr}
use Rattle.il_base.specs.declared.core_table.names.CoreName.TheVariants as name
use Rattle.il_base.specs.declared.cil_values.path.Path.{Path}
use Rattle.il_base.specs.declared.cil_values.value.Value.{Value, out-Value, roll-Value}
use Rattle.il_base.specs.declared.cil_values.resolved.Instruction.{Instruction}
use Rattle.il_base.specs.declared.cil_values.resolved.Use.{Use}
use Rattle.il_base.specs.declared.cil_values.resolved.Use.TheVariants.{Typ as typ}
use Rattle.il_base.specs.declared.cil_values.state.State.{State}
use Rattle.rules.specs.step_rules.Queries.{Queries}
use Rattle.rules.specs.step_rules.Next.{Next}
use Rattle.rules.specs.step_rules.Words.{Here, stuck, had, popped, goes}
use Rattle.rules.specs.step_rules.Closing.{closed}
use Rattle.rules.specs.step_rules.Stores.{Access, by_code, by_reference, access_of, allows, loaded, stored, zero_of}
use Rattle.rules.specs.step_rules.Indirect.{through, load_by, puts, store_by, copy_by, load_access, store_access, store_or_stuck, plain_access, typed_access, indirect}
use Rattle.rules.specs.change_rules.Change.{Change}
use Rattle.rules.specs.change_rules.Moves.{move_expr, move_value, move_values, move_path}
use Rattle.rules.specs.change_rules.Answers.{move_here, move_operand, move_instruction, move_access}
use Rattle.rules.specs.change_rules.States.{move_state}
use Rattle.rules.specs.change_rules.Keeps.{keeps_expr, keeps_root, keeps_path, keeps_value, keeps_values, keeps_operand}
use Rattle.rules.specs.change_rules.Covered.{Covered}
use Rattle.rules.specs.change_rules.Agree.{Agree, is_asked}
use Rattle.rules.specs.change_rules.Lock.{Lock}
use Rattle.base_laws.proofs.lemmas.change_laws.Lists.{all_push}
use Rattle.run_laws.proofs.lemmas.lock_words.Words.{stuck_lock, given_moved, had_moved, required_lock, if_lock, popped_lock, goes_lock}
use Rattle.run_laws.proofs.lemmas.lock_words.Cases.{kept_cases}
use Rattle.run_laws.proofs.lemmas.lock_throwing.Here.{KeptHere}
use Rattle.run_laws.proofs.lemmas.lock_throwing.Searching.{raise_lock}
use Rattle.run_laws.proofs.lemmas.lock_places.Options.{either}
use Rattle.run_laws.proofs.lemmas.lock_places.Closing.{closed_lock}
use Rattle.run_laws.proofs.lemmas.lock_places.Stores.{Fixed, fixed_none, fixed_code, fixed_reference, keeps_access, allows_moved, loaded_moved, loaded_kept, stored_moved, stored_kept, access_moved, access_kept, zero_moved, zero_kept}
use Rattle.run_laws.proofs.lemmas.lock_places.Places.{alive_lock, at_place_lock}
use Rattle.run_laws.proofs.lemmas.lock_places.Puts.{put_at_lock}

null_asked : IsTrue (is_asked name.NullReferenceException)
unfolding is_asked
null_asked = refl

load_fixed : (n : ℕ) → Fixed (load_access n)
unfolding load_access
load_fixed n =
    either Fixed (n == opcode.LDIND_I1) _ _ (fixed_code _)
    (either Fixed (n == opcode.LDIND_U1) _ _ (fixed_code _)
    (either Fixed (n == opcode.LDIND_I2) _ _ (fixed_code _)
    (either Fixed (n == opcode.LDIND_U2) _ _ (fixed_code _)
    (either Fixed (n == opcode.LDIND_I4) _ _ (fixed_code _)
    (either Fixed (n == opcode.LDIND_U4) _ _ (fixed_code _)
    (either Fixed (n == opcode.LDIND_I8) _ _ (fixed_code _)
    (either Fixed (n == opcode.LDIND_I) _ _ (fixed_code _)
    (either Fixed (n == opcode.LDIND_REF) _ _ fixed_reference fixed_none))))))))

store_fixed : (n : ℕ) → Fixed (store_access n)
unfolding store_access
store_fixed n =
    either Fixed (n == opcode.STIND_I1) _ _ (fixed_code _)
    (either Fixed (n == opcode.STIND_I2) _ _ (fixed_code _)
    (either Fixed (n == opcode.STIND_I4) _ _ (fixed_code _)
    (either Fixed (n == opcode.STIND_I8) _ _ (fixed_code _)
    (either Fixed (n == opcode.STIND_I) _ _ (fixed_code _)
    (either Fixed (n == opcode.STIND_REF) _ _ fixed_reference fixed_none)))))

module _ (k : Change) (after before : Queries) (a : Agree k after before) (here : Here) (i : Instruction) (s : State) (c : Covered k.keep before s) where
  through_lock : (x : Access) (f g : Path → Value → Next) → ((p : Path) (w : Value) → IsTrue (keeps_path k.keep p) → IsTrue (keeps_value k.keep w) → Lock k before (f (move_path k.rho p) (move_value k.rho w)) (g p w))
      → (v : Value) → IsTrue (keeps_value k.keep v) → Lock k before (through after (move_access k.rho x) (move_value k.rho v) (move_state k before s) f) (through before x v s g)
  unfolding through roll-Value denote.Hole.Carrier.roll out-Value denote.Hole.Carrier.out
  through_lock x f g l =
      let out : Lock k before (stuck (move_state k before s)) (stuck s) = stuck_lock k before s in
      kept_cases k (λ w v. Lock k before (through after (move_access k.rho x) w (move_state k before s) f) (through before x v s g))
      (raise_lock k after before a name.NullReferenceException null_asked s c) (λ n. out) (λ n. out) (λ n. out) (λ n. out)
      (λ p h. alive_lock k before p s _ _ (required_lock k before _ (allows before x p.of) s _ _ (allows_moved k after before a x p.of (second_so (keeps_root k.keep p.root) _ h)) (λ e.
      at_place_lock k after before a p s (f (move_path k.rho p)) (g p) c h (λ v hv. l p v h hv))))
      (λ e cells h g. out) (λ e h. out) (λ e h. out)

  load_lock : (x : Access) → Lock k before (load_by after (move_here k.rho here) (move_instruction k.rho i) (move_state k before s) (move_access k.rho x)) (load_by before here i s x)
  load_lock x =
      popped_lock k before s.top.stack s _ _ c.top.stack (λ v stack hv hs. through_lock x _ _ (λ p w hp hw.
      given_moved k before (move_value k.rho) (loaded x w) _ s _ _ (loaded_moved k x w) (λ y e.
      goes_lock k before here i (y ∷ stack) s c (all_push (keeps_value k.keep) y stack (loaded_kept k x w y hw e) hs))) v hv)

  puts_lock : (x : Access) → IsTrue (keeps_access k.keep x) → (p : Path) (v : Value) (stack : List Value) → IsTrue (keeps_path k.keep p) → IsTrue (keeps_value k.keep v) → IsTrue (keeps_values k.keep stack)
      → Lock k before (puts after (move_here k.rho here) (move_instruction k.rho i) (move_state k before s) (move_access k.rho x) (move_path k.rho p) (move_value k.rho v) (move_values k.rho stack)) (puts before here i s x p v stack)
  puts_lock x hx p v stack hp hv hs =
      given_moved k before (move_value k.rho) (stored before x p.of v) _ s _ _ (stored_moved k after before a x p.of v hx (second_so (keeps_root k.keep p.root) _ hp)) (λ w e.
      put_at_lock k after before a p w s (goes (move_here k.rho here) (move_instruction k.rho i) (move_values k.rho stack)) (goes here i stack) c hp (stored_kept k after before a x p.of v w hv e)
      (λ t ct. goes_lock k before here i stack t ct hs))

  store_lock : (x : Access) → IsTrue (keeps_access k.keep x) → Lock k before (store_by after (move_here k.rho here) (move_instruction k.rho i) (move_state k before s) (move_access k.rho x)) (store_by before here i s x)
  store_lock x hx =
      popped_lock k before s.top.stack s _ _ c.top.stack (λ v below hv hb. popped_lock k before below s _ _ hb (λ r stack hr hs.
      through_lock x _ _ (λ p w hp hw. puts_lock x hx p v stack hp hv hs) r hr))

  copy_lock : (x : Access) → IsTrue (keeps_access k.keep x) → Lock k before (copy_by after (move_here k.rho here) (move_instruction k.rho i) (move_state k before s) (move_access k.rho x)) (copy_by before here i s x)
  copy_lock x hx =
      popped_lock k before s.top.stack s _ _ c.top.stack (λ from below hf hb. popped_lock k before below s _ _ hb (λ to stack ht hs.
      through_lock x _ _ (λ p w hp hw. through_lock x _ _ (λ o v ho hv.
      given_moved k before (move_value k.rho) (loaded x v) _ s _ _ (loaded_moved k x v) (λ y e. puts_lock x hx p y stack hp (loaded_kept k x v y hv e) hs)) from hf) to ht))

  init_lock : (e : TypeExpr) → IsTrue (keeps_expr k.keep e) → (x : Access) → IsTrue (keeps_access k.keep x)
      → Lock k before (had (zero_of after (move_expr k.rho e)) (move_state k before s) (λ zero. popped (move_values k.rho s.top.stack) (move_state k before s) (λ r stack.
      through after (move_access k.rho x) r (move_state k before s) (λ p old. puts after (move_here k.rho here) (move_instruction k.rho i) (move_state k before s) (move_access k.rho x) p zero stack))))
      (had (zero_of before e) s (λ zero. popped s.top.stack s (λ r stack. through before x r s (λ p old. puts before here i s x p zero stack))))
  init_lock e h x hx =
      had_moved k before (move_value k.rho) (zero_of before e) _ s _ _ (zero_moved k after before a e h) (λ zero is.
      popped_lock k before s.top.stack s _ _ c.top.stack (λ r stack hr hs. through_lock x _ _ (λ p w hp hw. puts_lock x hx p zero stack hp (zero_kept k after before a e zero h is) hs) r hr))

  -- ---- by opcode

  store_plain : {o : Option Access} → Fixed o → Lock k before (store_or_stuck after (move_here k.rho here) (move_instruction k.rho i) (move_state k before s) o) (store_or_stuck before here i s o)
  store_plain fixed_none = stuck_lock k before s
  store_plain (fixed_code n) = store_lock (by_code n) refl
  store_plain fixed_reference = store_lock by_reference refl

  load_plain : {o : Option Access} → Fixed o → Lock k before (plain_access after (move_here k.rho here) (move_instruction k.rho i) (move_state k before s) o) (plain_access before here i s o)
  load_plain fixed_none = store_plain (store_fixed i.opcode)
  load_plain (fixed_code n) = load_lock (by_code n)
  load_plain fixed_reference = load_lock by_reference

  by_access : (e : TypeExpr) → IsTrue (keeps_expr k.keep e) → (f g : Access → Next) → ((x : Access) → IsTrue (keeps_access k.keep x) → Lock k before (f (move_access k.rho x)) (g x))
      → Lock k before (f (access_of after (move_expr k.rho e))) (g (access_of before e))
  by_access e h f g l =
      subst (λ (x : Access). Lock k before (f x) (g (access_of before e))) (sym (access_moved k after before a e h)) (l (access_of before e) (access_kept k after before a e h))

  typed_lock : (e : TypeExpr) → IsTrue (keeps_expr k.keep e)
      → Lock k before (typed_access after (move_here k.rho here) (move_instruction k.rho i) (move_state k before s) (move_expr k.rho e)) (typed_access before here i s e)
  typed_lock e h =
      if_lock k before _ (i.opcode == opcode.LDOBJ) _ _ _ _ refl
      (λ y. by_access e h (load_by after (move_here k.rho here) (move_instruction k.rho i) (move_state k before s)) (load_by before here i s) (λ x hx. load_lock x)) (λ y.
      if_lock k before _ (i.opcode == opcode.STOBJ) _ _ _ _ refl
      (λ z. by_access e h (store_by after (move_here k.rho here) (move_instruction k.rho i) (move_state k before s)) (store_by before here i s) store_lock) (λ z.
      if_lock k before _ (i.opcode == opcode.CPOBJ) _ _ _ _ refl
      (λ w. by_access e h (copy_by after (move_here k.rho here) (move_instruction k.rho i) (move_state k before s)) (copy_by before here i s) copy_lock) (λ w.
      if_lock k before _ (i.opcode == opcode.INITOBJ) _ _ _ _ refl
      (λ v. by_access e h
      (λ x. had (zero_of after (move_expr k.rho e)) (move_state k before s) (λ zero. popped (move_values k.rho s.top.stack) (move_state k before s) (λ r stack.
      through after x r (move_state k before s) (λ p old. puts after (move_here k.rho here) (move_instruction k.rho i) (move_state k before s) x p zero stack))))
      (λ x. had (zero_of before e) s (λ zero. popped s.top.stack s (λ r stack. through before x r s (λ p old. puts before here i s x p zero stack))))
      (λ x hx. init_lock e h x hx))
      (λ v. stuck_lock k before s))))

  module _ (r : KeptHere k.keep before here) where
    indirect_by : (u : Use) → IsTrue (keeps_operand k.keep before u)
        → Lock k before (elim (move_operand k.rho u) [ typ e ↦ closed after (move_here k.rho here) e (move_state k before s) (typed_access after (move_here k.rho here) (move_instruction k.rho i) (move_state k before s)) | _ ↦ plain_access after (move_here k.rho here) (move_instruction k.rho i) (move_state k before s) (load_access i.opcode) ])
        (elim u [ typ e ↦ closed before here e s (typed_access before here i s) | _ ↦ plain_access before here i s (load_access i.opcode) ])
    indirect_by (typ o) h = closed_lock k after before a here r s o _ _ h (λ e d is at hd. typed_lock d hd)
    indirect_by _ h = load_plain (load_fixed i.opcode)

    pub indirect_lock : IsTrue (keeps_operand k.keep before i.operand) → Lock k before (indirect after (move_here k.rho here) (move_instruction k.rho i) (move_state k before s)) (indirect before here i s)
    unfolding indirect
    indirect_lock h = indirect_by i.operand h
