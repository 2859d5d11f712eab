-- Operands with the running method's arguments put in.
use Rattle.std.proofs.Common.{◌≡◌, Bool, true, false, ◌&&◌, List, length, Option, Some, None, refl, ap, subst, ◌∙◌}
use Rattle.std.specs.Prelude.{IsTrue, nat_eq, if◌then◌else◌}
use Rattle.std.specs.List.{list_all}
use Rattle.std.specs.Option.{option_map, option_and_then}
use Rattle.std.specs.Cmp.{first_so, second_so}
use Rattle.std.proofs.lemmas.Bool.{and_from}
use Rattle.std.proofs.lemmas.List.{length-map}
use Rattle.il_base.specs.declared.world_model.known.Known.{Known}
use Rattle.il_base.specs.declared.world_model.known.Known.TheVariants.{Good, Bad}
use Rattle.il_base.specs.world_model.Worlds.{known_map}
use Rattle.il_base.specs.declared.world_model.expr.TypeExpr.{TypeExpr}
use Rattle.il_base.specs.declared.world_model.expr.MethodUse.{MethodUse}
use Rattle.il_base.specs.declared.world_model.expr.FieldUse.{FieldUse}
use Rattle.il_base.specs.world_model.Exprs as exprs
use Rattle.il_base.specs.declared.cil_values.definition.Method.{Method}
use Rattle.il_base.specs.declared.cil_values.definition.Signature.{Signature}
use Rattle.il_base.specs.declared.cil_values.definition.FieldDef.{FieldDef}
use Rattle.il_base.specs.declared.cil_values.state.State.{State}
use Rattle.rules.specs.step_rules.Queries.{Queries}
use Rattle.rules.specs.step_rules.Next.{Next}
use Rattle.rules.specs.step_rules.Words.{Here, good, args_of}
use Rattle.rules.specs.step_rules.Closing.{plain, closed_return, closed_slot, closed_cell, closed_arg, all_of, closed, closed_element, Callee, closed_params, with_types, closed_signature, callee_with, callee_of, closed_method_use, closed_use, Accessed, accessed, accessed_use, closed_field}
use Rattle.rules.specs.change_rules.Change.{Keep, Change}
use Rattle.rules.specs.change_rules.Moves.{move_expr, move_exprs, move_use, move_field_use}
use Rattle.rules.specs.change_rules.Answers.{move_signature, move_method, move_field, move_here, move_callee, move_accessed}
use Rattle.rules.specs.change_rules.States.{move_state}
use Rattle.rules.specs.change_rules.Keeps.{keeps_expr, shows_expr, can_call, keeps_use, if_good, keeps_signature, keeps_method, keeps_field}
use Rattle.rules.specs.change_rules.Agree.{Agree}
use Rattle.rules.specs.change_rules.Lock.{Lock}
use Rattle.run_laws.proofs.lemmas.lock_words.Words.{stopped_lock, had_moved}
use Rattle.run_laws.proofs.lemmas.lock_words.Types.{closed_return_moved, closed_return_kept, closed_slot_moved, closed_slot_is, closed_slot_kept, closed_cell_moved, closed_cell_is, closed_cell_kept, closed_arg_moved, closed_arg_shown}
use Rattle.run_laws.proofs.lemmas.lock_words.Definitions.{args_moved, args_shown}
use Rattle.run_laws.proofs.lemmas.lock_throwing.Objects.{shown_kept}
use Rattle.run_laws.proofs.lemmas.lock_throwing.Here.{KeptHere}
use Rattle.run_laws.proofs.lemmas.lock_places.Options.{Through, through_is, Made, made_is, if_is, all_of_moved, all_of_kept}

pub weaker : {A : Type 0} (p q : A → Bool) → ((x : A) → IsTrue (p x) → IsTrue (q x)) → (o : Known A) → IsTrue (if_good p o) → IsTrue (if_good q o)
weaker p q f (Good x) h = f x h
weaker p q f (Bad why) h = refl

-- ---- uses and callees

pub use_call : (k : Keep) (u : MethodUse) → IsTrue (keeps_use k u) → IsTrue (can_call k u.method.0)
use_call k u h = first_so _ _ (first_so _ (list_all (shows_expr k) u.args) h)

pub use_called : (k : Keep) (u : MethodUse) → IsTrue (keeps_use k u) → IsTrue (k.called u.method.0)
use_called k u h = second_so (k.method u.method.0) (k.called u.method.0) (use_call k u h)

pub use_method : (k : Keep) (u : MethodUse) → IsTrue (keeps_use k u) → IsTrue (k.method u.method.0)
use_method k u h = first_so (k.method u.method.0) (k.called u.method.0) (use_call k u h)

pub use_owner : (k : Keep) (u : MethodUse) → IsTrue (keeps_use k u) → IsTrue (keeps_expr k u.owner)
use_owner k u h = second_so _ _ (first_so _ (list_all (shows_expr k) u.args) h)

pub use_args : (k : Keep) (u : MethodUse) → IsTrue (keeps_use k u) → IsTrue (list_all (shows_expr k) u.args)
use_args k u h = second_so _ (list_all (shows_expr k) u.args) h

pub use_from : (k : Keep) (u : MethodUse) → IsTrue (can_call k u.method.0) → IsTrue (keeps_expr k u.owner) → IsTrue (list_all (shows_expr k) u.args) → IsTrue (keeps_use k u)
use_from k u m o args = and_from _ (list_all (shows_expr k) u.args) (and_from (can_call k u.method.0) (keeps_expr k u.owner) m o) args

pub record KeptCallee (k : Keep) (q : Queries) (c : Callee) : Type 0 where
  pub named : IsTrue (keeps_use k c.called)
  pub method : IsTrue (keeps_method k q c.method)
  pub signature : IsTrue (keeps_signature k c.signature)

pub record KeptAccessed (k : Keep) (q : Queries) (x : Accessed) : Type 0 where
  pub id : IsTrue (k.field x.id)
  pub owner : IsTrue (keeps_expr k x.owner)
  pub field : IsTrue (keeps_field k x.field)
  pub there : q.field x.id ≡ Some x.field

module _ (k : Change) (after before : Queries) (a : Agree k after before) where
  module _ (u : MethodUse) (h : IsTrue (keeps_use k.keep u)) where
    targs_shown : IsTrue (list_all (shows_expr k.keep) (args_of u.owner))
    targs_shown = args_shown k.keep u.owner (use_owner k.keep u h)

    margs_shown : IsTrue (list_all (shows_expr k.keep) u.args)
    margs_shown = use_args k.keep u h

    params_moved : (sig : Signature) → IsTrue (keeps_signature k.keep sig) → closed_params after (move_use k.rho u) (move_signature k.rho sig) ≡ option_map (move_exprs k.rho) (closed_params before u sig)
    params_moved sig s =
        ap (λ (ts : List TypeExpr). all_of (closed_slot after ts (move_exprs k.rho u.args)) (move_exprs k.rho sig.params)) (args_moved k.rho u.owner)
        ∙ all_of_moved (move_expr k.rho) (move_expr k.rho) (closed_slot before (args_of u.owner) u.args) (closed_slot after (move_exprs k.rho (args_of u.owner)) (move_exprs k.rho u.args)) (keeps_expr k.keep)
        (λ e he. closed_slot_moved k after before a (args_of u.owner) u.args targs_shown margs_shown e he) sig.params (first_so (list_all (keeps_expr k.keep) sig.params) _ s)

    return_moved : (sig : Signature) → IsTrue (keeps_signature k.keep sig)
        → closed_return after (args_of (move_expr k.rho u.owner)) (move_exprs k.rho u.args) (move_expr k.rho sig.ret) ≡ option_map (move_expr k.rho) (closed_return before (args_of u.owner) u.args sig.ret)
    return_moved sig s =
        ap (λ (ts : List TypeExpr). closed_return after ts (move_exprs k.rho u.args) (move_expr k.rho sig.ret)) (args_moved k.rho u.owner)
        ∙ closed_return_moved k after before a (args_of u.owner) u.args targs_shown margs_shown sig.ret (second_so (list_all (keeps_expr k.keep) sig.params) _ s)

    types_by : (sig : Signature) (ps : Option (List TypeExpr)) (r : Option TypeExpr)
        → option_and_then (λ params. option_map (with_types (move_signature k.rho sig) params) (option_map (move_expr k.rho) r)) (option_map (move_exprs k.rho) ps)
        ≡ option_map (move_signature k.rho) (option_and_then (λ params. option_map (with_types sig params) r) ps)
    types_by sig None r = refl
    types_by sig (Some ps) None = refl
    types_by sig (Some ps) (Some r) = refl

    pub signature_moved : (sig : Signature) → IsTrue (keeps_signature k.keep sig) → closed_signature after (move_use k.rho u) (move_signature k.rho sig) ≡ option_map (move_signature k.rho) (closed_signature before u sig)
    unfolding closed_signature
    signature_moved sig s =
        (λ i. option_and_then (λ params. option_map (with_types (move_signature k.rho sig) params) (return_moved sig s i)) (params_moved sig s i))
        ∙ types_by sig (closed_params before u sig) (closed_return before (args_of u.owner) u.args sig.ret)

    pub signature_kept : (sig new : Signature) → IsTrue (keeps_signature k.keep sig) → closed_signature before u sig ≡ Some new → IsTrue (keeps_signature k.keep new)
    unfolding closed_signature
    signature_kept sig new s e =
        let t : Through (λ params. option_map (with_types sig params) (closed_return before (args_of u.owner) u.args sig.ret)) (closed_params before u sig) new = through_is _ _ _ e in
        let r : Made (with_types sig t.x) (closed_return before (args_of u.owner) u.args sig.ret) new = made_is _ _ _ t.is in
        subst (λ (g : Signature). IsTrue (keeps_signature k.keep g)) r.is
        (and_from (list_all (keeps_expr k.keep) t.x) (keeps_expr k.keep r.x)
        (all_of_kept (closed_slot before (args_of u.owner) u.args) (keeps_expr k.keep) (keeps_expr k.keep)
        (λ e c he is. closed_slot_kept k after before a (args_of u.owner) u.args targs_shown margs_shown e c he is) sig.params t.x (first_so (list_all (keeps_expr k.keep) sig.params) _ s) t.there)
        (closed_return_kept k after before a (args_of u.owner) u.args targs_shown margs_shown sig.ret r.x (second_so (list_all (keeps_expr k.keep) sig.params) _ s) r.there))

    abbrev with_sig : Method → Signature → Callee
    with_sig m types = record { called = u; method = m; signature = types }

    with_by : (b : Bool) (m : Method) (o : Option Signature)
        → (if b then option_map (λ types. record { called = move_use k.rho u; method = move_method k.rho m; signature = types }) (option_map (move_signature k.rho) o) else None)
        ≡ option_map (move_callee k.rho) (if b then option_map (λ types. record { called = u; method = m; signature = types }) o else None)
    with_by true m None = refl
    with_by true m (Some sig) = refl
    with_by false m o = refl

    callee_with_moved : (m : Method) (sig : Signature) → IsTrue (keeps_signature k.keep sig)
        → callee_with after (move_use k.rho u) (move_method k.rho m) (move_signature k.rho sig) ≡ option_map (move_callee k.rho) (callee_with before u m sig)
    callee_with_moved m sig s =
        (λ i. if nat_eq (length-map u.args (move_expr k.rho) i) sig.own
        then option_map (λ types. record { called = move_use k.rho u; method = move_method k.rho m; signature = types }) (signature_moved sig s i) else None)
        ∙ with_by (nat_eq (length u.args) sig.own) m (closed_signature before u sig)

    known_callee : (m : Method) (o : Known Signature) → IsTrue (if_good (keeps_signature k.keep) o)
        → option_and_then (callee_with after (move_use k.rho u) (move_method k.rho m)) (good (known_map (move_signature k.rho) o)) ≡ option_map (move_callee k.rho) (option_and_then (callee_with before u m) (good o))
    known_callee m (Good sig) s = callee_with_moved m sig s
    known_callee m (Bad why) s = refl

    abbrev method_callee : Queries → MethodUse → Method → Option Callee
    method_callee q v m = option_and_then (callee_with q v m) (good m.signature)

    sig_kept : (m : Method) → IsTrue (keeps_method k.keep before m) → IsTrue (if_good (keeps_signature k.keep) m.signature)
    sig_kept m h = second_so _ (if_good (keeps_signature k.keep) m.signature) (first_so _ _ h)

    callee_by : (o : Option Method) → before.method u.method.0 ≡ o
        → option_and_then (λ (m : Method). method_callee after (move_use k.rho u) m) (option_map (move_method k.rho) o) ≡ option_map (move_callee k.rho) (option_and_then (λ (m : Method). method_callee before u m) o)
    callee_by None e = refl
    callee_by (Some m) e = known_callee m m.signature (sig_kept m (a.keeps_methods u.method.0 m (use_method k.keep u h) e))

    pub callee_moved : callee_of after (move_use k.rho u) ≡ option_map (move_callee k.rho) (callee_of before u)
    unfolding callee_of
    callee_moved =
        ap (option_and_then (λ (m : Method). method_callee after (move_use k.rho u) m)) (a.method u.method.0 (use_method k.keep u h)) ∙ callee_by (before.method u.method.0) refl

    good_is : (o : Known Signature) (sig : Signature) → good o ≡ Some sig → IsTrue (if_good (keeps_signature k.keep) o) → IsTrue (keeps_signature k.keep sig)
    good_is (Good x) sig e h = let is : x ≡ sig = cc in subst (λ (g : Signature). IsTrue (keeps_signature k.keep g)) is h
    good_is (Bad why) sig e h = cc

    pub record CalleeOf (c : Callee) : Type 0 where
      pub called : u ≡ c.called
      pub kept : KeptCallee k.keep before c
      pub there : before.method u.method.0 ≡ Some c.method

    pub callee_kept : (c : Callee) → callee_of before u ≡ Some c → CalleeOf c
    unfolding callee_of
    callee_kept c e =
        let t : Through (λ (m : Method). method_callee before u m) (before.method u.method.0) c = through_is _ _ _ e in
        let g : Through (callee_with before u t.x) (good t.x.signature) c = through_is _ _ _ t.is in
        let m : Made (with_sig t.x) (closed_signature before u g.x) c = made_is _ _ _ (if_is _ _ _ g.is) in
        let km : IsTrue (keeps_method k.keep before t.x) = a.keeps_methods u.method.0 t.x (use_method k.keep u h) t.there in
        subst CalleeOf m.is (record {
          called = refl;
          kept = record { named = h; method = km; signature = signature_kept g.x m.x (good_is t.x.signature g.x g.there (sig_kept t.x km)) m.there };
          there = t.there;
        })

  -- ---- in the running method

  module _ (here : Here) (r : KeptHere k.keep before here) (s : State) where
    abbrev pub Closed : TypeExpr → TypeExpr
    Closed e = plain (exprs.subst here.targs here.margs e)

    pub closed_lock : (o : Known TypeExpr) (f g : TypeExpr → Next) → IsTrue (if_good (keeps_expr k.keep) o)
        → ((e c : TypeExpr) → o ≡ Good e → Closed e ≡ c → IsTrue (keeps_expr k.keep c) → Lock k before (f (move_expr k.rho c)) (g c))
        → Lock k before (closed after (move_here k.rho here) (known_map (move_expr k.rho) o) (move_state k before s) f) (closed before here o s g)
    unfolding closed
    closed_lock (Good e) f g h l =
        had_moved k before (move_expr k.rho) (closed_slot before here.targs here.margs e) _ s f g (closed_slot_moved k after before a here.targs here.margs r.targs r.margs e h) (λ c is.
        l e c refl (closed_slot_is k after before a here.targs here.margs r.targs r.margs e c is) (closed_slot_kept k after before a here.targs here.margs r.targs r.margs e c h is))
    closed_lock (Bad why) f g h l = stopped_lock k before s

    pub closed_element_lock : (o : Known TypeExpr) (f g : TypeExpr → Next) → IsTrue (if_good (keeps_expr k.keep) o)
        → ((e c : TypeExpr) → o ≡ Good e → Closed e ≡ c → IsTrue (keeps_expr k.keep c) → Lock k before (f (move_expr k.rho c)) (g c))
        → Lock k before (closed_element after (move_here k.rho here) (known_map (move_expr k.rho) o) (move_state k before s) f) (closed_element before here o s g)
    unfolding closed_element
    closed_element_lock (Good e) f g h l =
        had_moved k before (move_expr k.rho) (closed_cell before here.targs here.margs e) _ s f g (closed_cell_moved k after before a here.targs here.margs r.targs r.margs e h) (λ c is.
        l e c refl (closed_cell_is k after before a here.targs here.margs r.targs r.margs e c is) (closed_cell_kept k after before a here.targs here.margs r.targs r.margs e c h is))
    closed_element_lock (Bad why) f g h l = stopped_lock k before s

    -- ---- methods

    abbrev with_owner : MethodUse → TypeExpr → List TypeExpr → MethodUse
    with_owner u owner args = record u { owner = owner; args = args }

    use_by : (u : MethodUse) (o : Option TypeExpr) (args : Option (List TypeExpr))
        → option_and_then (λ owner. option_map (λ args. record (move_use k.rho u) { owner = owner; args = args }) (option_map (move_exprs k.rho) args)) (option_map (move_expr k.rho) o)
        ≡ option_map (move_use k.rho) (option_and_then (λ owner. option_map (λ args. record u { owner = owner; args = args }) args) o)
    use_by u None args = refl
    use_by u (Some owner) None = refl
    use_by u (Some owner) (Some args) = refl

    use_args_moved : (u : MethodUse) → IsTrue (keeps_use k.keep u)
        → all_of (closed_arg after (move_exprs k.rho here.targs) (move_exprs k.rho here.margs)) (move_exprs k.rho u.args) ≡ option_map (move_exprs k.rho) (all_of (closed_arg before here.targs here.margs) u.args)
    use_args_moved u h =
        all_of_moved (move_expr k.rho) (move_expr k.rho) (closed_arg before here.targs here.margs) (closed_arg after (move_exprs k.rho here.targs) (move_exprs k.rho here.margs)) (shows_expr k.keep)
        (λ e he. closed_arg_moved k after before a here.targs here.margs r.targs r.margs e (shown_kept k.keep e he)) u.args (use_args k.keep u h)

    method_use_moved : (u : MethodUse) → IsTrue (keeps_use k.keep u) → closed_method_use after (move_here k.rho here) (move_use k.rho u) ≡ option_map (move_use k.rho) (closed_method_use before here u)
    unfolding closed_method_use
    method_use_moved u h =
        (λ i. option_and_then (λ owner. option_map (λ args. record (move_use k.rho u) { owner = owner; args = args }) (use_args_moved u h i)) (closed_cell_moved k after before a here.targs here.margs r.targs r.margs u.owner (use_owner k.keep u h) i))
        ∙ use_by u (closed_cell before here.targs here.margs u.owner) (all_of (closed_arg before here.targs here.margs) u.args)

    record ClosedUse (u v : MethodUse) : Type 0 where
      method : u.method ≡ v.method
      owner : Closed u.owner ≡ v.owner
      kept : IsTrue (keeps_use k.keep v)

    method_use_kept : (u v : MethodUse) → IsTrue (keeps_use k.keep u) → closed_method_use before here u ≡ Some v → ClosedUse u v
    unfolding closed_method_use
    method_use_kept u v h e =
        let t : Through (λ owner. option_map (with_owner u owner) (all_of (closed_arg before here.targs here.margs) u.args)) (closed_cell before here.targs here.margs u.owner) v = through_is _ _ _ e in
        let m : Made (with_owner u t.x) (all_of (closed_arg before here.targs here.margs) u.args) v = made_is _ _ _ t.is in
        subst (ClosedUse u) m.is (record {
          method = refl;
          owner = closed_cell_is k after before a here.targs here.margs r.targs r.margs u.owner t.x t.there;
          kept = use_from k.keep (with_owner u t.x m.x) (use_call k.keep u h)
              (closed_cell_kept k after before a here.targs here.margs r.targs r.margs u.owner t.x (use_owner k.keep u h) t.there)
              (all_of_kept (closed_arg before here.targs here.margs) (shows_expr k.keep) (shows_expr k.keep)
              (λ e c he is. closed_arg_shown k after before a here.targs here.margs r.targs r.margs e c he is) u.args m.x (use_args k.keep u h) m.there);
        })

    pub callees_moved : (o : Option MethodUse) → ((v : MethodUse) → o ≡ Some v → IsTrue (keeps_use k.keep v))
        → option_and_then (callee_of after) (option_map (move_use k.rho) o) ≡ option_map (move_callee k.rho) (option_and_then (callee_of before) o)
    callees_moved None h = refl
    callees_moved (Some v) h = callee_moved v (h v refl)

    pub closed_use_lock : (o : Known MethodUse) (f g : Callee → Next) → IsTrue (if_good (keeps_use k.keep) o)
        → ((u : MethodUse) (c : Callee) → o ≡ Good u → u.method ≡ c.called.method → Closed u.owner ≡ c.called.owner → KeptCallee k.keep before c → Lock k before (f (move_callee k.rho c)) (g c))
        → Lock k before (closed_use after (move_here k.rho here) (known_map (move_use k.rho) o) (move_state k before s) f) (closed_use before here o s g)
    unfolding closed_use
    closed_use_lock (Good u) f g h l =
        had_moved k before (move_callee k.rho) (option_and_then (callee_of before) (closed_method_use before here u)) _ s f g
        (ap (option_and_then (callee_of after)) (method_use_moved u h) ∙ callees_moved (closed_method_use before here u) (λ v is. (method_use_kept u v h is).kept))
        (λ c is.
        let t : Through (callee_of before) (closed_method_use before here u) c = through_is _ _ _ is in
        let v : ClosedUse u t.x = method_use_kept u t.x h t.there in
        let w : CalleeOf t.x v.kept c = callee_kept t.x v.kept c t.is in
        l u c refl (v.method ∙ ap (λ (m : MethodUse). m.method) w.called) (v.owner ∙ ap (λ (m : MethodUse). m.owner) w.called) w.kept)
    closed_use_lock (Bad why) f g h l = stopped_lock k before s

    -- ---- fields

    abbrev keeps_named : FieldUse → Bool
    keeps_named u = k.keep.field u.field.0 && keeps_expr k.keep u.owner

    accessed_by : (u : FieldUse) (o : Option TypeExpr) (d : Option FieldDef)
        → option_and_then (λ owner. option_map (accessed (k.rho.field u.field.0) owner) (option_map (move_field k.rho) d)) (option_map (move_expr k.rho) o)
        ≡ option_map (move_accessed k.rho) (option_and_then (λ owner. option_map (accessed u.field.0 owner) d) o)
    accessed_by u None d = refl
    accessed_by u (Some owner) None = refl
    accessed_by u (Some owner) (Some d) = refl

    accessed_moved : (u : FieldUse) → IsTrue (keeps_named u) → accessed_use after (move_here k.rho here) (move_field_use k.rho u) ≡ option_map (move_accessed k.rho) (accessed_use before here u)
    unfolding accessed_use
    accessed_moved u h =
        (λ i. option_and_then (λ owner. option_map (accessed (k.rho.field u.field.0) owner) (a.field u.field.0 (first_so (k.keep.field u.field.0) (keeps_expr k.keep u.owner) h) i))
        (closed_cell_moved k after before a here.targs here.margs r.targs r.margs u.owner (second_so (k.keep.field u.field.0) (keeps_expr k.keep u.owner) h) i))
        ∙ accessed_by u (closed_cell before here.targs here.margs u.owner) (before.field u.field.0)

    pub record AccessedOf (u : FieldUse) (x : Accessed) : Type 0 where
      pub owner : Closed u.owner ≡ x.owner
      pub id : u.field.0 ≡ x.id
      pub kept : KeptAccessed k.keep before x

    accessed_kept : (u : FieldUse) (x : Accessed) → IsTrue (keeps_named u) → accessed_use before here u ≡ Some x → AccessedOf u x
    unfolding accessed_use
    accessed_kept u x h e =
        let t : Through (λ owner. option_map (accessed u.field.0 owner) (before.field u.field.0)) (closed_cell before here.targs here.margs u.owner) x = through_is _ _ _ e in
        let m : Made (accessed u.field.0 t.x) (before.field u.field.0) x = made_is _ _ _ t.is in
        let id : IsTrue (k.keep.field u.field.0) = first_so (k.keep.field u.field.0) (keeps_expr k.keep u.owner) h in
        subst (AccessedOf u) m.is (record {
          owner = closed_cell_is k after before a here.targs here.margs r.targs r.margs u.owner t.x t.there;
          id = refl;
          kept = record {
            id = id;
            owner = closed_cell_kept k after before a here.targs here.margs r.targs r.margs u.owner t.x (second_so (k.keep.field u.field.0) (keeps_expr k.keep u.owner) h) t.there;
            field = a.keeps_fields u.field.0 m.x id m.there;
            there = m.there;
          };
        })

    pub closed_field_lock : (o : Known FieldUse) (f g : Accessed → Next) → IsTrue (if_good keeps_named o)
        → ((u : FieldUse) (x : Accessed) → o ≡ Good u → AccessedOf u x → Lock k before (f (move_accessed k.rho x)) (g x))
        → Lock k before (closed_field after (move_here k.rho here) (known_map (move_field_use k.rho) o) (move_state k before s) f) (closed_field before here o s g)
    unfolding closed_field
    closed_field_lock (Good u) f g h l =
        had_moved k before (move_accessed k.rho) (accessed_use before here u) _ s f g (accessed_moved u h) (λ x is. l u x refl (accessed_kept u x h is))
    closed_field_lock (Bad why) f g h l = stopped_lock k before s
