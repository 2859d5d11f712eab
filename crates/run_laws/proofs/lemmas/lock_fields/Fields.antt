-- Instance fields, and the forms on fields.
use Rattle.std.proofs.Common.{◌≡◌, ℕ, Bool, true, ◌&&◌, ◌||◌, not, List, ◌∷◌, Option, Some, None, refl, sym, ap, subst, ◌∙◌}
use Rattle.std.specs.Prelude.{IsTrue, slice_get, ◌==◌}
use Rattle.std.specs.Option.{option_map}
use Rattle.std.specs.Cmp.{first_so, second_so}
use Rattle.std.proofs.lemmas.Bool.{and_from}
use Rattle.std.proofs.lemmas.Option.{slice_get-map}
use Rattle.il_base.specs.declared.opcode.TheConstants.{LDFLD, LDFLDA, STFLD, LDSFLD, LDSFLDA, STSFLD}
use Rattle.il_base.specs.declared.field_flags.TheConstants.{STATIC}
use Rattle.il_base.specs.Flags.{has_flag}
use Rattle.il_base.specs.declared.world_model.known.Known.{Known}
use Rattle.il_base.specs.declared.world_model.known.Known.TheVariants.{Good}
use Rattle.il_base.specs.declared.world_model.expr.FieldUse.{FieldUse}
use Rattle.il_base.specs.world_model.Exprs.{same_expr}
use Rattle.il_base.specs.declared.core_table.names.CoreName.TheVariants as name
use Rattle.il_base.specs.declared.cil_values.path.Path.{Path}
use Rattle.il_base.specs.declared.cil_values.value.Value.{Value, out-Value, roll-Value}
use Rattle.il_base.specs.declared.cil_values.value.Value.TheVariants as value
use Rattle.il_base.specs.declared.cil_values.object.Obj.{Obj}
use Rattle.il_base.specs.declared.cil_values.object.Obj.TheVariants as object
use Rattle.il_base.specs.declared.cil_values.layout.Layout.{Layout}
use Rattle.il_base.specs.declared.cil_values.definition.FieldDef.{FieldDef}
use Rattle.il_base.specs.declared.cil_values.resolved.Instruction.{Instruction}
use Rattle.il_base.specs.declared.cil_values.resolved.Use.{Use}
use Rattle.il_base.specs.declared.cil_values.resolved.Use.TheVariants as used
use Rattle.il_base.specs.declared.cil_values.state.State.{State}
use Rattle.rules.specs.step_rules.Queries.{Queries}
use Rattle.rules.specs.step_rules.Next.{Next}
use Rattle.rules.specs.step_rules.Words.{Here, stuck, goes, object_at}
use Rattle.rules.specs.step_rules.Closing.{Accessed, closed_field}
use Rattle.rules.specs.step_rules.Stores.{Parts, parts_of, fits}
use Rattle.rules.specs.step_rules.Objects.{is_a}
use Rattle.rules.specs.step_rules.Places.{at_place}
use Rattle.rules.specs.step_rules.Fields.{is_static, cell_for, layout_of, StructCell, struct_cell, into_struct, box_path, instance_path, object_field, field_of_object, field_of_pointer, field_place, load_part, load_from, load_field, address_field, store_field, access, may_access, accesses, field_form}
use Rattle.rules.specs.change_rules.Change.{Change}
use Rattle.rules.specs.change_rules.Moves.{move_value, move_values, move_path}
use Rattle.rules.specs.change_rules.Answers.{move_layout, move_parts, move_here, move_operand, move_instruction, move_accessed}
use Rattle.rules.specs.change_rules.States.{move_obj, move_state}
use Rattle.rules.specs.change_rules.Keeps as keeps
use Rattle.rules.specs.change_rules.Keeps.{keeps_expr, keeps_root, keeps_path, keeps_value, keeps_values, begins_expr, if_good, keeps_accessed, keeps_operand}
use Rattle.rules.specs.change_rules.Covered.{keeps_obj, Covered}
use Rattle.rules.specs.change_rules.Agree.{Agree, is_asked}
use Rattle.rules.specs.change_rules.Lock.{Lock}
use Rattle.base_laws.proofs.lemmas.change_laws.Same.{same_exprs_moved}
use Rattle.base_laws.proofs.lemmas.change_laws.Lists.{all_push, all_at}
use Rattle.base_laws.proofs.lemmas.change_laws.Values.{parts_moved, move_pointer, keeps_pointer}
use Rattle.run_laws.proofs.lemmas.lock_words.Words.{stuck_lock, given_moved, had_moved, required_lock, if_lock, popped_lock, goes_lock, push_lock}
use Rattle.run_laws.proofs.lemmas.lock_words.Cases.{kept_cases}
use Rattle.run_laws.proofs.lemmas.lock_words.Definitions.{Begins, begins_closed}
use Rattle.run_laws.proofs.lemmas.lock_words.Fits.{fits_moved, fits_kept}
use Rattle.run_laws.proofs.lemmas.lock_throwing.Objects.{made_kept, object_moved, object_kept, is_a_moved}
use Rattle.run_laws.proofs.lemmas.lock_throwing.Here.{KeptHere}
use Rattle.run_laws.proofs.lemmas.lock_throwing.Searching.{raise_lock}
use Rattle.run_laws.proofs.lemmas.lock_places.Options.{Made, made_is, some_is}
use Rattle.run_laws.proofs.lemmas.lock_places.Closing.{KeptAccessed, AccessedOf, closed_field_lock, weaker}
use Rattle.run_laws.proofs.lemmas.lock_places.Places.{KeptParts, parts_kept, alive_lock, at_place_lock}
use Rattle.run_laws.proofs.lemmas.lock_places.Puts.{put_at_lock}
use Rattle.run_laws.proofs.lemmas.lock_frames.Entering.{started_lock}
use Rattle.run_laws.proofs.lemmas.lock_fields.Layouts.{move_struct_cell, struct_cell_moved, struct_cell_kept, instance_layout_moved, instance_layout_kept}
use Rattle.run_laws.proofs.lemmas.lock_fields.Statics.{load_static_lock, address_static_lock, store_static_lock}

null_asked : IsTrue (is_asked name.NullReferenceException)
unfolding is_asked
null_asked = refl

module _ (k : Change) (after before : Queries) (a : Agree k after before) where
  module _ (x : Accessed) (h : KeptAccessed k.keep before x) where
    -- ---- the place of a field

    instances_by : (n : ℕ) (o : Option Layout) → option_map (instance_path n (move_accessed k.rho x)) (option_map (move_layout k.rho) o) ≡ option_map (move_path k.rho) (option_map (instance_path n x) o)
    instances_by n None = refl
    instances_by n (Some l) = refl

    boxes_by : (n : ℕ) (o : Option StructCell) → option_map (box_path n) (option_map (move_struct_cell k.rho) o) ≡ option_map (move_path k.rho) (option_map (box_path n) o)
    boxes_by n None = refl
    boxes_by n (Some c) = refl

    object_field_moved : (n : ℕ) (o : Obj) → IsTrue (keeps_obj k.keep before o) → object_field after (move_accessed k.rho x) n (move_obj k before o) ≡ option_map (move_path k.rho) (object_field before x n o)
    object_field_moved n (object.Instance of cells) g =
        ap (option_map (instance_path n (move_accessed k.rho x))) (instance_layout_moved k after before a of (cell_for x) (made_kept k.keep of (first_so _ _ g)) h.id) ∙ instances_by n (layout_of (cell_for x) (before.cells of))
    object_field_moved n (object.Boxed of v) g =
        ap (option_map (box_path n)) (struct_cell_moved k after before a of (cell_for x) (made_kept k.keep of (first_so _ _ g))) ∙ boxes_by n (struct_cell before of (cell_for x))
    object_field_moved n (object.Array of cells) g = refl
    object_field_moved n (object.Str units) g = refl
    object_field_moved n (object.TypeOf e) g = refl
    object_field_moved n (object.Member i e) g = refl

    object_field_kept : (n : ℕ) (o : Obj) (p : Path) → IsTrue (keeps_obj k.keep before o) → object_field before x n o ≡ Some p → IsTrue (keeps_path k.keep p)
    object_field_kept n (object.Instance of cells) p g e =
        let m : Made (instance_path n x) (layout_of (cell_for x) (before.cells of)) p = made_is _ _ _ e in
        subst (λ (q : Path). IsTrue (keeps_path k.keep q)) m.is
        (and_from (k.keep.field x.id) (keeps_expr k.keep m.x.typ) h.id (instance_layout_kept k after before a of (cell_for x) m.x (made_kept k.keep of (first_so _ _ g)) h.id m.there))
    object_field_kept n (object.Boxed of v) p g e =
        let m : Made (box_path n) (struct_cell before of (cell_for x)) p = made_is _ _ _ e in
        subst (λ (q : Path). IsTrue (keeps_path k.keep q)) m.is (struct_cell_kept k after before a of (cell_for x) m.x (made_kept k.keep of (first_so _ _ g)) m.there)
    object_field_kept n (object.Array of cells) p g e = cc
    object_field_kept n (object.Str units) p g e = cc
    object_field_kept n (object.TypeOf t) p g e = cc
    object_field_kept n (object.Member i t) p g e = cc

    module _ (s : State) (c : Covered k.keep before s) where
      object_lock : (n : ℕ) (f g : Path → Next) → ((p : Path) → IsTrue (keeps_path k.keep p) → Lock k before (f (move_path k.rho p)) (g p))
          → Lock k before (field_of_object after (move_accessed k.rho x) n (move_state k before s) f) (field_of_object before x n s g)
      object_lock n f g l =
          given_moved k before (move_obj k before) (object_at s n) _ s _ _ (object_moved k after before a s n) (λ o is.
          let ho : IsTrue (keeps_obj k.keep before o) = object_kept k after before a s c n o is in
          required_lock k before _ (is_a before x.owner (Some o)) s _ _ (is_a_moved k after before a x.owner h.owner (Some o) (λ y e. some_is (λ z. IsTrue (keeps_obj k.keep before z)) o y e ho)) (λ b.
          had_moved k before (move_path k.rho) (object_field before x n o) _ s f g (object_field_moved n o ho) (λ p e. l p (object_field_kept n o p ho e))))

      pointer_lock : (p : Path) (f g : Path → Next) → IsTrue (keeps_path k.keep p) → ((q : Path) → IsTrue (keeps_path k.keep q) → Lock k before (f (move_path k.rho q)) (g q))
          → Lock k before (field_of_pointer after (move_accessed k.rho x) (move_path k.rho p) (move_state k before s) f) (field_of_pointer before x p s g)
      pointer_lock p f g hp l =
          alive_lock k before p s _ _ (required_lock k before _ (same_expr p.of x.owner) s _ _ (same_exprs_moved k.back k.rho k.undone p.of x.owner) (λ b.
          had_moved k before (move_struct_cell k.rho) (struct_cell before x.owner (cell_for x)) _ s (λ d. f (into_struct (move_path k.rho p) d)) (λ d. g (into_struct p d)) (struct_cell_moved k after before a x.owner (cell_for x) h.owner) (λ d e.
          l (into_struct p d) (and_from (keeps_root k.keep p.root) (keeps_expr k.keep d.typ) (first_so (keeps_root k.keep p.root) _ hp) (struct_cell_kept k after before a x.owner (cell_for x) d h.owner e)))))

      place_lock : (f g : Path → Next) → ((p : Path) → IsTrue (keeps_path k.keep p) → Lock k before (f (move_path k.rho p)) (g p)) → (v : Value) → IsTrue (keeps_value k.keep v)
          → Lock k before (field_place after (move_accessed k.rho x) (move_value k.rho v) (move_state k before s) f) (field_place before x v s g)
      unfolding field_place roll-Value denote.Hole.Carrier.roll out-Value denote.Hole.Carrier.out
      place_lock f g l =
          let out : Lock k before (stuck (move_state k before s)) (stuck s) = stuck_lock k before s in
          kept_cases k (λ w v. Lock k before (field_place after (move_accessed k.rho x) w (move_state k before s) f) (field_place before x v s g))
          (raise_lock k after before a name.NullReferenceException null_asked s c) (λ n. out) (λ n. out) (λ n. out) (λ n. object_lock n f g l) (λ p hp. pointer_lock p f g hp l)
          (λ e cells p q. out) (λ e p. out) (λ e p. out)

      module _ (here : Here) (i : Instruction) (stack : List Value) (hs : IsTrue (keeps_values k.keep stack)) where
        part_lock : (p : Parts) → KeptParts k.keep p
            → Lock k before (load_part after (move_here k.rho here) (move_instruction k.rho i) (move_accessed k.rho x) (move_values k.rho stack) (move_state k before s) (move_parts k.rho p)) (load_part before here i x stack s p)
        part_lock p hp =
            required_lock k before _ (same_expr p.of x.owner) s _ _ (same_exprs_moved k.back k.rho k.undone p.of x.owner) (λ b.
            had_moved k before (move_struct_cell k.rho) (struct_cell before x.owner (cell_for x)) _ s _ _ (struct_cell_moved k after before a x.owner (cell_for x) h.owner) (λ d e.
            had_moved k before (move_value k.rho) (slice_get p.cells d.number) _ s _ _ (slice_get-map (move_value k.rho) p.cells d.number) (λ v is.
            goes_lock k before here i (v ∷ stack) s c (all_push (keeps_value k.keep) v stack (all_at (keeps_value k.keep) p.cells d.number v hp.cells is) hs))))

        from_lock : (v : Value) → IsTrue (keeps_value k.keep v) → (o : Option Parts) → ((p : Parts) → o ≡ Some p → KeptParts k.keep p)
            → Lock k before (load_from after (move_here k.rho here) (move_instruction k.rho i) (move_accessed k.rho x) (move_value k.rho v) (move_values k.rho stack) (move_state k before s) (option_map (move_parts k.rho) o)) (load_from before here i x v stack s o)
        from_lock v hv (Some p) hp = part_lock p (hp p refl)
        from_lock v hv None hp =
            place_lock _ _ (λ p hp. at_place_lock k after before a p s _ _ c hp (λ w hw. goes_lock k before here i (w ∷ stack) s c (all_push (keeps_value k.keep) w stack hw hs))) v hv

        load_field_lock : (v : Value) → IsTrue (keeps_value k.keep v)
            → Lock k before (load_field after (move_here k.rho here) (move_instruction k.rho i) (move_accessed k.rho x) (move_value k.rho v) (move_values k.rho stack) (move_state k before s)) (load_field before here i x v stack s)
        load_field_lock v hv =
            subst (λ (o : Option Parts). Lock k before (load_from after (move_here k.rho here) (move_instruction k.rho i) (move_accessed k.rho x) (move_value k.rho v) (move_values k.rho stack) (move_state k before s) o) (load_from before here i x v stack s (parts_of v)))
            (sym (parts_moved k.rho v)) (from_lock v hv (parts_of v) (λ p e. parts_kept k.keep v p hv e))

        address_field_lock : (v : Value) → IsTrue (keeps_value k.keep v)
            → Lock k before (address_field after (move_here k.rho here) (move_instruction k.rho i) (move_accessed k.rho x) (move_value k.rho v) (move_values k.rho stack) (move_state k before s)) (address_field before here i x v stack s)
        address_field_lock v hv =
            place_lock (λ p. at_place after p (move_state k before s) (λ w. goes (move_here k.rho here) (move_instruction k.rho i) (value.Pointer p ∷ move_values k.rho stack) (move_state k before s)))
            (λ p. at_place before p s (λ w. goes here i (value.Pointer p ∷ stack) s)) (λ p hp.
            at_place_lock k after before a p s (λ w. goes (move_here k.rho here) (move_instruction k.rho i) (value.Pointer (move_path k.rho p) ∷ move_values k.rho stack) (move_state k before s)) (λ w. goes here i (value.Pointer p ∷ stack) s) c hp (λ w hw.
            push_lock k before here i (value.Pointer (move_path k.rho p)) (value.Pointer p) stack s (sym (move_pointer k.rho p)) c (keeps_pointer k.keep p ∙ hp) hs)) v hv

        store_field_lock : (r v : Value) → IsTrue (keeps_value k.keep r) → IsTrue (keeps_value k.keep v)
            → Lock k before (store_field after (move_here k.rho here) (move_instruction k.rho i) (move_accessed k.rho x) (move_value k.rho r) (move_value k.rho v) (move_values k.rho stack) (move_state k before s)) (store_field before here i x r v stack s)
        store_field_lock r v hr hv =
            place_lock _ _ (λ p hp. at_place_lock k after before a p s _ _ c hp (λ old ho.
            given_moved k before (move_value k.rho) (fits before p.of v) _ s _ _ (fits_moved k after before a p.of v (second_so (keeps_root k.keep p.root) _ hp)) (λ w is.
            put_at_lock k after before a p w s (goes (move_here k.rho here) (move_instruction k.rho i) (move_values k.rho stack)) (goes here i stack) c hp (fits_kept k after before a p.of v w hv is) (λ t ct. goes_lock k before here i stack t ct hs)))) r hr

    -- ---- by opcode

    module _ (here : Here) (i : Instruction) where
      access_lock : (s : State) → Covered k.keep before s
          → Lock k before (access after (move_here k.rho here) (move_instruction k.rho i) (move_accessed k.rho x) (move_state k before s)) (access before here i x s)
      access_lock s c =
          let st : IsTrue (keeps_values k.keep s.top.stack) = c.top.stack in
          if_lock k before _ (i.opcode == LDSFLD) _ _ _ _ refl (λ e. load_static_lock k after before a here i x h s.top.stack st s c) (λ e.
          if_lock k before _ (i.opcode == LDSFLDA) _ _ _ _ refl (λ e. address_static_lock k after before a here i x h s.top.stack st s c) (λ e.
          if_lock k before _ (i.opcode == STSFLD) _ _ _ _ refl (λ e. popped_lock k before s.top.stack s _ _ st (λ v stack hv hs. store_static_lock k after before a here i x h stack hs s c v hv)) (λ e.
          if_lock k before _ (i.opcode == LDFLD) _ _ _ _ refl (λ e. popped_lock k before s.top.stack s _ _ st (λ r stack hr hs.
          if_lock k before _ (is_static x) _ _ _ _ refl (λ y. load_static_lock k after before a here i x h stack hs s c) (λ y. load_field_lock s c here i stack hs r hr))) (λ e.
          if_lock k before _ (i.opcode == LDFLDA) _ _ _ _ refl (λ e. popped_lock k before s.top.stack s _ _ st (λ r stack hr hs.
          if_lock k before _ (is_static x) _ _ _ _ refl (λ y. address_static_lock k after before a here i x h stack hs s c) (λ y. address_field_lock s c here i stack hs r hr))) (λ e.
          if_lock k before _ (i.opcode == STFLD) _ _ _ _ refl (λ e. popped_lock k before s.top.stack s _ _ st (λ v below hv hb. popped_lock k before below s _ _ hb (λ r stack hr hs.
          if_lock k before _ (is_static x) _ _ _ _ refl (λ y. store_static_lock k after before a here i x h stack hs s c v hv) (λ y. store_field_lock s c here i stack hs r v hr hv)))) (λ e.
          stuck_lock k before s))))))

      accesses_lock : (s : State) → Covered k.keep before s → (is_static x ≡ true → Begins k.keep x.owner)
          → Lock k before (accesses after (move_here k.rho here) (move_instruction k.rho i) (move_state k before s) (move_accessed k.rho x)) (accesses before here i s x)
      accesses_lock s c b =
          required_lock k before _ (may_access i x) s _ _ refl (λ e.
          if_lock k before _ (is_static x) _ _ _ _ refl
          (λ y. started_lock k after before a x.owner h.owner s c (access after (move_here k.rho here) (move_instruction k.rho i) (move_accessed k.rho x)) (access before here i x) (access_lock s c) true (b y)) (λ y. access_lock s c))

  -- ---- the form

  module _ (here : Here) (r : KeptHere k.keep before here) (i : Instruction) (s : State) (c : Covered k.keep before s) where
    begins_by : (u : FieldUse) (o : Option FieldDef) (d : FieldDef) → o ≡ Some d → IsTrue (not (keeps.is_static o) || begins_expr k.keep u.owner) → has_flag d.flags STATIC ≡ true → IsTrue (begins_expr k.keep u.owner)
    begins_by u None d e h g = cc
    begins_by u (Some x) d e h g =
        let is : x ≡ d = cc in
        sym (ap (λ (b : Bool). not b || begins_expr k.keep u.owner) (ap (λ (y : FieldDef). has_flag y.flags STATIC) is ∙ g)) ∙ h

    begins_at : (u : FieldUse) (x : Accessed) → IsTrue (keeps_accessed k.keep before u) → AccessedOf k after before a here r s u x → is_static x ≡ true → Begins k.keep x.owner
    begins_at u x h is st =
        subst (Begins k.keep) is.owner (begins_closed k.keep here.targs here.margs u.owner
        (begins_by u (before.field u.field.0) x.field (ap before.field is.id ∙ is.kept.there) (second_so (k.keep.field u.field.0 && keeps_expr k.keep u.owner) _ h) st))

    known_is : (o : Known FieldUse) (u : FieldUse) → o ≡ Good u → IsTrue (if_good (keeps_accessed k.keep before) o) → IsTrue (keeps_accessed k.keep before u)
    known_is o u e h = ap (if_good (keeps_accessed k.keep before)) (sym e) ∙ h

    field_by : (u : Use) → IsTrue (keeps_operand k.keep before u)
        → Lock k before (elim (move_operand k.rho u) [ used.Field f ↦ closed_field after (move_here k.rho here) f (move_state k before s) (accesses after (move_here k.rho here) (move_instruction k.rho i) (move_state k before s)) | _ ↦ stuck (move_state k before s) ])
        (elim u [ used.Field f ↦ closed_field before here f s (accesses before here i s) | _ ↦ stuck s ])
    field_by (used.Field o) h =
        closed_field_lock k after before a here r s o _ _ (weaker (keeps_accessed k.keep before) (λ u. k.keep.field u.field.0 && keeps_expr k.keep u.owner) (λ u g. first_so (k.keep.field u.field.0 && keeps_expr k.keep u.owner) _ g) o h)
        (λ u x e is. accesses_lock x is.kept here i s c (λ st. begins_at u x (known_is o u e h) is st))
    field_by _ h = stuck_lock k before s

    pub field_form_lock : IsTrue (keeps_operand k.keep before i.operand) → Lock k before (field_form after (move_here k.rho here) (move_instruction k.rho i) (move_state k before s)) (field_form before here i s)
    unfolding field_form
    field_form_lock h = field_by i.operand h
