-- New strings, and the one object of a text.
use Rattle.std.proofs.Common.{◌≡◌, ℕ, Bool, List, [], ◌∷◌, ◌++◌, length, Option, Some, None, refl, sym, ap, subst, ◌∙◌}
use Rattle.std.specs.Prelude.{nat_le, find}
use Rattle.std.specs.Option.{option_map}
use Rattle.il_base.specs.declared.world_model.known.Known.{Known}
use Rattle.il_base.specs.declared.world_model.known.Known.TheVariants.{Good, Bad}
use Rattle.il_base.specs.declared.cil_values.value.Value.TheVariants as value
use Rattle.il_base.specs.declared.cil_values.object.Obj.{Obj}
use Rattle.il_base.specs.declared.cil_values.object.Obj.TheVariants as object
use Rattle.il_base.specs.declared.cil_values.resolved.Instruction.{Instruction}
use Rattle.il_base.specs.declared.cil_values.resolved.Use.{Use}
use Rattle.il_base.specs.declared.cil_values.resolved.Use.TheVariants.{Text as text}
use Rattle.il_base.specs.declared.cil_values.state.State.{State}
use Rattle.rules.specs.step_rules.Queries.{Queries}
use Rattle.rules.specs.step_rules.Next.{Next}
use Rattle.rules.specs.step_rules.Words.{Here, stuck, known, goes, object_at}
use Rattle.rules.specs.step_rules.Objects.{text_limit, made_text, holds_text, text_object, with_text, interned}
use Rattle.rules.specs.step_rules.Texts.{load_string}
use Rattle.rules.specs.change_rules.Change.{Change}
use Rattle.rules.specs.change_rules.Answers.{move_here, move_operand, move_instruction}
use Rattle.rules.specs.change_rules.States.{move_obj, move_state}
use Rattle.rules.specs.change_rules.Covered.{Covered}
use Rattle.rules.specs.change_rules.Agree.{Agree}
use Rattle.rules.specs.change_rules.Lock.{Lock}
use Rattle.base_laws.proofs.lemmas.change_laws.Values.{move_object, keeps_object}
use Rattle.run_laws.proofs.lemmas.lock_words.Words.{stuck_lock, stopped_lock, within_lock, made_lock, pushes_lock}
use Rattle.run_laws.proofs.lemmas.lock_throwing.Objects.{object_moved}

module _ (k : Change) (after before : Queries) (a : Agree k after before) where
  pub made_text_lock : (units : List ℕ) (s : State) (f g : ℕ → State → Next) → Covered k.keep before s → ((n : ℕ) (t : State) → Covered k.keep before t → Lock k before (f n (move_state k before t)) (g n t))
      → Lock k before (made_text units (move_state k before s) f) (made_text units s g)
  unfolding made_text
  made_text_lock units s f g c l = within_lock k before _ (nat_le (length units) text_limit) s _ _ refl (λ e. made_lock k before (object.Str units) s f g c refl l)

  holds_moved : (units : List ℕ) (o : Option Obj) → holds_text units (option_map (move_obj k before) o) ≡ holds_text units o
  holds_moved units None = refl
  holds_moved units (Some (object.Instance of cells)) = refl
  holds_moved units (Some (object.Boxed of v)) = refl
  holds_moved units (Some (object.Array of cells)) = refl
  holds_moved units (Some (object.Str others)) = refl
  holds_moved units (Some (object.TypeOf e)) = refl
  holds_moved units (Some (object.Member i e)) = refl

  text_moved : (s : State) (units : List ℕ) → text_object (move_state k before s) units ≡ text_object s units
  unfolding text_object
  text_moved s units = ap (λ (p : ℕ → Bool). find p s.texts) (λ i n. (ap (holds_text units) (object_moved k after before a s n) ∙ holds_moved units (object_at s n)) i)

  with_text_lock : (units : List ℕ) (s : State) (f g : ℕ → State → Next) → Covered k.keep before s → ((n : ℕ) (t : State) → Covered k.keep before t → Lock k before (f n (move_state k before t)) (g n t))
      → (o : Option ℕ) → Lock k before (with_text units (move_state k before s) f o) (with_text units s g o)
  with_text_lock units s f g c l (Some n) = l n s c
  with_text_lock units s f g c l None =
      made_text_lock units s (λ n t. f n (record t { texts = t.texts ++ n ∷ [] })) (λ n t. g n (record t { texts = t.texts ++ n ∷ [] })) c
      (λ n t ct. l n (record t { texts = t.texts ++ n ∷ [] }) (record { heap = ct.heap; statics = ct.statics; inits = ct.inits; top = ct.top; below = ct.below }))

  pub interned_lock : (units : List ℕ) (s : State) (f g : ℕ → State → Next) → Covered k.keep before s → ((n : ℕ) (t : State) → Covered k.keep before t → Lock k before (f n (move_state k before t)) (g n t))
      → Lock k before (interned units (move_state k before s) f) (interned units s g)
  unfolding interned
  interned_lock units s f g c l =
      subst (λ (o : Option ℕ). Lock k before (with_text units (move_state k before s) f o) (with_text units s g (text_object s units))) (sym (text_moved s units)) (with_text_lock units s f g c l (text_object s units))

  -- ---- `ldstr`

  module _ (here : Here) (i : Instruction) (s : State) (c : Covered k.keep before s) where
    known_text : (o : Known (List ℕ))
        → Lock k before (known o (move_state k before s) (λ us. interned us (move_state k before s) (λ n t. goes (move_here k.rho here) (move_instruction k.rho i) (value.Object n ∷ t.top.stack) t)))
        (known o s (λ us. interned us s (λ n t. goes here i (value.Object n ∷ t.top.stack) t)))
    known_text (Good us) =
        interned_lock us s (λ n t. goes (move_here k.rho here) (move_instruction k.rho i) (value.Object n ∷ t.top.stack) t) (λ n t. goes here i (value.Object n ∷ t.top.stack) t) c
        (λ n t ct. pushes_lock k before here i (value.Object n) (value.Object n) t (sym (move_object k.rho n)) ct (keeps_object k.keep n))
    known_text (Bad why) = stopped_lock k before s

    string_by : (u : Use)
        → Lock k before (elim (move_operand k.rho u) [ text units ↦ known units (move_state k before s) (λ us. interned us (move_state k before s) (λ n t. goes (move_here k.rho here) (move_instruction k.rho i) (value.Object n ∷ t.top.stack) t)) | _ ↦ stuck (move_state k before s) ])
        (elim u [ text units ↦ known units s (λ us. interned us s (λ n t. goes here i (value.Object n ∷ t.top.stack) t)) | _ ↦ stuck s ])
    string_by (text units) = known_text units
    string_by _ = stuck_lock k before s

    pub load_string_lock : Lock k before (load_string after (move_here k.rho here) (move_instruction k.rho i) (move_state k before s)) (load_string before here i s)
    unfolding load_string
    load_string_lock = string_by i.operand
