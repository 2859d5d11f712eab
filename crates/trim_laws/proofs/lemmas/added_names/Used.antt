-- The modifiers of what the output of a merge writes: each name that only modifiers use (II.7.1.1) and that is met is one of them.
use Rattle.std.proofs.Common.{◌≡◌, ◌<◌, ℕ, zero, suc, List, [], ◌∷◌, ◌++◌, length, map, Bool, true, false, Option, Some, None, ◌⊎◌, inl, inr, refl, sym, ap, subst, ◌∙◌}
use Rattle.std.specs.Prelude.{slice_get}
use Rattle.std.specs.List.{flat_map}
use Rattle.il_base.specs.declared.ids.TypeId.{TypeId}
use Rattle.il_base.specs.declared.sig.Sig.{Sig}
use Rattle.il_base.specs.declared.sig.MethodSig.{MethodSig}
use Rattle.il_base.specs.declared.world_model.known.Known.{Known}
use Rattle.il_base.specs.declared.world_model.known.Known.TheVariants.{Good, Bad}
use Rattle.il_base.specs.declared.world_model.expr.MemberSig.TheVariants as member
use Rattle.il_base.specs.declared.world_model.types.TypeSpecRow.{TypeSpecRow}
use Rattle.il_base.specs.declared.world_model.members.FieldRow.{FieldRow}
use Rattle.il_base.specs.declared.world_model.members.MethodDefRow.{MethodDefRow}
use Rattle.il_base.specs.declared.world_model.members.MemberRefRow.{MemberRefRow}
use Rattle.il_base.specs.declared.world_model.members.MethodSpecRow.{MethodSpecRow}
use Rattle.il_base.specs.declared.world_model.members.PropertyRow.{PropertyRow}
use Rattle.il_base.specs.declared.world_model.members.StandAloneSigRow.{StandAloneSigRow}
use Rattle.il_base.specs.declared.world_model.record.AsmRec.{AsmRec}
use Rattle.il_base.specs.world_model.Worlds.{known_map}
use Rattle.rules.specs.link_rules.CoreNames.{modifiers, modifiers_of, method_modifiers, member_modifiers, in_good, all_modifiers}
use Rattle.base_laws.proofs.lemmas.type_laws.Within.{In, in_front, in_behind, flat_in}
use Rattle.rules.specs.merge_rules.Keys.{world_sig, world_method_sig}
use Rattle.rules.specs.merge_rules.Refs.{Output, types_of_sig, types_of_sigs, new_sig, new_method_sig, type_token}
use Rattle.trim_laws.proofs.lemmas.added_names.Modifiers.{is_listed, IsFine, type_used}

pub mapped : {A B : Type 0} (f : A → B) (x : A) (xs : List A) → In x xs → In (f x) (map f xs)
mapped f x [] h = absurd h
mapped f x (y ∷ xs) (inl e) = inl (ap f e)
mapped f x (y ∷ xs) (inr h) = inr (mapped f x xs h)

-- ---- one of seven tables

module _ (x : ℕ) (a b c d e f g : List ℕ) where
  abbrev Whole : Type 0
  Whole = In x (a ++ b ++ c ++ d ++ e ++ f ++ g)

  in_6 : In x (a ++ b ++ c ++ d ++ e ++ f) → Whole
  in_6 h = in_front x (a ++ b ++ c ++ d ++ e ++ f) g h

  in_5 : In x (a ++ b ++ c ++ d ++ e) → Whole
  in_5 h = in_6 (in_front x (a ++ b ++ c ++ d ++ e) f h)

  in_4 : In x (a ++ b ++ c ++ d) → Whole
  in_4 h = in_5 (in_front x (a ++ b ++ c ++ d) e h)

  in_3 : In x (a ++ b ++ c) → Whole
  in_3 h = in_4 (in_front x (a ++ b ++ c) d h)

  in_2 : In x (a ++ b) → Whole
  in_2 h = in_3 (in_front x (a ++ b) c h)

  of_first : In x a → Whole
  of_first h = in_2 (in_front x a b h)

  of_second : In x b → Whole
  of_second h = in_2 (in_behind x a b h)

  of_third : In x c → Whole
  of_third h = in_3 (in_behind x (a ++ b) c h)

  of_fourth : In x d → Whole
  of_fourth h = in_4 (in_behind x (a ++ b ++ c) d h)

  of_fifth : In x e → Whole
  of_fifth h = in_5 (in_behind x (a ++ b ++ c ++ d) e h)

  of_sixth : In x f → Whole
  of_sixth h = in_6 (in_behind x (a ++ b ++ c ++ d ++ e) f h)

  of_seventh : In x g → Whole
  of_seventh h = in_behind x (a ++ b ++ c ++ d ++ e ++ f) g h

module _ (left : AsmRec) (x : ℕ) where
  abbrev Uses : Type 0
  Uses = In x (all_modifiers left)

  abbrev fields : List ℕ
  fields = flat_map (λ (r : FieldRow). in_good modifiers r.signature) left.field

  abbrev methods : List ℕ
  methods = flat_map (λ (r : MethodDefRow). in_good method_modifiers r.signature) left.method_def

  abbrev members : List ℕ
  members = flat_map (λ (r : MemberRefRow). in_good member_modifiers r.signature) left.member_ref

  abbrev locals : List ℕ
  locals = flat_map (λ (r : StandAloneSigRow). in_good modifiers_of r.signature) left.stand_alone_sig

  abbrev properties : List ℕ
  properties = flat_map (λ (r : PropertyRow). in_good method_modifiers r.signature) left.property

  abbrev specs : List ℕ
  specs = flat_map (λ (r : TypeSpecRow). in_good modifiers r.signature) left.type_spec

  abbrev instances : List ℕ
  instances = flat_map (λ (r : MethodSpecRow). in_good modifiers_of r.instantiation) left.method_spec

  pub by_field : (r : FieldRow) → In r left.field → In x (in_good modifiers r.signature) → In x (all_modifiers left)
  unfolding all_modifiers
  by_field r h g = of_first x fields methods members locals properties specs instances (flat_in (λ (r : FieldRow). in_good modifiers r.signature) x r left.field h g)

  pub by_method : (r : MethodDefRow) → In r left.method_def → In x (in_good method_modifiers r.signature) → In x (all_modifiers left)
  unfolding all_modifiers
  by_method r h g = of_second x fields methods members locals properties specs instances (flat_in (λ (r : MethodDefRow). in_good method_modifiers r.signature) x r left.method_def h g)

  pub by_member : (r : MemberRefRow) → In r left.member_ref → In x (in_good member_modifiers r.signature) → In x (all_modifiers left)
  unfolding all_modifiers
  by_member r h g = of_third x fields methods members locals properties specs instances (flat_in (λ (r : MemberRefRow). in_good member_modifiers r.signature) x r left.member_ref h g)

  pub by_locals : (r : StandAloneSigRow) → In r left.stand_alone_sig → In x (in_good modifiers_of r.signature) → In x (all_modifiers left)
  unfolding all_modifiers
  by_locals r h g = of_fourth x fields methods members locals properties specs instances (flat_in (λ (r : StandAloneSigRow). in_good modifiers_of r.signature) x r left.stand_alone_sig h g)

  pub by_property : (r : PropertyRow) → In r left.property → In x (in_good method_modifiers r.signature) → In x (all_modifiers left)
  unfolding all_modifiers
  by_property r h g = of_fifth x fields methods members locals properties specs instances (flat_in (λ (r : PropertyRow). in_good method_modifiers r.signature) x r left.property h g)

  pub by_spec : (r : TypeSpecRow) → In r left.type_spec → In x (in_good modifiers r.signature) → In x (all_modifiers left)
  unfolding all_modifiers
  by_spec r h g = of_sixth x fields methods members locals properties specs instances (flat_in (λ (r : TypeSpecRow). in_good modifiers r.signature) x r left.type_spec h g)

  pub by_instance : (r : MethodSpecRow) → In r left.method_spec → In x (in_good modifiers_of r.instantiation) → In x (all_modifiers left)
  unfolding all_modifiers
  by_instance r h g = of_seventh x fields methods members locals properties specs instances (flat_in (λ (r : MethodSpecRow). in_good modifiers_of r.instantiation) x r left.method_spec h g)

-- ---- signatures that are written

module _ (recs : List AsmRec) (o : Output) (t : TypeId) where
  -- the type is listed, or its token is among these
  pub data IsUsed (ms : List ℕ) : Type 0 where
    is_known : is_listed recs (suc t.0) ≡ true → IsUsed ms
    is_modifier : In (type_token o t) ms → IsUsed ms

  pub more : (ms ns : List ℕ) → (In (type_token o t) ms → In (type_token o t) ns) → IsUsed ms → IsUsed ns
  more ms ns f (is_known l) = is_known l
  more ms ns f (is_modifier h) = is_modifier (f h)

  used_by : (ms : List ℕ) → (is_listed recs (suc t.0) ≡ true) ⊎ In (type_token o t) ms → IsUsed ms
  used_by ms (inl l) = is_known l
  used_by ms (inr h) = is_modifier h

  pub of_sig : (s : Sig) → IsFine recs s → In t (types_of_sig s) → IsUsed (modifiers (new_sig o s))
  of_sig s f h = used_by (modifiers (new_sig o s)) (type_used o recs s t f h)

  -- the signatures of a list
  pub in_sigs : (s : Sig) (ss : List Sig) → In s ss → In (type_token o t) (modifiers (new_sig o s)) → In (type_token o t) (modifiers_of (map (new_sig o) ss))
  unfolding modifiers_of
  in_sigs s ss h g = flat_in modifiers (type_token o t) (new_sig o s) (map (new_sig o) ss) (mapped (new_sig o) s ss h) g

  in_method_by : (s : Sig) (g : MethodSig) → (s ≡ g.ret) ⊎ In s g.params → In (type_token o t) (modifiers (new_sig o s)) → In (type_token o t) (method_modifiers (new_method_sig o g))
  in_method_by s g (inl e) h =
      in_front (type_token o t) (modifiers (new_sig o g.ret)) (modifiers_of (map (new_sig o) g.params)) (subst (λ (x : Sig). In (type_token o t) (modifiers (new_sig o x))) e h)
  in_method_by s g (inr i) h = in_behind (type_token o t) (modifiers (new_sig o g.ret)) (modifiers_of (map (new_sig o) g.params)) (in_sigs s g.params i h)

  pub in_method : (s : Sig) (g : MethodSig) → In s (g.ret ∷ g.params) → In (type_token o t) (modifiers (new_sig o s)) → In (type_token o t) (method_modifiers (new_method_sig o g))
  in_method s g h i = in_method_by s g h i

  -- a signature with a reading, as it is written
  pub good_sig : (f : Sig → Sig) (k : Known Sig) (s : Sig) → k ≡ Good s → In (type_token o t) (modifiers (f s)) → In (type_token o t) (in_good modifiers (known_map f k))
  good_sig f k s e h = subst (λ (x : Known Sig). In (type_token o t) (in_good modifiers (known_map f x))) (sym e) h

  pub good_method : (f : MethodSig → MethodSig) (k : Known MethodSig) (g : MethodSig) → k ≡ Good g → In (type_token o t) (method_modifiers (f g)) → In (type_token o t) (in_good method_modifiers (known_map f k))
  good_method f k g e h = subst (λ (x : Known MethodSig). In (type_token o t) (in_good method_modifiers (known_map f x))) (sym e) h
