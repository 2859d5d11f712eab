-- The types that kinds and arguments name, by their outermost construct.
use Rattle.std.proofs.Common.{◌≡◌, ℕ, List, [], ◌∷◌, ◌++◌, map, refl, sym, ap, ◌∙◌}
use Rattle.std.specs.Prelude.{Option, Some, None}
use Rattle.std.specs.List.{flat_map}
use Rattle.std.proofs.lemmas.List.{append-nil}
use Rattle.il_base.specs.declared.ids.TypeId.{TypeId}
use Rattle.attr_blobs.specs.declared.kind.ParamKind.{ParamKind, fold-ParamKind, fold-roll-ParamKind}
use Rattle.attr_blobs.specs.declared.kind.ParamKind.TheOpen.{ParamKind-F}
use Rattle.attr_blobs.specs.declared.kind.ParamKind.TheVariants as k
use Rattle.attr_blobs.specs.declared.value.Arg.{Arg, fold-Arg, fold-roll-Arg}
use Rattle.attr_blobs.specs.declared.value.Arg.TheOpen.{Arg-F}
use Rattle.attr_blobs.specs.declared.value.Arg.TheVariants as a
use Rattle.il_base.specs.declared.world_model.record.AsmRec.{AsmRec}
use Rattle.rules.specs.link_rules.Cycles.{listed}
use Rattle.rules.specs.mark_rules.Attributes.{type_named, kind_types_layer, kind_types, arg_types_layer, arg_types}

module _ (recs : List AsmRec) (from : ℕ) where
  abbrev kind_layer : ParamKind-F (List TypeId) → List TypeId
  kind_layer = kind_types_layer recs from

  pub kind_prim : (b : ℕ) → kind_types recs from (k.Prim b) ≡ []
  kind_prim b = ap (fold-ParamKind (List TypeId) kind_layer) (sym (k.rolls-Prim b)) ∙ fold-roll-ParamKind (List TypeId) kind_layer (ParamKind-F.Prim b)

  pub kind_text : kind_types recs from k.Text ≡ []
  kind_text = ap (fold-ParamKind (List TypeId) kind_layer) (sym k.rolls-Text) ∙ fold-roll-ParamKind (List TypeId) kind_layer ParamKind-F.Text

  pub kind_typ : kind_types recs from k.Typ ≡ []
  kind_typ = ap (fold-ParamKind (List TypeId) kind_layer) (sym k.rolls-Typ) ∙ fold-roll-ParamKind (List TypeId) kind_layer ParamKind-F.Typ

  pub kind_boxed : kind_types recs from k.Boxed ≡ []
  kind_boxed = ap (fold-ParamKind (List TypeId) kind_layer) (sym k.rolls-Boxed) ∙ fold-roll-ParamKind (List TypeId) kind_layer ParamKind-F.Boxed

  pub kind_enum : (name : List ℕ) (size : ℕ) → kind_types recs from (k.Enum name size) ≡ type_named recs from name
  kind_enum name size = ap (fold-ParamKind (List TypeId) kind_layer) (sym (k.rolls-Enum name size)) ∙ fold-roll-ParamKind (List TypeId) kind_layer (ParamKind-F.Enum name size)

  pub kind_list : (kind : ParamKind) → kind_types recs from (k.List kind) ≡ kind_types recs from kind
  kind_list kind = ap (fold-ParamKind (List TypeId) kind_layer) (sym (k.rolls-List kind)) ∙ fold-roll-ParamKind (List TypeId) kind_layer (ParamKind-F.List kind)

  abbrev arg_layer : Arg-F (List TypeId) → List TypeId
  arg_layer = arg_types_layer recs from

  pub arg_number : (n : ℕ) → arg_types recs from (a.Number n) ≡ []
  unfolding arg_types
  arg_number n = ap (fold-Arg (List TypeId) arg_layer) (sym (a.rolls-Number n)) ∙ fold-roll-Arg (List TypeId) arg_layer (Arg-F.Number n)

  pub arg_text : (t : Option (List ℕ)) → arg_types recs from (a.Text t) ≡ []
  unfolding arg_types
  arg_text t = ap (fold-Arg (List TypeId) arg_layer) (sym (a.rolls-Text t)) ∙ fold-roll-Arg (List TypeId) arg_layer (Arg-F.Text t)

  pub arg_typ : (t : Option (List ℕ)) → arg_types recs from (a.Typ t) ≡ flat_map (type_named recs from) (listed t)
  unfolding arg_types
  arg_typ t = ap (fold-Arg (List TypeId) arg_layer) (sym (a.rolls-Typ t)) ∙ fold-roll-Arg (List TypeId) arg_layer (Arg-F.Typ t)

  pub arg_boxed : (kind : ParamKind) (value : Arg) → arg_types recs from (a.Boxed kind value) ≡ kind_types recs from kind ++ arg_types recs from value
  unfolding arg_types
  arg_boxed kind value = ap (fold-Arg (List TypeId) arg_layer) (sym (a.rolls-Boxed kind value)) ∙ fold-roll-Arg (List TypeId) arg_layer (Arg-F.Boxed kind value)

  of_each : (f : Arg → List TypeId) (xs : List Arg) → flat_map (λ y. y) (map f xs) ≡ flat_map f xs
  of_each f [] = refl
  of_each f (x ∷ xs) = ap (λ (ys : List TypeId). f x ++ ys) (of_each f xs)

  pub arg_null : arg_types recs from (a.List None) ≡ []
  unfolding arg_types
  arg_null = ap (fold-Arg (List TypeId) arg_layer) (sym (a.rolls-List None)) ∙ fold-roll-Arg (List TypeId) arg_layer (Arg-F.List None)

  pub arg_list : (xs : List Arg) → arg_types recs from (a.List (Some xs)) ≡ flat_map (arg_types recs from) xs
  unfolding arg_types
  arg_list xs =
      ap (fold-Arg (List TypeId) arg_layer) (sym (a.rolls-List (Some xs))) ∙ fold-roll-Arg (List TypeId) arg_layer (Arg-F.List (Some xs))
      ∙ append-nil (flat_map (λ y. y) (map (fold-Arg (List TypeId) arg_layer) xs)) ∙ of_each (fold-Arg (List TypeId) arg_layer) xs

-- one level of a kind or an argument at a time
pub ruleset kinds = (kind_prim, kind_text, kind_typ, kind_boxed, kind_enum, kind_list)

pub ruleset arguments = (arg_number, arg_text, arg_typ, arg_boxed, arg_null, arg_list)
