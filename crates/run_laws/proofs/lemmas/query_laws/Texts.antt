-- The text, the name and the namespace of a shown type stay.
use Rattle.std.proofs.Common.{◌≡◌, ℕ, Bool, true, false, List, [], ◌∷◌, ◌++◌, map, Option, Some, None, refl, sym, ap, subst, ◌∙◌}
use Rattle.std.specs.Prelude.{IsTrue, ◌&&◌, codes}
use Rattle.std.specs.List.{list_all}
use Rattle.std.specs.Option.{option_map}
use Rattle.std.specs.Cmp.{first_so, second_so}
use Rattle.il_base.specs.declared.ids.TypeId.{TypeId}
use Rattle.il_base.specs.declared.world_model.expr.TypeExpr.{TypeExpr, ind-TypeExpr, roll-TypeExpr, fold-roll-TypeExpr}
use Rattle.il_base.specs.declared.world_model.expr.TypeExpr.TheFolds.{map-TypeExpr}
use Rattle.il_base.specs.declared.world_model.expr.TypeExpr.TheOpen.{TypeExpr-F}
use Rattle.il_base.specs.declared.world_model.record.AsmRec.{AsmRec}
use Rattle.il_base.specs.world_model.Worlds.{prim_type}
use Rattle.rules.specs.declared.link_rules.row_at.RowAt.{RowAt}
use Rattle.rules.specs.link_rules.Members.{type_home}
use Rattle.rules.specs.type_rules.Texts.{name_at, definition_text, joined, modifier_text, text_layer, text}
use Rattle.rules.specs.type_rules.Labels.{label_at, space_at, definition_label, definition_space, label_layer, label, space_layer, space}
use Rattle.rules.specs.change_rules.Change.{Change}
use Rattle.rules.specs.change_rules.Moves.{move_type, move_expr, move_exprs}
use Rattle.rules.specs.change_rules.Keeps.{Names, both, names_layer, names_of, shows_expr}
use Rattle.base_laws.proofs.lemmas.change_laws.Exprs.{With, plain_parts, moved_in, move_rolled}
use Rattle.base_laws.proofs.lemmas.change_laws.Subst.{names_rolled}
use Rattle.rules.specs.world_change_rules.Places.{Places, type_numbered, type_number}
use Rattle.rules.specs.world_change_rules.Rows.{RowsMove}
use Rattle.rules.specs.world_change_rules.Kept.{KeepsRows}
use Rattle.il_base.specs.world_model.Worlds.{types_in}
use Rattle.run_laws.proofs.lemmas.query_laws.Ids.{has_number}

-- ---- the layers of a type

text_rolled : (recs : List AsmRec) (x : TypeExpr-F TypeExpr) → text recs (roll-TypeExpr x) ≡ text_layer recs (map-TypeExpr TypeExpr (List ℕ) (text recs) x)
unfolding text
text_rolled recs x = fold-roll-TypeExpr (List ℕ) (text_layer recs) x

label_rolled : (recs : List AsmRec) (x : TypeExpr-F TypeExpr) → label recs (roll-TypeExpr x) ≡ label_layer recs (map-TypeExpr TypeExpr (List ℕ) (label recs) x)
unfolding label
label_rolled recs x = fold-roll-TypeExpr (List ℕ) (label_layer recs) x

space_rolled : (recs : List AsmRec) (x : TypeExpr-F TypeExpr) → space recs (roll-TypeExpr x) ≡ space_layer recs (map-TypeExpr TypeExpr (List ℕ) (space recs) x)
unfolding space
space_rolled recs x = fold-roll-TypeExpr (List ℕ) (space_layer recs) x

-- ---- a name of a definition, by its row

abbrev named : (List AsmRec → RowAt → List ℕ) → List AsmRec → Option RowAt → List ℕ
named name recs None = []
named name recs (Some at) = name recs at

-- what a definition is called is the name of its row
record AreNames (name : List AsmRec → RowAt → List ℕ) (called : List AsmRec → Option TypeId → List ℕ) : Type 0 where
  nothing : (recs : List AsmRec) → called recs None ≡ []
  by_row : (recs : List AsmRec) (t : TypeId) (o : Option RowAt) → type_home recs t ≡ o → called recs (Some t) ≡ named name recs o

text_by : (recs : List AsmRec) (t : TypeId) (o : Option RowAt) → type_home recs t ≡ o → definition_text recs (Some t) ≡ named name_at recs o
unfolding definition_text
text_by recs t None e = rw (definition_text, e) refl
text_by recs t (Some at) e = rw (definition_text, e) refl

text_none : (recs : List AsmRec) → definition_text recs None ≡ []
unfolding definition_text
text_none recs = refl

label_by : (recs : List AsmRec) (t : TypeId) (o : Option RowAt) → type_home recs t ≡ o → definition_label recs (Some t) ≡ named label_at recs o
unfolding definition_label
label_by recs t None e = rw (definition_label, e) refl
label_by recs t (Some at) e = rw (definition_label, e) refl

label_none : (recs : List AsmRec) → definition_label recs None ≡ []
unfolding definition_label
label_none recs = refl

space_by : (recs : List AsmRec) (t : TypeId) (o : Option RowAt) → type_home recs t ≡ o → definition_space recs (Some t) ≡ named space_at recs o
unfolding definition_space
space_by recs t None e = rw (definition_space, e) refl
space_by recs t (Some at) e = rw (definition_space, e) refl

space_none : (recs : List AsmRec) → definition_space recs None ≡ []
unfolding definition_space
space_none recs = refl

are_texts : AreNames name_at definition_text
are_texts = record { nothing = text_none; by_row = text_by }

are_labels : AreNames label_at definition_label
are_labels = record { nothing = label_none; by_row = label_by }

are_spaces : AreNames space_at definition_space
are_spaces = record { nothing = space_none; by_row = space_by }

module _ (k : Change) (kept : RowAt → Bool) (p : Places) (after before : List AsmRec) (r : RowsMove k kept p after before) (keeps : KeepsRows k.keep kept before) where
  -- ---- a definition

  abbrev SameName : (List AsmRec → RowAt → List ℕ) → Type 0
  SameName name = (at : RowAt) → IsTrue (k.keep.shown (type_number before at)) → name after (p.typ at) ≡ name before at

  module _ (name : List AsmRec → RowAt → List ℕ) (called : List AsmRec → Option TypeId → List ℕ) (are : AreNames name called) (same : SameName name) where
    name_by : (o : Option RowAt) → ((at : RowAt) → o ≡ Some at → IsTrue (k.keep.shown (type_number before at))) → named name after (option_map p.typ o) ≡ named name before o
    name_by None h = refl
    name_by (Some at) h = same at (h at refl)

    shown_name : (t : TypeId) → IsTrue (k.keep.shown t.0) → called after (Some (move_type k.rho t)) ≡ called before (Some t)
    shown_name t h =
        are.by_row after (move_type k.rho t) _ (r.places.type_homes t.0 (keeps.shown t.0 h))
        ∙ name_by (type_home before (type_numbered t.0)) (λ at e. subst (λ (n : ℕ). IsTrue (k.keep.shown n)) (sym (has_number types_in before t.0 at e)) h)
        ∙ sym (are.by_row before t (type_home before (type_numbered t.0)) refl)

    prim_by : (o : Option TypeId) → ((t : TypeId) → o ≡ Some t → IsTrue (k.keep.shown t.0)) → called after (option_map (move_type k.rho) o) ≡ called before o
    prim_by None h = are.nothing after ∙ sym (are.nothing before)
    prim_by (Some t) h = shown_name t (h t refl)

    prim_name : (n : ℕ) → called after (prim_type after n) ≡ called before (prim_type before n)
    prim_name n = ap (called after) (r.core.prims n) ∙ prim_by (prim_type before n) (λ t e. keeps.shown_prims n t e)

  abbrev row_shown : (at : RowAt) → IsTrue (k.keep.shown (type_number before at)) → IsTrue (k.keep.typ (type_number before at))
  row_shown at h = keeps.shown (type_number before at) h

  pub shown_text : (t : TypeId) → IsTrue (k.keep.shown t.0) → definition_text after (Some (move_type k.rho t)) ≡ definition_text before (Some t)
  shown_text t h = shown_name name_at definition_text are_texts (λ at g. (r.types at (row_shown at g)).name g) t h

  prim_text : (n : ℕ) → definition_text after (prim_type after n) ≡ definition_text before (prim_type before n)
  prim_text n = prim_name name_at definition_text are_texts (λ at g. (r.types at (row_shown at g)).name g) n

  shown_label : (t : TypeId) → IsTrue (k.keep.shown t.0) → definition_label after (Some (move_type k.rho t)) ≡ definition_label before (Some t)
  shown_label t h = shown_name label_at definition_label are_labels (λ at g. (r.types at (row_shown at g)).label g) t h

  prim_label : (n : ℕ) → definition_label after (prim_type after n) ≡ definition_label before (prim_type before n)
  prim_label n = prim_name label_at definition_label are_labels (λ at g. (r.types at (row_shown at g)).label g) n

  shown_space : (t : TypeId) → IsTrue (k.keep.shown t.0) → definition_space after (Some (move_type k.rho t)) ≡ definition_space before (Some t)
  shown_space t h = shown_name space_at definition_space are_spaces (λ at g. (r.types at (row_shown at g)).space g) t h

  prim_space : (n : ℕ) → definition_space after (prim_type after n) ≡ definition_space before (prim_type before n)
  prim_space n = prim_name space_at definition_space are_spaces (λ at g. (r.types at (row_shown at g)).space g) n

  -- ---- a type, where each of its layers is the same

  module _ (whole : List AsmRec → TypeExpr → List ℕ) (layer : List AsmRec → TypeExpr-F (List ℕ) → List ℕ)
      (rolled : (recs : List AsmRec) (x : TypeExpr-F TypeExpr) → whole recs (roll-TypeExpr x) ≡ layer recs (map-TypeExpr TypeExpr (List ℕ) (whole recs) x)) where
    abbrev IsSame : TypeExpr → Type 0
    IsSame e = IsTrue (both (names_of k.keep e)) → whole after (move_expr k.rho e) ≡ whole before e

    abbrev SameLayer : Type 0
    SameLayer =
        (y : TypeExpr-F (With IsSame)) → IsTrue (both (names_layer k.keep (map-TypeExpr TypeExpr Names (names_of k.keep) (plain_parts IsSame y))))
        → layer after (map-TypeExpr TypeExpr (List ℕ) (whole after) (moved_in k.rho (plain_parts IsSame y))) ≡ layer before (map-TypeExpr TypeExpr (List ℕ) (whole before) (plain_parts IsSame y))

    same_rolled : SameLayer → (y : TypeExpr-F (With IsSame)) → IsSame (roll-TypeExpr (plain_parts IsSame y))
    same_rolled same y h =
        let x : TypeExpr-F TypeExpr = plain_parts IsSame y in
        ap (whole after) (move_rolled k.rho x) ∙ rolled after (moved_in k.rho x)
        ∙ same y (subst (λ (n : Names). IsTrue (both n)) (names_rolled k.keep x) h) ∙ sym (rolled before x)

    all_same : SameLayer → (e : TypeExpr) → IsTrue (shows_expr k.keep e) → whole after (move_expr k.rho e) ≡ whole before e
    all_same same = ind-TypeExpr IsSame (λ x y is. subst (λ z. IsSame (roll-TypeExpr z)) is (same_rolled same y))

  -- of an instance: shown, with arguments that are
  inst_shown : (t : TypeId) (a : Bool) → IsTrue ((k.keep.typ t.0 && a) && (k.keep.shown t.0 && a)) → IsTrue (k.keep.shown t.0)
  inst_shown t a h = first_so (k.keep.shown t.0) a (second_so (k.keep.typ t.0 && a) (k.keep.shown t.0 && a) h)

  inst_args : (t : TypeId) (a : Bool) → IsTrue ((k.keep.typ t.0 && a) && (k.keep.shown t.0 && a)) → IsTrue a
  inst_args t a h = second_so (k.keep.shown t.0) a (second_so (k.keep.typ t.0 && a) (k.keep.shown t.0 && a) h)

  mod_part : (by : TypeId) (n : Names) → IsTrue ((k.keep.typ by.0 && n.kept) && (k.keep.shown by.0 && n.shown)) → IsTrue (both n)
  mod_part by n h =
      and_so n.kept n.shown (second_so (k.keep.typ by.0) n.kept (first_so (k.keep.typ by.0 && n.kept) (k.keep.shown by.0 && n.shown) h))
      (second_so (k.keep.shown by.0) n.shown (second_so (k.keep.typ by.0 && n.kept) (k.keep.shown by.0 && n.shown) h))
    where
      and_so : (a b : Bool) → IsTrue a → IsTrue b → IsTrue (a && b)
      and_so true b g f = f
      and_so false b g f = absurd (cc)

  -- ---- a text

  abbrev TextSame : TypeExpr → Type 0
  TextSame e = IsSame text text_layer text_rolled e

  args_same : (xs : List (With TextSame)) → IsTrue (list_all both (map (names_of k.keep) (map (λ e. e.0) xs)))
      → map (text after) (move_exprs k.rho (map (λ e. e.0) xs)) ≡ map (text before) (map (λ e. e.0) xs)
  args_same [] h = refl
  args_same (x ∷ xs) h =
      let b : Bool = both (names_of k.keep x.0) in
      let rest : Bool = list_all both (map (names_of k.keep) (map (λ e. e.0) xs)) in
      λ i. x.1 (first_so b rest h) i ∷ args_same xs (second_so b rest h) i

  text_same : SameLayer text text_layer text_rolled
  text_same (TypeExpr-F.Prim n) h = prim_text n
  text_same (TypeExpr-F.Def t) h = shown_text t (second_so (k.keep.typ t.0) (k.keep.shown t.0) h)
  text_same (TypeExpr-F.Inst t xs) h =
      let a : Bool = list_all both (map (names_of k.keep) (map (λ e. e.0) xs)) in
      λ i. shown_text t (inst_shown t a h) i ++ codes "[" ++ joined (args_same xs (inst_args t a h) i) ++ codes "]"
  text_same (TypeExpr-F.Array x) h = ap (λ (s : List ℕ). s ++ codes "[]") (x.1 h)
  text_same (TypeExpr-F.ByRef x) h = ap (λ (s : List ℕ). s ++ codes "&") (x.1 h)
  text_same (TypeExpr-F.Var n) h = refl
  text_same (TypeExpr-F.MVar n) h = refl
  text_same (TypeExpr-F.Mod required by x) h =
      let n : Names = names_of k.keep x.0 in
      let shown : IsTrue (k.keep.shown by.0) = first_so (k.keep.shown by.0) n.shown (second_so (k.keep.typ by.0 && n.kept) (k.keep.shown by.0 && n.shown) h) in
      λ i. x.1 (mod_part by n h) i ++ modifier_text required ++ shown_text by shown i ++ codes ")"

  pub text_moved : (e : TypeExpr) → IsTrue (shows_expr k.keep e) → text after (move_expr k.rho e) ≡ text before e
  text_moved = all_same text text_layer text_rolled text_same

  -- ---- a name

  label_same : SameLayer label label_layer label_rolled
  label_same (TypeExpr-F.Prim n) h = prim_label n
  label_same (TypeExpr-F.Def t) h = shown_label t (second_so (k.keep.typ t.0) (k.keep.shown t.0) h)
  label_same (TypeExpr-F.Inst t xs) h = shown_label t (inst_shown t (list_all both (map (names_of k.keep) (map (λ e. e.0) xs))) h)
  label_same (TypeExpr-F.Array x) h = ap (λ (s : List ℕ). s ++ codes "[]") (x.1 h)
  label_same (TypeExpr-F.ByRef x) h = ap (λ (s : List ℕ). s ++ codes "&") (x.1 h)
  label_same (TypeExpr-F.Var n) h = refl
  label_same (TypeExpr-F.MVar n) h = refl
  label_same (TypeExpr-F.Mod required by x) h = x.1 (mod_part by (names_of k.keep x.0) h)

  pub label_moved : (e : TypeExpr) → IsTrue (shows_expr k.keep e) → label after (move_expr k.rho e) ≡ label before e
  label_moved = all_same label label_layer label_rolled label_same

  -- ---- a namespace

  space_same : SameLayer space space_layer space_rolled
  space_same (TypeExpr-F.Prim n) h = prim_space n
  space_same (TypeExpr-F.Def t) h = shown_space t (second_so (k.keep.typ t.0) (k.keep.shown t.0) h)
  space_same (TypeExpr-F.Inst t xs) h = shown_space t (inst_shown t (list_all both (map (names_of k.keep) (map (λ e. e.0) xs))) h)
  space_same (TypeExpr-F.Array x) h = x.1 h
  space_same (TypeExpr-F.ByRef x) h = x.1 h
  space_same (TypeExpr-F.Var n) h = refl
  space_same (TypeExpr-F.MVar n) h = refl
  space_same (TypeExpr-F.Mod required by x) h = x.1 (mod_part by (names_of k.keep x.0) h)

  pub space_moved : (e : TypeExpr) → IsTrue (shows_expr k.keep e) → space after (move_expr k.rho e) ≡ space before e
  space_moved = all_same space space_layer space_rolled space_same
