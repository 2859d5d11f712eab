-- Of a value type that is kept there can be values.
use Rattle.std.proofs.Common.{◌≡◌, ℕ, zero, suc, Bool, true, false, List, [], Option, Some, None, refl, sym, ap, subst}
use Rattle.std.specs.Prelude.{IsTrue, not, if◌then◌else◌}
use Rattle.std.specs.Option.{is_some}
use Rattle.il_base.specs.declared.ids.TypeId.{TypeId}
use Rattle.il_base.specs.declared.world_model.expr.TypeExpr.{TypeExpr, out-TypeExpr}
use Rattle.il_base.specs.declared.world_model.expr.TypeExpr.TheOpen.{TypeExpr-F}
use Rattle.il_base.specs.declared.world_model.record.AsmRec.{AsmRec}
use Rattle.il_base.specs.world_model.Worlds.{types_in}
use Rattle.rules.specs.declared.link_rules.row_at.RowAt.{RowAt}
use Rattle.rules.specs.link_rules.Members.{type_home}
use Rattle.rules.specs.link_rules.Cycles.{is_value_type}
use Rattle.run_laws.proofs.lemmas.query_laws.Ids.{has_number}
use Rattle.descriptor_file.specs.declared.root.Root.{Root}
use Rattle.rules.specs.mark_rules.Facts.{Fact}
use Rattle.il_base.specs.declared.cil_values.layout.Shape.{Shape}
use Rattle.il_base.specs.declared.cil_values.layout.Shape.TheVariants as shape
use Rattle.rules.specs.step_rules.Closing.{plain}
use Rattle.rules.specs.step_rules.Frames.{definition_in, definition_of}
use Rattle.rules.specs.step_rules.Stores.{is_value_shape, is_value}
use Rattle.rules.specs.view_rules.Layouts.{home_shape, shape_in, without_struct, most_nested, shape_within, shape_query}
use Rattle.rules.specs.view_rules.Answers.{queries_of}
use Rattle.rules.specs.change_rules.Change.{Keep}
use Rattle.rules.specs.change_rules.Keeps.{keeps_expr, parameter_passes, makes_expr}
use Rattle.run_laws.proofs.lemmas.lock_words.Types.{plain_stays}
use Rattle.run_laws.proofs.lemmas.lock_words.Definitions.{definition_kept}
use Rattle.run_laws.specs.marked_laws.Flags.{HasMarks, keep_of}
use Rattle.run_laws.proofs.lemmas.marked_laws.Flags.{made_absent}
use Rattle.run_laws.proofs.lemmas.marked_laws.Members.{value_made}

without : (s : Shape) → is_value_shape (without_struct s) ≡ true → is_value_shape s ≡ true
without shape.Reference h = h
without shape.Pointer h = h
without (shape.Integer n) h = h
without shape.TypeHandle h = refl
without shape.FieldHandle h = refl
without (shape.Structure cells) h = refl
without shape.NoValue h = refl

module _ (recs : List AsmRec) (entry : Option RowAt) (roots : List Root) (has : Fact → Bool) (m : HasMarks recs entry roots has) where
  abbrev k : Keep
  k = keep_of recs has

  row_made : (t : TypeId) (at : RowAt) (b : Bool) (other : Shape) → type_home recs t ≡ Some at → IsTrue (k.typ t.0) → is_value_type recs at ≡ b → is_value_shape (if not b then shape.Reference else other) ≡ true → IsTrue (k.made t.0)
  row_made t at false other is h v s = absurd (let f : false ≡ true = s in cc)
  row_made t at true other is h v s =
      let number = has_number types_in recs t.0 at is in
      subst (λ (n : ℕ). IsTrue (k.made n)) number (value_made recs entry roots has m at (subst (λ (n : ℕ). IsTrue (k.typ n)) (sym number) h) v)

  home_made : (below : TypeExpr → Shape) (args : List TypeExpr) (t : TypeId) (o : Option RowAt) → type_home recs t ≡ o → IsTrue (k.typ t.0) → is_value_shape (home_shape recs below args o) ≡ true → IsTrue (k.made t.0)
  home_made below args t None is h s = made_absent recs has t (ap (λ (o : Option RowAt). not (is_some o)) is)
  home_made below args t (Some at) is h s = row_made t at (is_value_type recs at) _ is h refl s

  in_made : (below : TypeExpr → Shape) (x : TypeExpr-F TypeExpr) → ((t : ℕ) → definition_in x ≡ Some t → IsTrue (k.typ t)) → is_value_shape (shape_in recs below x) ≡ true → IsTrue (parameter_passes k.made x)
  in_made below (TypeExpr-F.Prim n) f s = refl
  in_made below (TypeExpr-F.Def t) f s = home_made below [] t (type_home recs t) refl (f t.0 refl) s
  in_made below (TypeExpr-F.Inst t args) f s = home_made below args t (type_home recs t) refl (f t.0 refl) s
  in_made below (TypeExpr-F.Array x) f s = refl
  in_made below (TypeExpr-F.ByRef x) f s = refl
  in_made below (TypeExpr-F.Var n) f s = refl
  in_made below (TypeExpr-F.MVar n) f s = refl
  in_made below (TypeExpr-F.Mod required by x) f s = refl

  definitions : (e : TypeExpr) → IsTrue (keeps_expr k e) → (t : ℕ) → definition_in (out-TypeExpr (plain e)) ≡ Some t → IsTrue (k.typ t)
  unfolding definition_of
  definitions e h t is = definition_kept k (plain e) t ((plain_stays k e).kept h) is

  within_made : (n : ℕ) (e : TypeExpr) → IsTrue (keeps_expr k e) → is_value_shape (shape_within recs n e) ≡ true → IsTrue (makes_expr k e)
  unfolding shape_within makes_expr
  within_made zero e h s = in_made (λ d. shape.NoValue) (out-TypeExpr (plain e)) (definitions e h) (without (shape_in recs (λ d. shape.NoValue) (out-TypeExpr (plain e))) s)
  within_made (suc n) e h s = in_made (shape_within recs n) (out-TypeExpr (plain e)) (definitions e h) s

  pub values_made : (e : TypeExpr) → IsTrue (keeps_expr k e) → is_value (queries_of recs) e ≡ true → IsTrue (makes_expr k e)
  unfolding is_value queries_of shape_query
  values_made e h s = within_made most_nested e h s
