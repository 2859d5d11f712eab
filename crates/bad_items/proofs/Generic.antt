-- What a MethodDef or MemberRef token names, by links.
use Rattle.std.proofs.Common.{◌≡◌, ℕ, Bool, true, false, List, refl}
use Rattle.std.specs.Prelude.{◌==◌}
use Rattle.std.proofs.lemmas.Bool.{eqb-true}
use Rattle.il_base.specs.declared.table.TheConstants.{METHOD_SPEC}
use Rattle.il_base.specs.declared.world_model.known.Known.TheVariants.{Bad}
use Rattle.il_base.specs.declared.world_model.known.BadKind.TheVariants.{Unresolved}
use Rattle.il_base.specs.declared.world_model.record.AsmRec.{AsmRec}
use Rattle.il_base.specs.world_model.Tokens.{table_of}
use Rattle.rules.specs.link_rules.Members.{generic_method}
use Rattle.rules.specs.mark_rules.Naming.{method_named}

not_so : (n m : ℕ) (b : Bool) → (n == m) ≡ b → (n ≡ m → ⊥) → b ≡ false
not_so n m true e h = absurd (h (eqb-true n m e))
not_so n m false e h = refl

module _ (recs : List AsmRec) (a : ℕ) (rec : AsmRec) (token : ℕ) where
  pub of_spec : table_of token ≡ METHOD_SPEC → Bad Unresolved ≡ generic_method recs a rec token
  unfolding generic_method
  of_spec e = rw e refl

  by_test : (table_of token == METHOD_SPEC) ≡ false → method_named recs a rec token ≡ generic_method recs a rec token
  unfolding method_named
  by_test e = rw e refl

  pub of_others : (table_of token ≡ METHOD_SPEC → ⊥) → method_named recs a rec token ≡ generic_method recs a rec token
  of_others e = by_test (not_so (table_of token) METHOD_SPEC (table_of token == METHOD_SPEC) refl e)
