-- A token that is neither MethodDef nor MemberRef names no method here.
use Rattle.std.proofs.Common.{◌≡◌, ℕ, Bool, true, false, List, Option, Some, None, refl}
use Rattle.std.specs.Prelude.{◌==◌}
use Rattle.std.specs.Option.{option_and_then}
use Rattle.std.proofs.lemmas.Bool.{eqb-true}
use Rattle.il_base.specs.declared.world_model.record.AsmRec.{AsmRec}
use Rattle.il_base.specs.world_model.Tokens.{table_of}
use Rattle.rules.specs.link_rules.Members.{generic_method}
use Rattle.rules.specs.type_rules.Dispatch.{good_use}

no_use : (recs : List AsmRec) (a : ℕ) (rec : AsmRec) (token : ℕ) → (table_of token == 0x06) ≡ false → (table_of token == 0x0a) ≡ false → good_use (generic_method recs a rec token) ≡ None
unfolding generic_method
no_use recs a rec token e f = rw (e, f) refl

not_so : (n m : ℕ) (b : Bool) → (n == m) ≡ b → (n ≡ m → ⊥) → b ≡ false
not_so n m true e h = absurd (h (eqb-true n m e))
not_so n m false e h = refl

pub other_token : (recs : List AsmRec) (a token : ℕ) → (table_of token ≡ 6 → ⊥) → (table_of token ≡ 10 → ⊥) → (o : Option AsmRec) → option_and_then (λ rec. good_use (generic_method recs a rec token)) o ≡ None
other_token recs a token e f None = refl
other_token recs a token e f (Some rec) = no_use recs a rec token (not_so (table_of token) 6 (table_of token == 6) refl e) (not_so (table_of token) 10 (table_of token == 10) refl f)
