-- The keys of types and members, as lists of numbers: two are the same where their lists are.
use Rattle.std.specs.Prelude.{ℕ, List, [], ◌∷◌, ◌++◌, length, Bool, true, false}
use Rattle.std.specs.List.{flat_map}
use Rattle.il_base.specs.declared.world_model.expr.TypeExpr.{TypeExpr, fold-TypeExpr}
use Rattle.il_base.specs.declared.world_model.expr.TypeExpr.TheOpen.{TypeExpr-F}
use Rattle.rules.specs.declared.link_rules.member_type.MethodType.{MethodType}
use Rattle.rules.specs.link_rules.Cycles.{listed}
use Rattle.rules.specs.link_rules.Faults.{TypeKey, MemberKey}

abbrev pub bit : Bool → ℕ
bit true = 1
bit false = 0

-- one level of a type: a number for its kind, its own numbers with a count of arguments, and the lists of the types that it holds
abbrev pub code_layer : TypeExpr-F (List ℕ) → List ℕ
code_layer (TypeExpr-F.Prim n) = 0 ∷ n ∷ []
code_layer (TypeExpr-F.Def t) = 1 ∷ t.0 ∷ []
code_layer (TypeExpr-F.Inst t args) = 2 ∷ t.0 ∷ length args ∷ flat_map (λ code. code) args
code_layer (TypeExpr-F.Array x) = 3 ∷ x
code_layer (TypeExpr-F.ByRef x) = 4 ∷ x
code_layer (TypeExpr-F.Var n) = 5 ∷ n ∷ []
code_layer (TypeExpr-F.MVar n) = 6 ∷ n ∷ []
code_layer (TypeExpr-F.Mod required by x) = 7 ∷ bit required ∷ by.0 ∷ x

unfoldable pub type_code : TypeExpr → List ℕ
type_code = fold-TypeExpr (List ℕ) code_layer

unfoldable pub method_code : MethodType → List ℕ
method_code m = bit m.this ∷ m.generic ∷ length m.params ∷ type_code m.ret ++ flat_map type_code m.params

-- a text with its length before it, and what follows
abbrev pub with_text : List ℕ → List ℕ → List ℕ
with_text text rest = length text ∷ text ++ rest

unfoldable pub member_code : {A : Type 0} → (A → List ℕ) → MemberKey A → List ℕ
member_code code key = key.owner ∷ with_text key.name (code key.signature)

unfoldable pub type_key_code : TypeKey → List ℕ
type_key_code key = with_text key.namespace (with_text key.name (listed key.encloser))
