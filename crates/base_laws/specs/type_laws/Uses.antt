-- What the links of methods tell: what each MethodDef and MemberRef token names.
use Rattle.std.specs.Prelude.{◌≡◌, ℕ, Some, slice_get, ◌==◌, ◌||◌, Bool, IsTrue}
use Rattle.il_base.specs.declared.world_model.record.AsmRec.{AsmRec}
use Rattle.il_base.specs.declared.world_model.world.World.{World}
use Rattle.il_base.specs.declared.table.TheConstants.{METHOD_DEF, MEMBER_REF}
use Rattle.il_base.specs.world_model.Tokens.{table_of}
use Rattle.il_base.specs.world_model.Worlds.{known_or, method_at}
use Rattle.rules.specs.link_rules.Members.{generic_method}
use Rattle.rules.specs.link_rules.Linked.{IsWorld}

-- a MethodDef or MemberRef token
abbrev pub is_method_token : ℕ → Bool
is_method_token token = table_of token == METHOD_DEF || table_of token == MEMBER_REF

-- a token of a row that isn't there names nothing by either
abbrev pub TellsUses : World → Type 0
TellsUses w =
    (a : ℕ) (rec : AsmRec) → slice_get w.recs a ≡ Some rec → (token : ℕ) → IsTrue (is_method_token token)
    → known_or (method_at w a token) ≡ generic_method w.recs a rec token

-- what the law says of any world that a link gave
abbrev pub UsesTold : Type 0
UsesTold = (w : World) → IsWorld w → TellsUses w
