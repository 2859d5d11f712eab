use Rattle.std.proofs.Common.{sym, ◌∙◌}
use Rattle.il_base.proofs.lemmas.world_model.SameLayers.{same_inner}
use Rattle.il_base.proofs.world_model.expr.TypeExpr.+comparing.Goals as goal

pub is_same-returns-then-same_modifier : goal.is_same-returns-then-same_modifier
is_same-returns-then-same_modifier t c =
    rw (c.in-Mod.is, c.in-Mod-other.is, same_inner c.in-Mod.required c.in-Mod-other.asked c.in-Mod.by c.in-Mod-other.with c.in-Mod.inner c.in-Mod-other.of (sym c.same_modifier.ensures ∙ c.if-same_modifier.true), ← c.get-then-same_modifier.ensures, ← c.get-then-same_modifier-2.ensures)
    c.is_same-then-same_modifier.ensures
