use Rattle.std.proofs.Common.{◌≡◌, ◌++◌, map, drop}
use Rattle.il_base.specs.declared.world_model.record.UserText.{UserText}
use Rattle.mark_parts.proofs.mark_tables.keys.text_tokens.Given as goal

abbrev pub invariant-loop-text : goal.invariant-loop-text
invariant-loop-text l = l.keys.items ++ map (λ (t : UserText). t.token) (drop l.text-index l.text-items) ≡ map (λ (t : UserText). t.token) l.text-items
