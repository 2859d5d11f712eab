use Rattle.std.proofs.Common.{◌≡◌, drop}
use Rattle.std.specs.Prelude.{find}
use Rattle.rules.specs.flow_rules.Sources.{is_token_of}
use Rattle.value_flow.proofs.texts.text_at.Given as goal

abbrev pub invariant-loop-t : goal.invariant-loop-t
invariant-loop-t l = find (is_token_of l.token) (drop l.t-index l.rec.user) ≡ find (is_token_of l.token) l.rec.user
