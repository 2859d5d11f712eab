use Rattle.std.proofs.Common.{◌≡◌, drop}
use Rattle.rules.specs.link_rules.Members.{home_from, fields_in}
use Rattle.reference_rows.proofs.own_members.fields.field_at.Given as goal

abbrev pub invariant-loop-a : goal.invariant-loop-a
invariant-loop-a l = home_from fields_in l.a (drop l.a l.recs) l.left ≡ home_from fields_in 0 l.recs l.fn.id.0
