use Rattle.std.proofs.Common.{◌≡◌, ap, sym, ◌∙◌}
use Rattle.std.proofs.lemmas.Int.{to_z-of_z}
use Rattle.std.specs.Int.{w32}
use Rattle.machine_numbers.specs.cil_compare.Tests.{holds, order}
use Rattle.machine_numbers.proofs.lemmas.cil_compare.Comparing.{compares_by}
use Rattle.machine_numbers.proofs.cil_compare.test.compares32.Goals as goal

pub returns : goal.returns
returns c =
    let e : c.order32.result ≡ order w32 c.args.a c.args.b =
    rw (to_z-of_z w32 c.args.a c.ranges.a, to_z-of_z w32 c.args.b c.ranges.b) at c.order32.ensures in
    c.holds.ensures ∙ ap (holds c.args.t) e ∙ sym (compares_by c.args.t w32 c.args.a c.args.b)
