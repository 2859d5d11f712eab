-- The sites of a call of a method with a signature.
use Rattle.std.specs.Prelude.{ℕ, List, ◌++◌}
use Rattle.il_base.specs.declared.ids.MethodId.{MethodId}
use Rattle.rules.specs.declared.flow_rules.called.Called.{Called}
use Rattle.rules.specs.declared.site_rules.site.Site.{Site}
use Rattle.rules.specs.site_rules.Values.{Flowed}
use Rattle.rules.specs.site_rules.Bodies.{of_arguments, of_member}

abbrev pub called_sites : Flowed → ℕ → MethodId → Called → List Site
called_sites f offset m c = of_arguments f offset m c ++ of_member f offset m c
