use Rattle.std.proofs.Common.{append_assoc}
use Rattle.rules.specs.link_rules.CoreNames.{all_modifiers}
use Rattle.resolver.proofs.core_names.modifiers.modifiers_in.Goals as goal

pub returns : goal.returns
unfolding all_modifiers
returns c =
    rw (c.in_ok-in_instances.ensures, c.in_ok-in_specs.ensures, c.in_ok-in_properties.ensures, c.in_ok-in_locals.ensures, c.in_ok-in_members.ensures, c.in_ok-in_methods.ensures, c.in_ok-in_fields.ensures, c.new-tokens.ensures.items, c.as_slice.ensures, c.as_slice-2.ensures, c.as_slice-3.ensures, c.as_slice-4.ensures, c.as_slice-5.ensures, c.as_slice-6.ensures, c.as_slice-7.ensures)
    (simp append_assoc)
