use Rattle.std.proofs.Common.{◌≡◌, ◌++◌, take}
use Rattle.rules.specs.link_rules.CoreNames.{modifiers_of}
use Rattle.resolver.proofs.core_names.modifiers.+walking.Given as goal

abbrev pub invariant-in_types-loop-sig : goal.invariant-in_types-loop-sig
invariant-in_types-loop-sig l = l.tokens.items ≡ l.initial.tokens.items ++ modifiers_of (take l.sig-index l.sigs)
