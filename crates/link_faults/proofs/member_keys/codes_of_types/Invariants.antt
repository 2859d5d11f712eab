use Rattle.std.proofs.Common.{◌≡◌, ◌++◌, drop, map}
use Rattle.std.specs.Option.{option_map}
use Rattle.std.specs.List.{flat_map}
use Rattle.il_base.specs.world_model.Worlds.{all_known, sig_expr, names_by}
use Rattle.link_faults.specs.Codes.{type_code}
use Rattle.link_faults.specs.Keys.{good, codes_of_types}
use Rattle.link_faults.proofs.member_keys.codes_of_types.Given as goal

abbrev pub invariant-loop-signature : goal.invariant-loop-signature
invariant-loop-signature l =
    option_map (λ types. l.code ++ flat_map type_code types) (good (all_known (map (sig_expr (names_by l.scope.all.now l.scope.links.now l.asm.0)) (drop l.signature-index l.types))))
    ≡ codes_of_types l.scope.all.now l.scope.links.now l.asm.0 l.types
