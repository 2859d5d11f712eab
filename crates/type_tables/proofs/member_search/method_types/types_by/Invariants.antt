use Rattle.std.proofs.Common.{◌≡◌, [], ◌++◌, map, drop}
use Rattle.il_base.specs.world_model.Worlds.{known_map, all_known, expr_by}
use Rattle.type_tables.proofs.member_search.method_types.types_by.Given as goal

abbrev pub invariant-loop-sig : goal.invariant-loop-sig
invariant-loop-sig l =
    known_map (λ types. l.types ++ types) (all_known (map (expr_by l.scope.linked.all.now l.scope.linked.links.now l.scope.asm l.targs []) (drop l.sig-index l.sigs)))
    ≡ all_known (map (expr_by l.scope.linked.all.now l.scope.linked.links.now l.scope.asm l.targs []) l.sigs)
