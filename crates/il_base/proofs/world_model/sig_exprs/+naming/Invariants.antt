use Rattle.std.proofs.Common.{◌≡◌, ◌++◌, map, drop}
use Rattle.il_base.specs.world_model.Worlds.{known_map, all_known, expr_by}
use Rattle.il_base.proofs.world_model.sig_exprs.+naming.Given as goal

abbrev pub invariant-types_of-loop-one : goal.invariant-types_of-loop-one
invariant-types_of-loop-one l =
    known_map (λ es. l.made ++ es) (all_known (map (expr_by l.at.recs.now l.at.links.now l.at.asm.0 l.at.targs.now l.at.margs.now) (drop l.one-index l.types)))
    ≡ all_known (map (expr_by l.at.recs.now l.at.links.now l.at.asm.0 l.at.targs.now l.at.margs.now) l.types)
