use Rattle.std.proofs.Common.{◌≡◌, ◌-◌, ℕ, List, length, map}
use Rattle.il_base.specs.declared.world_model.record.AsmRec.{AsmRec}
use Rattle.rules.specs.link_rules.Types.{ref_type, ref_at}
use Rattle.resolver.specs.type_links.References.{come_down}
use Rattle.resolver.proofs.type_links.references.way_from.Given as goal

abbrev pub invariant-loop : goal.invariant-loop
invariant-loop l =
    (all : List AsmRec) (a : ℕ)
    → ref_at all a l.rec l.k ≡ come_down all (map (λ row. row.now) l.nested.items) (ref_type all a l.rec (length l.rec.type_ref - l.counter) l.at)
