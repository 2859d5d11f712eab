-- MethodImpl rows by the methods that are their bodies (II.22.27).
use Rattle.std.specs.Prelude.{ℕ, suc, List, [], ◌∷◌, map, Option, Some, None}
use Rattle.std.specs.List.{AllZip}
use Rattle.il_base.specs.declared.world_model.expr.MethodUse.{MethodUse}
use Rattle.il_base.specs.declared.world_model.members.MethodImplRow.{MethodImplRow}
use Rattle.il_base.specs.declared.world_model.record.AsmRec.{AsmRec}
use Rattle.type_tables.specs.declared.groups.Groups.{Groups}
use Rattle.type_tables.specs.Groups.{AreGroups}
use Rattle.type_tables.specs.Uses.{use_in}

-- the number of the method that a token names, 0 where it names none
abbrev pub number_of : Option MethodUse → ℕ
number_of None = 0
number_of (Some u) = u.method.0

abbrev pub body_numbers : List AsmRec → ℕ → AsmRec → List ℕ
body_numbers recs a rec = map (λ (r : MethodImplRow). number_of (use_in recs a r.body)) rec.method_impl

-- the numbers of the bodies of these assemblies' rows; the assemblies are numbered from a
abbrev pub numbers_from : List AsmRec → ℕ → List AsmRec → List (List ℕ)
numbers_from recs a [] = []
numbers_from recs a (rec ∷ rest) = body_numbers recs a rec ∷ numbers_from recs (suc a) rest

abbrev pub AreImplBodies : List AsmRec → List Groups → Type 0
AreImplBodies recs impls = AllZip AreGroups (numbers_from recs 0 recs) impls
