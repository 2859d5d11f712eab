-- What the links of types tell in each of the assemblies.
use Rattle.std.proofs.Common.{◌≡◌, ℕ, ◌<◌, length, get_or, refl}
use Rattle.std.specs.List.{AllZip}
use Rattle.std.proofs.lemmas.Option.{slice_get_read}
use Rattle.rules.specs.link_rules.Laws.{AreTypeLinks, LinksTell}
use Rattle.type_tables.specs.declared.member_search.linked.Linked.{Linked}
use Rattle.type_tables.specs.declared.member_search.linked.Scope.{Scope}
use Rattle.type_tables.specs.member_search.Linked.{IsLinked, IsScope}
use Rattle.type_tables.specs.member_search.Names.{AreNames}

is_linked : LinksTell → (w : Linked) → AreTypeLinks w.all.now w.links.now → AllZip AreNames w.all.now w.names.now → IsLinked w
is_linked tell w are names = let told = tell w.all.now w.links.now are in record { tokens = told.0; signatures = told.1; methods = told.2; names = names }

pub is_scope : LinksTell → (s : Scope) (a : ℕ) → AreTypeLinks s.linked.all.now s.linked.links.now → AllZip AreNames s.linked.all.now s.linked.names.now → s.asm ≡ a
    → a < length s.linked.all.now → s.rec.now ≡ get_or s.linked.all.now a s.rec.now → IsScope s
is_scope tell s a are names at within is = record {
  linked = is_linked tell s.linked are names;
  here = rw at (slice_get_read s.linked.all.now (length s.linked.all.now) a s.rec.now refl within is);
}
