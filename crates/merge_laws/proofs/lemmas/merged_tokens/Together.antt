-- All columns together.
use Rattle.merge_laws.specs.merged_tokens.Laws.{InterfacesNamed, EventsNamed, ConstraintsNamed, BodiesNamed, DeclarationsNamed, MethodsNamed, ConstructorsNamed, NamesFollow}

pub names_follow : InterfacesNamed → EventsNamed → ConstraintsNamed → BodiesNamed → DeclarationsNamed → MethodsNamed → ConstructorsNamed → NamesFollow
names_follow interfaces events constraints bodies declarations methods constructors internal recs entry roots kept left e records marks keeps good refs fit parents =
    record {
      interfaces = interfaces internal recs entry roots kept left e records marks keeps good refs fit;
      parents = parents;
      constructors = constructors internal recs entry roots kept left e records marks keeps good refs fit;
      events = events internal recs entry roots kept left e records marks keeps good refs fit;
      bodies = bodies internal recs kept left e records refs fit;
      declarations = declarations internal recs entry roots kept left e records marks keeps good refs fit;
      methods = methods internal recs entry roots kept left e records marks keeps good refs fit;
      constraints = constraints internal recs entry roots kept left e records marks keeps good refs fit;
    }
