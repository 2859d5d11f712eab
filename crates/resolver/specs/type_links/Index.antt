-- Look-ups in the index of assemblies.
use Rattle.std.specs.Prelude.{◌≡◌, ℕ, List, Option, Some, slice_get}
use Rattle.std.specs.List.{AllZip}
use Rattle.std.specs.HashMap.{get}
use Rattle.std.specs.Option.{option_and_then}
use Rattle.il_base.specs.declared.world_model.record.AsmRec.{AsmRec}
use Rattle.rules.specs.link_rules.Types as types
use Rattle.resolver.specs.declared.type_links.names.TypeName.{TypeName}
use Rattle.resolver.specs.declared.type_links.index.AsmIndex.{AsmIndex}
use Rattle.resolver.specs.declared.type_links.index.TypeIndex.{TypeIndex}
use Rattle.resolver.specs.type_links.Nesting.{AreEnclosers}
use Rattle.resolver.specs.type_links.Names.{same_type_name, same_key, AreTypeRows}
use Rattle.resolver.specs.type_links.Forwarding.{inner, AreForwarders}
use Rattle.resolver.specs.type_links.Scopes.{assemblies_of}

-- ---- in one assembly

abbrev pub type_by : AsmIndex → Option ℕ → TypeName → Option ℕ
type_by x around name = get same_key x.types (record { around = around; name = name })

abbrev pub forwarder_by : AsmIndex → TypeName → Option ℕ
forwarder_by x name = inner (get same_type_name x.forwarders name)

abbrev pub assembly_by : AsmIndex → ℕ → Option ℕ
assembly_by x k = inner (slice_get x.assemblies.items k)

-- the index of an assembly gives what its record has
pub record IsIndexOf (all : List AsmRec) (rec : AsmRec) (x : AsmIndex) : Type 0 where
  pub types : AreTypeRows rec x.types
  pub enclosers : AreEnclosers rec x.enclosers
  pub forwarders : AreForwarders rec x.forwarders
  pub assemblies : x.assemblies.items ≡ assemblies_of all rec

-- ---- in all

abbrev pub IsIndex : TypeIndex → Type 0
IsIndex index = AllZip (IsIndexOf index.all.now) index.all.now index.asms

-- `x` is the index of the assembly in this place
pub record IsAsm (all : List AsmRec) (a : ℕ) (x : AsmIndex) : Type 0 where
  pub rec : AsmRec
  pub stands : slice_get all a ≡ Some rec
  pub says : IsIndexOf all rec x

-- the type in an assembly with this encloser and this name
abbrev pub type_at : List AsmRec → ℕ → Option ℕ → TypeName → Option ℕ
type_at all a around name = option_and_then (λ (rec : AsmRec). types.type_in rec around name.namespace.now name.name.now) (slice_get all a)

abbrev pub encloser_at : List AsmRec → ℕ → ℕ → Option ℕ
encloser_at all a k = option_and_then (λ (rec : AsmRec). types.encloser rec k) (slice_get all a)

-- the assembly to which an assembly forwards the type of this name
abbrev pub forwarded_at : List AsmRec → ℕ → TypeName → Option ℕ
forwarded_at all a name = option_and_then (λ (rec : AsmRec). types.forwarded_to all rec name.namespace.now name.name.now) (slice_get all a)

-- the assembly that an AssemblyRef row of an assembly names
abbrev pub assembly_at : List AsmRec → ℕ → ℕ → Option ℕ
assembly_at all a k = option_and_then (λ (rec : AsmRec). types.assembly_at all rec k) (slice_get all a)
