-- What is left of inputs that link links.
use Rattle.std.proofs.Common.{◌≡◌, List, [], ◌∷◌, Option, None, refl}
use Rattle.il_base.specs.declared.world_model.record.AsmRec.{AsmRec}
use Rattle.rules.specs.declared.link_rules.link_error.LinkError.{LinkError}
use Rattle.rules.specs.link_rules.Types.{or_else}
use Rattle.rules.specs.link_rules.Faults.{duplicate_assembly, cyclic_types, cyclic_nesting, duplicate_member, link_fault}
use Rattle.rules.specs.link_rules.Linked.{assemblies}
use Rattle.merge_laws.specs.merged_links.Joined.{LinksStay}
use Rattle.merge_laws.proofs.lemmas.merged_links.Nesting.{stay}
use Rattle.merge_laws.proofs.lemmas.merged_links.Cycles.{cycles_stay}
use Rattle.merge_laws.proofs.lemmas.merged_links.Repeats.{repeats_stay}

none_or : (o p : Option LinkError) → o ≡ None → p ≡ None → or_else o p ≡ None
none_or o p e f = rw (e, f) refl

pub links_stay : LinksStay
unfolding link_fault
links_stay internal inputs kept left place standing e some sound are fit back =
    let alone = stay internal inputs kept left e some sound are fit in
    let all : List AsmRec = assemblies (left ∷ []) in
    none_or (duplicate_assembly (left ∷ [])) (or_else (cyclic_types all (left ∷ [])) (or_else (cyclic_nesting (left ∷ [])) (duplicate_member all (left ∷ [])))) alone.0
    (none_or (cyclic_types all (left ∷ [])) (or_else (cyclic_nesting (left ∷ [])) (duplicate_member all (left ∷ []))) (cycles_stay inputs left place standing sound back.lead back.each)
    (none_or (cyclic_nesting (left ∷ [])) (duplicate_member all (left ∷ [])) alone.1 (repeats_stay inputs left sound back.types back.fields back.methods)))
