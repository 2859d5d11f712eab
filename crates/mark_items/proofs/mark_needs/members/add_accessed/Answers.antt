use Rattle.std.proofs.Common.{◌≡◌, [], ◌++◌, List, false, true, sym, ap, ◌∙◌}
use Rattle.std.specs.Prelude.{slice_get}
use Rattle.std.specs.List.{flat_map}
use Rattle.std.specs.Option.{option_map_or}
use Rattle.il_base.specs.declared.world_model.record.AsmRec.{AsmRec}
use Rattle.std.proofs.lemmas.List.{append-nil}
use Rattle.rules.specs.type_rules.Searches.{has_owner}
use Rattle.rules.specs.mark_rules.Facts.{Fact}
use Rattle.mark_parts.specs.mark_tables.Assemblies.{all_of, rec_of}
use Rattle.mark_items.specs.mark_needs.Accessors.{association_facts}
use Rattle.mark_items.proofs.lemmas.mark_needs.Accessing.{none_there, none_owned, accessed_grouped}
use Rattle.mark_items.proofs.mark_needs.members.add_accessed.Goals as goal

pub returns-in_default : goal.returns-in_default
returns-in_default c =
    sym (ap (λ (fs : List Fact). c.args.facts.now ++ fs) (none_there (all_of c.args.marker.now) c.args.at (sym c.in_default.ensures.there)) ∙ append-nil c.args.facts.now)

pub returns-then-not-owned : goal.returns-then-not-owned
returns-then-not-owned c =
    let asm = c.in-Some.asm in
    let no : has_owner (rec_of asm) c.args.at.row ≡ false = sym c.has_owner-owned.ensures ∙ c.if-not-owned.true in
    sym (ap (λ (fs : List Fact). c.args.facts.now ++ fs) (none_owned (all_of c.args.marker.now) c.args.at (rec_of asm) (sym c.in-Some.ensures.there) no) ∙ append-nil c.args.facts.now)

pub returns : goal.returns
returns c =
    let asm = c.in-Some.asm in
    let yes : has_owner (rec_of asm) c.args.at.row ≡ true = sym c.has_owner-owned.ensures ∙ c.if-not-owned.false in
    c.in_ok-mark_associations.ensures
    ∙ ap (λ (rs : List AsmRec). c.args.facts.now ++ flat_map (λ k. option_map_or (association_facts rs (rec_of asm) c.args.at.asm) (slice_get (rec_of asm).method_semantics k) []) c.rows_with-rows.result.now) c.as_slice-all.ensures
    ∙ ap (λ (fs : List Fact). c.args.facts.now ++ fs)
    (accessed_grouped (all_of c.args.marker.now) c.args.at (rec_of asm) (sym c.in-Some.ensures.there) asm.owners.now.accessors c.in-Some.ensures.is.is.owners.accessors yes c.in_ok-token.token c.in_ok-token.ensures c.rows_with-rows.result.now c.rows_with-rows.ensures)
