-- What is left of inputs that link leads back to them, so it links.
use Rattle.std.proofs.Common.{◌≡◌, ◌<◌, ℕ, [], ◌∷◌, length, Bool, None, sym, ◌∙◌, arith}
use Rattle.std.specs.Prelude.{IsTrue}
use Rattle.il_base.specs.world_model.Worlds.{types_in}
use Rattle.rules.specs.declared.link_rules.row_at.RowAt.{RowAt}
use Rattle.rules.specs.link_rules.Faults.{same_type_key}
use Rattle.rules.specs.link_rules.Linked.{link_fault_of}
use Rattle.rules.specs.change_rules.Change.{Keep, Undone}
use Rattle.rules.specs.merged_world_rules.Merge.{Merge, IsMerge, before, after}
use Rattle.rules.specs.merged_world_rules.NewNumbers.{rho_of, back_of, places_of}
use Rattle.rules.specs.merged_world_rules.Kept.{HasFlags}
use Rattle.merge_laws.specs.merged_links.Cycles.{IsType, TypesLead, StandsFor}
use Rattle.merge_laws.specs.merged_links.Repeats.{KeysBack, type_keys}
use Rattle.merge_laws.proofs.lemmas.merged_links.Joined.{links_stay}
use Rattle.merge_laws.proofs.lemmas.merged_places.Worlds.{before_input}
use Rattle.merge_laws.proofs.lemmas.merged_places.Tables.{number_type, types_counted}
use Rattle.merge_laws.proofs.lemmas.merged_places.Whole.{undone_of}
use Rattle.trim_laws.specs.merged_back.Laws.{Reads}
use Rattle.trim_laws.proofs.lemmas.merged_back.Homes.{stands, stands_there, stays_stands, places_one, place_is}
use Rattle.trim_laws.proofs.lemmas.merged_back.Rows.{kept_row}
use Rattle.trim_laws.proofs.lemmas.merged_back.Graphs.{bases_lead, interfaces_lead}
use Rattle.trim_laws.proofs.lemmas.merged_back.FieldValues.{values_lead}
use Rattle.trim_laws.proofs.lemmas.merged_back.Members.{kept_stands}
use Rattle.trim_laws.proofs.lemmas.merged_back.MemberKinds.{fields_back, methods_back}

module _ (m : Merge) (is : IsMerge m) (k : Keep) (kept : RowAt → Bool) (flags : HasFlags m k kept) (reads : Reads m k) where
  undone : Undone (back_of m) (rho_of m)
  undone = undone_of m

  is_type : (x : RowAt) → IsTrue (stands m k x) → IsType (before m) x
  is_type x h = let t = stands_there m k x h in record { rec = t.rec; here = t.here; below = t.below }

  leads : TypesLead (after m) (before m) (places_of m).typ (stands m k)
  leads = record {
    one = places_one m is k kept flags;
    bases = bases_lead m is k kept flags undone reads.tokens reads.bases;
    interfaces = interfaces_lead m is k kept flags undone reads.tokens reads.interfaces;
    values = values_lead m is k kept flags undone reads.tokens reads.bases reads.fields;
    there = is_type;
  }

  each : (j : ℕ) → j < length m.left.type_def → StandsFor m.inputs (places_of m).typ (stands m k) j
  each j lt =
      let counted = types_counted m is in
      let o = kept_row types_in (before m) number_type m.kept j (omega (arith, lt, counted)) in
      let earlier = o.earlier in
      record {
        at = o.at;
        is_kept = stays_stands m is k kept flags o.at o.there ((λ l. o.keeps_it), (λ last. absurd (omega (arith, earlier, last))));
        rec = o.there.rec;
        there = sym (before_input m o.at.asm o.earlier) ∙ o.there.here;
        below = o.there.below;
        stands = place_is m is k kept flags o.at ∙ kept_stands m is k kept flags j o;
      }

  pub links : KeysBack same_type_key type_keys (type_keys 0 m.left) m.inputs → link_fault_of (m.left ∷ []) ≡ None
  links types =
      links_stay m.internal m.inputs m.kept m.left (places_of m).typ (stands m k) is.restricts is.some is.links is.records is.few
      (record { lead = leads; each = each; types = types; fields = fields_back m is k kept flags undone reads.fields; methods = methods_back m is k kept flags undone reads.methods })
