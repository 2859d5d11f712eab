use Rattle.std.proofs.Common.{List, ap, ◌∙◌}
use Rattle.il_base.specs.declared.world_model.record.AsmRec.{AsmRec}
use Rattle.rules.specs.mark_rules.Attributes.{names_of_assembly}
use Rattle.mark_parts.specs.mark_tables.Assemblies.{place_of, rec_of}
use Rattle.attribute_values.proofs.enum_names.enums.add_assembly.Goals as goal

pub add_types-requires : goal.add_types-requires
add_types-requires c =
    let asm = c.args.asm.now in
    record {
      marker = c.requires.marker;
      names = c.requires.names;
      asm = c.requires.asm;
      recs = c.requires.recs;
      own = c.as_slice.ensures ∙ c.in_ok-own.ensures ∙ ap (λ (recs : List AsmRec). names_of_assembly recs (place_of asm) (rec_of asm)) c.requires.recs;
    }
