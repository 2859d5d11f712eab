use Rattle.std.proofs.Common.{◌≡◌, ℕ, List, refl, sym, ap, ◌∙◌}
use Rattle.std.specs.Prelude.{Some, slice_get}
use Rattle.attr_blobs.specs.declared.value.EnumSize.{EnumSize}
use Rattle.rules.specs.mark_rules.Attributes.{enums_from}
use Rattle.mark_parts.specs.mark_tables.Assemblies.{all_of}
use Rattle.attribute_values.proofs.reader.reader_of.Goals as goal

pub returns : goal.returns
returns c =
    let recs = all_of c.args.marker.now in
    let place = c.args.place in
    let here : slice_get c.args.tables.now.enums.items place ≡ Some c.in-Some.enums.now = ap (λ (xs : List (List EnumSize)). slice_get xs place) (sym c.as_slice.ensures.value) ∙ sym c.in-Some.ensures in
    record {
      is = record {
        site = record { marker = c.requires.marker; index = c.requires.tables.index; all = c.requires.tables.all; asm = c.requires.asm.is; recs = c.requires.asm.recs };
        names = c.requires.tables.names;
        enums = c.requires.tables.enums place c.in-Some.enums.now here ∙ ap (λ (n : ℕ). enums_from recs n) (sym c.requires.asm.place);
      };
      marker = refl;
      asm = refl;
    }
